use Rattle.std.proofs.lemmas.Map.Text.{btree_map_updates_str}
use Rattle.std.proofs.Common.{Some}
use Rattle.sn_def.proofs.known.Known.add.Goals as goal

pub returns : goal.returns
returns c = λ q. btree_map_updates_str c.args.name.now c.args.self.now.map c.insert.new.self (Some c.args.input) c.in_ok-insert.ensures.updates q
