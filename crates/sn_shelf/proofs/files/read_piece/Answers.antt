use Rattle.std.proofs.Common.{rules, ◌≡◌, ◌++◌, take}
use Rattle.sn_shelf.proofs.FileLemmas.{reads_more}
use Rattle.sn_shelf.proofs.files.read_piece.Goals as goal

pub returns-in_ok-append-in-Ok-clause-told : goal.returns-in_ok-append-in-Ok-clause-told
returns-in_ok-append-in-Ok-clause-told g c =
    let put : c.append.new.self.bytes ≡ c.args.bytes.now.bytes ++ take c.in-Ok.count c.read.new.into = search rules in
    reads_more (g.H.Shelf.files c.args.shelf.now) c.args.name.now.bytes c.args.bytes.now.bytes c.read.new.into c.append.new.self.bytes c.len.result c.in-Ok.count c.in-Ok.ensures.bytes c.len.ensures put
