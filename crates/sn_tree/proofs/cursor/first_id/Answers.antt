use Rattle.std.proofs.Common.{◌∙◌, ap, Some, w32, rules}
use Rattle.std.proofs.lemmas.Int.{to_z-of_z}
use Rattle.sn_tree.proofs.CursorLaws.{first_some, first_none}
use Rattle.sn_tree.proofs.cursor.first_id.Goals as goal

pub returns-in-Some : goal.returns-in-Some
returns-in-Some c = ap Some (to_z-of_z w32 _ (search rules)) ∙ first_some c.args.rest.now c.in-Some.row.key c.in-Some.row.item.now c.in-Some.ensures

pub returns-in-None : goal.returns-in-None
returns-in-None c = first_none c.args.rest.now c.in-None.ensures
