use Rattle.std.proofs.Common.{◌≡◌, subst, List, ℕ, ℤ, w32, rules}
use Rattle.std.specs.Prelude.{FitsSigned, OnOk}
use Rattle.std.proofs.lemmas.Int.{to_z-of_z}
use Rattle.sn_world.specs.declared.notices.NodeEvent.{NodeEvent}
use Rattle.sn_world.specs.Notices.{told}
use Rattle.sn_world.specs.World.{turn_of}
use Rattle.sn_nodecmd.proofs.turning.tell_turn.Goals as goal

pub returns-clause-told : goal.returns-clause-told
returns-clause-told c =
    let fits : FitsSigned w32 c.args.flag.now.id = search rules in
    subst (λ (e : NodeEvent). OnOk c.tell.result ((words : List ℕ) → turn_of c.args.stage.now words c.tell.new.replies ≡ told e c.args.flag.now.id (turn_of c.args.stage.now words c.args.replies.now))) c.turning.ensures
    (subst (λ (n : ℤ). OnOk c.tell.result ((words : List ℕ) → turn_of c.args.stage.now words c.tell.new.replies ≡ told c.turning.result n (turn_of c.args.stage.now words c.args.replies.now))) (to_z-of_z w32 c.args.flag.now.id fits) c.tell.ensures.told)
