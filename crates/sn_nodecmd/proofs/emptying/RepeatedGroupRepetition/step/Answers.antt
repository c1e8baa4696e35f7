use Rattle.std.proofs.Common.{◌∙◌, sym, ap, Bool, w32, rules}
use mir.Val.{SFits}
use Rattle.std.specs.Prelude.{if◌then◌else◌}
use Rattle.std.proofs.lemmas.Int.{to_z-of_z}
use Rattle.sn_tree.specs.Trees.{children}
use Rattle.sn_tree.specs.Below.{synth_ids}
use Rattle.sn_world.specs.Emptying.{freed_each}
use Rattle.sn_world.specs.World.{Turn, turn_of}
use Rattle.sn_nodecmd.proofs.EmptyingLemmas.{group_refusal_in, freed_synths}
use Rattle.sn_nodecmd.proofs.emptying.RepeatedGroupRepetition.step.Goals as goal

pub returns-in-Some-clause-row : goal.returns-in-Some-clause-row
returns-in-Some-clause-row c =
    let fit : SFits w32 c.args.self.now.group = search rules in
    λ words. group_refusal_in c.args.stage.now words c.args.self.now.group ∙ sym (simp to_z-of_z at c.in-Some.ensures)

pub returns-then-self-clause-row : goal.returns-then-self-clause-row
returns-then-self-clause-row c =
    let fit : SFits w32 c.args.self.now.group = search rules in
    λ words. (
      group_refusal_in c.args.stage.now words c.args.self.now.group ∙ sym (simp to_z-of_z at c.in_default.ensures),
      ap (λ (b : Bool). let t : Turn = turn_of c.args.stage.now words c.args.replies.now in let u : Turn = if b then t else freed_each (synth_ids (children c.args.self.now.group t.world.nodes)) t in u) c.if-self.true,
    )

pub returns-clause-row : goal.returns-clause-row
returns-clause-row c =
    let fit : SFits w32 c.args.self.now.group = search rules in
    λ words. (
      group_refusal_in c.args.stage.now words c.args.self.now.group ∙ sym (simp to_z-of_z at c.in_default.ensures),
      ap (λ (b : Bool). let t : Turn = turn_of c.args.stage.now words c.args.replies.now in let u : Turn = if b then t else freed_each (synth_ids (children c.args.self.now.group t.world.nodes)) t in u) c.if-self.false
          ∙ freed_synths c.args.stage.now c.free_each.new.stage c.args.self.now.group c.deref.result.now c.args.replies.now c.free_each.new.replies words (c.deref.ensures.value ∙ (simp to_z-of_z at c.in_ok-synths.ensures.value)) (c.in_ok-free_each.ensures.row words),
    )
