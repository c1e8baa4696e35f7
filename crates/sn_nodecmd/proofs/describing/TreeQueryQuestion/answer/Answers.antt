use Rattle.std.proofs.Common.{◌≡◌, ◌∙◌, ◌++◌, ◌∷◌, [], ap, sym, List, w32, rules, true, false}
use Rattle.std.specs.Prelude.{FitsSigned}
use Rattle.std.proofs.lemmas.Int.{to_z-of_z}
use Rattle.sn_osc.specs.Shape.{MessageShape}
use Rattle.sn_reply.specs.declared.replies.To.TheVariants.{Client}
use Rattle.sn_reply.specs.Replies.{ReplyShape}
use Rattle.sn_tree.specs.Trees.{subtree}
use Rattle.sn_tree.specs.Members.{members}
use Rattle.sn_tree.specs.Faults.{is_synth}
use Rattle.sn_world.specs.World.{turn_of}
use Rattle.sn_nodecmd.specs.Describing.{tree_reply}
use Rattle.sn_nodecmd.proofs.DescribingLemmas.{missing, refused, accepted, few, answered}
use Rattle.sn_nodecmd.proofs.describing.TreeQueryQuestion.answer.Goals as goal

pub returns-in_default-clause-row : goal.returns-in_default-clause-row
returns-in_default-clause-row c =
    let fits : FitsSigned w32 c.args.self.now.group = search rules in
    let same = to_z-of_z w32 c.args.self.now.group fits in
    let left : [] ≡ c.members-members.result = search rules in
    λ words. missing c.args.stage.now words c.args.self.now (left ∙ c.members-members.ensures ∙ ap (λ n. members (subtree n c.args.stage.now.tree.attached)) same)

pub returns-then-is_synth-clause-row : goal.returns-then-is_synth-clause-row
returns-then-is_synth-clause-row c =
    let fits : FitsSigned w32 c.args.self.now.group = search rules in
    let same = to_z-of_z w32 c.args.self.now.group fits in
    let synth : is_synth c.in-Some.group.kind ≡ true = search rules in
    λ words. refused c.args.stage.now words c.args.self.now _ _ (sym (ap (λ n. members (subtree n c.args.stage.now.tree.attached)) same) ∙ sym c.members-members.ensures ∙ c.in-Some.ensures.steps) synth

pub tree_message-requires-clause-few : goal.tree_message-requires-clause-few
tree_message-requires-clause-few c =
    let fits : FitsSigned w32 c.args.self.now.group = search rules in
    let same = to_z-of_z w32 c.args.self.now.group fits in
    (few c.args.stage.now [] c.args.self.now _ _ (sym (ap (λ n. members (subtree n c.args.stage.now.tree.attached)) same) ∙ sym c.members-members.ensures ∙ c.in-Some.ensures.steps) c.are_few.ensures).children

pub tree_message-requires-clause-each : goal.tree_message-requires-clause-each
tree_message-requires-clause-each c =
    let fits : FitsSigned w32 c.args.self.now.group = search rules in
    let same = to_z-of_z w32 c.args.self.now.group fits in
    (few c.args.stage.now [] c.args.self.now _ _ (sym (ap (λ n. members (subtree n c.args.stage.now.tree.attached)) same) ∙ sym c.members-members.ensures ∙ c.in-Some.ensures.steps) c.are_few.ensures).each

pub tree_message-requires-clause-all : goal.tree_message-requires-clause-all
tree_message-requires-clause-all c =
    let fits : FitsSigned w32 c.args.self.now.group = search rules in
    let same = to_z-of_z w32 c.args.self.now.group fits in
    (few c.args.stage.now [] c.args.self.now _ _ (sym (ap (λ n. members (subtree n c.args.stage.now.tree.attached)) same) ∙ sym c.members-members.ensures ∙ c.in-Some.ensures.steps) c.are_few.ensures).all

pub returns-clause-row : goal.returns-clause-row
returns-clause-row c =
    let fits : FitsSigned w32 c.args.self.now.group = search rules in
    let same = to_z-of_z w32 c.args.self.now.group fits in
    let first = sym (ap (λ n. members (subtree n c.args.stage.now.tree.attached)) same) ∙ sym c.members-members.ensures ∙ c.in-Some.ensures.steps in
    let no_synth : is_synth c.in-Some.group.kind ≡ false = search rules in
    λ words. (
      accepted c.args.stage.now words c.args.self.now _ _ first no_synth,
      sym (ap (λ (rs : List ReplyShape). turn_of c.args.stage.now words rs)
          (c.in_ok-push.ensures.ok
          ∙ ap (λ (m : MessageShape). let r : ReplyShape = record { to = Client c.args.from; message = m } in c.args.replies.now ++ r ∷ [])
          (c.in_ok-message.ensures.message ∙ ap (λ n. tree_reply n c.in-Some.group.children c.next.new.self) same ∙ answered c.args.stage.now words c.args.self.now _ _ first))),
    )
