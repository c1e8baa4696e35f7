use Rattle.std.proofs.Common.{◌≡◌, ◌∙◌, ◌++◌, ◌∷◌, [], ap, sym, subst, List, ℕ, Some, map, refl, w32, rules}
use Rattle.std.specs.Prelude.{FitsSigned}
use Rattle.std.proofs.lemmas.Int.{to_z-of_z}
use Rattle.sn_osc.specs.Shape.{MessageShape}
use Rattle.sn_mem.specs.Buses.{control_buses}
use Rattle.sn_def.specs.Definition.{Definition}
use Rattle.sn_def.specs.Defs.{definition_of}
use Rattle.sn_synth.specs.Conditions.{AreControlsOf}
use Rattle.sn_reply.specs.declared.replies.To.TheVariants.{Client}
use Rattle.sn_reply.specs.Replies.{ReplyShape}
use Rattle.sn_world.specs.declared.stage.Held.{Held}
use Rattle.sn_world.specs.Pictures.{IsHeld}
use Rattle.sn_world.specs.SynthQueries.{payload_at, values_message}
use Rattle.sn_nodecmd.specs.Runs.{name_of}
use Rattle.sn_nodecmd.specs.Getting.{request_of}
use Rattle.sn_nodecmd.proofs.GettingLemmas.{IsSynthWith, not_there, no_synth, told, payload-held}
use Rattle.sn_nodecmd.proofs.getting.answer.Goals as goal

pub returns-in_default-clause-row : goal.returns-in_default-clause-row
returns-in_default-clause-row g c =
    let fits : FitsSigned w32 c.args.asked.now.id = search rules in
    let same = to_z-of_z w32 c.args.asked.now.id fits in
    not_there c.args.from c.args.stage.now (g.P.Port.words c.args.port.now) c.args.replies.now (request_of c.args.asked.now)
    (c.in_default.ensures ∙ ap (λ n. payload_at n c.args.stage.now.tree.attached) same)

pub values_message-requires-clause-each : goal.values_message-requires-clause-each
values_message-requires-clause-each g c =
    let fits : FitsSigned w32 c.args.asked.now.id = search rules in
    let same = to_z-of_z w32 c.args.asked.now.id fits in
    let there : Some c.in-Some.held.now ≡ payload_at c.args.asked.now.id c.args.stage.now.tree.attached = c.in-Some.ensures ∙ ap (λ n. payload_at n c.args.stage.now.tree.attached) same in
    let is = payload-held c.args.stage.now.rate c.args.stage.now.pool.region c.args.asked.now.id c.args.stage.now.tree.attached c.in-Some.held.now c.requires.pictures.synths there in
    let synth = subst (λ (h : Held). IsHeld c.args.stage.now.rate c.args.stage.now.pool.region h) c.in-Synth.is is in
    subst (λ (d : Definition). AreControlsOf d c.in-Synth.controls) (ap definition_of (sym c.deref.ensures)) synth.each

pub returns-in_default-held-clause-row : goal.returns-in_default-held-clause-row
returns-in_default-held-clause-row g c =
    let fits : FitsSigned w32 c.args.asked.now.id = search rules in
    let same = to_z-of_z w32 c.args.asked.now.id fits in
    let there : Some c.in-Some.held.now ≡ payload_at c.args.asked.now.id c.args.stage.now.tree.attached = c.in-Some.ensures ∙ ap (λ n. payload_at n c.args.stage.now.tree.attached) same in
    no_synth c.args.from c.args.stage.now (g.P.Port.words c.args.port.now) c.args.replies.now (request_of c.args.asked.now) c.in-Some.held.now there
    c.in_default-held.not-Synth

pub returns-clause-row : goal.returns-clause-row
returns-clause-row g c =
    let fits : FitsSigned w32 c.args.asked.now.id = search rules in
    let same = to_z-of_z w32 c.args.asked.now.id fits in
    let words : List ℕ = g.P.Port.words c.args.port.now in
    let there : Some c.in-Some.held.now ≡ payload_at c.args.asked.now.id c.args.stage.now.tree.attached = c.in-Some.ensures ∙ ap (λ n. payload_at n c.args.stage.now.tree.attached) same in
    let d : Definition = definition_of c.deref.result.now in
    let is : IsSynthWith d c.in-Synth.controls c.in-Some.held.now = subst (IsSynthWith d c.in-Synth.controls) (sym c.in-Synth.is) (ap definition_of (sym c.deref.ensures), refl) in
    let message = c.in_ok-message.ensures.message
    ∙ (λ i. values_message (control_buses words) (same i) d c.in-Synth.controls (map name_of (c.deref-2.ensures.value i))) in
    told c.args.from c.args.stage.now words c.args.replies.now (request_of c.args.asked.now) c.in-Some.held.now d c.in-Synth.controls c.push.new.self (g.P.Port.words c.values_message.new.port) there is
    (c.in_ok-push.ensures.ok ∙ ap (λ (m : MessageShape). let r : ReplyShape = record { to = Client c.args.from; message = m } in c.args.replies.now ++ r ∷ []) message)
    c.values_message.ensures.words
