use Rattle.std.proofs.Common.{◌≡◌, length, ap, ◌∙◌, arith}
use Rattle.sn_world.specs.World.{World}
use Rattle.sn_engine.specs.Running.{Running, at_boundary}
use Rattle.sn_render.proofs.StepLemmas.{boundary_step}
use Rattle.sn_render.proofs.WritingLemmas.{sound_cut}
use Rattle.sn_render.proofs.rendering.render_end.Goals as goal

pub drain_replies-requires : goal.drain_replies-requires
drain_replies-requires g c =
    let alone : length c.drain_sound.new.self.running.replies ≡ 1 =
    ap (λ r. length r.replies) c.in-Ok.ensures.kept ∙ ap (λ r. length r.replies) c.in_ok-boundary.ensures.ok ∙ boundary_step.clients c.args.engine.now.running ∙ c.requires.alone in
    record { client = omega (arith, alone) }

pub returns-in-Err-clause-fronts : goal.returns-in-Err-clause-fronts
returns-in-Err-clause-fronts g c = sound_cut _ _ _ (at_boundary c.args.engine.now.running) _ c.in_ok-boundary.ensures.ok c.in-Err.ensures.taken

pub returns-in-Ok-drain_replies-clause-world : goal.returns-in-Ok-drain_replies-clause-world
returns-in-Ok-drain_replies-clause-world g c =
    let world : Running → World = λ r. r.world in
    ap world c.in-Ok-drain_replies.ensures.kept ∙ (ap world c.in-Ok.ensures.kept ∙ ap world c.in_ok-boundary.ensures.ok)
