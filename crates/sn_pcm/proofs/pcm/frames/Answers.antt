use Rattle.std.proofs.Common.{rules, ◌≡◌, ◌<◌, ◌++◌, ◌/◌, length, pos, get_or, SFits, to_z, of_z, arith}
use Rattle.std.specs.Int.{w32}
use Rattle.std.proofs.lemmas.Int.{to_z-of_z}
use Rattle.sn_pcm.specs.Pcm.{sample_bytes}
use Rattle.sn_pcm.proofs.PcmLemmas.{pcm_none, pcm_step, room_step}
use Rattle.sn_pcm.proofs.pcm.frames.Goals as goal

pub loop-x-init : goal.loop-x-init
loop-x-init c = (pcm_none c.args.settings.now c.args.out.now.bytes, omega arith)

pub loop-x-preserved : goal.loop-x-preserved
loop-x-preserved c =
    let here : c.loop-x.x-index < length c.args.samples.now = omega arith in
    let fits : SFits w32 (get_or c.args.samples.now c.loop-x.x-index (pos 0)) = search rules in
    let same : to_z w32 (of_z w32 (get_or c.args.samples.now c.loop-x.x-index (pos 0))) ≡ get_or c.args.samples.now c.loop-x.x-index (pos 0) = to_z-of_z w32 (get_or c.args.samples.now c.loop-x.x-index (pos 0)) fits in
    let after : c.append_sample.new.out.bytes ≡ c.loop-x.out.bytes ++ sample_bytes c.args.settings.now (get_or c.args.samples.now c.loop-x.x-index (pos 0)) = cc in (
      pcm_step c.args.settings.now c.args.samples.now c.loop-x.x-index c.args.out.now.bytes c.loop-x.out.bytes c.append_sample.new.out.bytes here c.loop-x.invariant.0 after,
      room_step c.args.out.now.spare c.loop-x.out.spare c.append_sample.new.out.spare c.loop-x.x-index (c.args.settings.now.bits / 8) c.loop-x.invariant.1 c.append_sample.ensures.room,
    )
