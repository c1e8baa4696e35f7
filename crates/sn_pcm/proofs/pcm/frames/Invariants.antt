use Rattle.std.proofs.Common.{◌≡◌, ◌≤◌, ◌+◌, ◌*◌, ◌/◌, ◌++◌, take}
use Rattle.sn_pcm.specs.Pcm.{pcm}
use Rattle.sn_pcm.proofs.pcm.frames.Given as goal

abbrev pub invariant-loop-x : goal.invariant-loop-x
invariant-loop-x l = (l.out.bytes ≡ l.initial.out.bytes ++ pcm l.settings (take l.x-index l.samples)) × (l.initial.out.spare ≤ l.out.spare + l.x-index * (l.settings.bits / 8))
