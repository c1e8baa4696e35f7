use Rattle.std.proofs.Common.{◌≡◌, ◌++◌, drop}
use Rattle.sn_buscmd.specs.Samples.{place_infos}
use Rattle.sn_buscmd.proofs.buffer_querying.push_infos.Given as goal

abbrev pub invariant-loop-number : goal.invariant-loop-number
invariant-loop-number l = l.answer ++ place_infos l.stage.rate l.stage.buffers (drop l.number-index l.numbers) ≡ l.fn.answer ++ place_infos l.stage.rate l.stage.buffers l.numbers
