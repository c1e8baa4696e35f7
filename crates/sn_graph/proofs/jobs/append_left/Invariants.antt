-- The buses among the first ones were put.
use Rattle.std.proofs.Common.{◌≡◌, ◌*◌, ◌&&◌, ◌++◌, ℕ, map}
use Rattle.std.specs.Prelude.{not}
use Rattle.std.specs.List.{filter}
use Rattle.sn_mem.specs.Blocks.{table}
use Rattle.sn_mem.specs.Layout.{audio_place}
use Rattle.sn_mem.specs.Words.{has}
use Rattle.sn_graph.specs.Voices.{is_moved}
use Rattle.sn_graph.proofs.jobs.append_left.Given as goal

abbrev pub invariant-loop-bus : goal.invariant-loop-bus
invariant-loop-bus l = l.extents.items ≡ l.fn.extents.items ++ map audio_place (filter (λ n. has l.voice.reach.mixes (65 * n) && not (is_moved l.voice.moves n)) (table (λ (n : ℕ). n) l.bus))
