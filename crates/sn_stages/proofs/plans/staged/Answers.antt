use Rattle.std.proofs.Common.{List, Option, subst, sym}
use Rattle.std.specs.List.{All}
use Rattle.sn_mem.specs.declared.buffers.BufferPlace.{BufferPlace}
use Rattle.sn_mem.specs.Buffers.{live_places}
use Rattle.sn_foot.specs.Canonical.{Ends}
use Rattle.sn_stages.proofs.Places.{none_end}
use Rattle.sn_stages.proofs.plans.staged.Goals as goal

pub plan-requires-clause-buffers : goal.plan-requires-clause-buffers
plan-requires-clause-buffers c = subst (λ (bs : List (Option BufferPlace)). All Ends (live_places bs)) (sym c.in_ok-stage.ensures.buffers) (none_end 1024)
