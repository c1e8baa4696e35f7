use Rattle.std.proofs.Common.{List, Option, subst, sym}
use Rattle.std.specs.List.{All}
use Rattle.sn_mem.specs.declared.buffers.BufferPlace.{BufferPlace}
use Rattle.sn_mem.specs.Buffers.{live_places}
use Rattle.sn_foot.specs.Canonical.{Ends}
use Rattle.sn_stages.proofs.Places.{set_ends}
use Rattle.sn_stages.proofs.feet.set_buffer.Goals as goal

pub returns-clause-ends : goal.returns-clause-ends
returns-clause-ends c =
    subst (λ (bs : List (Option BufferPlace)). All Ends (live_places bs)) (sym c.set.ensures) (set_ends c.args.buffers.now c.args.number c.args.place c.requires.all c.requires.one)
