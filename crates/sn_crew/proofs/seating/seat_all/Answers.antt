use Rattle.sn_table.specs.Answers.{main_view}
use Rattle.sn_table.proofs.Standing.{can_split_first}
use Rattle.sn_crew.proofs.seating.seat_all.Goals as goal

pub split-seat-requires-clause-may : goal.split-seat-requires-clause-may
split-seat-requires-clause-may g c = can_split_first (main_view c.args.main.now) (main_view c.loop-k.main) c.loop-k.k c.loop-k.k c.loop-k.invariant.stands c.loop-k.invariant.none_joined
