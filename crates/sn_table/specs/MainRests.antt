-- Main's place except for the memory words and the count of the stores.
use Rattle.std.specs.Prelude.{ℕ, []}
use Rattle.atomic_table.specs.declared.shared.Seat.{Seat as Place}
use Rattle.sn_machine.specs.declared.views.View.{View}
use Rattle.sn_machine.specs.declared.views.Phase.TheVariants.{Idle}
use Rattle.sn_machine.specs.States.{counts_in}
use Rattle.sn_table.specs.declared.seats.MainSeat.{MainSeat}
use Rattle.sn_table.specs.Answers.{main_view}

abbrev pub main_rest : MainSeat → Place ℕ View
main_rest seat = record seat.place { me = (record (main_view seat) { main = record (main_view seat).main { phase = Idle [] (counts_in (main_view seat).main.phase); stores = 0 } }, seat.place.me.1) }
