use Rattle.std.proofs.Common.{◌≡◌, ap, sym, subst, ◌∙◌, length, rules}
use Rattle.sn_machine.specs.States.{IsIdle, memory_in}
use Rattle.sn_mem.specs.Words.{everything, MayWrite}
use Rattle.sn_table.specs.declared.main_port.MainRest.{MainRest}
use Rattle.sn_table.specs.declared.seats.MainSeat.{MainSeat}
use Rattle.sn_table.specs.Answers.{main_view, IsMainOf}
use Rattle.sn_workers.proofs.Ports.{may_write}
use Rattle.sn_workers.proofs.plans.fill.Goals as goal

pub store_words-requires : goal.store_words-requires
store_words-requires c =
    let main = c.new-port.result.main.now in
    let long : length c.first_words-words.result ≡ 200 = search rules in
    let of = subst (λ (m : MainSeat). IsMainOf c.args.shared.now m) (sym c.new-port.ensures.same) c.requires.main in
    subst (λ k. MayWrite (everything (length (memory_in (main_view main).main.phase))) 0 k) (sym long) (may_write c.args.shared.now main c.requires.words of c.new-port.result.idle)

pub returns-clause-main : goal.returns-clause-main
returns-clause-main c =
    let rest = c.store_words.ensures.port.1 in
    let last = c.main-1.given.1 (sym c.new-port.ensures.same_reference ∙ sym (ap (λ (r : MainRest). r.seat) rest)) ∙ c.drop-port.ensures in
    let same = c.new-port.ensures.same in (
      ap (λ (m : MainSeat). m.place.table_id) last ∙ (ap (λ (r : MainRest). r.place.table_id) rest ∙ (ap (λ (m : MainSeat). m.place.table_id) same ∙ c.requires.main.0)),
      ap (λ (m : MainSeat). (main_view m).size) last ∙ (ap (λ (r : MainRest). r.place.me.0.size) rest ∙ (ap (λ (m : MainSeat). (main_view m).size) same ∙ c.requires.main.1)),
      ap (λ (m : MainSeat). (main_view m).room) last ∙ (ap (λ (r : MainRest). r.place.me.0.room) rest ∙ (ap (λ (m : MainSeat). (main_view m).room) same ∙ c.requires.main.2)),
    )

pub returns-clause-idle : goal.returns-clause-idle
returns-clause-idle c =
    let rest = c.store_words.ensures.port.1 in
    let last = c.main-1.given.1 (sym c.new-port.ensures.same_reference ∙ sym (ap (λ (r : MainRest). r.seat) rest)) ∙ c.drop-port.ensures in
    subst (λ (m : MainSeat). IsIdle (main_view m)) (sym last) c.store_words.new.port.idle
