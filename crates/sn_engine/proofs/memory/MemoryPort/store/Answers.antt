use Rattle.std.proofs.Common.{◌<◌, length, length-set, ap, ◌∙◌, arith, ℕ, List}
use Rattle.std.specs.Prelude.{slice_set}
use Rattle.std.proofs.lemmas.Bool.{or_left}
use Rattle.sn_machine.specs.States.{memory_in}
use Rattle.sn_machine.specs.declared.views.View.{View}
use Rattle.sn_mem.specs.Words.{everything, everything_is, has}
use Rattle.sn_engine.proofs.HearingLemmas.{words_same}
use Rattle.sn_engine.proofs.Memories.{wide}
use Rattle.sn_engine.proofs.memory.MemoryPort.store.Goals as goal

pub store-requires-clause-at : goal.store-requires-clause-at
store-requires-clause-at c =
    let e = c.self.inside in
    let i = c.self.invariant in
    let n = length c.args.self.now.words in
    let low : c.args.at < n = everything_is n c.args.at (or_left (has (everything n).writes c.args.at) (has (everything n).reads c.args.at) c.requires) in
    omega (arith, low, ap length (words_same c.self.view_is), wide e.shared e.main i.0 i.1)

pub returns-clause-changed : goal.returns-clause-changed
returns-clause-changed c = ap (λ (v : View). memory_in v.main.phase) c.store.ensures.step ∙ ap (λ (ws : List ℕ). slice_set ws c.args.at c.args.value) (words_same c.self.view_is)

pub returns-clause-foot : goal.returns-clause-foot
returns-clause-foot c =
    let changed = ap (λ (v : View). memory_in v.main.phase) c.store.ensures.step ∙ ap (λ (ws : List ℕ). slice_set ws c.args.at c.args.value) (words_same c.self.view_is) in
    ap everything (ap length changed ∙ length-set c.args.self.now.words c.args.at c.args.value)
