-- Each move of a deque keeps every hint below 65536.
use Rattle.std.proofs.Common.{ℕ, ◌<◌, List, [], ◌∷◌}
use Rattle.crossbeam_deque.specs.Tasks.{Takes, Pops}
use Rattle.sn_crew.specs.Deques.{AreHints}
use Rattle.sn_crew.proofs.Halves.{all_left, all_right}

abbrev hint : ℕ → Type 0
hint x = x < 65536

abbrev Holds : List ℕ → List (Unit {0}) → Type 0
Holds items _ = AreHints items

pub takes : (port : ℕ) (v : Unit {0}) (most : ℕ) → Takes Holds port v most (λ xs _. AreHints xs)
takes port v most xs items views _ _ h _ = (tt, all_right hint xs items h, all_left hint xs items h)

pub pops : (port : ℕ) (v : Unit {0}) → Pops Holds port v (λ xs _. AreHints xs)
pops port v x items views h _ = (tt, all_left hint items (x ∷ []) h, all_right hint items (x ∷ []) h)
