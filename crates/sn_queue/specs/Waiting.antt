-- The list of the entries that wait, as they act one after another.
use Rattle.std.specs.Prelude.{◌≡◌, ◌≢◌, ◌≤◌, ◌<◌, ◌⊎◌, ℕ, List, [], ◌∷◌, length, Option, IfSome}
use Rattle.std.specs.List.{AllByRecursion}
use Rattle.sn_ports.specs.Limits.{most_count}
use Rattle.sn_osc.specs.Shape.{MessageShape}
use Rattle.sn_queue.specs.Time.{IsInReach}

-- messages that act together: when, how many were put before them, and for which client
pub record Waiting : Type 0 where
  pub key : ℕ
  pub number : ℕ
  pub from : ℕ
  pub messages : List MessageShape

-- the time of block 0, the frames a second, how many entries may wait, how many were ever put, and those that wait
pub record WaitingList : Type 0 where
  pub base : ℕ
  pub rate : ℕ
  pub limit : Option ℕ
  pub puts : ℕ
  pub waiting : List Waiting

-- by time, and at one time by arrival
abbrev pub ActsBefore : Waiting → Waiting → Type 0
ActsBefore a b = (a.key < b.key) ⊎ ((a.key ≡ b.key) × (a.number < b.number))

abbrev pub DiffersFrom : Waiting → Waiting → Type 0
DiffersFrom a b = a.number ≢ b.number

-- each is related to every later one in this way
abbrev pub AllPairwise : {X : Type 0} → (X → X → Type 0) → List X → Type 0
AllPairwise R [] = Unit {0}
AllPairwise R (x ∷ xs) = AllByRecursion (R x) xs × AllPairwise R xs

-- what always holds of a waiting list
pub record IsInOrder (q : WaitingList) : Type 0 where
  pub rate : 0 < q.rate
  pub puts : q.puts ≤ most_count
  pub limit : IfSome q.limit (λ n. length q.waiting ≤ n)
  pub order : AllPairwise ActsBefore q.waiting
  pub distinct : AllPairwise DiffersFrom q.waiting
  pub numbers : AllByRecursion (λ w. w.number < q.puts) q.waiting
  pub keys : AllByRecursion (λ w. IsInReach w.key q.base q.rate) q.waiting
