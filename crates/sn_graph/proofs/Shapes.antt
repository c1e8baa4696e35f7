-- What is said of rows and their numbers on the way to the law of the plan.
use Rattle.std.specs.Prelude.{◌≡◌, ◌⊎◌, ◌↔◌, ℕ, ◌+◌, ◌*◌, ◌<◌, ◌≤◌, ℤ, Bool, false, ◌&&◌, ◌||◌, List, [], ◌∷◌, ◌++◌, length, is_some}
use Rattle.std.specs.Ordering.{int_eq}
use Rattle.sn_round.specs.declared.jobs.Job.{Job}
use Rattle.sn_round.specs.Jobs.{Ordered}
use Rattle.sn_graph.specs.declared.nodes.Voice.{Voice}
use Rattle.sn_graph.specs.Voices.{HeardNodes, none, synth, group, voices, ids_of, has}
use Rattle.sn_graph.specs.Rows.{Row, Members, done, job, split, one, more, job_of, size, size_all, lasts}
use Rattle.sn_graph.specs.Plans.{joined_synths, edges, Plays}

-- the jobs with these numbers have these predecessors
abbrev mutual
  pub Fits : (ℕ → List ℕ) → ℕ → List ℕ → Row → Type 0
  Fits b n e done = Unit {0}
  Fits b n e (job ss rest) = (b n ≡ e) × Fits b (n + 1) (n ∷ []) rest
  Fits b n e (split lanes ms rest) = FitsAll b n e ms × (b (n + size_all ms) ≡ lasts n e ms) × Fits b (n + size_all ms + 1) ((n + size_all ms) ∷ []) rest

  pub FitsAll : (ℕ → List ℕ) → ℕ → List ℕ → Members → Type 0
  FitsAll b n e (one r) = Fits b n e r
  FitsAll b n e (more r ms) = Fits b n e r × FitsAll b (n + size r) e ms

-- i is one of the a numbers from n on, and j one of the b after them
abbrev pub Across : ℕ → ℕ → ℕ → ℕ → ℕ → Type 0
Across n a b i j = (n ≤ i) × (i < n + a) × (n + a ≤ j) × (j < n + a + b)

-- i and j stand in two members of one split, i in the earlier one
abbrev mutual
  pub Apart : ℕ → Row → ℕ → ℕ → Type 0
  Apart n done i j = ⊥
  Apart n (job ss rest) i j = Apart (n + 1) rest i j
  Apart n (split lanes ms rest) i j = ApartAll n ms i j ⊎ Apart (n + size_all ms + 1) rest i j

  pub ApartAll : ℕ → Members → ℕ → ℕ → Type 0
  ApartAll n (one r) i j = Apart n r i j
  ApartAll n (more r ms) i j = Across n (size r) (size_all ms) i j ⊎ Apart n r i j ⊎ ApartAll (n + size r) ms i j

-- each member has a job
abbrev mutual
  pub IsFull : Row → Type 0
  IsFull done = Unit {0}
  IsFull (job ss rest) = IsFull rest
  IsFull (split lanes ms rest) = AreFull ms × IsFull rest

  pub AreFull : Members → Type 0
  AreFull (one r) = (1 ≤ size r) × IsFull r
  AreFull (more r ms) = (1 ≤ size r) × IsFull r × AreFull ms

-- how much there is below
abbrev pub weight : HeardNodes → ℕ
weight none = 0
weight (synth s rest) = 1 + weight rest
weight (group g inner rest) = 1 + (weight inner + weight rest)

-- the lowest group that holds both is split, and a comes first; the nodes are the children of a group that is split or
-- not
abbrev pub is_parted : Bool → HeardNodes → ℤ → ℤ → Bool
is_parted g none a b = false
is_parted g (synth s rest) a b = (g && int_eq s.id a && has (voices rest) b) || is_parted g rest a b
is_parted g (group h inner rest) a b = (g && has (voices inner) a && has (voices rest) b) || (is_parted (is_some h) inner a b || is_parted g rest a b)

-- the synths of the jobs, joined
abbrev mutual
  pub heard : Row → List Voice
  heard done = []
  heard (job ss rest) = ss ++ heard rest
  heard (split lanes ms rest) = heard_all ms ++ heard rest

  pub heard_all : Members → List Voice
  heard_all (one r) = heard r
  heard_all (more r ms) = heard r ++ heard_all ms

abbrev pub heard_list : List Row → List Voice
heard_list [] = []
heard_list (r ∷ rs) = heard r ++ heard_list rs

abbrev mutual
  pub parts : Row → ℤ → ℤ → Bool
  parts done a b = false
  parts (job ss rest) a b = parts rest a b
  parts (split lanes ms rest) a b = parts_all ms a b || parts rest a b

  pub parts_all : Members → ℤ → ℤ → Bool
  parts_all (one r) a b = parts r a b
  parts_all (more r ms) a b = (has (heard r) a && has (heard_all ms) b) || (parts r a b || parts_all ms a b)

abbrev pub parts_list : List Row → ℤ → ℤ → Bool
parts_list [] a b = false
parts_list (r ∷ rs) a b = (has (heard r) a && has (heard_list rs) b) || (parts r a b || parts_list rs a b)

-- the numbers from n on have the jobs of the row
abbrev mutual
  pub Stands : (ℕ → Job) → ℕ → List ℕ → Row → Type 0
  Stands at n e done = Unit {0}
  Stands at n e (job ss rest) = (at n ≡ job_of ss [] e) × Stands at (n + 1) (n ∷ []) rest
  Stands at n e (split lanes ms rest) = StandsAll at n e ms × (at (n + size_all ms) ≡ job_of [] lanes (lasts n e ms)) × Stands at (n + size_all ms + 1) ((n + size_all ms) ∷ []) rest

  pub StandsAll : (ℕ → Job) → ℕ → List ℕ → Members → Type 0
  StandsAll at n e (one r) = Stands at n e r
  StandsAll at n e (more r ms) = Stands at n e r × StandsAll at (n + size r) e ms

abbrev pub Among : List Voice → Voice → Type 0
Among [] s = ⊥
Among (x ∷ xs) s = (x ≡ s) ⊎ Among xs s

-- a stands before b
abbrev pub comes : List Voice → ℤ → ℤ → Bool
comes [] a b = false
comes (s ∷ ss) a b = (int_eq s.id a && has ss b) || comes ss a b

-- what is shown first of a plan
pub record IsPlan (nodes : HeardNodes) (js : List Job) : Type 0 where
  pub synths : joined_synths js ≡ ids_of (voices nodes)
  pub ordered : (i j : ℕ) (a b : ℤ) → Plays js i a → Plays js j b → Ordered js i j ↔ ((i < j) × (is_parted false nodes a b ≡ false))
  pub few : edges js ≤ 2 * length js
