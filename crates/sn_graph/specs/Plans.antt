-- The plan of running synths.
use Rattle.std.specs.Prelude.{◌≡◌, ◌↔◌, ◌⊎◌, ℕ, ◌+◌, ◌*◌, ◌<◌, ◌≤◌, ℤ, Bool, true, false, ◌&&◌, if◌then◌else◌, List, [], ◌∷◌, ◌++◌, length, map, Option, Some, None, is_some}
use Rattle.std.specs.List.{filter, list_any}
use Rattle.std.specs.Ordering.{int_eq}
use Rattle.sn_mem.specs.declared.extents.Foot.{Foot}
use Rattle.sn_mem.specs.declared.moves.Moved.{Moved}
use Rattle.sn_mem.specs.Words.{Clash}
use Rattle.sn_round.specs.declared.jobs.Job.{Job}
use Rattle.sn_round.specs.Jobs.{foot_at, job_at, lanes_at, Ordered}
use Rattle.sn_graph.specs.declared.nodes.Voice.{Voice}
use Rattle.sn_graph.specs.Voices.{HeardNodes, none, synth, group, voices, foot_of, ids_of, joint_lanes, has, own_foot}
use Rattle.sn_graph.specs.Rows.{Row, Members, done, job, split, one, more, jobs}

-- an open run of synths is one job
abbrev pub close : List Voice → Row → Row
close [] r = r
close (v ∷ vs) r = job (v ∷ vs) r

abbrev pub followed : Row → Row → Row
followed done r = r
followed (job vs a) r = job vs (followed a r)
followed (split lanes ms a) r = split lanes ms (followed a r)

abbrev pub members : Row → List Row → Members
members r [] = one r
members r (q ∷ rs) = more r (members q rs)

-- two members or more are split, and these lanes are added after them
abbrev pub joined : List Moved → List Row → Row
joined lanes [] = done
joined lanes (r ∷ []) = r
joined lanes (r ∷ q ∷ rs) = split lanes (more r (members q rs)) done

-- a member without a job is left out
abbrev pub keep : Row → List Row → List Row
keep done rs = rs
keep (job vs a) rs = job vs a ∷ rs
keep (split lanes ms a) rs = split lanes ms a ∷ rs

-- The row of nodes that are rendered in order, after an open run of synths, which a group ends; and the rows of the
-- members of a split group.
abbrev mutual
  pub row_of : List Voice → HeardNodes → Row
  row_of run none = close run done
  row_of run (synth v rest) = row_of (run ++ v ∷ []) rest
  row_of run (group lanes inner rest) = close run (followed (if is_some lanes then joined (joint_lanes lanes) (rows_of inner) else row_of [] inner) (row_of [] rest))

  pub rows_of : HeardNodes → List Row
  rows_of none = []
  rows_of (synth v rest) = job (v ∷ []) done ∷ rows_of rest
  rows_of (group lanes inner rest) = keep (if is_some lanes then joined (joint_lanes lanes) (rows_of inner) else row_of [] inner) (rows_of rest)

-- the row of a group
abbrev pub inner_row : Option (List Moved) → HeardNodes → Row
inner_row lanes inner = if is_some lanes then joined (joint_lanes lanes) (rows_of inner) else row_of [] inner

-- the plan of these nodes
abbrev pub plan_of : HeardNodes → List Job
plan_of nodes = jobs 0 [] (row_of [] nodes)

-- ---- what a plan promises

-- the id is one of these
abbrev pub is_listed : List ℤ → ℤ → Bool
is_listed ids id = list_any (λ x. int_eq x id) ids

abbrev pub joined_synths : List Job → List ℤ
joined_synths [] = []
joined_synths (j ∷ js) = j.synths ++ joined_synths js

-- how many predecessors the jobs have
abbrev pub edges : List Job → ℕ
edges [] = 0
edges (j ∷ js) = length j.before + edges js

-- the synths that have one of these ids
abbrev pub synths_with : List ℤ → List Voice → List Voice
synths_with ids vs = filter (λ v. is_listed ids v.id) vs

-- the synth is among those of the job
abbrev pub Plays : List Job → ℕ → ℤ → Type 0
Plays js i a = is_listed ((job_at js i).synths) a ≡ true

-- The lowest group that holds both synths is split. The nodes are the children of a group that is split or not.
abbrev pub lowest_is_split : Bool → HeardNodes → ℤ → ℤ → Bool
lowest_is_split outer none a b = outer
lowest_is_split outer (synth v rest) a b = lowest_is_split outer rest a b
lowest_is_split outer (group lanes inner rest) a b = if has (voices inner) a && has (voices inner) b then lowest_is_split (is_some lanes) inner a b else lowest_is_split outer rest a b

-- ---- what jobs do

-- one thing after the other: a synth runs, with buses moved onto lanes, or a lane is added to its bus
pub data Step : Type 0 where
  renders : ℤ → List Moved → Step
  adds_lane : Moved → Step

abbrev pub steps_of : HeardNodes → List Step
steps_of none = []
steps_of (synth v rest) = renders v.id v.moves ∷ steps_of rest
steps_of (group lanes inner rest) = steps_of inner ++ (map adds_lane (joint_lanes lanes) ++ steps_of rest)

-- the synths of a job, each with its moves
abbrev pub runs_of : List ℤ → List (List Moved) → List Step
runs_of [] moves = []
runs_of (a ∷ ids) [] = renders a [] ∷ runs_of ids []
runs_of (a ∷ ids) (ms ∷ moves) = renders a ms ∷ runs_of ids moves

abbrev pub joined_steps : List Job → List Step
joined_steps [] = []
joined_steps (j ∷ js) = runs_of j.synths j.moves ++ (map adds_lane j.lanes ++ joined_steps js)

-- a group with lanes to add has two members with jobs
abbrev pub AreJoined : HeardNodes → Type 0
AreJoined none = Unit {0}
AreJoined (synth v rest) = AreJoined rest
AreJoined (group lanes inner rest) = (length (rows_of inner) ≤ 1 → joint_lanes lanes ≡ []) × (AreJoined inner × AreJoined rest)

pub record IsPlanned (nodes : HeardNodes) (js : List Job) : Type 0 where
  -- the synths of the jobs, joined, are those of the nodes in the order of the walk
  pub synths : joined_synths js ≡ ids_of (voices nodes)
  -- of jobs with synths, one is ordered before another exactly if it stands before it and the lowest group that holds
  -- the synths of both is not split
  pub ordered : (i j : ℕ) (a b : ℤ) → Plays js i a → Plays js j b → Ordered js i j ↔ ((i < j) × (lowest_is_split false nodes a b ≡ false))
  -- what a job may touch is what its synths may touch, the lanes that it adds, and their buses
  pub feet : (i : ℕ) → i < length js → foot_at js i ≡ foot_of (synths_with (job_at js i).synths (voices nodes)) (lanes_at js i)
  -- What the jobs do, one after the other, is what the nodes do in the order of the walk, each lane after the members
  -- of its group. The nodes of a stage are joined (lanes_are_joined).
  pub steps : AreJoined nodes → joined_steps js ≡ steps_of nodes
  -- there are at most twice as many predecessors as jobs
  pub few : edges js ≤ 2 * length js

-- ---- what makes it free of races

-- the feet of the synths below nodes, and of the joints of their groups
abbrev pub joint_feet : Option (List Moved) → List Foot
joint_feet None = []
joint_feet (Some lanes) = foot_of [] lanes ∷ []

abbrev pub feet_below : HeardNodes → List Foot
feet_below none = []
feet_below (synth v rest) = own_foot v ∷ feet_below rest
feet_below (group lanes inner rest) = (feet_below inner ++ joint_feet lanes) ++ feet_below rest

-- the foot is one of these
abbrev pub IsAmong : List Foot → Foot → Type 0
IsAmong [] f = ⊥
IsAmong (g ∷ gs) f = (g ≡ f) ⊎ IsAmong gs f

-- none of the first clashes with one of the second
abbrev pub AreClear : List Foot → List Foot → Type 0
AreClear fs gs = (f g : Foot) → IsAmong fs f → IsAmong gs g → Clash f g → ⊥

-- nothing below a member clashes with what is below another
abbrev pub MembersAreClear : HeardNodes → Type 0
MembersAreClear none = Unit {0}
MembersAreClear (synth v rest) = AreClear (own_foot v ∷ []) (feet_below rest) × MembersAreClear rest
MembersAreClear (group lanes inner rest) = AreClear (feet_below inner ++ joint_feet lanes) (feet_below rest) × MembersAreClear rest

-- nor does it in any split group
abbrev pub SplitsAreClear : HeardNodes → Type 0
SplitsAreClear none = Unit {0}
SplitsAreClear (synth v rest) = SplitsAreClear rest
SplitsAreClear (group lanes inner rest) = (is_some lanes ≡ true → MembersAreClear inner) × (SplitsAreClear inner × SplitsAreClear rest)
