-- What a look at a deque answers, and how its counts go.
use Rattle.std.specs.Prelude.{◌≡◌, ℕ, ◌+◌, ◌-◌, ◌^◌, ◌<◌, ◌≤◌, min, ◌⊎◌}
use Rattle.sn_crew.specs.declared.hints.Counts.{Counts}
use Rattle.sn_crew.specs.declared.hints.Found.{Found}
use Rattle.sn_crew.specs.declared.hints.Look.{Look}
use Rattle.sn_crew.specs.declared.hints.Look.TheVariants.{Hint, Stray, Empty, Again}

-- a hint is one of n jobs, and a stray is none
abbrev pub FitsJobs : ℕ → Look → Type 0
FitsJobs n (Hint job) = job < n
FitsJobs n (Stray job) = n ≤ job
FitsJobs n Empty = Unit {0}
FitsJobs n Again = Unit {0}

-- the count has risen, or stands at its end
abbrev pub Rose : ℕ → ℕ → Type 0
Rose before now = min (before + 1) (2 ^ 64 - 1) ≤ now

abbrev pub NoneFell : Counts → Counts → Type 0
NoneFell b a = (b.empties ≤ a.empties) × (b.agains ≤ a.agains) × (b.strays ≤ a.strays)

abbrev pub SomeRose : Counts → Counts → Type 0
SomeRose b a = Rose b.empties a.empties ⊎ (Rose b.agains a.agains ⊎ Rose b.strays a.strays)

-- the count of this answer has risen, and no other
abbrev pub Raised : Look → Counts → Counts → Type 0
Raised (Hint job) b a = a ≡ b
Raised (Stray job) b a = Rose b.strays a.strays × (b.strays ≤ a.strays) × (a.empties ≡ b.empties) × (a.agains ≡ b.agains)
Raised Empty b a = Rose b.empties a.empties × (b.empties ≤ a.empties) × (a.agains ≡ b.agains) × (a.strays ≡ b.strays)
Raised Again b a = Rose b.agains a.agains × (b.agains ≤ a.agains) × (a.empties ≡ b.empties) × (a.strays ≡ b.strays)

-- one hint more, and it is the last
abbrev pub Gave : ℕ → Found → Found → Type 0
Gave job b a = (a.hints ≡ min (b.hints + 1) (2 ^ 64 - 1)) × (a.last ≡ job)

-- a hint was given, or nothing changes
abbrev pub Noted : Look → Found → Found → Type 0
Noted (Hint job) b a = Gave job b a
Noted (Stray job) b a = a ≡ b
Noted Empty b a = a ≡ b
Noted Again b a = a ≡ b

abbrev pub no_counts : Counts
no_counts = record { empties = 0; agains = 0; strays = 0 }
