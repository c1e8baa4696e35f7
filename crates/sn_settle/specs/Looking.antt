use Rattle.std.specs.Prelude.{List, [], ◌∷◌, Option, Some, None}

-- what there is, as a list
abbrev pub listed : {A : Type 0} → Option A → List A
listed None = []
listed (Some x) = x ∷ []
