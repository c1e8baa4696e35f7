-- What is gathered from the payloads of all nodes.
use Rattle.std.specs.Prelude.{List, [], ◌∷◌, Option, Some, None}

-- one after the other is added
abbrev pub gathered : {A P : Type 0} → (A → P → A) → A → List P → A
gathered add a [] = a
gathered add a (p ∷ ps) = gathered add (add a p) ps

abbrev pub in_front : {P : Type 0} → Option P → List P → List P
in_front None ps = ps
in_front (Some p) ps = p ∷ ps
