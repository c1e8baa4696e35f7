-- What is parted is heard.
use Rattle.std.proofs.Common.{◌≡◌, ℤ, Bool, true, ◌&&◌, ◌||◌, [], ◌∷◌, sym, ⊎_elim, true≢false}
use Rattle.std.specs.Prelude.{is_some}
use Rattle.std.proofs.lemmas.Bool.{or_cases, and_parts, or_left}
use Rattle.std.specs.Ordering.{int_eq}
use Rattle.sn_graph.specs.Voices.{HeardNodes, none, synth, group, voices, has}
use Rattle.sn_graph.proofs.Shapes.{is_parted}
use Rattle.sn_graph.proofs.Numbers.{has-left, has-right}

pub parted_has : (g : Bool) (nodes : HeardNodes) (a b : ℤ) → is_parted g nodes a b ≡ true → (has (voices nodes) a ≡ true) × (has (voices nodes) b ≡ true)
parted_has g none a b h = absurd (true≢false (sym h))
parted_has g (synth s rest) a b h =
    ⊎_elim
    (λ (k : (g && int_eq s.id a && has (voices rest) b) ≡ true). let d = and_parts (g && int_eq s.id a) (has (voices rest) b) k in let e = and_parts g (int_eq s.id a) d.0 in
    (or_left (int_eq s.id a) (has (voices rest) a) e.1, has-right (s ∷ []) (voices rest) b d.1))
    (λ (k : is_parted g rest a b ≡ true). let d = parted_has g rest a b k in (has-right (s ∷ []) (voices rest) a d.0, has-right (s ∷ []) (voices rest) b d.1))
    (or_cases (g && int_eq s.id a && has (voices rest) b) (is_parted g rest a b) h)
parted_has g (group f inner rest) a b h =
    ⊎_elim
    (λ (k : (g && has (voices inner) a && has (voices rest) b) ≡ true). let d = and_parts (g && has (voices inner) a) (has (voices rest) b) k in let e = and_parts g (has (voices inner) a) d.0 in
    (has-left (voices inner) (voices rest) a e.1, has-right (voices inner) (voices rest) b d.1))
    (λ (k : (is_parted (is_some f) inner a b || is_parted g rest a b) ≡ true). ⊎_elim
    (λ (m : is_parted (is_some f) inner a b ≡ true). let d = parted_has (is_some f) inner a b m in (has-left (voices inner) (voices rest) a d.0, has-left (voices inner) (voices rest) b d.1))
    (λ (m : is_parted g rest a b ≡ true). let d = parted_has g rest a b m in (has-right (voices inner) (voices rest) a d.0, has-right (voices inner) (voices rest) b d.1))
    (or_cases (is_parted (is_some f) inner a b) (is_parted g rest a b) k))
    (or_cases (g && has (voices inner) a && has (voices rest) b) (is_parted (is_some f) inner a b || is_parted g rest a b) h)
