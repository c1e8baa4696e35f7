-- Definitions whose controls have the same names are given the same last numbers.
use Rattle.std.proofs.Common.{◌≡◌, ◌+◌, ℕ, ℤ, pos, negsuc, Bool, true, false, not, nat_lt, List, [], ◌∷◌, map, length, replicate, Option, Some, None, refl, ap, sym, ◌∙◌, arith}
use Rattle.std.specs.Prelude.{◌&&◌, if◌then◌else◌, zip}
use Rattle.std.specs.List.{list_all, position, position_or_len}
use Rattle.std.specs.Str.{bytes_eq}
use Rattle.std.proofs.lemmas.Slice.Eq.{bytes_eq-Decides}
use Rattle.std.proofs.lemmas.List.{length-map}
use Rattle.sn_def.specs.declared.definition.Param.{Param}
use Rattle.sn_def.specs.Params.{parameter_of}
use Rattle.sn_def.specs.Definition.{Definition, Parameter, control_names}
use Rattle.sn_world.specs.NewSynth.{ControlName, numbered, named, control_of}
use Rattle.sn_world.specs.ControlRuns.{ControlRun}
use Rattle.sn_nodecmd.specs.Resolving.{entered_at, entered, last_of}

both : (a b : Bool) → (a && b) ≡ true → (a ≡ true) × (b ≡ true)
both true b h = (refl, h)
both false b h = absurd cc

-- ---- names

abbrev param_name : Param → List ℕ
param_name p = p.name.bytes

abbrev are_alike : List Param → List Param → Bool
are_alike xs ys = list_all (λ (p : Param × Param). bytes_eq p.0.name.bytes p.1.name.bytes) (zip xs ys)

named-alike : (xs ys : List Param) → length xs ≡ length ys → are_alike xs ys ≡ true → map param_name xs ≡ map param_name ys
named-alike [] [] len all = refl
named-alike [] (y ∷ ys) len all = absurd (omega arith)
named-alike (x ∷ xs) [] len all = absurd (omega arith)
named-alike (x ∷ xs) (y ∷ ys) len all =
    let parts = both (bytes_eq x.name.bytes y.name.bytes) (are_alike xs ys) all in
    let first : x.name.bytes ≡ y.name.bytes = (bytes_eq-Decides x.name.bytes y.name.bytes).0 parts.0 in
    λ i. first i ∷ named-alike xs ys (omega arith) parts.1 i

names-seen : (xs : List Param) → map (λ (c : Parameter). c.name) (map parameter_of xs) ≡ map param_name xs
names-seen [] = refl
names-seen (x ∷ xs) = ap (λ (ns : List (List ℕ)). x.name.bytes ∷ ns) (names-seen xs)

pub same-names : (xs ys : List Param) (d e : Definition) → map parameter_of xs ≡ d.controls → map parameter_of ys ≡ e.controls → length xs ≡ length ys → are_alike xs ys ≡ true → control_names d ≡ control_names e
same-names xs ys d e dx ey len all =
    ap (map (λ (c : Parameter). c.name)) (sym dx) ∙ names-seen xs ∙ named-alike xs ys len all ∙ sym (names-seen ys) ∙ ap (map (λ (c : Parameter). c.name)) ey

-- ---- numbers of controls

first-named : (name : List ℕ) (cs : List Parameter) → position_or_len (λ (c : Parameter). bytes_eq c.name name) cs ≡ position_or_len (λ (n : List ℕ). bytes_eq n name) (map (λ (c : Parameter). c.name) cs)
first-named name [] = refl
first-named name (c ∷ cs) = ap (λ (n : ℕ). if not (bytes_eq c.name name) then 1 + n else 0) (first-named name cs)

abbrev within : ℕ → ℕ → Option ℕ
within k n = if nat_lt k n then Some k else None

named-at : (name : List ℕ) (cs : List Parameter) → position (λ (c : Parameter). bytes_eq c.name name) cs ≡ position (λ (n : List ℕ). bytes_eq n name) (map (λ (c : Parameter). c.name) cs)
named-at name cs = λ i. within (first-named name cs i) (sym (length-map cs (λ (c : Parameter). c.name)) i)

module _ (d e : Definition) (same : control_names d ≡ control_names e) where
  same-count : length d.controls ≡ length e.controls
  same-count = sym (length-map d.controls (λ (c : Parameter). c.name)) ∙ ap (λ (ns : List (List ℕ)). length ns) same ∙ length-map e.controls (λ (c : Parameter). c.name)

  same-control : (c : ControlName) → control_of d c ≡ control_of e c
  same-control (numbered (pos k)) = ap (within k) same-count
  same-control (numbered (negsuc k)) = refl
  same-control (named name) = named-at name d.controls ∙ ap (position (λ (n : List ℕ). bytes_eq n name)) same ∙ sym (named-at name e.controls)

  same-entered : (rs : List ControlRun) (ns : List (Option ℤ)) → entered rs d ns ≡ entered rs e ns
  same-entered [] ns = refl
  same-entered (r ∷ rs) ns = ap (λ (o : Option ℕ). entered rs d (entered_at o r.values ns)) (same-control r.control) ∙ same-entered rs (entered_at (control_of e r.control) r.values ns)

  pub same-last : (rs : List ControlRun) → last_of rs d ≡ last_of rs e
  same-last rs = same-entered rs (replicate (length d.controls) None) ∙ ap (λ (n : ℕ). entered rs e (replicate n None)) same-count
