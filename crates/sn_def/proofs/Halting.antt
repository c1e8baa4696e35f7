-- Where reading ends at a fault.
use Rattle.std.proofs.Common.{◌≡◌, ℕ, ◌+◌, ◌<◌, ◌==◌, Bool, true, false, cond, not, List, [], ◌∷◌, ◌++◌, length, Result, Ok, Err, ◌⊎◌, inl, inr, refl, sym, ap, subst, ◌∙◌, arith, codes, append_assoc, length-append, eqb-true, All, get_or}
use Rattle.std.specs.Str.{bytes_eq}
use Rattle.std.specs.List.{list_all, onto_first}
use Rattle.std.proofs.lemmas.Bool.{false_from_ne_true, both_ways, and_from, not_from_true, not_from_false}
use Rattle.std.proofs.lemmas.List.Splits.{slice_split_at}
use Rattle.std.proofs.lemmas.List.Folds.{list_all_at}
use Rattle.sn_def.specs.declared.fault.DefKind.{DefKind}
use Rattle.sn_def.specs.declared.fault.DefKind.TheVariants as wrong
use Rattle.sn_def.specs.declared.fault.DefFault.{DefFault}
use Rattle.sn_def.specs.declared.version.Version.{Version}
use Rattle.sn_def.specs.Definition.{Definition}
use Rattle.sn_def.specs.Reading.{◌>>=◌, pieces, line_at, fault, at_line, is_over, end_at, body_at}
use Rattle.sn_def.specs.Faults.{lines_text}
use Rattle.sn_def.proofs.Sound.{Good, UnitStep, ControlStep, line_says}
use Rattle.sn_def.proofs.Prefix.{long}

pub same_fault : {X : Type 0} (f g : DefFault) → ◌≡◌ {A = Result X DefFault} (Err f) (Err g) → g ≡ f
same_fault f g h = cc

-- one more line is read
pub record Goes (v : Version) (n : Definition) : Type 0 where
  pub wires : length n.units ≡ 0 → length n.wires ≡ 0
  pub good : Good v n

control_goes : (v : Version) (d n : Definition) (fields : List (List ℕ)) → (length d.units ≡ 0 → length d.wires ≡ 0) → ControlStep v d fields n → Goes v n
control_goes v d n fields none s =
    let units : length n.units ≡ length d.units = ap (λ (g : Definition). length g.units) s.made in
    let wires : length n.wires ≡ length d.wires = ap (λ (g : Definition). length g.wires) s.made in
    record { wires = λ z. wires ∙ none (sym units ∙ z); good = s.good }

unit_goes : (v : Version) (d n : Definition) (fields : List (List ℕ)) → UnitStep v d fields n → Goes v n
unit_goes v d n fields s =
    let units : length n.units ≡ length d.units + 1 = ap length s.grows.units ∙ length-append d.units (s.unit ∷ []) in
    record { wires = λ z. absurd (omega arith); good = s.good }

pub either_goes : (v : Version) (d n : Definition) (fields : List (List ℕ)) → (length d.units ≡ 0 → length d.wires ≡ 0) → ControlStep v d fields n ⊎ UnitStep v d fields n → Goes v n
either_goes v d n fields none (inl s) = control_goes v d n fields none s
either_goes v d n fields none (inr s) = unit_goes v d n fields s

-- why reading ends at the first of these lines
pub data How (v : Version) (at : ℕ) (d : Definition) (f : DefFault) (text : List ℕ) (after : List (List ℕ)) : Type 0 where
  is_cut : length after ≡ 0 → f ≡ fault at wrong.Line → How v at d f text after
  is_wrong : (k : DefKind) → 0 < length after → bytes_eq text (codes "end") ≡ false → line_at v d (pieces 32 text) ≡ Err k → f ≡ fault at k → How v at d f text after
  is_behind : 0 < length after → bytes_eq text (codes "end") ≡ true → is_over after ≡ false → f ≡ fault (at + 1) wrong.Line → How v at d f text after

pub record Halts (v : Version) (at : ℕ) (d : Definition) (lines : List (List ℕ)) (f : DefFault) : Type 0 where
  pub before : List (List ℕ)
  pub text : List ℕ
  pub after : List (List ℕ)
  pub draft : Definition
  pub lines_are : lines ≡ before ++ text ∷ after
  pub goes_on : (more : List (List ℕ)) → 0 < length more → body_at v at d (before ++ more) ≡ body_at v (at + length before) draft more
  pub how : How v (at + length before) draft f text after

here : (v : Version) (at : ℕ) (d : Definition) (text : List ℕ) (after : List (List ℕ)) (f : DefFault) → How v at d f text after → Halts v at d (text ∷ after) f
here v at d text after f how =
    let same : at ≡ at + 0 = omega arith in
    record {
      before = [];
      text = text;
      after = after;
      draft = d;
      lines_are = refl;
      goes_on = λ more some. ap (λ (n : ℕ). body_at v n d more) same;
      how = subst (λ (n : ℕ). How v n d f text after) same how;
    }

further : (v : Version) (at : ℕ) (d n : Definition) (text : List ℕ) (after : List (List ℕ)) (f : DefFault) → bytes_eq text (codes "end") ≡ false → line_at v d (pieces 32 text) ≡ Ok n → Halts v (at + 1) n after f → Halts v at d (text ∷ after) f
unfolding body_at
further v at d n text after f is read h =
    let number : at + 1 + length h.before ≡ at + length (text ∷ h.before) = omega arith in
    record {
      before = text ∷ h.before;
      text = h.text;
      after = h.after;
      draft = h.draft;
      lines_are = ap (λ (ls : List (List ℕ)). text ∷ ls) h.lines_are;
      goes_on = λ more some. rw (long (h.before ++ more) (omega (arith, length-append h.before more)), is, read) (h.goes_on more some ∙ ap (λ (k : ℕ). body_at v k h.draft more) number);
      how = subst (λ (k : ℕ). How v k h.draft f h.text h.after) number h.how;
    }

end_fault : (at : ℕ) (d : Definition) (b : Bool) (f : DefFault) → cond b (Ok d) (Err (fault (at + 1) wrong.Line)) ≡ Err f → (b ≡ false) × (f ≡ fault (at + 1) wrong.Line)
end_fault at d true f h = cc
end_fault at d false f h = (refl, same_fault (fault (at + 1) wrong.Line) f h)

behind : (v : Version) (at : ℕ) (d : Definition) (text : List ℕ) (after : List (List ℕ)) (f : DefFault) → 0 < length after → bytes_eq text (codes "end") ≡ true → end_at at d after ≡ Err f → Halts v at d (text ∷ after) f
behind v at d text after f some is h = let e = end_fault at d (is_over after) f h in here v at d text after f (is_behind some is e.0 e.1)

step : (v : Version) (at : ℕ) (d : Definition) (text : List ℕ) (after : List (List ℕ)) (f : DefFault) (r : Result Definition DefKind) → 0 < length after → bytes_eq text (codes "end") ≡ false → (length d.units ≡ 0 → length d.wires ≡ 0) → Good v d → line_at v d (pieces 32 text) ≡ r
    → ((n : Definition) → Goes v n → body_at v (at + 1) n after ≡ Err f → Halts v (at + 1) n after f) → (at_line at r >>= λ n. body_at v (at + 1) n after) ≡ Err f → Halts v at d (text ∷ after) f
step v at d text after f (Ok n) some is none ok read more h =
    let g = either_goes v d n (pieces 32 text) none (line_says v d n (pieces 32 text) none ok read) in
    further v at d n text after f is read (more n g h)
step v at d text after f (Err k) some is none ok read more h = here v at d text after f (is_wrong k some is read (same_fault (fault at k) f h))

pub two_ways : {X P : Type 0} (b : Bool) (r s : Result X DefFault) (f : DefFault) → (b ≡ true → r ≡ Err f → P) → (b ≡ false → s ≡ Err f → P) → cond b r s ≡ Err f → P
two_ways true r s f g h i = g refl i
two_ways false r s f g h i = h refl i

pub halts : (v : Version) (at : ℕ) (d : Definition) (text : List ℕ) (after : List (List ℕ)) (f : DefFault) → (length d.units ≡ 0 → length d.wires ≡ 0) → Good v d → body_at v at d (text ∷ after) ≡ Err f → Halts v at d (text ∷ after) f
unfolding body_at
halts v at d text [] f none ok h = here v at d text [] f (is_cut refl (same_fault (fault at wrong.Line) f h))
halts v at d text (next ∷ after) f none ok h =
    two_ways (length (next ∷ after) == 0) (Err (fault at wrong.Line)) _ f (λ t i. let z : length (next ∷ after) ≡ 0 = eqb-true (length (next ∷ after)) 0 t in absurd (omega arith))
    (λ t i. two_ways (bytes_eq text (codes "end")) (end_at at d (next ∷ after)) _ f (behind v at d text (next ∷ after) f (omega arith))
    (λ is q. step v at d text (next ∷ after) f (line_at v d (pieces 32 text)) (omega arith) is none ok refl (λ n g p. halts v (at + 1) n next after f g.wires g.good p) q) i) h

-- pieces hold no line feed
abbrev pub AllFree : List (List ℕ) → Type 0
AllFree [] = Unit {0}
AllFree (p ∷ ps) = (list_all (λ b. not (b == 10)) p ≡ true) × AllFree ps

free_onto : (x : ℕ) (ps : List (List ℕ)) → (x == 10) ≡ false → AllFree ps → AllFree (onto_first x ps)
free_onto x [] is h = (and_from (not (x == 10)) true (not_from_false (x == 10) is) refl, tt)
free_onto x (p ∷ ps) is h = (and_from (not (x == 10)) (list_all (λ b. not (b == 10)) p) (not_from_false (x == 10) is) h.0, h.1)

free_either : (x : ℕ) (b : Bool) (ps : List (List ℕ)) → (x == 10) ≡ b → AllFree ps → AllFree (cond b ([] ∷ ps) (onto_first x ps))
free_either x true ps is h = (refl, h)
free_either x false ps is h = free_onto x ps is h

pub pieces_free : (text : List ℕ) → AllFree (pieces 10 text)
pieces_free [] = (refl, tt)
pieces_free (x ∷ xs) = free_either x (x == 10) (pieces 10 xs) refl (pieces_free xs)

pub free_front : (xs ys : List (List ℕ)) → AllFree (xs ++ ys) → AllFree xs
free_front [] ys h = tt
free_front (x ∷ xs) ys h = (h.0, free_front xs ys h.1)

free_all : (p : List ℕ) → list_all (λ b. not (b == 10)) p ≡ true → All (λ b. (b == 10) ≡ false) p
free_all p h = λ k d lt. false_from_ne_true (get_or p k d == 10) (λ e. both_ways (list_all (λ b. not (b == 10)) p) (list_all_at (λ b. not (b == 10)) p k d lt (not_from_true (get_or p k d == 10) e)) h)

pub free_cut : (ls : List (List ℕ)) (more : List ℕ) → AllFree ls → pieces 10 (lines_text ls ++ more) ≡ ls ++ pieces 10 more
free_cut [] more h = refl
free_cut (l ∷ ls) more h =
    ap (pieces 10) (append_assoc (l ++ 10 ∷ []) (lines_text ls) more ∙ append_assoc l (10 ∷ []) (lines_text ls ++ more))
    ∙ slice_split_at (λ x. x == 10) l 10 (lines_text ls ++ more) (free_all l h.0) refl ∙ ap (λ (t : List (List ℕ)). l ∷ t) (free_cut ls more h.1)
