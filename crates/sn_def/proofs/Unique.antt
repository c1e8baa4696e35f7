-- A text has one fault at most, and reading gives it.
use Rattle.std.proofs.Common.{◌≡◌, ℕ, ◌+◌, ◌<◌, List, [], ◌∷◌, ◌++◌, length, Option, Some, Result, Ok, Err, ◌⊎◌, inl, inr, refl, sym, ap, subst, ◌∙◌, arith, codes, append_assoc, length-append}
use Rattle.std.proofs.lemmas.Grind.{flat_map-append}
use Rattle.sn_def.specs.declared.fault.DefKind.{DefKind}
use Rattle.sn_def.specs.declared.fault.DefFault.{DefFault}
use Rattle.sn_def.specs.Definition.{Definition}
use Rattle.sn_def.specs.Reading.{pieces, fault, text_at}
use Rattle.sn_def.specs.Grammar.{DefinitionText}
use Rattle.sn_def.specs.declared.version.Version.{Version}
use Rattle.sn_def.specs.Versions.{title, version_of}
use Rattle.sn_def.specs.Faults.{lines_text, Begins, first_kind, line_kinds, IsWrong, KindBehind, KindOf, DefinitionFault}
use Rattle.sn_def.proofs.Forming.{same_ok}
use Rattle.sn_def.proofs.Whole.{in_grammar}
use Rattle.sn_def.proofs.Complete.{Bytes, is_read, version-title}
use Rattle.sn_def.proofs.Prefix.{head_same, nothing_more}
use Rattle.sn_def.proofs.Faulting.{first_fault, with_end}

abbrev Lines : Type 0
Lines = List (List ℕ)

-- two ways to split a list at an element: at the same place, or one before the other
abbrev Splits : Lines → List ℕ → Lines → Lines → List ℕ → Lines → Type 0
Splits xs x al ys y bs =
    ((xs ≡ ys) × ((x ≡ y) × (al ≡ bs))) ⊎ (((mid : Lines) × ((ys ≡ xs ++ x ∷ mid) × (al ≡ mid ++ y ∷ bs))) ⊎ ((mid : Lines) × ((xs ≡ ys ++ y ∷ mid) × (bs ≡ mid ++ x ∷ al))))

onto : (z w : List ℕ) (xs : Lines) (x : List ℕ) (al ys : Lines) (y : List ℕ) (bs : Lines) → z ≡ w → Splits xs x al ys y bs → Splits (z ∷ xs) x al (w ∷ ys) y bs
onto z w xs x al ys y bs is (inl s) = inl (ap (λ (v : List ℕ). v ∷ xs) is ∙ ap (λ (ls : Lines). w ∷ ls) s.0, s.1)
onto z w xs x al ys y bs is (inr (inl s)) = inr (inl (s.0, (ap (λ (v : List ℕ). v ∷ ys) (sym is) ∙ ap (λ (ls : Lines). z ∷ ls) s.1.0, s.1.1)))
onto z w xs x al ys y bs is (inr (inr s)) = inr (inr (s.0, (ap (λ (v : List ℕ). v ∷ xs) is ∙ ap (λ (ls : Lines). w ∷ ls) s.1.0, s.1.1)))

splits : (xs : Lines) (x : List ℕ) (al ys : Lines) (y : List ℕ) (bs : Lines) → xs ++ x ∷ al ≡ ys ++ y ∷ bs → Splits xs x al ys y bs
splits [] x al [] y bs h = let e = head_same x y al bs h in inl (refl, e)
splits [] x al (w ∷ ys) y bs h = let e = head_same x w al (ys ++ y ∷ bs) h in inr (inl (ys, (ap (λ (v : List ℕ). v ∷ ys) (sym e.0), e.1)))
splits (z ∷ xs) x al [] y bs h = let e = head_same z y (xs ++ x ∷ al) bs h in inr (inr (xs, (ap (λ (v : List ℕ). v ∷ xs) e.0, sym e.1)))
splits (z ∷ xs) x al (w ∷ ys) y bs h = let e = head_same z w (xs ++ x ∷ al) (ys ++ y ∷ bs) h in onto z w xs x al ys y bs e.0 (splits xs x al ys y bs e.1)

-- what begins a text with more lines begins it
fewer : (ls mid : Lines) → Begins (ls ++ mid) → Begins ls
fewer ls mid b =
    let same : lines_text (ls ++ mid) ++ b.0 ≡ lines_text ls ++ (lines_text mid ++ b.0) =
    ap (λ (t : List ℕ). t ++ b.0) (flat_map-append (λ (l : List ℕ). l ++ 10 ∷ []) ls mid) ∙ append_assoc (lines_text ls) (lines_text mid) b.0 in
    (lines_text mid ++ b.0, (b.1.0, subst (λ (t : List ℕ). DefinitionText t b.1.0) same b.1.1))

not_before : (text : List ℕ) (m n : ℕ) (j k : DefKind) (f : DefinitionFault text m j) (g : DefinitionFault text n k) (mid : Lines) → g.earlier ≡ f.earlier ++ f.line ∷ mid → f.later ≡ mid ++ g.line ∷ g.later → ⊥
not_before text m n j k f g mid is rest =
    let some : 0 < length f.later = omega (arith, ap length rest, length-append mid (g.line ∷ g.later)) in
    let begun : Begins ((f.earlier ++ f.line ∷ []) ++ mid) = subst Begins (is ∙ sym (append_assoc f.earlier (f.line ∷ []) mid)) g.begins in
    (f.whole some).0 (fewer (f.earlier ++ f.line ∷ []) mid begun)

same_kind : (j k : DefKind) → ◌≡◌ {A = Option DefKind} (Some j) (Some k) → j ≡ k
same_kind j k h = cc

not_both : Bytes → (ls : Lines) (d e : Definition) → DefinitionText (lines_text (ls ++ codes "end" ∷ [])) d → DefinitionText (lines_text ls) e → ⊥
not_both bytes ls d e a b =
    let longer : DefinitionText (lines_text ls ++ lines_text (codes "end" ∷ [])) d = subst (λ (t : List ℕ). DefinitionText t d) (with_end ls) a in
    let none : lines_text (codes "end" ∷ []) ≡ [] = nothing_more (lines_text ls) (lines_text (codes "end" ∷ [])) e d (is_read bytes (lines_text ls) e b) (is_read bytes (lines_text ls ++ lines_text (codes "end" ∷ [])) d longer) in
    let n : length (lines_text (codes "end" ∷ [])) ≡ 0 = ap length none in absurd (omega arith)

one_wrong : Bytes → (v : Version) (ls : Lines) (line : List ℕ) (j k : DefKind) → IsWrong v ls line j → IsWrong v ls line k → j ≡ k
one_wrong bytes v ls line j k (inl a) (inl b) =
    let text : List ℕ = lines_text (ls ++ codes "end" ∷ []) in
    let same : a.0 ≡ b.0 = same_ok {E = DefFault} a.0 b.0 (sym (is_read bytes text a.0 a.1.0) ∙ is_read bytes text b.0 b.1.0) in
    same_kind j k (sym a.1.1 ∙ ap (λ (d : Definition). first_kind (line_kinds v d (pieces 32 line))) same ∙ b.1.1)
one_wrong bytes v ls line j k (inl a) (inr b) = absurd (not_both bytes ls a.0 b.0.0 a.1.0 b.0.1)
one_wrong bytes v ls line j k (inr a) (inl b) = absurd (not_both bytes ls b.0 a.0.0 b.1.0 a.0.1)
one_wrong bytes v ls line j k (inr a) (inr b) = a.1 ∙ sym b.1

one_behind : Bytes → (v : Version) (first : List ℕ) (ls : Lines) (line : List ℕ) (j k : DefKind) → KindBehind v first ls line j → KindBehind v first ls line k → j ≡ k
one_behind bytes v first [] line j k a b = same_kind j k (sym a ∙ b)
one_behind bytes v first (n ∷ ls) line j k a b = one_wrong bytes v (first ∷ n ∷ ls) line j k a b

same_some : (v w : Version) → ◌≡◌ {A = Option Version} (Some v) (Some w) → v ≡ w
same_some v w h = cc

same_version : (v w : Version) → title v ≡ title w → v ≡ w
same_version v w h = same_some v w (sym (version-title v) ∙ ap version_of h ∙ version-title w)

one_kind : Bytes → (ls : Lines) (line : List ℕ) (j k : DefKind) → KindOf ls line j → KindOf ls line k → j ≡ k
one_kind bytes [] line j k a b = a ∙ sym b
one_kind bytes (t ∷ ls) line j k a b =
    let same : b.0 ≡ a.0 = same_version b.0 a.0 (sym b.1.0 ∙ a.1.0) in
    one_behind bytes a.0 t ls line j k a.1.1 (subst (λ (v : Version). KindBehind v t ls line k) same b.1.1)

by_later : Bytes → (text : List ℕ) (m n : ℕ) (j k : DefKind) (f : DefinitionFault text m j) (g : DefinitionFault text n k) (later : Lines) → f.later ≡ later → f.earlier ≡ g.earlier → f.line ≡ g.line → f.later ≡ g.later → j ≡ k
by_later bytes text m n j k f g [] is e l r = f.cut (ap length is) ∙ sym (g.cut (ap length (sym r ∙ is)))
by_later bytes text m n j k f g (x ∷ xs) is e l r =
    let some : 0 < length f.later = omega (arith, ap length is) in
    let more : 0 < length g.later = omega (arith, ap length is, ap length r) in
    one_kind bytes f.earlier f.line j k (f.whole some).1 (subst (λ (ls : Lines). KindOf ls f.line k) (sym e) (subst (λ (t : List ℕ). KindOf g.earlier t k) (sym l) (g.whole more).1))

one_fault : Bytes → (text : List ℕ) (m n : ℕ) (j k : DefKind) (f : DefinitionFault text m j) (g : DefinitionFault text n k) → Splits f.earlier f.line f.later g.earlier g.line g.later → (m ≡ n) × (j ≡ k)
one_fault bytes text m n j k f g (inl s) = (f.number_is ∙ ap (λ (ls : Lines). length ls + 1) s.0 ∙ sym g.number_is, by_later bytes text m n j k f g f.later refl s.0 s.1.0 s.1.1)
one_fault bytes text m n j k f g (inr (inl s)) = absurd (not_before text m n j k f g s.0 s.1.0 s.1.1)
one_fault bytes text m n j k f g (inr (inr s)) = absurd (not_before text n m k j g f s.0 s.1.0 s.1.1)

given : Bytes → (text : List ℕ) (n : ℕ) (k : DefKind) (r : Result Definition DefFault) → text_at text ≡ r → DefinitionFault text n k → r ≡ Err (fault n k)
given bytes text n k (Ok d) is g = absurd (g.none (d, in_grammar text d is))
given bytes text n k (Err f) is g =
    let h = first_fault bytes text f is in
    let same = one_fault bytes text f.line n f.kind k h g (splits h.earlier h.line h.later g.earlier g.line g.later (sym h.lines ∙ g.lines)) in
    let error : DefFault → Result Definition DefFault = λ (e : DefFault). Err e in
    ap error (ap (λ (m : ℕ). fault m f.kind) same.0 ∙ ap (fault n) same.1)

-- the fault of a text is what reading gives
pub fault_is_given : Bytes → (text : List ℕ) (n : ℕ) (k : DefKind) → DefinitionFault text n k → text_at text ≡ Err (fault n k)
fault_is_given bytes text n k g = given bytes text n k (text_at text) refl g
