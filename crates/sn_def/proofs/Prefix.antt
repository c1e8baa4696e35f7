-- What follows a text that is read.
use Rattle.std.proofs.Common.{◌≡◌, ℕ, ◌+◌, ◌<◌, ◌==◌, Bool, true, false, cond, List, [], ◌∷◌, ◌++◌, length, Option, Some, None, Result, Ok, refl, sym, ap, ◌∙◌, arith, codes, length-append, eqb-true}
use Rattle.std.specs.Str.{bytes_eq}
use Rattle.std.specs.List.{join_with_byte, onto_first}
use Rattle.std.proofs.lemmas.Bool.{false_from_ne_true}
use Rattle.std.proofs.lemmas.List.Splits.{length-slice_split}
use Rattle.sn_def.specs.declared.fault.DefKind.TheVariants as wrong
use Rattle.sn_def.specs.declared.fault.DefFault.{DefFault}
use Rattle.sn_def.specs.declared.version.Version.{Version}
use Rattle.sn_def.specs.Definition.{Definition}
use Rattle.sn_def.specs.Versions.{version_of}
use Rattle.sn_def.specs.Reading.{pieces, line_at, fault, at_line, is_over, end_at, body_at, def_at, def_and_body, after_title, versioned_at, title_at, text_at}
use Rattle.sn_def.proofs.Lines.{joined}
use Rattle.sn_def.proofs.Forming.{past, steps, end_same}
use Rattle.sn_def.proofs.Whole.{is_over-last, end_over}

pub some_pieces : (c : ℕ) (text : List ℕ) → 0 < length (pieces c text)
some_pieces c text = omega (arith, length-slice_split (λ x. x == c) text)

pub no_pieces : (c : ℕ) (text : List ℕ) → pieces c text ≡ [] → ⊥
no_pieces c text h = let n : length (pieces c text) ≡ 0 = ap length h in let m = some_pieces c text in omega arith

pub head_same : (x y : List ℕ) (xs ys : List (List ℕ)) → x ∷ xs ≡ y ∷ ys → (x ≡ y) × (xs ≡ ys)
head_same x y xs ys h = (cc, cc)

-- what follows a last line feed is cut by itself
with_more : (x : ℕ) (same : Bool) (ps qs end ls : List (List ℕ)) → 0 < length ps → cond same ([] ∷ ps) (onto_first x ps) ≡ ls ++ [] ∷ [] → ((ms : List (List ℕ)) → ps ≡ ms ++ [] ∷ [] → qs ≡ ms ++ end) → cond same ([] ∷ qs) (onto_first x qs) ≡ ls ++ end
with_more x true ps qs end [] some h more =
    let e = head_same [] [] ps [] h in
    let n : length ps ≡ 0 = ap length e.1 in absurd (omega arith)
with_more x true ps qs end (l ∷ ls) some h more =
    let e = head_same [] l ps (ls ++ [] ∷ []) h in
    ap (λ (t : List (List ℕ)). [] ∷ t) (more ls e.1) ∙ ap (λ (p : List ℕ). p ∷ (ls ++ end)) e.0
with_more x false [] qs end ls some h more = absurd (omega arith)
with_more x false (p ∷ ps) qs end [] some h more =
    let e = head_same (x ∷ p) [] ps [] h in
    let n : length (x ∷ p) ≡ 0 = ap length e.0 in absurd (omega arith)
with_more x false (p ∷ ps) qs end (l ∷ ls) some h more =
    let e = head_same (x ∷ p) l ps (ls ++ [] ∷ []) h in
    ap (onto_first x) (more (p ∷ ls) (ap (λ (t : List (List ℕ)). p ∷ t) e.1)) ∙ ap (λ (q : List ℕ). q ∷ (ls ++ end)) e.0

pub pieces_more : (c : ℕ) (text more : List ℕ) (ls : List (List ℕ)) → pieces c text ≡ ls ++ [] ∷ [] → pieces c (text ++ more) ≡ ls ++ pieces c more
pieces_more c [] more [] h = refl
pieces_more c [] more (l ∷ ls) h =
    let e = head_same [] l [] (ls ++ [] ∷ []) h in
    let n : 0 ≡ length (ls ++ [] ∷ []) = ap length e.1 in absurd (omega (arith, length-append ls ([] ∷ [])))
pieces_more c (x ∷ xs) more ls h = with_more x (x == c) (pieces c xs) (pieces c (xs ++ more)) (pieces c more) ls (some_pieces c xs) h (λ ms e. pieces_more c xs more ms e)

-- lines that are read, whatever follows them: the line `end` has the number last
pub record Stops (v : Version) (at : ℕ) (d e : Definition) (lines : List (List ℕ)) : Type 0 where
  pub before : List (List ℕ)
  pub last : ℕ
  pub lines_are : lines ≡ before ++ [] ∷ []
  pub goes_on : (more : List (List ℕ)) → 0 < length more → body_at v at d (before ++ more) ≡ end_at last e more

pub long : (xs : List (List ℕ)) → 0 < length xs → (length xs == 0) ≡ false
long xs h = false_from_ne_true (length xs == 0) (λ t. let z : length xs ≡ 0 = eqb-true (length xs) 0 t in omega arith)

stop_here : (v : Version) (at : ℕ) (d e : Definition) (text : List ℕ) (after : List (List ℕ)) → bytes_eq text (codes "end") ≡ true → end_at at d after ≡ Ok e → Stops v at d e (text ∷ after)
unfolding body_at
stop_here v at d e text after is h = record {
  before = text ∷ [];
  last = at;
  lines_are = ap (λ (ls : List (List ℕ)). text ∷ ls) (is_over-last after (end_over d e (is_over after) (fault (at + 1) wrong.Line) h));
  goes_on = λ more some. rw (long more some, is) (ap (λ (g : Definition). end_at at g more) (end_same at d e after h));
}

later : (v : Version) (at : ℕ) (d n e : Definition) (text : List ℕ) (after : List (List ℕ)) → bytes_eq text (codes "end") ≡ false → at_line at (line_at v d (pieces 32 text)) ≡ Ok n → Stops v (at + 1) n e after → Stops v at d e (text ∷ after)
unfolding body_at
later v at d n e text after is read s = record {
  before = text ∷ s.before;
  last = s.last;
  lines_are = ap (λ (ls : List (List ℕ)). text ∷ ls) s.lines_are;
  goes_on = λ more some. rw (long (s.before ++ more) (omega (arith, length-append s.before more)), is, read) (s.goes_on more some);
}

which : {X E P : Type 0} (b : Bool) (r s : Result X E) (x : X) → (b ≡ true → r ≡ Ok x → P) → (b ≡ false → s ≡ Ok x → P) → cond b r s ≡ Ok x → P
which true r s x f g h = f refl h
which false r s x f g h = g refl h

pub stops : (v : Version) (at : ℕ) (d e : Definition) (lines : List (List ℕ)) → body_at v at d lines ≡ Ok e → Stops v at d e lines
unfolding body_at
stops v at d e [] h = cc
stops v at d e (text ∷ after) h =
    let a = past (length after == 0) (fault at wrong.Line) _ e h in
    which (bytes_eq text (codes "end")) (end_at at d after) _ e (stop_here v at d e text after)
    (λ is q. let p = steps (at_line at (line_at v d (pieces 32 text))) _ e q in later v at d p.0 e text after is p.1 (stops v (at + 1) p.0 e after p.2)) a.1

-- a text that is read, and more
pub record Ends (e : Definition) (lines : List (List ℕ)) : Type 0 where
  pub before : List (List ℕ)
  pub last : ℕ
  pub lines_are : lines ≡ before ++ [] ∷ []
  pub goes_on : (more : List (List ℕ)) → 0 < length more → title_at (before ++ more) ≡ end_at last e more

pub same_title : (first second : List ℕ) (rest : List (List ℕ)) (r : Result Definition DefFault) (v : Version) (d : Definition) → version_of first ≡ Some v → 0 < length rest → def_at v (pieces 32 second) ≡ Ok d → body_at v 3 d rest ≡ r → title_at (first ∷ second ∷ rest) ≡ r
same_title first second rest r v d is some read h =
    let two : (length (second ∷ rest) == 0) ≡ false = long (second ∷ rest) (omega arith) in
    let body : def_and_body v (pieces 32 second) rest ≡ r = rw read h in
    let after : after_title v (second ∷ rest) ≡ r = rw (long rest some) body in
    rw two (ap (λ (o : Option Version). versioned_at o (second ∷ rest)) is ∙ after)

versioned_ends : (e : Definition) (first second : List ℕ) (rest : List (List ℕ)) (o : Option Version) → version_of first ≡ o → versioned_at o (second ∷ rest) ≡ Ok e → Ends e (first ∷ second ∷ rest)
versioned_ends e first second rest None is h = cc
versioned_ends e first second rest (Some v) is h =
    let b = past (length rest == 0) (fault 2 wrong.Line) _ e h in
    let c = steps (def_at v (pieces 32 second)) _ e b.1 in
    let s = stops v 3 c.0 e rest c.2 in
    record {
      before = first ∷ second ∷ s.before;
      last = s.last;
      lines_are = ap (λ (ls : List (List ℕ)). first ∷ second ∷ ls) s.lines_are;
      goes_on = λ more some. same_title first second (s.before ++ more) (end_at s.last e more) v c.0 is (omega (arith, length-append s.before more)) c.1 (s.goes_on more some);
    }

title_ends : (e : Definition) (lines : List (List ℕ)) → title_at lines ≡ Ok e → Ends e lines
title_ends e [] h = cc
title_ends e (first ∷ []) h = cc
title_ends e (first ∷ second ∷ rest) h = versioned_ends e first second rest (version_of first) refl (past (length (second ∷ rest) == 0) (fault 1 wrong.Line) _ e h).1

-- what is read is read again before more lines: only if nothing follows
pub record Again (text : List ℕ) (e : Definition) : Type 0 where
  pub last : ℕ
  pub with_more : (more : List ℕ) → text_at (text ++ more) ≡ end_at last e (pieces 10 more)

pub text_more : (text : List ℕ) (e : Definition) → text_at text ≡ Ok e → Again text e
unfolding text_at
text_more text e h =
    let t = title_ends e (pieces 10 text) h in
    record { last = t.last; with_more = λ more. ap title_at (pieces_more 10 text more t.before t.lines_are) ∙ t.goes_on (pieces 10 more) (some_pieces 10 more) }

pub nothing_more : (text more : List ℕ) (d e : Definition) → text_at text ≡ Ok d → text_at (text ++ more) ≡ Ok e → more ≡ []
nothing_more text more d e h i =
    let a = text_more text d h in
    let over : is_over (pieces 10 more) ≡ true = end_over d e (is_over (pieces 10 more)) (fault (a.last + 1) wrong.Line) (sym (a.with_more more) ∙ i) in
    sym (joined 10 more) ∙ ap (join_with_byte 10) (is_over-last (pieces 10 more) over)
