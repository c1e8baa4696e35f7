-- The frames of a client, note by note.
use Rattle.std.proofs.Common.{◌≡◌, ◌≢◌, ◌++◌, ◌≤◌, ℕ, Bool, true, false, ◌==◌, if◌then◌else◌, eq-eqb, ne_eqb, List, [], ◌∷◌, length, take, take_at, sym, refl, ap, ◌∙◌, subst, ⊎_elim, arith}
use Rattle.std.proofs.lemmas.List.{take-append-le}
use Rattle.sn_clients.specs.declared.notes.Note.{Note}
use Rattle.sn_clients.specs.Notes.{frames_of, AreNumbered}
use Rattle.sn_clients.proofs.Lists.{get_push}

grown : (b : Bool) (frame : List ℕ) (fs : List (List ℕ)) (more : List (List ℕ)) → (if b then frame ∷ (fs ++ more) else fs ++ more) ≡ (if b then frame ∷ fs else fs) ++ more
grown true frame fs more = refl
grown false frame fs more = refl

pub frames-append : (c : ℕ) (xs ys : List Note) → frames_of c (xs ++ ys) ≡ frames_of c xs ++ frames_of c ys
frames-append c [] ys = refl
frames-append c (x ∷ xs) ys = ap (λ (fs : List (List ℕ)). if x.client == c then x.frame.bytes ∷ fs else fs) (frames-append c xs ys) ∙ grown (x.client == c) x.frame.bytes (frames_of c xs) (frames_of c ys)

-- a client's own note adds its frame
pub one_more : (c : ℕ) (notes : List Note) (x : Note) → x.client ≡ c → frames_of c (notes ++ x ∷ []) ≡ frames_of c notes ++ x.frame.bytes ∷ []
one_more c notes x e = frames-append c notes (x ∷ []) ∙ ap (λ (b : Bool). frames_of c notes ++ (if b then x.frame.bytes ∷ [] else [])) (eq-eqb x.client c e)

-- another's adds none
pub none_more : (c : ℕ) (notes : List Note) (x : Note) → x.client ≢ c → frames_of c (notes ++ x ∷ []) ≡ frames_of c notes
none_more c [] x n = ap (λ (b : Bool). if b then x.frame.bytes ∷ [] else []) (ne_eqb x.client c n)
none_more c (y ∷ ys) x n = ap (λ (fs : List (List ℕ)). if y.client == c then y.frame.bytes ∷ fs else fs) (none_more c ys x n)

rest_is_nil : (b : Bool) (frame : List ℕ) (fs : List (List ℕ)) → (if b then frame ∷ fs else fs) ≡ [] → fs ≡ []
rest_is_nil true frame fs e = let long = ap length e in absurd (omega arith)
rest_is_nil false frame fs e = e

-- a client of whom a note stands there has a frame
pub has_frame : (before after : List Note) (x : Note) → frames_of x.client (before ++ x ∷ after) ≡ [] → ⊥
has_frame [] after x e =
    let fs = frames_of x.client after in
    let here : (if x.client == x.client then x.frame.bytes ∷ fs else fs) ≡ x.frame.bytes ∷ fs = ap (λ (b : Bool). if b then x.frame.bytes ∷ fs else fs) (eq-eqb x.client x.client refl) in
    let long : length (x.frame.bytes ∷ fs) ≡ 0 = ap length (sym here ∙ e) in absurd (omega arith)
has_frame (y ∷ ys) after x e = has_frame ys after x (rest_is_nil (y.client == x.client) y.frame.bytes (frames_of x.client (ys ++ x ∷ after)) e)

-- one more note of which the number is right
pub numbered_more : (notes : List Note) (x : Note) → AreNumbered notes → x.number ≡ length (frames_of x.client notes) → AreNumbered (notes ++ x ∷ [])
numbered_more notes x h e at note is = ⊎_elim
    (λ old. let lt = old.0 in
    let le : at ≤ length notes = omega arith in h at note old.1 ∙ ap (λ (ns : List Note). length (frames_of note.client ns)) (sym (take-append-le at notes (x ∷ []) le)))
    (λ new. subst (λ (y : Note). y.number ≡ length (frames_of y.client (take at (notes ++ x ∷ [])))) new.1 (e ∙ ap (λ (ns : List Note). length (frames_of x.client ns)) (sym (take_at notes (x ∷ []) at (sym new.0)))))
    (get_push notes x note at is)
