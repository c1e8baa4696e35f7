-- Acts, one after the other, and the turns that they are.
use Rattle.std.proofs.Common.{◌≡◌, ℕ, zero, suc, ◌<◌, ◌==◌, Bool, true, false, true≢false, if◌then◌else◌, eq-eqb, eqb-true, List, [], ◌∷◌, ◌++◌, length, map, refl, sym, ap, subst, ◌∙◌, arith}
use Rattle.std.specs.Prelude.{slice_index_or, slice_set}
use Rattle.std.proofs.lemmas.List.{get_or-set_other, get_or-set_same, map-append}
use Rattle.sn_clients.specs.declared.turns.Turn.{Turn}
use Rattle.sn_clients.specs.PlayMany.{Act, Played, Streams, WhileOpen, acted, acts_from, after_act, after_acts, arrives, blocks, next_act}
use Rattle.sn_clients.specs.Looping.{frames_in, numbers_in, turn_of}
use Rattle.sn_clients.specs.Notes.{IsFront}

pub act_done : (act : Act) (p : Played) → p.quit ≡ false → after_act act p ≡ acted act p
act_done act p e = ap (λ (b : Bool). if b then p else acted act p) e

pub one_act_more : (acts : List Act) (act : Act) (p : Played) → after_acts (acts ++ act ∷ []) p ≡ after_act act (after_acts acts p)
one_act_more [] act p = refl
one_act_more (a ∷ acts) act p = one_act_more acts act (after_act a p)

-- one more act of a session that goes on
pub acts_go_on : (acts : List Act) (act : Act) (p : Played) → (after_acts acts p).quit ≡ false → after_acts (acts ++ act ∷ []) p ≡ acted act (after_acts acts p)
acts_go_on acts act p e = one_act_more acts act p ∙ act_done act (after_acts acts p) e

-- nothing comes after `/quit` was accepted
stays_quit : (acts : List Act) (p : Played) → p.quit ≡ true → after_acts acts p ≡ p
stays_quit [] p e = refl
stays_quit (act ∷ acts) p e = ap (after_acts acts) (ap (λ (b : Bool). if b then p else acted act p) e) ∙ stays_quit acts p e

was_open : (acts : List Act) (p : Played) → (after_acts acts p).quit ≡ false → p.quit ≡ false
was_open acts p e = by p.quit refl
  where
    by : (b : Bool) → p.quit ≡ b → p.quit ≡ false
    by false q = q
    by true q = absurd (true≢false (sym q ∙ sym (ap (λ (r : Played). r.quit) (stays_quit acts p q)) ∙ e))

-- a session that goes on was open at all its acts
pub open_all : (acts : List Act) (p : Played) → (after_acts acts p).quit ≡ false → WhileOpen acts p
open_all [] p e = tt
open_all (act ∷ acts) p e = (was_open (act ∷ acts) p e, open_all acts (after_act act p) e)

-- and so is one that does one more
pub open_last : (acts : List Act) (act : Act) (p : Played) → (after_acts acts p).quit ≡ false → WhileOpen (acts ++ act ∷ []) p
open_last [] act p e = (e, tt)
open_last (a ∷ acts) act p e = (was_open (a ∷ acts) p e, open_last acts act (after_act a p) e)

grown : (b : Bool) (frame : List ℕ) (fs more : List (List ℕ)) → (if b then frame ∷ (fs ++ more) else fs ++ more) ≡ (if b then frame ∷ fs else fs) ++ more
grown true frame fs more = refl
grown false frame fs more = refl

pub frames_in-append : (c : ℕ) (xs ys : List Act) → frames_in c (xs ++ ys) ≡ frames_in c xs ++ frames_in c ys
frames_in-append c [] ys = refl
frames_in-append c (arrives client frame ∷ xs) ys = ap (λ (fs : List (List ℕ)). if client == c then frame ∷ fs else fs) (frames_in-append c xs ys) ∙ grown (client == c) frame (frames_in c xs) (frames_in c ys)
frames_in-append c (blocks n ∷ xs) ys = frames_in-append c xs ys

pub numbers_in-append : (xs ys : List Act) → numbers_in (xs ++ ys) ≡ numbers_in xs ++ numbers_in ys
numbers_in-append [] ys = refl
numbers_in-append (arrives client frame ∷ xs) ys = numbers_in-append xs ys
numbers_in-append (blocks n ∷ xs) ys = ap (λ (ns : List ℕ). n ∷ ns) (numbers_in-append xs ys)

pub turns-append : (acts : List Act) (act : Act) → map turn_of (acts ++ act ∷ []) ≡ map turn_of acts ++ turn_of act ∷ []
turns-append acts act = map-append turn_of acts (act ∷ [])

-- ---- from streams

own : (b : Bool) (frame : List ℕ) (fs : List (List ℕ)) → b ≡ true → (if b then frame ∷ fs else fs) ≡ frame ∷ fs
own true frame fs e = refl
own false frame fs e = absurd cc

others : (b : Bool) (frame : List ℕ) (fs : List (List ℕ)) → b ≡ false → (if b then frame ∷ fs else fs) ≡ fs
others true frame fs e = absurd cc
others false frame fs e = refl

-- a client that has a frame has a stream
has_stream : (streams : Streams) (c : ℕ) (frame : List ℕ) (rest : List (List ℕ)) → slice_index_or streams c [] ≡ frame ∷ rest → c < length streams
has_stream [] c frame rest e = absurd cc
has_stream (s ∷ ss) zero frame rest e = omega arith
has_stream (s ∷ ss) (suc c) frame rest e = let h = has_stream ss c frame rest e in omega arith

-- so the acts are those of their turns
pub acts_are : (acts : List Act) (streams : Streams) → ((c : ℕ) → IsFront (frames_in c acts) (slice_index_or streams c [])) → acts_from (map turn_of acts) streams ≡ acts
acts_are [] streams h = refl
acts_are (blocks n ∷ acts) streams h = ap (λ (rest : List Act). blocks n ∷ rest) (acts_are acts streams h)
acts_are (arrives client frame ∷ acts) streams h =
    let (rest, is) = h client in
    let all : slice_index_or streams client [] ≡ frame ∷ (frames_in client acts ++ rest) = is ∙ ap (λ (fs : List (List ℕ)). fs ++ rest) (own (client == client) frame (frames_in client acts) (eq-eqb client client refl)) in
    let left = frames_in client acts ++ rest in
    let next = slice_set streams client left in
    let within = has_stream streams client frame left all in
    ap (λ (fs : List (List ℕ)). next_act client streams fs (acts_from (map turn_of acts))) all
    ∙ ap (λ (later : List Act). arrives client frame ∷ later) (acts_are acts next (λ c. fronts c within (h c) rest))
  where
    fronts : (c : ℕ) → client < length streams → IsFront (frames_in c (arrives client frame ∷ acts)) (slice_index_or streams c []) → (rest : List (List ℕ)) → IsFront (frames_in c acts) (slice_index_or (slice_set streams client (frames_in client acts ++ rest)) c [])
    fronts c within f rest = by (client == c) refl
      where
        by : (b : Bool) → (client == c) ≡ b → IsFront (frames_in c acts) (slice_index_or (slice_set streams client (frames_in client acts ++ rest)) c [])
        by true e = subst (λ (k : ℕ). IsFront (frames_in k acts) (slice_index_or (slice_set streams client (frames_in client acts ++ rest)) k [])) (eqb-true client c e) (rest, get_or-set_same streams client (frames_in client acts ++ rest) [] within)
        by false e = (f.0, get_or-set_other streams client c (frames_in client acts ++ rest) [] (λ same. true≢false (sym (eq-eqb client c (sym same)) ∙ e)) ∙ f.1 ∙ ap (λ (fs : List (List ℕ)). fs ++ f.0) (others (client == c) frame (frames_in c acts) e))
