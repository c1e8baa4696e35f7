-- Each step on the queue keeps its rule.
use Rattle.std.proofs.Common.{◌≡◌, ◌≢◌, ◌+◌, ◌++◌, ℕ, zero, suc, Bool, true, false, true≢false, List, [], ◌∷◌, length, length-set, length-append, set, All, sym, refl, ap, ◌∙◌, subst, ⊎_elim, append_assoc, append-nil, lt_of_not-le, arith}
use Rattle.std.specs.Prelude.{IfNone, MatchOption, None, Option, Some}
use Rattle.std.proofs.lemmas.List.{nil_from_length}
use Rattle.std.proofs.lemmas.List.Elements.{All-contains, All-nil, All-push, All-weaker, Contains-append_right}
use Rattle.std.proofs.lemmas.Option.{none-some}
use mathlib.Core.Option.{some, some-injective, some-ne-none}
use mathlib.Core.Logic.{dite}
use native.Mathlib.Decide.{dec_le}
use lib.ListN.{get_elem?}
use Rattle.std.proofs.Math.Seq.{take-append_seam}
use Rattle.crossbeam_queue.specs.Fifo.{Forks, Held, Learns, Merges, Pops, Pushes}
use Rattle.crossbeam_queue.proofs.Lists.{at_longer, at_set, set_else, set_here}
use Rattle.sn_clients.specs.declared.notes.Note.{Note}
use Rattle.sn_clients.specs.declared.ends.Sender.{Sender}
use Rattle.sn_clients.specs.declared.ends.End.{End}
use Rattle.sn_clients.specs.declared.ends.End.TheVariants.{Out, In, Gone}
use Rattle.sn_clients.specs.Notes.{frames_of, IsFront}
use Rattle.sn_clients.specs.Ends.{HasPutAs, gathered_in, gone, new_outlet, new_sender, next_inlet, sender_in, taken_in, with_frame, with_gathered, with_inlet, with_put}
use Rattle.sn_clients.specs.Delivery.{AllWereTaken, Delivers, Fits, Gives, HasPut, InletMoment, Moment, Put, Taken}
use Rattle.sn_clients.proofs.Lists.{at_push, at_within, get_seam}
use Rattle.sn_clients.proofs.NoteLemmas.{frames-append, has_frame, none_more, numbered_more, one_more}

abbrev is_out : End → Bool
is_out (Out clients taken gathered) = true
is_out (In s) = false
is_out Gone = false

abbrev is_gone : End → Bool
is_gone (Out clients taken gathered) = false
is_gone (In s) = false
is_gone Gone = true

-- an end is of one kind
out_in : {X : Type 0} (c : ℕ) (t : List Note) (g : List Sender) (s : Sender) → Out c t g ≡ In s → X
out_in c t g s e = absurd (true≢false (ap is_out e))

gone_in : {X : Type 0} (s : Sender) → Gone ≡ In s → X
gone_in s e = absurd (true≢false (ap is_gone e))

in_gone : {X : Type 0} (s : Sender) → In s ≡ Gone → X
in_gone s e = absurd (true≢false (sym (ap is_gone e)))

pub opens : Delivers [] (new_outlet ∷ [])
opens = record {
  clients = 0;
  taken = [];
  gathered = [];
  outlet = refl;
  fits = record {
    count = refl;
    inlets = λ place s at. alone place s at;
    ended = All-nil (Gives [] (new_outlet ∷ []));
    numbered = λ at note is. absurd (none-some note is);
    others = λ client le. refl;
  };
}
  where
    alone : (place : ℕ) (s : Sender) → get_elem? (new_outlet ∷ []) place ≡ some (In s) → (place ≡ s.client + 1) × HasPut [] s
    alone zero s e = out_in 0 [] [] s (some-injective new_outlet (In s) e)
    alone (suc place) s e = absurd (some-ne-none (In s) (sym e))

-- ---- an inlet puts a note

put_fits : (notes : List Note) (clients : ℕ) (gathered : List Sender) (ends : List End) (place : ℕ) (s : Sender) (x : Note) → Fits notes clients gathered ends → get_elem? ends place ≡ some (In s) → x.client ≡ s.client → x.number ≡ length s.frames
    → Fits (notes ++ x ∷ []) clients gathered (set ends place (In (with_frame s x.frame.bytes)))
put_fits notes clients gathered ends place s x h at c num =
    let w : End = In (with_frame s x.frame.bytes) in
    let mine = h.inlets place s at in
    let here = mine.0 in
    let within = at_within ends place (In s) at in
    let more : HasPut (notes ++ x ∷ []) (with_frame s x.frame.bytes) = ap (λ (l : List (List ℕ)). l ++ x.frame.bytes ∷ []) mine.1 ∙ sym (one_more s.client notes x c) in
    let same : (t : Sender) → t.client ≢ s.client → HasPut notes t → HasPut (notes ++ x ∷ []) t = λ t n put. put ∙ sym (none_more t.client notes x (λ e. n (sym e ∙ c))) in
    record {
      count = length-set ends place w ∙ h.count;
      inlets = λ j t at'. ⊎_elim
          (λ (m : (j ≡ place) × (w ≡ In t)). subst (λ (u : Sender). (j ≡ u.client + 1) × HasPut (notes ++ x ∷ []) u) (ap sender_in m.1) (m.0 ∙ here, more))
          (λ (o : (j ≢ place) × (get_elem? ends j ≡ some (In t))). let old = h.inlets j t o.1 in (old.0, same t (λ e. o.0 (old.0 ∙ ap (λ (k : ℕ). k + 1) e ∙ sym here)) old.1))
          (at_set ends place j w (In t) at');
      ended = All-weaker (Gives notes ends) (Gives (notes ++ x ∷ []) (set ends place w))
          (λ t gives. let apart : t.client + 1 ≢ place = (λ e. in_gone s (some-injective (In s) Gone (sym at ∙ ap (λ (i : ℕ). get_elem? ends i) (sym e) ∙ gives.1))) in
          (same t (λ e. apart (ap (λ (k : ℕ). k + 1) e ∙ sym here)) gives.0, set_else ends place (t.client + 1) w apart ∙ gives.1))
          gathered h.ended;
      numbered = numbered_more notes x h.numbered (num ∙ ap length mine.1 ∙ ap (λ (k : ℕ). length (frames_of k notes)) (sym c));
      others = λ client le. let counted = h.count in none_more client notes x (λ e. let e' : s.client ≡ client = sym c ∙ e in omega arith) ∙ h.others client le;
    }

pub puts : (n place client count : ℕ) (e : End) (x : Note) → HasPutAs client count e → x.client ≡ client → x.number ≡ count → Pushes Delivers n place e x (Put e x)
puts n place client count e x k c num items ends room h at =
    let s = sender_in e in
    let w = with_put e x.frame.bytes in
    let at' : get_elem? ends place ≡ some (In s) = at ∙ ap some k.0 in
    let mine = (h.fits.inlets place s at').0 in (
      w,
      record {
        clients = h.clients;
        taken = h.taken;
        gathered = h.gathered;
        outlet = set_else ends place 0 w (λ z. omega arith) ∙ h.outlet;
        fits = subst (λ (ns : List Note). Fits ns h.clients h.gathered (set ends place w)) (append_assoc h.taken items (x ∷ []))
            (put_fits (h.taken ++ items) h.clients h.gathered ends place s x h.fits at' (c ∙ sym k.1) (num ∙ sym k.2));
      },
      refl,
    )

pub inlet_sees : (place client count : ℕ) (e : End) → HasPutAs client count e → Learns Delivers place e (InletMoment (sender_in e))
inlet_sees place client count e k items ends h at =
    let s = sender_in e in
    let mine : get_elem? ends place ≡ some (In s) = at ∙ ap some k.0 in
    let here = (h.fits.inlets place s mine).0 in
    record { ends = ends; knows = subst (λ (p : ℕ). get_elem? ends p ≡ some (In s)) here mine; delivers = h }

-- ---- the outlet's steps

outlet_is : (items : List Note) (ends : List End) (e : End) (h : Delivers items ends) → get_elem? ends 0 ≡ some e → Out h.clients h.taken h.gathered ≡ e
outlet_is items ends e h at = some-injective (Out h.clients h.taken h.gathered) e (sym h.outlet ∙ at)

-- what the outlet knows may change
out_fits : (notes : List Note) (clients : ℕ) (gathered : List Sender) (ends : List End) (c : ℕ) (t : List Note) (g : List Sender) → Fits notes clients gathered ends → Fits notes clients gathered (set ends 0 (Out c t g))
out_fits notes clients gathered ends c t g h = record {
  count = length-set ends 0 (Out c t g) ∙ h.count;
  inlets = λ j s at. ⊎_elim (λ m. out_in c t g s m.1) (λ o. h.inlets j s o.1) (at_set ends 0 j (Out c t g) (In s) at);
  ended = All-weaker (Gives notes ends) (Gives notes (set ends 0 (Out c t g))) (λ s gives. (gives.0, set_else ends 0 (s.client + 1) (Out c t g) (λ e. omega arith) ∙ gives.1)) gathered h.ended;
  numbered = h.numbered;
  others = h.others;
}

takes_out : (x : Note) (items : List Note) (ends : List End) (c : ℕ) (t : List Note) (g : List Sender) → Fits (t ++ x ∷ items) c g ends → (w : End) × Delivers items (set ends 0 w) × Taken (Out c t g) x w
takes_out x items ends c t g h =
    let w = Out c (t ++ x ∷ []) g in
    let counted = h.count in (
      w,
      record {
        clients = c;
        taken = t ++ x ∷ [];
        gathered = g;
        outlet = set_here ends 0 w (omega arith);
        fits = subst (λ (ns : List Note). Fits ns c g (set ends 0 w)) (sym (append_assoc t (x ∷ []) items)) (out_fits (t ++ x ∷ items) c g ends c (t ++ x ∷ []) g h);
      },
      record {
        end = refl;
        client = dite (dec_le c x.client) (λ le. absurd (has_frame t items x (h.others x.client le))) (λ n. lt_of_not-le n);
        number = h.numbered (length t) x (get_seam t items x) ∙ ap (λ (ns : List Note). length (frames_of x.client ns)) (take-append_seam t (x ∷ items));
        fronts = All-weaker (Gives (t ++ x ∷ items) ends) (λ (s : Sender). IsFront (frames_of s.client (t ++ x ∷ [])) s.frames)
            (λ s gives. (frames_of s.client items, gives.0 ∙ ap (frames_of s.client) (sym (append_assoc t (x ∷ []) items)) ∙ frames-append s.client (t ++ x ∷ []) items)) g h.ended;
      },
    )

pub takes : (place : ℕ) (e : End) → place ≡ 0 → Pops Delivers place e (Taken e)
takes place e first = subst (λ (p : ℕ). Pops Delivers p e (Taken e)) (sym first)
    (λ x items ends h at. subst (λ (f : End). (w : End) × Delivers items (set ends 0 w) × Taken f x w) (outlet_is (x ∷ items) ends e h at) (takes_out x items ends h.clients h.taken h.gathered h.fits))

pub outlet_sees : (place : ℕ) (e : End) → place ≡ 0 → Learns Delivers place e (Moment 0 e)
outlet_sees place e first = subst (λ (p : ℕ). Learns Delivers p e (Moment 0 e)) (sym first) (λ items ends h at. record { ends = ends; knows = at; delivers = h })

-- the frames of each client that was gathered are those that were taken of it and those that wait
gathered_are : (e : End) (items : List Note) → Moment 0 e items → All (HasPut (taken_in e ++ items)) (gathered_in e)
gathered_are e items m =
    let h = m.delivers in
    subst (λ (f : End). All (HasPut (taken_in f ++ items)) (gathered_in f)) (outlet_is items m.ends e h m.knows)
    (All-weaker (Gives (h.taken ++ items) m.ends) (HasPut (h.taken ++ items)) (λ s gives. gives.0) h.gathered h.fits.ended)

seat_fits : (notes : List Note) (c : ℕ) (t : List Note) (g : List Sender) (ends : List End) → Fits notes c g ends → Fits notes (c + 1) g (set ends 0 (Out (c + 1) t g) ++ In (new_sender c) ∷ [])
seat_fits notes c t g ends h =
    let left : End = Out (c + 1) t g in
    let right : End = In (new_sender c) in
    let old = out_fits notes c g ends (c + 1) t g h in
    record {
      count = omega (arith, length-append (set ends 0 left) (right ∷ []), old.count);
      inlets = λ j s at. ⊎_elim
          (λ o. old.inlets j s o)
          (λ m. subst (λ (u : Sender). (j ≡ u.client + 1) × HasPut notes u) (ap sender_in m.1) (m.0 ∙ old.count, sym (h.others c (omega arith))))
          (at_push (set ends 0 left) right (In s) j at);
      ended = All-weaker (Gives notes (set ends 0 left)) (Gives notes (set ends 0 left ++ right ∷ [])) (λ s gives. (gives.0, at_longer (set ends 0 left) (right ∷ []) (s.client + 1) Gone gives.1)) g old.ended;
      numbered = h.numbered;
      others = λ client le. h.others client (omega arith);
    }

pub seats : (place : ℕ) (e : End) → place ≡ 0 → Forks Delivers place e (with_inlet e) (next_inlet e)
seats place e first = subst (λ (p : ℕ). Forks Delivers p e (with_inlet e) (next_inlet e)) (sym first)
    (λ items ends h at. subst (λ (f : End). Delivers items (set ends 0 (with_inlet f) ++ next_inlet f ∷ [])) (outlet_is items ends e h at) (
    let left : End = Out (h.clients + 1) h.taken h.gathered in
    let counted = h.fits.count in
    record {
      clients = h.clients + 1;
      taken = h.taken;
      gathered = h.gathered;
      outlet = at_longer (set ends 0 left) (In (new_sender h.clients) ∷ []) 0 left (set_here ends 0 left (omega arith));
      fits = seat_fits (h.taken ++ items) h.clients h.taken h.gathered ends h.fits;
    }))

gather_fits : (notes : List Note) (c : ℕ) (g : List Sender) (ends : List End) (other : ℕ) (s : Sender) → Fits notes c g ends → get_elem? ends other ≡ some (In s) → Fits notes c (g ++ s ∷ []) (set ends other Gone)
gather_fits notes c g ends other s h at =
    let mine = h.inlets other s at in
    record {
      count = length-set ends other Gone ∙ h.count;
      inlets = λ j t at'. ⊎_elim (λ m. gone_in t m.1) (λ o. h.inlets j t o.1) (at_set ends other j Gone (In t) at');
      ended = All-push (Gives notes (set ends other Gone)) g s
          (All-weaker (Gives notes ends) (Gives notes (set ends other Gone))
          (λ t gives. (gives.0, set_else ends other (t.client + 1) Gone (λ e. in_gone s (some-injective (In s) Gone (sym at ∙ ap (λ (i : ℕ). get_elem? ends i) (sym e) ∙ gives.1))) ∙ gives.1)) g h.ended)
          (mine.1, ap (λ (i : ℕ). get_elem? (set ends other Gone) i) (sym mine.0) ∙ set_here ends other Gone (at_within ends other (In s) at));
      numbered = h.numbered;
      others = h.others;
    }

pub gathers : (place : ℕ) (e : End) (other client count : ℕ) (f : End) → place ≡ 0 → HasPutAs client count f → Merges Delivers place e other f (with_gathered e (sender_in f)) gone
gathers place e other client count f first k = subst (λ (p : ℕ). Merges Delivers p e other f (with_gathered e (sender_in f)) gone) (sym first)
    (λ items ends h at apart at'. let both : End = with_gathered e (sender_in f) in
    let is = outlet_is items ends e h at in
    let both' : End = Out h.clients h.taken (h.gathered ++ sender_in f ∷ []) in
    let was : get_elem? (set ends 0 both') other ≡ some (In (sender_in f)) = set_else ends 0 other both' apart ∙ sym (set_else ends 0 other both apart) ∙ at' ∙ ap some k.0 in
    let counted = h.fits.count in
    subst (λ (x : End). Delivers items (set (set ends 0 (with_gathered x (sender_in f))) other Gone)) is (record {
      clients = h.clients;
      taken = h.taken;
      gathered = h.gathered ++ sender_in f ∷ [];
      outlet = set_else (set ends 0 both') other 0 Gone (λ z. apart (sym z)) ∙ set_here ends 0 both' (omega arith);
      fits = gather_fits (h.taken ++ items) h.clients h.gathered (set ends 0 both') other (sender_in f) (out_fits (h.taken ++ items) h.clients h.gathered ends h.clients h.taken (h.gathered ++ sender_in f ∷ []) h.fits) was;
    }))

-- ---- what a call tells

-- with nothing left in the queue
pub all_taken : (e : End) → Held 0 (Moment 0 e) → AllWereTaken e
all_taken e held =
    let items = held.0 in
    let are : All (HasPut (taken_in e ++ items)) (gathered_in e) = gathered_are e items held.2 in
    subst (λ (ns : List Note). All (HasPut ns) (gathered_in e)) (append-nil (taken_in e)) (subst (λ (xs : List Note). All (HasPut (taken_in e ++ xs)) (gathered_in e)) (nil_from_length items held.1) are)

-- of the client that was gathered last
pub are_front : (e : End) (s : Sender) → ((items : List Note) × Moment 0 (with_gathered e s) items) → IsFront (frames_of s.client (taken_in e)) s.frames
are_front e s known =
    let items = known.0 in
    let put : HasPut (taken_in e ++ items) s = All-contains (HasPut (taken_in e ++ items)) (gathered_in e ++ s ∷ []) s (gathered_are (with_gathered e s) items known.1) (Contains-append_right (gathered_in e) (s ∷ []) s (0, omega arith, refl)) in
    (frames_of s.client items, put ∙ frames-append s.client (taken_in e) items)

-- after an answer of `take`
pub none_waits : (r : Option Note) (e f : End) (taken : Note → Type 0) → MatchOption r ((f ≡ e) × Held 0 (Moment 0 e)) taken → IfNone r (Held 0 (Moment 0 e))
none_waits None e f taken h = h.1
none_waits (Some x) e f taken h = tt

pub none_left : (r : Option Note) (e f : End) (taken : Note → Type 0) → MatchOption r ((f ≡ e) × Held 0 (Moment 0 e)) taken → IfNone r (AllWereTaken e)
none_left None e f taken h = all_taken e h.1
none_left (Some x) e f taken h = tt
