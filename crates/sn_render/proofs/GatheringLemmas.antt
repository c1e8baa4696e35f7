-- A stream has one answer: its packets, or one refusal.
use Rattle.std.proofs.Common.{◌≡◌, ◌<◌, ◌≤◌, ◌⊎◌, ℕ, List, length, Option, Some, Result, Ok, Err, IfOk, IfErr, refl, sym, ap, subst, ◌∙◌, arith, inl, inr}
use Rattle.std.specs.Prelude.{IfSome}
use Rattle.sn_osc.specs.declared.fault.StreamFault.{StreamFault}
use Rattle.sn_osc.specs.Shape.{Shape}
use Rattle.sn_osc.specs.Frames.{Frames, StreamFaultAt}
use Rattle.sn_osc.proofs.Streams.{one_list, excluded, one_stream_fault}
use Rattle.sn_render.specs.Outcomes.{ArePacketsOf}
use Rattle.sn_render.specs.Gathering.{GathersOnly, HasRefusal, IsRefusalOf}
use Rattle.sn_render.specs.declared.gathering.Ungathered.{Ungathered}
use Rattle.sn_render.specs.declared.gathering.Ungathered.TheVariants.{NoMemory, ReadFault, LongStream, BadStream}

pub told : (P : List ℕ → Type 0) (stream : Option (List ℕ)) (bytes : List ℕ) → stream ≡ Some bytes → IfSome stream P → P bytes
told P stream bytes is h = subst (λ t. IfSome t P) is h

-- the bytes of a stream that is told are those of its packets
own_bytes : (stream : Option (List ℕ)) (bytes : List ℕ) (packets : List Shape) → stream ≡ Some bytes → (p : ArePacketsOf stream packets) → p.bytes ≡ bytes
own_bytes stream bytes packets is p = told (λ xs. p.bytes ≡ xs) stream bytes is p.told

pub bad_alone : (bytes : List ℕ) (packets : List Shape) (number place : ℕ) (fault : StreamFault) → StreamFaultAt bytes number place fault → Frames packets bytes → ⊥
bad_alone bytes packets number place fault s h = excluded packets s.before 0 bytes s.front s.rest place fault h s.frames s.parts s.why

-- packets leave no refusal
unrefused : (bytes : List ℕ) (packets : List Shape) (e : Ungathered) → length bytes ≤ 16777216 → Frames packets bytes → HasRefusal bytes e → ⊥
unrefused bytes packets NoMemory size frames has = has
unrefused bytes packets ReadFault size frames has = has
unrefused bytes packets (LongStream n) size frames has = omega (arith, size, has.1)
unrefused bytes packets (BadStream number place fault) size frames has = bad_alone bytes packets number place fault has.1 frames

same_bad : (k k' p p' : ℕ) (f f' : StreamFault) → k ≡ k' → p ≡ p' → f ≡ f' → BadStream k p f ≡ BadStream k' p' f'
same_bad k k' p p' f f' a b c = cc

one_refusal : (bytes : List ℕ) (a b : Ungathered) → HasRefusal bytes a → HasRefusal bytes b → a ≡ b
one_refusal bytes NoMemory b h h' = absurd h
one_refusal bytes ReadFault b h h' = absurd h
one_refusal bytes (LongStream n) (LongStream m) h h' = ap (λ k. LongStream k) (h.0 ∙ sym h'.0)
one_refusal bytes (LongStream n) (BadStream packet place fault) h h' = absurd (omega (arith, h.1, h'.0))
one_refusal bytes (LongStream n) b h h' = absurd h'
one_refusal bytes (BadStream packet place fault) (LongStream m) h h' = absurd (omega (arith, h.0, h'.1))
one_refusal bytes (BadStream packet place fault) (BadStream packet' place' fault') h h' =
    let a = h.1 in
    let b = h'.1 in
    let same = one_stream_fault a.before b.before 0 a.front a.rest b.front b.rest place place' fault fault' a.frames b.frames (sym a.parts ∙ b.parts) a.why b.why in
    same_bad packet packet' place place' fault fault' (sym a.count ∙ same.0 ∙ b.count) same.1 same.2
one_refusal bytes (BadStream packet place fault) b h h' = absurd h'

pub only_packets : {X : Type 0} (view : X → List Shape) (stream : Option (List ℕ)) (r : Result X Ungathered) (bytes : List ℕ) (packets : List Shape)
    → IfOk r (λ v. ArePacketsOf stream (view v)) → IfErr r (λ e. IsRefusalOf stream e) → stream ≡ Some bytes → length bytes ≤ 16777216 → Frames packets bytes
    → (r ≡ Err ReadFault → ⊥) → GathersOnly view r packets
only_packets view stream (Ok v) bytes packets p refused is size frames read =
    one_list (view v) packets bytes (subst (Frames (view v)) (own_bytes stream bytes (view v) is p) p.frames) frames
only_packets view stream (Err NoMemory) bytes packets p refused is size frames read = tt
only_packets view stream (Err ReadFault) bytes packets p refused is size frames read = read refl
only_packets view stream (Err (LongStream n)) bytes packets p refused is size frames read =
    unrefused bytes packets (LongStream n) size frames (refused.0, told (λ xs. 16777216 < length xs) stream bytes is refused.1)
only_packets view stream (Err (BadStream number place fault)) bytes packets p refused is size frames read =
    unrefused bytes packets (BadStream number place fault) size frames (told (λ xs. HasRefusal xs (BadStream number place fault)) stream bytes is refused)

pub only_refused : {X : Type 0} (view : X → List Shape) (stream : Option (List ℕ)) (r : Result X Ungathered) (bytes : List ℕ) (e : Ungathered)
    → IfOk r (λ v. ArePacketsOf stream (view v)) → IfErr r (λ e'. IsRefusalOf stream e') → stream ≡ Some bytes → HasRefusal bytes e
    → (r ≡ Err ReadFault → ⊥) → (r ≡ Err e) ⊎ (r ≡ Err NoMemory)
only_refused view stream (Ok v) bytes e p refused is has read =
    let same = own_bytes stream bytes (view v) is p in
    absurd (unrefused bytes (view v) e (subst (λ xs. length xs ≤ 16777216) same p.size) (subst (Frames (view v)) same p.frames) has)
only_refused view stream (Err NoMemory) bytes e p refused is has read = inr refl
only_refused view stream (Err ReadFault) bytes e p refused is has read = absurd (read refl)
only_refused view stream (Err (LongStream n)) bytes e p refused is has read =
    inl (ap (λ k. Err k) (one_refusal bytes (LongStream n) e (refused.0, told (λ xs. 16777216 < length xs) stream bytes is refused.1) has))
only_refused view stream (Err (BadStream number place fault)) bytes e p refused is has read =
    inl (ap (λ k. Err k) (one_refusal bytes (BadStream number place fault) e (told (λ xs. HasRefusal xs (BadStream number place fault)) stream bytes is refused) has))
