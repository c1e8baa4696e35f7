-- Events that are taken one after another.
use Rattle.std.proofs.Common.{◌≡◌, ◌≤◌, ◌<◌, ◌+◌, ℕ, zero, suc, List, [], ◌∷◌, ◌++◌, length, take, drop, min, map, Option, Some, None, ◌∙◌, refl, sym, ap, subst, arith, append-nil, take-append-drop, take_all}
use Rattle.std.specs.List.{slice_get}
use Rattle.std.proofs.lemmas.List.{drop-drop, length-drop}
use Rattle.sn_ports.specs.Octets.{Octets}
use Rattle.sn_ports.specs.Links.{LinkEvent, bytes, ticks, with_rest, IsFront, KeepsEvents, GivesWhatFits, AreLeft, events_left, event_of}
use Rattle.sn_ports.specs.declared.links.Event.{Event}
use Rattle.sn_ports.specs.declared.links.Event.TheVariants as event
use Rattle.sn_ports.specs.declared.links.Fed.TheVariants as fed

pub keeps_events-trans : (a b c : Option (List LinkEvent)) → KeepsEvents a b → KeepsEvents b c → KeepsEvents a c
keeps_events-trans None b c p q = tt
keeps_events-trans (Some x) None c p q = absurd p
keeps_events-trans (Some x) (Some y) None p q = absurd q
keeps_events-trans (Some x) (Some y) (Some z) p q = q ∙ p

-- ---- events that are played

-- the list from an element on
from_item : {A : Type 0} (xs : List A) (i : ℕ) (x : A) → slice_get xs i ≡ Some x → drop i xs ≡ x ∷ drop (suc i) xs
from_item [] i x h = absurd cc
from_item (y ∷ xs) zero x h = let same : y ≡ x = cc in ap (λ z. z ∷ xs) same
from_item (y ∷ xs) (suc i) x h = from_item xs i x h

from_event : (es : List Event) (i : ℕ) (e : Event) → slice_get es i ≡ Some e → drop i es ≡ e ∷ drop (i + 1) es
from_event es i e h =
    let next : suc i ≡ i + 1 = omega arith in
    from_item es i e h ∙ ap (λ (k : ℕ). e ∷ drop k es) next

with_some : (rest : List ℕ) (others : List LinkEvent) → 0 < length rest → with_rest rest others ≡ bytes rest ∷ others
with_some [] others h = absurd (omega (arith, h))
with_some (b ∷ rest) others h = refl

none_given : (es : List Event) → events_left 0 es ≡ map event_of es
none_given [] = refl
none_given (event.Bytes t ∷ es) = refl
none_given (event.Ticks n ∷ es) = refl

-- part of the bytes of an event is given
pub front_given : (es : List Event) (at given n : ℕ) (t : Octets) (into : List ℕ) → slice_get es at ≡ Some (event.Bytes t) → n < length (drop given t.bytes)
    → take n into ≡ take n (drop given t.bytes) → IsFront (events_left given (drop at es)) (events_left (given + n) (drop at es)) (take n into)
front_given es at given n t into is part same =
    let here : drop at es ≡ event.Bytes t ∷ drop (at + 1) es = from_event es at (event.Bytes t) is in
    let others = map event_of (drop (at + 1) es) in
    let rest = drop (given + n) t.bytes in
    let some : 0 < length rest = omega (arith, part, length-drop given t.bytes, length-drop (given + n) t.bytes) in
    let whole : take n into ++ rest ≡ drop given t.bytes = ap (λ (p : List ℕ). p ++ rest) same ∙ ap (λ (r : List ℕ). take n (drop given t.bytes) ++ r) (sym (drop-drop n given t.bytes)) ∙ take-append-drop n (drop given t.bytes) in
    record {
      rest = rest;
      others = others;
      next = ap (events_left given) here ∙ ap (λ (b : List ℕ). bytes b ∷ others) (sym whole);
      left = ap (events_left (given + n)) here ∙ sym (with_some rest others some);
    }

-- what was left of the bytes of an event is given
pub all_given : (es : List Event) (at given n : ℕ) (t : Octets) (into : List ℕ) → slice_get es at ≡ Some (event.Bytes t) → length (drop given t.bytes) ≤ n
    → take n into ≡ take n (drop given t.bytes) → IsFront (events_left given (drop at es)) (events_left 0 (drop (at + 1) es)) (take n into)
all_given es at given n t into is whole same =
    let here : drop at es ≡ event.Bytes t ∷ drop (at + 1) es = from_event es at (event.Bytes t) is in
    let others = map event_of (drop (at + 1) es) in
    let all : take n into ++ [] ≡ drop given t.bytes = append-nil (take n into) ∙ same ∙ take_all n (drop given t.bytes) whole in
    record {
      rest = [];
      others = others;
      next = ap (events_left given) here ∙ ap (λ (b : List ℕ). bytes b ∷ others) (sym all);
      left = none_given (drop (at + 1) es);
    }

-- as many bytes of an event are given as there is room for
pub what_fits : (es : List Event) (at given n room : ℕ) (t : Octets) → slice_get es at ≡ Some (event.Bytes t) → n ≡ min (length (drop given t.bytes)) room
    → GivesWhatFits (events_left given (drop at es)) room (fed.Bytes n)
what_fits es at given n room t is fits =
    let here : drop at es ≡ event.Bytes t ∷ drop (at + 1) es = from_event es at (event.Bytes t) is in
    subst (λ (l : List Event). GivesWhatFits (events_left given l) room (fed.Bytes n)) (sym here) fits

-- blocks are given
pub ticks_given : (es : List Event) (at given n : ℕ) → slice_get es at ≡ Some (event.Ticks n) → AreLeft given (drop at es)
    → events_left given (drop at es) ≡ ticks n ∷ events_left given (drop (at + 1) es)
ticks_given es at given n is left =
    let here : drop at es ≡ event.Ticks n ∷ drop (at + 1) es = from_event es at (event.Ticks n) is in
    let first : AreLeft given (event.Ticks n ∷ drop (at + 1) es) = subst (λ (l : List Event). AreLeft given l) here left in
    let none : given ≡ 0 = first.0 in
    let others : events_left given (drop (at + 1) es) ≡ map event_of (drop (at + 1) es) =
    ap (λ (g : ℕ). events_left g (drop (at + 1) es)) none ∙ none_given (drop (at + 1) es) in
    ap (events_left given) here ∙ ap (λ (l : List LinkEvent). ticks n ∷ l) (sym others)
