-- Events that were taken, in whatever pieces, give what they give whole.
use Rattle.std.proofs.Common.{◌≡◌, ℕ, ◌+◌, ◌<◌, Bool, true, false, List, [], ◌∷◌, ◌++◌, length, refl, sym, ap, subst, ◌∙◌, append-nil, arith, ◌⊎◌, inl, inr}
use Rattle.std.specs.Prelude.{if◌then◌else◌}
use Rattle.std.proofs.lemmas.List.{length-append}
use Rattle.sn_ports.specs.Links.{LinkEvent, bytes, ticks, with_rest, IsFront, Takes}
use Rattle.sn_pcm.specs.declared.settings.Settings.{Settings}
use Rattle.sn_server.specs.declared.ended.Ended.{Ended}
use Rattle.sn_server.specs.declared.ended.Ended.TheVariants.{Closed, Cut}
use Rattle.sn_server.specs.PlayEvents.{Over, Course, going, ended, event, is_worn, worn, after_event, after_events, at_end, closing, closed, beginning, over_events, bytes_in}
use Rattle.sn_server.specs.Served.{TakesEach}
use Rattle.sn_server.proofs.JoiningLemmas.{fed_to, fed_event, joins_course}

taken_piece : (c : Course) (old between : List LinkEvent) (piece : List ℕ) → fed_to c + bytes_in old < 4611686018427387904 → IsFront old between piece
    → (after_events old c ≡ after_events between (after_event (bytes piece) c)) × (fed_to (after_event (bytes piece) c) + bytes_in between < 4611686018427387904)
taken_piece c old between piece few front = subst (λ b. (after_events old c ≡ after_events b (after_event (bytes piece) c)) × (fed_to (after_event (bytes piece) c) + bytes_in b < 4611686018427387904)) (sym front.left) (at front.rest front.next)
  where
    at : (rest : List ℕ) → old ≡ bytes (piece ++ rest) ∷ front.others
        → (after_events old c ≡ after_events (with_rest rest front.others) (after_event (bytes piece) c)) × (fed_to (after_event (bytes piece) c) + bytes_in (with_rest rest front.others) < 4611686018427387904)
    at [] next =
        let all : old ≡ bytes piece ∷ front.others = next ∙ ap (λ (l : List ℕ). bytes l ∷ front.others) (append-nil piece) in
        (ap (λ es. after_events es c) all, omega (arith, few, ap (λ es. bytes_in es) all, fed_event (bytes piece) c))
    at (r ∷ rest) next =
        let sizes : bytes_in old ≡ length (piece ++ r ∷ rest) + bytes_in front.others = ap (λ es. bytes_in es) next in
        let size : length (piece ++ r ∷ rest) ≡ length piece + length (r ∷ rest) = length-append piece (r ∷ rest) in (
          ap (λ es. after_events es c) next ∙ sym (ap (after_events front.others) (joins_course c piece (r ∷ rest) (omega (arith, few, sizes, size)))),
          omega (arith, few, sizes, size, fed_event (bytes piece) c),
        )

taken_event : (c : Course) (old between : List LinkEvent) (e : LinkEvent) → fed_to c + bytes_in old < 4611686018427387904 → Takes old between e
    → (after_events old c ≡ after_events between (after_event e c)) × (fed_to (after_event e c) + bytes_in between < 4611686018427387904)
taken_event c old between (bytes piece) few front = taken_piece c old between piece few front
taken_event c old between (ticks n) few is = (ap (λ es. after_events es c) is, omega (arith, few, ap (λ es. bytes_in es) is, fed_event (ticks n) c))

taken_events : (events : List LinkEvent) (c : Course) (old new : List LinkEvent) → fed_to c + bytes_in old < 4611686018427387904 → TakesEach old events new
    → after_events old c ≡ after_events new (after_events events c)
taken_events [] c old new few is = ap (λ es. after_events es c) (sym is)
taken_events (e ∷ events) c old new few h =
    let (between, first, others) = h in
    let one = taken_event c old between e few first in
    one.0 ∙ taken_events events (after_event e c) between new one.1 others

ended_stays : (es : List LinkEvent) (o : Over) → after_events es (ended o) ≡ ended o
ended_stays [] o = refl
ended_stays (e ∷ es) o = ended_stays es o

-- an end that the taken events give is that of all events, if none is left unless it ended before
abbrev pub IsClosing : Ended → Type 0
IsClosing e = (e ≡ Closed) ⊎ ((n : ℕ) × (e ≡ Cut n))

closing_is : (kept : List ℕ) → IsClosing (closing kept)
closing_is [] = inl refl
closing_is (b ∷ bs) = inr (length (b ∷ bs), refl)

end_stays : (c : Course) (new : List LinkEvent) → (IsClosing (at_end c).ending → new ≡ []) → at_end (after_events new c) ≡ at_end c
end_stays (ended o) new last = ap (λ c. at_end c) (ended_stays new o)
end_stays (going v) [] last = refl
end_stays (going v) (e ∷ es) last = at (is_worn v) refl
  where
    none : e ∷ es ≡ [] → ⊥
    none h = absurd cc

    at : (x : Bool) → is_worn v ≡ x → at_end (after_events es (after_event e (going v))) ≡ at_end (going v)
    at true h =
        let stops : after_event e (going v) ≡ ended (worn v) = ap (λ (b : Bool). if b then ended (worn v) else event e v) h in
        let is : at_end (going v) ≡ worn v = ap (λ (b : Bool). if b then worn v else closed v) h in
        ap (λ d. at_end (after_events es d)) stops ∙ ap (λ c. at_end c) (ended_stays es (worn v)) ∙ sym is
    at false h =
        let is : at_end (going v) ≡ closed v = ap (λ (b : Bool). if b then worn v else closed v) h in
        absurd (none (last (subst (λ (o : Over). IsClosing o.ending) (sym is) (closing_is v.framing.kept))))

pub whole_end : (s : Settings) (base : ℕ) (events old new : List LinkEvent) → bytes_in old < 4611686018427387904 → TakesEach old events new
    → (IsClosing (over_events s base events).ending → new ≡ []) → over_events s base old ≡ over_events s base events
whole_end s base events old new few taken last =
    let c = going (beginning s base) in
    ap (λ d. at_end d) (taken_events events c old new (omega (arith, few)) taken) ∙ end_stays (after_events events c) new last
