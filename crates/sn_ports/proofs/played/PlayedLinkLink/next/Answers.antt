use Rattle.std.proofs.Common.{◌≡◌, ◌<◌, ◌≤◌, ◌-◌, ◌+◌, List, ℕ, ◌∷◌, Some, length, take, drop, min, refl, ap, ◌∙◌, arith, subst, take_all, get_or}
use Rattle.std.specs.List.{slice_get}
use Rattle.std.proofs.lemmas.List.{length-drop}
use Rattle.std.proofs.lemmas.Option.{slice_get_read}
use Rattle.sn_ports.specs.Links.{ticks, IsFront, GivesWhatFits, events_left}
use Rattle.sn_ports.specs.declared.links.Event.TheVariants as event
use Rattle.sn_ports.specs.declared.links.Fed.TheVariants as fed
use Rattle.sn_ports.proofs.LinkLemmas.{front_given, all_given, what_fits, ticks_given}
use Rattle.sn_ports.proofs.played.PlayedLinkLink.next.Goals as goal

-- what is left of a text
rest_of : (text bytes : List ℕ) (given : ℕ) → text ≡ bytes → take (length text - given) (drop given text) ≡ drop given bytes
rest_of text bytes given is =
    take_all (length text - given) (drop given text) (omega (arith, length-drop given text)) ∙ ap (drop given) is

-- the element at a place
here_is : {A : Type 0} (es : List A) (at : ℕ) (x y : A) → at < length es → x ≡ get_or es at x → x ≡ y → slice_get es at ≡ Some y
here_is es at x y within is same = slice_get_read es (length es) at x refl within is ∙ ap (λ z. Some z) same

pub returns-then-count-left-clause-events : goal.returns-then-count-left-clause-events
returns-then-count-left-clause-events c =
    let i = c.self.inside in
    let n = c.give-count.result in
    let t = c.in-Some-Bytes.text in
    let is = ap (λ l. l.left) c.self.view_is in
    let at : slice_get i.events.items i.at ≡ Some (event.Bytes t) =
    subst (λ es. slice_get es i.at ≡ Some (event.Bytes t)) c.deref.ensures.value
    (here_is c.deref.result.now i.at c.in-Some-Bytes.field-0.now (event.Bytes t) c.in-Some-Bytes.ensures.lookup.3.0 c.in-Some-Bytes.ensures.lookup.1 c.in-Some-Bytes.field-0-is) in
    let rest = rest_of c.as_slice.result.now t.bytes i.given c.as_slice.ensures in
    let part : n < length (drop i.given t.bytes) = subst (λ (r : List ℕ). n < length r) rest c.if-count-left.true in
    let same : take n c.give-count.new.into ≡ take n (drop i.given t.bytes) = c.give-count.ensures.bytes ∙ ap (take n) rest in
    let f = front_given i.events.items i.at i.given n t c.give-count.new.into at part same in
    subst (λ o. IsFront o (events_left (i.given + n) (drop i.at i.events.items)) (take n c.give-count.new.into)) is f

pub returns-else-count-left-clause-events : goal.returns-else-count-left-clause-events
returns-else-count-left-clause-events c =
    let i = c.self.inside in
    let n = c.give-count.result in
    let t = c.in-Some-Bytes.text in
    let is = ap (λ l. l.left) c.self.view_is in
    let at : slice_get i.events.items i.at ≡ Some (event.Bytes t) =
    subst (λ es. slice_get es i.at ≡ Some (event.Bytes t)) c.deref.ensures.value
    (here_is c.deref.result.now i.at c.in-Some-Bytes.field-0.now (event.Bytes t) c.in-Some-Bytes.ensures.lookup.3.0 c.in-Some-Bytes.ensures.lookup.1 c.in-Some-Bytes.field-0-is) in
    let rest = rest_of c.as_slice.result.now t.bytes i.given c.as_slice.ensures in
    let whole : length (drop i.given t.bytes) ≤ n = omega (arith, c.if-count-left.false, ap length rest) in
    let same : take n c.give-count.new.into ≡ take n (drop i.given t.bytes) = c.give-count.ensures.bytes ∙ ap (take n) rest in
    let f = all_given i.events.items i.at i.given n t c.give-count.new.into at whole same in
    subst (λ o. IsFront o (events_left 0 (drop (i.at + 1) i.events.items)) (take n c.give-count.new.into)) is f

pub returns-then-count-left-clause-given : goal.returns-then-count-left-clause-given
returns-then-count-left-clause-given c =
    let i = c.self.inside in
    let n = c.give-count.result in
    let t = c.in-Some-Bytes.text in
    let room = length c.give-count.new.into in
    let is = ap (λ l. l.left) c.self.view_is in
    let at : slice_get i.events.items i.at ≡ Some (event.Bytes t) =
    subst (λ es. slice_get es i.at ≡ Some (event.Bytes t)) c.deref.ensures.value
    (here_is c.deref.result.now i.at c.in-Some-Bytes.field-0.now (event.Bytes t) c.in-Some-Bytes.ensures.lookup.3.0 c.in-Some-Bytes.ensures.lookup.1 c.in-Some-Bytes.field-0-is) in
    let fits = c.give-count.ensures.count ∙ ap (λ (r : List ℕ). min (length r) room) (rest_of c.as_slice.result.now t.bytes i.given c.as_slice.ensures) in
    subst (λ o. GivesWhatFits o room (fed.Bytes n)) is (what_fits i.events.items i.at i.given n room t at fits)

pub returns-else-count-left-clause-given : goal.returns-else-count-left-clause-given
returns-else-count-left-clause-given c =
    let i = c.self.inside in
    let n = c.give-count.result in
    let t = c.in-Some-Bytes.text in
    let room = length c.give-count.new.into in
    let is = ap (λ l. l.left) c.self.view_is in
    let at : slice_get i.events.items i.at ≡ Some (event.Bytes t) =
    subst (λ es. slice_get es i.at ≡ Some (event.Bytes t)) c.deref.ensures.value
    (here_is c.deref.result.now i.at c.in-Some-Bytes.field-0.now (event.Bytes t) c.in-Some-Bytes.ensures.lookup.3.0 c.in-Some-Bytes.ensures.lookup.1 c.in-Some-Bytes.field-0-is) in
    let fits = c.give-count.ensures.count ∙ ap (λ (r : List ℕ). min (length r) room) (rest_of c.as_slice.result.now t.bytes i.given c.as_slice.ensures) in
    subst (λ o. GivesWhatFits o room (fed.Bytes n)) is (what_fits i.events.items i.at i.given n room t at fits)

pub returns-in-Some-Ticks-clause-events : goal.returns-in-Some-Ticks-clause-events
returns-in-Some-Ticks-clause-events c =
    let i = c.self.inside in
    let n = c.in-Some-Ticks.count in
    let is = ap (λ l. l.left) c.self.view_is in
    let at : slice_get i.events.items i.at ≡ Some (event.Ticks n) =
    subst (λ es. slice_get es i.at ≡ Some (event.Ticks n)) c.deref.ensures.value
    (here_is c.deref.result.now i.at c.in-Some-Ticks.field-0.now (event.Ticks n) c.in-Some-Ticks.ensures.lookup.3.0 c.in-Some-Ticks.ensures.lookup.1 c.in-Some-Ticks.field-0-is) in
    let given = ticks_given i.events.items i.at i.given n at c.self.invariant.1 in
    subst (λ o. o ≡ ticks n ∷ events_left i.given (drop (i.at + 1) i.events.items)) is given
