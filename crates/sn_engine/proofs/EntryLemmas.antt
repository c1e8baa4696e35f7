-- Bundles in reading order, and those that are left.
use Rattle.std.proofs.Common.{◌≡◌, ℕ, ◌+◌, ◌<◌, List, [], ◌∷◌, ◌++◌, map, refl, sym, ap, ◌∙◌, append_assoc, append-nil, arith}
use Rattle.std.proofs.lemmas.List.{map-append}
use Rattle.sn_osc.specs.declared.packet.Bundle.{Bundle}
use Rattle.sn_osc.specs.declared.packet.Message.{Message}
use Rattle.sn_osc.specs.declared.packet.Packet.{Packet}
use Rattle.sn_osc.specs.declared.packet.Packet as packets
use Rattle.sn_osc.specs.Shape.{MessageShape, Shape, message, bundle, shape, shapes, shapes_from, message_of}
use Rattle.sn_osc.specs.Bytes.{counts_as}
use Rattle.sn_osc.proofs.ShapeLemmas.{shape-Bundle}
use Rattle.sn_engine.specs.declared.entry.Enclosed.{Enclosed}
use Rattle.sn_engine.specs.declared.entry.Entry.{Entry}
use Rattle.sn_engine.specs.Entries.{Timed, bundle_entries, enclosed_entries, messages_in}
use Rattle.sn_engine.specs.Stacks.{entries_at, entries_left, entries_ahead, bundles, bundles_in, bundles_left, shape_of, timed_of}

-- what was sorted out so far is what stands in the elements so far
pub record SortedOut (tag : ℕ) (elements : List Packet) (ms : List Message) (bs : List Enclosed) : Type 0 where
  pub messages : map message_of ms ≡ messages_in (shapes elements)
  pub enclosed : entries_ahead bs ≡ enclosed_entries tag (shapes elements)
  pub fewer : bundles_left bs ≡ bundles_in (shapes elements)

pub ahead-append : (xs ys : List Enclosed) → entries_ahead (xs ++ ys) ≡ entries_ahead xs ++ entries_ahead ys
ahead-append [] ys = refl
ahead-append (x ∷ xs) ys = ap (λ (t : List Timed). entries_at x ++ t) (ahead-append xs ys) ∙ sym (append_assoc (entries_at x) (entries_ahead xs) (entries_ahead ys))

pub ahead-last : (xs : List Enclosed) (x : Enclosed) → entries_ahead (xs ++ x ∷ []) ≡ entries_ahead xs ++ entries_at x
ahead-last xs x = ahead-append xs (x ∷ []) ∙ ap (λ (t : List Timed). entries_ahead xs ++ t) (append-nil (entries_at x))

pub left-last : (xs : List Enclosed) (x : Enclosed) → entries_left (xs ++ x ∷ []) ≡ entries_at x ++ entries_left xs
left-last [] x = sym (append-nil (entries_at x))
left-last (y ∷ xs) x = ap (λ (t : List Timed). t ++ entries_at y) (left-last xs x) ∙ append_assoc (entries_at x) (entries_left xs) (entries_at y)

pub bundles-last : (xs : List Enclosed) (x : Enclosed) → bundles_left (xs ++ x ∷ []) ≡ bundles (shape_of x.bundle) + bundles_left xs
bundles-last [] x = omega arith
bundles-last (y ∷ xs) x = let h : bundles_left (xs ++ x ∷ []) ≡ bundles (shape_of x.bundle) + bundles_left xs = bundles-last xs x in omega arith

pub messages-last : (xs ys : List Shape) → messages_in (shapes_from (xs ++ ys)) ≡ messages_in (shapes_from xs) ++ messages_in (shapes_from ys)
messages-last [] ys = refl
messages-last (message m ∷ xs) ys = ap (λ t. m ∷ t) (messages-last xs ys)
messages-last (bundle tag inner ∷ xs) ys = messages-last xs ys

pub enclosed-last : (tag : ℕ) (xs ys : List Shape) → enclosed_entries tag (shapes_from (xs ++ ys)) ≡ enclosed_entries tag (shapes_from xs) ++ enclosed_entries tag (shapes_from ys)
enclosed-last tag [] ys = refl
enclosed-last tag (x ∷ xs) ys = ap (λ (t : List Timed). bundle_entries tag x ++ t) (enclosed-last tag xs ys) ∙ sym (append_assoc (bundle_entries tag x) (enclosed_entries tag (shapes_from xs)) (enclosed_entries tag (shapes_from ys)))

pub bundles_in-last : (xs ys : List Shape) → bundles_in (shapes_from (xs ++ ys)) ≡ bundles_in (shapes_from xs) + bundles_in (shapes_from ys)
bundles_in-last [] ys = omega arith
bundles_in-last (x ∷ xs) ys = let h : bundles_in (shapes_from (xs ++ ys)) ≡ bundles_in (shapes_from xs) + bundles_in (shapes_from ys) = bundles_in-last xs ys in omega arith

-- one bundle is taken from those ahead and put onto those that are left
pub moves_entries : (ahead before left after : List Enclosed) (x : Enclosed) → ahead ≡ before ++ x ∷ [] → after ≡ left ++ x ∷ [] → entries_ahead before ++ entries_left after ≡ entries_ahead ahead ++ entries_left left
moves_entries ahead before left after x is becomes =
    ap (λ (t : List Enclosed). entries_ahead before ++ entries_left t) becomes
    ∙ ap (λ (t : List Timed). entries_ahead before ++ t) (left-last left x)
    ∙ sym (append_assoc (entries_ahead before) (entries_at x) (entries_left left))
    ∙ ap (λ (t : List Timed). t ++ entries_left left) (sym (ahead-last before x))
    ∙ ap (λ (t : List Enclosed). entries_ahead t ++ entries_left left) (sym is)

pub moves_count : (ahead before left after : List Enclosed) (x : Enclosed) → ahead ≡ before ++ x ∷ [] → after ≡ left ++ x ∷ [] → bundles_left before + bundles_left after ≡ bundles_left ahead + bundles_left left
moves_count ahead before left after x is becomes =
    omega (arith, ap bundles_left is, bundles-last before x, ap bundles_left becomes, bundles-last left x)

-- one more element, which is a message
pub sorts_message : (tag : ℕ) (xs : List Packet) (x : Packet) (m : Message) (messages messages' : List Message) (enclosed : List Enclosed)
    → x ≡ packets.Message m → messages' ≡ messages ++ m ∷ []
    → SortedOut tag xs messages enclosed → SortedOut tag (xs ++ x ∷ []) messages' enclosed
sorts_message tag xs x m messages messages' enclosed is becomes so_far =
    let parts : map shape (xs ++ x ∷ []) ≡ map shape xs ++ message (message_of m) ∷ [] = map-append shape xs (x ∷ []) ∙ ap (λ (p : Packet). map shape xs ++ shape p ∷ []) is in
    record {
      messages = ap (map message_of) becomes ∙ map-append message_of messages (m ∷ []) ∙ ap (λ (t : List MessageShape). t ++ message_of m ∷ []) so_far.messages
          ∙ sym (ap (λ (t : List Shape). messages_in (shapes_from t)) parts ∙ messages-last (map shape xs) (message (message_of m) ∷ []));
      enclosed = so_far.enclosed ∙ sym (ap (λ (t : List Shape). enclosed_entries tag (shapes_from t)) parts ∙ enclosed-last tag (map shape xs) (message (message_of m) ∷ []) ∙ append-nil (enclosed_entries tag (shapes xs)));
      fewer = omega (arith, so_far.fewer, ap (λ (t : List Shape). bundles_in (shapes_from t)) parts, bundles_in-last (map shape xs) (message (message_of m) ∷ []));
    }

-- or a bundle
pub sorts_bundle : (tag : ℕ) (xs : List Packet) (x : Packet) (b : Bundle) (messages : List Message) (enclosed enclosed' : List Enclosed)
    → x ≡ packets.Bundle b → enclosed' ≡ enclosed ++ (record { around = tag; bundle = b }) ∷ []
    → SortedOut tag xs messages enclosed → SortedOut tag (xs ++ x ∷ []) messages enclosed'
sorts_bundle tag xs x b messages enclosed enclosed' is becomes so_far =
    let inside = shapes b.elements.items in
    let parts : map shape (xs ++ x ∷ []) ≡ map shape xs ++ bundle b.tag inside ∷ [] = map-append shape xs (x ∷ []) ∙ ap (λ (p : Packet). map shape xs ++ shape p ∷ []) is ∙ ap (λ (s : Shape). map shape xs ++ s ∷ []) (shape-Bundle b) in
    let at : entries_at (record { around = tag; bundle = b }) ≡ bundle_entries tag (bundle b.tag inside) = ap (bundle_entries tag) (shape-Bundle b) in
    let count : bundles (shape_of b) ≡ bundles (bundle b.tag inside) = ap bundles (shape-Bundle b) in
    record {
      messages = so_far.messages ∙ sym (ap (λ (t : List Shape). messages_in (shapes_from t)) parts ∙ messages-last (map shape xs) (bundle b.tag inside ∷ []) ∙ append-nil (messages_in (shapes xs)));
      enclosed = ap entries_ahead becomes ∙ ahead-last enclosed (record { around = tag; bundle = b }) ∙ ap (λ (t : List Timed). t ++ entries_at (record { around = tag; bundle = b })) so_far.enclosed
          ∙ ap (λ (t : List Timed). enclosed_entries tag (shapes xs) ++ t) at
          ∙ sym (ap (λ (t : List Shape). enclosed_entries tag (shapes_from t)) parts ∙ enclosed-last tag (map shape xs) (bundle b.tag inside ∷ []) ∙ ap (λ (t : List Timed). enclosed_entries tag (shapes xs) ++ t) (append-nil (bundle_entries tag (bundle b.tag inside))));
      fewer = omega (arith, so_far.fewer, ap bundles_left becomes, bundles-last enclosed (record { around = tag; bundle = b }), count, ap (λ (t : List Shape). bundles_in (shapes_from t)) parts, bundles_in-last (map shape xs) (bundle b.tag inside ∷ []));
    }

-- the next bundle's own entry is taken, and those in it are left
pub record Taken (x : Enclosed) (e : Entry) (inside : List Enclosed) : Type 0 where
  pub tag : e.tag ≡ counts_as x.around x.bundle.tag
  pub messages : map message_of e.messages.items ≡ messages_in (shapes x.bundle.elements.items)
  pub enclosed : entries_ahead inside ≡ enclosed_entries e.tag (shapes x.bundle.elements.items)
  pub fewer : bundles_left inside ≡ bundles_in (shapes x.bundle.elements.items)

taken_entries : (x : Enclosed) (e : Entry) (inside : List Enclosed) → Taken x e inside → entries_at x ≡ timed_of e ∷ entries_ahead inside
taken_entries x e inside t =
    let elements = shapes x.bundle.elements.items in
    ap (bundle_entries x.around) (shape-Bundle x.bundle)
    ∙ ap (λ (tag : ℕ). (record { tag = tag; messages = messages_in elements }) ∷ enclosed_entries tag elements) (sym t.tag)
    ∙ ap (λ (ms : List MessageShape). (record { tag = e.tag; messages = ms }) ∷ enclosed_entries e.tag elements) (sym t.messages)
    ∙ ap (λ (es : List Timed). timed_of e ∷ es) (sym t.enclosed)

pub takes_bundle : (whole : List Timed) (done done' : List Entry) (left mid after : List Enclosed) (x : Enclosed) (e : Entry) (inside : List Enclosed)
    → left ≡ mid ++ x ∷ [] → done' ≡ done ++ e ∷ [] → entries_left after ≡ entries_ahead inside ++ entries_left mid → Taken x e inside
    → map timed_of done ++ entries_left left ≡ whole → map timed_of done' ++ entries_left after ≡ whole
takes_bundle whole done done' left mid after x e inside is becomes put t so_far =
    ap (λ (es : List Entry). map timed_of es ++ entries_left after) becomes
    ∙ ap (λ (es : List Timed). es ++ entries_left after) (map-append timed_of done (e ∷ []))
    ∙ append_assoc (map timed_of done) (timed_of e ∷ []) (entries_left after)
    ∙ ap (λ (es : List Timed). map timed_of done ++ timed_of e ∷ es) put
    ∙ ap (λ (es : List Timed). map timed_of done ++ (es ++ entries_left mid)) (sym (taken_entries x e inside t))
    ∙ ap (λ (es : List Timed). map timed_of done ++ es) (sym (left-last mid x))
    ∙ ap (λ (es : List Enclosed). map timed_of done ++ entries_left es) (sym is)
    ∙ so_far

pub takes_one : (left mid after : List Enclosed) (x : Enclosed) (e : Entry) (inside : List Enclosed)
    → left ≡ mid ++ x ∷ [] → bundles_left after ≡ bundles_left inside + bundles_left mid → Taken x e inside → bundles_left after < bundles_left left
takes_one left mid after x e inside is put t =
    omega (arith, ap bundles_left is, bundles-last mid x, ap bundles (shape-Bundle x.bundle), put, t.fewer)
