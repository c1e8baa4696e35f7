-- What comes of a message, step by step.
use Rattle.std.proofs.Common.{◌≡◌, ◌<◌, ◌-◌, ℕ, ℤ, List, [], ◌∷◌, ◌++◌, length, Option, Some, None, Bool, true, false, refl, sym, ap, ◌∙◌, subst}
use Rattle.std.specs.Prelude.{IfSome, unwrap_or, nat_le, if◌then◌else◌}
use Rattle.std.proofs.lemmas.Bool.{leb-false}
use Rattle.sn_osc.specs.Shape.{MessageShape, Shape, Shapes, shape, shapes, bundle, none, more}
use Rattle.sn_osc.specs.declared.packet.Packet.{Packet}
use Rattle.sn_shelf.specs.Files.{File, bytes_named, within_limit}
use Rattle.sn_shelf.specs.Waves.{Wave, wave_in}
use Rattle.sn_shelf.proofs.PartLemmas.{impossible}
use Rattle.sn_shelf.proofs.WaveLemmas.{no_head, too_long_head}
use Rattle.sn_shelf.specs.Expanded.{Request, request_of, is_possible, natural, part_in, part_within, given, filled, expanded_message, expanded, expanded_elements, ◌>>=◌}

-- ---- messages

abbrev from_part : MessageShape → ℕ → Request → Option Wave → MessageShape × ℕ
from_part m room r part = unwrap_or (part >>= λ p. Some (filled m room r p)) (m, room)

abbrev from_request : List File → ℕ → MessageShape → Option Request → MessageShape × ℕ
from_request files room m request = unwrap_or (request >>= λ r. given files room r >>= λ p. Some (filled m room r p)) (m, room)

pub no_request : (files : List File) (room : ℕ) (m : MessageShape) → request_of m ≡ None → (m, room) ≡ expanded_message files room m
no_request files room m nothing = sym (ap (from_request files room m) nothing)

asks : (files : List File) (room : ℕ) (m : MessageShape) (r : Request) → request_of m ≡ Some r → expanded_message files room m ≡ from_part m room r (given files room r)
asks files room m r some = ap (from_request files room m) some

-- a file that is too long holds no recording
long_silent : (bytes : List ℕ) → 33554432 < length bytes → wave_in bytes ≡ None
long_silent bytes long = no_head bytes (too_long_head bytes long)

no_part : (o p : Option ℕ) (w : Option Wave) (room : ℕ) → w ≡ None → (o >>= λ start. p >>= λ wanted. w >>= λ x. part_within room x start wanted) ≡ None
no_part None p w room nothing = refl
no_part (Some start) None w room nothing = refl
no_part (Some start) (Some wanted) w room nothing = ap (λ (v : Option Wave). v >>= λ x. part_within room x start wanted) nothing

long_part : (room : ℕ) (bytes : List ℕ) (first count : ℤ) → 33554432 < length bytes → part_in room bytes first count ≡ None
unfolding part_in
long_part room bytes first count long = no_part (natural first) (natural count) (wave_in bytes) room (long_silent bytes long)

dropped : (b : Bool) (bytes : List ℕ) → None ≡ (if b then Some bytes else None) → b ≡ false
dropped true bytes e = absurd cc
dropped false bytes e = refl

nothing_given : (file : Option (List ℕ)) (room : ℕ) (r : Request) → None ≡ within_limit file → (file >>= λ bytes. part_in room bytes r.start r.frames) ≡ None
nothing_given None room r nothing = refl
nothing_given (Some bytes) room r nothing = long_part room bytes r.start r.frames (leb-false (length bytes) 33554432 (dropped (nat_le (length bytes) 33554432) bytes nothing))

pub no_file : (files : List File) (room : ℕ) (m : MessageShape) (r : Request) → request_of m ≡ Some r → None ≡ within_limit (bytes_named r.path files) → (m, room) ≡ expanded_message files room m
no_file files room m r some nothing = sym (asks files room m r some ∙ ap (from_part m room r) (nothing_given (bytes_named r.path files) room r nothing))

kept_file : (b : Bool) (bytes same : List ℕ) → Some same ≡ (if b then Some bytes else None) → bytes ≡ same
kept_file true bytes same e = cc
kept_file false bytes same e = absurd cc

is_file : (file : Option (List ℕ)) (bytes : List ℕ) → Some bytes ≡ within_limit file → file ≡ Some bytes
is_file None bytes e = absurd cc
is_file (Some whole) bytes e = ap (λ l. Some l) (kept_file (nat_le (length whole) 33554432) whole bytes e)

-- what a file that was read gives
read_gives : (files : List File) (room : ℕ) (m : MessageShape) (r : Request) (bytes : List ℕ) → request_of m ≡ Some r → Some bytes ≡ within_limit (bytes_named r.path files)
    → expanded_message files room m ≡ from_part m room r (part_in room bytes r.start r.frames)
read_gives files room m r bytes some is = asks files room m r some ∙ ap (λ (f : Option (List ℕ)). from_part m room r (f >>= λ b. part_in room b r.start r.frames)) (is_file (bytes_named r.path files) bytes is)

pub no_room : (files : List File) (room : ℕ) (m : MessageShape) (r : Request) (bytes : List ℕ) → request_of m ≡ Some r → Some bytes ≡ within_limit (bytes_named r.path files)
    → part_in room bytes r.start r.frames ≡ None → (m, room) ≡ expanded_message files room m
no_room files room m r bytes some is nothing = sym (read_gives files room m r bytes some is ∙ ap (from_part m room r) nothing)

pub fills : (files : List File) (room : ℕ) (m : MessageShape) (r : Request) (bytes : List ℕ) (part : Wave) → request_of m ≡ Some r → Some bytes ≡ within_limit (bytes_named r.path files)
    → part_in room bytes r.start r.frames ≡ Some part → filled m room r part ≡ expanded_message files room m
fills files room m r bytes part some is given = sym (read_gives files room m r bytes some is ∙ ap (from_part m room r) given)

impossible_given : (file : Option (List ℕ)) (room : ℕ) (r : Request) → is_possible room r.start r.frames ≡ false → (file >>= λ bytes. part_in room bytes r.start r.frames) ≡ None
impossible_given None room r h = refl
impossible_given (Some bytes) room r h = impossible room bytes r.start r.frames h

-- ---- the same of a shelf that may tell its files

pub told_impossible : (told : Option (List File)) (room : ℕ) (m : MessageShape) (r : Request) → request_of m ≡ Some r → is_possible room r.start r.frames ≡ false → IfSome told (λ fs. (m, room) ≡ expanded_message fs room m)
told_impossible None room m r some h = tt
told_impossible (Some fs) room m r some h = sym (asks fs room m r some ∙ ap (from_part m room r) (impossible_given (bytes_named r.path fs) room r h))

pub told_unasked : (told : Option (List File)) (room : ℕ) (m : MessageShape) → request_of m ≡ None → IfSome told (λ fs. (m, room) ≡ expanded_message fs room m)
told_unasked None room m nothing = tt
told_unasked (Some fs) room m nothing = no_request fs room m nothing

pub told_missing : (told : Option (List File)) (room : ℕ) (m : MessageShape) (r : Request) → request_of m ≡ Some r → IfSome told (λ fs. None ≡ within_limit (bytes_named r.path fs))
    → IfSome told (λ fs. (m, room) ≡ expanded_message fs room m)
told_missing None room m r some nothing = tt
told_missing (Some fs) room m r some nothing = no_file fs room m r some nothing

pub told_unfit : (told : Option (List File)) (room : ℕ) (m : MessageShape) (r : Request) (bytes : List ℕ) → request_of m ≡ Some r → IfSome told (λ fs. Some bytes ≡ within_limit (bytes_named r.path fs))
    → part_in room bytes r.start r.frames ≡ None → IfSome told (λ fs. (m, room) ≡ expanded_message fs room m)
told_unfit None room m r bytes some is nothing = tt
told_unfit (Some fs) room m r bytes some is nothing = no_room fs room m r bytes some is nothing

pub told_filled : (told : Option (List File)) (room after : ℕ) (m new : MessageShape) (r : Request) (bytes : List ℕ) (part : Wave) → request_of m ≡ Some r
    → IfSome told (λ fs. Some bytes ≡ within_limit (bytes_named r.path fs)) → part_in room bytes r.start r.frames ≡ Some part
    → new ≡ (filled m room r part).0 → after ≡ room - length part.samples → IfSome told (λ fs. (new, after) ≡ expanded_message fs room m)
told_filled None room after m new r bytes part some is given same less = tt
told_filled (Some fs) room after m new r bytes part some is given same less = (λ i. (same i, less i)) ∙ fills fs room m r bytes part some is given

-- ---- packets one after another

-- a bundle of the elements that were made
pub told_bundle : (told : Option (List File)) (tag room after : ℕ) (inner new : Shapes) (x y : Shape) → x ≡ bundle tag inner → y ≡ bundle tag new
    → IfSome told (λ fs. (new, after) ≡ expanded_elements fs room inner) → IfSome told (λ fs. (y, after) ≡ expanded fs room x)
told_bundle None tag room after inner new x y is made from = tt
told_bundle (Some fs) tag room after inner new x y is made from =
    ap (λ (s : Shape). (s, after)) made ∙ ap (λ (e : Shapes × ℕ). (bundle tag e.0, e.1)) from ∙ sym (ap (expanded fs room) is)

-- an element after others
abbrev pub then_one : Shapes → Shape → Shapes
then_one none y = more y none
then_one (more x xs) y = more x (then_one xs y)

pub shapes-last : (ps : List Packet) (p : Packet) → shapes (ps ++ p ∷ []) ≡ then_one (shapes ps) (shape p)
shapes-last [] p = refl
shapes-last (q ∷ ps) p = ap (more (shape q)) (shapes-last ps p)

-- what comes of the elements, and of one more
abbrev with_last : List File → Shape → Shapes × ℕ → Shapes × ℕ
with_last files y e = (then_one e.0 (expanded files e.1 y).0, (expanded files e.1 y).1)

expanded-last : (files : List File) (room : ℕ) (xs : Shapes) (y : Shape) → expanded_elements files room (then_one xs y) ≡ with_last files y (expanded_elements files room xs)
expanded-last files room none y = refl
expanded-last files room (more x xs) y = ap (λ (o : Shapes × ℕ). (more (expanded files room x).0 o.0, o.1)) (expanded-last files (expanded files room x).1 xs y)

pub one_more : (told same : Option (List File)) (room before after : ℕ) (yielded done : List Packet) (packet new : Packet) → same ≡ told
    → IfSome told (λ fs. (shapes done, before) ≡ expanded_elements fs room (shapes yielded)) → IfSome same (λ fs. (shape new, after) ≡ expanded fs before (shape packet))
    → IfSome told (λ fs. (shapes (done ++ new ∷ []), after) ≡ expanded_elements fs room (shapes (yielded ++ packet ∷ [])))
one_more told same room before after yielded done packet new kept so_far one = of told so_far (subst (λ (o : Option (List File)). IfSome o (λ fs. (shape new, after) ≡ expanded fs before (shape packet))) kept one)
  where
    of : (o : Option (List File)) → IfSome o (λ fs. (shapes done, before) ≡ expanded_elements fs room (shapes yielded)) → IfSome o (λ fs. (shape new, after) ≡ expanded fs before (shape packet))
        → IfSome o (λ fs. (shapes (done ++ new ∷ []), after) ≡ expanded_elements fs room (shapes (yielded ++ packet ∷ [])))
    of None so_far one = tt
    of (Some fs) so_far one =
        let whole : expanded_elements fs room (shapes (yielded ++ packet ∷ [])) ≡ with_last fs (shape packet) (shapes done, before) =
        ap (expanded_elements fs room) (shapes-last yielded packet) ∙ expanded-last fs room (shapes yielded) (shape packet) ∙ ap (with_last fs (shape packet)) (sym so_far) in
        ap (λ (s : Shapes). (s, after)) (shapes-last done new) ∙ ap (λ (x : Shape × ℕ). (then_one (shapes done) x.0, x.1)) one ∙ sym whole

pub none_yet : (told : Option (List File)) (room : ℕ) → IfSome told (λ fs. (shapes [], room) ≡ expanded_elements fs room (shapes []))
none_yet None room = tt
none_yet (Some fs) room = refl
