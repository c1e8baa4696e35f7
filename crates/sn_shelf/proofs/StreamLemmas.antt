-- The packets of a stream, one after another.
use Rattle.std.proofs.Common.{◌≡◌, ◌≤◌, ℕ, List, [], ◌∷◌, ◌++◌, map, Option, Some, None, refl, sym, ap, ◌∙◌, subst, arith}
use Rattle.std.specs.Prelude.{IfSome}
use Rattle.std.specs.List.{AllByRecursion}
use Rattle.std.proofs.lemmas.List.Elements.{AllZip-push}
use Rattle.sn_osc.specs.Shape.{Shape, shape}
use Rattle.sn_osc.specs.declared.packet.Packet.{Packet}
use Rattle.sn_shelf.specs.Files.{File}
use Rattle.sn_shelf.specs.Asking.{AllKeepUnasked, KeepsUnasked}
use Rattle.sn_shelf.specs.Expanded.{expanded, expanded_list}
use Rattle.sn_shelf.specs.Growth.{IsSpelledWithin, AllSpelledWithin}

shapes-last : (ps : List Packet) (p : Packet) → map shape (ps ++ p ∷ []) ≡ map shape ps ++ shape p ∷ []
shapes-last [] p = refl
shapes-last (q ∷ ps) p = ap (λ xs. shape q ∷ xs) (shapes-last ps p)

abbrev with_last : List File → Shape → List Shape × ℕ → List Shape × ℕ
with_last files y e = (e.0 ++ (expanded files e.1 y).0 ∷ [], (expanded files e.1 y).1)

list-last : (files : List File) (room : ℕ) (xs : List Shape) (y : Shape) → expanded_list files room (xs ++ y ∷ []) ≡ with_last files y (expanded_list files room xs)
list-last files room [] y = refl
list-last files room (x ∷ xs) y = ap (λ (o : List Shape × ℕ). ((expanded files room x).0 ∷ o.0, o.1)) (list-last files (expanded files room x).1 xs y)

pub none_told : (told : Option (List File)) (room : ℕ) → IfSome told (λ fs. (map shape [], room) ≡ expanded_list fs room (map shape []))
none_told None room = tt
none_told (Some fs) room = refl

pub more_told : (told same : Option (List File)) (room before after : ℕ) (yielded done : List Packet) (packet new : Packet) → same ≡ told
    → IfSome told (λ fs. (map shape done, before) ≡ expanded_list fs room (map shape yielded)) → IfSome same (λ fs. (shape new, after) ≡ expanded fs before (shape packet))
    → IfSome told (λ fs. (map shape (done ++ new ∷ []), after) ≡ expanded_list fs room (map shape (yielded ++ packet ∷ [])))
more_told told same room before after yielded done packet new kept so_far one = of told so_far (subst (λ (o : Option (List File)). IfSome o (λ fs. (shape new, after) ≡ expanded fs before (shape packet))) kept one)
  where
    of : (o : Option (List File)) → IfSome o (λ fs. (map shape done, before) ≡ expanded_list fs room (map shape yielded)) → IfSome o (λ fs. (shape new, after) ≡ expanded fs before (shape packet))
        → IfSome o (λ fs. (map shape (done ++ new ∷ []), after) ≡ expanded_list fs room (map shape (yielded ++ packet ∷ [])))
    of None so_far one = tt
    of (Some fs) so_far one =
        let whole : expanded_list fs room (map shape (yielded ++ packet ∷ [])) ≡ with_last fs (shape packet) (map shape done, before) =
        ap (expanded_list fs room) (shapes-last yielded packet) ∙ list-last fs room (map shape yielded) (shape packet) ∙ ap (with_last fs (shape packet)) (sym so_far) in
        ap (λ (s : List Shape). (s, after)) (shapes-last done new) ∙ ap (λ (x : Shape × ℕ). (map shape done ++ x.0 ∷ [], x.1)) one ∙ sym whole

pub more_kept : (yielded done : List Packet) (packet new : Packet) → AllKeepUnasked (map shape yielded) (map shape done) → KeepsUnasked (shape packet) (shape new)
    → AllKeepUnasked (map shape (yielded ++ packet ∷ [])) (map shape (done ++ new ∷ []))
more_kept yielded done packet new all one =
    subst (λ (xs : List Shape). AllKeepUnasked xs (map shape (done ++ new ∷ []))) (sym (shapes-last yielded packet))
    (subst (λ (ys : List Shape). AllKeepUnasked (map shape yielded ++ shape packet ∷ []) ys) (sym (shapes-last done new))
    (AllZip-push KeepsUnasked (map shape yielded) (map shape done) (shape packet) (shape new) all one))

all_of_last : (P : Shape → Type 0) (xs : List Shape) (x : Shape) → AllByRecursion P xs → P x → AllByRecursion P (xs ++ x ∷ [])
all_of_last P [] x all one = (one, tt)
all_of_last P (y ∷ ys) x all one = (all.0, all_of_last P ys x all.1 one)

pub within_most : (x : Shape) (some most : ℕ) → IsSpelledWithin x some → some ≤ most → IsSpelledWithin x most
within_most x some most s less = (s.0, s.1, omega (arith, s.2, less))

-- one more packet with a spelling
pub more_spelled : (done : List Packet) (new : Packet) (most : ℕ) → AllSpelledWithin most (map shape done) → IsSpelledWithin (shape new) most → AllSpelledWithin most (map shape (done ++ new ∷ []))
more_spelled done new most all one =
    subst (λ (xs : List Shape). AllSpelledWithin most xs) (sym (shapes-last done new)) (all_of_last (λ x. IsSpelledWithin x most) (map shape done) (shape new) all one)
