-- A packet that asks for no samples stays as it is.
use Rattle.std.proofs.Common.{◌≡◌, ◌+◌, ◌-◌, ◌*◌, ℕ, List, length, Option, Some, None, Bool, true, false, refl, sym, ap, ◌∙◌, arith}
use Rattle.std.specs.Prelude.{IfOk, IfSome, ◌||◌, is_some, Result, Ok, Err}
use Rattle.sn_osc.specs.Shape.{MessageShape, Shape, Shapes, message, bundle, none, more}
use Rattle.sn_osc.specs.Grammar.{Spells}
use Rattle.sn_osc.specs.declared.packet.Packet.{Packet}
use Rattle.sn_shelf.specs.Asking.{asks, any_asks}
use Rattle.sn_shelf.specs.Files.{File}
use Rattle.sn_shelf.specs.Expanded.{Request, request_of, expanded, expanded_elements}
use Rattle.sn_shelf.specs.Growth.{IsSpelledWithin}
use Rattle.sn_shelf.specs.WaveViews.{Finds}
use Rattle.sn_shelf.proofs.ExpandedLemmas.{no_request}

pub found_some : {X Y : Type 0} (view : X → Y) (o : Option X) (wanted : Option Y) → Finds view o wanted → is_some o ≡ is_some wanted
found_some view (Some x) wanted e = ap is_some (sym e)
found_some view None wanted e = ap is_some (sym e)

none_found : (o : Option Request) → is_some o ≡ false → o ≡ None
none_found None e = refl
none_found (Some r) e = absurd cc

neither : (a b : Bool) → (a || b) ≡ false → (a ≡ false) × (b ≡ false)
neither true b e = absurd cc
neither false b e = (refl, e)

mutual
  as_it_was : (files : List File) (room : ℕ) (x : Shape) → asks x ≡ false → expanded files room x ≡ (x, room)
  as_it_was files room (message m) off =
      ap (λ (o : MessageShape × ℕ). let p : Shape × ℕ = (message o.0, o.1) in p) (sym (no_request files room m (none_found (request_of m) off)))
  as_it_was files room (bundle tag inner) off = ap (λ (o : Shapes × ℕ). let p : Shape × ℕ = (bundle tag o.0, o.1) in p) (all_as_they_were files room inner off)

  all_as_they_were : (files : List File) (room : ℕ) (xs : Shapes) → any_asks xs ≡ false → expanded_elements files room xs ≡ (xs, room)
  all_as_they_were files room none off = refl
  all_as_they_were files room (more x xs) off =
      let both = neither (asks x) (any_asks xs) off in
      ap (λ (first : Shape × ℕ). let others = expanded_elements files first.1 xs in let p : Shapes × ℕ = (more first.0 others.0, others.1) in p) (as_it_was files room x both.0)
      ∙ ap (λ (others : Shapes × ℕ). let p : Shapes × ℕ = (more x others.0, others.1) in p) (all_as_they_were files room xs both.1)

pub unasked_told : (told : Option (List File)) (room : ℕ) (x : Shape) → asks x ≡ false → IfSome told (λ fs. (x, room) ≡ expanded fs room x)
unasked_told None room x off = tt
unasked_told (Some fs) room x off = sym (as_it_was fs room x off)

on_and_off : (b : Bool) → b ≡ true → b ≡ false → ⊥
on_and_off true on off = absurd cc
on_and_off false on off = absurd cc

-- of a packet that asks nothing is said
pub asked_apart : {E : Type 0} (r : Result Packet E) (Q : Packet → Type 0) (x : Shape) → asks x ≡ true → IfOk r (λ p. asks x ≡ false → Q p)
asked_apart (Ok p) Q x on = λ off. absurd (on_and_off (asks x) on off)
asked_apart (Err e) Q x on = tt

pub spelled_as_it_was : (x : Shape) (bytes : List ℕ) (room : ℕ) → Spells x bytes → IsSpelledWithin x (2 * length bytes + 4 * (room - room))
spelled_as_it_was x bytes room spelled = (bytes, spelled, omega arith)
