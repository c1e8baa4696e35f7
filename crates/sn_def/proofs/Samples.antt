-- What a literal is worth is a sample.
use Rattle.std.proofs.Common.{◌≡◌, ℕ, ◌+◌, ◌*◌, ◌^◌, ℤ, pos, negsuc, ◌≤ℤ◌, Bool, true, false, cond, not, ◌&&◌, ◌==◌, int_le, List, length, take, drop, slice_index, position, Option, Some, None, IfSome, refl, subst, arith}
use Rattle.std.proofs.lemmas.Int.{ints}
use Rattle.std.proofs.lemmas.Bool.{and_parts}
use Rattle.sn_fixed.specs.Literal.{literal, divided, whole, fraction, sample, signed, is_front, is_places, is_positive, is_zero}
use Rattle.sn_fixed.specs.Fixed.{floor}
use Rattle.std.specs.Str.Parse.{digits_value}
use Rattle.sn_def.specs.WellFormed.{IsSample}

pub below : (a b : ℤ) → int_le a b ≡ true → a ≤ℤ b
below a b h = grind (arith, ints)

when : (b : Bool) (z : ℤ) → (b ≡ true → IsSample z) → IfSome (cond b (Some z) None) IsSample
when true z h = h refl
when false z h = tt

either : (b : Bool) (x y : Option ℤ) → IfSome x IsSample → IfSome y IsSample → IfSome (cond b x y) IsSample
either true x y h k = h
either false x y h k = k

a_sample : (z : ℤ) → IfSome (sample z) IsSample
a_sample z = when (int_le (negsuc 2147483647) z && int_le z (pos 2147483647)) z (λ h.
    let p = and_parts (int_le (negsuc 2147483647) z) (int_le z (pos 2147483647)) h in
    record { low = below (negsuc 2147483647) z p.0; high = below z (pos 2147483647) p.1 })

a_zero : IsSample (pos 0)
a_zero = record { low = omega (arith, ints); high = omega (arith, ints) }

a_whole : (negative : Bool) (digits : List ℕ) → IfSome (whole negative digits) IsSample
a_whole negative digits =
    either (is_positive digits) _ _ (a_sample (signed negative (digits_value 10 digits))) (either (is_zero digits && not negative) (Some (pos 0)) None a_zero tt)

a_fraction : (negative : Bool) (front places : List ℕ) → IfSome (fraction negative front places) IsSample
a_fraction negative front places =
    either (is_front front && is_places places) _ None (a_sample (floor (signed negative ((digits_value 10 front * 10 ^ length places + digits_value 10 places) * 16777216)) (10 ^ length places))) tt

a_divided : (negative : Bool) (text : List ℕ) (o : Option ℕ) → IfSome (divided negative text o) IsSample
a_divided negative text (Some point) = a_fraction negative (take point text) (drop (point + 1) text)
a_divided negative text None = a_whole negative text

pub a_literal : (text : List ℕ) → IfSome (literal text) IsSample
unfolding literal
a_literal text =
    either (slice_index text 0 == 45) _ _ (a_divided true (drop 1 text) (position (λ byte. byte == 46) (drop 1 text))) (a_divided false text (position (λ byte. byte == 46) text))

pub sample_read : (text : List ℕ) (z : ℤ) → literal text ≡ Some z → IsSample z
sample_read text z h = subst (λ (o : Option ℤ). IfSome o IsSample) h (a_literal text)
