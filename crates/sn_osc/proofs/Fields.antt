-- A datum that is read is the one that is spelled, and what is spelled is read.
use Rattle.std.proofs.Common.{◌≡◌, ℕ, ℤ, pos, negsuc, zero, suc, ◌+◌, ◌-◌, ◌%◌, ◌^◌, ◌<◌, ◌≤◌, Bool, true, false, not, cond, ltb, leb, eqb, ◌&&◌, List, [], ◌∷◌, ◌++◌, length, get_or, take, drop, replicate, Result, Ok, Err, refl, sym, ap, subst, ◌∙◌, append_assoc, arith, inl, inr, FitsSigned}
use Rattle.std.specs.Int.{w32, from_be_bytes, to_be_bytes, cast_signed, cast_unsigned}
use Rattle.std.proofs.lemmas.Bool.{cases_lt, ltb-true, ltb-false, lt-ltb, le-ltb, leb-true, le-leb, eqb-true}
use Rattle.std.proofs.lemmas.List.{take_at, drop_at, take-append-drop, length-append, length-take, length-drop, length-replicate, get_or-drop, get_or-take, get_or_past, take-take}
use Rattle.std.proofs.lemmas.Nat.{be_bytes_4, from_be_bytes-to_be_bytes_4}
use Rattle.std.proofs.lemmas.Int.{of_z-to_z, to_z-of_z, ints}
use borrow.Author.Gap.{read_sfits}
use mir.Facts.{Fits-of_z}
use Rattle.sn_osc.specs.declared.fault.PacketFault.{PacketFault}
use Rattle.sn_osc.specs.Bytes.{blob_bytes, has_no_null, fits_int}
use Rattle.sn_osc.specs.Grammar.{SpellsInt, SpellsString, SpellsBlob}
use Rattle.sn_osc.specs.Reading.{◌>>=◌, int_in, size_in, text_len, string_len, null_len, is_ended, padded_at, string_at, blob_len, blob_at}

abbrev pub IsBytes : List ℕ → Type 0
IsBytes bytes = (i : ℕ) → get_or bytes i 0 < 256

pub IsBytes-drop : (n : ℕ) (bytes : List ℕ) → IsBytes bytes → IsBytes (drop n bytes)
IsBytes-drop n bytes h i = rw get_or-drop (h (n + i))

pub IsBytes-take : (n : ℕ) (bytes : List ℕ) → IsBytes bytes → IsBytes (take n bytes)
IsBytes-take n bytes h i =
    elim (cases_lt i n) [
      | inl lt ↦ rw (get_or-take n bytes i 0 lt) (h i)
      | inr le ↦ rw (get_or_past (take n bytes) i 0 (omega (arith, length-take n bytes))) (omega arith)
    ]

-- ---- steps and tests that did not fail

pub bind_ok : {A B : Type 0} (r : Result A PacketFault) (f : A → Result B PacketFault) (y : B) → (r >>= f) ≡ Ok y → (x : A) × (r ≡ Ok x) × (f x ≡ Ok y)
bind_ok (Ok x) f y e = (x, refl, e)
bind_ok (Err g) f y e = absurd cc

pub guard_not : {A : Type 0} (b : Bool) (g : PacketFault) (x : Result A PacketFault) (y : A) → cond b (Err g) x ≡ Ok y → (b ≡ false) × (x ≡ Ok y)
guard_not true g x y e = absurd cc
guard_not false g x y e = (refl, e)

pub guard_yes : {A : Type 0} (b : Bool) (g : PacketFault) (x : Result A PacketFault) (y : A) → cond b x (Err g) ≡ Ok y → (b ≡ true) × (x ≡ Ok y)
guard_yes true g x y e = (refl, e)
guard_yes false g x y e = absurd cc

pub ok_is : {A : Type 0} (x y : A) → (let r : Result A PacketFault = Ok x in r) ≡ Ok y → x ≡ y
ok_is x y e = cc

pub and_yes : (a b : Bool) → (a && b) ≡ true → (a ≡ true) × (b ≡ true)
and_yes true b e = (refl, e)
and_yes false b e = absurd cc

pub not_yes : (a : Bool) → not a ≡ true → a ≡ false
not_yes true e = absurd cc
not_yes false e = refl

-- what a reader took from the start
pub record Takes (bytes text rest : List ℕ) : Type 0 where
  pub parts : bytes ≡ text ++ rest
  pub rest_fits : IsBytes rest

pub then_takes : (a x b y c : List ℕ) → Takes a x b → Takes b y c → Takes a (x ++ y) c
then_takes a x b y c p q = record { parts = p.parts ∙ ap (λ (t : List ℕ). x ++ t) q.parts ∙ sym (append_assoc x y c); rest_fits = q.rest_fits }

-- ---- numbers

pub size_back : (bytes : List ℕ) → IsBytes bytes → 4 ≤ length bytes → to_be_bytes w32 (size_in bytes) ≡ take 4 bytes
size_back bytes fits long = be_bytes_4 (take 4 bytes) _ (omega (arith, length-take 4 bytes)) (IsBytes-take 4 bytes fits) refl

pub size_below : (bytes : List ℕ) → IsBytes bytes → size_in bytes < 2 ^ 32
size_below bytes fits = let small = IsBytes-take 4 bytes fits in omega (arith, small 0, small 1, small 2, small 3)

pub size_again : (n : ℕ) (rest : List ℕ) → n < 2 ^ 32 → size_in (to_be_bytes w32 n ++ rest) ≡ n
size_again n rest lt = ap (from_be_bytes w32) (take_at (to_be_bytes w32 n) rest 4 refl) ∙ from_be_bytes-to_be_bytes_4 n lt

pub after_size : (n : ℕ) (rest : List ℕ) → drop 4 (to_be_bytes w32 n ++ rest) ≡ rest
after_size n rest = drop_at (to_be_bytes w32 n) rest 4 refl

-- ---- int32

pub fits-from_test : (n : ℤ) → fits_int n ≡ true → FitsSigned w32 n
fits-from_test (pos n) e = omega (arith, ints, ltb-true n (2 ^ 31) e)
fits-from_test (negsuc n) e = omega (arith, ints, ltb-true n (2 ^ 31) e)

pub test-from_fits : (n : ℤ) → FitsSigned w32 n → fits_int n ≡ true
test-from_fits (pos n) h = lt-ltb n (2 ^ 31) (omega (arith, ints, h))
test-from_fits (negsuc n) h = lt-ltb n (2 ^ 31) (omega (arith, ints, h))

pub int_takes : (bytes : List ℕ) → IsBytes bytes → 4 ≤ length bytes → SpellsInt (int_in bytes) (take 4 bytes)
int_takes bytes fits long =
    let m = size_in bytes in
    (test-from_fits (int_in bytes) (read_sfits w32 m), sym (size_back bytes fits long) ∙ ap (to_be_bytes w32) (sym (of_z-to_z w32 m (size_below bytes fits))))

pub int_again : (n : ℤ) (front rest : List ℕ) → SpellsInt n front → (int_in (front ++ rest) ≡ n) × (drop 4 (front ++ rest) ≡ rest) × (length front ≡ 4)
int_again n front rest h =
    let fits = fits-from_test n h.0 in
    let lt : cast_unsigned w32 n < 2 ^ 32 = (Fits-of_z {w = w32} fits).fits in
    let whole : front ++ rest ≡ to_be_bytes w32 (cast_unsigned w32 n) ++ rest = ap (λ (t : List ℕ). t ++ rest) h.1 in
    (ap (λ t. int_in t) whole ∙ ap (cast_signed w32) (size_again (cast_unsigned w32 n) rest lt) ∙ to_z-of_z w32 n fits, ap (drop 4) whole ∙ after_size (cast_unsigned w32 n) rest, ap length h.1)

-- ---- padding

zero_then : (x : ℕ) (xs : List ℕ) (b : Bool) → eqb x 0 ≡ b → (ltb (null_len xs) (length xs) ≡ false → xs ≡ replicate (length xs) 0)
    → ltb (cond (not (not b)) (1 + null_len xs) 0) (suc (length xs)) ≡ false → x ∷ xs ≡ replicate (suc (length xs)) 0
zero_then x xs true e others lt =
    let first : x ≡ 0 = eqb-true _ _ e in
    let same = others (le-ltb _ _ (omega (arith, ltb-false _ _ lt))) in
    cc
zero_then x xs false e others lt = absurd (omega (arith, ltb-false _ _ lt))

zeros_are : (xs : List ℕ) → ltb (null_len xs) (length xs) ≡ false → xs ≡ replicate (length xs) 0
zeros_are [] h = refl
zeros_are (x ∷ xs) h = zero_then x xs (eqb x 0) refl (zeros_are xs) h

pub null_len-zeros : (n : ℕ) → null_len (replicate n 0) ≡ n
null_len-zeros zero = refl
null_len-zeros (suc n) = omega (arith, null_len-zeros n)

pub padded_takes : (end n whole : ℕ) (bytes : List ℕ) (x : List ℕ × List ℕ) → n ≤ whole → whole ≤ length bytes → IsBytes bytes → padded_at end n whole bytes ≡ Ok x
    → (length x.0 ≡ n) × (x.0 ≡ take n bytes) × Takes bytes (x.0 ++ replicate (whole - n) 0) x.1
padded_takes end n whole bytes x order there fits e =
    let padding = drop n (take whole bytes) in
    let g = guard_not (ltb (null_len padding) (length padding)) _ (Ok (take n bytes, drop whole bytes)) x e in
    let len : length (take n bytes) ≡ n = omega (arith, length-take n bytes) in
    let padding_len : length padding ≡ whole - n = omega (arith, length-drop n (take whole bytes), length-take whole bytes) in
    let zeros : padding ≡ replicate (whole - n) 0 = zeros_are padding g.0 ∙ ap (λ k. replicate k 0) padding_len in
    let front : take whole bytes ≡ take n bytes ++ replicate (whole - n) 0 = sym (take-append-drop n (take whole bytes)) ∙ ap (λ (t : List ℕ). t ++ padding) (take-take n whole bytes order) ∙ ap (λ (t : List ℕ). take n bytes ++ t) zeros in
    let parts : bytes ≡ (take n bytes ++ replicate (whole - n) 0) ++ drop whole bytes = sym (take-append-drop whole bytes) ∙ ap (λ (t : List ℕ). t ++ drop whole bytes) front in
    subst (λ (p : List ℕ × List ℕ). (length p.0 ≡ n) × (p.0 ≡ take n bytes) × Takes bytes (p.0 ++ replicate (whole - n) 0) p.1) (ok_is (take n bytes, drop whole bytes) x g.1)
    (len, refl, record { parts = parts; rest_fits = IsBytes-drop whole bytes fits })

pub padded_again : (end n whole : ℕ) (s rest : List ℕ) (k : ℕ) → n ≡ length s → whole ≡ length s + k → padded_at end n whole ((s ++ replicate k 0) ++ rest) ≡ Ok (s, rest)
padded_again end n whole s rest k n-is whole-is =
    let front = s ++ replicate k 0 in
    let len : length front ≡ whole = omega (arith, length-append s (replicate k 0), length-replicate {A = ℕ} k 0) in
    let fore : take whole (front ++ rest) ≡ front = take_at front rest _ len in
    let aft : drop whole (front ++ rest) ≡ rest = drop_at front rest _ len in
    let text : take n (front ++ rest) ≡ s = ap (take n) (append_assoc s (replicate k 0) rest) ∙ take_at s (replicate k 0 ++ rest) _ (sym n-is) in
    let padding : drop n front ≡ replicate k 0 = drop_at s (replicate k 0) _ (sym n-is) in
    let none : ltb (null_len (replicate k 0)) (length {A = ℕ} (replicate k 0)) ≡ false = le-ltb _ _ (omega (arith, null_len-zeros k, length-replicate {A = ℕ} k 0)) in
    rw (fore, aft, text, padding, none) refl

-- ---- strings

text_then : (x : ℕ) (xs : List ℕ) (b : Bool) → eqb x 0 ≡ b → has_no_null (take (text_len xs) xs) ≡ true → has_no_null (take (cond (not b) (1 + text_len xs) 0) (x ∷ xs)) ≡ true
text_then x xs true e others = refl
text_then x xs false e others =
    let more : 1 + text_len xs ≡ suc (text_len xs) = omega arith in
    rw (more, e) others

pub text_has_none : (xs : List ℕ) → has_no_null (take (text_len xs) xs) ≡ true
text_has_none [] = refl
text_has_none (x ∷ xs) = text_then x xs (eqb x 0) refl (text_has_none xs)

pub text_len_is : (s rest : List ℕ) → has_no_null s ≡ true → text_len (s ++ 0 ∷ rest) ≡ length s
text_len_is [] rest h = refl
text_len_is (x ∷ xs) rest h =
    let both = and_yes (not (eqb x 0)) (has_no_null xs) h in
    rw (not_yes (eqb x 0) both.0) (omega (arith, text_len_is xs rest both.1))

pub string_takes : (end : ℕ) (bytes : List ℕ) (x : List ℕ × List ℕ) → IsBytes bytes → string_at end bytes ≡ Ok x → (front : List ℕ) × SpellsString x.0 front × Takes bytes front x.1
unfolding string_at
string_takes end bytes x fits e =
    let n = text_len bytes in
    let g = guard_yes (is_ended bytes) _ (padded_at end n (string_len n) bytes) x e in
    let t = padded_takes end n (string_len n) bytes x (omega arith) (leb-true _ _ g.0) fits g.1 in
    let none : has_no_null x.0 ≡ true = rw t.1 (text_has_none bytes) in
    let len : string_len n - n ≡ 4 - length x.0 % 4 = rw t.0 (omega arith) in
    (x.0 ++ replicate (string_len n - n) 0, (none, ap (λ k. x.0 ++ replicate k 0) len), t.2)

pub string_again : (end : ℕ) (s front rest : List ℕ) → SpellsString s front → string_at end (front ++ rest) ≡ Ok (s, rest)
unfolding string_at
string_again end s front rest h =
    let k = 4 - length s % 4 in
    let more : k ≡ suc (k - 1) = omega arith in
    let bytes : front ++ rest ≡ s ++ (0 ∷ (replicate (k - 1) 0 ++ rest)) = ap (λ (t : List ℕ). t ++ rest) (h.1 ∙ ap (λ m. s ++ replicate m 0) more) ∙ append_assoc s (0 ∷ replicate (k - 1) 0) rest in
    let n : text_len (front ++ rest) ≡ length s = ap text_len bytes ∙ text_len_is s (replicate (k - 1) 0 ++ rest) h.0 in
    let len : length front ≡ string_len (length s) = ap length h.1 ∙ omega (arith, length-append s (replicate k 0), length-replicate {A = ℕ} k 0) in
    let long : leb (string_len (length s)) (length (front ++ rest)) ≡ true = le-leb _ _ (omega (arith, length-append front rest)) in
    rw (n, long) (ap (λ t. padded_at end (length s) (string_len (length s)) (t ++ rest)) h.1 ∙ padded_again end (length s) (string_len (length s)) s rest k refl refl)

pub string_len-is : (s front : List ℕ) → SpellsString s front → length front ≡ string_len (length s)
string_len-is s front h = ap length h.1 ∙ omega (arith, length-append s (replicate (4 - length s % 4) 0), length-replicate {A = ℕ} (4 - length s % 4) 0)

-- ---- blobs

pub blob_takes : (end : ℕ) (bytes : List ℕ) (x : List ℕ × List ℕ) → IsBytes bytes → 4 ≤ length bytes → length bytes < 2 ^ 31 → blob_at end bytes ≡ Ok x → (front : List ℕ) × SpellsBlob x.0 front × Takes bytes front x.1
unfolding blob_at
blob_takes end bytes x fits long small e =
    let n = size_in bytes in
    let rest = drop 4 bytes in
    let g = guard_yes (leb (blob_len n) (length rest)) _ (padded_at end n (blob_len n) rest) x e in
    let t = padded_takes end n (blob_len n) rest x (omega arith) (leb-true _ _ g.0) (IsBytes-drop 4 bytes fits) g.1 in
    let shorter : n < 2 ^ 31 = omega (arith, leb-true _ _ g.0, length-drop 4 bytes) in
    let zeros : blob_len n - n ≡ (4 - length x.0 % 4) % 4 = rw t.0 (omega arith) in
    let head : Takes bytes (take 4 bytes) rest = record { parts = sym (take-append-drop 4 bytes); rest_fits = IsBytes-drop 4 bytes fits } in
    let whole = then_takes bytes (take 4 bytes) rest (x.0 ++ replicate (blob_len n - n) 0) x.1 head t.2 in
    let size : take 4 bytes ≡ to_be_bytes w32 (length x.0) = sym (size_back bytes fits long) ∙ ap (to_be_bytes w32) (sym t.0) in
    let spelled : take 4 bytes ++ (x.0 ++ replicate (blob_len n - n) 0) ≡ blob_bytes x.0 =
    ap (λ (h : List ℕ). h ++ (x.0 ++ replicate (blob_len n - n) 0)) size ∙ sym (append_assoc (to_be_bytes w32 (length x.0)) x.0 (replicate (blob_len n - n) 0)) ∙ ap (λ k. to_be_bytes w32 (length x.0) ++ x.0 ++ replicate k 0) zeros in
    (take 4 bytes ++ (x.0 ++ replicate (blob_len n - n) 0), (rw t.0 shorter, spelled), whole)

pub blob_again : (end : ℕ) (b front rest : List ℕ) → SpellsBlob b front → blob_at end (front ++ rest) ≡ Ok (b, rest)
unfolding blob_at
blob_again end b front rest h =
    let k = (4 - length b % 4) % 4 in
    let bytes : front ++ rest ≡ to_be_bytes w32 (length b) ++ ((b ++ replicate k 0) ++ rest) = ap (λ (t : List ℕ). t ++ rest) h.1 ∙ simp append_assoc refl in
    let size : size_in (front ++ rest) ≡ length b = ap (λ t. size_in t) bytes ∙ size_again (length b) ((b ++ replicate k 0) ++ rest) (omega (arith, h.0)) in
    let after : drop 4 (front ++ rest) ≡ (b ++ replicate k 0) ++ rest = ap (drop 4) bytes ∙ after_size (length b) ((b ++ replicate k 0) ++ rest) in
    let long : leb (blob_len (length b)) (length ((b ++ replicate k 0) ++ rest)) ≡ true = le-leb _ _ (omega (arith, length-append (b ++ replicate k 0) rest, length-append b (replicate k 0), length-replicate {A = ℕ} k 0)) in
    rw (size, after, long) (padded_again end (length b) (blob_len (length b)) b rest k refl refl)

pub blob_len-is : (b front : List ℕ) → SpellsBlob b front → length front ≡ 4 + blob_len (length b)
blob_len-is b front h =
    let k = (4 - length b % 4) % 4 in
    ap length h.1 ∙ omega (arith, length-append (to_be_bytes w32 (length b) ++ b) (replicate k 0), length-append (to_be_bytes w32 (length b)) b, length-replicate {A = ℕ} k 0)
