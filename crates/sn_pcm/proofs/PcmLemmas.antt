-- The bytes of one more sample, and how many there are.
use Rattle.std.proofs.Common.{◌≡◌, ◌≤◌, ◌<◌, ℕ, ◌+◌, ◌*◌, ◌/◌, ◌==◌, cond, IsTrue, Bool, true, false, ℤ, pos, List, [], ◌∷◌, ◌++◌, length, get_or, take, refl, sym, ap, ◌∙◌, append_assoc, append-nil, arith}
use Rattle.std.specs.List.{flat_map}
use Rattle.std.proofs.lemmas.List.{take_more, length-append}
use Rattle.std.proofs.lemmas.List.Concat.{flat_map-cons}
use Rattle.std.proofs.lemmas.Grind.{flat_map-append}
use Rattle.std.proofs.lemmas.Bool.Decides.{nat_tests}
use Rattle.sn_pcm.specs.Allowed.{is_width}
use Rattle.sn_pcm.specs.Pcm.{bytes_16, bytes_24, sample_bytes, pcm, HasPcmLength}
use Rattle.sn_pcm.specs.declared.settings.Settings.{Settings}

pub pcm_none : (s : Settings) (out : List ℕ) → out ≡ out ++ pcm s []
unfolding pcm
pcm_none s out = sym (append-nil out)

one : (s : Settings) (x : ℤ) → flat_map (sample_bytes s) (x ∷ []) ≡ sample_bytes s x
one s x = flat_map-cons (sample_bytes s) x [] ∙ append-nil (sample_bytes s x)

pcm_more : (s : Settings) (samples : List ℤ) (i : ℕ) → i < length samples → pcm s (take (i + 1) samples) ≡ pcm s (take i samples) ++ sample_bytes s (get_or samples i (pos 0))
unfolding pcm
pcm_more s samples i h =
    ap (flat_map (sample_bytes s)) (take_more samples i (pos 0) h)
    ∙ (flat_map-append (sample_bytes s) (take i samples) (get_or samples i (pos 0) ∷ [])
    ∙ ap (λ r. flat_map (sample_bytes s) (take i samples) ++ r) (one s (get_or samples i (pos 0))))

pub pcm_step : (s : Settings) (samples : List ℤ) (i : ℕ) (out now new : List ℕ) → i < length samples → now ≡ out ++ pcm s (take i samples) → new ≡ now ++ sample_bytes s (get_or samples i (pos 0)) → new ≡ out ++ pcm s (take (i + 1) samples)
pcm_step s samples i out now new h before after =
    after
    ∙ (ap (λ b. b ++ sample_bytes s (get_or samples i (pos 0))) before
    ∙ (append_assoc out (pcm s (take i samples)) (sample_bytes s (get_or samples i (pos 0)))
    ∙ ap (λ r. out ++ r) (sym (pcm_more s samples i h))))

pub room_step : (first now new i k : ℕ) → first ≤ now + i * k → now ≤ new + k → first ≤ new + (i + 1) * k
room_step first now new i k a b = omega arith

by_bits : (b : Bool) (bits : ℕ) (x : ℤ) → (bits == 16) ≡ b → IsTrue (is_width bits) → length (cond b (bytes_16 x) (bytes_24 x)) ≡ bits / 8
by_bits true bits x e width = let is : bits ≡ 16 = grind (arith, nat_tests) in rw is
by_bits false bits x e width = let is : bits ≡ 24 = grind (arith, nat_tests) in rw is

sample_length : (s : Settings) (x : ℤ) → length (sample_bytes s x) ≡ s.bits / 8
unfolding sample_bytes
sample_length s x = by_bits (s.bits == 16) s.bits x refl s.bits_are

count_step : (whole first rest n k : ℕ) → whole ≡ first + rest → first ≡ k → rest ≡ n * k → whole ≡ (n + 1) * k
count_step whole first rest n k a b c = omega arith

pub pcm_length_is : (s : Settings) (samples : List ℤ) → HasPcmLength s samples
unfolding pcm
pcm_length_is s [] = omega arith
pcm_length_is s (x ∷ samples) =
    let whole : length (flat_map (sample_bytes s) (x ∷ samples)) ≡ length (sample_bytes s x) + length (flat_map (sample_bytes s) samples) = ap length (flat_map-cons (sample_bytes s) x samples) ∙ length-append (sample_bytes s x) (flat_map (sample_bytes s) samples) in
    let first : length (sample_bytes s x) ≡ s.bits / 8 = sample_length s x in
    let rest : length (flat_map (sample_bytes s) samples) ≡ length samples * (s.bits / 8) = pcm_length_is s samples in
    let count : length (flat_map (sample_bytes s) (x ∷ samples)) ≡ (length samples + 1) * (s.bits / 8) = count_step _ _ _ (length samples) (s.bits / 8) whole first rest in
    let more : length (x ∷ samples) ≡ length samples + 1 = omega arith in
    count ∙ ap (λ n. n * (s.bits / 8)) (sym more)
