-- Questions for samples: their values, and that a reply can hold them.
use Rattle.std.proofs.Common.{◌≡◌, ◌≤◌, ◌<◌, ◌+◌, ◌-◌, ◌*◌, ◌^◌, ℕ, zero, suc, ℤ, pos, nat_abs, Bool, true, false, List, [], ◌∷◌, ◌++◌, length, get_or, Option, Some, None, refl, ap, ◌∙◌, arith, length-append}
use Rattle.std.specs.Prelude.{if◌then◌else◌, nat_le}
use Rattle.std.proofs.lemmas.Bool.{leb-true}
use Rattle.sn_osc.specs.Shape.{Argument, int}
use Rattle.sn_osc.specs.Bytes.{int_bytes, arguments_bytes}
use Rattle.sn_world.specs.declared.buffer_repetition.SampleIndex.{SampleIndex}
use Rattle.sn_world.specs.declared.buffer_repetition.SampleRun.{SampleRun}
use Rattle.sn_world.specs.BufferSamples.{answers, index_and_value, run_and_values, values_from, samples_asked, few_asked, sample_index, sample_run}
use Rattle.sn_ports.specs.Limits.{most_values}
use Rattle.sn_world.specs.Rows.{singles, pairs, some_of}
use Rattle.sn_world.proofs.Parsing.{some_of-few, singles-length, pairs-length}
use Rattle.sn_buscmd.specs.SampleCommands.{numbered, AreFew}
use Rattle.sn_buscmd.proofs.SampleRowLemmas.{behind_number}

-- ---- samples in a row

pub values-more : (samples : List ℤ) (i end : ℕ) → i < end → values_from samples i (end - i) ≡ int (get_or samples i (pos 0)) ∷ values_from samples (i + 1) (end - (i + 1))
values-more samples i end lt =
    let one : end - i ≡ suc (end - (i + 1)) = omega arith in
    ap (values_from samples i) one

pub one-behind : (found : List Argument) (x : Argument) (rest : List Argument) → (found ++ x ∷ []) ++ rest ≡ found ++ x ∷ rest
one-behind [] x rest = refl
one-behind (y ∷ found) x rest = ap (λ (xs : List Argument). y ∷ xs) (one-behind found x rest)

-- a run and its samples after what is found already
pub run-behind : (found one two three : List Argument) (a b : ℤ) (m count : ℕ) (r : SampleRun) (samples : List ℤ) → a ≡ r.first → b ≡ pos r.count → m ≡ nat_abs r.first → count ≡ r.count
    → one ≡ found ++ int a ∷ [] → two ≡ one ++ int b ∷ [] → three ≡ two ++ values_from samples m count → three ≡ found ++ run_and_values samples r
run-behind found one two three a b m count r samples is-a is-b is-m is-count first second third =
    third
    ∙ (λ i. (second ∙ ap (λ (xs : List Argument). xs ++ int b ∷ []) first) i ++ values_from samples (is-m i) (is-count i))
    ∙ one-behind (found ++ int a ∷ []) (int b) (values_from samples (nat_abs r.first) r.count)
    ∙ one-behind found (int a) (int b ∷ values_from samples (nat_abs r.first) r.count)
    ∙ (λ i. found ++ int (is-a i) ∷ int (is-b i) ∷ values_from samples (nat_abs r.first) r.count)

-- ---- the reply to `/b_get` is short

get-bytes : (samples : List ℤ) (rs : List SampleIndex) → length (arguments_bytes (answers index_and_value samples rs)) ≡ 8 * length rs
get-bytes samples [] = omega arith
get-bytes samples (r ∷ rs) =
    let v = get_or samples (nat_abs r.index) (pos 0) in
    let rest = arguments_bytes (answers index_and_value samples rs) in
    omega (arith, length-append (int_bytes r.index) (int_bytes v ++ rest), length-append (int_bytes v) rest, get-bytes samples rs)

get-count : (samples : List ℤ) (rs : List SampleIndex) → length (answers index_and_value samples rs) ≡ 2 * length rs
get-count samples [] = omega arith
get-count samples (r ∷ rs) = omega (arith, get-count samples rs)

pub few-get : (xs : List Argument) → 20 * length xs + 2 ^ 20 < 2 ^ 31 → (n : ℤ) (rs : List SampleIndex) (samples : List ℤ) → Some (n, rs) ≡ numbered (singles sample_index) xs
    → AreFew (int n ∷ answers index_and_value samples rs)
few-get xs short n rs samples read =
    let behind = behind_number (singles sample_index) xs n rs read in
    let few : length rs ≤ length behind.0 = some_of-few (singles sample_index behind.0) rs (length behind.0) (singles-length sample_index behind.0) behind.1.1 in
    omega (arith, short, few, behind.1.0, get-bytes samples rs, get-count samples rs, length-append (int_bytes n) (arguments_bytes (answers index_and_value samples rs)))

-- ---- the reply to `/b_getn` is short

values-bytes : (samples : List ℤ) (i count : ℕ) (rest : List Argument) → length (arguments_bytes (values_from samples i count ++ rest)) ≡ 4 * count + length (arguments_bytes rest)
values-bytes samples i zero rest = omega arith
values-bytes samples i (suc count) rest =
    omega (arith, length-append (int_bytes (get_or samples i (pos 0))) (arguments_bytes (values_from samples (i + 1) count ++ rest)), values-bytes samples (i + 1) count rest)

values-count : (samples : List ℤ) (i count : ℕ) (rest : List Argument) → length (values_from samples i count ++ rest) ≡ count + length rest
values-count samples i zero rest = omega arith
values-count samples i (suc count) rest = omega (arith, values-count samples (i + 1) count rest)

getn-bytes : (samples : List ℤ) (rs : List SampleRun) → length (arguments_bytes (answers run_and_values samples rs)) ≡ 8 * length rs + 4 * samples_asked rs
getn-bytes samples [] = omega arith
getn-bytes samples (r ∷ rs) =
    let rest : List Argument = values_from samples (nat_abs r.first) r.count ++ answers run_and_values samples rs in
    omega (arith, length-append (int_bytes r.first) (int_bytes (pos r.count) ++ arguments_bytes rest), length-append (int_bytes (pos r.count)) (arguments_bytes rest), values-bytes samples (nat_abs r.first) r.count (answers run_and_values samples rs), getn-bytes samples rs)

getn-count : (samples : List ℤ) (rs : List SampleRun) → length (answers run_and_values samples rs) ≡ 2 * length rs + samples_asked rs
getn-count samples [] = omega arith
getn-count samples (r ∷ rs) = omega (arith, values-count samples (nat_abs r.first) r.count (answers run_and_values samples rs), getn-count samples rs)

-- a run is no longer than what is answered
pub run-short : (samples : List ℤ) (r : SampleRun) → length (run_and_values samples r) < 2 ^ 31 → r.count < 2 ^ 31
run-short samples r few = omega (arith, few, values-count samples (nat_abs r.first) r.count [], one-nil (values_from samples (nat_abs r.first) r.count))
  where
    one-nil : (xs : List Argument) → length (xs ++ []) ≡ length xs
    one-nil xs = length-append xs [] ∙ omega arith

-- runs that were read are those that were said, and ask for few
record AreRuns (o : Option (List SampleRun)) (rs : List SampleRun) : Type 0 where
  said : Some rs ≡ some_of o
  asked : samples_asked rs ≤ most_values

same-runs : (all rs : List SampleRun) → Some rs ≡ some_of (Some all) → rs ≡ all
same-runs [] rs h = absurd cc
same-runs (r ∷ all) rs h = cc

are-runs : (o : Option (List SampleRun)) (rs : List SampleRun) → Some rs ≡ some_of (few_asked o) → AreRuns o rs
are-runs None rs h = absurd cc
are-runs (Some all) rs h = at (nat_le (samples_asked all) most_values) refl h
  where
    at : (b : Bool) → nat_le (samples_asked all) most_values ≡ b → Some rs ≡ some_of (if b then Some all else None) → AreRuns (Some all) rs
    at true is h = record { said = h; asked = omega (arith, ap samples_asked (same-runs all rs h), leb-true (samples_asked all) 8192 is) }
    at false is h = absurd cc

pub few-getn : (xs : List Argument) → 20 * length xs + 2 ^ 20 < 2 ^ 31 → (n : ℤ) (rs : List SampleRun) (samples : List ℤ) → Some (n, rs) ≡ numbered (λ (ys : List Argument). few_asked (pairs sample_run ys)) xs
    → AreFew (int n ∷ answers run_and_values samples rs)
few-getn xs short n rs samples read =
    let behind = behind_number (λ (ys : List Argument). few_asked (pairs sample_run ys)) xs n rs read in
    let runs = are-runs (pairs sample_run behind.0) rs behind.1.1 in
    let few : length rs ≤ length behind.0 = some_of-few (pairs sample_run behind.0) rs (length behind.0) (pairs-length sample_run behind.0) runs.said in
    omega (arith, short, few, runs.asked, behind.1.0, getn-bytes samples rs, getn-count samples rs, length-append (int_bytes n) (arguments_bytes (answers run_and_values samples rs)))
