-- Runs of buses: their values, and the reply to `/c_getn`.
use Rattle.std.proofs.Common.{◌≡◌, ◌≤◌, ◌<◌, ℕ, zero, suc, ℤ, pos, negsuc, nat_abs, ◌+◌, ◌-◌, ◌*◌, ◌^◌, ◌&&◌, true, List, [], ◌∷◌, ◌++◌, length, map, None, refl, ap, ◌∙◌, arith, length-append}
use Rattle.std.specs.Prelude.{codes}
use Rattle.std.specs.List.{list_all}
use Rattle.std.proofs.lemmas.Bool.{lt-ltb}
use Rattle.std.proofs.lemmas.List.Folds.{list_all-append}
use Rattle.std.proofs.lemmas.List.{length-map}
use Rattle.sn_ports.specs.Limits.{most_values}
use Rattle.sn_osc.specs.declared.packet.Arg.{Arg}
use Rattle.sn_osc.specs.declared.packet.Arg.TheVariants.{Int}
use Rattle.sn_osc.specs.Shape.{Argument, int, argument_of}
use Rattle.sn_osc.specs.Bytes.{string_bytes, int_bytes, arguments_bytes, tag_of, is_argument, fits_int}
use Rattle.sn_reply.specs.Sending.{IsSendable}
use Rattle.sn_reply.proofs.Sending.{both, length-string_bytes}
use Rattle.sn_world.specs.declared.repetition.Run.{Run}
use Rattle.sn_mem.specs.Buses.{ControlBus, control_buses}
use Rattle.sn_world.specs.Rows.{first_refusal}
use Rattle.sn_world.specs.Buses.{run_refusal, value_at}
use Rattle.sn_world.specs.Runs.{total_count, values_from, runs_and_values, answer_getn}
use Rattle.sn_buscmd.specs.Setting.{place_refusal}
use Rattle.sn_buscmd.proofs.AskingLemmas.{no-first}
use Rattle.sn_buscmd.proofs.BusLemmas.{value_of-fits}
use Rattle.sn_buscmd.proofs.FillingLemmas.{LiesInBuses, run-inside}

-- ---- a run that is read

pub values-more : (bs : List ControlBus) (n end : ℕ) → n < end → values_from bs n (end - n) ≡ int (value_at bs n) ∷ values_from bs (n + 1) (end - (n + 1))
values-more bs n end lt =
    let one : end - n ≡ suc (end - (n + 1)) = omega arith in
    ap (values_from bs n) one

pub pushed : (found : List Arg) (v : ℤ) (rest : List Argument) → map argument_of (found ++ Int v ∷ []) ++ rest ≡ map argument_of found ++ int v ∷ rest
pushed [] v rest = refl
pushed (x ∷ found) v rest = ap (λ xs. argument_of x ∷ xs) (pushed found v rest)

-- ---- the reply can be sent

values-valid : (words : List ℕ) (n count : ℕ) → n + count ≤ 1024 → list_all is_argument (values_from (control_buses words) n count) ≡ true
values-valid words n zero within = refl
values-valid words n (suc count) within =
    both (fits_int (value_at (control_buses words) n)) (list_all is_argument (values_from (control_buses words) (n + 1) count)) (value_of-fits words (pos n) (lt-ltb n 1024 (omega arith))) (values-valid words (n + 1) count (omega arith))

first-fits : (first : ℤ) → nat_abs first < 1024 → fits_int first ≡ true
first-fits (pos n) small = lt-ltb n (2 ^ 31) (omega arith)
first-fits (negsuc n) small = lt-ltb n (2 ^ 31) (omega arith)

all-valid : (words : List ℕ) (rs : List Run) → first_refusal place_refusal rs ≡ None → list_all is_argument (runs_and_values (control_buses words) rs) ≡ true
all-valid words [] free = refl
all-valid words (r ∷ rs) free =
    let parts = no-first (run_refusal r.first r.count) (first_refusal place_refusal rs) free in
    let inside : LiesInBuses (nat_abs r.first) r.count = run-inside r.first r.count parts.0 in
    let below = inside.first in
    let end = inside.end in
    let values : List Argument = values_from (control_buses words) (nat_abs r.first) r.count in
    let rest : List Argument = runs_and_values (control_buses words) rs in
    both (fits_int r.first) (fits_int (pos r.count) && list_all is_argument (values ++ rest)) (first-fits r.first below)
    (both (fits_int (pos r.count)) (list_all is_argument (values ++ rest)) (lt-ltb r.count (2 ^ 31) (omega arith))
    (list_all-append is_argument values rest ∙ both (list_all is_argument values) (list_all is_argument rest) (values-valid words (nat_abs r.first) r.count end) (all-valid words rs parts.1)))

values-bytes : (w : List ControlBus) (n count : ℕ) (rest : List Argument) → length (arguments_bytes (values_from w n count ++ rest)) ≡ 4 * count + length (arguments_bytes rest)
values-bytes w n zero rest = omega arith
values-bytes w n (suc count) rest =
    omega (arith, length-append (int_bytes (value_at w n)) (arguments_bytes (values_from w (n + 1) count ++ rest)), values-bytes w (n + 1) count rest)

values-tags : (w : List ControlBus) (n count : ℕ) (rest : List Argument) → length (values_from w n count ++ rest) ≡ count + length rest
values-tags w n zero rest = omega arith
values-tags w n (suc count) rest = omega (arith, values-tags w (n + 1) count rest)

all-bytes : (w : List ControlBus) (rs : List Run) → length (arguments_bytes (runs_and_values w rs)) ≡ 8 * length rs + 4 * total_count rs
all-bytes w [] = omega arith
all-bytes w (r ∷ rs) =
    let rest : List Argument = values_from w (nat_abs r.first) r.count ++ runs_and_values w rs in
    omega (arith, length-append (int_bytes r.first) (int_bytes (pos r.count) ++ arguments_bytes rest), length-append (int_bytes (pos r.count)) (arguments_bytes rest), values-bytes w (nat_abs r.first) r.count (runs_and_values w rs), all-bytes w rs)

all-count : (w : List ControlBus) (rs : List Run) → length (runs_and_values w rs) ≡ 2 * length rs + total_count rs
all-count w [] = omega arith
all-count w (r ∷ rs) = omega (arith, values-tags w (nat_abs r.first) r.count (runs_and_values w rs), all-count w rs)

pub sendable-getn : (words : List ℕ) (rs : List Run) → first_refusal place_refusal rs ≡ None → 16 * length rs + 2 ^ 20 < 2 ^ 31 → total_count rs ≤ most_values → IsSendable (answer_getn (control_buses words) rs)
sendable-getn words rs free few asked = record {
  valid = all-valid words rs free;
  short =
      let w : List ControlBus = control_buses words in
      let all : List Argument = runs_and_values w rs in
      let tags = 44 ∷ map tag_of all in
      let whole = length-append (string_bytes (codes "/c_setn")) (string_bytes tags ++ arguments_bytes all) in
      let body = length-append (string_bytes tags) (arguments_bytes all) in
      let padded = length-string_bytes tags in
      let names = length-map all tag_of in
      let count = all-count w rs in
      let values = all-bytes w rs in
      omega arith;
}
