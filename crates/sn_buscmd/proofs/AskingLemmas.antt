-- `/c_get`: the reply can be sent.
use Rattle.std.proofs.Common.{◌≡◌, ◌<◌, ℕ, ◌+◌, ◌*◌, ◌^◌, ◌&&◌, true, List, [], ◌∷◌, ◌++◌, length, map, Option, Some, None, refl, arith, length-append}
use Rattle.std.specs.Prelude.{codes}
use Rattle.std.specs.List.{list_all}
use Rattle.sn_osc.specs.Bytes.{string_bytes, int_bytes, arguments_bytes, tag_of, is_argument, fits_int}
use Rattle.sn_reply.specs.declared.reason.Reason.{Reason}
use Rattle.sn_reply.specs.Sending.{IsSendable}
use Rattle.sn_reply.proofs.Sending.{both, length-string_bytes}
use Rattle.sn_world.specs.declared.repetition.BusNumber.{BusNumber}
use Rattle.sn_mem.specs.Buses.{ControlBus, control_buses}
use Rattle.sn_world.specs.Rows.{or_else, first_refusal}
use Rattle.sn_world.specs.Buses.{bus_refusal, value_of, buses_and_values, answer_get}
use Rattle.sn_buscmd.specs.Setting.{number_refusal}
use Rattle.sn_buscmd.proofs.BusLemmas.{allowed, bus-fits, value_of-fits}

pub no-first : (o p : Option Reason) → or_else o p ≡ None → (o ≡ None) × (p ≡ None)
no-first None p h = (refl, h)
no-first (Some r) p h = absurd cc

all-arguments : (words : List ℕ) (rs : List BusNumber) → first_refusal number_refusal rs ≡ None → list_all is_argument (buses_and_values (control_buses words) rs) ≡ true
all-arguments words [] free = refl
all-arguments words (r ∷ rs) free =
    let parts = no-first (bus_refusal r.bus) (first_refusal number_refusal rs) free in
    both (fits_int r.bus) (fits_int (value_of (control_buses words) r.bus) && list_all is_argument (buses_and_values (control_buses words) rs)) (bus-fits r.bus (allowed r.bus parts.0))
    (both (fits_int (value_of (control_buses words) r.bus)) (list_all is_argument (buses_and_values (control_buses words) rs)) (value_of-fits words r.bus (allowed r.bus parts.0)) (all-arguments words rs parts.1))

length-values : (w : List ControlBus) (rs : List BusNumber) → length (arguments_bytes (buses_and_values w rs)) ≡ 8 * length rs
length-values w [] = omega arith
length-values w (r ∷ rs) =
    let rest = arguments_bytes (buses_and_values w rs) in
    omega (arith, length-append (int_bytes r.bus) (int_bytes (value_of w r.bus) ++ rest), length-append (int_bytes (value_of w r.bus)) rest, length-values w rs)

length-tags : (w : List ControlBus) (rs : List BusNumber) → length (map tag_of (buses_and_values w rs)) ≡ 2 * length rs
length-tags w [] = omega arith
length-tags w (r ∷ rs) = omega (arith, length-tags w rs)

pub sendable-get : (words : List ℕ) (rs : List BusNumber) → first_refusal number_refusal rs ≡ None → 16 * length rs + 2 ^ 20 < 2 ^ 31 → IsSendable (answer_get (control_buses words) rs)
sendable-get words rs free few = record {
  valid = all-arguments words rs free;
  short =
      let w : List ControlBus = control_buses words in
      let tags = 44 ∷ map tag_of (buses_and_values w rs) in
      let whole = length-append (string_bytes (codes "/c_set")) (string_bytes tags ++ arguments_bytes (buses_and_values w rs)) in
      let body = length-append (string_bytes tags) (arguments_bytes (buses_and_values w rs)) in
      let padded = length-string_bytes tags in
      let names = length-tags w rs in
      let values = length-values w rs in
      omega arith;
}
