-- Control buses and samples that are filled, each once.
use Rattle.std.proofs.Common.{◌≡◌, ◌≢◌, ◌≤◌, ◌<◌, ◌+◌, ℕ, zero, suc, ℤ, pos, negsuc, nat_abs, Bool, true, false, not, List, [], ◌∷◌, length, get_or, set, replicate, map, All, Option, Some, None, refl, ap, sym, ◌∙◌, arith, length-set, get_or-set_other}
use Rattle.std.specs.Prelude.{nat_lt, nat_le}
use Rattle.std.proofs.lemmas.Bool.{leb-true}
use Rattle.std.proofs.lemmas.List.{get_or-set_same}
use Rattle.std.proofs.lemmas.List.Elements.{All-nil, All-cons}
use Rattle.sn_fills.specs.declared.fill.Fill.{Fill}
use Rattle.sn_fills.specs.Fills.{last_at}
use Rattle.sn_fills.proofs.Alike.{run-length, run-at, filled-alike}
use Rattle.sn_mem.specs.Buses.{ControlBus}
use Rattle.sn_reply.specs.declared.reason.Reason.{Reason}
use Rattle.sn_reply.specs.declared.reason.Reason.TheVariants.{SampleIndex}
use Rattle.sn_reply.proofs.Sending.{second-of}
use Rattle.sn_world.specs.declared.repetition.BusFill.{BusFill}
use Rattle.sn_world.specs.declared.buffer_repetition.SampleFill.{SampleFill}
use Rattle.sn_world.specs.Rows.{or_else, first_of, first_refusal}
use Rattle.sn_world.specs.Buses.{with_value, with_values}
use Rattle.sn_world.specs.BufferNumbers.{set_from}
use Rattle.sn_world.specs.BufferSamples as samples
use Rattle.sn_buscmd.specs.Setting as buses
use Rattle.sn_buscmd.specs.Fills.{bus_places, sample_places, fill_buses, fill_samples}
use Rattle.sn_buscmd.proofs.FillingLemmas.{run-inside, run-set}

none-of-both : (o p : Option Reason) → or_else o p ≡ None → (o ≡ None) × (p ≡ None)
none-of-both None p h = (refl, h)
none-of-both (Some x) p h = absurd cc

-- ---- control buses

abbrev bus-set : ControlBus → ℤ → ControlBus
bus-set b v = record b { value = v }

bus-length : (bs : List ControlBus) (n : ℕ) (v : ℤ) → length (with_value bs n v) ≡ length bs
bus-length [] n v = refl
bus-length (b ∷ bs) zero v = refl
bus-length (b ∷ bs) (suc n) v = ap suc (bus-length bs n v)

bus-here : (bs : List ControlBus) (n : ℕ) (v : ℤ) (d : ControlBus) → n < length bs → get_or (with_value bs n v) n d ≡ bus-set (get_or bs n d) v
bus-here [] n v d low = absurd (omega arith)
bus-here (b ∷ bs) zero v d low = refl
bus-here (b ∷ bs) (suc n) v d low = bus-here bs n v d (omega arith)

bus-elsewhere : (bs : List ControlBus) (n k : ℕ) (v : ℤ) (d : ControlBus) → k ≢ n → get_or (with_value bs n v) k d ≡ get_or bs k d
bus-elsewhere [] n k v d apart = refl
bus-elsewhere (b ∷ bs) zero zero v d apart = absurd (apart refl)
bus-elsewhere (b ∷ bs) zero (suc k) v d apart = refl
bus-elsewhere (b ∷ bs) (suc n) zero v d apart = refl
bus-elsewhere (b ∷ bs) (suc n) (suc k) v d apart = bus-elsewhere bs n k v d (λ is. apart (ap suc is))

abbrev bus-run : ℕ → ℕ → ℤ → List ControlBus → List ControlBus
bus-run i c v bs = with_values bs i (replicate c v)

pub buses-alike : (fs gs : List Fill) (bs : List ControlBus) → ((n : ℕ) → last_at n fs ≡ last_at n gs) → buses.change_all fill_buses fs bs ≡ buses.change_all fill_buses gs bs
buses-alike fs gs bs same =
    filled-alike bus-set (λ b v w. refl) fill_buses
    (λ f cs. run-length bus-set with_value bus-length bus-here bus-elsewhere bus-run (λ i v ds. refl) (λ i c v ds. refl) f.count f.first f.value cs)
    (λ f cs n d low. run-at bus-set with_value bus-length bus-here bus-elsewhere bus-run (λ i v ds. refl) (λ i c v ds. refl) f cs n d low)
    (buses.change_all fill_buses) (λ cs. refl) (λ f hs cs. refl) fs gs bs same

pub buses-filled : (rs : List BusFill) (bs : List ControlBus) → first_refusal buses.fill_refusal rs ≡ None → buses.change_all fill_buses (map bus_places rs) bs ≡ buses.change_all buses.fill_run rs bs
buses-filled [] bs free = refl
buses-filled (r ∷ rs) bs free =
    let parts = none-of-both (buses.fill_refusal r) (first_refusal buses.fill_refusal rs) free in
    ap (buses.change_all fill_buses (map bus_places rs)) (sym (run-set r.bus r.count (replicate r.count r.value) bs parts.0))
    ∙ buses-filled rs (buses.fill_run r bs) parts.1

pub buses-within : (rs : List BusFill) → first_refusal buses.fill_refusal rs ≡ None → All (λ (f : Fill). f.first + f.count ≤ 1024) (map bus_places rs)
buses-within [] free = All-nil (λ (f : Fill). f.first + f.count ≤ 1024)
buses-within (r ∷ rs) free =
    let parts = none-of-both (buses.fill_refusal r) (first_refusal buses.fill_refusal rs) free in
    All-cons (λ (f : Fill). f.first + f.count ≤ 1024) (bus_places r) (map bus_places rs) (run-inside r.bus r.count parts.0).end (buses-within rs parts.1)

-- ---- samples

abbrev sample-set : ℤ → ℤ → ℤ
sample-set x v = v

abbrev sample-run : ℕ → ℕ → ℤ → List ℤ → List ℤ
sample-run i c v xs = set_from i (replicate c v) xs

pub samples-alike : (fs gs : List Fill) (xs : List ℤ) → ((n : ℕ) → last_at n fs ≡ last_at n gs) → samples.change_all fill_samples fs xs ≡ samples.change_all fill_samples gs xs
samples-alike fs gs xs same =
    let len : (ys : List ℤ) (i : ℕ) (v : ℤ) → length (set ys i v) ≡ length ys = λ ys i v. length-set ys i v in
    let here : (ys : List ℤ) (i : ℕ) (v d : ℤ) → i < length ys → get_or (set ys i v) i d ≡ v = λ ys i v d low. get_or-set_same ys i v d low in
    let elsewhere : (ys : List ℤ) (i k : ℕ) (v d : ℤ) → k ≢ i → get_or (set ys i v) k d ≡ get_or ys k d = λ ys i k v d apart. get_or-set_other ys i k v d apart in
    filled-alike sample-set (λ x v w. refl) fill_samples
    (λ f ys. run-length sample-set set len here elsewhere sample-run (λ i v zs. refl) (λ i c v zs. refl) f.count f.first f.value ys)
    (λ f ys n d low. run-at sample-set set len here elsewhere sample-run (λ i v zs. refl) (λ i c v zs. refl) f ys n d low)
    (samples.change_all fill_samples) (λ ys. refl) (λ f hs ys. refl) fs gs xs same

pub samples-filled : (rs : List SampleFill) (xs : List ℤ) → samples.change_all fill_samples (map sample_places rs) xs ≡ samples.change_all samples.fill_values rs xs
samples-filled [] xs = refl
samples-filled (r ∷ rs) xs = samples-filled rs (samples.fill_values r xs)

run-ends : (size : ℕ) (first : ℤ) (count : ℕ) → samples.is_run size first count ≡ true → nat_abs first + count ≤ size
run-ends size (pos i) count h = leb-true (i + count) size (second-of (nat_lt i size) (nat_le (i + count) size) h)
run-ends size (negsuc i) count h = absurd cc

fill-allowed : (b : Bool) → first_of ((not b, SampleIndex) ∷ []) ≡ None → b ≡ true
fill-allowed true h = refl
fill-allowed false h = absurd cc

pub samples-within : (size : ℕ) (rs : List SampleFill) → first_refusal (samples.fill_refusal size) rs ≡ None → All (λ (f : Fill). f.first + f.count ≤ size) (map sample_places rs)
samples-within size [] free = All-nil (λ (f : Fill). f.first + f.count ≤ size)
samples-within size (r ∷ rs) free =
    let parts = none-of-both (samples.fill_refusal size r) (first_refusal (samples.fill_refusal size) rs) free in
    All-cons (λ (f : Fill). f.first + f.count ≤ size) (sample_places r) (map sample_places rs)
    (run-ends size r.first r.count (fill-allowed (samples.is_run size r.first r.count) parts.0)) (samples-within size rs parts.1)

-- ---- they end far below 2^32

pub ends-short : (size : ℕ) (fs : List Fill) → size < 4294967296 → All (λ (f : Fill). f.first + f.count ≤ size) fs → All (λ (f : Fill). f.first + f.count < 4294967296) fs
ends-short size fs short all = λ k d low. omega (arith, short, all k d low)
