-- What the words of the control buses stand for.
use Rattle.std.proofs.Common.{◌≡◌, ◌≢◌, ℕ, zero, suc, ℤ, pos, negsuc, nat_abs, ◌+◌, ◌*◌, ◌%◌, ◌^◌, ◌<◌, ◌≤◌, List, [], ◌∷◌, length, get_or, set, refl, ap, sym, ◌∙◌, arith, Bool, true, false, not, None, length-set, get_or-set_other}
use Rattle.std.specs.Prelude.{FitsSigned, slice_index}
use Rattle.std.specs.Int.{w32}
use Rattle.std.proofs.lemmas.List.{get_or-set_same}
use Rattle.std.proofs.lemmas.Bool.{ltb-true, lt-ltb}
use borrow.Author.Gap.{read_sfits}
use Rattle.sn_osc.specs.Bytes.{fits_int}
use Rattle.sn_osc.proofs.Fields.{test-from_fits}
use Rattle.sn_mem.specs.Blocks.{word_for, sample_in}
use Rattle.sn_mem.specs.Buses.{ControlBus, control_bus, control_buses, resting}
use Rattle.sn_mem.proofs.BusLaws.{sample_in-word_for, control_set, control_at}
use Rattle.sn_mem.proofs.Tables.{length-table}
use Rattle.sn_reply.specs.declared.reason.Reason.TheVariants.{Bus}
use Rattle.sn_world.specs.Rows.{first_of}
use Rattle.sn_world.specs.Buses.{is_bus, bus_refusal, with_value, set_bus, value_at, value_of}
use Rattle.sn_buscmd.specs.Setting.{KeepsOtherWords}

pub allowed : (bus : ℤ) → bus_refusal bus ≡ None → is_bus bus ≡ true
allowed bus h = at (is_bus bus) h
  where
    at : (b : Bool) → first_of ((not b, Bus) ∷ []) ≡ None → b ≡ true
    at true h = refl
    at false h = absurd cc

length-control_buses : (words : List ℕ) → length (control_buses words) ≡ 1024
unfolding control_buses
length-control_buses words = length-table (control_bus words) 1024

-- ---- a word that is stored

same_bus : (w w' : ℕ) (v v' : ℤ) → w ≡ w' → v ≡ v' → ◌≡◌ {A = ControlBus} (record { written = w; value = v }) (record { written = w'; value = v' })
same_bus w w' v v' p q = cc

with_value-set : (bs : List ControlBus) (n : ℕ) (v : ℤ) (d : ControlBus) → with_value bs n v ≡ set bs n (record (get_or bs n d) { value = v })
with_value-set [] n v d = refl
with_value-set (b ∷ bs) zero v d = refl
with_value-set (b ∷ bs) (suc n) v d = ap (λ (t : List ControlBus). b ∷ t) (with_value-set bs n v d)

-- one word, and no other
elsewhere : (old new : List ℕ) (i k x : ℕ) → new ≡ set old i x → k ≢ i → get_or new k 0 ≡ get_or old k 0
elsewhere old new i k x stored ne = ap (λ (ws : List ℕ). get_or ws k 0) stored ∙ get_or-set_other old i k x 0 ne

-- the store of a value to its bus
pub stored_to : (old new : List ℕ) (n x : ℕ) (v : ℤ) → FitsSigned w32 v → n < 1024 → new ≡ set old (8320 + 2 * n + 1) x → x ≡ word_for v → 10368 ≤ length old → control_buses new ≡ with_value (control_buses old) n v
stored_to old new n x v fits below stored is_word long =
    let i = 8320 + 2 * n + 1 in
    let first : get_or new (8320 + 2 * n) 0 ≡ get_or old (8320 + 2 * n) 0 = elsewhere old new i (8320 + 2 * n) x stored (omega arith) in
    let second : sample_in (get_or new i 0) ≡ v = ap sample_in (ap (λ (ws : List ℕ). get_or ws i 0) stored ∙ get_or-set_same old i x 0 (omega arith) ∙ is_word) ∙ sample_in-word_for v fits in
    let was : get_or (control_buses old) n resting ≡ control_bus old n = control_at old n resting below in
    let bus : control_bus new n ≡ record (get_or (control_buses old) n resting) { value = v } =
    same_bus _ _ _ _ first second ∙ ap (λ (b : ControlBus). let c : ControlBus = record b { value = v } in c) (sym was) in
    control_set new old n below (λ k from to apart. elsewhere old new i k x stored (λ (e : k ≡ i). apart (omega (arith, e)) (omega (arith, e))))
    ∙ ap (set (control_buses old) n) bus
    ∙ sym (with_value-set (control_buses old) n v resting)

pub pair-set : (bus v : ℤ) (bs : List ControlBus) → is_bus bus ≡ true → set_bus bus v bs ≡ with_value bs (nat_abs bus) v
pair-set (pos n) v bs is_bus = refl
pair-set (negsuc n) v bs is_bus = absurd cc

pub others-set : (old new : List ℕ) (i x : ℕ) → new ≡ set old i x → 8320 ≤ i → i < 10368 → KeepsOtherWords old new
others-set old new i x stored from to = record {
  len = ap length stored ∙ length-set old i x;
  below = λ k lt. elsewhere old new i k x stored (omega arith);
  above = λ k le. elsewhere old new i k x stored (omega arith);
}

pub others-again : (old mid new : List ℕ) → KeepsOtherWords old mid → KeepsOtherWords mid new → KeepsOtherWords old new
others-again old mid new p q = record {
  len = q.len ∙ p.len;
  below = λ k lt. q.below k lt ∙ p.below k lt;
  above = λ k le. q.above k le ∙ p.above k le;
}

-- ---- a word that is read

value_at-get : (bs : List ControlBus) (n : ℕ) (d : ControlBus) → n < length bs → value_at bs n ≡ (get_or bs n d).value
value_at-get [] n d lt = absurd (omega arith)
value_at-get (b ∷ bs) zero d lt = refl
value_at-get (b ∷ bs) (suc n) d lt = value_at-get bs n d (omega arith)

value_at-word : (words : List ℕ) (n : ℕ) → n < 1024 → value_at (control_buses words) n ≡ sample_in (slice_index words (8320 + 2 * n + 1))
value_at-word words n below =
    value_at-get (control_buses words) n resting (omega (arith, length-control_buses words))
    ∙ ap (λ (b : ControlBus). b.value) (control_at words n resting below)

pub value-read : (words : List ℕ) (bus : ℤ) → is_bus bus ≡ true → sample_in (slice_index words (8320 + 2 * nat_abs bus + 1)) ≡ value_of (control_buses words) bus
value-read words (pos n) is_bus = sym (value_at-word words n (ltb-true n 1024 is_bus))
value-read words (negsuc n) is_bus = absurd cc

-- ---- values fit 32 bits

pub value_of-fits : (words : List ℕ) (bus : ℤ) → is_bus bus ≡ true → fits_int (value_of (control_buses words) bus) ≡ true
value_of-fits words bus is_bus =
    ap fits_int (sym (value-read words bus is_bus))
    ∙ test-from_fits (sample_in (slice_index words (8320 + 2 * nat_abs bus + 1))) (read_sfits w32 (slice_index words (8320 + 2 * nat_abs bus + 1) % 4294967296))

pub bus-fits : (bus : ℤ) → is_bus bus ≡ true → fits_int bus ≡ true
bus-fits (pos n) h = let below : n < 1024 = ltb-true n 1024 h in lt-ltb n (2 ^ 31) (omega arith)
bus-fits (negsuc n) h = absurd cc
