-- What is read from the words of a bus.
use Rattle.std.proofs.Common.{◌≡◌, ◌<◌, ℕ, ◌+◌, ◌*◌, Bool, true, false, cond, List, ℤ, pos, replicate, get_or, ap, sym, ◌∙◌, arith}
use Rattle.std.proofs.lemmas.List.{ext_get_or, get_or-replicate, length-replicate}
use Rattle.sn_mem.specs.Blocks.{sample_in, samples_at, table}
use Rattle.sn_mem.specs.Buses.{AudioBus, ControlBus, audio_buses, control_buses, silent, resting}
use Rattle.sn_mem.proofs.Tables.{length-table}
use Rattle.sn_mem.proofs.Windows.{table_at, table_same}
use Rattle.sn_mem.proofs.BusLaws.{audio_at, control_at}
use Rattle.sn_io.specs.BusInputs.{hears, heard_block}

pub control_at_is : (ws : List ℕ) (n w : ℕ) (x : ℤ) → n < 1024 → x ≡ sample_in w → w ≡ get_or ws (8320 + 2 * n + 1) 0 → x ≡ (get_or (control_buses ws) n resting).value
control_at_is ws n w x low e f = e ∙ (ap sample_in f ∙ ap (λ (b : ControlBus). b.value) (sym (control_at ws n resting low)))

pub same_value : {A : Type 0} (x : A) (n : ℕ) → replicate n x ≡ table (λ k. x) n
same_value x n = ext_get_or x (replicate n x) (table (λ k. x) n) (length-replicate n x ∙ sym (length-table (λ k. x) n))
    (λ k lt. let l : k < n = omega (arith, lt, length-replicate n x) in get_or-replicate n k x x l ∙ sym (table_at (λ k. x) n k x l))

either : (t : Bool) (ws : List ℕ) (at : ℕ) → cond t (samples_at ws at) (replicate 64 (pos 0)) ≡ table (λ k. cond t (get_or (samples_at ws at) k (pos 0)) (pos 0)) 64
either true ws at = table_same (λ k. sample_in (get_or ws (at + k) 0)) (λ k. get_or (samples_at ws at) k (pos 0)) 64 (λ k lt. sym (table_at (λ k. sample_in (get_or ws (at + k) 0)) 64 k (pos 0) lt))
either false ws at = same_value (pos 0) 64

pub heard_is : (feedback : Bool) (b : ℕ) (ws : List ℕ) (n : ℕ) → n < 128 → cond (hears feedback b (get_or ws (65 * n) 0)) (samples_at ws (65 * n + 1)) (replicate 64 (pos 0)) ≡ heard_block feedback b (get_or (audio_buses ws) n silent)
heard_is feedback b ws n low = either (hears feedback b (get_or ws (65 * n) 0)) ws (65 * n + 1) ∙ ap (λ (bus : AudioBus). heard_block feedback b bus) (sym (audio_at ws n silent low))
