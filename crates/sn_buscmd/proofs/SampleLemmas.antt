-- Samples of a buffer that are set.
use Rattle.std.proofs.Common.{◌≡◌, ◌≢◌, ◌≤◌, ◌<◌, ◌+◌, ◌-◌, ℕ, zero, suc, ℤ, pos, List, [], ◌∷◌, ◌++◌, map, length, get_or, set, replicate, true, false, refl, ap, sym, ◌∙◌, arith, length-set, get_or-set_other}
use Rattle.std.specs.Prelude.{FitsSigned}
use Rattle.std.specs.Int.{w32}
use Rattle.std.proofs.lemmas.List.{map-set, length-map, length-replicate}
use Rattle.sn_mem.specs.declared.extents.Extent.{Extent}
use Rattle.sn_mem.specs.declared.extents.Foot.{Foot}
use Rattle.sn_mem.specs.Words.{MayWrite, covers, touches}
use Rattle.sn_mem.specs.Blocks.{window, put, sample_in, word_for}
use Rattle.sn_mem.proofs.BusLaws.{sample_in-word_for}
use Rattle.sn_mem.proofs.Masks.{touched}
use Rattle.sn_mem.proofs.Meetings.{covered}
use Rattle.sn_mem.proofs.Steps.{length-window}
use Rattle.sn_mem.proofs.Windows.{window_at, window_put}
use Rattle.sn_mem.specs.Buffers.{samples_of}
use Rattle.sn_world.specs.BufferNumbers.{set_from}
use Rattle.sn_buscmd.specs.Samples.{KeepsAround}

-- ---- one sample

window_set : (ws : List ℕ) (at len i w : ℕ) → i < len → at + len ≤ length ws → window (set ws (at + i) w) at len ≡ set (window ws at len) i w
unfolding put
window_set ws at len i w low inside = window_put ws at len i (w ∷ []) (omega arith) inside

pub stored_sample : (old new : List ℕ) (e : Extent) (i w : ℕ) (v : ℤ) → FitsSigned w32 v → i < e.len → e.at + e.len ≤ length old → new ≡ set old (e.at + i) w → w ≡ word_for v
    → samples_of new e ≡ set (samples_of old e) i v
stored_sample old new e i w v fits low inside is is_word =
    ap (λ (ws : List ℕ). map sample_in (window ws e.at e.len)) is
    ∙ ap (map sample_in) (window_set old e.at e.len i w low inside)
    ∙ map-set sample_in (window old e.at e.len) i w
    ∙ ap (set (samples_of old e) i) (ap sample_in is_word ∙ sample_in-word_for v fits)

apart : (e : Extent) (i k : ℕ) → i < e.len → covers e k ≡ false → k ≢ e.at + i
apart e i k low free is = let here : covers e k ≡ true = covered e k (omega arith) (omega arith) in absurd (cc)

pub stored_around : (old new : List ℕ) (e : Extent) (i w : ℕ) → i < e.len → new ≡ set old (e.at + i) w → KeepsAround e old new
stored_around old new e i w low is = record {
  len = ap length is ∙ length-set old (e.at + i) w;
  around = λ k free. ap (λ (ws : List ℕ). get_or ws k 0) is ∙ get_or-set_other old (e.at + i) k w 0 (apart e i k low free);
}

-- the last word may be touched
pub last_touched : (f : Foot) (e : Extent) (i : ℕ) → MayWrite f e.at e.len → i < e.len → touches f (e.at + (e.len - 1)) ≡ true
last_touched f e i may low = touched f (e.at + (e.len - 1)) (may.each (e.len - 1) (omega arith))

pub length-samples : (ws : List ℕ) (e : Extent) → length (samples_of ws e) ≡ e.len
length-samples ws e = length-map (window ws e.at e.len) sample_in ∙ length-window ws e.at e.len

-- ---- a sample that is read

in_word : (xs : List ℕ) (i : ℕ) → i < length xs → sample_in (get_or xs i 0) ≡ get_or (map sample_in xs) i (pos 0)
in_word [] i lt = absurd (omega arith)
in_word (x ∷ xs) zero lt = refl
in_word (x ∷ xs) (suc i) lt = in_word xs i (omega arith)

pub read_sample : (ws : List ℕ) (e : Extent) (i : ℕ) → i < e.len → sample_in (get_or ws (e.at + i) 0) ≡ get_or (samples_of ws e) i (pos 0)
read_sample ws e i lt =
    ap sample_in (sym (window_at ws e.at e.len i lt)) ∙ in_word (window ws e.at e.len) i (omega (arith, lt, length-window ws e.at e.len))

-- ---- samples in a row

-- all samples
set_next : (front : List ℤ) (b : ℤ) (bs : List ℤ) (v : ℤ) → set (front ++ b ∷ bs) (length front) v ≡ (front ++ v ∷ []) ++ bs
set_next [] b bs v = refl
set_next (a ∷ front) b bs v = ap (λ (xs : List ℤ). a ∷ xs) (set_next front b bs v)

length-next : (front : List ℤ) (v : ℤ) → length (front ++ v ∷ []) ≡ length front + 1
length-next [] v = refl
length-next (a ∷ front) v = omega (arith, length-next front v)

append-next : (front : List ℤ) (v : ℤ) (bs : List ℤ) → (front ++ v ∷ []) ++ bs ≡ front ++ v ∷ bs
append-next [] v bs = refl
append-next (a ∷ front) v bs = ap (λ (xs : List ℤ). a ∷ xs) (append-next front v bs)

pub set_behind : (front vs bs : List ℤ) → length vs ≡ length bs → set_from (length front) vs (front ++ bs) ≡ front ++ vs
set_behind front [] [] same = refl
set_behind front [] (b ∷ bs) same = absurd (omega (arith, same))
set_behind front (v ∷ vs) [] same = absurd (omega (arith, same))
set_behind front (v ∷ vs) (b ∷ bs) same =
    ap (set_from (length front + 1) vs) (set_next front b bs v)
    ∙ ap (λ n. set_from n vs ((front ++ v ∷ []) ++ bs)) (sym (length-next front v))
    ∙ set_behind (front ++ v ∷ []) vs bs (omega (arith, same))
    ∙ append-next front v vs

pub filled-entirely : (xs : List ℤ) (n : ℕ) (v : ℤ) → length xs ≡ n → set_from 0 (replicate n v) xs ≡ replicate (length xs) v
filled-entirely xs n v is = ap (λ m. set_from 0 (replicate m v) xs) (sym is) ∙ set_behind [] (replicate (length xs) v) xs (length-replicate {A = ℤ} (length xs) v)
