-- The buses that begin in an extent, by their numbers.
use Rattle.std.proofs.Common.{◌≡◌, ◌≤◌, ◌<◌, ℕ, ◌+◌, ◌*◌, Bool, false, ◌||◌, ◌&&◌, List, [], ◌∷◌, length, get_or, take, ap, sym, ◌∙◌, arith}
use Rattle.std.specs.Prelude.{min, nat_le, nat_lt, slice_index_or}
use Rattle.std.specs.Bool.{one_answer}
use Rattle.std.specs.Int.{div_ceil}
use Rattle.std.proofs.Math.Bool.{or-false}
use Rattle.std.proofs.lemmas.Bool.{leb-true, le-leb}
use Rattle.std.proofs.lemmas.Bool.Decides.{Decides-and, Decides-like, Decides-ltb}
use Rattle.std.proofs.lemmas.Grind.{div_ceil_times}
use Rattle.std.proofs.lemmas.List.{take_more}
use Rattle.sn_mem.specs.declared.extents.Extent.{Extent}
use Rattle.sn_mem.specs.Blocks.{table}
use Rattle.sn_mem.specs.Words.{covers, has}
use Rattle.sn_mem.proofs.Windows.{table_same}
use Rattle.sn_foot.proofs.Runs.{has_append}
use Rattle.sn_graph.proofs.Flags.{told}

-- from the first that begins in it, up to the first that begins behind it or to the last of all
pub covers_run : (e : Extent) (n first past stop : ℕ) → n < 128 → first ≡ div_ceil e.at 65 → past ≡ min (div_ceil (e.at + e.len) 65) 128 → past ≤ stop → (first ≤ past → stop ≤ past) → (nat_le first n && nat_lt n stop) ≡ covers e (65 * n)
covers_run e n first past stop lt f p low high =
    let a = div_ceil_times e.at 65 (omega arith) in
    let b = div_ceil_times (e.at + e.len) 65 (omega arith) in
    one_answer (nat_le first n && nat_lt n stop) (covers e (65 * n))
    (Decides-and (nat_le first n) (nat_lt n stop) (leb-true first n, le-leb first n) (Decides-ltb n stop))
    (Decides-like (covers e (65 * n))
    (λ (h : (e.at ≤ 65 * n) × (65 * n < e.at + e.len)). (omega (arith, a, f, h), omega (arith, b, p, low, lt, h)))
    (λ (h : (first ≤ n) × (n < stop)). let end : stop ≤ past = high (omega (arith, a, b, f, p, lt, h)) in (omega (arith, a, f, h), omega (arith, b, p, end, h)))
    (Decides-and (nat_le e.at (65 * n)) (nat_lt (65 * n) (e.at + e.len)) (leb-true e.at (65 * n), le-leb e.at (65 * n)) (Decides-ltb (65 * n) (e.at + e.len))))

-- flags of the extents up to one, with those that it covers
pub covers_next : (items es : List Extent) (i : ℕ) (d : Extent) (xs : List Bool) → items ≡ es → i < length items → xs ≡ table (λ n. has (take i es) (65 * n)) 128
    → table (λ n. slice_index_or xs n false || covers (get_or items i d) (65 * n)) 128 ≡ table (λ n. has (take (i + 1) es) (65 * n)) 128
covers_next items es i d xs is lt e =
    table_same (λ n. slice_index_or xs n false || covers (get_or items i d) (65 * n)) (λ n. has (take (i + 1) es) (65 * n)) 128
    (λ n below.
    ap (λ b. b || covers (get_or items i d) (65 * n)) (told (λ n. has (take i es) (65 * n)) xs e n below ∙ ap (λ (fs : List Extent). has (take i fs) (65 * n)) (sym is))
    ∙ sym (ap (λ (fs : List Extent). has fs (65 * n)) (take_more items i d lt) ∙ has_append (take i items) (get_or items i d ∷ []) (65 * n) ∙ ap (λ b. has (take i items) (65 * n) || b) (or-false (covers (get_or items i d) (65 * n))))
    ∙ ap (λ (fs : List Extent). has (take (i + 1) fs) (65 * n)) is)
