-- Lists of extents laid out one after the other.
use Rattle.std.proofs.Common.{◌≡◌, ℕ, ◌+◌, ◌<◌, ◌≤◌, List, [], ◌∷◌, length, get_or, drop, ap, arith, add-one, drop-cons, zero, suc, refl}
use Rattle.std.proofs.lemmas.Bool.{cond_both}
use Rattle.sn_mem.specs.declared.extents.Extent.{Extent}
use Rattle.sn_pool.specs.Pools.{AreLaidOut, same_extent, without_extent}
use Rattle.sn_pool.specs.Gaps.{words_of}

-- What is at i, and what comes after it.
pub drop_head : (es : List Extent) (i : ℕ) (d : Extent) → i < length es → drop i es ≡ get_or es i d ∷ drop (i + 1) es
drop_head es i d lt = rw add-one (drop-cons es i d lt)

pub laid_out_within : (from to : ℕ) (es : List Extent) → AreLaidOut from to es → from ≤ to
laid_out_within from to [] h = h
laid_out_within from to (e ∷ es) h = omega (arith, h.0, h.1, laid_out_within (e.at + e.len) to es h.2)

pub laid_out_lower : (from low to : ℕ) (es : List Extent) → low ≤ from → AreLaidOut from to es → AreLaidOut low to es
laid_out_lower from low to [] le h = omega (arith, h)
laid_out_lower from low to (e ∷ es) le h = (omega (arith, h.0), h.1, h.2)

pub laid_out_words : (from to : ℕ) (es : List Extent) → AreLaidOut from to es → from + words_of es ≤ to
unfolding words_of
laid_out_words from to [] h = omega (arith, h)
laid_out_words from to (e ∷ es) h = omega (arith, h.0, laid_out_words (e.at + e.len) to es h.2)

-- The extent at i lies between the two places, and has a word.
pub laid_out_at : (from to : ℕ) (es : List Extent) (i : ℕ) (d : Extent) → AreLaidOut from to es → i < length es → (from ≤ (get_or es i d).at) × (1 ≤ (get_or es i d).len) × ((get_or es i d).at + (get_or es i d).len ≤ to)
laid_out_at from to [] i d h lt = absurd (omega arith)
laid_out_at from to (e ∷ es) zero d h lt = (h.0, h.1, laid_out_within (e.at + e.len) to es h.2)
laid_out_at from to (e ∷ es) (suc i) d h lt =
    let rest = laid_out_at (e.at + e.len) to es i d h.2 (omega arith) in
    (omega (arith, h.0, rest.0), rest.1, rest.2)

-- Of two, the first ends before the second begins.
pub laid_out_order : (from to : ℕ) (es : List Extent) (i j : ℕ) (d : Extent) → AreLaidOut from to es → i < j → j < length es → (get_or es i d).at + (get_or es i d).len ≤ (get_or es j d).at
laid_out_order from to [] i j d h lt within = absurd (omega arith)
laid_out_order from to (e ∷ es) i zero d h lt within = absurd (omega arith)
laid_out_order from to (e ∷ es) zero (suc j) d h lt within = (laid_out_at (e.at + e.len) to es j d h.2 (omega arith)).0
laid_out_order from to (e ∷ es) (suc i) (suc j) d h lt within = laid_out_order (e.at + e.len) to es i j d h.2 (omega arith) (omega arith)

pub laid_out_without : (from to : ℕ) (es : List Extent) (x : Extent) → AreLaidOut from to es → AreLaidOut from to (without_extent x es)
laid_out_without from to [] x h = h
laid_out_without from to (e ∷ es) x h =
    cond_both (same_extent x e) es (e ∷ without_extent x es) (AreLaidOut from to)
    (λ same. laid_out_lower (e.at + e.len) from to es (omega (arith, h.0)) h.2)
    (λ other. (h.0, h.1, laid_out_without (e.at + e.len) to es x h.2))

pub words_later : (es : List Extent) (i : ℕ) (d : Extent) → i < length es → words_of (drop i es) ≡ (get_or es i d).len + words_of (drop (i + 1) es)
unfolding words_of
words_later es i d lt = ap words_of (drop_head es i d lt)

pub words_none : words_of [] ≡ 0
unfolding words_of
words_none = refl
