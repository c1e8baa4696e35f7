-- One pole whose weight is the same at each frame.
use Rattle.std.proofs.Common.{◌≡◌, ◌<◌, ℕ, List, ℤ, pos, get_or, replicate, ap, sym, ◌∙◌}
use Rattle.std.proofs.lemmas.List.{get_or-replicate}
use Rattle.sn_mem.specs.Blocks.{block, sample}
use Rattle.sn_filt.specs.Arithmetic.{clipped}
use Rattle.sn_filt.specs.Poles.{pole, one_pole}

pub weight_at : (weight : ℤ) (inputs : List (List ℤ)) (i k : ℕ) → k < 64 → block inputs i ≡ replicate 64 weight → sample inputs i k ≡ weight
weight_at weight inputs i k lt e = ap (λ (xs : List ℤ). get_or xs k (pos 0)) e ∙ get_or-replicate 64 k weight (pos 0) lt

pub pole_frame : (last y c weight : ℤ) (xs : List ℤ) (inputs : List (List ℤ)) (k : ℕ) → k < 64 → c ≡ clipped weight → block inputs 0 ≡ xs → block inputs 1 ≡ replicate 64 weight → y ≡ pole last (get_or xs k (pos 0)) c → ◌≡◌ {A = ℤ × ℤ} (y, y) (one_pole last inputs k)
pole_frame last y c weight xs inputs k lt is x w e =
    let at_x : get_or xs k (pos 0) ≡ sample inputs 0 k = ap (λ (ys : List ℤ). get_or ys k (pos 0)) (sym x) in
    let at_w : c ≡ clipped (sample inputs 1 k) = is ∙ ap clipped (sym (weight_at weight inputs 1 k lt w)) in
    let whole : y ≡ pole last (sample inputs 0 k) (clipped (sample inputs 1 k)) = e ∙ (ap (λ (z : ℤ). pole last z c) at_x ∙ ap (λ (d : ℤ). pole last (sample inputs 0 k) d) at_w) in
    ap (λ (z : ℤ). (z, z)) whole
