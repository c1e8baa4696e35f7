-- The frames of a run, block by block.
use Rattle.std.proofs.Common.{◌≡◌, ◌<◌, ℕ, ◌+◌, ◌*◌, ◌/◌, ◌%◌, List, [], ℤ, pos, get_or, ap, ◌∙◌, arith}
use Rattle.std.proofs.lemmas.Nat.{div-mul-add, mod-mul-add}
use Rattle.sn_def.specs.Histories.{heard}

pub block_of : (b j : ℕ) → j < 64 → (b * 64 + j) / 64 ≡ b
block_of b j lt = div-mul-add b 64 j lt

pub frame_of : (b j : ℕ) → j < 64 → (b * 64 + j) % 64 ≡ j
frame_of b j lt = mod-mul-add b 64 j lt

pub at_frame : (t : ℕ) → t / 64 * 64 + t % 64 ≡ t
at_frame t = omega arith

pub heard_at : (run : ℕ → List (List ℤ)) (i b j : ℕ) → j < 64 → heard run i (b * 64 + j) ≡ get_or (get_or (run b) i []) j (pos 0)
heard_at run i b j lt = ap (λ n. get_or (get_or (run n) i []) ((b * 64 + j) % 64) (pos 0)) (block_of b j lt) ∙ ap (λ k. get_or (get_or (run b) i []) k (pos 0)) (frame_of b j lt)
