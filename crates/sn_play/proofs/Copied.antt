-- A change that sees and changes a foot alone, made in a copy of the words that the foot touches.
use Rattle.std.proofs.Common.{◌≡◌, ℕ, List, ap, sym, ◌∙◌}
use Rattle.sn_mem.specs.declared.extents.Foot.{Foot}
use Rattle.sn_mem.specs.ThroughFoot.{outside}
use Rattle.sn_mem.proofs.Masks.{outside_kept}
use Rattle.sn_io.specs.ByFoot.{IsByFoot}
use Rattle.sn_io.proofs.ByFoot.{kept_same}

-- what is seen after it, and what the port has, are the same outside what the foot may write
pub seen_outside : (f g : Foot) (change : List ℕ → List ℕ) (base us ws : List ℕ) → g ≡ f → IsByFoot f change → us ≡ change base → outside g ws ≡ outside f base → outside g us ≡ outside g ws
seen_outside f g change base us ws e by a b =
    ap (λ (h : Foot). outside h us) e
    ∙ (ap (outside f) (a ∙ sym (kept_same f change base by))
    ∙ (outside_kept f change base ∙ sym b))
