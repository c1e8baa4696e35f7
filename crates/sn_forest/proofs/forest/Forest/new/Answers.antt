use Rattle.std.proofs.Common.{◌∙◌, ap, arith}
use Rattle.slab.specs.Slab.{Slab}
use Rattle.sn_forest.proofs.Reading.{one_node}
use Rattle.sn_forest.proofs.Growing.{forest_sound}
use Rattle.sn_forest.proofs.forest.Forest.new.Goals as goal

pub invariant_of-result : goal.invariant_of-result
invariant_of-result g c =
    forest_sound _ _ _ _ (one_node c.reserve.new.self c.insert_reserved-root.new.self c.insert_reserved-root.result c.fresh.result
    (ap (λ (s : Slab _). s.slots) c.reserve.ensures.rest_kept ∙ c.new-slots.ensures.empty) c.insert_reserved-root.ensures.updates c.insert_reserved-root.ensures.len c.fresh.ensures.links (omega (arith, c.insert_reserved-root.ensures.key, ap (λ (s : Slab _). s.vacant_key) c.reserve.ensures.rest_kept, c.new-slots.ensures.first_key)))
