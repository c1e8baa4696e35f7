-- A map from names to what they stand for, as a function.
use Rattle.std.specs.Prelude.{ℕ, List, Option}
use Rattle.std.specs.Cmp.Lexicographic.{slice_cmp}
use Rattle.std.specs.Ordering.{nat_cmp}
use Rattle.std.specs.BTreeMap.{BTreeMap, get_by}
use Rattle.std.specs.Borrow.{Bor}
use Rattle.sn_def.specs.declared.unit.Input.{Input}

abbrev pub value_at : BTreeMap (Bor (List ℕ)) Input → List ℕ → Option Input
value_at m q = get_by (λ k. slice_cmp nat_cmp q k.now) m
