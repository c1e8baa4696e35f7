-- The groups that stood before, and those that are left.
use Rattle.std.proofs.Common.{◌≡◌, ℤ, [], ◌++◌, take, drop}
use Rattle.std.specs.BTreeSet.{contains}
use Rattle.std.specs.Ordering.{int_cmp}
use Rattle.sn_nodecmd.specs.Again.{stands_in, repeated}
use Rattle.sn_nodecmd.proofs.emptying.repeated.Given as goal

abbrev pub invariant-loop-deep_free : goal.invariant-loop-deep_free
invariant-loop-deep_free l = record {
  earlier : (g : ℤ) → contains int_cmp l.earlier g ≡ stands_in (take l.deep_free-index l.groups) g;
  found : l.found.items ++ repeated (take l.deep_free-index l.groups) (drop l.deep_free-index l.groups) ≡ repeated [] l.groups;
}
