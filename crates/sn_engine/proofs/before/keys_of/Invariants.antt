use Rattle.std.proofs.Common.{◌≡◌, take}
use Rattle.std.specs.List.{list_any}
use Rattle.std.specs.BTreeSet.{contains}
use Rattle.sn_clash.specs.declared.clash.Clash.{Clash}
use Rattle.sn_engine.specs.Clashing.{same_clash}
use Rattle.sn_engine.specs.Seeking.{key_of, key_cmp}
use Rattle.sn_engine.proofs.before.keys_of.Given as goal

abbrev pub invariant-loop-clash : goal.invariant-loop-clash
invariant-loop-clash l = (c : Clash) → contains key_cmp l.keys (key_of c) ≡ list_any (λ b. same_clash b c) (take l.clash-index l.clashes)
