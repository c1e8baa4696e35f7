use Rattle.std.proofs.Common.{◌≡◌, take}
use Rattle.sn_mem.specs.Blocks.{window}
use Rattle.sn_mem.proofs.port.Port.load_run.Given as goal

abbrev pub invariant-loop-i : goal.invariant-loop-i
invariant-loop-i g l = (g.Self.Port.words l.self ≡ g.Self.Port.words l.initial.self) × (g.Self.Port.foot l.self ≡ g.Self.Port.foot l.initial.self) × (g.Self.Port.rest l.self ≡ g.Self.Port.rest l.initial.self) × (take l.i l.into ≡ window (g.Self.Port.words l.initial.self) l.at l.i)
