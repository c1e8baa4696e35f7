use Rattle.std.proofs.Common.{◌∙◌, ap, Some}
use Rattle.std.specs.Option.{option_map}
use Rattle.sn_nodecmd.specs.Faults.{reason_of}
use Rattle.sn_nodecmd.proofs.Relocating.{judged_move}
use Rattle.sn_nodecmd.proofs.moving.relocate.Goals as goal

pub returns-in-Ok-clause-reason : goal.returns-in-Ok-clause-reason
returns-in-Ok-clause-reason c = ap (option_map reason_of) c.in-Ok.ensures.fault ∙ judged_move c.args.to.now c.args.tree.now.attached

pub returns-in-Err-clause-reason : goal.returns-in-Err-clause-reason
returns-in-Err-clause-reason c = ap Some c.reason_of.ensures ∙ ap (option_map reason_of) c.in-Err.ensures.fault ∙ judged_move c.args.to.now c.args.tree.now.attached
