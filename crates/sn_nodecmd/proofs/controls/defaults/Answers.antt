use Rattle.std.proofs.Common.{◌∙◌, map, ap}
use Rattle.sn_nodecmd.proofs.ControlLemmas.{default_of, defaults-all}
use Rattle.sn_nodecmd.proofs.controls.defaults.Goals as goal

pub returns : goal.returns
returns c = defaults-all c.loop-param.controls.items c.as_slice-param-items.result.now c.loop-param.param-index c.loop-param-test.false c.loop-param.invariant ∙ ap (map default_of) c.as_slice-param-items.ensures
