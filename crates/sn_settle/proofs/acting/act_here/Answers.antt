use Rattle.std.proofs.Common.{◌≡◌, false, Some, rules}
use Rattle.sn_world.specs.Settling.{acted_at, frees, pauses}
use Rattle.sn_world.specs.World.{turn_of}
use Rattle.sn_settle.proofs.Acted.{no_act, act_other}
use Rattle.sn_settle.proofs.acting.act_here.Goals as goal

pub returns-then-not-frees : goal.returns-then-not-frees
returns-then-not-frees c =
    let first : pauses c.args.ending.now.action ≡ false = search rules in
    let second : frees c.args.ending.now.action ≡ false = search rules in
    no_act 1 (acted_at c.args.ending.now (Some c.args.view.now)) c.args.stage.now c.args.outs.now (λ words replies. act_other c.args.ending.now c.args.view.now (turn_of c.args.stage.now words replies) first second)
