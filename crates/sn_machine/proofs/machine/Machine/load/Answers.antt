use Rattle.std.proofs.Common.{rules, arith, ◌<◌, length}
use Rattle.sn_machine.proofs.Seated.{here}
use Rattle.sn_machine.proofs.machine.Machine.load.Goals as goal

pub returns : goal.returns
returns c =
    let views = c.args.self.now.views.items in
    let near : c.args.seat < c.args.self.now.views.len = search rules in
    let inside : c.args.seat < length views = omega (arith, near, c.args.self.now.views.ok.0) in
    (c.word.ensures, (c.index.result.now, here views c.args.seat c.index.result.now inside c.index.ensures, search rules))
