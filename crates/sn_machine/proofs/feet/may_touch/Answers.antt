use Rattle.sn_mem.specs.Words.{has}
use Rattle.sn_machine.proofs.Covering.{first_holds, second_holds}
use Rattle.sn_machine.proofs.feet.may_touch.Goals as goal

pub returns-then-may_write : goal.returns-then-may_write
returns-then-may_write c = first_holds (has c.args.foot.now.writes c.args.word) (has c.args.foot.now.reads c.args.word) c.may_write.result c.may_write.ensures c.if-may_write.true

pub returns-else-may_write : goal.returns-else-may_write
returns-else-may_write c = second_holds (has c.args.foot.now.writes c.args.word) (has c.args.foot.now.reads c.args.word) c.may_write.result c.has.result c.may_write.ensures c.if-may_write.false c.has.ensures
