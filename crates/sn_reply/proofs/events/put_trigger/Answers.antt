use Rattle.std.proofs.Common.{rules}
use Rattle.std.specs.Prelude.{FitsSigned}
use Rattle.std.specs.Int.{w32}
use Rattle.sn_osc.specs.Bytes.{int_bytes}
use Rattle.sn_reply.proofs.Pieces.{was_put, three}
use Rattle.sn_reply.proofs.events.put_trigger.Goals as goal

pub returns-clause-bytes : goal.returns-clause-bytes
returns-clause-bytes c =
    three c.args.out.now.bytes c.args.head.now (int_bytes c.args.node) (int_bytes c.args.id) (int_bytes c.args.value) c.append_within.new.self.bytes c.put_int.new.out.bytes c.put_int-2.new.out.bytes c.put_int-3.new.out.bytes
    c.append_within.ensures.bytes (let fits : FitsSigned w32 c.args.node = search rules in was_put c.args.node c.append_within.new.self.bytes c.put_int.new.out.bytes fits c.put_int.ensures.bytes) (let fits : FitsSigned w32 c.args.id = search rules in was_put c.args.id c.put_int.new.out.bytes c.put_int-2.new.out.bytes fits c.put_int-2.ensures.bytes) (let fits : FitsSigned w32 c.args.value = search rules in was_put c.args.value c.put_int-2.new.out.bytes c.put_int-3.new.out.bytes fits c.put_int-3.ensures.bytes)
