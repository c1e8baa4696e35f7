use Rattle.std.proofs.Common.{rules}
use Rattle.std.specs.Prelude.{FitsSigned, pos}
use Rattle.std.specs.Int.{w32}
use Rattle.sn_osc.specs.Bytes.{int_bytes}
use Rattle.sn_reply.proofs.Pieces.{was_put, five}
use Rattle.sn_reply.proofs.events.put_neighbours.Goals as goal

pub returns-clause-bytes : goal.returns-clause-bytes
returns-clause-bytes c =
    let p = c.args.neighbours.now in
    five c.args.out.now.bytes c.args.head.now (int_bytes p.id) (int_bytes p.parent) (int_bytes p.previous) (int_bytes p.next) (int_bytes (pos 0))
    c.append_within.new.self.bytes c.put_int.new.out.bytes c.put_int-2.new.out.bytes c.put_int-3.new.out.bytes c.put_int-4.new.out.bytes c.put_int-5.new.out.bytes
    c.append_within.ensures.bytes (let fits : FitsSigned w32 p.id = search rules in was_put p.id c.append_within.new.self.bytes c.put_int.new.out.bytes fits c.put_int.ensures.bytes) (let fits : FitsSigned w32 p.parent = search rules in was_put p.parent c.put_int.new.out.bytes c.put_int-2.new.out.bytes fits c.put_int-2.ensures.bytes) (let fits : FitsSigned w32 p.previous = search rules in was_put p.previous c.put_int-2.new.out.bytes c.put_int-3.new.out.bytes fits c.put_int-3.ensures.bytes) (let fits : FitsSigned w32 p.next = search rules in was_put p.next c.put_int-3.new.out.bytes c.put_int-4.new.out.bytes fits c.put_int-4.ensures.bytes) c.put_int-5.ensures.bytes
