use Rattle.std.proofs.Common.{◌<◌, length, rules}
use Rattle.sn_mem.proofs.Steadies.{steady_more, marked}
use Rattle.sn_mem.proofs.blocks.Blocks.push_equal.Goals as goal

pub invariant_of-self : goal.invariant_of-self
invariant_of-self c =
    let room : c.self.inside.used < length c.self.inside.items.items = search rules in (
      c.self.invariant.0,
      search rules,
      search rules,
      λ e. steady_more c.self.inside.items.items c.self.inside.used c.args.value _ room (search rules) (c.self.invariant.3 e),
      marked c.self.inside.marks.items c.self.inside.items.items c.self.inside.used c.args.value _ room (search rules) c.self.invariant.4,
    )
