use Rattle.std.proofs.Common.{◌≡◌, rules}
use Rattle.sn_reply.specs.Failing.{definition_line}
use Rattle.sn_reply.proofs.Sending.{short-definition_line}
use Rattle.sn_reply.proofs.failing.definition_line.Goals as goal

pub returns-clause-short : goal.returns-clause-short
returns-clause-short c =
    let is : c.from_vec.result.bytes ≡ definition_line c.args.line = search rules in
    short-definition_line c.from_vec.result.bytes c.args.line c.ranges.line.fits is
