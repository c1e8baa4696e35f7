use Rattle.std.proofs.Common.{rules, ◌≡◌, ◌<◌, ◌++◌}
use Rattle.sn_osc.specs.Bytes.{int_bytes}
use Rattle.sn_shelf.proofs.PartLemmas.{put_more, rest_there, all_put}
use Rattle.sn_shelf.proofs.parts.put_samples.Goals as goal

pub loop-left-preserved : goal.loop-left-preserved
loop-left-preserved c =
    let at = c.loop-left in
    let some : 0 < at.left = search rules in
    let put : c.append.new.self.bytes ≡ at.out.bytes ++ int_bytes c.sample_of.result = search rules in
    record {
      put = put_more _ at.out.bytes c.append.new.self.bytes at.rest.now c.from_byte-rest.result.now c.sample_of.result at.left c.args.width some c.sample_of.ensures put c.from_byte-rest.ensures at.invariant.put;
      there = rest_there at.rest.now c.from_byte-rest.result.now at.left c.args.width some c.from_byte-rest.ensures at.invariant.there;
    }

pub returns : goal.returns
returns c =
    let none : c.loop-left.left ≡ 0 = search rules in
    all_put _ c.loop-left.out.bytes c.loop-left.rest.now c.loop-left.left c.args.width none c.loop-left.invariant.put
