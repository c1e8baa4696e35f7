use Rattle.std.proofs.Common.{◌≤◌, ◌<◌, ◌∙◌, arith, length, sym}
use Rattle.sn_foot.specs.Uses.{footprint_in}
use Rattle.sn_clash.proofs.Together.{all_gathered, all_left, last_gathered, last_left}
use Rattle.sn_clash.proofs.gathering.gather.Goals as goal

pub loop-passed-preserved : goal.loop-passed-preserved
loop-passed-preserved c =
    let i = c.loop-passed.invariant in
    let old = c.loop-passed.passed.items in
    let new = c.pop.new.self.items in
    let more : c.args.kept < length old = omega (arith, c.loop-passed-test.true, c.len.ensures, c.loop-passed.passed.ok.0) in
    record {
      uses = λ there. last_gathered there c.args.kept old new c.in-Some.subtree c.loop-passed.uses.items c.in_ok-uses-in-Some.uses.items c.in-Some.ensures.items more (c.in_ok-uses-in-Some.ensures there) ∙ i.uses there;
      left = last_left c.args.kept old new c.in-Some.subtree c.in-Some.ensures.items more ∙ i.left;
    }

pub returns-clause-uses : goal.returns-clause-uses
returns-clause-uses c = λ there.
    let i = c.loop-passed.invariant in
    let old = c.loop-passed.passed.items in
    let few : length old ≤ c.args.kept = omega (arith, c.loop-passed-test.false, c.len.ensures, c.loop-passed.passed.ok.0) in
    c.in_ok-all.ensures there ∙ sym (all_gathered there c.args.kept old (footprint_in there c.loop-passed.uses.items) few) ∙ i.uses there

pub returns-clause-left : goal.returns-clause-left
returns-clause-left c =
    let i = c.loop-passed.invariant in
    let old = c.loop-passed.passed.items in
    let few : length old ≤ c.args.kept = omega (arith, c.loop-passed-test.false, c.len.ensures, c.loop-passed.passed.ok.0) in
    sym (all_left c.args.kept old few) ∙ i.left
