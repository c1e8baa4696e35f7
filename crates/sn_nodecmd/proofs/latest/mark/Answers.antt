use Rattle.std.proofs.Common.{◌<◌, length, arith}
use Rattle.sn_nodecmd.proofs.LatestLemmas.{mark-judged, mark-items}
use Rattle.sn_nodecmd.proofs.latest.mark.Goals as goal

pub returns-then-is_covered_by-clause-judged : goal.returns-then-is_covered_by-clause-judged
returns-then-is_covered_by-clause-judged g c =
    let js = c.args.judged.now in
    let after : c.args.place < c.args.later = omega (arith, c.if-place-later.false) in
    let within : c.args.later < length js = omega (arith, c.if-later-judged.false) in
    mark-judged g.T.Covering.covered js c.args.place c.args.later c.index-judged-place.result c.index-judged-later.result after within (c.is_covered_by.ensures c.if-is_covered_by.true) c.requires

pub returns-then-is_covered_by-clause-items : goal.returns-then-is_covered_by-clause-items
returns-then-is_covered_by-clause-items g c =
    let js = c.args.judged.now in
    let within : c.args.place < length js = omega (arith, c.if-place-later.false, c.if-later-judged.false) in
    mark-items js c.args.place c.index-judged-place.result within
