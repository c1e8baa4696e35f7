use Rattle.std.proofs.Common.{refl, map}
use Rattle.sn_osc.specs.Shape.{argument_of}
use Rattle.sn_tree.specs.Trees.{subtree}
use Rattle.sn_nodecmd.specs.Runs.{reader, run_of}
use Rattle.sn_layout.proofs.Runs.{last_plain, next_plain, unread_plain}
use Rattle.sn_layout.proofs.controls.runs_laid.Goals as goal

pub loop-rest-preserved : goal.loop-rest-preserved
loop-rest-preserved c = λ h.
    c.loop-rest.invariant
    (next_plain (subtree c.args.node.now.id c.args.tree.now.attached) (reader c.args.form) c.loop-rest.rest.now (run_of c.in-Some.read.run) (map argument_of c.in-Some.read.rest.now) c.in-Some.ensures.read (c.if-any_held.ensures refl) h)

pub returns-in_default : goal.returns-in_default
returns-in_default c = λ _. c.loop-rest.invariant (unread_plain (subtree c.args.node.now.id c.args.tree.now.attached) (reader c.args.form) c.loop-rest.rest.now c.in_default.ensures.read)

pub returns : goal.returns
returns c = λ _. c.loop-rest.invariant (last_plain (subtree c.args.node.now.id c.args.tree.now.attached) (reader c.args.form) c.loop-rest.rest.now c.loop-rest-test.false)
