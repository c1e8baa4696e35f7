use Rattle.std.proofs.Common.{◌≡◌, ap, rules}
use Rattle.sn_osc.specs.Shape.{message_of}
use Rattle.sn_world.specs.World.{turn_of}
use Rattle.sn_world.specs.Commands.{run_node, run_bus, either as first_there}
use Rattle.sn_engine.proofs.ActingLemmas.{done_there, handles_done, not_mine, none_there, handles_other, unless_done, unless_failed, unless_other}
use Rattle.sn_engine.proofs.acting.run_known.Goals as goal
use Rattle.sn_engine.proofs.acting.run_known.Goals.{in-NotMine, in-Failed, in-Done, in-Completion}

pub returns-clause-row : goal.returns-clause-row
returns-clause-row g c =
    let m = message_of c.args.message.now in
    let t = turn_of c.args.stage.now (g.P.Port.words c.args.port.now) c.args.replies.now in
    let after = turn_of c.run_node_command.new.stage (g.P.Port.words c.run_node_command.new.port) c.run_node_command.new.replies in
    elim c.match-branch-2.branch [
      | in-NotMine w ↦
          handles_other c.match-branch-2.result w.run_bus_command.result (run_node c.args.from m t) (run_bus c.args.from m t) (run_bus c.args.from m after)
          (turn_of c.match-branch-2.stage (g.P.Port.words c.match-branch-2.port) c.match-branch-2.replies)
          (turn_of w.run_bus_command.new.stage (g.P.Port.words w.run_bus_command.new.port) w.run_bus_command.new.replies)
          w.result-is (λ i. turn_of (w.stage-is i) (g.P.Port.words (w.port-is i)) (w.replies-is i))
          (none_there c.in_ok-reason.field-0 (run_node c.args.from m t) after w.in-NotMine.is c.in_ok-reason.ensures.row)
          (ap (run_bus c.args.from m) (not_mine c.in_ok-reason.field-0 (after ≡ t) w.in-NotMine.is c.in_ok-reason.ensures.unchanged))
          w.run_bus_command.ensures.row
      | in-Failed w ↦ search rules
      | in-Done w ↦
          handles_done c.match-branch-2.result (first_there (run_node c.args.from m t) (run_bus c.args.from m t)) (turn_of c.match-branch-2.stage (g.P.Port.words c.match-branch-2.port) c.match-branch-2.replies) after
          w.result-is (λ i. turn_of (w.stage-is i) (g.P.Port.words (w.port-is i)) (w.replies-is i))
          (done_there c.in_ok-reason.field-0 (run_node c.args.from m t) (run_bus c.args.from m t) after w.in-Done.is c.in_ok-reason.ensures.row)
      | in-Completion w ↦ search rules
    ]

pub returns-clause-pictures : goal.returns-clause-pictures
returns-clause-pictures g c =
    elim c.match-branch-2.branch [
      | in-NotMine w ↦ search rules
      | in-Failed w ↦ search rules
      | in-Done w ↦ search rules
      | in-Completion w ↦ search rules
    ]

pub returns-clause-unchanged : goal.returns-clause-unchanged
returns-clause-unchanged g c =
    let t = turn_of c.args.stage.now (g.P.Port.words c.args.port.now) c.args.replies.now in
    let after = turn_of c.run_node_command.new.stage (g.P.Port.words c.run_node_command.new.port) c.run_node_command.new.replies in
    let end = turn_of c.match-branch-2.stage (g.P.Port.words c.match-branch-2.port) c.match-branch-2.replies in
    elim c.match-branch-2.branch [
      | in-NotMine w ↦
          unless_other c.match-branch-2.result w.run_bus_command.result end (turn_of w.run_bus_command.new.stage (g.P.Port.words w.run_bus_command.new.port) w.run_bus_command.new.replies) after t
          w.result-is (λ i. turn_of (w.stage-is i) (g.P.Port.words (w.port-is i)) (w.replies-is i))
          (not_mine c.in_ok-reason.field-0 (after ≡ t) w.in-NotMine.is c.in_ok-reason.ensures.unchanged)
          w.run_bus_command.ensures.unchanged
      | in-Failed w ↦
          unless_failed c.match-branch-2.result c.in_ok-reason.field-0 w.in-Failed.reason end after t
          w.result-is w.in-Failed.is (λ i. turn_of (w.stage-is i) (g.P.Port.words (w.port-is i)) (w.replies-is i))
          c.in_ok-reason.ensures.unchanged
      | in-Done w ↦ unless_done c.match-branch-2.result end t w.result-is
      | in-Completion w ↦ unless_done c.match-branch-2.result end t w.result-is
    ]
