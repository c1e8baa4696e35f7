use Rattle.std.proofs.Common.{length, ◌∙◌}
use Rattle.sn_mem.specs.Lanes.{exchanged}
use Rattle.sn_mem.proofs.LaneRuns.{read_rooms, row_reads, row_samples}
use Rattle.sn_mem.proofs.Windows.{samples_of_window}
use Rattle.sn_mem.proofs.lanes.LanePortPort.load_samples.Goals as goal

pub run_in-requires-clause-room : goal.run_in-requires-clause-room
run_in-requires-clause-room g c =
    let port = c.args.self.now.port.now in
    read_rooms c.args.self.now.moves.now (length (g.P.Port.words port)) (g.P.Port.foot port) c.args.at 64 c.requires

pub load_samples-requires : goal.load_samples-requires
load_samples-requires g c =
    let port = c.args.self.now.port.now in
    row_reads c.args.self.now.moves.now (length (g.P.Port.words port)) (g.P.Port.foot port) (record { at = c.args.at; len = 64 }) c.in-Some.place c.in-Some.ensures c.requires

pub returns-in-Some-clause-value : goal.returns-in-Some-clause-value
returns-in-Some-clause-value g c =
    let port = c.args.self.now.port.now in
    c.load_samples.ensures.value ∙ row_samples c.args.self.now.moves.now (g.P.Port.words port) (g.P.Port.foot port) c.args.at c.in-Some.place c.in-Some.ensures c.requires

pub returns-in-None-clause-value : goal.returns-in-None-clause-value
returns-in-None-clause-value g c = c.samples_in.ensures ∙ samples_of_window c.load_run.new.into (exchanged c.args.self.now.moves.now (g.P.Port.words c.args.self.now.port.now)) c.args.at c.load_run.ensures.value
