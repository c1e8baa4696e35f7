use Rattle.std.proofs.Common.{ℕ, ◌+◌, List, length, get_or, refl, arith, ap, sym, ◌∙◌}
use Rattle.sn_mem.specs.Lanes.{exchanged}
use Rattle.sn_mem.proofs.LaneRuns.{read_rooms, row_loaded, row_reads}
use Rattle.sn_mem.proofs.Steps.{window_none, window_step}
use Rattle.sn_mem.proofs.lanes.LanePortPort.load_run.Goals as goal

pub run_in-requires-clause-room : goal.run_in-requires-clause-room
run_in-requires-clause-room g c =
    let port = c.args.self.now.port.now in
    read_rooms c.args.self.now.moves.now (length (g.P.Port.words port)) (g.P.Port.foot port) c.args.at (length c.args.into.now) c.requires

pub load_run-requires : goal.load_run-requires
load_run-requires g c =
    let port = c.args.self.now.port.now in
    row_reads c.args.self.now.moves.now (length (g.P.Port.words port)) (g.P.Port.foot port) (record { at = c.args.at; len = length c.args.into.now }) c.in-Some.place c.in-Some.ensures c.requires

pub loop-i-init : goal.loop-i-init
loop-i-init g c = record { foot = refl; same = refl; rest = refl; taken = sym (window_none (exchanged c.args.self.now.moves.now (g.P.Port.words c.args.self.now.port.now)) c.args.at) }

pub loop-i-preserved : goal.loop-i-preserved
loop-i-preserved g c =
    let i = c.loop-i.invariant in
    let seen = exchanged c.args.self.now.moves.now (g.P.Port.words c.args.self.now.port.now) in
    record {
      foot = c.load.ensures.foot ∙ i.foot;
      same = c.load.ensures.same ∙ i.same;
      rest = c.load.ensures.rest ∙ i.rest;
      taken = window_step seen c.loop-i.into c.args.at c.loop-i.i c.load.result (omega arith) i.taken (c.load.ensures.word ∙ ap (λ (ws : List ℕ). get_or ws (c.args.at + c.loop-i.i) 0) i.same);
    }

pub returns-in-Some-clause-value : goal.returns-in-Some-clause-value
returns-in-Some-clause-value g c =
    let port = c.args.self.now.port.now in
    c.load_run.ensures.value ∙ row_loaded c.args.self.now.moves.now (g.P.Port.words port) (g.P.Port.foot port) (record { at = c.args.at; len = length c.args.into.now }) c.in-Some.place c.in-Some.ensures c.requires
