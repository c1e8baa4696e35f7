use Rattle.std.proofs.Common.{◌≡◌, ℕ, List, length, refl, arith, ap, sym, ◌∙◌}
use Rattle.sn_mem.specs.declared.extents.Foot.{Foot}
use Rattle.sn_mem.specs.Lanes.{exchanged, foot_through}
use Rattle.sn_mem.proofs.LaneRuns.{row_stored, row_writes, write_rooms}
use Rattle.sn_mem.proofs.Steps.{length-put, put_none, put_step}
use Rattle.sn_mem.proofs.lanes.LanePortPort.store_run.Goals as goal

pub run_in-requires-clause-room : goal.run_in-requires-clause-room
run_in-requires-clause-room g c =
    let port = c.args.self.now.port.now in
    write_rooms c.args.self.now.moves.now (length (g.P.Port.words port)) (g.P.Port.foot port) c.args.at (length c.args.run.now) c.requires

pub store_run-requires : goal.store_run-requires
store_run-requires g c =
    let port = c.args.self.now.port.now in
    row_writes c.args.self.now.moves.now (length (g.P.Port.words port)) (g.P.Port.foot port) (record { at = c.args.at; len = length c.args.run.now }) c.in-Some.place c.in-Some.ensures c.requires

pub loop-i-init : goal.loop-i-init
loop-i-init g c = record { foot = refl; words = sym (put_none (exchanged c.args.self.now.moves.now (g.P.Port.words c.args.self.now.port.now)) c.args.at); rest = refl }

pub loop-i-preserved : goal.loop-i-preserved
loop-i-preserved g c =
    let i = c.loop-i.invariant in
    let seen = exchanged c.args.self.now.moves.now (g.P.Port.words c.args.self.now.port.now) in
    record {
      foot = c.store.ensures.foot ∙ i.foot;
      words = c.store.ensures.changed ∙ put_step seen (exchanged c.loop-i.self.moves.now (g.P.Port.words c.loop-i.self.port.now)) c.args.at c.loop-i.i c.args.run.now (omega arith) i.words;
      rest = c.store.ensures.rest ∙ i.rest;
    }

pub returns-in-Some-clause-changed : goal.returns-in-Some-clause-changed
returns-in-Some-clause-changed g c =
    let port = c.args.self.now.port.now in
    let ms = c.args.self.now.moves.now in
    ap (exchanged ms) c.store_run.ensures.changed
    ∙ row_stored ms (g.P.Port.words port) (g.P.Port.foot port) (record { at = c.args.at; len = length c.args.run.now }) c.in-Some.place c.args.run.now refl c.in-Some.ensures c.requires

pub returns-in-Some-clause-foot : goal.returns-in-Some-clause-foot
returns-in-Some-clause-foot g c =
    let ws = g.P.Port.words c.args.self.now.port.now in
    let ms = c.args.self.now.moves.now in
    let long : length (g.P.Port.words c.store_run.new.self) ≡ length ws = ap (λ (us : List ℕ). length us) c.store_run.ensures.changed ∙ length-put ws c.in-Some.place c.args.run.now in
    ap (λ (n : ℕ). foot_through ms n (g.P.Port.foot c.store_run.new.self)) long ∙ ap (λ (f : Foot). foot_through ms (length ws) f) c.store_run.ensures.foot
