use Rattle.std.proofs.Common.{◌≡◌, ℕ, List, length, get_or, pos, ap, ◌∙◌}
use Rattle.sn_mem.specs.declared.extents.Foot.{Foot}
use Rattle.sn_mem.specs.Blocks.{put, sample_words, word_for}
use Rattle.sn_mem.specs.Lanes.{exchanged, foot_through}
use Rattle.sn_mem.proofs.LaneRuns.{row_stored, row_writes, write_rooms}
use Rattle.sn_mem.proofs.Steps.{length-put}
use Rattle.sn_mem.proofs.Tables.{length-table}
use Rattle.sn_mem.proofs.Windows.{samples_alone}
use Rattle.sn_mem.proofs.lanes.LanePortPort.store_samples.Goals as goal

pub run_in-requires-clause-room : goal.run_in-requires-clause-room
run_in-requires-clause-room g c =
    let port = c.args.self.now.port.now in
    write_rooms c.args.self.now.moves.now (length (g.P.Port.words port)) (g.P.Port.foot port) c.args.at 64 c.requires

pub store_samples-requires : goal.store_samples-requires
store_samples-requires g c =
    let port = c.args.self.now.port.now in
    row_writes c.args.self.now.moves.now (length (g.P.Port.words port)) (g.P.Port.foot port) (record { at = c.args.at; len = 64 }) c.in-Some.place c.in-Some.ensures c.requires

pub returns-in-Some-clause-changed : goal.returns-in-Some-clause-changed
returns-in-Some-clause-changed g c =
    let port = c.args.self.now.port.now in
    let ms = c.args.self.now.moves.now in
    let run : List ℕ = sample_words c.args.samples.now in
    let long : length run ≡ 64 = length-table (λ k. word_for (get_or c.args.samples.now k (pos 0))) 64 in
    ap (exchanged ms) c.store_samples.ensures.changed
    ∙ row_stored ms (g.P.Port.words port) (g.P.Port.foot port) (record { at = c.args.at; len = 64 }) c.in-Some.place run long c.in-Some.ensures c.requires

pub returns-in-Some-clause-foot : goal.returns-in-Some-clause-foot
returns-in-Some-clause-foot g c =
    let ws = g.P.Port.words c.args.self.now.port.now in
    let ms = c.args.self.now.moves.now in
    let long : length (g.P.Port.words c.store_samples.new.self) ≡ length ws = ap (λ (us : List ℕ). length us) c.store_samples.ensures.changed ∙ length-put ws c.in-Some.place (sample_words c.args.samples.now) in
    ap (λ (n : ℕ). foot_through ms n (g.P.Port.foot c.store_samples.new.self)) long ∙ ap (λ (f : Foot). foot_through ms (length ws) f) c.store_samples.ensures.foot

pub returns-in-None-clause-changed : goal.returns-in-None-clause-changed
returns-in-None-clause-changed g c =
    c.store_run.ensures.changed ∙ ap (put (exchanged c.args.self.now.moves.now (g.P.Port.words c.args.self.now.port.now)) c.args.at) (c.put_samples.ensures ∙ samples_alone c.args.samples.now)
