use Rattle.std.proofs.Common.{◌≡◌, ℕ, List, ap, subst, sym, ◌∙◌, map}
use Rattle.sn_osc.specs.Shape.{argument_of}
use Rattle.sn_world.specs.declared.command.ServerCommand.{ServerCommand}
use Rattle.sn_world.specs.World.{turn_of}
use Rattle.sn_world.specs.Commands.{server_row}
use Rattle.sn_world.specs.Answers.{Follows}
use Rattle.sn_world.specs.declared.stage.Stage.{Stage}
use Rattle.sn_buscmd.proofs.RunningLemmas.{unless-followed, if-refused, stage-kept, stage-but}
use Rattle.sn_buscmd.proofs.dispatch.run_row.Goals as goal

pub returns-in-Set-clause-row : goal.returns-in-Set-clause-row
returns-in-Set-clause-row g c =
    let stage = c.args.stage.now in
    subst (λ (v : ServerCommand). Follows c.run_set.result (server_row v c.args.from (map argument_of c.args.arguments.now) (turn_of stage (g.P.Port.words c.args.port.now) c.args.replies.now)) (turn_of stage (g.P.Port.words c.run_set.new.port) c.args.replies.now))
    (sym c.in-Set.is) (c.run_set.ensures.row c.args.from stage c.args.replies.now c.requires.pictures)

pub returns-in-SetRuns-clause-row : goal.returns-in-SetRuns-clause-row
returns-in-SetRuns-clause-row g c =
    let stage = c.args.stage.now in
    subst (λ (v : ServerCommand). Follows c.run_set_runs.result (server_row v c.args.from (map argument_of c.args.arguments.now) (turn_of stage (g.P.Port.words c.args.port.now) c.args.replies.now)) (turn_of stage (g.P.Port.words c.run_set_runs.new.port) c.args.replies.now))
    (sym c.in-SetRuns.is) (c.run_set_runs.ensures.row c.args.from stage c.args.replies.now c.requires.pictures)

pub returns-in-Fill-clause-row : goal.returns-in-Fill-clause-row
returns-in-Fill-clause-row g c =
    let stage = c.args.stage.now in
    subst (λ (v : ServerCommand). Follows c.run_fill.result (server_row v c.args.from (map argument_of c.args.arguments.now) (turn_of stage (g.P.Port.words c.args.port.now) c.args.replies.now)) (turn_of stage (g.P.Port.words c.run_fill.new.port) c.args.replies.now))
    (sym c.in-Fill.is) (c.run_fill.ensures.row c.args.from stage c.args.replies.now c.requires.pictures)

pub returns-in-SetSamples-clause-row : goal.returns-in-SetSamples-clause-row
returns-in-SetSamples-clause-row g c =
    let stage = c.args.stage.now in
    subst (λ (v : ServerCommand). Follows c.run_set_samples.result (server_row v c.args.from (map argument_of c.args.arguments.now) (turn_of stage (g.P.Port.words c.args.port.now) c.args.replies.now)) (turn_of stage (g.P.Port.words c.run_set_samples.new.port) c.args.replies.now))
    (sym c.in-SetSamples.is) (c.run_set_samples.ensures.row c.args.from c.args.replies.now)

pub returns-in-SetSampleRuns-clause-row : goal.returns-in-SetSampleRuns-clause-row
returns-in-SetSampleRuns-clause-row g c =
    let stage = c.args.stage.now in
    subst (λ (v : ServerCommand). Follows c.run_set_sample_runs.result (server_row v c.args.from (map argument_of c.args.arguments.now) (turn_of stage (g.P.Port.words c.args.port.now) c.args.replies.now)) (turn_of stage (g.P.Port.words c.run_set_sample_runs.new.port) c.args.replies.now))
    (sym c.in-SetSampleRuns.is) (c.run_set_sample_runs.ensures.row c.args.from c.args.replies.now)

pub returns-in-FillSamples-clause-row : goal.returns-in-FillSamples-clause-row
returns-in-FillSamples-clause-row g c =
    let stage = c.args.stage.now in
    subst (λ (v : ServerCommand). Follows c.run_fill_samples.result (server_row v c.args.from (map argument_of c.args.arguments.now) (turn_of stage (g.P.Port.words c.args.port.now) c.args.replies.now)) (turn_of stage (g.P.Port.words c.run_fill_samples.new.port) c.args.replies.now))
    (sym c.in-FillSamples.is) (c.run_fill_samples.ensures.row c.args.from c.args.replies.now)

pub returns-in-GetSampleRuns-clause-unchanged : goal.returns-in-GetSampleRuns-clause-unchanged
returns-in-GetSampleRuns-clause-unchanged g c =
    let stage = c.args.stage.now in
    let asked = c.run_get_sample_runs in
    unless-followed (asked.new.replies ≡ c.args.replies.now) (turn_of stage (g.P.Port.words asked.new.port) asked.new.replies ≡ turn_of stage (g.P.Port.words c.args.port.now) c.args.replies.now)
    asked.result (λ said. ap (λ (ws : List ℕ). turn_of stage ws asked.new.replies) asked.ensures.words ∙ ap (turn_of stage (g.P.Port.words c.args.port.now)) said) asked.ensures.untold

pub returns-in-AllocBuffer-clause-stage : goal.returns-in-AllocBuffer-clause-stage
returns-in-AllocBuffer-clause-stage g c = if-refused (c.run_buffer_alloc.new.stage ≡ c.args.stage.now) c.run_buffer_alloc.result c.run_buffer_alloc.ensures.unchanged

pub returns-in-ReadBuffer-clause-stage : goal.returns-in-ReadBuffer-clause-stage
returns-in-ReadBuffer-clause-stage g c = if-refused (c.run_buffer_read.new.stage ≡ c.args.stage.now) c.run_buffer_read.result c.run_buffer_read.ensures.unchanged

pub returns-in-FreeBuffer-clause-stage : goal.returns-in-FreeBuffer-clause-stage
returns-in-FreeBuffer-clause-stage g c = if-refused (c.run_buffer_free.new.stage ≡ c.args.stage.now) c.run_buffer_free.result c.run_buffer_free.ensures.unchanged

pub returns-in-Free-clause-row : goal.returns-in-Free-clause-row
returns-in-Free-clause-row g c =
    let words = g.P.Port.words c.args.port.now in
    subst (λ (v : ServerCommand). Follows c.run_free.result (server_row v c.args.from (map argument_of c.args.arguments.now) (turn_of c.args.stage.now words c.args.replies.now)) (turn_of c.run_free.new.stage words c.args.replies.now))
    (sym c.in-Free.is) (c.run_free.ensures.row c.args.from words c.args.replies.now)

pub returns-in-Free-clause-unchanged : goal.returns-in-Free-clause-unchanged
returns-in-Free-clause-unchanged g c =
    let freed = c.run_free in
    unless-followed (freed.new.stage ≡ c.args.stage.now) (turn_of freed.new.stage (g.P.Port.words c.args.port.now) c.args.replies.now ≡ turn_of c.args.stage.now (g.P.Port.words c.args.port.now) c.args.replies.now)
    freed.result (λ same. ap (λ (s : Stage). turn_of s (g.P.Port.words c.args.port.now) c.args.replies.now) same) freed.ensures.unchanged

pub returns-in-Free-clause-stage : goal.returns-in-Free-clause-stage
returns-in-Free-clause-stage g c = if-refused (c.run_free.new.stage ≡ c.args.stage.now) c.run_free.result c.run_free.ensures.unchanged

pub returns-in-ClearSched-clause-row : goal.returns-in-ClearSched-clause-row
returns-in-ClearSched-clause-row g c =
    let words = g.P.Port.words c.args.port.now in
    let stage = c.args.stage.now in
    let replies = c.args.replies.now in
    subst (λ (v : ServerCommand). Follows c.run_clear.result (server_row v c.args.from (map argument_of c.args.arguments.now) (turn_of stage words replies)) (turn_of stage words replies))
    (sym c.in-ClearSched.is) (c.run_clear.ensures.row c.args.from stage words replies)

-- ---- out of memory

pub returns-in-AllocBuffer-clause-kept : goal.returns-in-AllocBuffer-clause-kept
returns-in-AllocBuffer-clause-kept g c = stage-kept c.run_buffer_alloc.result c.args.stage.now c.run_buffer_alloc.new.stage c.run_buffer_alloc.ensures.unchanged

pub returns-in-ReadBuffer-clause-kept : goal.returns-in-ReadBuffer-clause-kept
returns-in-ReadBuffer-clause-kept g c = stage-kept c.run_buffer_read.result c.args.stage.now c.run_buffer_read.new.stage c.run_buffer_read.ensures.unchanged

pub returns-in-FreeBuffer-clause-kept : goal.returns-in-FreeBuffer-clause-kept
returns-in-FreeBuffer-clause-kept g c = stage-kept c.run_buffer_free.result c.args.stage.now c.run_buffer_free.new.stage c.run_buffer_free.ensures.unchanged

pub returns-in-Receive-clause-kept : goal.returns-in-Receive-clause-kept
returns-in-Receive-clause-kept g c = stage-but c.run_receive.result (c.run_receive.new.stage ≡ record c.args.stage.now { defs = c.run_receive.new.stage.defs }) c.run_receive.ensures.others

pub returns-in-Free-clause-kept : goal.returns-in-Free-clause-kept
returns-in-Free-clause-kept g c = stage-but c.run_free.result (c.run_free.new.stage ≡ record c.args.stage.now { defs = c.run_free.new.stage.defs }) c.run_free.ensures.others
