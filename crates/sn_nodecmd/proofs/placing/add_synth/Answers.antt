use Rattle.std.proofs.Common.{◌≡◌, ◌∙◌, None, Option, Result, Err, ap, sym, subst, arith}
use Rattle.sn_ports.specs.declared.failed.NoMemory.{NoMemory}
use Rattle.sn_mem.specs.declared.extents.Extent.{Extent}
use Rattle.sn_def.specs.Defs.{definition_of}
use Rattle.sn_def.specs.StateWords.{state_words}
use Rattle.sn_pool.specs.Pools.{PoolState, GivesPlace, room_of}
use Rattle.sn_pool.specs.Regions.{IsFree}
use Rattle.sn_world.specs.NewNodes.{replaces, gone_by}
use Rattle.sn_world.specs.Pictures.{live_held}
use Rattle.sn_world.specs.declared.stage.Held.TheVariants as held
use Rattle.sn_world.specs.declared.stage.Stage.{Stage}
use Rattle.sn_nodecmd.specs.Placing.{Adds, place_in}
use Rattle.sn_nodecmd.proofs.Replacing.{gone_within, gone_few, undone_pool, given_is, committed_pool}
use Rattle.sn_nodecmd.proofs.placing.add_synth.Goals as goal
use Rattle.sn_nodecmd.proofs.placing.add_synth.Goals.{in-Full, in-NoMemory}

pub give_back_replaced-requires-clause-live : goal.give_back_replaced-requires-clause-live
give_back_replaced-requires-clause-live c = λ e some. gone_within c.args.new.now c.args.stage.now c.begin.new.self e (c.requires.live e some) (ap (λ (p : PoolState). p.live) c.in_ok-mark.ensures.begun)

pub give_back_replaced-requires-clause-room : goal.give_back_replaced-requires-clause-room
give_back_replaced-requires-clause-room c = omega (arith, gone_few c.args.new.now c.args.stage.now c.len.result c.len.ensures.value, ap (λ (p : PoolState). room_of p.journal) c.in_ok-mark.ensures.begun)

pub returns-in-Err-clause-adds : goal.returns-in-Err-clause-adds
returns-in-Err-clause-adds c =
    let back : c.undo.new.self ≡ c.args.stage.now.pool = undone_pool c.args.stage.now.pool c.begin.new.self c.give_back_replaced.new.pool c.in_ok-mark.mark c.len.result c.in_ok-mark.ensures.begun c.give_back_replaced.ensures.region c.place.new.pool c.undo.new.self c.requires.closed c.give_back_replaced.ensures.saved c.in-Err.ensures.refused c.undo.ensures in
    let words : c.state_words-words.result ≡ state_words c.args.stage.now.rate (definition_of c.args.def.value) = c.state_words-words.ensures.words ∙ ap (λ d. state_words c.args.stage.now.rate (definition_of d)) c.deref.ensures in
    let adds = λ (o : Result (Option Extent) NoMemory). Adds c.args.node.now.id c.args.new.now (λ state. held.Synth c.args.def c.args.controls state) (state_words c.args.stage.now.rate (definition_of c.args.def.value)) c.args.stage.now (record c.args.stage.now { pool = c.undo.new.self }) o in
    elim c.match-fault.branch [
      | in-Full w ↦
          subst adds (sym w.result-is) (
            record c.give_back_replaced.new.pool { journal = None },
            given_is c.args.stage.now.pool c.begin.new.self c.give_back_replaced.new.pool c.in_ok-mark.mark c.len.result c.in_ok-mark.ensures.begun c.give_back_replaced.ensures.region (live_held (gone_by (replaces c.args.new.now.action) c.args.new.now.target c.args.stage.now.tree.attached)) c.give_back_replaced.ensures.live,
            ap (place_in c.give_back_replaced.new.pool) (sym words) ∙ subst (λ f. GivesPlace (Err f) (place_in c.give_back_replaced.new.pool c.state_words-words.result)) w.in-Full.is c.in-Err.ensures.by_trial,
            ap (λ (p : PoolState). let n : Stage = record c.args.stage.now { pool = p } in n) back,
          )
      | in-NoMemory w ↦ subst adds (sym w.result-is) (ap (λ (p : PoolState). let n : Stage = record c.args.stage.now { pool = p } in n) back)
    ]

pub returns-in-Ok-add_told-clause-adds : goal.returns-in-Ok-add_told-clause-adds
returns-in-Ok-add_told-clause-adds c =
    let words : c.state_words-words.result ≡ state_words c.args.stage.now.rate (definition_of c.args.def.value) = c.state_words-words.ensures.words ∙ ap (λ d. state_words c.args.stage.now.rate (definition_of d)) c.deref.ensures in
    record {
      pool = record c.give_back_replaced.new.pool { journal = None };
      freed = given_is c.args.stage.now.pool c.begin.new.self c.give_back_replaced.new.pool c.in_ok-mark.mark c.len.result c.in_ok-mark.ensures.begun c.give_back_replaced.ensures.region (live_held (gone_by (replaces c.args.new.now.action) c.args.new.now.target c.args.stage.now.tree.attached)) c.give_back_replaced.ensures.live;
      place = record {
        size = c.in-Ok.ensures.free.0 ∙ words;
        free = subst (λ n. IsFree c.give_back_replaced.new.pool.region c.give_back_replaced.new.pool.live n c.in-Ok.state.at) words c.in-Ok.ensures.free.1;
        least = ap (place_in c.give_back_replaced.new.pool) (sym words) ∙ c.in-Ok.ensures.by_trial;
      };
      stage = λ i. record c.args.stage.now { tree = c.in-Ok-add_told.ensures.ok i; pool = committed_pool c.in-Ok.state c.give_back_replaced.new.pool c.place.new.pool c.commit.new.self c.in-Ok.ensures.taken c.commit.ensures i };
    }
