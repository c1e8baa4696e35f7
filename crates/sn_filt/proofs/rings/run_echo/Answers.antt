use Rattle.std.proofs.Common.{rules, ◌≡◌, ◌<◌, ◌≤◌, ◌+◌, ◌-◌, ◌%◌, ◌++◌, ◌∷◌, [], ℕ, ℤ, List, length, set, get_or, SFits, w32, to_z, of_z, refl, arith, sym, ap, ◌∙◌}
use Rattle.std.proofs.lemmas.Int.{to_z-of_z}
use Rattle.sn_mem.proofs.Feet.{may_write}
use Rattle.sn_mem.proofs.Steps.{scan_none, length-set_at}
use Rattle.sn_mem.specs.Blocks.{window, put, sample_in, word_for}
use Rattle.sn_filt.specs.Rings.{before, ring_step, ringed}
use Rattle.sn_filt.proofs.RingLaws.{apart_none, apart_more, ring_more, ring_done, there_are}
use Rattle.sn_filt.proofs.rings.run_echo.Goals as goal

pub loop-frame-init : goal.loop-frame-init
loop-frame-init g c =
    let ws : List ℕ = g.P.Port.words c.load.new.self in
    let places = c.from.ensures in
    record {
      place = let some : 0 < c.from.result = omega arith in let low : c.load.result % c.from.result < c.from.result = omega arith in omega (arith, low);
      long = refl;
      rate = c.new-times.ensures ∙ c.rate.ensures;
      foot = refl;
      rest = refl;
      ran = sym (scan_none (ring_step (g.U.Echo.reach c.args.unit.now) (g.U.Echo.step c.args.unit.now) (c.args.state.len - 1)) (c.load.result % c.from.result, window ws c.args.state.at c.args.state.len) c.args.inputs.now);
      apart = apart_none c.args.state.at c.args.state.len ws ws refl;
    }

pub loop-frame-preserved : goal.loop-frame-preserved
loop-frame-preserved g c =
    let i = c.loop-frame.invariant in
    let at = c.args.state.at in
    let len = c.args.state.len in
    let ws : List ℕ = g.P.Port.words c.loop-frame.port in
    let fits : SFits w32 c.hear.result = search rules in
    let lt : c.loop-frame.frame < length c.loop-frame.samples = omega (arith, i.long) in
    let there = there_are (g.P.Port.foot c.args.port.now) at len (length (g.P.Port.words c.args.port.now)) c.requires.state (omega arith) (g.met.P.Port.inside c.args.port.now) in
    let as_long : length (g.P.Port.words c.load.new.self) ≡ length (g.P.Port.words c.args.port.now) = ap (λ (ws : List ℕ). length ws) c.load.ensures.same in
    let inside : at + len ≤ length ws = omega (arith, there, as_long, i.apart.long) in
    let heard : ℤ × ℤ = g.U.Echo.step c.args.unit.now (sample_in (get_or ws (at + 1 + before (len - 1) c.loop-frame.place (g.U.Echo.reach c.args.unit.now c.args.inputs.now c.loop-frame.frame)) 0)) c.args.inputs.now c.loop-frame.frame in
    record {
      place = c.after-place.ensures.bound;
      long = length-set_at c.loop-frame.samples c.loop-frame.frame (to_z w32 (of_z w32 c.hear.result)) 64 i.long;
      rate = c.at-time.ensures.rate ∙ i.rate;
      foot = c.hear.ensures.port.0 ∙ i.foot;
      rest = c.hear.ensures.port.1 ∙ i.rest;
      ran = ring_more (g.U.Echo.reach c.args.unit.now) (g.U.Echo.step c.args.unit.now) at len c.loop-frame.frame c.loop-frame.place c.after-place.result (len - 1)
          (c.load.result % c.from.result, window (g.P.Port.words c.load.new.self) at len) ws (g.P.Port.words c.hear.new.port) c.args.inputs.now (to_z w32 (of_z w32 c.hear.result)) c.loop-frame.samples
          lt refl i.place (omega (arith, c.hear.ensures.reach)) inside i.ran c.hear.ensures.words (to_z-of_z w32 c.hear.result fits ∙ c.hear.ensures.sample) c.after-place.ensures.value;
      apart = apart_more at len (at + 1 + c.loop-frame.place) (word_for heard.0) (g.P.Port.words c.load.new.self) ws (g.P.Port.words c.hear.new.port) (omega arith) (omega (arith, i.place)) i.apart c.hear.ensures.words;
    }

pub store-requires : goal.store-requires
store-requires g c = may_write (g.P.Port.foot c.args.port.now) (g.P.Port.foot c.loop-frame.port) c.args.state.at c.args.state.len c.args.state.at c.requires.state (c.loop-frame.invariant.foot ∙ c.load.ensures.foot) (omega arith) (omega arith)

pub returns : goal.returns
returns g c =
    let i = c.loop-frame.invariant in
    let at = c.args.state.at in
    let len = c.args.state.len in
    let reach = g.U.Echo.reach c.args.unit.now in
    let step = g.U.Echo.step c.args.unit.now in
    let ins = c.args.inputs.now in
    let ws : List ℕ = g.P.Port.words c.load.new.self in
    let there = there_are (g.P.Port.foot c.args.port.now) at len (length (g.P.Port.words c.args.port.now)) c.requires.state (omega arith) (g.met.P.Port.inside c.args.port.now) in
    let as_long : length ws ≡ length (g.P.Port.words c.args.port.now) = ap (λ (ws : List ℕ). length ws) c.load.ensures.same in
    let first : c.load.result % c.from.result ≡ get_or ws at 0 % (len - 1) =
    ap (λ n. c.load.result % n) c.from.ensures ∙ ap (λ n. n % (len - 1)) (c.load.ensures.word ∙ ap (λ (ws : List ℕ). get_or ws at 0) (sym c.load.ensures.same)) in
    let done = ring_done reach step at len c.loop-frame.frame c.loop-frame.place (c.load.result % c.from.result) (len - 1) ws (g.P.Port.words c.loop-frame.port) (g.P.Port.words c.store.new.self) ins c.loop-frame.samples
    (omega arith) i.long refl (omega arith) (omega (arith, there, as_long)) first i.ran i.apart (c.store.ensures.changed ∙ ap (λ n. set (g.P.Port.words c.loop-frame.port) at n) c.from-2.ensures) in
    record {
      words = done.0 ∙ ap (λ (ws : List ℕ). put ws at (ringed reach step (window ws at len) ins).0) c.load.ensures.same;
      outputs = c.push.ensures ∙ (ap (λ (bs : List (List ℤ)). bs ++ c.loop-frame.samples ∷ []) c.clear.ensures ∙ ap (λ (ys : List ℤ). ys ∷ []) (done.1 ∙ ap (λ (ws : List ℕ). (ringed reach step (window ws at len) ins).1) c.load.ensures.same));
      port = (c.store.ensures.foot ∙ (i.foot ∙ c.load.ensures.foot), c.store.ensures.rest ∙ (i.rest ∙ c.load.ensures.rest));
    }
