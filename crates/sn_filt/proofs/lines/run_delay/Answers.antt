use Rattle.std.proofs.Common.{rules, ◌≡◌, ◌<◌, ◌≤◌, ◌+◌, ◌-◌, ◌%◌, ◌++◌, ◌∷◌, [], ℕ, ℤ, List, length, set, get_or, SFits, w32, to_z, of_z, refl, arith, sym, ap, ◌∙◌}
use Rattle.std.proofs.lemmas.Int.{to_z-of_z}
use Rattle.sn_mem.proofs.Feet.{may_write}
use Rattle.sn_mem.proofs.Steps.{scan_none, length-set_at}
use Rattle.sn_mem.specs.Blocks.{window, put, sample, word_for}
use Rattle.sn_filt.specs.Lines.{delay_l_step, delay_ring}
use Rattle.sn_filt.proofs.RingLaws.{apart_none, apart_more, there_are}
use Rattle.sn_filt.proofs.LineLaws.{delay_more, delay_done}
use Rattle.sn_filt.proofs.lines.run_delay.Goals as goal

pub loop-frame-init : goal.loop-frame-init
loop-frame-init g c =
    let ws : List ℕ = g.P.Port.words c.first_place-place.new.port in
    record {
      place = c.first_place-place.ensures.bound;
      long = refl;
      foot = refl;
      rest = refl;
      ran = sym (scan_none (delay_l_step c.args.line.rate c.args.line.most (c.args.state.len - 1)) (c.first_place-place.result, window ws c.args.state.at c.args.state.len) c.args.inputs.now);
      apart = apart_none c.args.state.at c.args.state.len ws ws refl;
    }

pub loop-frame-preserved : goal.loop-frame-preserved
loop-frame-preserved g c =
    let i = c.loop-frame.invariant in
    let at = c.args.state.at in
    let len = c.args.state.len in
    let ws : List ℕ = g.P.Port.words c.loop-frame.port in
    let fits : SFits w32 c.delay_frame.result = search rules in
    let lt : c.loop-frame.frame < length c.loop-frame.samples = omega (arith, i.long) in
    let there = there_are (g.P.Port.foot c.args.port.now) at len (length (g.P.Port.words c.args.port.now)) c.requires.state (omega arith) (g.met.P.Port.inside c.args.port.now) in
    let as_long : length (g.P.Port.words c.first_place-place.new.port) ≡ length (g.P.Port.words c.args.port.now) = ap (λ (ws : List ℕ). length ws) c.first_place-place.ensures.words in
    let inside : at + len ≤ length ws = omega (arith, there, as_long, i.apart.long) in
    record {
      place = c.after-place.ensures.bound;
      long = length-set_at c.loop-frame.samples c.loop-frame.frame (to_z w32 (of_z w32 c.delay_frame.result)) 64 i.long;
      foot = c.delay_frame.ensures.port.0 ∙ i.foot;
      rest = c.delay_frame.ensures.port.1 ∙ i.rest;
      ran = delay_more c.args.line.rate c.args.line.most at len c.loop-frame.frame c.loop-frame.place c.after-place.result
          (c.first_place-place.result, window (g.P.Port.words c.first_place-place.new.port) at len) ws (g.P.Port.words c.delay_frame.new.port) c.args.inputs.now (to_z w32 (of_z w32 c.delay_frame.result)) c.loop-frame.samples
          lt i.place inside i.ran c.delay_frame.ensures.words (to_z-of_z w32 c.delay_frame.result fits ∙ c.delay_frame.ensures.value) c.after-place.ensures.value;
      apart = apart_more at len (at + 1 + c.loop-frame.place) (word_for (sample c.args.inputs.now 0 c.loop-frame.frame)) (g.P.Port.words c.first_place-place.new.port) ws (g.P.Port.words c.delay_frame.new.port) (omega arith) (omega (arith, i.place)) i.apart c.delay_frame.ensures.words;
    }

pub store-requires : goal.store-requires
store-requires g c = may_write (g.P.Port.foot c.args.port.now) (g.P.Port.foot c.loop-frame.port) c.args.state.at c.args.state.len c.args.state.at c.requires.state (c.loop-frame.invariant.foot ∙ c.first_place-place.ensures.port.0) (omega arith) (omega arith)

pub returns : goal.returns
returns g c =
    let i = c.loop-frame.invariant in
    let at = c.args.state.at in
    let len = c.args.state.len in
    let rate = c.args.line.rate in
    let most = c.args.line.most in
    let ins = c.args.inputs.now in
    let same = c.first_place-place.ensures.words in
    let ws : List ℕ = g.P.Port.words c.first_place-place.new.port in
    let there = there_are (g.P.Port.foot c.args.port.now) at len (length (g.P.Port.words c.args.port.now)) c.requires.state (omega arith) (g.met.P.Port.inside c.args.port.now) in
    let as_long : length ws ≡ length (g.P.Port.words c.args.port.now) = ap (λ (ws : List ℕ). length ws) same in
    let first : c.first_place-place.result ≡ get_or (window ws at len) 0 0 % (len - 1) = c.first_place-place.ensures.value ∙ ap (λ (ws : List ℕ). get_or (window ws at len) 0 0 % (len - 1)) (sym same) in
    let done = delay_done rate most at len c.loop-frame.frame c.loop-frame.place c.first_place-place.result ws (g.P.Port.words c.loop-frame.port) (g.P.Port.words c.store.new.self) ins c.loop-frame.samples
    (omega arith) i.long (omega arith) (omega (arith, there, as_long)) first i.ran i.apart (c.store.ensures.changed ∙ ap (λ n. set (g.P.Port.words c.loop-frame.port) at n) c.from.ensures) in
    record {
      words = done.0 ∙ ap (λ (ws : List ℕ). put ws at (delay_ring rate most (window ws at len) ins).0) same;
      outputs = c.push.ensures ∙ (ap (λ (bs : List (List ℤ)). bs ++ c.loop-frame.samples ∷ []) c.clear.ensures ∙ ap (λ (ys : List ℤ). ys ∷ []) (done.1 ∙ ap (λ (ws : List ℕ). (delay_ring rate most (window ws at len) ins).1) same));
      port = (c.store.ensures.foot ∙ (i.foot ∙ c.first_place-place.ensures.port.0), c.store.ensures.rest ∙ (i.rest ∙ c.first_place-place.ensures.port.1));
    }
