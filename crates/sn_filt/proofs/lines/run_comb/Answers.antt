use Rattle.std.proofs.Common.{rules, ◌≡◌, ◌<◌, ◌≤◌, ◌+◌, ◌-◌, ◌++◌, ◌∷◌, [], ℕ, ℤ, List, length, set, SFits, w32, to_z, of_z, refl, arith, sym, ap, ◌∙◌}
use Rattle.std.proofs.lemmas.Int.{to_z-of_z}
use Rattle.sn_mem.proofs.Steps.{scan_none, length-set_at}
use Rattle.sn_mem.specs.Blocks.{window, put, word_for}
use Rattle.sn_filt.specs.Lines.{comb_in, comb_l_frame, comb_after, comb_l_step, comb_ring}
use Rattle.sn_filt.specs.declared.lines.Comb.{Comb}
use Rattle.sn_filt.specs.declared.lines.CombFrame.{CombFrame}
use Rattle.sn_filt.proofs.RingLaws.{apart_none, apart_more, there_are}
use Rattle.sn_filt.proofs.LineLaws.{comb_more, comb_done}
use Rattle.sn_filt.proofs.lines.run_comb.Invariants.{IsHeard}
use Rattle.sn_filt.proofs.lines.run_comb.Goals as goal

-- an output, one frame later
heard_more : (output : CombFrame → ℤ) (rate most at len k : ℕ) (s : Comb × List ℕ) (c c' : Comb) (r : CombFrame) (ws us : List ℕ) (ins : List (List ℤ)) (ys : List ℤ) → k < 64 → SFits w32 (output r) → c.place < len - 2 → at + len ≤ length ws
    → r ≡ comb_l_frame rate most (len - 2) (c, window ws at len) ins k → us ≡ set ws (at + 2 + c.place) (word_for r.kept) → c' ≡ comb_after (len - 2) c r
    → IsHeard output rate most (len - 2) s ins k (c, window ws at len) ys
    → IsHeard output rate most (len - 2) s ins (k + 1) (c', window us at len) (set ys k (to_z w32 (of_z w32 (output r))))
heard_more output rate most at len k s c c' r ws us ins ys lt fits low inside e u p h = (
  length-set_at ys k (to_z w32 (of_z w32 (output r))) 64 h.0,
  comb_more output rate most at len k s c c' r ws us ins (to_z w32 (of_z w32 (output r))) ys (omega (arith, lt, h.0)) low inside h.1 e u (to_z-of_z w32 (output r) fits) p,
)

pub loop-frame-init : goal.loop-frame-init
loop-frame-init g c =
    let ws : List ℕ = g.P.Port.words c.first_comb-comb.new.port in
    let at = c.args.state.at in
    let len = c.args.state.len in
    record {
      place = c.first_comb-comb.ensures.bound;
      foot = refl;
      rest = refl;
      comb = (refl, sym (scan_none (comb_l_step (λ y. y.comb) c.args.line.rate c.args.line.most (len - 2)) (c.first_comb-comb.result, window ws at len) c.args.inputs.now));
      allpass = (refl, sym (scan_none (comb_l_step (λ y. y.allpass) c.args.line.rate c.args.line.most (len - 2)) (c.first_comb-comb.result, window ws at len) c.args.inputs.now));
      apart = apart_none at len ws ws refl;
    }

pub loop-frame-preserved : goal.loop-frame-preserved
loop-frame-preserved g c =
    let i = c.loop-frame.invariant in
    let at = c.args.state.at in
    let len = c.args.state.len in
    let ws : List ℕ = g.P.Port.words c.loop-frame.port in
    let us : List ℕ = g.P.Port.words c.comb_frame-made.new.port in
    let r : CombFrame = c.comb_frame-made.result in
    let comb : SFits w32 r.comb = search rules in
    let allpass : SFits w32 r.allpass = search rules in
    let lt : c.loop-frame.frame < 64 = omega arith in
    let there = there_are (g.P.Port.foot c.args.port.now) at len (length (g.P.Port.words c.args.port.now)) c.requires.state (omega arith) (g.met.P.Port.inside c.args.port.now) in
    let as_long : length (g.P.Port.words c.first_comb-comb.new.port) ≡ length (g.P.Port.words c.args.port.now) = ap (λ (ws : List ℕ). length ws) c.first_comb-comb.ensures.words in
    let inside : at + len ≤ length ws = omega (arith, there, as_long, i.apart.long) in
    let begin : Comb × List ℕ = (c.first_comb-comb.result, window (g.P.Port.words c.first_comb-comb.new.port) at len) in
    record {
      place = c.comb_after-comb.ensures.bound;
      foot = c.comb_frame-made.ensures.port.0 ∙ i.foot;
      rest = c.comb_frame-made.ensures.port.1 ∙ i.rest;
      comb = heard_more (λ y. y.comb) c.args.line.rate c.args.line.most at len c.loop-frame.frame begin c.loop-frame.comb c.comb_after-comb.result r ws us c.args.inputs.now c.loop-frame.echoes
          lt comb i.place inside c.comb_frame-made.ensures.value c.comb_frame-made.ensures.words c.comb_after-comb.ensures.value i.comb;
      allpass = heard_more (λ y. y.allpass) c.args.line.rate c.args.line.most at len c.loop-frame.frame begin c.loop-frame.comb c.comb_after-comb.result r ws us c.args.inputs.now c.loop-frame.allpass
          lt allpass i.place inside c.comb_frame-made.ensures.value c.comb_frame-made.ensures.words c.comb_after-comb.ensures.value i.allpass;
      apart = apart_more at len (at + 2 + c.loop-frame.comb.place) (word_for r.kept) (g.P.Port.words c.first_comb-comb.new.port) ws us (omega arith) (omega (arith, i.place)) i.apart c.comb_frame-made.ensures.words;
    }

pub returns : goal.returns
returns g c =
    let i = c.loop-frame.invariant in
    let at = c.args.state.at in
    let len = c.args.state.len in
    let rate = c.args.line.rate in
    let most = c.args.line.most in
    let ins = c.args.inputs.now in
    let same = c.first_comb-comb.ensures.words in
    let ws : List ℕ = g.P.Port.words c.first_comb-comb.new.port in
    let us : List ℕ = g.P.Port.words c.loop-frame.port in
    let vs : List ℕ = g.P.Port.words c.store_comb.new.port in
    let there = there_are (g.P.Port.foot c.args.port.now) at len (length (g.P.Port.words c.args.port.now)) c.requires.state (omega arith) (g.met.P.Port.inside c.args.port.now) in
    let as_long : length ws ≡ length (g.P.Port.words c.args.port.now) = ap (λ (ws : List ℕ). length ws) same in
    let first : c.first_comb-comb.result ≡ comb_in (len - 2) (window ws at len) = c.first_comb-comb.ensures.value ∙ ap (λ (ws : List ℕ). comb_in (len - 2) (window ws at len)) (sym same) in
    let last : c.loop-frame.frame ≡ 64 = omega arith in
    let inside : at + len ≤ length ws = omega (arith, there, as_long) in
    let comb = comb_done (λ y. y.comb) rate most at len c.loop-frame.frame c.loop-frame.comb c.first_comb-comb.result ws us vs ins c.loop-frame.echoes last i.comb.0 (omega arith) inside first i.comb.1 i.apart c.store_comb.ensures.words in
    let allpass = comb_done (λ y. y.allpass) rate most at len c.loop-frame.frame c.loop-frame.comb c.first_comb-comb.result ws us vs ins c.loop-frame.allpass last i.allpass.0 (omega arith) inside first i.allpass.1 i.apart c.store_comb.ensures.words in
    let pushed : c.push-2.new.self ≡ c.loop-frame.echoes ∷ c.loop-frame.allpass ∷ [] = c.push-2.ensures ∙ ap (λ (bs : List (List ℤ)). bs ++ c.loop-frame.allpass ∷ []) (c.push.ensures ∙ ap (λ (bs : List (List ℤ)). bs ++ c.loop-frame.echoes ∷ []) c.clear.ensures) in
    record {
      words = comb.0 ∙ ap (λ (ws : List ℕ). put ws at (comb_ring (λ y. y.comb) rate most (window ws at len) ins).0) same;
      outputs = pushed
          ∙ (ap (λ (ys : List ℤ). ys ∷ c.loop-frame.allpass ∷ []) (comb.1 ∙ ap (λ (ws : List ℕ). (comb_ring (λ y. y.comb) rate most (window ws at len) ins).1) same)
          ∙ ap (λ (ys : List ℤ). (comb_ring (λ y. y.comb) rate most (window (g.P.Port.words c.args.port.now) at len) ins).1 ∷ ys ∷ []) (allpass.1 ∙ ap (λ (ws : List ℕ). (comb_ring (λ y. y.allpass) rate most (window ws at len) ins).1) same));
      port = (c.store_comb.ensures.port.0 ∙ (i.foot ∙ c.first_comb-comb.ensures.port.0), c.store_comb.ensures.port.1 ∙ (i.rest ∙ c.first_comb-comb.ensures.port.1));
    }
