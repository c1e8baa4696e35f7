use Rattle.std.proofs.Common.{◌≡◌, ◌+◌, ℕ, true, List, length, get_or, refl, sym, ap, subst, ◌∙◌, arith}
use Rattle.sn_mem.specs.declared.extents.Foot.{Foot}
use Rattle.sn_mem.specs.Words.{touches}
use Rattle.sn_mem.specs.Copies.{localized}
use Rattle.sn_mem.proofs.Copying.{run_in_copy}
use Rattle.sn_mem.proofs.Steps.{window_none, window_step}
use Rattle.sn_mem.proofs.local.LocalPortPort.load_run.Goals as goal

pub load-requires : goal.load-requires
load-requires g c = subst (λ (f : Foot). touches f (c.args.at + c.loop-i.i) ≡ true) (sym c.loop-i.invariant.foot) (c.requires.each c.loop-i.i (omega arith))

pub loop-i-init : goal.loop-i-init
loop-i-init g c =
    let port = c.args.self.now.port.now in
    record { foot = refl; same = refl; rest = refl; taken = sym (window_none (localized (g.P.Port.foot port) (g.P.Port.words port) c.args.self.now.copy.now) c.args.at) }

pub loop-i-preserved : goal.loop-i-preserved
loop-i-preserved g c =
    let i = c.loop-i.invariant in
    let port = c.args.self.now.port.now in
    let seen = localized (g.P.Port.foot port) (g.P.Port.words port) c.args.self.now.copy.now in
    record {
      foot = c.load.ensures.foot ∙ i.foot;
      same = c.load.ensures.same ∙ i.same;
      rest = c.load.ensures.rest ∙ i.rest;
      taken = window_step seen c.loop-i.into c.args.at c.loop-i.i c.load.result (omega arith) i.taken (c.load.ensures.word ∙ ap (λ (ws : List ℕ). get_or ws (c.args.at + c.loop-i.i) 0) i.same);
    }

pub returns-then-end-self-clause-value : goal.returns-then-end-self-clause-value
returns-then-end-self-clause-value g c =
    let port = c.args.self.now.port.now in
    let f = g.P.Port.foot port in
    c.copy_out.ensures ∙ sym (run_in_copy f (g.P.Port.words port) c.args.self.now.copy.now c.args.at (length c.args.into.now) (λ i lt. g.met.P.Port.inside port (c.args.at + i) (c.requires.each i lt)) c.if-end-self.true c.requires.each)
