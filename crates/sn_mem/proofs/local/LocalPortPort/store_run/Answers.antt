use Rattle.std.proofs.Common.{◌≡◌, ◌<◌, ◌+◌, ℕ, true, length, refl, sym, ap, subst, ◌∙◌, arith}
use Rattle.std.proofs.lemmas.Bool.{or_left}
use Rattle.sn_mem.specs.declared.extents.Foot.{Foot}
use Rattle.sn_mem.specs.Words.{has, writes}
use Rattle.sn_mem.specs.Copies.{localized}
use Rattle.sn_mem.proofs.Copying.{put_in_copy}
use Rattle.sn_mem.proofs.Steps.{put_none, put_step}
use Rattle.sn_mem.proofs.local.LocalPortPort.store_run.Goals as goal

pub store-requires : goal.store-requires
store-requires g c = subst (λ (f : Foot). writes f (c.args.at + c.loop-i.i) ≡ true) (sym c.loop-i.invariant.foot) (c.requires.each c.loop-i.i (omega arith))

pub loop-i-init : goal.loop-i-init
loop-i-init g c =
    let port = c.args.self.now.port.now in
    record { foot = refl; words = sym (put_none (localized (g.P.Port.foot port) (g.P.Port.words port) c.args.self.now.copy.now) c.args.at); rest = refl }

pub loop-i-preserved : goal.loop-i-preserved
loop-i-preserved g c =
    let i = c.loop-i.invariant in
    let port = c.args.self.now.port.now in
    let now = c.loop-i.self.port.now in
    let seen = localized (g.P.Port.foot port) (g.P.Port.words port) c.args.self.now.copy.now in
    record {
      foot = c.store.ensures.foot ∙ i.foot;
      words = c.store.ensures.changed ∙ put_step seen (localized (g.P.Port.foot now) (g.P.Port.words now) c.loop-i.self.copy.now) c.args.at c.loop-i.i c.args.run.now (omega arith) i.words;
      rest = c.store.ensures.rest ∙ i.rest;
    }

pub returns-then-end-self-clause-changed : goal.returns-then-end-self-clause-changed
returns-then-end-self-clause-changed g c =
    let port = c.args.self.now.port.now in
    let f = g.P.Port.foot port in
    let may = λ (i : ℕ) (lt : i < length c.args.run.now). or_left (has f.writes (c.args.at + i)) (has f.reads (c.args.at + i)) (c.requires.each i lt) in
    ap (localized f (g.P.Port.words port)) c.copy_in.ensures ∙ put_in_copy f (g.P.Port.words port) c.args.self.now.copy.now c.args.at c.args.run.now (λ i lt. g.met.P.Port.inside port (c.args.at + i) (may i lt)) c.if-end-self.true may
