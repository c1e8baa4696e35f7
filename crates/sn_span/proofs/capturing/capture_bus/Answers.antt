use Rattle.std.proofs.Common.{◌+◌, ◌∙◌, ℕ, List, set, ap, subst, sym}
use Rattle.sn_mem.specs.declared.extents.Foot.{Foot}
use Rattle.sn_mem.specs.Words.{MayRead}
use Rattle.sn_span.proofs.Copying.{capture_none, capture_step}
use Rattle.sn_span.proofs.capturing.capture_bus.Goals as goal

pub loop-frame-init : goal.loop-frame-init
loop-frame-init g c = record {
  made = c.is_written-written.ensures.words ∙ capture_none c.args.block (g.P.Port.words c.args.port.now) c.args.bus.now c.args.at;
  foot = c.is_written-written.ensures.port.0;
  rest = c.is_written-written.ensures.port.1;
}

pub loop-frame-preserved : goal.loop-frame-preserved
loop-frame-preserved g c =
    let i = c.loop-frame.invariant in
    let ws = g.P.Port.words c.args.port.now in
    record {
      made = capture_step c.args.block ws (g.P.Port.words c.loop-frame.port) (g.P.Port.words c.store.new.self) c.args.bus.now c.args.at c.loop-frame.frame c.word_at-word.result c.is_written-written.result
          c.requires.long c.requires.beside c.loop-frame-test.true i.made c.is_written-written.ensures.number c.word_at-word.ensures.word
          (c.store.ensures.changed ∙ ap (λ (us : List ℕ). set us (c.args.at + c.loop-frame.frame) c.word_at-word.result) c.word_at-word.ensures.words);
      foot = c.store.ensures.foot ∙ (c.word_at-word.ensures.port.0 ∙ i.foot);
      rest = c.store.ensures.rest ∙ (c.word_at-word.ensures.port.1 ∙ i.rest);
    }

pub word_at-word-requires-clause-reads : goal.word_at-word-requires-clause-reads
word_at-word-requires-clause-reads g c = subst (λ (f : Foot). MayRead f c.args.bus.now.at 65) (sym c.loop-frame.invariant.foot) c.requires.reads
