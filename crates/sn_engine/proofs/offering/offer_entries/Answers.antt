use Rattle.std.proofs.Common.{◌≡◌, ◌∷◌, [], ◌++◌, length, map, refl, sym, ap, subst, ◌∙◌, arith, rules, append_assoc, append-nil}
use Rattle.sn_engine.specs.Answerable.{AreAnswerable}
use Rattle.sn_engine.specs.Arriving.{Offered, offer_entry, offer_entries}
use Rattle.sn_engine.specs.Stacks.{timed_of}
use Rattle.sn_engine.proofs.OfferLemmas.{one_more, partly, on_err}
use Rattle.std.proofs.lemmas.List.{nil_from_length}
use Rattle.sn_engine.proofs.offering.offer_entries.Goals as goal

pub offer_entry-requires-clause-puts : goal.offer_entry-requires-clause-puts
offer_entry-requires-clause-puts c = omega (arith, c.loop-entry.invariant.puts, ap length c.in-Some.ensures.steps.0)

pub offer_entry-requires-clause-messages : goal.offer_entry-requires-clause-messages
offer_entry-requires-clause-messages c = (subst (λ es. AreAnswerable (map timed_of es)) c.in-Some.ensures.steps.0 c.loop-entry.invariant.left).0

pub loop-entry-init : goal.loop-entry-init
loop-entry-init c =
    let same : c.into_iter-entry-iterator.result.rest.items ≡ c.args.entries.items = search rules in
    record {
      front = [];
      parts = ap (map timed_of) (sym same);
      offered = refl;
      left = subst (λ es. AreAnswerable (map timed_of es)) (sym same) c.requires.entries;
      puts = omega (arith, c.requires.puts, ap length same);
      few = omega (arith, ap length same);
      waiting = c.requires.waiting;
    }

pub loop-entry-preserved : goal.loop-entry-preserved
loop-entry-preserved c =
    let i = c.loop-entry.invariant in
    let e = timed_of c.in-Some.entry in
    let step = c.in-Some.ensures.steps.0 in
    let start : Offered = record { waiting = c.args.queue.now; replies = c.args.replies.now; refused = 0 } in
    record {
      front = i.front ++ e ∷ [];
      parts = i.parts ∙ ap (λ es. i.front ++ map timed_of es) step ∙ sym (append_assoc i.front (e ∷ []) (map timed_of c.next.new.self.rest.items));
      offered = one_more c.args.boundary c.args.from i.front e start ∙ ap (offer_entry c.args.boundary c.args.from e) i.offered ∙ c.in_ok-refused.ensures.offered c.loop-entry.refused;
      left = (subst (λ es. AreAnswerable (map timed_of es)) step i.left).1;
      puts = omega (arith, i.puts, c.in_ok-refused.ensures.puts, ap length step);
      few = omega (arith, i.few, c.in_ok-refused.ensures.few, ap length step);
      waiting = c.offer_entry.ensures.waiting;
    }

pub returns-clause-offered : goal.returns-clause-offered
returns-clause-offered c =
    let i = c.loop-entry.invariant in
    let rest = c.loop-entry.entry-iterator.rest in
    let none : rest.items ≡ [] = nil_from_length rest.items (omega (arith, rest.ok.0, c.in-None.ensures.steps.0)) in
    let all : map timed_of c.args.entries.items ≡ i.front = i.parts ∙ ap (λ es. i.front ++ map timed_of es) none ∙ append-nil i.front in
    ap (λ es. offer_entries c.args.boundary c.args.from es (record { waiting = c.args.queue.now; replies = c.args.replies.now; refused = 0 })) all ∙ i.offered

pub returns-in_err-refused-clause-part : goal.returns-in_err-refused-clause-part
returns-in_err-refused-clause-part c =
    let i = c.loop-entry.invariant in
    on_err c.from_residual.result
    (partly c.args.boundary c.args.from (map timed_of c.args.entries.items) i.front (map timed_of c.loop-entry.entry-iterator.rest.items) c.args.queue.now c.offer_entry.new.queue c.loop-entry.queue c.args.replies.now c.loop-entry.replies c.loop-entry.refused
    i.parts i.offered c.in_err-refused.ensures.refused)
