use Rattle.std.proofs.Common.{Some, refl, ap, sym, ◌∙◌}
use Rattle.std.specs.List.{list_any}
use Rattle.sn_queue.specs.Steps.{is_due, first_due, without_first_due}
use Rattle.sn_queue.proofs.Order.{none-any, any-none, not_due, later_due, first-none, without_first-none}
use Rattle.sn_queue.proofs.Taking.{first_due-popped, without_first_due-popped}
use Rattle.sn_queue.proofs.queue.Queue.take_due.Goals as goal

pub returns-then-not-has_due-clause-taken : goal.returns-then-not-has_due-clause-taken
returns-then-not-has_due-clause-taken c =
    let q = c.args.self.now in
    let none = none-any (is_due q c.args.now) q.waiting (sym c.has_due.ensures ∙ c.if-not-has_due.true) in
    sym (first-none (is_due q c.args.now) q.waiting none)

pub returns-then-not-has_due-clause-left : goal.returns-then-not-has_due-clause-left
returns-then-not-has_due-clause-left c =
    let q = c.args.self.now in
    let none = none-any (is_due q c.args.now) q.waiting (sym c.has_due.ensures ∙ c.if-not-has_due.true) in
    ap (λ ws. record q { waiting = ws }) (sym (without_first-none (is_due q c.args.now) q.waiting none))

pub returns-then-not-has_due-clause-none : goal.returns-then-not-has_due-clause-none
returns-then-not-has_due-clause-none c =
    let q = c.args.self.now in
    let none = none-any (is_due q c.args.now) q.waiting (sym c.has_due.ensures ∙ c.if-not-has_due.true) in
    (λ _. later_due q c.args.now q.waiting none, λ _. refl)

pub returns-clause-taken : goal.returns-clause-taken
returns-clause-taken c =
    let some = ap (λ q. list_any (is_due q c.args.now) q.waiting) c.self.view_is ∙ sym c.has_due.ensures ∙ c.if-not-has_due.false in
    let popped = first_due-popped c.self.inside c.pop_first.new.self c.args.now (c.in_ok-rank.rank, c.in_ok-rank.batch) c.self.invariant c.in_ok-rank.ensures.removal some in
    ap Some c.of.ensures ∙ sym popped ∙ ap (λ q. first_due q c.args.now) c.self.view_is

pub returns-clause-left : goal.returns-clause-left
returns-clause-left c =
    let some = ap (λ q. list_any (is_due q c.args.now) q.waiting) c.self.view_is ∙ sym c.has_due.ensures ∙ c.if-not-has_due.false in
    let popped = without_first_due-popped c.self.inside c.pop_first.new.self c.args.now (c.in_ok-rank.rank, c.in_ok-rank.batch) c.self.invariant c.in_ok-rank.ensures.removal some in
    popped ∙ ap (λ q. without_first_due q c.args.now) c.self.view_is

pub returns-clause-none : goal.returns-clause-none
returns-clause-none c =
    let q = c.args.self.now in
    let some = sym c.has_due.ensures ∙ c.if-not-has_due.false in
    (λ e. absurd (cc e), λ later. let none = any-none (is_due q c.args.now) q.waiting (not_due q c.args.now q.waiting later) in absurd (cc (none, some)))
