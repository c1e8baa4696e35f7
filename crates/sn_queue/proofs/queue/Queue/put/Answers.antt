use Rattle.std.proofs.Common.{◌≡◌, ◌<◌, ◌^◌, length, map, Some, subst, sym, ap, ◌∙◌, rules}
use Rattle.sn_osc.specs.Shape.{message_of}
use Rattle.sn_queue.specs.Time.{key_of, IsInReach}
use Rattle.sn_queue.specs.Waiting.{IsInOrder}
use Rattle.sn_queue.specs.Steps.{put}
use Rattle.sn_queue.specs.Meaning.{meaning}
use Rattle.sn_queue.proofs.Inserting.{IsInOrder-put, meaning-put}
use Rattle.sn_queue.proofs.queue.Queue.put.Goals as goal

pub invariant_of-self-2 : goal.invariant_of-self-2
invariant_of-self-2 c =
    let messages = map message_of c.args.messages in
    let is = meaning-put c.self.inside c.key.new.self c.insert.new.self (record { from = c.args.from; messages = c.args.messages }) c.key.result c.args.tag c.args.boundary c.self.invariant c.key.ensures.base c.key.ensures.rate c.key.ensures.value c.in_ok-insert.ensures.entries in
    let few : c.self.inside.puts < 2 ^ 62 = search (rules, c.self.view_is) in
    let room : c.self.inside.limit ≡ Some (length (meaning c.self.inside).waiting) → ⊥ = search (rules, c.self.view_is) in
    let reach : IsInReach (key_of c.args.tag c.args.boundary c.self.inside.clock.base c.self.inside.clock.rate) c.self.inside.clock.base c.self.inside.clock.rate =
    subst (λ n. IsInReach n c.self.inside.clock.base c.self.inside.clock.rate) c.key.ensures.value c.key.ensures.in_reach in
    subst IsInOrder (sym is) (IsInOrder-put (meaning c.self.inside) c.args.tag c.args.boundary c.args.from messages c.self.invariant few room reach)

pub returns-clause-put : goal.returns-clause-put
returns-clause-put c =
    let is = meaning-put c.self.inside c.key.new.self c.insert.new.self (record { from = c.args.from; messages = c.args.messages }) c.key.result c.args.tag c.args.boundary c.self.invariant c.key.ensures.base c.key.ensures.rate c.key.ensures.value c.in_ok-insert.ensures.entries in
    is ∙ ap (λ q. put q c.args.tag c.args.boundary c.args.from (map message_of c.args.messages)) c.self.view_is

pub returns-clause-order : goal.returns-clause-order
returns-clause-order c = invariant_of-self-2 c
