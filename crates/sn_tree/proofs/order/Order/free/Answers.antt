use Rattle.std.proofs.Common.{◌≡◌, ◌∙◌, ap, None}
use Rattle.std.specs.Option.{option_map}
use Rattle.sn_forest.specs.Walking.{behind_tree}
use Rattle.sn_tree.specs.Trees.{Label, first_label, without_first}
use Rattle.sn_tree.specs.Order.{Key}
use Rattle.sn_tree.specs.Keyed.{sides}
use Rattle.sn_tree.specs.Ordered.{Ordered}
use Rattle.sn_tree.proofs.OrderLaws.{first_payload}
use Rattle.sn_tree.proofs.OrderGives.{Gives, closed_of, freed_gives}
use Rattle.sn_tree.proofs.order.Order.free.Goals as goal

pub invariant_of-self : goal.invariant_of-self
invariant_of-self c =
    let closed : c.self.inside.journal ≡ None = closed_of c.self.inside.store c.self.inside.journal (ap (λ (o : Ordered). o.saved) c.self.view_is ∙ c.requires.closed) in
    let g : Gives c.free.new.self c.self.inside.journal (record { attached = (sides c.self.inside.store).attached; detached = without_first (sides c.self.inside.store).detached }) None =
    freed_gives c.self.inside.store c.free.new.self c.self.inside.journal closed c.self.invariant.1 c.free.ensures.rest in
    (g.ready, g.few)

pub returns-clause-value : goal.returns-clause-value
returns-clause-value c =
    c.free.ensures.value ∙ (first_payload (behind_tree c.self.inside.store) ∙ ap (λ (o : Ordered). option_map (λ (l : Label Key). l.payload) (first_label o.now.detached)) c.self.view_is)

pub returns-clause-rest : goal.returns-clause-rest
returns-clause-rest c =
    let closed : c.self.inside.journal ≡ None = closed_of c.self.inside.store c.self.inside.journal (ap (λ (o : Ordered). o.saved) c.self.view_is ∙ c.requires.closed) in
    let g : Gives c.free.new.self c.self.inside.journal (record { attached = (sides c.self.inside.store).attached; detached = without_first (sides c.self.inside.store).detached }) None =
    freed_gives c.self.inside.store c.free.new.self c.self.inside.journal closed c.self.invariant.1 c.free.ensures.rest in
    g.shows ∙ ap (λ (o : Ordered). let n : Ordered = record { now = record { attached = o.now.attached; detached = without_first o.now.detached }; saved = None } in n) c.self.view_is
