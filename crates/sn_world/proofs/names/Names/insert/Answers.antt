use Rattle.std.proofs.Common.{◌≡◌, ap, sym, ◌∙◌, ◌++◌, is_some, ℕ, List, map}
use Rattle.std.specs.FinMap as finite
use Rattle.sn_world.specs.Names.{names_in}
use Rattle.sn_world.proofs.DefsLemmas.{named_entry, got, inserted, is_some-map, turned_round}
use Rattle.sn_world.proofs.names.Names.insert.Goals as goal

pub returns-clause-new : goal.returns-clause-new
returns-clause-new c =
    let key = c.extend_from_slice.new.self in
    let bytes : key.items ≡ c.args.name.now = c.in_ok-extend_from_slice.ensures.items ∙ ap (λ (s : List ℕ). s ++ c.args.name.now) c.new-key.ensures.items in
    let was = ap is_some c.in_ok-old.ensures.old ∙ sym (is_some-map (λ (u : Unit {0}). u) _) ∙ ap is_some (got (λ k. k.items) (λ (u : Unit {0}). u) key.items c.args.self.now.items.entries ∙ ap (finite.get (names_in c.args.self.now)) bytes) in
    turned_round _ c.is_none.result (sym was ∙ c.is_none.ensures)

pub returns-clause-put : goal.returns-clause-put
returns-clause-put c =
    let key = c.extend_from_slice.new.self in
    let bytes : key.items ≡ c.args.name.now = c.in_ok-extend_from_slice.ensures.items ∙ ap (λ (s : List ℕ). s ++ c.args.name.now) c.new-key.ensures.items in
    ap (λ es. finite.from_entries (map (named_entry (λ k. k.items) (λ (u : Unit {0}). u)) es)) c.in_ok-old.ensures.entries
    ∙ inserted (λ k. k.items) (λ (u : Unit {0}). u) key tt c.args.self.now.items.entries
    ∙ ap (λ (n : List ℕ). finite.insert (names_in c.args.self.now) n tt) bytes
