use Rattle.std.proofs.Common.{◌≡◌, ap, ◌∙◌, ◌++◌, ℕ, List, map}
use Rattle.std.specs.FinMap as finite
use Rattle.sn_def.specs.Defs.{definition_of}
use Rattle.sn_world.specs.Definitions.{definitions_of}
use Rattle.sn_world.proofs.DefsLemmas.{named_entry, inserted}
use Rattle.sn_world.proofs.defs.Defs.insert.Goals as goal

pub returns-clause-ok : goal.returns-clause-ok
returns-clause-ok c =
    let key = c.extend_from_slice.new.self in
    let bytes : key.items ≡ c.args.def.value.name.bytes = c.in_ok-extend_from_slice.ensures.items ∙ ap (λ (s : List ℕ). s ++ c.as_slice.result.now) c.new-name.ensures.items ∙ c.as_slice.ensures ∙ ap (λ d. d.name.bytes) c.deref.ensures in
    ap (λ es. finite.from_entries (map (named_entry (λ k. k.items) (λ a. definition_of a.value)) es)) c.in_ok-insert.ensures.entries
    ∙ inserted (λ k. k.items) (λ a. definition_of a.value) key c.args.def c.args.self.now.items.entries
    ∙ ap (λ (n : List ℕ). finite.insert (definitions_of c.args.self.now) n (definition_of c.args.def.value)) bytes
