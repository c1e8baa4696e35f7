use Rattle.std.proofs.Common.{◌≡◌, ◌+◌, Bool, true, false, not, is_some, ◌&&◌, map, drop, refl, sym, ap, ◌∙◌}
use Rattle.std.specs.FinMap as finite
use Rattle.sn_def.specs.Defs.{definition_of}
use Rattle.sn_world.specs.Definitions.{definitions_of}
use Rattle.sn_world.specs.Names.{names_in}
use Rattle.sn_world.specs.Forgetting.{are_known}
use Rattle.sn_world.proofs.DefsLemmas.{is_some-map}
use Rattle.sn_ports.specs.Octets.{bytes_of}
use Rattle.sn_buscmd.proofs.FreeingLemmas.{less, less-none, next-known}
use Rattle.sn_buscmd.proofs.freeing.are_known.Goals as goal

pub loop-name-init : goal.loop-name-init
loop-name-init c = ap (are_known (map bytes_of c.args.names.now)) (less-none (definitions_of c.args.defs.now) (names_in c.new-forgotten.result) c.new-forgotten.ensures)

pub returns-then-is_none : goal.returns-then-is_none
returns-then-is_none c =
    let ds = definitions_of c.args.defs.now in
    let ns = names_in c.loop-name.forgotten in
    let text = c.as_slice-text.result.now in
    let there : is_some c.named.result ≡ is_some (finite.get ds text) = sym (is_some-map (λ a. definition_of a.now.value) c.named.result) ∙ ap is_some c.named.ensures in
    let none : is_some c.named.result ≡ false = c.is_none.ensures ∙ ap not c.if-is_none.true in
    let new : Bool = not (is_some (finite.get ns text)) in
    sym (ap (λ b. (b && new) && are_known (map bytes_of (drop (c.loop-name.name-index + 1) c.args.names.now)) (less ds (finite.insert ns text tt))) none)
    ∙ sym (next-known ds ns c.args.names.now c.loop-name.name-index c.name-item.result text (is_some c.named.result) new c.loop-name-test.true c.name-item.is c.as_slice-text.ensures there refl)
    ∙ c.loop-name.invariant

pub returns-then-not-branch : goal.returns-then-not-branch
returns-then-not-branch c =
    let ds = definitions_of c.args.defs.now in
    let ns = names_in c.loop-name.forgotten in
    let text = c.as_slice-text.result.now in
    let there : is_some c.named.result ≡ is_some (finite.get ds text) = sym (is_some-map (λ a. definition_of a.now.value) c.named.result) ∙ ap is_some c.named.ensures in
    let some : is_some c.named.result ≡ true = c.is_none.ensures ∙ ap not c.if-is_none.false in
    let rest = are_known (map bytes_of (drop (c.loop-name.name-index + 1) c.args.names.now)) (less ds (finite.insert ns text tt)) in
    sym (ap (λ b. (b && c.in_ok-insert.field-0) && rest) some ∙ ap (λ b. b && rest) c.if-not-branch.true)
    ∙ sym (next-known ds ns c.args.names.now c.loop-name.name-index c.name-item.result text (is_some c.named.result) c.in_ok-insert.field-0 c.loop-name-test.true c.name-item.is c.as_slice-text.ensures there c.in_ok-insert.ensures.new)
    ∙ c.loop-name.invariant

pub loop-name-preserved : goal.loop-name-preserved
loop-name-preserved c =
    let ds = definitions_of c.args.defs.now in
    let ns = names_in c.loop-name.forgotten in
    let text = c.as_slice-text.result.now in
    let there : is_some c.named.result ≡ is_some (finite.get ds text) = sym (is_some-map (λ a. definition_of a.now.value) c.named.result) ∙ ap is_some c.named.ensures in
    let some : is_some c.named.result ≡ true = c.is_none.ensures ∙ ap not c.if-is_none.false in
    let rest = map bytes_of (drop (c.loop-name.name-index + 1) c.args.names.now) in
    let after = are_known rest (less ds (finite.insert ns text tt)) in
    ap (λ m. are_known rest (less ds m)) c.in_ok-insert.ensures.put
    ∙ sym (ap (λ b. (b && c.in_ok-insert.field-0) && after) some ∙ ap (λ b. b && after) c.if-not-branch.false)
    ∙ sym (next-known ds ns c.args.names.now c.loop-name.name-index c.name-item.result text (is_some c.named.result) c.in_ok-insert.field-0 c.loop-name-test.true c.name-item.is c.as_slice-text.ensures there c.in_ok-insert.ensures.new)
    ∙ c.loop-name.invariant
