use Rattle.std.proofs.Common.{◌≡◌, ◌+◌, Bool, true, false, ◌&&◌, List, [], ◌∷◌, ◌++◌, sym, refl, ap, ◌∙◌}
use Rattle.std.specs.Prelude.{nat_lt}
use Rattle.std.specs.List.{All, list_all}
use Rattle.std.proofs.lemmas.Bool.{and_parts, ltb-true}
use Rattle.std.proofs.lemmas.List.Elements.{All-nil, All-cons, All-append}
use Rattle.sn_mem.specs.declared.extents.Extent.{Extent}
use Rattle.sn_tree.specs.Trees as trees
use Rattle.sn_tree.specs.Trees.{Nodes, payloads}
use Rattle.sn_tree.specs.Tallies.{gathered}
use Rattle.sn_world.specs.declared.stage.Held.{Held}
use Rattle.sn_world.specs.Pictures.{held_extents, live_held}
use Rattle.sn_foot.specs.Canonical.{Ends}
use Rattle.sn_stages.specs.declared.plans.Ending.{Ending}
use Rattle.sn_stages.proofs.plans.all_end.Goals as goal

abbrev end : List Extent → Bool
end es = list_all (λ e. nat_lt (e.at + e.len) 4294967296) es

abbrev with_one : Ending → Held → Ending
with_one t held = record { all = t.all && end (held_extents held) }

and_true : (a : Bool) → (a && true) ≡ a
and_true true = refl
and_true false = refl

and_and : (a b c : Bool) → ((a && b) && c) ≡ (a && (b && c))
and_and true b c = refl
and_and false b c = refl

all_gathered : (t : Ending) (hs : List Held) → (gathered with_one t hs).all ≡ (t.all && list_all (λ h. end (held_extents h)) hs)
all_gathered t [] = sym (and_true t.all)
all_gathered t (h ∷ hs) = all_gathered (with_one t h) hs ∙ and_and t.all (end (held_extents h)) (list_all (λ g. end (held_extents g)) hs)

all_extents : (es : List Extent) → end es ≡ true → All Ends es
all_extents [] h = All-nil Ends
all_extents (e ∷ es) h =
    let parts = and_parts (nat_lt (e.at + e.len) 4294967296) (end es) h in
    All-cons Ends e es (ltb-true (e.at + e.len) 4294967296 parts.0) (all_extents es parts.1)

parts_of : (hs gs : List Held) → list_all (λ h. end (held_extents h)) (hs ++ gs) ≡ true → (list_all (λ h. end (held_extents h)) hs ≡ true) × (list_all (λ h. end (held_extents h)) gs ≡ true)
parts_of [] gs h = (refl, h)
parts_of (x ∷ hs) gs h =
    let parts = and_parts (end (held_extents x)) (list_all (λ g. end (held_extents g)) (hs ++ gs)) h in
    let rest = parts_of hs gs parts.1 in
    (ap (λ b. b && list_all (λ g. end (held_extents g)) hs) parts.0 ∙ rest.0, rest.1)

all_live : (t : Nodes Held) → list_all (λ h. end (held_extents h)) (payloads t) ≡ true → All Ends (live_held t)
all_live trees.none h = All-nil Ends
all_live (trees.node label below after) h =
    let parts = and_parts (end (held_extents label.payload)) (list_all (λ g. end (held_extents g)) (payloads below ++ payloads after)) h in
    let rest = parts_of (payloads below) (payloads after) parts.1 in
    All-append Ends (held_extents label.payload) (live_held below ++ live_held after) (all_extents (held_extents label.payload) parts.0)
    (All-append Ends (live_held below) (live_held after) (all_live below rest.0) (all_live after rest.1))

pub returns : goal.returns
returns c = λ h. all_live c.args.tree.now.attached (sym (all_gathered (record { all = true }) (payloads c.args.tree.now.attached)) ∙ sym (ap (λ (t : Ending). t.all) c.tally.ensures) ∙ h)
