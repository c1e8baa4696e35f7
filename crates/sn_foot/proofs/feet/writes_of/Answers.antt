use Rattle.std.proofs.Common.{◌≡◌, ◌∙◌, ◌++◌, List, ap, map}
use Rattle.std.proofs.lemmas.List.Elements.{All-append, All-same}
use Rattle.std.proofs.lemmas.Result.{IfOk-weaker}
use Rattle.sn_mem.specs.declared.extents.Extent.{Extent}
use Rattle.sn_foot.specs.declared.uses.Role.TheVariants.{Write}
use Rattle.sn_foot.specs.Canonical.{Ends, canonical}
use Rattle.sn_foot.specs.Footprints.{states_of}
use Rattle.sn_foot.specs.Uses.{places_of}
use Rattle.sn_foot.proofs.Placing.{places_end}
use Rattle.sn_foot.proofs.feet.writes_of.Goals as goal

pub canonical-requires : goal.canonical-requires
canonical-requires c =
    let hs = map (λ h. h.now) c.args.nodes.now in
    let places = places_of c.args.buffers.now Write c.args.uses.now in
    All-same Ends c.put_states.new.places.items (places ++ states_of hs)
    (c.in_ok-put_states.ensures ∙ ap (λ (es : List Extent). es ++ states_of hs) c.in_ok-places.ensures)
    (All-append Ends places (states_of hs) (places_end c.args.buffers.now Write c.args.uses.now c.requires.buffers) c.requires.states)

pub returns : goal.returns
returns c =
    let hs = map (λ h. h.now) c.args.nodes.now in
    IfOk-weaker c.canonical.result (λ found. found ≡ canonical c.put_states.new.places.items) (λ writes. writes ≡ canonical (places_of c.args.buffers.now Write c.args.uses.now ++ states_of hs))
    (λ found e. e ∙ ap (λ (es : List Extent). canonical es) (c.in_ok-put_states.ensures ∙ ap (λ (es : List Extent). es ++ states_of hs) c.in_ok-places.ensures)) c.canonical.ensures.list
