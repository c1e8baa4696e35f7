use Rattle.std.proofs.Common.{◌≡◌, ◌∙◌, List, ap}
use Rattle.std.proofs.lemmas.List.Elements.{All-same}
use Rattle.std.proofs.lemmas.Result.{IfOk-weaker}
use Rattle.sn_mem.specs.declared.extents.Extent.{Extent}
use Rattle.sn_foot.specs.Canonical.{Ends, canonical}
use Rattle.sn_foot.specs.Uses.{places_of}
use Rattle.sn_foot.proofs.Placing.{places_end}
use Rattle.sn_foot.proofs.feet.words_of.Goals as goal

pub canonical-requires : goal.canonical-requires
canonical-requires c =
    All-same Ends c.in_ok-places.places.items (places_of c.args.buffers.now c.args.role c.args.uses.now) c.in_ok-places.ensures (places_end c.args.buffers.now c.args.role c.args.uses.now c.requires.buffers)

pub returns : goal.returns
returns c =
    IfOk-weaker c.canonical.result (λ found. found ≡ canonical c.in_ok-places.places.items) (λ words. words ≡ canonical (places_of c.args.buffers.now c.args.role c.args.uses.now))
    (λ found e. e ∙ ap (λ (es : List Extent). canonical es) c.in_ok-places.ensures) c.canonical.ensures.list
