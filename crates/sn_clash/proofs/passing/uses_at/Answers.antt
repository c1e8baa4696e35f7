use Rattle.std.proofs.Common.{◌≡◌, ◌∙◌, Bool, List, Option, ap, drop, sym}
use Rattle.std.proofs.lemmas.Bool.{cond-true}
use Rattle.std.proofs.lemmas.Result.{IfOk-weaker}
use Rattle.std.specs.Prelude.{if◌then◌else◌}
use Rattle.std.specs.Global.{Vec}
use Rattle.sn_mem.specs.declared.buffers.BufferPlace.{BufferPlace}
use Rattle.sn_foot.specs.declared.resource.Resource.{Resource}
use Rattle.sn_foot.specs.declared.uses.Use.{Use}
use Rattle.sn_foot.specs.Footprints.{Footprint, is_there}
use Rattle.sn_foot.specs.Uses.{footprint_in}
use Rattle.sn_clash.specs.declared.subtree.Subtree.{Subtree}
use Rattle.sn_clash.specs.Passing.{gathered, members_of, no_use, used_by}
use Rattle.sn_clash.proofs.passing.uses_at.Goals as goal

pub returns-clause-uses : goal.returns-clause-uses
returns-clause-uses c =
    let below : List Subtree = drop c.args.kept c.args.passed.now.items in
    IfOk-weaker c.gather.result
    (λ (u : Vec Use). (there : Resource → Bool) → footprint_in there u.items ≡ gathered (footprint_in there c.in_ok-uses.uses.items) (members_of there below))
    (λ (u : Vec Use). (buffers : List (Option BufferPlace)) → footprint_in (is_there buffers) u.items ≡ (if c.args.running then gathered (used_by (is_there buffers) c.args.held.now) (members_of (is_there buffers) below) else no_use))
    (λ u e buffers.
    let there : Resource → Bool = is_there buffers in
    let ms = members_of there below in
    e there
    ∙ ap (λ (f : Footprint). gathered f ms) (c.in_ok-uses.ensures buffers)
    ∙ sym (cond-true c.args.running (gathered (used_by there c.args.held.now) ms) no_use c.if-not-running.false))
    c.gather.ensures.uses
