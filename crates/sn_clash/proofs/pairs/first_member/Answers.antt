use Rattle.std.proofs.Common.{◌≡◌, ◌≤◌, ◌∙◌, ◌+◌, ℕ, Bool, List, ap, refl, sym, subst, arith, length, take}
use Rattle.std.specs.List.{list_any}
use Rattle.sn_foot.specs.declared.resource.Resource.{Resource}
use Rattle.sn_foot.specs.declared.uses.Use.{Use}
use Rattle.sn_clash.specs.declared.marks.Mark.{Mark}
use Rattle.sn_foot.specs.Footprints.{clash_on, is_there}
use Rattle.sn_clash.specs.Clashing.{resources}
use Rattle.sn_foot.specs.Uses.{footprint_in}
use Rattle.sn_clash.specs.Marking.{mark_uses, marked_in}
use Rattle.sn_clash.specs.Passing.{members_of, no_use}
use Rattle.sn_clash.proofs.Marking.{long_uses, nothing_marked, together}
use Rattle.sn_clash.proofs.Members.{next_first, next_gathered, within_next}
use Rattle.sn_clash.proofs.pairs.first_member.Goals as goal

pub loop-index-init : goal.loop-index-init
loop-index-init c = record {
  within = omega arith;
  first = refl;
  long = c.in_ok-later.ensures.long;
  uses = nothing_marked c.args.buffers.now c.in_ok-later.later c.in_ok-later.ensures.none;
}

pub loop-index-preserved : goal.loop-index-preserved
loop-index-preserved c =
    let there : Resource → Bool = is_there c.args.buffers.now in
    let i = c.loop-index.invariant in
    let es = c.args.members.now in
    let n = c.loop-index.index in
    let old : List Mark = c.loop-index.later in
    let us : List Use = c.index-members-index.result.uses.items in
    let marked : c.mark_all.new.self ≡ mark_uses us old = c.mark_all.ensures ∙ ap (λ (vs : List Use). mark_uses vs old) c.deref-in-loop-index.ensures.value in
    record {
      within = subst (λ (k : ℕ). k ≤ n + 1) (sym c.chosen-first.ensures) (within_next c.clash-clashes.result n c.loop-index.first i.within);
      first = ap (λ (k : ℕ). members_of there (take k es)) c.chosen-first.ensures
          ∙ next_first there es n c.index-members-index.result c.loop-index.first c.clash-clashes.result old c.loop-index-test.true c.index-members-index.is i.first i.uses
          (c.clash-clashes.ensures ∙ ap (λ (vs : List Use). list_any (clash_on (marked_in there old) (footprint_in there vs)) resources) c.deref.ensures.value);
      long = ap length marked ∙ long_uses us old ∙ i.long;
      uses = next_gathered there es n c.index-members-index.result (marked_in there old) (marked_in there c.mark_all.new.self) no_use c.loop-index-test.true c.index-members-index.is
          (ap (λ (ms : List Mark). marked_in there ms) marked ∙ together c.args.buffers.now us old i.long) i.uses;
    }
