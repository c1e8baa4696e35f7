use Rattle.std.proofs.Common.{◌≡◌, ◌++◌, [], ℕ, Option, List, Bor, length, ltb, arith, sym, refl, ap, ◌∙◌, subst}
use Rattle.std.proofs.lemmas.Bool.{ltb-false, ltb-true}
use Rattle.std.proofs.lemmas.Result.{IfOk-weaker}
use Rattle.sn_graph.specs.declared.nodes.Voice.{Voice}
use Rattle.sn_graph.specs.Voices.{AreWithin, synth, group, voices}
use Rattle.sn_graph.specs.Rows.{done}
use Rattle.sn_graph.specs.Plans.{close, row_of}
use Rattle.sn_graph.specs.Inputs.{nodes_of}
use Rattle.sn_graph.specs.Drafts.{Puts, IsJoint, listed}
use Rattle.sn_graph.proofs.Shapes.{weight}
use Rattle.sn_graph.proofs.Drafting.{behind, Leaves, fit_row, fit_group, next_group, end_row, fit_members, fit_member, next_synth, next_member, end_members, within_run, within_inner, within_rest, within_synth, joints_group, joints_synth}
use Rattle.sn_graph.proofs.jobs.+put.Goals as goal

pub put_members-end_run-requires-clause-room : goal.put_members-end_run-requires-clause-room
put_members-end_run-requires-clause-room t c =
    fit_members c.args.lanes.now c.loop-rest.invariant.left c.requires.room

pub put_members-end_run-requires-clause-within : goal.put_members-end_run-requires-clause-within
put_members-end_run-requires-clause-within t c =
    let is : nodes_of c.loop-rest.rest.now ≡ synth c.in-Synth.voice (nodes_of c.deref-rest.result.now) = ap nodes_of c.in-Synth.is ∙ (λ i. synth c.in-Synth.voice (nodes_of (sym c.deref-rest.ensures i))) in
    (within_synth (nodes_of c.loop-rest.rest.now) c.loop-rest.invariant.within is).0

pub put_members-loop-rest-preserved-in-Continue-branch-2 : goal.put_members-loop-rest-preserved-in-Continue-branch-2
put_members-loop-rest-preserved-in-Continue-branch-2 t c =
    let is : nodes_of c.loop-rest.rest.now ≡ synth c.in-Synth.voice (nodes_of c.deref-rest.result.now) = ap nodes_of c.in-Synth.is ∙ (λ i. synth c.in-Synth.voice (nodes_of (sym c.deref-rest.ensures i))) in
    let w = ap weight is in
    record {
      less = omega (arith, w, c.loop-rest.invariant.less);
      left = next_synth c.loop-rest.invariant.left is c.in_ok-last-in-Synth.ensures c.in_ok-put_last-in-Synth.ensures;
      within = (within_synth (nodes_of c.loop-rest.rest.now) c.loop-rest.invariant.within is).1;
      joints = joints_synth (nodes_of c.loop-rest.rest.now) c.loop-rest.invariant.joints is;
    }

pub put_members-put_group-requires : goal.put_members-put_group-requires
put_members-put_group-requires t c =
    let is : nodes_of c.loop-rest.rest.now ≡ group c.in-Group.joint.lanes (nodes_of c.deref.result.now) (nodes_of c.deref-rest-in-Group.result.now) =
    ap nodes_of c.in-Group.is ∙ (λ i. group c.in-Group.joint.lanes (nodes_of (sym c.deref.ensures i)) (nodes_of (sym c.deref-rest-in-Group.ensures i))) in
    let w = ap weight is in
    let joints = joints_group (nodes_of c.loop-rest.rest.now) c.loop-rest.invariant.joints is in (
      omega (arith, w, c.loop-rest.invariant.less),
      (fit_member c.args.lanes.now c.loop-rest.invariant.left is c.requires.room, (within_inner [] (nodes_of c.loop-rest.rest.now) c.loop-rest.invariant.within is, (joints.0, joints.1.0))),
    )

pub put_members-loop-rest-preserved : goal.put_members-loop-rest-preserved
put_members-loop-rest-preserved t c =
    let is : nodes_of c.loop-rest.rest.now ≡ group c.in-Group.joint.lanes (nodes_of c.deref.result.now) (nodes_of c.deref-rest-in-Group.result.now) =
    ap nodes_of c.in-Group.is ∙ (λ i. group c.in-Group.joint.lanes (nodes_of (sym c.deref.ensures i)) (nodes_of (sym c.deref-rest-in-Group.ensures i))) in
    let w = ap weight is in
    let was : c.len-before.result ≡ length c.loop-rest.jobs.items = omega arith in
    let are : c.len.result ≡ length c.put_group.new.jobs.items = omega arith in
    record {
      less = omega (arith, w, c.loop-rest.invariant.less);
      left = next_member (ltb c.len-before.result c.len.result) c.loop-rest.invariant.left is c.in_ok-last-in-Group.ensures
          (c.in_ok-put_last-in-Group.ensures ∙ ap (λ (o : Option ℕ). c.loop-rest.lasts ++ listed o) c.last_of.ensures)
          (λ h. omega (arith, was, are, ltb-true c.len-before.result c.len.result h))
          (λ h. omega (arith, was, are, ltb-false c.len-before.result c.len.result h));
      within = within_rest [] (nodes_of c.loop-rest.rest.now) c.loop-rest.invariant.within is;
      joints = (joints_group (nodes_of c.loop-rest.rest.now) c.loop-rest.invariant.joints is).1.1;
    }

pub put_members-put_joint-requires-clause-room : goal.put_members-put_joint-requires-clause-room
put_members-put_joint-requires-clause-room t c =
    fit_members c.args.lanes.now c.loop-rest.invariant.left c.requires.room

pub put_members-returns : goal.put_members-returns
put_members-returns t c =
    IfOk-weaker _ _ _ (λ f (j : IsJoint c.args.lanes.now c.loop-rest.jobs.items c.put_joint.new.jobs.items c.loop-rest.lasts c.args.entry f). end_members c.args.lanes.now (nodes_of c.args.inner.now) c.loop-rest.invariant.left (ap nodes_of c.in-None.is) refl j) c.put_joint.ensures

pub put_row-end_run-requires-clause-room : goal.put_row-end_run-requires-clause-room
put_row-end_run-requires-clause-room t c =
    fit_row c.loop-rest.invariant.left c.requires.room

pub put_row-end_run-requires-clause-within : goal.put_row-end_run-requires-clause-within
put_row-end_run-requires-clause-within t c =
    subst (λ (l : List (Bor Voice)). AreWithin (behind l)) (sym c.as_slice-open.ensures.value) (within_run (behind c.loop-rest.run.items) (nodes_of c.loop-rest.rest.now) c.loop-rest.invariant.within)

pub put_row-put_group-requires : goal.put_row-put_group-requires
put_row-put_group-requires t c =
    let is : nodes_of c.loop-rest.rest.now ≡ group c.in-Group.joint.lanes (nodes_of c.deref.result.now) (nodes_of c.deref-rest-in-Group.result.now) =
    ap nodes_of c.in-Group.is ∙ (λ i. group c.in-Group.joint.lanes (nodes_of (sym c.deref.ensures i)) (nodes_of (sym c.deref-rest-in-Group.ensures i))) in
    let w = ap weight is in
    let put = subst (λ (l : List (Bor Voice)). Puts c.loop-rest.jobs.items c.end_run.new.jobs.items c.loop-rest.last c.in_ok-last-in-Group.last (close (behind l) done)) c.as_slice-open.ensures.value c.in_ok-last-in-Group.ensures in
    let joints = joints_group (nodes_of c.loop-rest.rest.now) c.loop-rest.invariant.joints is in (
      omega (arith, w, c.loop-rest.invariant.less),
      (
        fit_group (behind c.loop-rest.run.items) c.loop-rest.invariant.left is c.requires.room put,
        (within_inner (behind c.loop-rest.run.items) (nodes_of c.loop-rest.rest.now) c.loop-rest.invariant.within is, (joints.0, joints.1.0)),
      ),
    )

pub put_row-loop-rest-preserved : goal.put_row-loop-rest-preserved
put_row-loop-rest-preserved t c =
    let is : nodes_of c.loop-rest.rest.now ≡ group c.in-Group.joint.lanes (nodes_of c.deref.result.now) (nodes_of c.deref-rest-in-Group.result.now) =
    ap nodes_of c.in-Group.is ∙ (λ i. group c.in-Group.joint.lanes (nodes_of (sym c.deref.ensures i)) (nodes_of (sym c.deref-rest-in-Group.ensures i))) in
    let w = ap weight is in
    let put = subst (λ (l : List (Bor Voice)). Puts c.loop-rest.jobs.items c.end_run.new.jobs.items c.loop-rest.last c.in_ok-last-in-Group.last (close (behind l) done)) c.as_slice-open.ensures.value c.in_ok-last-in-Group.ensures in
    let empty = sym c.clear.ensures.items in
    record {
      less = omega (arith, w, c.loop-rest.invariant.less);
      left = subst (λ (l : List (Bor Voice)). Leaves c.args.jobs.now.items c.put_group.new.jobs.items c.args.entry c.in_ok-last-in-Group-2.last (row_of (behind l) (nodes_of c.deref-rest-in-Group.result.now)) (row_of [] (nodes_of c.args.nodes.now))) empty
          (next_group (behind c.loop-rest.run.items) c.loop-rest.invariant.left is put c.in_ok-last-in-Group-2.ensures);
      within = subst (λ (l : List (Bor Voice)). AreWithin (behind l ++ voices (nodes_of c.deref-rest-in-Group.result.now))) empty (within_rest (behind c.loop-rest.run.items) (nodes_of c.loop-rest.rest.now) c.loop-rest.invariant.within is);
      joints = (joints_group (nodes_of c.loop-rest.rest.now) c.loop-rest.invariant.joints is).1.1;
    }

pub put_row-end_run-requires-2 : goal.put_row-end_run-requires-2
put_row-end_run-requires-2 t c =
    record { room = fit_row c.loop-rest.invariant.left c.requires.room; within = subst (λ (l : List (Bor Voice)). AreWithin (behind l)) (sym c.as_slice.ensures.value) (within_run (behind c.loop-rest.run.items) (nodes_of c.loop-rest.rest.now) c.loop-rest.invariant.within) }

pub put_row-returns : goal.put_row-returns
put_row-returns t c =
    IfOk-weaker _ _ _ (λ f (p : Puts c.loop-rest.jobs.items c.end_run-2.new.jobs.items c.loop-rest.last f (close (behind c.as_slice.result.now) done)).
    end_row (behind c.loop-rest.run.items) c.loop-rest.invariant.left (ap nodes_of c.in-None.is)
    (subst (λ (l : List (Bor Voice)). Puts c.loop-rest.jobs.items c.end_run-2.new.jobs.items c.loop-rest.last f (close (behind l) done)) c.as_slice.ensures.value p)) c.end_run-2.ensures
