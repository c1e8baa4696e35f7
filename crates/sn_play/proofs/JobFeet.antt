-- The foot of synths has the feet of all of them, and each of its words is one of theirs; and what nodes hold that run.
use Rattle.std.proofs.Common.{◌≡◌, ◌⊎◌, inl, inr, ⊎_elim, ℕ, true, List, [], ◌∷◌, ◌++◌, ℤ, sym, refl, ap, subst, ◌∙◌, true≢false}
use Rattle.std.proofs.lemmas.Bool.{cond_both, or_cases, or_left, or_right}
use Rattle.sn_mem.specs.declared.extents.Extent.{Extent}
use Rattle.sn_mem.specs.declared.extents.Foot.{Foot}
use Rattle.sn_mem.specs.declared.moves.Moved.{Moved}
use Rattle.sn_mem.specs.Lanes.{buses_in, lanes_in}
use Rattle.sn_mem.specs.Words.{has, touches}
use Rattle.sn_io.specs.ByFoot.{IsPart}
use Rattle.sn_tree.specs.Trees as trees
use Rattle.sn_tree.specs.Trees.{Label, Nodes, running_labels}
use Rattle.sn_world.specs.Pictures.{IsHeld, AreHeld}
use Rattle.sn_world.specs.declared.stage.Held.{Held}
use Rattle.sn_foot.proofs.Runs.{has_append, has_canonical}
use Rattle.sn_graph.specs.declared.nodes.Voice.{Voice}
use Rattle.sn_graph.specs.Voices.{all_reads, all_writes, own_foot, foot_of as foot_of_all}
use Rattle.sn_graph.specs.Plans.{is_listed, synths_with}
use Rattle.sn_play.proofs.Among.{Among, among_parts}

-- ---- the words of running synths

pub with_ids : (ids : List ℤ) (vs : List Voice) (v : Voice) → Among vs v → is_listed ids v.id ≡ true → Among (synths_with ids vs) v
with_ids ids [] v m is = absurd m
with_ids ids (w ∷ ws) v m is = cond_both (is_listed ids w.id) (w ∷ synths_with ids ws) (synths_with ids ws) (λ zs. Among zs v)
    (λ yes. ⊎_elim (λ (e : w ≡ v). inl e) (λ (n : Among ws v). inr (with_ids ids ws v n is)) m)
    (λ no. ⊎_elim (λ (e : w ≡ v). absurd (true≢false (sym (ap (λ (u : Voice). is_listed ids u.id) e ∙ is) ∙ no))) (λ (n : Among ws v). with_ids ids ws v n is) m)

pub in_reads : (vs : List Voice) (v : Voice) (x : ℕ) → Among vs v → has (own_foot v).reads x ≡ true → has (all_reads vs) x ≡ true
in_reads [] v x m h = absurd m
in_reads (w ∷ ws) v x m h = has_append (own_foot w).reads (all_reads ws) x ∙ ⊎_elim
    (λ (e : w ≡ v). or_left (has (own_foot w).reads x) (has (all_reads ws) x) (ap (λ (u : Voice). has (own_foot u).reads x) e ∙ h))
    (λ (n : Among ws v). or_right (has (own_foot w).reads x) (has (all_reads ws) x) (in_reads ws v x n h))
    m

pub in_writes : (vs : List Voice) (v : Voice) (x : ℕ) → Among vs v → has (own_foot v).writes x ≡ true → has (all_writes vs) x ≡ true
in_writes [] v x m h = absurd m
in_writes (w ∷ ws) v x m h = has_append (own_foot w).writes (all_writes ws) x ∙ ⊎_elim
    (λ (e : w ≡ v). or_left (has (own_foot w).writes x) (has (all_writes ws) x) (ap (λ (u : Voice). has (own_foot u).writes x) e ∙ h))
    (λ (n : Among ws v). or_right (has (own_foot w).writes x) (has (all_writes ws) x) (in_writes ws v x n h))
    m

-- the foot of each voice is a part of that of all
pub part_of_all : (vs : List Voice) (lanes : List Moved) (v : Voice) → Among vs v → IsPart (own_foot v) (foot_of_all vs lanes)
part_of_all vs lanes v m =
    let f : Foot = own_foot v in
    let g : Foot = foot_of_all vs lanes in
    let written : (x : ℕ) → has f.writes x ≡ true → has g.writes x ≡ true =
    λ x w. has_canonical (buses_in lanes ++ all_writes vs) x ∙ has_append (buses_in lanes) (all_writes vs) x ∙ or_right (has (buses_in lanes) x) (has (all_writes vs) x) (in_writes vs v x m w) in
    record {
      written = written;
      touched = λ x t. ⊎_elim
          (λ (w : has f.writes x ≡ true). or_left (has g.writes x) (has g.reads x) (written x w))
          (λ (r : has f.reads x ≡ true). or_right (has g.writes x) (has g.reads x)
          (has_canonical (lanes_in lanes ++ all_reads vs) x ∙ has_append (lanes_in lanes) (all_reads vs) x ∙ or_right (has (lanes_in lanes) x) (has (all_reads vs) x) (in_reads vs v x m r)))
          (or_cases (has f.writes x) (has f.reads x) t);
    }

of_reads : (us : List Voice) (x : ℕ) → has (all_reads us) x ≡ true → (v : Voice) × (Among us v × (has (own_foot v).reads x ≡ true))
of_reads [] x h = absurd (true≢false (sym h))
of_reads (u ∷ us) x h = ⊎_elim
    (λ (a : has (own_foot u).reads x ≡ true). (u, (inl refl, a)))
    (λ (b : has (all_reads us) x ≡ true). let r = of_reads us x b in (r.0, (inr r.1.0, r.1.1)))
    (or_cases (has (own_foot u).reads x) (has (all_reads us) x) (sym (has_append (own_foot u).reads (all_reads us) x) ∙ h))

of_writes : (us : List Voice) (x : ℕ) → has (all_writes us) x ≡ true → (v : Voice) × (Among us v × (has (own_foot v).writes x ≡ true))
of_writes [] x h = absurd (true≢false (sym h))
of_writes (u ∷ us) x h = ⊎_elim
    (λ (a : has (own_foot u).writes x ≡ true). (u, (inl refl, a)))
    (λ (b : has (all_writes us) x ≡ true). let r = of_writes us x b in (r.0, (inr r.1.0, r.1.1)))
    (or_cases (has (own_foot u).writes x) (has (all_writes us) x) (sym (has_append (own_foot u).writes (all_writes us) x) ∙ h))

-- each word of the foot of all is one of the foot of some, or of a lane or its bus
pub of_all : (us : List Voice) (lanes : List Moved) (x : ℕ) → touches (foot_of_all us lanes) x ≡ true → ((v : Voice) × (Among us v × (touches (own_foot v) x ≡ true))) ⊎ ((has (lanes_in lanes) x ≡ true) ⊎ (has (buses_in lanes) x ≡ true))
of_all us lanes x t =
    let f : Foot = foot_of_all us lanes in
    ⊎_elim
    (λ (a : has f.writes x ≡ true). ⊎_elim
    (λ (b : has (buses_in lanes) x ≡ true). inr (inr b))
    (λ (w : has (all_writes us) x ≡ true). let r = of_writes us x w in inl (r.0, (r.1.0, or_left (has (own_foot r.0).writes x) (has (own_foot r.0).reads x) r.1.1)))
    (or_cases (has (buses_in lanes) x) (has (all_writes us) x) (sym (has_append (buses_in lanes) (all_writes us) x) ∙ sym (has_canonical (buses_in lanes ++ all_writes us) x) ∙ a)))
    (λ (a : has f.reads x ≡ true). ⊎_elim
    (λ (l : has (lanes_in lanes) x ≡ true). inr (inl l))
    (λ (r : has (all_reads us) x ≡ true). let q = of_reads us x r in inl (q.0, (q.1.0, or_right (has (own_foot q.0).writes x) (has (own_foot q.0).reads x) q.1.1)))
    (or_cases (has (lanes_in lanes) x) (has (all_reads us) x) (sym (has_append (lanes_in lanes) (all_reads us) x) ∙ sym (has_canonical (lanes_in lanes ++ all_reads us) x) ∙ a)))
    (or_cases (has f.writes x) (has f.reads x) t)

-- ---- what nodes that run hold

pub running_held : (rate : ℕ) (region : Extent) (t : Nodes Held) (l : Label Held) → AreHeld rate region t → Among (running_labels t) l → IsHeld rate region l.payload
running_held rate region trees.none l are m = absurd m
running_held rate region (trees.node label below after) l are m =
    cond_both label.running (label ∷ (running_labels below ++ running_labels after)) (running_labels after) (λ ls. Among ls l → IsHeld rate region l.payload)
    (λ on n. ⊎_elim
    (λ (e : label ≡ l). subst (λ (l : Label Held). IsHeld rate region l.payload) e are.0)
    (λ (r : Among (running_labels below ++ running_labels after) l). ⊎_elim
    (λ (p : Among (running_labels below) l). running_held rate region below l are.1.0 p)
    (λ (q : Among (running_labels after) l). running_held rate region after l are.1.1 q)
    (among_parts (running_labels below) (running_labels after) l r))
    n)
    (λ off n. running_held rate region after l are.1.1 n)
    m
