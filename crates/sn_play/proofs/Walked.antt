-- The running synths of a plan are those of the walk, and groups change no word.
use Rattle.std.proofs.Common.{◌≡◌, ℕ, Bool, true, false, List, [], ◌∷◌, ◌++◌, ℤ, Option, sym, refl, ap, subst, ◌∙◌, true≢false, if◌then◌else◌}
use Rattle.std.proofs.lemmas.Bool.{cond_both}
use Rattle.std.proofs.lemmas.List.{map-append}
use Rattle.std.proofs.lemmas.List.Elements.{filter-append}
use Rattle.sn_mem.specs.declared.buffers.BufferPlace.{BufferPlace}
use Rattle.sn_tree.specs.declared.node.NodeKind.{NodeKind}
use Rattle.sn_tree.specs.declared.node.NodeKind.TheVariants as kinds
use Rattle.sn_tree.specs.Trees as trees
use Rattle.sn_tree.specs.Trees.{Label, Nodes, running_labels}
use Rattle.sn_world.specs.WalkWords.{held_words, walk_words}
use Rattle.sn_world.specs.declared.stage.Held.{Held}
use Rattle.sn_world.specs.declared.stage.Held.TheVariants as held
use Rattle.sn_graph.specs.declared.nodes.Voice.{Voice}
use Rattle.sn_graph.specs.Voices.{HeardNodes, voices}
use Rattle.sn_graph.specs.Stages.{may_split, voice_of, with_group, with_node, running_of}
use Rattle.sn_graph.proofs.Hearing.{voices_group}
use Rattle.sn_world.specs.Pictures.{has_synth, KindAgrees}
use Rattle.sn_play.specs.Synths.{voices_of, synths_in}

-- ---- groups

idle : (rate b : ℕ) (id : ℤ) (buffers : List (Option BufferPlace)) (h : Held) (ws : List ℕ) → has_synth h ≡ false → held_words rate b id buffers h ws ≡ ws
idle rate b id buffers held.Group ws e = refl
idle rate b id buffers (held.Synth def controls state) ws e = absurd (true≢false e)

pub synths_walk : (rate b : ℕ) (buffers : List (Option BufferPlace)) (ls : List (Label Held)) (ws : List ℕ) → walk_words rate b buffers (synths_in ls) ws ≡ walk_words rate b buffers ls ws
synths_walk rate b buffers [] ws = refl
synths_walk rate b buffers (l ∷ ls) ws =
    cond_both (has_synth l.payload) (l ∷ synths_in ls) (synths_in ls) (λ ks. walk_words rate b buffers ks ws ≡ walk_words rate b buffers (l ∷ ls) ws)
    (λ is. synths_walk rate b buffers ls (held_words rate b l.id buffers l.payload ws))
    (λ off. synths_walk rate b buffers ls ws ∙ ap (walk_words rate b buffers ls) (sym (idle rate b l.id buffers l.payload ws off)))

-- ---- voices

-- the kind of each node agrees with what it holds
abbrev pub KindsAgree : Nodes Held → Type 0
KindsAgree trees.none = Unit {0}
KindsAgree (trees.node label below after) = KindAgrees label.kind label.payload below × (KindsAgree below × KindsAgree after)

with_synth : (l : Label Held) (ls : List (Label Held)) → has_synth l.payload ≡ true → synths_in (l ∷ ls) ≡ l ∷ synths_in ls
with_synth l ls is = cond_both (has_synth l.payload) (l ∷ synths_in ls) (synths_in ls) (λ ks. ks ≡ l ∷ synths_in ls) (λ e. refl) (λ off. absurd (true≢false (sym is ∙ off)))

without : (l : Label Held) (ls : List (Label Held)) → has_synth l.payload ≡ false → synths_in (l ∷ ls) ≡ synths_in ls
without l ls off = cond_both (has_synth l.payload) (l ∷ synths_in ls) (synths_in ls) (λ ks. ks ≡ synths_in ls) (λ is. absurd (true≢false (sym is ∙ off))) (λ e. refl)

module _ (buffers : List (Option BufferPlace)) (clashing : List ℤ) where
  both : (xs ys : List (Label Held)) → voices_of buffers (synths_in xs) ++ voices_of buffers (synths_in ys) ≡ voices_of buffers (synths_in (xs ++ ys))
  both xs ys =
      sym (map-append (λ (l : Label Held). voice_of buffers l.id l.payload) (synths_in xs) (synths_in ys))
      ∙ ap (voices_of buffers) (sym (filter-append (λ (l : Label Held). has_synth l.payload) xs ys))

  inner : (flag : Bool) (label : Label Held) (b a : HeardNodes) (xs ys : List (Label Held)) → has_synth label.payload ≡ false → voices b ≡ voices_of buffers (synths_in xs) → voices a ≡ voices_of buffers (synths_in ys) → voices (with_group flag b a) ≡ voices_of buffers (synths_in (label ∷ (xs ++ ys)))
  inner flag label b a xs ys off e f =
      voices_group flag b a ∙ ap (λ vs. vs ++ voices a) e ∙ (ap (λ vs. voices_of buffers (synths_in xs) ++ vs) f ∙ (both xs ys ∙ ap (voices_of buffers) (sym (without label (xs ++ ys) off))))

  of_node : (kind : NodeKind) (label : Label Held) (below after : Nodes Held) (b a : HeardNodes) → KindAgrees kind label.payload below → voices b ≡ voices_of buffers (synths_in (running_labels below)) → voices a ≡ voices_of buffers (synths_in (running_labels after))
      → voices (with_node buffers clashing kind label b a) ≡ voices_of buffers (synths_in (label ∷ (running_labels below ++ running_labels after)))
  of_node kinds.Synth label below after b a is e f =
      let v : Voice = voice_of buffers label.id label.payload in
      let ys : List (Label Held) = running_labels after in
      let last : v ∷ voices_of buffers (synths_in ys) ≡ voices_of buffers (synths_in (label ∷ ys)) = ap (voices_of buffers) (sym (with_synth label ys is.0)) in
      let P : Nodes Held → Type 0 = λ (below : Nodes Held). v ∷ voices a ≡ voices_of buffers (synths_in (label ∷ (running_labels below ++ ys))) in
      subst P (sym is.1) (ap (λ (vs : List Voice). v ∷ vs) f ∙ last)
  of_node kinds.Group label below after b a is e f = inner false label b a (running_labels below) (running_labels after) is e f
  of_node kinds.Parallel label below after b a is e f = inner (may_split clashing label.id) label b a (running_labels below) (running_labels after) is e f

  of_if : (run : Bool) (x y : HeardNodes) (xs ys : List (Label Held)) → voices x ≡ voices_of buffers (synths_in xs) → voices y ≡ voices_of buffers (synths_in ys) → voices (if run then x else y) ≡ voices_of buffers (synths_in (if run then xs else ys))
  of_if true x y xs ys e f = e
  of_if false x y xs ys e f = f

  pub voices_are : (t : Nodes Held) → KindsAgree t → voices (running_of buffers clashing t) ≡ voices_of buffers (synths_in (running_labels t))
  voices_are trees.none are = refl
  voices_are (trees.node label below after) are =
      of_if label.running (with_node buffers clashing label.kind label (running_of buffers clashing below) (running_of buffers clashing after)) (running_of buffers clashing after) (label ∷ (running_labels below ++ running_labels after)) (running_labels after)
      (of_node label.kind label below after (running_of buffers clashing below) (running_of buffers clashing after) are.0 (voices_are below are.1.0) (voices_are after are.1.1))
      (voices_are after are.1.1)
