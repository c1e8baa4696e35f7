-- Nodes that run by their ids.
use Rattle.std.proofs.Common.{◌≡◌, inl, inr, ℕ, List, [], ◌∷◌, refl, ap, ◌∙◌}
use Rattle.sn_tree.specs.Trees.{Label}
use Rattle.sn_world.specs.WalkWords.{held_words, walk_words}
use Rattle.sn_world.specs.declared.stage.Held.{Held}
use Rattle.sn_world.specs.declared.stage.Stage.{Stage}
use Rattle.sn_graph.specs.Voices.{ids_of}
use Rattle.sn_play.specs.Named.{held_at, words_by_ids}
use Rattle.sn_play.specs.Synths.{voices_of}
use Rattle.sn_play.proofs.Among.{Among}

module _ (stage : Stage) (b : ℕ) where
  -- synths that are found by their ids run as in the walk
  pub by_their_ids : (ls : List (Label Held)) (ws : List ℕ) → ((l : Label Held) → Among ls l → held_at stage l.id ≡ l.payload) → words_by_ids stage b (ids_of (voices_of stage.buffers ls)) ws ≡ walk_words stage.rate b stage.buffers ls ws
  by_their_ids [] ws h = refl
  by_their_ids (l ∷ ls) ws h =
      ap (λ (k : Held). words_by_ids stage b (ids_of (voices_of stage.buffers ls)) (held_words stage.rate b l.id stage.buffers k ws)) (h l (inl refl))
      ∙ by_their_ids ls (held_words stage.rate b l.id stage.buffers l.payload ws) (λ k m. h k (inr m))
