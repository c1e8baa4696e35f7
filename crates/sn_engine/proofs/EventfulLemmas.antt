-- The synths of which something may come stay if the layout does.
use Rattle.std.proofs.Common.{◌≡◌, ◌==◌, ℕ, ℤ, List, [], ◌∷◌, ◌++◌, map, refl, sym, ap, ◌∙◌}
use Rattle.std.specs.Prelude.{if◌then◌else◌}
use Rattle.sn_tree.specs.Trees.{Label, Nodes, running_labels, with_payloads}
use Rattle.sn_tree.proofs.PayloadLaws.{relabelled}
use Rattle.sn_tree.proofs.Walking.{running-payloads}
use Rattle.sn_world.specs.declared.stage.Held.{Held}
use Rattle.sn_world.specs.declared.stage.Held.TheVariants as held
use Rattle.sn_world.specs.declared.stage.Stage.{Stage}
use Rattle.sn_world.specs.Nodes.{Content, group, synth, content_of}
use Rattle.sn_world.specs.SettleWords.{units_room, walk_room}
use Rattle.sn_world.specs.World.{world_of}
use Rattle.sn_layout.specs.Layout.{Layout, laid, layout_of}
use Rattle.sn_settle.specs.declared.eventful.Eventful.{Eventful}
use Rattle.sn_settle.specs.Eventful.{SynthAt, IsEventfulOf, all_room, eventful_held, eventful_in}
use Rattle.sn_settle.proofs.Events.{whole_room}

-- what is listed of a node, by what is laid of it
abbrev content_room : Content → ℕ
content_room group = 0
content_room (synth s) = units_room s.definition.units

abbrev content_synth : ℤ → Content → List SynthAt
content_synth id group = []
content_synth id (synth s) = record { node = id; definition = s.definition; state = s.extent } ∷ []

abbrev eventful_content : ℤ → Content → List SynthAt
eventful_content id c = if content_room c == 0 then [] else content_synth id c

abbrev eventful_laid : List (Label Content) → List SynthAt
eventful_laid [] = []
eventful_laid (l ∷ ls) = eventful_content l.id l.payload ++ eventful_laid ls

module _ (words : List ℕ) where
  held_laid : (id : ℤ) (h : Held) → eventful_held id h ≡ eventful_content id (laid (content_of words h))
  held_laid id held.Group = refl
  held_laid id (held.Synth def controls state) = refl

  all_laid : (ls : List (Label Held)) → eventful_in ls ≡ eventful_laid (map (relabelled laid) (map (relabelled (content_of words)) ls))
  all_laid [] = refl
  all_laid (l ∷ ls) = λ i. held_laid l.id l.payload i ++ all_laid ls i

  nodes_laid : (t : Nodes Held) → eventful_in (running_labels t) ≡ eventful_laid (running_labels (with_payloads laid (with_payloads (content_of words) t)))
  nodes_laid t =
      all_laid (running_labels t)
      ∙ ap (λ (ls : List (Label Content)). eventful_laid (map (relabelled laid) ls)) (sym (running-payloads (content_of words) t))
      ∙ ap eventful_laid (sym (running-payloads laid (with_payloads (content_of words) t)))

module _ (old new : Stage) (us vs : List ℕ) (same : layout_of (world_of new vs) ≡ layout_of (world_of old us)) where
  eventful_alike : eventful_in (running_labels old.tree.attached) ≡ eventful_in (running_labels new.tree.attached)
  eventful_alike = nodes_laid us old.tree.attached ∙ ap (λ (l : Layout). eventful_laid (running_labels l.nodes)) (sym same) ∙ sym (nodes_laid vs new.tree.attached)

  pub eventful_stays : (eventful : Eventful) → IsEventfulOf old eventful → IsEventfulOf new eventful
  eventful_stays eventful h = record {
    synths_are = h.synths_are ∙ eventful_alike;
    room_is = h.room_is ∙ sym (whole_room (running_labels old.tree.attached)) ∙ ap all_room eventful_alike ∙ whole_room (running_labels new.tree.attached);
    few = h.few;
  }
