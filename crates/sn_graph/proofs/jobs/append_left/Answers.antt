use Rattle.std.proofs.Common.{◌*◌, ◌&&◌, ◌∷◌, ◌++◌, ◌∙◌, ℕ, Bool, List, [], map, ap, sym, append-nil}
use Rattle.std.specs.Prelude.{not}
use Rattle.std.specs.List.{filter}
use Rattle.sn_mem.specs.declared.extents.Extent.{Extent}
use Rattle.sn_mem.specs.Layout.{audio_place}
use Rattle.sn_mem.specs.Words.{has}
use Rattle.sn_mem.proofs.Tables.{table_none}
use Rattle.sn_graph.specs.Voices.{is_moved}
use Rattle.sn_graph.proofs.Laying.{places_fail, places_pass}
use Rattle.sn_graph.proofs.jobs.append_left.Goals as goal
use Rattle.sn_graph.proofs.jobs.append_left.Goals.{then-is_left+in_ok-push, else-is_left}

pub loop-bus-init : goal.loop-bus-init
loop-bus-init c =
    let left : ℕ → Bool = λ n. has c.args.voice.now.reach.mixes (65 * n) && not (is_moved c.args.voice.now.moves n) in
    let old : List Extent = c.args.extents.now.items in
    sym (append-nil old) ∙ ap (λ (ks : List ℕ). old ++ map audio_place (filter left ks)) (sym (table_none (λ (k : ℕ). k)))

pub loop-bus-preserved : goal.loop-bus-preserved
loop-bus-preserved c =
    let left : ℕ → Bool = λ n. has c.args.voice.now.reach.mixes (65 * n) && not (is_moved c.args.voice.now.moves n) in
    let n : ℕ = c.loop-bus.bus in
    let old : List Extent = c.args.extents.now.items in
    let before : List Extent = c.loop-bus.extents.items in
    elim c.if-is_left.branch [
      | then-is_left+in_ok-push w ↦ places_pass left n old before c.if-is_left.extents.items c.loop-bus.invariant (sym c.is_left.ensures ∙ w.if-is_left.true)
          (ap (λ v. v.items) w.extents-is ∙ w.in_ok-push.ensures.items ∙ ap (λ (e : Extent). before ++ e ∷ []) w.audio.ensures)
      | else-is_left w ↦ ap (λ v. v.items) w.extents-is ∙ places_fail left n old before c.loop-bus.invariant (sym c.is_left.ensures ∙ w.if-is_left.false)
    ]
