-- A boundary at which no entry is due: nothing acts, and if the clashes still hold, none is told.
use Rattle.std.proofs.Common.{◌≡◌, ℕ, Bool, true, false, cond, ◌||◌, List, [], ◌∷◌, ◌++◌, Some, None, refl, sym, ap, ◌∙◌}
use Rattle.std.specs.List.{list_any}
use Rattle.std.specs.Prelude.{if◌then◌else◌}
use Rattle.sn_queue.specs.Waiting.{Waiting, WaitingList}
use Rattle.sn_queue.specs.Steps.{is_due, first}
use Rattle.sn_reply.specs.Replies.{ReplyShape}
use Rattle.sn_world.specs.World.{World, Turn}
use Rattle.sn_clash.specs.declared.clash.Clash.{Clash}
use Rattle.sn_clash.specs.Clashing.{clashes_of}
use Rattle.sn_engine.specs.Clashing.{told_clashes}
use Rattle.sn_engine.specs.Boundary.{act_entries, entries_ask, due_at, later_than, unsaid, turn_at, waiting_at, clashes_at, replies_at, quits_at}
use Rattle.sn_engine.proofs.DueLemmas.{none_filtered, all_others}
use Rattle.sn_engine.proofs.ToldLemmas.{none_told}

no_first : {X : Type 0} (test : X → Bool) (xs : List X) → list_any test xs ≡ false → first test xs ≡ None
no_first test [] e = refl
no_first test (y ∷ ys) e = at (test y) (λ e. no_first test ys e) e
  where
    at : (b : Bool) → (list_any test ys ≡ false → first test ys ≡ None) → (b || list_any test ys) ≡ false → cond b (Some y) (first test ys) ≡ None
    at true ih e = absurd cc
    at false ih e = ih e

abbrev with_waiting : WaitingList → List Waiting → WaitingList
with_waiting q ws = record q { waiting = ws }

-- it was asked whether one is due, and none is
module _ (b : ℕ) (q : WaitingList) (asked : Bool) (is : asked ≡ list_any (is_due q b) q.waiting) (not : asked ≡ false) (w : World) where
  no_first_due : first (is_due q b) q.waiting ≡ None
  no_first_due = no_first (is_due q b) q.waiting (sym is ∙ not)

  none_due : due_at b q ≡ []
  none_due = none_filtered (is_due q b) q.waiting no_first_due

  all_later : later_than b q ≡ q.waiting
  all_later = all_others (is_due q b) q.waiting no_first_due

  pub same_turn : unsaid w ≡ turn_at b q w
  same_turn = sym (ap (λ (ws : List Waiting). act_entries ws (unsaid w)) none_due)

  pub same_world : w ≡ (turn_at b q w).world
  same_world = ap (λ (t : Turn). t.world) same_turn

  pub goes_on : false ≡ quits_at b q w
  goes_on = sym (ap (λ (ws : List Waiting). (entries_ask ws (unsaid w)).quit) none_due)

  pub all_wait : q ≡ waiting_at b q w
  all_wait =
      ap (with_waiting q) (sym all_later)
      ∙ sym (ap (λ (ws : List Waiting). with_waiting q (if (entries_ask ws (unsaid w)).clear then [] else later_than b q)) none_due)

  module _ (clashes : List Clash) (hold : clashes ≡ clashes_of w) where
    pub same_clashes : clashes ≡ clashes_at b q w
    same_clashes = hold ∙ ap (λ (t : Turn). clashes_of t.world) same_turn

    pub nothing_said : (said : List ReplyShape) → said ≡ [] → said ≡ replies_at b q clashes w
    nothing_said said silent =
        silent
        ∙ sym (none_told clashes)
        ∙ ap (told_clashes clashes) same_clashes
        ∙ ap (λ (t : Turn). t.replies ++ told_clashes clashes (clashes_at b q w)) same_turn
