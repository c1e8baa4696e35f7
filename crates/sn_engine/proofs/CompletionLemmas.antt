-- Completion messages act one after another, until none is left.
use Rattle.std.proofs.Common.{◌≡◌, ◌<◌, ◌+◌, ◌-◌, ℕ, zero, suc, Bool, true, false, List, [], Option, Some, None, Result, Ok, Err, refl, sym, ap, subst, ◌∙◌, arith}
use Rattle.std.specs.Prelude.{is_none, if◌then◌else◌}
use Rattle.sn_osc.specs.Shape.{Argument, BodyShape, bare, arguments, foreign, MessageShape}
use Rattle.sn_osc.specs.Reading.{read}
use Rattle.sn_reply.specs.declared.reason.Reason.{Reason}
use Rattle.sn_world.specs.declared.command.ServerCommand.{ServerCommand}
use Rattle.sn_world.specs.declared.command.Handled.{Handled}
use Rattle.sn_world.specs.declared.command.Handled.TheVariants as answers
use Rattle.sn_world.specs.World.{Turn}
use Rattle.sn_world.specs.Ending.{Next, nothing, quitting, clearing, completing, is_completing}
use Rattle.sn_world.specs.Completing.{carried, own, one_message, message_in}
use Rattle.sn_world.specs.Addresses.{server_command_of}
use Rattle.sn_world.specs.Commands.{server_row, server_outcome, completion_in, completion_of, each_within, depth_within, acceptable, with_completion, carrying_row, handled_as, ending_of, next_with, next_of, next_in, next_after, run_node}
use Rattle.sn_engine.specs.Boundary.{Acted, acted, completed, all_completed, act_message}

-- ---- one after another

pub one_completed : (k from : ℕ) (a b whole : Acted) → k < 8 → b ≡ completed from a.next a.turn → all_completed (8 - k) from a ≡ whole → all_completed (8 - (k + 1)) from b ≡ whole
unfolding all_completed
one_completed k from a b whole lt is so_far =
    let n : ℕ = 8 - (k + 1) in
    let one : 8 - k ≡ suc n = omega (arith, lt) in
    let step : all_completed (suc n) from a ≡ all_completed n from (completed from a.next a.turn) = refl in
    ap (all_completed n from) is ∙ sym step ∙ ap (λ (j : ℕ). all_completed j from a) (sym one) ∙ so_far

pub all_done : (k from : ℕ) (a whole : Acted) → k ≡ 8 → all_completed (8 - k) from a ≡ whole → a ≡ whole
unfolding all_completed
all_done k from a whole last so_far =
    let none : 8 - k ≡ 0 = omega (arith, last) in
    let step : all_completed 0 from a ≡ a = refl in
    sym step ∙ ap (λ (j : ℕ). all_completed j from a) (sym none) ∙ so_far

not_completed : (from : ℕ) (n : Next) (t : Turn) → is_completing n ≡ false → completed from n t ≡ record { turn = t; next = n }
not_completed from nothing t none = refl
not_completed from quitting t none = refl
not_completed from clearing t none = refl
not_completed from (completing m) t none = absurd cc

-- if none is carried, no more is done
pub none_carried : (n from : ℕ) (a : Acted) → is_completing a.next ≡ false → all_completed n from a ≡ a
unfolding all_completed
none_carried zero from a none = refl
none_carried (suc n) from a none = ap (all_completed n from) (not_completed from a.next a.turn none) ∙ none_carried n from a none

-- ---- none is left

-- what is done besides, if a command carries none, is no completion
ends : (h : Handled) (c : MessageShape) → ending_of h ≡ completing c → ⊥
ends answers.Done c e = absurd cc
ends (answers.Completion m) c e = absurd cc
ends answers.Quit c e = absurd cc
ends answers.ClearSched c e = absurd cc
ends (answers.Failed reason) c e = absurd cc
ends answers.NotMine c e = absurd cc

-- A completion message that acts next is the one that was carried, and in it they nest at most 7 deep.
record IsCarried (o : Option MessageShape) (c : MessageShape) : Type 0 where
  is : o ≡ Some c
  deep : depth_within 7 c ≡ true

accepted_next : (m c : MessageShape) (r : Result Turn Reason) → depth_within 7 m ≡ true → next_in None (Some r) (completing m) ≡ completing c → IsCarried (Some m) c
accepted_next m c (Err reason) deep e = absurd cc
accepted_next m c (Ok t) deep e =
    let same : m ≡ c = cc in
    record { is = ap Some same; deep = subst (λ (x : MessageShape). depth_within 7 x ≡ true) same deep }

by_message : (command : ServerCommand) (o : Option MessageShape) (r : Result Turn Reason) (c : MessageShape)
    → next_in None (Some (with_completion (acceptable o) r)) (next_with command o) ≡ completing c → IsCarried o c
by_message command None r c e = absurd cc
by_message command (Some m) r c e = at (depth_within 7 m) refl e
  where
    at : (b : Bool) → depth_within 7 m ≡ b → next_in None (Some (with_completion (if b then Some m else None) r)) (completing m) ≡ completing c → IsCarried (Some m) c
    at true deep e = accepted_next m c r deep e
    at false deep e = absurd cc

by_blob : (command : ServerCommand) (o : Option (List ℕ)) (from : ℕ) (xs : List Argument) (t : Turn) (c : MessageShape)
    → next_in None (Some (carrying_row command o from xs t)) (next_with command (message_in o)) ≡ completing c → IsCarried (message_in o) c
by_blob command None from xs t c e = at (server_row command from xs t) e
  where
    at : (r : Result Turn Reason) → next_in None (Some r) (ending_of (handled_as command)) ≡ completing c → IsCarried None c
    at (Ok after) e = absurd (ends (handled_as command) c e)
    at (Err reason) e = absurd cc
by_blob command (Some b) from xs t c e = by_message command (one_message (read b)) (server_row command from (own xs) t) c e

by_outcome : (by_node : Option (Result Turn Reason)) (asked : Option ServerCommand) (from : ℕ) (body : BodyShape) (t : Turn) (c : MessageShape)
    → next_in by_node (server_outcome asked from body t) (next_of asked body) ≡ completing c → IsCarried (completion_in asked body) c
by_outcome (Some r) asked from body t c e = absurd cc
by_outcome None None from body t c e = absurd cc
by_outcome None (Some command) from bare t c e = by_blob command (carried command []) from [] t c e
by_outcome None (Some command) from (arguments xs) t c e = by_blob command (carried command xs) from xs t c e
by_outcome None (Some command) from (foreign tags rest) t c e = absurd cc

carried_next : (from : ℕ) (m : MessageShape) (t : Turn) (c : MessageShape) → next_after from m t ≡ completing c → IsCarried (completion_of m) c
carried_next from m t c e = by_outcome (run_node from m t) (server_command_of m.address) from m.body t c e

-- In what is done next completion messages nest at most so deep.
abbrev FitsNext : ℕ → Next → Type 0
FitsNext deep nothing = Unit {0}
FitsNext deep quitting = Unit {0}
FitsNext deep clearing = Unit {0}
FitsNext deep (completing m) = depth_within deep m ≡ true

first_fits : (from : ℕ) (m : MessageShape) (t : Turn) (n : Next) → next_after from m t ≡ n → FitsNext 7 n
first_fits from m t nothing e = tt
first_fits from m t quitting e = tt
first_fits from m t clearing e = tt
first_fits from m t (completing c) e = (carried_next from m t c e).deep

next_fits : (deep from : ℕ) (m : MessageShape) (t : Turn) (n : Next) → depth_within (suc deep) m ≡ true → next_after from m t ≡ n → FitsNext deep n
unfolding depth_within
next_fits deep from m t nothing fits e = tt
next_fits deep from m t quitting fits e = tt
next_fits deep from m t clearing fits e = tt
next_fits deep from m t (completing c) fits e = sym (ap (each_within (depth_within deep)) (carried_next from m t c e).is) ∙ fits

fits_less : (deep from : ℕ) (n : Next) (t : Turn) → FitsNext (suc deep) n → FitsNext deep (completed from n t).next
fits_less deep from nothing t fits = tt
fits_less deep from quitting t fits = tt
fits_less deep from clearing t fits = tt
fits_less deep from (completing m) t fits = next_fits deep from m t (next_after from m t) fits refl

none_next : (from : ℕ) (m : MessageShape) (t : Turn) (n : Next) → depth_within 0 m ≡ true → next_after from m t ≡ n → is_completing n ≡ false
unfolding depth_within
none_next from m t nothing fits e = refl
none_next from m t quitting fits e = refl
none_next from m t clearing fits e = refl
none_next from m t (completing c) fits e = let none : false ≡ true = sym (ap is_none (carried_next from m t c e).is) ∙ fits in absurd cc

none_more : (from : ℕ) (n : Next) (t : Turn) → FitsNext 0 n → is_completing (completed from n t).next ≡ false
none_more from nothing t fits = refl
none_more from quitting t fits = refl
none_more from clearing t fits = refl
none_more from (completing m) t fits = none_next from m t (next_after from m t) fits refl

all_acted : (deep from : ℕ) (a : Acted) → FitsNext deep a.next → is_completing (all_completed (suc deep) from a).next ≡ false
unfolding all_completed
all_acted zero from a fits = none_more from a.next a.turn fits
all_acted (suc deep) from a fits = all_acted deep from (completed from a.next a.turn) (fits_less deep from a.next a.turn fits)

pub none_left : (from : ℕ) (m : MessageShape) (t : Turn) → is_completing (act_message from m t).next ≡ false
none_left from m t = all_acted 7 from (acted from m t) (first_fits from m t (next_after from m t) refl)
