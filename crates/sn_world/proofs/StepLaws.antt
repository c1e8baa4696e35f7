-- Repetitions that may all be judged before any acts.
use Rattle.std.proofs.Common.{◌≡◌, List, [], ◌∷◌, Option, Some, None, Result, Ok, refl, ap, ◌∙◌}
use Rattle.sn_reply.specs.declared.reason.Reason.{Reason}
use Rattle.sn_world.specs.Rows.{or_else}
use Rattle.sn_world.specs.World.{World, Turn}
use Rattle.sn_world.specs.Rows.{unless, steps, first_refusal, act_all}

pub unless-unless : {A : Type 0} (o p : Option Reason) (r : Result A Reason) → unless o (unless p r) ≡ unless (or_else o p) r
unless-unless None p r = refl
unless-unless (Some x) p r = refl

same_refusal : {R : Type 0} (j k : R → Option Reason) (rs : List R) → ((r : R) → j r ≡ k r) → first_refusal j rs ≡ first_refusal k rs
same_refusal j k [] same = refl
same_refusal j k (r ∷ rs) same = ap (λ o. or_else o (first_refusal j rs)) (same r) ∙ ap (or_else (k r)) (same_refusal j k rs same)

-- if no repetition changes what is against another, all may be judged first
pub steps-judged_first : {R : Type 0} (judge : World → R → Option Reason) (act : R → Turn → Turn) → ((r r' : R) (t : Turn) → judge (act r t).world r' ≡ judge t.world r') → (rs : List R) (t : Turn)
    → steps judge act rs t ≡ unless (first_refusal (judge t.world) rs) (Ok (act_all act rs t))
steps-judged_first judge act keeps [] t = refl
steps-judged_first judge act keeps (r ∷ rs) t =
    ap (unless (judge t.world r)) (steps-judged_first judge act keeps rs (act r t) ∙ ap (λ o. unless o (Ok (act_all act rs (act r t)))) (same_refusal (judge (act r t).world) (judge t.world) rs (λ r'. keeps r r' t)))
    ∙ unless-unless (judge t.world r) (first_refusal (judge t.world) rs) (Ok (act_all act rs (act r t)))

-- A reason that is against each repetition may be asked for once, before all of them.
pub unless-each : {R A : Type 0} (o : Option Reason) (judge : R → Option Reason) (r : R) (rs : List R) (x : Result A Reason)
    → unless (first_refusal (λ s. or_else o (judge s)) (r ∷ rs)) x ≡ unless (or_else o (first_refusal judge (r ∷ rs))) x
unless-each None judge r rs x = refl
unless-each (Some reason) judge r rs x = refl
