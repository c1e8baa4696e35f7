-- Entries that are offered one after another.
use Rattle.std.proofs.Common.{◌≡◌, ◌+◌, ℕ, Bool, true, false, List, [], ◌∷◌, ◌++◌, refl, ap, sym, ◌∙◌}
use Rattle.std.specs.Prelude.{if◌then◌else◌, Result, Ok, Err, OnErr}
use Rattle.sn_queue.specs.Steps.{put}
use Rattle.sn_queue.specs.Waiting.{WaitingList}
use Rattle.sn_reply.specs.Replies.{ReplyShape}
use Rattle.sn_engine.specs.Entries.{Timed}
use Rattle.sn_engine.specs.Arriving.{Offered, nothing_offered, is_full, refusal_of, offer_entry, offer_entries, IsPartlyOffered}

pub one_more : (b from : ℕ) (es : List Timed) (e : Timed) (o : Offered) → offer_entries b from (es ++ e ∷ []) o ≡ offer_entry b from e (offer_entries b from es o)
one_more b from [] e o = refl
one_more b from (x ∷ es) e o = one_more b from es e (offer_entry b from x o)

-- what waits doesn't depend on what was said before
abbrev step : ℕ → ℕ → Timed → WaitingList → WaitingList
step b from e q = if is_full q then q else put q e.tag b from e.messages

stepped : (b from : ℕ) (e : Timed) (o : Offered) → (offer_entry b from e o).waiting ≡ step b from e o.waiting
stepped b from e o = at (is_full o.waiting)
  where
    at : (c : Bool) → (if c then record o { replies = o.replies ++ refusal_of from e ∷ []; refused = o.refused + 1 } else record o { waiting = put o.waiting e.tag b from e.messages }).waiting
        ≡ (if c then o.waiting else put o.waiting e.tag b from e.messages)
    at true = refl
    at false = refl

same_waiting : (b from : ℕ) (es : List Timed) (o p : Offered) → o.waiting ≡ p.waiting → (offer_entries b from es o).waiting ≡ (offer_entries b from es p).waiting
same_waiting b from [] o p same = same
same_waiting b from (e ∷ es) o p same = same_waiting b from es (offer_entry b from e o) (offer_entry b from e p) (stepped b from e o ∙ ap (step b from e) same ∙ sym (stepped b from e p))

pub partly : (b from : ℕ) (all front rest : List Timed) (old new q : WaitingList) (replies said : List ReplyShape) (k : ℕ) → all ≡ front ++ rest
    → offer_entries b from front (record { waiting = old; replies = replies; refused = 0 }) ≡ record { waiting = q; replies = said; refused = k } → new ≡ q → IsPartlyOffered b from all old new
partly b from all front rest old new q replies said k parts offered is = record {
  front = front;
  rest = rest;
  parts = parts;
  waiting = is ∙ sym (ap (λ (o : Offered). o.waiting) offered) ∙ same_waiting b from front (record { waiting = old; replies = replies; refused = 0 }) (nothing_offered old) refl;
}

pub on_err : {T E : Type 0} {A : Type 0} (r : Result T E) → A → OnErr r A
on_err (Ok x) a = tt
on_err (Err e) a = a
