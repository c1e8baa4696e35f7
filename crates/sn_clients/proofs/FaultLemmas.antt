-- What is counted of faults, from answer to answer.
use Rattle.std.proofs.Common.{◌≡◌, ◌∙◌, ◌⊎◌, ℕ, Result, Ok, Err, IsErrAnd, inl, inr, refl, subst, sym}
use Rattle.std.specs.Prelude.{IfErr}
use Rattle.sn_clients.specs.declared.clients.ClientEnd.{ClientEnd}
use Rattle.sn_clients.specs.declared.clients.ClientEnd.TheVariants as client_ends
use Rattle.sn_clients.specs.declared.playing.Halt.{Halt}
use Rattle.sn_clients.specs.declared.playing.Halt.TheVariants as halts
use Rattle.sn_clients.specs.Looping.{Counted, CountedAt}

-- ---- of the sink for the sound

-- an end that is told of another answer
pub counted_so : {X : Type 0} (r : Result X Halt) (halt : Halt) (before now : ℕ) → IsErrAnd r (λ h. h ≡ halt) → CountedAt halt before now → Counted r before now
counted_so (Ok x) halt before now is h = absurd is
counted_so (Err e) halt before now is h = subst (λ (k : Halt). CountedAt k before now) (sym is) h

-- an end that is no fault of it
pub counted_none : (halt : Halt) (before now : ℕ) → (halt ≡ halts.SoundFault → ⊥) → now ≡ before → CountedAt halt before now
counted_none halts.Quit before now other same = same
counted_none halts.NoMemory before now other same = same
counted_none halts.SoundFault before now other same = absurd (other refl)
counted_none halts.TurnsFull before now other same = same

-- an answer that tells of none
pub counted_not : {X : Type 0} (r : Result X Halt) (before now : ℕ) → (r ≡ Err halts.SoundFault → ⊥) → now ≡ before → Counted r before now
counted_not (Ok x) before now other same = same
counted_not (Err halts.Quit) before now other same = same
counted_not (Err halts.NoMemory) before now other same = same
counted_not (Err halts.SoundFault) before now other same = absurd (other refl)
counted_not (Err halts.TurnsFull) before now other same = same

-- ---- of a client's source

-- its count stays, whatever the answer
pub stays_at : (r : Result (Unit {0}) ClientEnd) (P : Type 0) → P → IfErr r (λ end. (end ≡ client_ends.ReadFault) ⊎ P)
stays_at (Ok x) P p = tt
stays_at (Err e) P p = inr p

-- an end that is told of another answer
pub stays_so : (r : Result (Unit {0}) ClientEnd) (end : ClientEnd) (P : Type 0) → IsErrAnd r (λ e. e ≡ end) → (end ≡ client_ends.ReadFault) ⊎ P → IfErr r (λ e. (e ≡ client_ends.ReadFault) ⊎ P)
stays_so (Ok x) end P is h = absurd is
stays_so (Err e) end P is (inl fault) = inl (is ∙ fault)
stays_so (Err e) end P is (inr p) = inr p

-- from a count before
pub stays_from : (end : ClientEnd) (first before now : ℕ) → before ≡ first → (end ≡ client_ends.ReadFault) ⊎ (now ≡ before) → (end ≡ client_ends.ReadFault) ⊎ (now ≡ first)
stays_from end first before now same (inl fault) = inl fault
stays_from end first before now same (inr stays) = inr (stays ∙ same)
