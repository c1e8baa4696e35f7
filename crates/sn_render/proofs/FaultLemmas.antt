-- Steps in which nothing failed.
use Rattle.std.proofs.Common.{◌≡◌, ◌∙◌, ℕ, Result, Ok, Err, refl, sym, subst}
use Rattle.std.specs.Result.{IsErrAnd}
use Rattle.sn_render.specs.declared.rendering.Stop.{Stop}
use Rattle.sn_render.specs.declared.rendering.Stop.TheVariants.{NoMemory, SoundFault, ReplyFault}
use Rattle.sn_render.specs.Faults.{NothingFailed, NoneElseFailed}

-- nothing failed in two steps
pub none_failed : (a b c d e f : ℕ) → NothingFailed a b d e → NothingFailed b c e f → NothingFailed a c d f
none_failed a b c d e f one other = (other.0 ∙ one.0, other.1 ∙ one.1)

-- nothing failed in a step, and in the next one at most the sink whose fault is the answer
pub none_else_after : (r : Result (Unit {0}) Stop) (a b c d e f : ℕ) → NothingFailed a b d e → NoneElseFailed r b c e f → NoneElseFailed r a c d f
none_else_after (Ok x) a b c d e f one other = none_failed a b c d e f one other
none_else_after (Err NoMemory) a b c d e f one other = none_failed a b c d e f one other
none_else_after (Err SoundFault) a b c d e f one other = other ∙ one.1
none_else_after (Err ReplyFault) a b c d e f one other = other ∙ one.0

-- what is said of a step that stopped is said of the answer that hands this on
pub none_else_err : (r : Result (Unit {0}) Stop) (e : Stop) (a b c d : ℕ) → IsErrAnd r (λ k. k ≡ e) → NoneElseFailed (Err e) a b c d → NoneElseFailed r a b c d
none_else_err (Ok x) e a b c d is said = absurd is
none_else_err (Err k) e a b c d is said = subst (λ (x : Stop). NoneElseFailed (Err x) a b c d) (sym is) said

abbrev stopped : Stop → Result (Unit {0}) Stop
stopped e = Err e

-- a step that writes sound stopped
pub sound_alone : (e : Stop) (a b c d : ℕ) → (stopped e ≡ stopped NoMemory → ⊥) → (stopped e ≡ stopped ReplyFault → ⊥) → d ≡ c → NoneElseFailed (Err e) a b c d
sound_alone NoMemory a b c d memory reply still = absurd (memory refl)
sound_alone SoundFault a b c d memory reply still = still
sound_alone ReplyFault a b c d memory reply still = absurd (reply refl)

-- a step that writes replies stopped
pub replies_alone : (e : Stop) (a b c d : ℕ) → (stopped e ≡ stopped NoMemory → ⊥) → (stopped e ≡ stopped SoundFault → ⊥) → b ≡ a → NoneElseFailed (Err e) a b c d
replies_alone NoMemory a b c d memory sound still = absurd (memory refl)
replies_alone SoundFault a b c d memory sound still = absurd (sound refl)
replies_alone ReplyFault a b c d memory sound still = still
