-- Commands on samples: how they are read, and what is judged of them.
use Rattle.std.proofs.Common.{◌≡◌, ◌<◌, ℕ, zero, suc, ℤ, List, [], ◌∷◌, ◌++◌, length, drop, get_or, Option, Some, None, Result, Ok, Err, refl, ap, sym, ◌∙◌, arith}
use Rattle.sn_osc.specs.Shape.{Argument}
use Rattle.sn_mem.specs.declared.buffers.BufferPlace.{BufferPlace}
use Rattle.sn_reply.specs.declared.reason.Reason.{Reason}
use Rattle.sn_reply.specs.declared.reason.Reason.TheVariants as Reasons
use Rattle.sn_reply.specs.declared.replies.To.TheVariants.{Client}
use Rattle.sn_reply.specs.Replies.{ReplyShape}
use Rattle.sn_world.specs.declared.stage.Stage.{Stage}
use Rattle.sn_mem.specs.Buffers.{samples_of, buffers_of}
use Rattle.sn_world.specs.BufferNumbers.{at_number, buffer_refusal, with_samples}
use Rattle.sn_world.specs.BufferSamples.{with_asked, of_buffer, size_of, samples_in, change_all, changing, answers, answered_with, asking}
use Rattle.sn_world.specs.Runs.{number}
use Rattle.sn_world.specs.Pictures.{Pictures}
use Rattle.sn_world.specs.Rows.{or_else, unless, first_refusal, some_of}
use Rattle.sn_world.specs.World.{World, Turn, world_of, turn_of, replied}
use Rattle.sn_buscmd.specs.Samples.{KeepsAround}
use Rattle.sn_buscmd.specs.SampleCommands.{asked, numbered}
use Rattle.sn_buscmd.proofs.BufferLemmas.{is_there, not_there}
use Rattle.sn_buscmd.proofs.ResamplingLemmas.{size_there, samples_there, resampled_world}

-- ---- the number and the repetitions

module _ {R : Type 0} (read : List Argument → Option (List R)) where
  module _ (run : ℤ → List R → Turn → Result Turn Reason) where
    a_number : (o : Option ℤ) (rs : Option (List R)) (n : ℤ) (all : List R) (t : Turn) → Some (n, all) ≡ asked o rs → with_asked run o rs t ≡ run n all t
    a_number None rs n all t h = absurd cc
    a_number (Some m) None n all t h = absurd cc
    a_number (Some m) (Some rs) n all t h =
        let same : ◌≡◌ {A = ℤ × List R} (m, rs) (n, all) = cc in
        ap (λ (q : ℤ × List R). run q.0 q.1 t) same

    pub asked_of : (xs : List Argument) (n : ℤ) (all : List R) (t : Turn) → Some (n, all) ≡ numbered read xs → of_buffer read run xs t ≡ run n all t
    asked_of [] n all t h = absurd cc
    asked_of (x ∷ xs) n all t h = a_number (number x) (some_of (read xs)) n all t h

  repeated : (o : Option ℤ) (rs : Option (List R)) (n : ℤ) (all : List R) → Some (n, all) ≡ asked o rs → Some all ≡ rs
  repeated None rs n all h = absurd cc
  repeated (Some m) None n all h = absurd cc
  repeated (Some m) (Some rs) n all h =
      let same : ◌≡◌ {A = ℤ × List R} (n, all) (m, rs) = cc in
      ap (λ (q : ℤ × List R). Some q.1) same

  -- the arguments after the number
  pub behind_number : (xs : List Argument) (n : ℤ) (all : List R) → Some (n, all) ≡ numbered read xs → (ys : List Argument) × ((length ys < length xs) × (Some all ≡ some_of (read ys)))
  behind_number [] n all h = absurd cc
  behind_number (x ∷ xs) n all h = (xs, (omega arith, repeated (number x) (some_of (read xs)) n all h))

-- ---- what is judged

-- if nothing is against the rest of the repetitions, nothing is against the next one
pub head_free : {R : Type 0} (judge : R → Option Reason) (rs : List R) (i : ℕ) (r : R) → i < length rs → r ≡ get_or rs i r → first_refusal judge (drop i rs) ≡ None → judge r ≡ None
head_free judge [] i r lt is free = absurd (omega arith)
head_free judge (q ∷ rs) zero r lt is free = ap judge is ∙ none (judge q) (first_refusal judge rs) free
  where
    none : (o p : Option Reason) → or_else o p ≡ None → o ≡ None
    none None p h = refl
    none (Some x) p h = absurd cc
head_free judge (q ∷ rs) (suc i) r lt is free = head_free judge rs i r (omega arith) is free

module _ {R : Type 0} (refusal : ℕ → R → Option Reason) (n : ℤ) (rs : List R) (stage : Stage) (ws : List ℕ) (replies : List ReplyShape) where
  abbrev judged : Result Turn Reason → Result Turn Reason
  judged done = unless (buffer_refusal n (world_of stage ws)) (unless (first_refusal (refusal (size_of (at_number (buffers_of ws stage.buffers) n))) rs) done)

  pub missing : (done : Result Turn Reason) → None ≡ at_number stage.buffers n → judged done ≡ Err Reasons.Buffer
  missing done none = ap (λ (o : Option Reason). unless o (unless (first_refusal (refusal (size_of (at_number (buffers_of ws stage.buffers) n))) rs) done)) (not_there ws stage n none)

  module _ (p : BufferPlace) (found : Some p ≡ at_number stage.buffers n) (before : Pictures stage ws) where
    judged_by : (done : Result Turn Reason) → judged done ≡ unless (first_refusal (refusal p.extent.len) rs) done
    judged_by done =
        ap (λ (o : Option Reason). unless o (unless (first_refusal (refusal (size_of (at_number (buffers_of ws stage.buffers) n))) rs) done)) (is_there ws stage n p found)
        ∙ ap (λ (size : ℕ). unless (first_refusal (refusal size) rs) done) (size_there stage ws n p found before)

    pub refused : (done : Result Turn Reason) (reason : Reason) → first_refusal (refusal p.extent.len) rs ≡ Some reason → judged done ≡ Err reason
    refused done reason why = judged_by done ∙ ap (λ (o : Option Reason). unless o done) why

    pub changed : (change : R → List ℤ → List ℤ) (us : List ℕ) → first_refusal (refusal p.extent.len) rs ≡ None → KeepsAround p.extent ws us → samples_of us p.extent ≡ change_all change rs (samples_of ws p.extent)
        → changing refusal change n rs (turn_of stage ws replies) ≡ Ok (turn_of stage us replies)
    changed change us free around samples =
        let done : Result Turn Reason = Ok (record { world = with_samples n (change_all change rs) (world_of stage ws); replies = replies }) in
        judged_by done ∙ ap (λ (o : Option Reason). unless o done) free
        ∙ ap (λ (w : World). let t : Turn = record { world = w; replies = replies } in Ok t) (sym (resampled_world stage ws n p found before us (change_all change rs) around samples))

    pub told : (answer : List ℤ → R → List Argument) (address : List ℕ) (from : ℕ) (after : List ReplyShape) → first_refusal (refusal p.extent.len) rs ≡ None
        → after ≡ replies ++ (record { to = Client from; message = answered_with address n (answers answer (samples_of ws p.extent) rs) }) ∷ []
        → asking refusal answer address from n rs (turn_of stage ws replies) ≡ Ok (turn_of stage ws after)
    told answer address from after free is =
        let done : List ℤ → Result Turn Reason = λ xs. Ok (replied from (answered_with address n (answers answer xs rs)) (turn_of stage ws replies)) in
        judged_by (done (samples_in (at_number (buffers_of ws stage.buffers) n))) ∙ ap (λ (o : Option Reason). unless o (done (samples_in (at_number (buffers_of ws stage.buffers) n)))) free
        ∙ ap done (samples_there stage ws n p found before)
        ∙ ap (λ (zs : List ReplyShape). Ok (turn_of stage ws zs)) (sym is)
