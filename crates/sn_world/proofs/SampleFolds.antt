-- `/b_set`, `/b_setn` and `/b_fill` change samples one repetition after the other, each judged in what the earlier ones
-- left.
use Rattle.std.proofs.Common.{◌≡◌, ℕ, zero, suc, ℤ, pos, negsuc, Bool, List, [], ◌∷◌, get_or, set, Option, Some, None, Ok, refl, ap, sym, ◌∙◌}
use Rattle.std.specs.Prelude.{is_none}
use Rattle.sn_osc.specs.Shape.{Argument}
use Rattle.sn_mem.specs.Buffers.{Buffer}
use Rattle.sn_reply.specs.declared.reason.Reason.{Reason}
use Rattle.sn_reply.specs.declared.reason.Reason.TheVariants as Reasons
use Rattle.sn_world.specs.World.{World, Turn}
use Rattle.sn_world.specs.Rows.{first_of, or_else, unless, first_refusal, act_all, some_of}
use Rattle.sn_world.specs.Runs.{number}
use Rattle.sn_world.specs.BufferNumbers.{at_number, put_at, resampled, with_samples, buffer_refusal}
use Rattle.sn_world.specs.BufferSamples.{size_of, change_all, changing, with_asked, of_buffer}
use Rattle.sn_world.specs.Folds.{judge_change, act_change, changing_each}
use Rattle.sn_world.proofs.StepLaws.{steps-judged_first, unless-each, unless-unless}

-- ---- one buffer

resampled_same : (f : List ℤ → List ℤ) → ((s : List ℤ) → f s ≡ s) → (o : Option Buffer) → resampled f o ≡ o
resampled_same f same None = refl
resampled_same f same (Some b) = λ i. Some (record b { samples = same b.samples i })

resampled_twice : (f g h : List ℤ → List ℤ) → ((s : List ℤ) → g (f s) ≡ h s) → (o : Option Buffer) → resampled g (resampled f o) ≡ resampled h o
resampled_twice f g h both None = refl
resampled_twice f g h both (Some b) = λ i. Some (record b { samples = both b.samples i })

none_resampled : (f : List ℤ → List ℤ) (o : Option Buffer) → is_none (resampled f o) ≡ is_none o
none_resampled f None = refl
none_resampled f (Some b) = refl

size_resampled : (f : List ℤ → List ℤ) (o : Option Buffer) → size_of (resampled f o) ≡ size_of o
size_resampled f None = refl
size_resampled f (Some b) = refl

-- ---- all buffers

set_there : (f : List ℤ → List ℤ) (bs : List (Option Buffer)) (k : ℕ) → get_or (set bs k (resampled f (get_or bs k None))) k None ≡ resampled f (get_or bs k None)
set_there f [] zero = refl
set_there f [] (suc k) = refl
set_there f (b ∷ bs) zero = refl
set_there f (b ∷ bs) (suc k) = set_there f bs k

set_same : (f : List ℤ → List ℤ) → ((s : List ℤ) → f s ≡ s) → (bs : List (Option Buffer)) (k : ℕ) → set bs k (resampled f (get_or bs k None)) ≡ bs
set_same f same [] zero = refl
set_same f same [] (suc k) = refl
set_same f same (b ∷ bs) zero = ap (λ (o : Option Buffer). o ∷ bs) (resampled_same f same b)
set_same f same (b ∷ bs) (suc k) = ap (λ (os : List (Option Buffer)). b ∷ os) (set_same f same bs k)

set_twice : (f g h : List ℤ → List ℤ) → ((s : List ℤ) → g (f s) ≡ h s) → (bs : List (Option Buffer)) (k : ℕ)
    → set (set bs k (resampled f (get_or bs k None))) k (resampled g (get_or (set bs k (resampled f (get_or bs k None))) k None)) ≡ set bs k (resampled h (get_or bs k None))
set_twice f g h both [] zero = refl
set_twice f g h both [] (suc k) = refl
set_twice f g h both (b ∷ bs) zero = ap (λ (o : Option Buffer). o ∷ bs) (resampled_twice f g h both b)
set_twice f g h both (b ∷ bs) (suc k) = ap (λ (os : List (Option Buffer)). b ∷ os) (set_twice f g h both bs k)

size_same : (f : List ℤ → List ℤ) (n : ℤ) (bs : List (Option Buffer)) → size_of (at_number (put_at n (resampled f (at_number bs n)) bs) n) ≡ size_of (at_number bs n)
size_same f (pos k) bs = ap size_of (set_there f bs k) ∙ size_resampled f (get_or bs k None)
size_same f (negsuc k) bs = refl

refused_same : (f : List ℤ → List ℤ) (n : ℤ) (w : World) → buffer_refusal n (with_samples n f w) ≡ buffer_refusal n w
refused_same f (pos k) w = ap (λ (b : Bool). first_of ((b, Reasons.Buffer) ∷ [])) (ap is_none (set_there f w.buffers k) ∙ none_resampled f (get_or w.buffers k None))
refused_same f (negsuc k) w = refl

with_same : (f : List ℤ → List ℤ) → ((s : List ℤ) → f s ≡ s) → (n : ℤ) (w : World) → with_samples n f w ≡ w
with_same f same (pos k) w = ap (λ (bs : List (Option Buffer)). let v : World = record w { buffers = bs } in v) (set_same f same w.buffers k)
with_same f same (negsuc k) w = refl

with_twice : (f g h : List ℤ → List ℤ) → ((s : List ℤ) → g (f s) ≡ h s) → (n : ℤ) (w : World) → with_samples n g (with_samples n f w) ≡ with_samples n h w
with_twice f g h both (pos k) w = ap (λ (bs : List (Option Buffer)). let v : World = record w { buffers = bs } in v) (set_twice f g h both w.buffers k)
with_twice f g h both (negsuc k) w = refl

-- ---- the fold

module _ {R : Type 0} (refusal : ℕ → R → Option Reason) (change : R → List ℤ → List ℤ) where
  judged_alike : (n : ℤ) (r r' : R) (t : Turn) → judge_change refusal n (act_change change n r t).world r' ≡ judge_change refusal n t.world r'
  judged_alike n r r' t =
      ap (λ (o : Option Reason). or_else o (refusal (size_of (at_number (act_change change n r t).world.buffers n)) r')) (refused_same (change r) n t.world)
      ∙ ap (λ (size : ℕ). or_else (buffer_refusal n t.world) (refusal size r')) (size_same (change r) n t.world.buffers)

  acted_all : (n : ℤ) (all : List R) (t : Turn) → act_all (act_change change n) all t ≡ record t { world = with_samples n (change_all change all) t.world }
  acted_all n [] t = ap (λ (w : World). let u : Turn = record t { world = w } in u) (sym (with_same (change_all change []) (λ s. refl) n t.world))
  acted_all n (r ∷ rs) t =
      acted_all n rs (act_change change n r t)
      ∙ ap (λ (w : World). let u : Turn = record t { world = w } in u) (with_twice (change r) (change_all change rs) (change_all change (r ∷ rs)) (λ s. refl) n t.world)

  some_changed : (n : ℤ) (r : R) (rs : List R) (t : Turn) → changing refusal change n (r ∷ rs) t ≡ changing_each refusal change n (r ∷ rs) t
  some_changed n r rs t =
      let after : Turn = record t { world = with_samples n (change_all change (r ∷ rs)) t.world } in
      let each : R → Option Reason = refusal (size_of (at_number t.world.buffers n)) in
      unless-unless (buffer_refusal n t.world) (first_refusal each (r ∷ rs)) (Ok after)
      ∙ sym (unless-each (buffer_refusal n t.world) each r rs (Ok after))
      ∙ ap (λ (u : Turn). unless (first_refusal (judge_change refusal n t.world) (r ∷ rs)) (Ok u)) (sym (acted_all n (r ∷ rs) t))
      ∙ sym (steps-judged_first (judge_change refusal n) (act_change change n) (judged_alike n) (r ∷ rs) t)

  asked_changed : (n : Option ℤ) (all : Option (List R)) (t : Turn) → with_asked (changing refusal change) n (some_of all) t ≡ with_asked (changing_each refusal change) n (some_of all) t
  asked_changed None all t = refl
  asked_changed (Some n) None t = refl
  asked_changed (Some n) (Some []) t = refl
  asked_changed (Some n) (Some (r ∷ rs)) t = some_changed n r rs t

  -- whatever reads the repetitions
  pub each_changed : (reads : List Argument → Option (List R)) (xs : List Argument) (t : Turn) → of_buffer reads (changing refusal change) xs t ≡ of_buffer reads (changing_each refusal change) xs t
  each_changed reads [] t = refl
  each_changed reads (x ∷ xs) t = asked_changed (number x) (reads xs) t
