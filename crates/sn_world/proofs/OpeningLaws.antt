-- Words that are all 0 stand for the opening world.
use Rattle.std.proofs.Common.{◌≡◌, ◌≤◌, ◌<◌, ◌+◌, ◌*◌, ℕ, zero, suc, ℤ, pos, List, [], ◌∷◌, ◌++◌, replicate, refl, ap, ◌∙◌, arith}
use Rattle.std.specs.Prelude.{slice_index}
use Rattle.sn_mem.specs.Blocks.{table, sample_in}
use Rattle.sn_mem.specs.Buses.{AudioBus, ControlBus, audio_bus, control_bus, audio_buses, control_buses}
use Rattle.std.proofs.lemmas.List.{length-replicate}
use Rattle.sn_world.specs.declared.stage.Stage.{Stage}
use Rattle.sn_world.specs.World.{world_of}
use Rattle.sn_world.specs.Opening.{opening, silent_audio, silent_control, IsOpening}
use Rattle.sn_world.specs.Pictures.{Pictures}
use Rattle.sn_world.proofs.BufferLaws.{opening_live, opening_buffers, opening_are, no-times}

more : {A : Type 0} (n : ℕ) (x : A) → replicate n x ++ x ∷ [] ≡ replicate (suc n) x
more zero x = refl
more (suc n) x = ap (λ xs. x ∷ xs) (more n x)

-- a table of one value
all_same : {A : Type 0} (f : ℕ → A) (x : A) (n : ℕ) → ((k : ℕ) → f k ≡ x) → table f n ≡ replicate n x
unfolding table
all_same f x zero is = refl
all_same f x (suc n) is = ap (λ xs. xs ++ f n ∷ []) (all_same f x n is) ∙ ap (λ y. replicate n x ++ y ∷ []) (is n) ∙ more n x

zero_word : (n i : ℕ) → slice_index (replicate n 0) i ≡ 0
zero_word zero i = refl
zero_word (suc n) zero = refl
zero_word (suc n) (suc i) = zero_word n i

same_audio : (w w' : ℕ) (s s' : List ℤ) → w ≡ w' → s ≡ s' → ◌≡◌ {A = AudioBus} (record { written = w; samples = s }) (record { written = w'; samples = s' })
same_audio w w' s s' p q = λ i. record { written = p i; samples = q i }

same_control : (w w' : ℕ) (v v' : ℤ) → w ≡ w' → v ≡ v' → ◌≡◌ {A = ControlBus} (record { written = w; value = v }) (record { written = w'; value = v' })
same_control w w' v v' p q = λ i. record { written = p i; value = q i }

pub audio_silent : (n : ℕ) → audio_buses (replicate n 0) ≡ replicate 128 silent_audio
unfolding audio_buses
audio_silent n = all_same (audio_bus (replicate n 0)) silent_audio 128 (λ k.
    same_audio _ _ _ _ (zero_word n _) (all_same (λ j. sample_in (slice_index (replicate n 0) (65 * k + 1 + j))) (pos 0) 64 (λ j. ap sample_in (zero_word n (65 * k + 1 + j)))))

pub control_silent : (n : ℕ) → control_buses (replicate n 0) ≡ replicate 1024 silent_control
unfolding control_buses
control_silent n = all_same (control_bus (replicate n 0)) silent_control 1024 (λ k. same_control _ _ _ _ (zero_word n _) (ap sample_in (zero_word n _)))

pub opens : (rate memory clients n : ℕ) (stage : Stage) → IsOpening rate memory clients stage → world_of stage (replicate n 0) ≡ opening rate memory clients
unfolding opening
opens rate memory clients n stage o = rw (o.tree, o.definitions, o.pool, o.frames, o.notify, o.next, audio_silent n, control_silent n, opening_buffers stage.buffers (replicate n 0) o.buffers) refl

pub opens_pictured : (rate memory clients n : ℕ) (stage : Stage) → IsOpening rate memory clients stage → 0 < rate → rate ≤ 96000 → 10368 + memory < 4294967296 → 10368 + memory ≤ n → Pictures stage (replicate n 0)
opens_pictured rate memory clients n stage o some small bounded fits = record {
  rate = rw o.frames some;
  rate_fits = rw o.frames small;
  base = rw o.pool refl;
  bounded = rw o.pool bounded;
  fits = rw o.pool (omega (arith, fits, length-replicate {A = ℕ} n 0));
  synths = rw o.tree (tt, (tt, tt), refl);
  buffers = opening_are stage.pool.region stage.buffers o.buffers;
  live = λ e some. rw (o.pool, o.tree, opening_live stage.buffers o.buffers) (no-times e);
  apart = λ x. rw (o.tree, opening_live stage.buffers o.buffers) (omega arith);
  attached = rw o.tree refl;
  settled = rw o.tree refl;
  closed = rw o.pool refl;
}
