-- Line and Linen do not see whether their done word was settled.
use Rattle.std.proofs.Common.{◌≡◌, ℕ, ◌+◌, ◌==◌, Bool, true, false, cond, max, List, [], ◌∷◌, ℤ, refl, ap, ◌∙◌}
use Rattle.std.specs.Prelude.{nat_lt, pos, int_lt}
use Rattle.sn_fixed.specs.Fixed.{frames_of}
use Rattle.sn_fixed.specs.Lines.{line_at}
use Rattle.sn_mem.specs.Blocks.{sample, recurrence}
use Rattle.sn_mem.specs.Done.{ended}
use Rattle.sn_done.specs.Done.{settled_word, settled_first, IsUnseen}
use Rattle.sn_done.proofs.Settling.{twice, ended_alike, ended_unless, unseen_then, StepsAlike, HoldsDone, recurrence_unseen}
use Rattle.sn_def.specs.declared.kind.Kind.TheVariants as kinds
use Rattle.sn_def.specs.declared.control.Now.{Now}
use Rattle.sn_gen.specs.declared.line.Sweep.{Sweep}
use Rattle.sn_gen.specs.declared.linen.Segment.{Segment}
use Rattle.sn_gen.specs.declared.linen.Segment.TheVariants.{Waiting, Open, Released}
use Rattle.sn_gen.specs.declared.linen.Envelope.{Envelope}
use Rattle.sn_gen.specs.Generators.{generator}
use Rattle.sn_gen.specs.Line.{sweep_in, sweep_words, begun, swept, line}
use Rattle.sn_gen.specs.Linen.{envelope_in, envelope_words, gated_at, gated, height_at, height, done_at, passed, linen}

-- the same change of both cases
both : {S T : Type 0} (f : S → T) (b : Bool) (s t : S) → cond b (f s) (f t) ≡ f (cond b s t)
both f true s t = refl
both f false s t = refl

-- ---- Line

settle : Sweep → Sweep
settle s = record { done = settled_word s.done; frame = s.frame; start = s.start; end = s.end; frames = s.frames }

begun_alike : (rate : ℕ) (s : Sweep) (inputs : List (List ℤ)) (k : ℕ) → begun rate (settle s) inputs k ≡ settle (begun rate s inputs k)
unfolding settle
begun_alike rate s inputs k = both settle (s.frame == 0) (record { done = s.done; frame = 0; start = sample inputs 0 k; end = sample inputs 1 k; frames = frames_of (sample inputs 2 k) rate }) s

swept_at : Bool → Sweep → Sweep × ℤ
swept_at b s =
    cond b
    (record { done = s.done; frame = s.frame + 1; start = s.start; end = s.end; frames = s.frames }, line_at s.start s.end s.frame s.frames)
    (record { done = ended s.done; frame = max s.frame 1; start = s.start; end = s.end; frames = s.frames }, s.end)

swept_states : (b : Bool) (s : Sweep) → settle (swept_at b (settle s)).0 ≡ settle (swept_at b s).0
unfolding settle swept_at
swept_states true s = ap (λ d. record { done = d; frame = s.frame + 1; start = s.start; end = s.end; frames = s.frames }) (twice s.done)
swept_states false s = ap (λ d. record { done = d; frame = max s.frame 1; start = s.start; end = s.end; frames = s.frames }) (ended_alike s.done)

swept_given : (b : Bool) (s : Sweep) → (swept_at b (settle s)).1 ≡ (swept_at b s).1
unfolding settle swept_at
swept_given true s = refl
swept_given false s = refl

line_steps : (rate : ℕ) → StepsAlike settle (line rate)
unfolding settle swept_at
line_steps rate = record {
  states = λ s inputs k. ap (λ (t : Sweep). settle (swept t).0) (begun_alike rate s inputs k) ∙ (let t : Sweep = begun rate s inputs k in swept_states (nat_lt t.frame t.frames) t);
  given = λ s inputs k. ap (λ (t : Sweep). (swept t).1) (begun_alike rate s inputs k) ∙ (let t : Sweep = begun rate s inputs k in swept_given (nat_lt t.frame t.frames) t);
}

sweep_holds : HoldsDone settle sweep_in sweep_words
unfolding settle
sweep_holds = record { loads = loads; stores = λ s. refl }
  where
    loads : (ws : List ℕ) → settle (sweep_in (settled_first ws)) ≡ settle (sweep_in ws)
    loads [] = refl
    loads (d ∷ ws) = let s : Sweep = sweep_in (d ∷ ws) in ap (λ n. record { done = n; frame = s.frame; start = s.start; end = s.end; frames = s.frames }) (twice d)

pub line_unseen : (now : Now) (inputs : List (List ℤ)) → IsUnseen (λ ws. generator kinds.Line now ws inputs)
unfolding generator
line_unseen now inputs = unseen_then (λ ws. recurrence sweep_in sweep_words (line now.rate) ws inputs) (λ (xs : List ℤ). xs ∷ []) (recurrence_unseen settle sweep_in sweep_words (line now.rate) inputs (line_steps now.rate) sweep_holds)

-- ---- Linen

settle_envelope : Envelope → Envelope
settle_envelope e = record { done = settled_word e.done; segment = e.segment; frame = e.frame; frames = e.frames; level = e.level; top = e.top; last = e.last }

gated_alike : (segment : Segment) (rate : ℕ) (e : Envelope) (inputs : List (List ℤ)) (k : ℕ) → gated_at segment rate (settle_envelope e) inputs k ≡ settle_envelope (gated_at segment rate e inputs k)
unfolding settle_envelope
gated_alike Waiting rate e inputs k = both settle_envelope (int_lt (pos 0) (sample inputs 0 k))
    (record { done = e.done; segment = Open; frame = 0; frames = frames_of (sample inputs 1 k) rate; level = sample inputs 2 k; top = e.top; last = e.last })
    e
gated_alike Open rate e inputs k = both settle_envelope (int_lt (pos 0) (sample inputs 0 k))
    e
    (record { done = e.done; segment = Released; frame = 0; frames = frames_of (sample inputs 3 k) rate; level = e.level; top = e.last; last = e.last })
gated_alike Released rate e inputs k = refl

height_alike : (segment : Segment) (e : Envelope) → height_at segment (settle_envelope e) ≡ height_at segment e
unfolding settle_envelope
height_alike Waiting e = refl
height_alike Open e = refl
height_alike Released e = refl

done_alike : (segment : Segment) (e : Envelope) → settled_word (done_at segment (settle_envelope e)) ≡ settled_word (done_at segment e)
unfolding settle_envelope
done_alike Waiting e = twice e.done
done_alike Open e = twice e.done
done_alike Released e = ended_unless (nat_lt e.frame e.frames) e.done

passed_alike : (e : Envelope) (y : ℤ) → settle_envelope (passed (settle_envelope e) y) ≡ settle_envelope (passed e y)
unfolding settle_envelope
passed_alike e y = ap (λ d. record { done = d; segment = e.segment; frame = cond (nat_lt e.frame e.frames) (e.frame + 1) e.frame; frames = e.frames; level = e.level; top = e.top; last = y }) (done_alike e.segment e)

-- the rest of a step, after the gate was looked at
after_gate : Envelope → Envelope × ℤ
after_gate e = (passed e (height e), height e)

after_states : (e : Envelope) → settle_envelope (after_gate (settle_envelope e)).0 ≡ settle_envelope (after_gate e).0
unfolding after_gate settle_envelope
after_states e = ap (λ y. settle_envelope (passed (settle_envelope e) y)) (height_alike e.segment e) ∙ passed_alike e (height e)

linen_steps : (rate : ℕ) → StepsAlike settle_envelope (linen rate)
unfolding after_gate settle_envelope
linen_steps rate = record {
  states = λ e inputs k. ap (λ (g : Envelope). settle_envelope (after_gate g).0) (gated_alike e.segment rate e inputs k) ∙ after_states (gated rate e inputs k);
  given = λ e inputs k. ap height (gated_alike e.segment rate e inputs k) ∙ (let g : Envelope = gated rate e inputs k in height_alike g.segment g);
}

envelope_holds : HoldsDone settle_envelope envelope_in envelope_words
unfolding settle_envelope
envelope_holds = record { loads = loads; stores = λ e. refl }
  where
    loads : (ws : List ℕ) → settle_envelope (envelope_in (settled_first ws)) ≡ settle_envelope (envelope_in ws)
    loads [] = refl
    loads (d ∷ ws) = let e : Envelope = envelope_in (d ∷ ws) in ap (λ n. record { done = n; segment = e.segment; frame = e.frame; frames = e.frames; level = e.level; top = e.top; last = e.last }) (twice d)

pub linen_unseen : (now : Now) (inputs : List (List ℤ)) → IsUnseen (λ ws. generator kinds.Linen now ws inputs)
unfolding generator
linen_unseen now inputs = unseen_then (λ ws. recurrence envelope_in envelope_words (linen now.rate) ws inputs) (λ (xs : List ℤ). xs ∷ []) (recurrence_unseen settle_envelope envelope_in envelope_words (linen now.rate) inputs (linen_steps now.rate) envelope_holds)
