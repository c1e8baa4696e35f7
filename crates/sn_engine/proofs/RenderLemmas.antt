-- One more block of those that are rendered in a row.
use Rattle.std.proofs.Common.{IsTrue, ◌≡◌, ◌==◌, Bool, true, false, ℕ, suc, ◌+◌, ◌*◌, ◌/◌, ◌≤◌, List, [], ◌∷◌, ◌++◌, ℤ, refl, ap, sym, subst, ◌∙◌, arith, append-nil, append_assoc}
use Rattle.std.specs.Prelude.{replicate}
use Rattle.std.proofs.lemmas.Bool.Decides.{nat_tests}
use Rattle.std.proofs.Math.Nat.{div-mul-le_self, mul-le-mul_right}
use Rattle.std.proofs.lemmas.List.{replicate-append-replicate}
use Rattle.sn_machine.specs.declared.views.Rested.{Rested}
use Rattle.sn_pcm.specs.Allowed.{is_width}
use Rattle.sn_pcm.specs.Pcm.{pcm}
use Rattle.sn_pcm.specs.declared.settings.Settings.{Settings}
use Rattle.sn_quiet.specs.Walks.{walks}
use Rattle.sn_world.specs.Walk.{walk}
use Rattle.sn_world.specs.World.{World, world_of}
use Rattle.sn_world.specs.declared.stage.Stage.{Stage}
use Rattle.sn_engine.specs.Outputs.{outputs, sounds}

pub no_walks : (b : ℕ) (w : World) → w ≡ walks b 0 w
unfolding walks
no_walks b w = refl

pub walk_more : (b n : ℕ) (w u v : World) → u ≡ walks b n w → v ≡ walk (b + n) u → v ≡ walks b (n + 1) w
unfolding walks
walk_more b n w u v so_far next = let s : n + 1 ≡ suc n = omega arith in next ∙ (ap (walk (b + n)) so_far ∙ ap (λ m. walks b m w) (sym s))

-- a walk of the same stage in the block of the same number
pub walked_at : (stage other : Stage) (b k : ℕ) (ws us : List ℕ) → other ≡ stage → k ≡ b → world_of other us ≡ walk k (world_of other ws) → world_of stage us ≡ walk b (world_of stage ws)
walked_at stage other b k ws us same at h = subst (λ (s : Stage). world_of s us ≡ walk b (world_of s ws)) same (subst (λ m. world_of other us ≡ walk m (world_of other ws)) at h)

pub no_sounds : (s : Settings) (b : ℕ) (w : World) (bytes : List ℕ) → bytes ≡ bytes ++ sounds s b 0 w
unfolding sounds
no_sounds s b w bytes = sym (append-nil bytes)

-- with the sound of the next block, which is heard of the world after it
pub sound_more : (s : Settings) (b n : ℕ) (w v : World) (old before after : List ℕ) (samples : List ℤ) → before ≡ old ++ sounds s b n w → v ≡ walks b (n + 1) w → samples ≡ outputs s (b + n) v → after ≡ before ++ pcm s samples → after ≡ old ++ sounds s b (n + 1) w
unfolding sounds
sound_more s b n w v old before after samples so_far is heard put =
    let e : n + 1 ≡ suc n = omega arith in
    put
    ∙ (ap (λ (xs : List ℕ). xs ++ pcm s samples) so_far
    ∙ (append_assoc old (sounds s b n w) (pcm s samples)
    ∙ (ap (λ (xs : List ℤ). old ++ (sounds s b n w ++ pcm s xs)) (heard ∙ ap (λ (u : World). outputs s (b + n) u) is)
    ∙ ap (λ m. old ++ sounds s b m w) (sym e))))

-- the bytes of the samples of a block
width_at : (b : Bool) (bits : ℕ) → (bits == 16) ≡ b → IsTrue (is_width bits) → bits ≤ 24
width_at true bits e width = let is : bits ≡ 16 = grind (arith, nat_tests) in omega (arith, is)
width_at false bits e width = let is : bits ≡ 24 = grind (arith, nat_tests) in omega (arith, is)

pub few_bytes : (s : Settings) (count : ℕ) → count ≤ 512 → count * (s.bits / 8) ≤ 1536
few_bytes s count few =
    let width : ℕ = s.bits / 8 in
    let all : width * 8 ≤ s.bits = div-mul-le_self s.bits 8 in
    let most : count * width ≤ 512 * width = mul-le-mul_right width few in
    omega (arith, most, all, width_at (s.bits == 16) s.bits refl s.bits_are)

pub no_rounds : (rounds : List Rested) (r : Rested) → rounds ≡ rounds ++ replicate 0 r
no_rounds rounds r = sym (append-nil rounds)

pub rounds_more : (old before after : List Rested) (r : Rested) (n : ℕ) → before ≡ old ++ replicate n r → after ≡ before ++ r ∷ [] → after ≡ old ++ replicate (n + 1) r
rounds_more old before after r n so_far put =
    put
    ∙ (ap (λ (xs : List Rested). xs ++ r ∷ []) so_far
    ∙ (append_assoc old (replicate n r) (r ∷ [])
    ∙ ap (λ (xs : List Rested). old ++ xs) (replicate-append-replicate n 1 r)))
