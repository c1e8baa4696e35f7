-- A run goes on from block to block, and ends.
use Rattle.std.proofs.Common.{◌≡◌, ℕ, zero, suc, ◌+◌, ◌*◌, ◌/◌, List, ◌++◌, length, Option, None, rules, ◌<◌, ◌≤◌, ◌^◌, mul-suc, refl, sym, ap, subst, ◌∙◌, arith, Bool, true, false, eqb, ◌⊎◌, inl, inr, IsTrue}
use Rattle.std.proofs.lemmas.Bool.{eqb-true}
use Rattle.std.proofs.lemmas.Bool.Decides.{leb_tells}
use Rattle.std.proofs.lemmas.List.{length-append}
use Rattle.std.specs.Io.KnownBytes.{Appends}
use Rattle.std.proofs.KnownBytes.{Appends-trans}
use Rattle.sn_osc.specs.Shape.{Shape}
use Rattle.sn_pcm.specs.declared.settings.Settings.{Settings}
use Rattle.sn_pcm.specs.Allowed.{is_width, is_within}
use Rattle.sn_pcm.specs.Pcm.{pcm}
use Rattle.sn_pcm.specs.Sound.{data_len, header_bytes}
use Rattle.sn_pcm.proofs.PcmLemmas.{pcm_length_is}
use Rattle.sn_world.specs.Walk.{walk}
use Rattle.sn_world.specs.World.{World}
use Rattle.sn_engine.proofs.HearingLemmas.{frames_made}
use Rattle.sn_engine.specs.Outputs.{outputs}
use Rattle.sn_engine.specs.Running.{Running, at_boundary, opened}
use Rattle.sn_render.specs.Fronts.{TakesFront, TakeFronts, TakeBoth}
use Rattle.sn_render.specs.Going.{IsAtBoundary, IsGoing, HasWritten}
use Rattle.sn_render.specs.Outcomes.{IsTooLong}
use Rattle.sn_render.specs.Play.{after_block, after_blocks, begun, last_of, played, to_end, to_first, sound_of}
use Rattle.sn_render.proofs.ArrivingLemmas.{all_stay}
use Rattle.sn_render.proofs.StepLemmas.{boundary_step, begins_more}
use Rattle.sn_render.proofs.WritingLemmas.{within, takes_none, taken_behind, written_none, written_step, written_all, written_fronts}

-- ---- from block to block

pub begins : (total : ℕ) (sound_old replies_old : Option (List ℕ)) (r : Running) → IsAtBoundary r → IsGoing r total total sound_old sound_old replies_old replies_old r
begins total sound_old replies_old r stands = record { play = r; plays = refl; written = written_none sound_old replies_old r; stands = stands; count = refl }

-- ---- the end

-- at the boundary after the last block
last_written : (first : Running) (total : ℕ) (sound_old sound_new replies_old replies_new : Option (List ℕ)) (r : Running) → IsGoing first total 0 sound_old sound_new replies_old replies_new r
    → HasWritten sound_old sound_new replies_old replies_new (to_end total first) (at_boundary r)
last_written first total sound_old sound_new replies_old replies_new r g =
    subst (λ (p : Running). HasWritten sound_old sound_new replies_old replies_new (at_boundary p) (at_boundary r)) g.plays (written_step at_boundary boundary_step sound_old sound_new replies_old replies_new g.play r g.written)

pub ended : (first : Running) (total : ℕ) (sound_old sound_mid sound_new replies_old replies_mid replies_new : Option (List ℕ)) (r : Running) → IsGoing first total 0 sound_old sound_mid replies_old replies_mid r
    → TakeBoth sound_mid sound_new replies_mid replies_new (at_boundary r).sound (to_first (at_boundary r).replies) → TakeBoth sound_old sound_new replies_old replies_new (to_end total first).sound (to_first (to_end total first).replies)
ended first total sound_old sound_mid sound_new replies_old replies_mid replies_new r g t =
    written_all sound_old sound_mid sound_new replies_old replies_mid replies_new (to_end total first) (at_boundary r) (last_written first total sound_old sound_mid replies_old replies_mid r g) (boundary_step.clients r ∙ g.stands.alone) t

-- the world there is not touched by what was written
end_world : (first : Running) (total : ℕ) (sound_old sound_new replies_old replies_new : Option (List ℕ)) (r : Running) → IsGoing first total 0 sound_old sound_new replies_old replies_new r
    → (to_end total first).world ≡ (at_boundary r).world
end_world first total sound_old sound_new replies_old replies_new r g = ap (λ (p : Running). p.world) (last_written first total sound_old sound_new replies_old replies_new r g).parts

pub ended_world : (first : Running) (total : ℕ) (sound_old sound_new replies_old replies_new : Option (List ℕ)) (r : Running) (w : World) → IsGoing first total 0 sound_old sound_new replies_old replies_new r
    → w ≡ (at_boundary r).world → w ≡ (to_end total first).world
ended_world first total sound_old sound_new replies_old replies_new r w g e = subst (λ (v : World). w ≡ v) (sym (end_world first total sound_old sound_new replies_old replies_new r g)) e

-- ---- a run that is cut short

pub end_cut : (first : Running) (total : ℕ) (sound_old sound_mid sound_new replies_old replies_mid replies_new : Option (List ℕ)) (r : Running) → IsGoing first total 0 sound_old sound_mid replies_old replies_mid r
    → TakeFronts sound_mid sound_new replies_mid replies_new (at_boundary r).sound (to_first (at_boundary r).replies) → TakeFronts sound_old sound_new replies_old replies_new (to_end total first).sound (to_first (to_end total first).replies)
end_cut first total sound_old sound_mid sound_new replies_old replies_mid replies_new r g t =
    written_fronts sound_old sound_mid sound_new replies_old replies_mid replies_new (to_end total first) (at_boundary r) (last_written first total sound_old sound_mid replies_old replies_mid r g) (boundary_step.clients r ∙ g.stands.alone) t

-- in the head of the sound
pub head_cut : (head sound replies : List ℕ) (sound_old sound_new replies_old : Option (List ℕ)) → TakesFront sound_old sound_new head → TakeFronts sound_old sound_new replies_old replies_old (head ++ sound) replies
head_cut head sound replies sound_old sound_new replies_old t = record { sound = within sound_old sound_new head (head ++ sound) (begins_more head sound) t; replies = takes_none replies_old replies }

-- after it
pub headed_cut : (head sound replies : List ℕ) (sound_old sound_mid sound_new replies_old replies_new : Option (List ℕ)) → Appends sound_old sound_mid head → TakeFronts sound_mid sound_new replies_old replies_new sound replies
    → TakeFronts sound_old sound_new replies_old replies_new (head ++ sound) replies
headed_cut head sound replies sound_old sound_mid sound_new replies_old replies_new taken t = record { sound = taken_behind sound_old sound_mid sound_new head sound taken t.sound; replies = t.replies }

pub headed : (head sound replies : List ℕ) (sound_old sound_mid sound_new replies_old replies_new : Option (List ℕ)) → Appends sound_old sound_mid head → TakeBoth sound_mid sound_new replies_old replies_new sound replies
    → TakeBoth sound_old sound_new replies_old replies_new (head ++ sound) replies
headed head sound replies sound_old sound_mid sound_new replies_old replies_new taken t = record { sound = Appends-trans sound_old sound_mid sound_new head sound taken t.sound; replies = t.replies }

-- ---- how long the sound is

width_cases : (b : ℕ) → IsTrue (is_width b) → (b ≡ 16) ⊎ (b ≡ 24)
width_cases b h = at (eqb b 16) refl (eqb b 24) refl h
  where
    at : (x : Bool) → eqb b 16 ≡ x → (y : Bool) → eqb b 24 ≡ y → IsTrue (is_width b) → (b ≡ 16) ⊎ (b ≡ 24)
    at true p y q h = inl (eqb-true b 16 p)
    at false p true q h = inr (eqb-true b 24 q)
    at false p false q h = absurd cc

-- a sound that is not too long has few blocks
times_some : (n c : ℕ) → 1 ≤ c → n ≤ n * c
times_some n zero some = absurd (omega (arith, some))
times_some n (suc c) some = rw (mul-suc n c) (omega arith)

few_by : (n c b : ℕ) → 1 ≤ c → (b ≡ 16) ⊎ (b ≡ 24) → (4294967295 < 36 + n * 64 * c * b / 8 → ⊥) → n < 2 ^ 62
few_by n c b some width short = elim (leb_tells (2 ^ 62) n) [
  | inl p ↦ absurd (short (long width p.1))
  | inr p ↦ p.1
]
  where
    long : (b ≡ 16) ⊎ (b ≡ 24) → 2 ^ 62 ≤ n → 4294967295 < 36 + n * 64 * c * b / 8
    long (inl e) many = rw e (omega (arith, many, times_some n c some))
    long (inr e) many = rw e (omega (arith, many, times_some n c some))

pub few_blocks : (s : Settings) (n : ℕ) → (IsTooLong s n → ⊥) → n < 2 ^ 62
few_blocks s n short = few_by n s.channels s.bits (one_channel s.channels s.channels_are) (width_cases s.bits s.bits_are) short
  where
    one_channel : (c : ℕ) → IsTrue (is_within 1 8 c) → 1 ≤ c
    one_channel c h = search rules

-- each block adds as many bytes
one_more : (n k d x y z : ℕ) → y ≡ x + k * d → z ≡ y + n * k * d → z ≡ x + suc n * k * d
one_more n k d x y z more rest = omega (arith, more, rest)

data_made : (n : ℕ) (r : Running) → length (after_blocks n r).sound ≡ length r.sound + n * (64 * r.settings.channels) * (r.settings.bits / 8)
data_made zero r = omega arith
data_made (suc n) r =
    let s = r.settings in
    let walked = walk r.block (at_boundary r).world in
    let samples = outputs s r.block walked in
    let made : length (pcm s samples) ≡ 64 * s.channels * (s.bits / 8) = pcm_length_is s samples ∙ ap (λ (k : ℕ). k * (s.bits / 8)) (frames_made s.channels r.block walked 64) in
    one_more n (64 * s.channels) (s.bits / 8) (length r.sound) (length (after_block r).sound) (length (after_blocks (suc n) r).sound)
    (length-append r.sound (pcm s samples) ∙ ap (λ (k : ℕ). length r.sound + k) made) (data_made n (after_block r))

-- a sample has whole bytes
whole_bytes : (n c b : ℕ) → (b ≡ 16) ⊎ (b ≡ 24) → n * (64 * c) * (b / 8) ≡ n * 64 * c * b / 8
whole_bytes n c b width = elim width [
  | inl e ↦ rw e (omega arith)
  | inr e ↦ rw e (omega arith)
]

-- the head of the sound tells its length
pub sound_is : (s : Settings) (packets : List Shape) → header_bytes s (data_len s (last_of s packets)) ++ (played s packets).sound ≡ sound_of s packets
sound_is s packets =
    let n = last_of s packets in
    let stays = all_stay packets (opened s 0 None 1) in
    let made : length (played s packets).sound ≡ 0 + n * (64 * s.channels) * (s.bits / 8) = data_made n (begun s packets) ∙ (λ i. length (stays.sound i) + n * (64 * (stays.settings i).channels) * ((stays.settings i).bits / 8)) in
    let size : length (played s packets).sound ≡ data_len s n = omega (arith, made) ∙ whole_bytes n s.channels s.bits (width_cases s.bits s.bits_are) in
    ap (λ (k : ℕ). header_bytes s k ++ (played s packets).sound) (sym size)

pub begun_stands : (s : Settings) (packets : List Shape) (e : Running) → e ≡ begun s packets → IsAtBoundary e
begun_stands s packets e is =
    let stays = all_stay packets (opened s 0 None 1) in
    record { standing = ap (λ (r : Running). r.standing) is ∙ stays.standing; alone = ap (λ (r : Running). length r.replies) is ∙ stays.clients }

pub begun_first : (s : Settings) (packets : List Shape) (e : Running) → e ≡ begun s packets → e.block ≡ 0
begun_first s packets e is = ap (λ (r : Running). r.block) is ∙ (all_stay packets (opened s 0 None 1)).block
