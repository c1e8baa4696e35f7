-- Rounds of some blocks after those of others, and what is rendered by them.
use Rattle.std.proofs.Common.{◌≡◌, ◌==◌, Bool, true, false, true≢false, if◌then◌else◌, ℕ, zero, suc, ◌+◌, ◌*◌, ◌≤◌, List, [], ◌∷◌, ◌++◌, map, length, refl, ap, sym, subst, ◌∙◌, arith, append-nil, append_assoc, ne_eqb}
use Rattle.std.specs.Prelude.{replicate}
use Rattle.std.proofs.lemmas.List.{map-append}
use Rattle.std.proofs.lemmas.List.Elements.{All-append, All-cons, All-nil, All-replicate}
use Rattle.std.proofs.lemmas.List.Folds.{sum_by-replicate}
use Rattle.std.proofs.lemmas.List.Sums.{sum_by-append}
use Rattle.sn_mem.specs.declared.extents.Extent.{Extent}
use Rattle.sn_machine.specs.declared.views.Rested.{Rested}
use Rattle.sn_pcm.specs.Pcm.{pcm}
use Rattle.sn_pcm.specs.declared.settings.Settings.{Settings}
use Rattle.sn_quiet.specs.Walks.{walks}
use Rattle.sn_round.specs.declared.jobs.Job.{Job}
use Rattle.sn_span.specs.Unrolling.{unrolled}
use Rattle.sn_world.specs.Pictures.{Pictures}
use Rattle.sn_world.specs.Walk.{walk}
use Rattle.sn_world.specs.World.{World, world_of}
use Rattle.sn_engine.specs.Outputs.{outputs, sounds}
use Rattle.sn_engine.specs.Planning.{LanesRest}
use Rattle.sn_engine.specs.Remembered.{Remembered}
use Rattle.sn_engine.specs.Spans.{AreRounds, jobs_in}
use Rattle.sn_engine.specs.declared.rendering.Part.{Part}

-- ---- walks, and their sound

pub walks_on : (b m k : ℕ) (w : World) → walks (b + m) k (walks b m w) ≡ walks b (m + k) w
unfolding walks
walks_on b m zero w = let e : m ≡ m + 0 = omega arith in ap (λ n. walks b n w) e
walks_on b m (suc k) w =
    let e : suc (m + k) ≡ m + suc k = omega arith in
    let at : (b + m) + k ≡ b + (m + k) = omega arith in
    (λ i. walk (at i) (walks_on b m k w i)) ∙ ap (λ n. walks b n w) e

pub sounds_on : (s : Settings) (b m k : ℕ) (w : World) → sounds s b m w ++ sounds s (b + m) k (walks b m w) ≡ sounds s b (m + k) w
unfolding sounds
sounds_on s b m zero w = let e : m ≡ m + 0 = omega arith in append-nil (sounds s b m w) ∙ ap (λ n. sounds s b n w) e
sounds_on s b m (suc k) w =
    let e : suc (m + k) ≡ m + suc k = omega arith in
    let at : (b + m) + k ≡ b + (m + k) = omega arith in
    let after : m + (k + 1) ≡ (m + k) + 1 = omega arith in
    let world : walks (b + m) (k + 1) (walks b m w) ≡ walks b ((m + k) + 1) w = walks_on b m (k + 1) w ∙ ap (λ n. walks b n w) after in
    sym (append_assoc (sounds s b m w) (sounds s (b + m) k (walks b m w)) (pcm s (outputs s ((b + m) + k) (walks (b + m) (k + 1) (walks b m w)))))
    ∙ (λ i. sounds_on s b m k w i ++ pcm s (outputs s (at i) (world i)))
    ∙ ap (λ n. sounds s b n w) e

-- ---- rounds

abbrev round_of : List Extent → ℕ → List Job → ℕ → ℕ → Rested
round_of outputs at jobs crew blocks = record { jobs = jobs_in jobs outputs at blocks; crew = crew }

pub no_rounds_yet : (outputs : List Extent) (at : ℕ) (jobs : List Job) (crew : ℕ) (old : List Rested) → AreRounds outputs at 0 jobs crew old old
no_rounds_yet outputs at jobs crew old = record { lengths = []; some = All-nil (λ (k : ℕ). 1 ≤ k); sum_is = refl; rounds_are = sym (append-nil old) }

pub rounds_on : (outputs : List Extent) (at m k : ℕ) (jobs : List Job) (crew : ℕ) (old between new : List Rested) → AreRounds outputs at m jobs crew old between → AreRounds outputs at k jobs crew between new → AreRounds outputs at (m + k) jobs crew old new
rounds_on outputs at m k jobs crew old between new one other =
    let f : ℕ → Rested = round_of outputs at jobs crew in record {
      lengths = one.lengths ++ other.lengths;
      some = All-append (λ (n : ℕ). 1 ≤ n) one.lengths other.lengths one.some other.some;
      sum_is = omega (arith, sum_by-append (λ (n : ℕ). n) one.lengths other.lengths, one.sum_is, other.sum_is);
      rounds_are = other.rounds_are
          ∙ (ap (λ (rs : List Rested). rs ++ map f other.lengths) one.rounds_are
          ∙ (append_assoc old (map f one.lengths) (map f other.lengths)
          ∙ ap (λ (rs : List Rested). old ++ rs) (sym (map-append f one.lengths other.lengths))));
    }

all_one : (f : ℕ → Rested) (n : ℕ) → replicate n (f 1) ≡ map f (replicate n 1)
all_one f zero = refl
all_one f (suc n) = ap (λ (rs : List Rested). f 1 ∷ rs) (all_one f n)

pub each_round : (outputs : List Extent) (at n : ℕ) (jobs : List Job) (crew workers : ℕ) (old new : List Rested) → workers ≡ crew → new ≡ old ++ replicate n (record { jobs = jobs; crew = workers }) → AreRounds outputs at n jobs crew old new
each_round outputs at n jobs crew workers old new same put = record {
  lengths = replicate n 1;
  some = All-replicate (λ (k : ℕ). 1 ≤ k) n 1 (omega arith);
  sum_is = omega (arith, sum_by-replicate (λ (k : ℕ). k) n 1);
  rounds_are = put ∙ (ap (λ k. old ++ replicate n (record { jobs = jobs; crew = k })) same ∙ ap (λ (rs : List Rested). old ++ rs) (all_one (round_of outputs at jobs crew) n));
}

if_not : {A : Type 0} (b : Bool) (x y : A) → b ≡ false → y ≡ (if b then x else y)
if_not true x y is = absurd (true≢false is)
if_not false x y is = refl

in_several : (jobs : List Job) (outputs : List Extent) (at n : ℕ) → 2 ≤ n → unrolled jobs outputs at n ≡ jobs_in jobs outputs at n
in_several jobs outputs at n two = if_not (n == 1) jobs (unrolled jobs outputs at n) (ne_eqb n 1 (λ e. omega (arith, two, e)))

pub one_round : (outputs : List Extent) (at n : ℕ) (jobs all : List Job) (crew workers : ℕ) (old new : List Rested) → 2 ≤ n → all ≡ unrolled jobs outputs at n → workers ≡ crew → new ≡ old ++ record { jobs = all; crew = workers } ∷ []
    → AreRounds outputs at n jobs crew old new
one_round outputs at n jobs all crew workers old new some is as_many put =
    let jobs_are : all ≡ jobs_in jobs outputs at n = is ∙ in_several jobs outputs at n some in record {
      lengths = n ∷ [];
      some = All-cons (λ (k : ℕ). 1 ≤ k) n [] (omega (arith, some)) (All-nil (λ (k : ℕ). 1 ≤ k));
      sum_is = omega arith;
      rounds_are = put ∙ (λ i. old ++ record { jobs = jobs_are i; crew = as_many i } ∷ []);
    }

-- ---- blocks

-- The words, the sound and the rounds of n blocks from the first one on are those after n walks.
pub record AreRendered (part : Part) (first n crew : ℕ) (old new : Remembered) (before after : List ℕ) : Type 0 where
  pub world : world_of part.stage.now new.words ≡ walks first n (world_of part.stage.now old.words)
  pub pictures : Pictures part.stage.now new.words
  pub resting : LanesRest part.stage.now (first + n) new.words
  pub long : length new.words ≡ length old.words
  pub sound : after ≡ before ++ sounds part.settings.now first n (world_of part.stage.now old.words)
  pub rounds : AreRounds part.outputs.now part.copies n part.planned.now.jobs crew old.rounds new.rounds
  pub stores : new.stores ≡ old.stores

pub none_rendered : (part : Part) (first crew : ℕ) (old : Remembered) (before : List ℕ) → Pictures part.stage.now old.words → LanesRest part.stage.now first old.words → AreRendered part first 0 crew old old before before
unfolding walks sounds
none_rendered part first crew old before pictures rest =
    let none : first ≡ first + 0 = omega arith in record {
      world = refl;
      pictures = pictures;
      resting = subst (λ b. LanesRest part.stage.now b old.words) none rest;
      long = refl;
      sound = sym (append-nil before);
      rounds = no_rounds_yet part.outputs.now part.copies part.planned.now.jobs crew old.rounds;
      stores = refl;
    }

-- those after them too
pub rendered_on : (part : Part) (first next m k crew workers : ℕ) (old mid new : Remembered) (before between after : List ℕ) → next ≡ first + m → workers ≡ crew
    → AreRendered part first m crew old mid before between → AreRendered part next k workers mid new between after → AreRendered part first (m + k) crew old new before after
rendered_on part first next m k crew workers old mid new before between after is same one other =
    let stage = part.stage.now in
    let settings = part.settings.now in
    let w : World = world_of stage old.words in
    let at : next + k ≡ first + (m + k) = omega (arith, is) in
    record {
      world = other.world ∙ ((λ i. walks (is i) k (one.world i)) ∙ walks_on first m k w);
      pictures = other.pictures;
      resting = subst (λ b. LanesRest stage b new.words) at other.resting;
      long = other.long ∙ one.long;
      sound = other.sound
          ∙ ((λ i. one.sound i ++ sounds settings (is i) k (one.world i))
          ∙ (append_assoc before (sounds settings first m w) (sounds settings (first + m) k (walks first m w))
          ∙ ap (λ (bs : List ℕ). before ++ bs) (sounds_on settings first m k w)));
      rounds = rounds_on part.outputs.now part.copies m k part.planned.now.jobs crew old.rounds mid.rounds new.rounds one.rounds (subst (λ n. AreRounds part.outputs.now part.copies k part.planned.now.jobs n mid.rounds new.rounds) same other.rounds);
      stores = other.stores ∙ one.stores;
    }
