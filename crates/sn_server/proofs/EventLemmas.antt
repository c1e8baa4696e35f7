-- A connection that is served, event after event, to its end.
use Rattle.std.proofs.Common.{◌≡◌, ◌⊎◌, inl, inr, ℕ, ◌<◌, Bool, false, Result, Ok, Err, List, [], ◌∷◌, ◌++◌, length, take, drop, Option, Some, None, refl, sym, ap, subst, ◌∙◌, arith}
use Rattle.std.specs.Prelude.{if◌then◌else◌}
use Rattle.std.specs.Io.KnownBytes.{Appends, Keeps}
use Rattle.std.specs.Result.{IsErrAnd}
use Rattle.std.proofs.KnownBytes.{Appends-kept, Appends-nil}
use Rattle.std.proofs.lemmas.List.{length-append, length-drop, length-take}
use Rattle.sn_ports.specs.Links.{LinkEvent, bytes, ticks, Takes, Feeds, Known, KeepsEvents}
use Rattle.sn_ports.specs.declared.links.Fed.{Fed}
use Rattle.sn_ports.specs.declared.links.Fed.TheVariants as fed
use Rattle.sn_osc.specs.Framing.{Framing}
use Rattle.sn_pcm.specs.declared.settings.Settings.{Settings}
use Rattle.sn_engine.specs.Running.{Running, opened}
use Rattle.sn_server.specs.declared.ended.Ended.{Ended}
use Rattle.sn_server.specs.declared.ended.Ended.TheVariants.{Quit, NoMemory, Closed, Cut, BadFrame, LinkFault, SoundFault, Worn}
use Rattle.sn_render.specs.Play.{to_first}
use Rattle.sn_server.specs.PlayEvents.{Live, Over, Course, going, ended, event, is_worn, worn, unless_worn, after_event, after_events, at_end, closing, closed, beginning, over_events, play_events, bytes_in}
use Rattle.sn_server.specs.Served.{TakesBetween, TakesEach, WhileOpen, IsCutShort, ByEnd, IsServed, GivesEnd, AtClose}
use Rattle.sn_server.specs.Serving.{IsLive, IsOpened, IsReady, HasEnded, GoesOn, IsCut, Follows, IsWornOut, HasLeft, TookEvent, EndsBy, IsStepCut, Took, IsServing}
use Rattle.sn_server.proofs.JoiningLemmas.{some_left, events_both}
use Rattle.sn_render.proofs.StepLemmas.{grows_not}
use Rattle.sn_server.proofs.GrowingLemmas.{grows_end, live_end}
use Rattle.sn_server.proofs.ServingLemmas.{by_end, by_end_so, worn_is, worn_out, cut_here, some_fed, some_blocks}
use Rattle.sn_server.proofs.TakenLemmas.{IsClosing, whole_end}

-- ---- known events

pub known_so : (left_old left_new : Option (List LinkEvent)) (P Q : List LinkEvent → List LinkEvent → Type 0) → ((a b : List LinkEvent) → P a b → Q a b) → Known left_old left_new P → Known left_old left_new Q
known_so None left_new P Q f k = tt
known_so (Some a) None P Q f k = absurd k
known_so (Some a) (Some b) P Q f k = f a b k

pub known_same : (left_old : Option (List LinkEvent)) (P : List LinkEvent → List LinkEvent → Type 0) → ((a : List LinkEvent) → P a a) → Known left_old left_old P
known_same None P f = tt
known_same (Some a) P f = f a

-- a relation, and then another
known_both : (left_old left_mid left_new : Option (List LinkEvent)) (P Q R : List LinkEvent → List LinkEvent → Type 0) → ((a b c : List LinkEvent) → P a b → Q b c → R a c) → Known left_old left_mid P → Known left_mid left_new Q → Known left_old left_new R
known_both None left_mid left_new P Q R f p q = tt
known_both (Some a) None left_new P Q R f p q = absurd p
known_both (Some a) (Some b) None P Q R f p q = absurd q
known_both (Some a) (Some b) (Some c) P Q R f p q = f a b c p q

pub known_kept : (left_old left_mid left_new : Option (List LinkEvent)) (P : List LinkEvent → List LinkEvent → Type 0) → Known left_old left_mid P → KeepsEvents left_mid left_new → Known left_old left_new P
known_kept left_old left_mid left_new P k keeps = known_both left_old left_mid left_new P (λ a b. b ≡ a) P (λ a b c p q. subst (λ (x : List LinkEvent). P a x) (sym q) p) k keeps

takes_both : (es fs : List LinkEvent) (a b c : List LinkEvent) → TakesEach a es b → TakesEach b fs c → TakesEach a (es ++ fs) c
takes_both [] fs a b c p q = subst (λ (x : List LinkEvent). TakesEach x fs c) p q
takes_both (e ∷ es) fs a b c p q =
    let (between, first, others) = p in
    (between, first, takes_both es fs between b c others q)

-- events, and then others, while it goes on
open_both : (es fs : List LinkEvent) (c : Course) → WhileOpen es c → WhileOpen fs (after_events es c) → WhileOpen (es ++ fs) c
open_both [] fs c p q = q
open_both (e ∷ es) fs (ended o) p q = absurd p
open_both (e ∷ es) fs (going v) p q = (p.0, open_both es fs (after_event e (going v)) p.1 q)

-- ---- one event

pub fed_bytes : (left_old left_new : Option (List LinkEvent)) (into : List ℕ) (n : ℕ) (x : Fed) → x ≡ fed.Bytes n → Known left_old left_new (λ a b. Feeds a b into x) → Known left_old left_new (λ old new. Takes old new (bytes (take n into)))
fed_bytes left_old left_new into n x is k = subst (λ (y : Fed). Known left_old left_new (λ a b. Feeds a b into y)) is k

pub fed_ticks : (left_old left_new : Option (List LinkEvent)) (into : List ℕ) (n : ℕ) (x : Fed) → x ≡ fed.Ticks n → Known left_old left_new (λ a b. Feeds a b into x) → Known left_old left_new (λ old new. Takes old new (ticks n))
fed_ticks left_old left_new into n x is k = subst (λ (y : Fed). Known left_old left_new (λ a b. Feeds a b into y)) is k

pub fed_end : (left_old left_new : Option (List LinkEvent)) (into : List ℕ) (x : Fed) → x ≡ fed.End → Known left_old left_new (λ a b. Feeds a b into x) → Known left_old left_new (λ old new. (old ≡ []) × (new ≡ []))
fed_end left_old left_new into x is k = subst (λ (y : Fed). Known left_old left_new (λ a b. Feeds a b into y)) is k

pub live_kept : (sound_old sound_new sent_old sent_mid sent_new : Option (List ℕ)) (v : Live) (e : Running) (f : Framing) → IsLive sound_old sound_new sent_old sent_mid v e f → Keeps sent_mid sent_new → IsLive sound_old sound_new sent_old sent_new v e f
live_kept sound_old sound_new sent_old sent_mid sent_new v e f live kept =
    record { alone = live.alone; engine = live.engine; framer = live.framer; sound = live.sound; sent = Appends-kept sent_old sent_mid sent_new (to_first v.play.replies) live.sent kept }

live_left : (sound_old sound_new sent_old sent_new : Option (List ℕ)) (v : Live) (e : Running) (f : Framing) → IsLive sound_old sound_new sent_old sent_new v e f → HasLeft e f → is_worn v ≡ false
live_left sound_old sound_new sent_old sent_new v e f live enough =
    some_left v.framing.fed v.play.block (some_fed sound_old sound_new sent_old sent_new v e f live enough) (some_blocks sound_old sound_new sent_old sent_new v e f live enough)

goes : (v : Live) (c : Course) → is_worn v ≡ false → unless_worn v c ≡ c
goes v c left = ap (λ (b : Bool). if b then ended (worn v) else c) left

-- an event that was taken whole gives what follows
pub took_event : (left_old left_new : Option (List LinkEvent)) (sound_old sound_mid sound_new sent_old sent_mid sent_new : Option (List ℕ)) (v : Live) (e0 e : Running) (f0 f : Framing) (x : LinkEvent) (r : Result (Unit {0}) Ended)
    → IsLive sound_old sound_mid sent_old sent_mid v e0 f0 → HasLeft e0 f0 → Known left_old left_new (λ old new. Takes old new x) → Follows sound_old sound_new sent_old sent_new v (event x v) e f r → Took left_old left_new sound_old sound_new sent_old sent_new v e f r
took_event left_old left_new sound_old sound_mid sound_new sent_old sent_mid sent_new v e0 e f0 f x (Ok u) live enough taken on =
    let open_still = live_left sound_old sound_mid sent_old sent_mid v e0 f0 live enough in
    let at : after_event x (going v) ≡ event x v = goes v (event x v) open_still in
    record { event = x; while_open = open_still; taken = taken; gives = record { live = on.live; course = at ∙ on.course; stands = on.stands } }
took_event left_old left_new sound_old sound_mid sound_new sent_old sent_mid sent_new v e0 e f0 f x (Err how) live enough taken on =
    let open_still = live_left sound_old sound_mid sent_old sent_mid v e0 f0 live enough in
    let at : after_event x (going v) ≡ event x v = goes v (event x v) open_still in
    let taken_one = known_so left_old left_new (λ old new. Takes old new x) (λ old new. TakesEach old (x ∷ []) new) (λ a b t. (b, t, refl)) taken in
    by_end_so how (HasEnded sound_old sound_new sent_old sent_new (event x v) how) (EndsBy left_old left_new sound_old sound_new sent_old sent_new (going v) how) (IsCut sound_old sound_new sent_old sent_new v (event x v)) (IsStepCut left_old left_new sound_old sound_new sent_old sent_new v) (λ h. record {
      events = x ∷ [];
      taken = taken_one;
      while_open = (open_still, tt);
      over = h.over;
      course = ap (λ c. at_end c) (at ∙ h.course);
      ending = h.ending;
      sound = h.sound;
      sent = h.sent;
    }) (λ h. record {
      last = x ∷ [];
      one = omega arith;
      taken = taken_one;
      while_open = (open_still, tt);
      cut = subst (λ (c : Course). IsCut sound_old sound_new sent_old sent_new v c) (sym at) h;
    }) on

-- no event was taken
pub none_taken : (left_old left_new : Option (List LinkEvent)) (sound_old sound_new sent_old sent_new : Option (List ℕ)) (v : Live) (e : Running) (f : Framing) → IsLive sound_old sound_new sent_old sent_new v e f → KeepsEvents left_old left_new
    → IsStepCut left_old left_new sound_old sound_new sent_old sent_new v
none_taken left_old left_new sound_old sound_new sent_old sent_new v e f live keeps = record {
  last = [];
  one = omega arith;
  taken = keeps;
  while_open = tt;
  cut = cut_here sound_old sound_new sent_old sent_new v e f (going v) live (grows_end v.play v (grows_not v.play));
}

-- nothing more came
pub took_none : (left_old left_new : Option (List LinkEvent)) (sound_old sound_new sent_old sent_new : Option (List ℕ)) (v : Live) (e : Running) (f : Framing) (how : Ended) → IsLive sound_old sound_new sent_old sent_new v e f → HasLeft e f
    → Known left_old left_new (λ old new. (old ≡ []) × (new ≡ [])) → how ≡ closing f.kept → Took left_old left_new sound_old sound_new sent_old sent_new v e f (Err how)
took_none left_old left_new sound_old sound_new sent_old sent_new v e f how live enough none is =
    let keeps = known_so left_old left_new (λ old new. (old ≡ []) × (new ≡ [])) (λ old new. new ≡ old) (λ a b t. t.1 ∙ sym t.0) none in
    by_end how (EndsBy left_old left_new sound_old sound_new sent_old sent_new (going v) how) (IsStepCut left_old left_new sound_old sound_new sent_old sent_new v) (record {
      events = [];
      taken = keeps;
      while_open = tt;
      over = closed v;
      course = ap (λ (b : Bool). if b then worn v else closed v) (live_left sound_old sound_new sent_old sent_new v e f live enough);
      ending = sym (is ∙ ap (λ (g : Framing). closing g.kept) live.framer);
      sound = live.sound;
      sent = live.sent;
    }) (none_taken left_old left_new sound_old sound_new sent_old sent_new v e f live keeps)

pub none_at_close : (how : Ended) (left_old left_new : Option (List LinkEvent)) → Known left_old left_new (λ old new. (old ≡ []) × (new ≡ [])) → AtClose how left_old left_new
none_at_close Closed left_old left_new none = known_so left_old left_new (λ old new. (old ≡ []) × (new ≡ [])) (λ old new. new ≡ []) (λ a b t. t.1) none
none_at_close (Cut kept) left_old left_new none = known_so left_old left_new (λ old new. (old ≡ []) × (new ≡ [])) (λ old new. new ≡ []) (λ a b t. t.1) none
none_at_close Quit left_old left_new none = tt
none_at_close NoMemory left_old left_new none = tt
none_at_close (BadFrame size) left_old left_new none = tt
none_at_close LinkFault left_old left_new none = tt
none_at_close SoundFault left_old left_new none = tt
none_at_close (Worn n blocks) left_old left_new none = tt

-- if nothing more came, nothing is left of what the events were taken from
pub close_on : (how : Ended) (left_old left_mid left_new : Option (List LinkEvent)) (es : List LinkEvent) → Known left_old left_mid (λ old new. TakesEach old es new) → AtClose how left_mid left_new → AtClose how left_old left_new
close_on Closed left_old left_mid left_new es taken none = known_both left_old left_mid left_new (λ old new. TakesEach old es new) (λ old new. new ≡ []) (λ old new. new ≡ []) (λ a b c p q. q) taken none
close_on (Cut kept) left_old left_mid left_new es taken none = known_both left_old left_mid left_new (λ old new. TakesEach old es new) (λ old new. new ≡ []) (λ old new. new ≡ []) (λ a b c p q. q) taken none
close_on Quit left_old left_mid left_new es taken none = tt
close_on NoMemory left_old left_mid left_new es taken none = tt
close_on (BadFrame size) left_old left_mid left_new es taken none = tt
close_on LinkFault left_old left_mid left_new es taken none = tt
close_on SoundFault left_old left_mid left_new es taken none = tt
close_on (Worn n blocks) left_old left_mid left_new es taken none = tt

-- it was worn out before an event was asked for
pub took_worn : (left_old : Option (List LinkEvent)) (sound_old sound_new sent_old sent_new : Option (List ℕ)) (v : Live) (e : Running) (f : Framing) (r : Result (Unit {0}) Ended) (how : Ended) → IsErrAnd r (λ k. k ≡ how)
    → IsLive sound_old sound_new sent_old sent_new v e f → IsWornOut e f how → Took left_old left_old sound_old sound_new sent_old sent_new v e f r
took_worn left_old sound_old sound_new sent_old sent_new v e f (Ok x) how same live w = absurd same
took_worn left_old sound_old sound_new sent_old sent_new v e f (Err k) how same live w =
    let is = worn_is sound_old sound_new sent_old sent_new v e f how live w in
    let keeps = known_same left_old (λ old new. new ≡ old) (λ a. refl) in
    worn_out k f.fed e.block (EndsBy left_old left_old sound_old sound_new sent_old sent_new (going v) k) (IsStepCut left_old left_old sound_old sound_new sent_old sent_new v) (same ∙ w.numbers) (record {
      events = [];
      taken = keeps;
      while_open = tt;
      over = worn v;
      course = ap (λ (b : Bool). if b then worn v else closed v) is.0;
      ending = is.1 ∙ sym same;
      sound = live.sound;
      sent = live.sent;
    })

-- ---- event after event

begun_live : (s : Settings) (base : ℕ) (sound_old sent_old : Option (List ℕ)) (e : Running) (f : Framing) → e ≡ opened s base (Some 65536) 1 → f ≡ record { kept = []; fed = 0 } → IsLive sound_old sound_old sent_old sent_old (beginning s base) e f
begun_live s base sound_old sent_old e f engine framer = record { alone = refl; engine = engine; framer = framer; sound = Appends-nil sound_old; sent = Appends-nil sent_old }

pub begins_serving : (s : Settings) (base : ℕ) (left_old : Option (List LinkEvent)) (sound_old sent_old : Option (List ℕ)) (e : Running) (f : Framing) → e ≡ opened s base (Some 65536) 1 → f ≡ record { kept = []; fed = 0 }
    → IsServing s base left_old left_old sound_old sound_old sent_old sent_old e f
begins_serving s base left_old sound_old sent_old e f engine framer = record {
  events = [];
  taken = known_same left_old (λ old new. new ≡ old) (λ a. refl);
  while_open = tt;
  live = beginning s base;
  course = refl;
  stands = begun_live s base sound_old sent_old e f engine framer;
}

-- the engine of the settings and of the time with which it was opened
pub is_opened : (s : Settings) (base : ℕ) (e : Running) → e ≡ opened s base (Some 65536) 1 → IsOpened e
is_opened s base e engine = subst IsOpened (sym engine) refl

pub opened_gives : (s : Settings) (base : ℕ) (e : Running) (P : Settings → ℕ → Type 0) → e ≡ opened s base (Some 65536) 1 → P e.settings e.waiting.base → P s base
opened_gives s base e P engine h = subst (λ (r : Running). P r.settings r.waiting.base) engine h

pub begins_ready : (s : Settings) (base : ℕ) (e : Running) (f : Framing) → e ≡ opened s base (Some 65536) 1 → f ≡ record { kept = []; fed = 0 } → IsReady e f
begins_ready s base e f engine framer = record {
  standing = ap (λ (r : Running). r.standing) engine;
  silent = ap (λ (r : Running). r.sound) engine;
  said = ap (λ (r : Running). r.replies) engine;
  puts = omega (arith, ap (λ (r : Running). r.waiting.puts) engine, ap (λ (g : Framing). length g.kept) framer, ap (λ (g : Framing). g.fed) framer);
  fed = omega (arith, ap (λ (g : Framing). g.fed) framer);
  kept = omega (arith, ap (λ (g : Framing). length g.kept) framer);
}

pub serves_on : (s : Settings) (base : ℕ) (left_old left_mid left_new : Option (List LinkEvent)) (sound_old sound_mid sound_new sent_old sent_mid sent_new : Option (List ℕ)) (e0 e1 : Running) (f0 f1 : Framing) → (i : IsServing s base left_old left_mid sound_old sound_mid sent_old sent_mid e0 f0)
    → TookEvent left_mid left_new i.live (λ x. GoesOn sound_old sound_new sent_old sent_new (after_event x (going i.live)) e1 f1) → IsServing s base left_old left_new sound_old sound_new sent_old sent_new e1 f1
serves_on s base left_old left_mid left_new sound_old sound_mid sound_new sent_old sent_mid sent_new e0 e1 f0 f1 i t =
    let x = t.event in
    record {
      events = i.events ++ x ∷ [];
      taken = known_both left_old left_mid left_new (λ old new. TakesEach old i.events new) (λ old new. Takes old new x) (λ old new. TakesEach old (i.events ++ x ∷ []) new) (λ a b c p q. takes_both i.events (x ∷ []) a b c p (c, q, refl)) i.taken t.taken;
      while_open = open_both i.events (x ∷ []) (going (beginning s base)) i.while_open (subst (λ c. WhileOpen (x ∷ []) c) (sym i.course) (t.while_open, tt));
      live = t.gives.live;
      course = events_both i.events (x ∷ []) (going (beginning s base)) ∙ ap (λ c. after_event x c) i.course ∙ t.gives.course;
      stands = t.gives.stands;
    }

-- what was taken before a step, and in it
known_on : (s : Settings) (base : ℕ) (left_old left_mid left_new : Option (List LinkEvent)) (sound_old sound_mid sent_old sent_mid : Option (List ℕ)) (e : Running) (f : Framing) (es : List LinkEvent) → (i : IsServing s base left_old left_mid sound_old sound_mid sent_old sent_mid e f)
    → Known left_mid left_new (λ old new. TakesEach old es new) → Known left_old left_new (λ old new. TakesEach old (i.events ++ es) new)
known_on s base left_old left_mid left_new sound_old sound_mid sent_old sent_mid e f es i taken =
    known_both left_old left_mid left_new (λ old new. TakesEach old i.events new) (λ old new. TakesEach old es new) (λ old new. TakesEach old (i.events ++ es) new) (λ a b c p q. takes_both i.events es a b c p q) i.taken taken

open_on : (s : Settings) (base : ℕ) (left_old left_mid : Option (List LinkEvent)) (sound_old sound_mid sent_old sent_mid : Option (List ℕ)) (e : Running) (f : Framing) (es : List LinkEvent) → (i : IsServing s base left_old left_mid sound_old sound_mid sent_old sent_mid e f)
    → WhileOpen es (going i.live) → WhileOpen (i.events ++ es) (going (beginning s base))
open_on s base left_old left_mid sound_old sound_mid sent_old sent_mid e f es i on = open_both i.events es (going (beginning s base)) i.while_open (subst (λ c. WhileOpen es c) (sym i.course) on)

course_on : (s : Settings) (base : ℕ) (left_old left_mid : Option (List LinkEvent)) (sound_old sound_mid sent_old sent_mid : Option (List ℕ)) (e : Running) (f : Framing) (es : List LinkEvent) → (i : IsServing s base left_old left_mid sound_old sound_mid sent_old sent_mid e f)
    → over_events s base (i.events ++ es) ≡ at_end (after_events es (going i.live))
course_on s base left_old left_mid sound_old sound_mid sent_old sent_mid e f es i = ap (λ c. at_end c) (events_both i.events es (going (beginning s base)) ∙ ap (after_events es) i.course)

-- what was taken lies between what others give
between_same : (old new : Option (List ℕ)) (a b c d : List ℕ) → a ≡ b → c ≡ d → TakesBetween old new b d → TakesBetween old new a c
between_same old new a b c d least most h = subst (λ (x : List ℕ). TakesBetween old new x c) (sym least) (subst (λ (x : List ℕ). TakesBetween old new b x) (sym most) h)

pub cut_short : (s : Settings) (base : ℕ) (left_old left_mid left_new : Option (List LinkEvent)) (sound_old sound_mid sound_new sent_old sent_mid sent_new : Option (List ℕ)) (e : Running) (f : Framing) → (i : IsServing s base left_old left_mid sound_old sound_mid sent_old sent_mid e f)
    → IsStepCut left_mid left_new sound_old sound_new sent_old sent_new i.live → IsCutShort s base left_old left_new sound_old sound_new sent_old sent_new
cut_short s base left_old left_mid left_new sound_old sound_mid sound_new sent_old sent_mid sent_new e f i h =
    let first : (over_events s base i.events).play ≡ i.live.play = ap (λ (c : Course). (at_end c).play) i.course ∙ live_end i.live in
    let all : over_events s base (i.events ++ h.last) ≡ at_end (after_events h.last (going i.live)) = course_on s base left_old left_mid sound_old sound_mid sent_old sent_mid e f h.last i in
    record {
      whole = i.events;
      last = h.last;
      one = h.one;
      taken = known_on s base left_old left_mid left_new sound_old sound_mid sent_old sent_mid e f h.last i h.taken;
      while_open = open_on s base left_old left_mid sound_old sound_mid sent_old sent_mid e f h.last i h.while_open;
      sound = between_same sound_old sound_new (play_events s base i.events).sound i.live.play.sound (play_events s base (i.events ++ h.last)).sound (at_end (after_events h.last (going i.live))).play.sound
          (ap (λ (p : Running). p.sound) first) (ap (λ (o : Over). o.play.sound) all) h.cut.sound;
      sent = between_same sent_old sent_new (play_events s base i.events).sent (to_first i.live.play.replies) (play_events s base (i.events ++ h.last)).sent (to_first (at_end (after_events h.last (going i.live))).play.replies)
          (ap (λ (p : Running). to_first p.replies) first) (ap (λ (o : Over). to_first o.play.replies) all) h.cut.sent;
    }

-- memory ran out before an event was asked for
pub serves_nothing : (s : Settings) (base : ℕ) (left : Option (List LinkEvent)) (sound sent : Option (List ℕ)) → GivesEnd s base left left sound sound sent sent NoMemory
serves_nothing s base left sound sent =
    let e = opened s base (Some 65536) 1 in
    let f : Framing = record { kept = []; fed = 0 } in
    let i = begins_serving s base left sound sent e f refl refl in
    cut_short s base left left left sound sound sound sent sent sent e f i (none_taken left left sound sound sent sent i.live e f i.stands (known_same left (λ a b. b ≡ a) (λ a. refl)))

pub serves_to : (s : Settings) (base : ℕ) (left_old left_mid left_new : Option (List LinkEvent)) (sound_old sound_mid sound_new sent_old sent_mid sent_new : Option (List ℕ)) (e : Running) (f : Framing) (how : Ended) → (i : IsServing s base left_old left_mid sound_old sound_mid sent_old sent_mid e f)
    → ByEnd how (EndsBy left_mid left_new sound_old sound_new sent_old sent_new (going i.live) how) (IsStepCut left_mid left_new sound_old sound_new sent_old sent_new i.live) → GivesEnd s base left_old left_new sound_old sound_new sent_old sent_new how
serves_to s base left_old left_mid left_new sound_old sound_mid sound_new sent_old sent_mid sent_new e f how i given_end =
    by_end_so how (EndsBy left_mid left_new sound_old sound_new sent_old sent_new (going i.live) how) (IsServed s base left_old left_new sound_old sound_new sent_old sent_new how)
    (IsStepCut left_mid left_new sound_old sound_new sent_old sent_new i.live) (IsCutShort s base left_old left_new sound_old sound_new sent_old sent_new)
    (λ h.
    let whole : over_events s base (i.events ++ h.events) ≡ h.over = course_on s base left_old left_mid sound_old sound_mid sent_old sent_mid e f h.events i ∙ h.course in
    record {
      events = i.events ++ h.events;
      taken = known_on s base left_old left_mid left_new sound_old sound_mid sent_old sent_mid e f h.events i h.taken;
      while_open = open_on s base left_old left_mid sound_old sound_mid sent_old sent_mid e f h.events i h.while_open;
      ending = ap (λ (o : Over). o.ending) whole ∙ h.ending;
      sound = subst (λ (o : Over). Appends sound_old sound_new o.play.sound) (sym whole) h.sound;
      sent = subst (λ (o : Over). Appends sent_old sent_new (to_first o.play.replies)) (sym whole) h.sent;
    })
    (cut_short s base left_old left_mid left_new sound_old sound_mid sound_new sent_old sent_mid sent_new e f i)
    given_end

-- the room for bytes stays as long
pub as_long : (len : ℕ) (items new : List ℕ) → len ≡ length items → length new ≡ length items → length (take len (new ++ drop (length new) items)) ≡ length items
as_long len items new whole same = omega (arith, whole, same, length-take len (new ++ drop (length new) items), length-append new (drop (length new) items), length-drop (length new) items)

-- ---- all events

closes : (how e : Ended) (left_old new : List LinkEvent) → AtClose how (Some left_old) (Some new) → e ≡ how → IsClosing e → new ≡ []
closes Closed e left_old new none is c = none
closes (Cut kept) e left_old new none is c = none
closes Quit e left_old new none is (inl c) = absurd cc
closes Quit e left_old new none is (inr c) = let (n, same) = c in absurd cc
closes NoMemory e left_old new none is (inl c) = absurd cc
closes NoMemory e left_old new none is (inr c) = let (n, same) = c in absurd cc
closes (BadFrame size) e left_old new none is (inl c) = absurd cc
closes (BadFrame size) e left_old new none is (inr c) = let (n, same) = c in absurd cc
closes LinkFault e left_old new none is (inl c) = absurd cc
closes LinkFault e left_old new none is (inr c) = let (n, same) = c in absurd cc
closes SoundFault e left_old new none is (inl c) = absurd cc
closes SoundFault e left_old new none is (inr c) = let (n, same) = c in absurd cc
closes (Worn m blocks) e left_old new none is (inl c) = absurd cc
closes (Worn m blocks) e left_old new none is (inr c) = let (n, same) = c in absurd cc

all_given : (s : Settings) (base : ℕ) (events : List LinkEvent) (left_new : Option (List LinkEvent)) (sound_old sound_new sent_old sent_new : Option (List ℕ)) (how : Ended) → bytes_in events < 4611686018427387904
    → IsServed s base (Some events) left_new sound_old sound_new sent_old sent_new how → AtClose how (Some events) left_new → how ≡ (play_events s base events).ending
all_given s base events None sound_old sound_new sent_old sent_new how few served none = absurd served.taken
all_given s base events (Some new) sound_old sound_new sent_old sent_new how few served none =
    sym served.ending ∙ sym (ap (λ (o : Over). o.ending) (whole_end s base served.events events new few served.taken (λ c. closes how (over_events s base served.events).ending events new none served.ending c)))

completes_told : (s : Settings) (base : ℕ) (events : List LinkEvent) (left_new : Option (List LinkEvent)) (sound_old sound_new sent_old sent_new : Option (List ℕ)) (how : Ended) (A B : Type 0) → GivesEnd s base (Some events) left_new sound_old sound_new sent_old sent_new how → AtClose how (Some events) left_new
    → (how ≡ LinkFault → A) → (how ≡ SoundFault → B) → bytes_in events < 4611686018427387904 → (A → ⊥) → (B → ⊥) → (how ≡ (play_events s base events).ending) ⊎ (how ≡ NoMemory)
completes_told s base events left_new sound_old sound_new sent_old sent_new Quit A B served none link sound few a b = inl (all_given s base events left_new sound_old sound_new sent_old sent_new Quit few served none)
completes_told s base events left_new sound_old sound_new sent_old sent_new Closed A B served none link sound few a b = inl (all_given s base events left_new sound_old sound_new sent_old sent_new Closed few served none)
completes_told s base events left_new sound_old sound_new sent_old sent_new (Cut kept) A B served none link sound few a b = inl (all_given s base events left_new sound_old sound_new sent_old sent_new (Cut kept) few served none)
completes_told s base events left_new sound_old sound_new sent_old sent_new (BadFrame size) A B served none link sound few a b = inl (all_given s base events left_new sound_old sound_new sent_old sent_new (BadFrame size) few served none)
completes_told s base events left_new sound_old sound_new sent_old sent_new (Worn n blocks) A B served none link sound few a b = inl (all_given s base events left_new sound_old sound_new sent_old sent_new (Worn n blocks) few served none)
completes_told s base events left_new sound_old sound_new sent_old sent_new NoMemory A B served none link sound few a b = inr refl
completes_told s base events left_new sound_old sound_new sent_old sent_new LinkFault A B served none link sound few a b = absurd (a (link refl))
completes_told s base events left_new sound_old sound_new sent_old sent_new SoundFault A B served none link sound few a b = absurd (b (sound refl))

pub completes : (s : Settings) (base : ℕ) (left_old left_new : Option (List LinkEvent)) (sound_old sound_new sent_old sent_new : Option (List ℕ)) (how : Ended) (A B : Type 0) → GivesEnd s base left_old left_new sound_old sound_new sent_old sent_new how → AtClose how left_old left_new
    → (how ≡ LinkFault → A) → (how ≡ SoundFault → B) → (events : List LinkEvent) → left_old ≡ Some events → bytes_in events < 4611686018427387904 → (A → ⊥) → (B → ⊥)
    → (how ≡ (play_events s base events).ending) ⊎ (how ≡ NoMemory)
completes s base None left_new sound_old sound_new sent_old sent_new how A B served none link sound events told few a b = absurd cc
completes s base (Some es) left_new sound_old sound_new sent_old sent_new how A B served none link sound events told few a b =
    let same : es ≡ events = cc in
    completes_told s base events left_new sound_old sound_new sent_old sent_new how A B (subst (λ (x : List LinkEvent). GivesEnd s base (Some x) left_new sound_old sound_new sent_old sent_new how) same served) (subst (λ (x : List LinkEvent). AtClose how (Some x) left_new) same none) link sound few a b
