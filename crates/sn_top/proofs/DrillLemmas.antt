-- How many blocks a drill has, and what its outcomes say.
use Rattle.std.proofs.Common.{◌≡◌, ◌<◌, ◌≤◌, ◌+◌, ◌-◌, ◌*◌, ◌/◌, ◌%◌, ◌==◌, nat_le, max, ℕ, zero, suc, Bool, true, false, List, [], ◌∷◌, ◌++◌, map, Some, None, refl, sym, ap, subst, ◌∙◌, arith, rules}
use Rattle.std.specs.Prelude.{IsTrue, if◌then◌else◌, unwrap_or, replicate}
use Rattle.std.specs.List.{AllByRecursion}
use Rattle.std.specs.Io.KnownBytes.{Appends}
use Rattle.std.proofs.lemmas.Bool.{eqb-true}
use Rattle.std.proofs.lemmas.Bool.Decides.{nat_tests}
use Rattle.std.proofs.lemmas.Nat.{mul-le}
use Rattle.sn_ports.specs.Octets.{Octets}
use Rattle.sn_osc.specs.Bytes.{counts_as}
use Rattle.sn_osc.specs.Shape.{MessageShape, Shape, Shapes, message, bundle, none}
use Rattle.sn_pcm.specs.Allowed.{is_rate, is_width, is_within}
use Rattle.sn_pcm.specs.declared.settings.Settings.{Settings}
use Rattle.sn_queue.specs.Steps.{insert, greatest, last_due}
use Rattle.sn_queue.specs.Time.{due, at, key_of, acts_at}
use Rattle.sn_queue.specs.Waiting.{Waiting}
use Rattle.sn_queue.proofs.Order.{All-insert}
use Rattle.sn_queue.proofs.TimeLaws.{due-is, due-at, due-key}
use Rattle.sn_engine.specs.Arriving.{with_offered}
use Rattle.sn_engine.specs.Entries.{Timed, messages_in, entries_of}
use Rattle.sn_engine.specs.Running.{Running, opened}
use Rattle.sn_drill.specs.Line.{drill_line}
use Rattle.sn_drill.specs.Stream.{retuning, beginning, draw, frequency, before, note_at, notes, opening, closing, drill_stream}
use Rattle.sn_drill.proofs.Framed.{message_in, framed}
use Rattle.sn_render.specs.Outcomes.{IsTooLong}
use Rattle.sn_render.specs.Play.{arrive, begun, last_of, sound_of, replies_of}
use Rattle.sn_render.specs.Playing.{ArePlayable, PlayedPackets}
use Rattle.sn_render.proofs.ArrivingLemmas.{frames_playable}
use Rattle.sn_top.specs.Drilling.{packets_of, line_of, AreDrilled, ForDrill, ByDrillWords}

-- ---- settings

pub rate_fits : (s : Settings) → (0 < s.rate) × (s.rate ≤ 96000)
rate_fits s = fits s.rate s.rate_is
  where
    fits : (rate : ℕ) → IsTrue (is_rate rate) → (0 < rate) × (rate ≤ 96000)
    fits rate h = search rules

pub blocks_fit : (blocks : ℕ) → IsTrue (is_within 1 20000 blocks) → (1 ≤ blocks) × (blocks ≤ 20000)
blocks_fit blocks h = (grind (arith, nat_tests), grind (arith, nat_tests))

width_at : (b : Bool) (bits : ℕ) → (bits == 16) ≡ b → IsTrue (is_width bits) → bits ≤ 24
width_at true bits e width = let is : bits ≡ 16 = grind (arith, nat_tests) in omega (arith, is)
width_at false bits e width = let is : bits ≡ 24 = grind (arith, nat_tests) in omega (arith, is)

channels_fit : (channels : ℕ) → IsTrue (is_within 1 8 channels) → channels ≤ 8
channels_fit channels h = grind (arith, nat_tests)

-- the sound of a drill is never too long
pub not_long : (s : Settings) (blocks : ℕ) → blocks ≤ 20000 → IsTooLong s blocks → ⊥
not_long s blocks few long =
    let one = mul-le (blocks * 64) s.channels 1280000 8 (omega (arith, few)) (channels_fit s.channels s.channels_are) in
    let all = mul-le (blocks * 64 * s.channels) s.bits 10240000 24 (omega (arith, one)) (width_at (s.bits == 16) s.bits refl s.bits_are) in
    omega (arith, all, long)

-- ---- an engine at which packets have arrived

-- an engine of one client at which some entries wait
abbrev waits : Settings → ℕ → List Waiting → List (List ℕ) → Running
waits s puts ws replies = record (opened s 0 None 1) { waiting = record { base = 0; rate = s.rate; limit = None; puts = puts; waiting = ws }; replies = replies }

abbrev waiting_of : Settings → ℕ → Timed → Waiting
waiting_of s puts e = record { key = key_of e.tag 0 0 s.rate; number = puts; from = 0; messages = e.messages }

arrives_one : (s : Settings) (x : Shape) (e : Timed) (puts : ℕ) (ws : List Waiting) (replies : List (List ℕ)) → entries_of x ≡ e ∷ []
    → with_offered 0 (entries_of x) (waits s puts ws replies) ≡ waits s (puts + 1) (insert (waiting_of s puts e) ws) replies
arrives_one s x e puts ws replies is = ap (λ (es : List Timed). with_offered 0 es (waits s puts ws replies)) is

-- a packet of one entry, which acts at a boundary up to one
record ActsBy (s : Settings) (most : ℕ) (x : Shape) : Type 0 where
  pub entry : Timed
  pub is : entries_of x ≡ entry ∷ []
  pub early : acts_at entry.tag 0 0 s.rate ≤ most

-- and an engine at which only such ones wait
record Arrived (s : Settings) (most : ℕ) (r : Running) : Type 0 where
  pub puts : ℕ
  pub waiting : List Waiting
  pub replies : List (List ℕ)
  pub is : r ≡ waits s puts waiting replies
  pub early : AllByRecursion (λ (w : Waiting). due w.key 0 s.rate ≤ most) waiting

key_early : (s : Settings) (most puts : ℕ) (e : Timed) → acts_at e.tag 0 0 s.rate ≤ most → due (waiting_of s puts e).key 0 s.rate ≤ most
key_early s most puts e early = let fits = rate_fits s in omega (arith, early, due-key e.tag 0 0 s.rate fits.0 (omega (arith, fits.1)))

one_arrived : (s : Settings) (most : ℕ) (x : Shape) (r : Running) → ActsBy s most x → Arrived s most r → Arrived s most (with_offered 0 (entries_of x) r)
one_arrived s most x r acts a = record {
  puts = a.puts + 1;
  waiting = insert (waiting_of s a.puts acts.entry) a.waiting;
  replies = a.replies;
  is = ap (with_offered 0 (entries_of x)) a.is ∙ arrives_one s x acts.entry a.puts a.waiting a.replies acts.is;
  early = All-insert (λ (w : Waiting). due w.key 0 s.rate ≤ most) (waiting_of s a.puts acts.entry) (key_early s most a.puts acts.entry acts.early) a.waiting a.early;
}

all_arrived : (s : Settings) (most : ℕ) (xs : List Shape) (r : Running) → AllByRecursion (ActsBy s most) xs → Arrived s most r → Arrived s most (arrive xs r)
all_arrived s most [] r acts a = a
all_arrived s most (x ∷ xs) r acts a = all_arrived s most xs (with_offered 0 (entries_of x) r) acts.1 (one_arrived s most x r acts.0 a)

arrive_last : (xs : List Shape) (x : Shape) (r : Running) → arrive (xs ++ x ∷ []) r ≡ with_offered 0 (entries_of x) (arrive xs r)
arrive_last [] x r = refl
arrive_last (y ∷ ys) x r = arrive_last ys x (with_offered 0 (entries_of y) r)

-- ---- the greatest due number

most_of : (f : Waiting → ℕ) (most : ℕ) (ws : List Waiting) → AllByRecursion (λ (w : Waiting). f w ≤ most) ws → unwrap_or (greatest (map f ws)) 0 ≤ most
most_of f most [] all = omega arith
most_of f most (w ∷ ws) all = omega (arith, all.0, most_of f most ws all.1)

least_of : (f : Waiting → ℕ) (w : Waiting) (ws : List Waiting) → f w ≤ unwrap_or (greatest (map f (insert w ws))) 0
least_of f w [] = omega arith
least_of f w (v ∷ vs) = by_key (nat_le v.key w.key) (least_of f w vs)
  where
    by_key : (b : Bool) → f w ≤ unwrap_or (greatest (map f (insert w vs))) 0 → f w ≤ unwrap_or (greatest (map f (if b then v ∷ insert w vs else w ∷ v ∷ vs))) 0
    by_key true further = omega (arith, further)
    by_key false further = omega arith

-- ---- the packets of a drill

counted : (b : Bool) (tag : ℕ) → (tag == 1) ≡ b → (if b then 1 else tag) ≡ tag
counted true tag e = sym (eqb-true tag 1 e)
counted false tag e = refl

acts_early : (b : Bool) (tag rate block : ℕ) → due tag 0 rate ≡ block → (if b then 0 else max (due tag 0 rate) 0) ≤ block
acts_early true tag rate block is = omega arith
acts_early false tag rate block is = omega (arith, is)

acts_there : (b : Bool) (tag rate block : ℕ) → (tag == 1) ≡ b → due tag 0 rate ≡ block → rate ≤ 96000 → 1 ≤ block → (if b then 0 else max (due tag 0 rate) 0) ≡ block
acts_there true tag rate block e is few some =
    let first : due 1 0 rate ≡ block = ap (λ (t : ℕ). due t 0 rate) (sym (eqb-true tag 1 e)) ∙ is in
    absurd (omega (arith, first, due-is 1 0 rate, few, some))
acts_there false tag rate block e is few some = omega (arith, is)

abbrev inner_of : Shape → Shapes
inner_of (message m) = none
inner_of (bundle tag inner) = inner

module _ (s : Settings) where
  due_there : (block : ℕ) → due (at block 0 s.rate) 0 s.rate ≡ block
  due_there block = let fits = rate_fits s in due-at block 0 s.rate fits.0 (omega (arith, fits.1))

  tag_stays : (block : ℕ) → counts_as 1 (at block 0 s.rate) ≡ at block 0 s.rate
  tag_stays block = counted (at block 0 s.rate == 1) (at block 0 s.rate) refl

  early_at : (block most : ℕ) → block ≤ most → acts_at (counts_as 1 (at block 0 s.rate)) 0 0 s.rate ≤ most
  early_at block most few =
      let tag : ℕ = at block 0 s.rate in
      let same : acts_at (counts_as 1 tag) 0 0 s.rate ≡ acts_at tag 0 0 s.rate = ap (λ (t : ℕ). acts_at t 0 0 s.rate) (tag_stays block) in
      omega (arith, same, few, acts_early (tag == 1) tag s.rate block (due_there block))

  there : (block : ℕ) → 1 ≤ block → acts_at (counts_as 1 (at block 0 s.rate)) 0 0 s.rate ≡ block
  there block some =
      let tag : ℕ = at block 0 s.rate in
      let fits = rate_fits s in
      ap (λ (t : ℕ). acts_at t 0 0 s.rate) (tag_stays block) ∙ acts_there (tag == 1) tag s.rate block refl (due_there block) fits.1 some

  message_acts : (block most : ℕ) (m : MessageShape) → block ≤ most → ActsBy s most (before s.rate block (message m))
  message_acts block most m few = record { entry = record { tag = counts_as 1 (at block 0 s.rate); messages = m ∷ [] }; is = refl; early = early_at block most few }

  chosen_acts : (block most freq bus : ℕ) (tunes : Bool) → block ≤ most → ActsBy s most (before s.rate block (if tunes then retuning freq else beginning freq bus))
  chosen_acts block most freq bus true few = message_acts block most (message_in (retuning freq)) few
  chosen_acts block most freq bus false few = message_acts block most (message_in (beginning freq bus)) few

  note_acts : (seed index most : ℕ) → 8 * index + 8 ≤ most → ActsBy s most (note_at seed s.rate index)
  note_acts seed index most few =
      let x : ℕ = draw seed (2 * index + 1) in
      chosen_acts (8 * index + 8) most (frequency (draw seed (2 * index + 2))) (16 + x / 4 % 8) (x % 4 == 3) few

  all_of_last : (P : Shape → Type 0) (xs : List Shape) (x : Shape) → AllByRecursion P xs → P x → AllByRecursion P (xs ++ x ∷ [])
  all_of_last P [] x all one = (one, tt)
  all_of_last P (y ∷ ys) x all one = (all.0, all_of_last P ys x all.1 one)

  notes_act : (seed n most : ℕ) → 8 * n ≤ most → AllByRecursion (ActsBy s most) (notes seed s.rate n)
  unfolding notes
  notes_act seed zero most few = tt
  notes_act seed (suc n) most few =
      all_of_last (ActsBy s most) (notes seed s.rate n) (note_at seed s.rate n) (notes_act seed n most (omega (arith, few))) (note_acts seed n most (omega (arith, few)))

  opening_acts : (most : ℕ) → ActsBy s most opening
  opening_acts most =
      let first : acts_at 0 0 0 s.rate ≡ 0 = refl in
      record { entry = record { tag = 0; messages = messages_in (inner_of opening) }; is = refl; early = omega (arith, first) }

  closing_entry : ℕ → Timed
  closing_entry blocks = record { tag = counts_as 1 (at blocks 0 s.rate); messages = [] }

  -- a drill has as many blocks as its words say
  pub last_is : (seed blocks : ℕ) → 1 ≤ blocks → last_of s (drill_stream seed blocks s.rate) ≡ blocks
  unfolding closing_entry
  last_is seed blocks some =
      let front : List Shape = opening ∷ notes seed s.rate ((blocks - 1) / 8) in
      let last : Shape = closing s.rate blocks in
      let nothing : Arrived s blocks (opened s 0 None 1) = record { puts = 0; waiting = []; replies = replicate 1 []; is = refl; early = tt } in
      let acts : AllByRecursion (ActsBy s blocks) front = (opening_acts blocks, notes_act seed ((blocks - 1) / 8) blocks (omega arith)) in
      let a = all_arrived s blocks front (opened s 0 None 1) acts nothing in
      let w : Waiting = waiting_of s a.puts (closing_entry blocks) in
      let ws : List Waiting = insert w a.waiting in
      let f : Waiting → ℕ = λ (v : Waiting). due v.key 0 s.rate in
      let fits = rate_fits s in
      let acts_last : due w.key 0 s.rate ≡ blocks = due-key (counts_as 1 (at blocks 0 s.rate)) 0 0 s.rate fits.0 (omega (arith, fits.1)) ∙ there blocks some in
      let whole : begun s (front ++ last ∷ []) ≡ waits s (a.puts + 1) ws a.replies =
      arrive_last front last (opened s 0 None 1) ∙ ap (with_offered 0 (entries_of last)) a.is ∙ arrives_one s last (closing_entry blocks) a.puts a.waiting a.replies refl in
      let same : last_of s (front ++ last ∷ []) ≡ unwrap_or (greatest (map f ws)) 0 = ap (λ (r : Running). unwrap_or (last_due r.waiting) 0) whole in
      let most : unwrap_or (greatest (map f ws)) 0 ≤ blocks = most_of f blocks ws (All-insert (λ (v : Waiting). f v ≤ blocks) w (omega (arith, acts_last)) a.waiting a.early) in
      let least : f w ≤ unwrap_or (greatest (map f ws)) 0 = least_of f w a.waiting in
      omega (arith, same, most, least, acts_last)

-- ---- what is played

pub playable : (s : Settings) (seed blocks : ℕ) (xs : List Shape) → blocks ≤ 20000 → xs ≡ drill_stream seed blocks s.rate → ArePlayable xs
playable s seed blocks xs few are =
    let (bytes, frames, size) = framed seed blocks s.rate (rate_fits s).0 few in
    subst (λ (ys : List Shape). ArePlayable ys) (sym are) (frames_playable (drill_stream seed blocks s.rate) bytes frames size)

-- what a sink holds that was empty
taken_all : (old new whole : List ℕ) → old ≡ [] → Appends (Some old) (Some new) whole → new ≡ whole
taken_all old new whole empty takes = takes ∙ ap (λ (xs : List ℕ). xs ++ whole) empty

pub drilled : (s : Settings) (seed blocks n : ℕ) (xs : List Shape) (sound_old sound_new replies_old replies_new : List ℕ) → 1 ≤ blocks → xs ≡ drill_stream seed blocks s.rate → sound_old ≡ [] → replies_old ≡ []
    → PlayedPackets s xs n (Some sound_old) (Some sound_new) (Some replies_old) (Some replies_new)
    → (n ≡ last_of s (packets_of s seed blocks)) × (n ≡ blocks) × (drill_line blocks sound_new replies_new ≡ line_of s seed blocks)
drilled s seed blocks n xs sound_old sound_new replies_old replies_new some are silent unsaid played =
    let last : n ≡ last_of s (packets_of s seed blocks) = played.blocks_are ∙ ap (λ (ys : List Shape). last_of s ys) are in
    let heard : sound_new ≡ sound_of s (packets_of s seed blocks) = taken_all sound_old sound_new (sound_of s xs) silent played.sound ∙ ap (λ (ys : List Shape). sound_of s ys) are in
    let told : replies_new ≡ replies_of s (packets_of s seed blocks) = taken_all replies_old replies_new (replies_of s xs) unsaid played.replies ∙ ap (λ (ys : List Shape). replies_of s ys) are in
    (last, last ∙ last_is s seed blocks some, λ i. drill_line blocks (heard i) (told i))

-- ---- the words

pub by_drill : (words : List Octets) (s : Settings) (seed blocks : ℕ) (P : Settings → ℕ → ℕ → Type 0) → AreDrilled words s seed blocks → P s seed blocks → ByDrillWords words P
by_drill words s seed blocks P chosen holds = subst (λ r. ForDrill words r P) (sym chosen) (s, chosen, holds)
