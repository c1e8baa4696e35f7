-- What is found in the bytes of a WAV file is what is written there.
use Rattle.std.proofs.Common.{◌≡◌, ◌≤◌, ◌<◌, ◌+◌, ◌%◌, ℕ, zero, suc, List, ◌++◌, length, take, drop, Option, Some, None, Bool, true, false, not, ◌&&◌, ◌||◌, refl, sym, ap, ◌∙◌, subst, arith, take-append-drop, le_refl}
use Rattle.std.specs.Prelude.{if◌then◌else◌, nat_lt, nat_le, bytes_eq, option_and_then, codes}
use Rattle.std.specs.Int.{w32, from_le_bytes}
use Rattle.std.proofs.lemmas.Bool.{ltb-false, leb-true, le-leb, and_parts, and_from}
use Rattle.std.proofs.lemmas.Bool.Decides.{Decides-eqb}
use Rattle.std.proofs.lemmas.Slice.Eq.{starts_is}
use Rattle.std.proofs.lemmas.List.{length-append, length-drop, length-take-le, take_at, drop_at, drop-drop}
use Rattle.sn_shelf.specs.Waves.{Wave, first_named, first_of, is_named, is_headed, size_of, content_of, behind, format_name, data_name, is_format, data_behind, wave_of, wave_from, wave_in}
use Rattle.sn_shelf.specs.WaveForm.{IsChunk, Passed, is_data, IsWave}
use Rattle.sn_shelf.proofs.WaveLemmas.{first_by, pass, stop, no_head, behind_head, from_format}

-- ---- names

named_is : (name chunk : List ℕ) → is_named name chunk ≡ true → chunk ≡ name ++ drop (length name) chunk
named_is name chunk h = (starts_is Decides-eqb chunk name (is_named name chunk) refl).0 h

named_from : (name chunk rest : List ℕ) → chunk ≡ name ++ rest → is_named name chunk ≡ true
named_from name chunk rest e = (starts_is Decides-eqb chunk name (is_named name chunk) refl).1 rest e

-- whether a name is one of two
abbrev either : List ℕ → List ℕ → List ℕ → Bool
either one other name = bytes_eq one name || bytes_eq other name

tested : (one other chunk name : List ℕ) → length one ≡ 4 → length other ≡ 4 → take 4 chunk ≡ name → (is_named one chunk || is_named other chunk) ≡ either one other name
tested one other chunk name four other_four is = λ i. bytes_eq one ((ap (λ (n : ℕ). take n chunk) four ∙ is) i) || bytes_eq other ((ap (λ (n : ℕ). take n chunk) other_four ∙ is) i)

-- ---- chunks

-- the first chunk is whole if something stands after it
chunk_whole : (chunks : List ℕ) → 8 ≤ length chunks → 0 < length (behind chunks) → IsChunk (take 4 chunks) (content_of chunks) (behind chunks) chunks
chunk_whole chunks long some =
    let size = size_of chunks in
    let rest = drop 8 chunks in
    let room : size + size % 2 < length rest = omega (arith, some, length-drop (size + size % 2) rest) in
    let content : length (content_of chunks) ≡ size = length-take-le size rest (omega (arith, room)) in
    let padding = take (size % 2) (drop size rest) in
    let four : drop 4 (drop 4 chunks) ≡ rest = drop-drop 4 4 chunks in
    let last : drop (size % 2) (drop size rest) ≡ behind chunks = drop-drop (size % 2) size rest in
    record {
      size = take 4 (drop 4 chunks);
      padding = padding;
      name_four = length-take-le 4 chunks (omega (arith, long));
      size_four = length-take-le 4 (drop 4 chunks) (omega (arith, long, length-drop 4 chunks));
      size_is = sym content;
      odd = length-take-le (size % 2) (drop size rest) (omega (arith, room, length-drop size rest)) ∙ ap (λ (n : ℕ). n % 2) (sym content);
      parts =
          sym (take-append-drop 4 chunks)
          ∙ ap (λ l. take 4 chunks ++ l) (sym (take-append-drop 4 (drop 4 chunks)) ∙ ap (λ l. take 4 (drop 4 chunks) ++ l) (four ∙ sym (take-append-drop size rest)
          ∙ ap (λ l. take size rest ++ l) (sym (take-append-drop (size % 2) (drop size rest)) ∙ ap (λ l. padding ++ l) last)));
    }

-- what the parts of a chunk are
record Parts (name content rest chunks : List ℕ) : Type 0 where
  name_is : take 4 chunks ≡ name
  content_is : content_of chunks ≡ content
  rest_is : behind chunks ≡ rest
  longer : 8 + length rest ≤ length chunks

chunk_parts : (name content rest chunks : List ℕ) → IsChunk name content rest chunks → Parts name content rest chunks
chunk_parts name content rest chunks c =
    let after_name = c.size ++ (content ++ (c.padding ++ rest)) in
    let after_size = content ++ (c.padding ++ rest) in
    let four : drop 4 chunks ≡ after_name = ap (drop 4) c.parts ∙ drop_at name after_name 4 c.name_four in
    let eight : drop 8 chunks ≡ after_size = sym (drop-drop 4 4 chunks) ∙ ap (drop 4) four ∙ drop_at c.size after_size 4 c.size_four in
    let size : size_of chunks ≡ length content = ap (λ l. from_le_bytes w32 (take 4 l)) four ∙ ap (from_le_bytes w32) (take_at c.size after_size 4 c.size_four) ∙ c.size_is in
    let padded : drop (length content) (drop 8 chunks) ≡ c.padding ++ rest = ap (drop (length content)) eight ∙ drop_at content (c.padding ++ rest) (length content) refl in
    record {
      name_is = ap (take 4) c.parts ∙ take_at name after_name 4 c.name_four;
      content_is = (λ i. take (size i) (eight i)) ∙ take_at content (c.padding ++ rest) (length content) refl;
      rest_is = ap (λ (n : ℕ). drop (n + n % 2) (drop 8 chunks)) size ∙ sym (drop-drop (length content % 2) (length content) (drop 8 chunks)) ∙ ap (drop (length content % 2)) padded ∙ drop_at c.padding rest (length content % 2) c.odd;
      longer = omega (arith, c.name_four, c.size_four, ap length c.parts, length-append name after_name, length-append c.size after_size, length-append content (c.padding ++ rest), length-append c.padding rest);
    }

passed_len : (has_name : List ℕ → Bool) (n : ℕ) (chunks rest : List ℕ) → Passed has_name n chunks rest → length rest ≤ length chunks
passed_len has_name zero chunks rest p = omega (arith, ap length p)
passed_len has_name (suc n) chunks rest p =
    let (name, content, after, chunk, other, more) = p in
    omega (arith, (chunk_parts name content after chunks chunk).longer, passed_len has_name n after rest more)

passed_same : (f g : List ℕ → Bool) → ((name : List ℕ) → f name ≡ g name) → (n : ℕ) (chunks rest : List ℕ) → Passed f n chunks rest → Passed g n chunks rest
passed_same f g same zero chunks rest p = p
passed_same f g same (suc n) chunks rest p =
    let (name, content, after, chunk, other, more) = p in
    (name, content, after, chunk, sym (same name) ∙ other, passed_same f g same n after rest more)

-- ---- what is found stands there

record Reaches (one other chunks found : List ℕ) : Type 0 where
  count : ℕ
  passed : Passed (either one other) count chunks found
  long : 8 ≤ length found
  named : (is_named one found || is_named other found) ≡ true

reach : (one other chunks found : List ℕ) (n : ℕ) → length one ≡ 4 → length other ≡ 4 → (first_named one other n (behind chunks) ≡ Some found → Reaches one other (behind chunks) found)
    → (short named : Bool) → nat_lt (length chunks) 8 ≡ short → (is_named one chunks || is_named other chunks) ≡ named → first_by one other n chunks short named ≡ Some found → Reaches one other chunks found
reach one other chunks found n four other_four next true named is test e = absurd cc
reach one other chunks found n four other_four next false true is test e =
    let same : chunks ≡ found = cc in
    record {
      count = zero;
      passed = same;
      long = subst (λ (l : List ℕ). 8 ≤ length l) same (ltb-false (length chunks) 8 is);
      named = subst (λ (l : List ℕ). (is_named one l || is_named other l) ≡ true) same test;
    }
reach one other chunks found n four other_four next false false is test e =
    let r = next e in
    let some : 0 < length (behind chunks) = omega (arith, r.long, passed_len (either one other) r.count (behind chunks) found r.passed) in
    record {
      count = suc r.count;
      passed = (take 4 chunks, content_of chunks, behind chunks, chunk_whole chunks (ltb-false (length chunks) 8 is) some, sym (tested one other chunks (take 4 chunks) four other_four refl) ∙ test, r.passed);
      long = r.long;
      named = r.named;
    }

reaches : (one other : List ℕ) → length one ≡ 4 → length other ≡ 4 → (n : ℕ) (chunks found : List ℕ) → first_named one other n chunks ≡ Some found → Reaches one other chunks found
unfolding first_named
reaches one other four other_four zero chunks found e = absurd cc
reaches one other four other_four (suc n) chunks found e =
    reach one other chunks found n four other_four (reaches one other four other_four n (behind chunks) found) (nat_lt (length chunks) 8) (is_named one chunks || is_named other chunks) refl refl e

-- ---- what stands there is found

finds : (one other : List ℕ) → length one ≡ 4 → length other ≡ 4 → (count : ℕ) (chunks found : List ℕ) (m : ℕ) → Passed (either one other) count chunks found → 8 ≤ length found
    → (is_named one found || is_named other found) ≡ true → length chunks ≤ m → first_named one other m chunks ≡ Some found
finds one other four other_four zero chunks found zero passed long named enough = absurd (omega (arith, ap length passed, long, enough))
finds one other four other_four zero chunks found (suc m) passed long named enough =
    subst (λ (l : List ℕ). first_named one other (suc m) l ≡ Some found) (sym passed) (stop one other found m long named)
finds one other four other_four (suc count) chunks found zero passed long named enough =
    let (name, content, after, chunk, test, more) = passed in
    absurd (omega (arith, (chunk_parts name content after chunks chunk).longer, enough))
finds one other four other_four (suc count) chunks found (suc m) passed long named enough =
    let (name, content, after, chunk, test, more) = passed in
    let p = chunk_parts name content after chunks chunk in
    pass one other chunks m (omega (arith, p.longer)) (tested one other chunks name four other_four p.name_is ∙ test) ∙ ap (first_named one other m) p.rest_is
    ∙ finds one other four other_four count after found m more long named (omega (arith, p.longer, enough))

-- ---- whole files

both_or : (a : Bool) → (a || a) ≡ a
both_or true = refl
both_or false = refl

or_first : (a b : Bool) → (a || b) ≡ true → b ≡ false → a ≡ true
or_first true b e n = refl
or_first false b e n = sym n ∙ e

wave_chosen : (chunk : List ℕ) (w : Wave) → wave_from chunk ≡ Some w → (is_named data_name chunk ≡ false) × (is_format (content_of chunk) ≡ true) × (option_and_then (λ found. wave_of (content_of chunk) (content_of found)) (data_behind chunk) ≡ Some w)
wave_chosen chunk w e = by (is_named data_name chunk) (is_format (content_of chunk)) refl refl e
  where
    by : (other format : Bool) → is_named data_name chunk ≡ other → is_format (content_of chunk) ≡ format
        → (if other || not format then None else option_and_then (λ found. wave_of (content_of chunk) (content_of found)) (data_behind chunk)) ≡ Some w
        → (is_named data_name chunk ≡ false) × (is_format (content_of chunk) ≡ true) × (option_and_then (λ found. wave_of (content_of chunk) (content_of found)) (data_behind chunk) ≡ Some w)
    by true format a b e = absurd cc
    by false true a b e = (a, b, e)
    by false false a b e = absurd cc

then_some : {A B : Type 0} (f : A → Option B) (o : Option A) (y : B) → option_and_then f o ≡ Some y → (x : A) × (o ≡ Some x) × (f x ≡ Some y)
then_some f None y e = absurd cc
then_some f (Some x) y e = (x, refl, e)

pub wave_found : (bytes : List ℕ) (w : Wave) → wave_in bytes ≡ Some w → IsWave bytes w
wave_found bytes w e = by (is_headed bytes) refl
  where
    by : (headed : Bool) → is_headed bytes ≡ headed → IsWave bytes w
    by false h = absurd (none_not_some (sym (no_head bytes h) ∙ e))
      where
        none_not_some : None ≡ Some w → ⊥
        none_not_some n = absurd cc
    by true h =
        let wave = and_parts (nat_le (length bytes) 33554432 && nat_le 12 (length bytes) && is_named (codes "RIFF") bytes) (is_named (codes "WAVE") (drop 8 bytes)) h in
        let riff = and_parts (nat_le (length bytes) 33554432 && nat_le 12 (length bytes)) (is_named (codes "RIFF") bytes) wave.0 in
        let sizes = and_parts (nat_le (length bytes) 33554432) (nat_le 12 (length bytes)) riff.0 in
        let long : 12 ≤ length bytes = leb-true 12 (length bytes) sizes.1 in
        let chunks = drop 12 bytes in
        let c = then_some wave_from (first_of format_name data_name chunks) w (sym (behind_head bytes h) ∙ e) in
        let r = reaches format_name data_name refl refl (length chunks) chunks c.0 c.1 in
        let ch = wave_chosen c.0 w c.2 in
        let d = then_some (λ found. wave_of (content_of c.0) (content_of found)) (data_behind c.0) w ch.2 in
        let q = reaches data_name data_name refl refl (length (behind c.0)) (behind c.0) d.0 d.1 in
        let named : take 4 c.0 ≡ format_name = ap (take 4) (named_is format_name c.0 (or_first (is_named format_name c.0) (is_named data_name c.0) r.named ch.0)) ∙ take_at format_name (drop 4 c.0) 4 refl in
        let some : 0 < length (behind c.0) = omega (arith, q.long, passed_len (either data_name data_name) q.count (behind c.0) d.0 q.passed) in
        let eight : drop 4 (drop 4 bytes) ≡ drop 8 bytes = drop-drop 4 4 bytes in
        let twelve : drop 4 (drop 8 bytes) ≡ chunks = drop-drop 4 8 bytes in
        let data_named : is_named data_name d.0 ≡ true = sym (both_or (is_named data_name d.0)) ∙ q.named in
        record {
          few = leb-true (length bytes) 33554432 sizes.0;
          head = take 4 (drop 4 bytes);
          chunks = chunks;
          head_four = length-take-le 4 (drop 4 bytes) (omega (arith, long, length-drop 4 bytes));
          parts =
              named_is (codes "RIFF") bytes riff.1
              ∙ ap (λ l. codes "RIFF" ++ l) (sym (take-append-drop 4 (drop 4 bytes)) ∙ ap (λ l. take 4 (drop 4 bytes) ++ l) (eight ∙ named_is (codes "WAVE") (drop 8 bytes) wave.1 ∙ ap (λ l. codes "WAVE" ++ l) twelve));
          count = r.count;
          from_format = c.0;
          passed = r.passed;
          format = content_of c.0;
          behind = behind c.0;
          format_chunk = subst (λ (name : List ℕ). IsChunk name (content_of c.0) (behind c.0) c.0) named (chunk_whole c.0 r.long some);
          format_is = ch.1;
          data_count = q.count;
          from_data = d.0;
          data_passed = passed_same (either data_name data_name) is_data (λ name. both_or (bytes_eq data_name name)) q.count (behind c.0) d.0 q.passed;
          size = take 4 (drop 4 d.0);
          sounding = drop 8 d.0;
          size_four = length-take-le 4 (drop 4 d.0) (omega (arith, q.long, length-drop 4 d.0));
          data_parts = named_is data_name d.0 data_named ∙ ap (λ l. data_name ++ l) (sym (take-append-drop 4 (drop 4 d.0)) ∙ ap (λ l. take 4 (drop 4 d.0) ++ l) (drop-drop 4 4 d.0));
          heard = d.2;
        }

pub wave_only : (bytes : List ℕ) (w : Wave) → IsWave bytes w → wave_in bytes ≡ Some w
wave_only bytes w v =
    let last = codes "WAVE" ++ v.chunks in
    let four : drop 4 bytes ≡ v.head ++ last = ap (drop 4) v.parts ∙ drop_at (codes "RIFF") (v.head ++ last) 4 refl in
    let eight : drop 8 bytes ≡ last = sym (drop-drop 4 4 bytes) ∙ ap (drop 4) four ∙ drop_at v.head last 4 v.head_four in
    let twelve : drop 12 bytes ≡ v.chunks = sym (drop-drop 4 8 bytes) ∙ ap (drop 4) eight ∙ drop_at (codes "WAVE") v.chunks 4 refl in
    let long : 12 ≤ length bytes = omega (arith, v.head_four, ap length v.parts, length-append (codes "RIFF") (v.head ++ last), length-append v.head last, length-append (codes "WAVE") v.chunks) in
    let headed : is_headed bytes ≡ true = and_from _ _ (and_from _ _ (and_from _ _ (le-leb (length bytes) 33554432 v.few) (le-leb 12 (length bytes) long)) (named_from (codes "RIFF") bytes (v.head ++ last) v.parts)) (named_from (codes "WAVE") (drop 8 bytes) v.chunks eight) in
    let p = chunk_parts format_name v.format v.behind v.from_format v.format_chunk in
    let format_named : is_named format_name v.from_format ≡ true = named_from format_name v.from_format _ v.format_chunk.parts in
    let not_data : is_named data_name v.from_format ≡ false = ap (bytes_eq data_name) p.name_is in
    let either_named : (is_named format_name v.from_format || is_named data_name v.from_format) ≡ true = ap (λ (b : Bool). b || is_named data_name v.from_format) format_named in
    let format_found : first_of format_name data_name v.chunks ≡ Some v.from_format =
    finds format_name data_name refl refl v.count v.chunks v.from_format (length v.chunks) v.passed (omega (arith, p.longer)) either_named (le_refl (length v.chunks)) in
    let data_named : is_named data_name v.from_data ≡ true = named_from data_name v.from_data (v.size ++ v.sounding) v.data_parts in
    let data_four : drop 4 v.from_data ≡ v.size ++ v.sounding = ap (drop 4) v.data_parts ∙ drop_at data_name (v.size ++ v.sounding) 4 refl in
    let data_eight : drop 8 v.from_data ≡ v.sounding = sym (drop-drop 4 4 v.from_data) ∙ ap (drop 4) data_four ∙ drop_at v.size v.sounding 4 v.size_four in
    let data_size : size_of v.from_data ≡ from_le_bytes w32 v.size = ap (λ l. from_le_bytes w32 (take 4 l)) data_four ∙ ap (from_le_bytes w32) (take_at v.size v.sounding 4 v.size_four) in
    let data_long : 8 ≤ length v.from_data = omega (arith, v.size_four, ap length v.data_parts, length-append data_name (v.size ++ v.sounding), length-append v.size v.sounding) in
    let data_found : data_behind v.from_format ≡ Some v.from_data =
    ap (first_of data_name data_name) p.rest_is
    ∙ finds data_name data_name refl refl v.data_count v.behind v.from_data (length v.behind) (passed_same is_data (either data_name data_name) (λ name. sym (both_or (bytes_eq data_name name))) v.data_count v.behind v.from_data v.data_passed)
    data_long (both_or (is_named data_name v.from_data) ∙ data_named) (le_refl (length v.behind)) in
    let content : content_of v.from_data ≡ take (from_le_bytes w32 v.size) v.sounding = λ i. take (data_size i) (data_eight i) in
    behind_head bytes headed ∙ ap (λ l. option_and_then wave_from (first_of format_name data_name l)) twelve ∙ ap (option_and_then wave_from) format_found
    ∙ (λ i. from_format v.from_format (not_data i) ((ap is_format p.content_is ∙ v.format_is) i)) ∙ ap (option_and_then (λ found. wave_of (content_of v.from_format) (content_of found))) data_found
    ∙ (λ i. wave_of (p.content_is i) (content i)) ∙ v.heard
