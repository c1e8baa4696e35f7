-- Chunks one after another, and the frames of a recording.
use Rattle.std.proofs.Common.{◌≡◌, ◌≤◌, ◌<◌, ◌*◌, ◌/◌, ◌⊎◌, ℕ, zero, suc, List, length, drop, Option, Some, None, Bool, true, false, ◌||◌, inl, inr, refl, sym, ap, ◌∙◌, subst, arith, le_refl}
use Rattle.std.specs.Prelude.{◌==◌, ◌&&◌, nat_le, option_and_then, not, if◌then◌else◌, codes}
use Rattle.std.proofs.Math.Nat.{mul_assoc, mul-div_cancel, div-mul-le_self}
use Rattle.std.proofs.lemmas.Nat.{mul-le, le-div, div_below}
use Rattle.std.proofs.lemmas.Bool.{le-ltb, lt-ltb, lt-leb, leb-true, eqb-true, and_parts, or_cases}
use Rattle.sn_shelf.specs.declared.waves.Format.{Format}
use Rattle.sn_shelf.specs.declared.waves.Recording.{Recording}
use Rattle.sn_shelf.specs.Waves.{Wave, first_named, first_of, is_named, is_headed, behind, content_of, channels_in, align_in, bits_in, is_pcm, is_playable, is_format, samples_of, whole_frames, wave_of, format_name, data_name, data_behind, wave_from, wave_in}
use Rattle.sn_shelf.specs.WaveViews.{heard, IsPlayable, IsSaid, IsWhole, Finds}

-- among so many chunks the first that is named is that of the chunks that are left
pub record IsPassing (one other : List ℕ) (n : ℕ) (chunks rest : List ℕ) : Type 0 where
  pub most : ℕ
  pub enough : length rest ≤ most
  pub first : first_named one other n chunks ≡ first_named one other most rest

pub begins : (one other chunks : List ℕ) (n : ℕ) → length chunks ≤ n → IsPassing one other n chunks chunks
begins one other chunks n enough = record { most = n; enough = enough; first = refl }

-- a chunk that has neither name is passed over
abbrev pub first_by : List ℕ → List ℕ → ℕ → List ℕ → Bool → Bool → Option (List ℕ)
first_by one other m rest short named = if short then None else if named then Some rest else first_named one other m (behind rest)

pub pass : (one other rest : List ℕ) (m : ℕ) → 8 ≤ length rest → (is_named one rest || is_named other rest) ≡ false → first_named one other (suc m) rest ≡ first_named one other m (behind rest)
unfolding first_named
pass one other rest m long neither = λ i. first_by one other m rest (le-ltb (length rest) 8 long i) (neither i)

pub stop : (one other rest : List ℕ) (m : ℕ) → 8 ≤ length rest → (is_named one rest || is_named other rest) ≡ true → first_named one other (suc m) rest ≡ Some rest
unfolding first_named
stop one other rest m long named = λ i. first_by one other m rest (le-ltb (length rest) 8 long i) (named i)

over : (one other rest : List ℕ) (m : ℕ) → length rest < 8 → first_named one other m rest ≡ None
unfolding first_named
over one other rest zero short = refl
over one other rest (suc m) short = ap (λ (b : Bool). first_by one other m rest b (is_named one rest || is_named other rest)) (lt-ltb (length rest) 8 short)

pub passes : (one other chunks rest after : List ℕ) (n : ℕ) → 8 ≤ length rest → (is_named one rest || is_named other rest) ≡ false → after ≡ behind rest → length after < length rest → IsPassing one other n chunks rest → IsPassing one other n chunks after
passes one other chunks rest after n long neither is shorter p = by p.most p.enough p.first
  where
    by : (m : ℕ) → length rest ≤ m → first_named one other n chunks ≡ first_named one other m rest → IsPassing one other n chunks after
    by zero enough first = absurd (omega (arith, enough, long))
    by (suc m) enough first = record {
      most = m;
      enough = omega (arith, enough, shorter);
      first = first ∙ pass one other rest m long neither ∙ ap (first_named one other m) (sym is);
    }

pub stops : (one other chunks rest : List ℕ) (n : ℕ) → 8 ≤ length rest → (is_named one rest || is_named other rest) ≡ true → IsPassing one other n chunks rest → first_named one other n chunks ≡ Some rest
stops one other chunks rest n long named p = by p.most p.enough p.first
  where
    by : (m : ℕ) → length rest ≤ m → first_named one other n chunks ≡ first_named one other m rest → first_named one other n chunks ≡ Some rest
    by zero enough first = absurd (omega (arith, enough, long))
    by (suc m) enough first = first ∙ stop one other rest m long named

pub none_named : (one other chunks rest : List ℕ) (n : ℕ) → length rest < 8 → IsPassing one other n chunks rest → first_named one other n chunks ≡ None
none_named one other chunks rest n short p = p.first ∙ over one other rest p.most short

-- ---- formats

-- 1 to 8 channels of 2 or 3 bytes, and frames without gaps
pub record IsFormat (bytes : List ℕ) : Type 0 where
  pub some_channels : 1 ≤ channels_in bytes
  pub few_channels : channels_in bytes ≤ 8
  pub width : (bits_in bytes / 8 ≡ 2) ⊎ (bits_in bytes / 8 ≡ 3)
  pub align : align_in bytes ≡ channels_in bytes * (bits_in bytes / 8)

-- frames of so many bits
gapless : (channels bits align width : ℕ) → align ≡ channels * bits / 8 → bits ≡ width * 8 → align ≡ channels * (bits / 8)
gapless channels bits align width is eight =
    is ∙ ap (λ (b : ℕ). channels * b / 8) eight ∙ ap (λ (n : ℕ). n / 8) (sym (mul_assoc channels width 8)) ∙ mul-div_cancel (channels * width) (omega arith)
    ∙ ap (λ (w : ℕ). channels * w) (sym (ap (λ (b : ℕ). b / 8) eight ∙ mul-div_cancel width (omega arith)))

pub format_is : (bytes : List ℕ) → is_format bytes ≡ true → IsFormat bytes
format_is bytes h =
    let channels = channels_in bytes in
    let bits = bits_in bytes in
    let top = and_parts (nat_le 16 (length bytes) && is_pcm bytes) (is_playable bytes) h in
    let last = and_parts (nat_le 1 channels && nat_le channels 8 && ((bits == 16) || (bits == 24))) (align_in bytes == channels * bits / 8) top.1 in
    let first = and_parts (nat_le 1 channels && nat_le channels 8) ((bits == 16) || (bits == 24)) last.0 in
    let range = and_parts (nat_le 1 channels) (nat_le channels 8) first.0 in
    by (leb-true 1 channels range.0) (leb-true channels 8 range.1) (eqb-true (align_in bytes) (channels * bits / 8) last.1) (or_cases (bits == 16) (bits == 24) first.1)
  where
    by : 1 ≤ channels_in bytes → channels_in bytes ≤ 8 → align_in bytes ≡ channels_in bytes * bits_in bytes / 8 → ((bits_in bytes == 16) ≡ true) ⊎ ((bits_in bytes == 24) ≡ true) → IsFormat bytes
    by some few align (inl e) =
        let bits : bits_in bytes ≡ 16 = eqb-true (bits_in bytes) 16 e in
        record { some_channels = some; few_channels = few; width = inl (omega (arith, bits)); align = gapless (channels_in bytes) (bits_in bytes) (align_in bytes) 2 align bits }
    by some few align (inr e) =
        let bits : bits_in bytes ≡ 24 = eqb-true (bits_in bytes) 24 e in
        record { some_channels = some; few_channels = few; width = inr (omega (arith, bits)); align = gapless (channels_in bytes) (bits_in bytes) (align_in bytes) 3 align bits }

pub said : (f : Format) (bytes : List ℕ) → is_format bytes ≡ true → f.channels ≡ channels_in bytes → f.width ≡ bits_in bytes / 8 → IsSaid f bytes
said f bytes h channels width =
    record { format = h; channels = channels; width = width; align = (λ i. channels i * width i) ∙ sym (format_is bytes h).align }

pub playable : (f : Format) (bytes : List ℕ) → is_format bytes ≡ true → f.channels ≡ channels_in bytes → f.width ≡ bits_in bytes / 8 → IsPlayable f
playable f bytes h channels width =
    let is = format_is bytes h in
    record {
      some_channels = subst (λ (n : ℕ). 1 ≤ n) (sym channels) is.some_channels;
      few_channels = subst (λ (n : ℕ). n ≤ 8) (sym channels) is.few_channels;
      width = subst (λ (n : ℕ). (n ≡ 2) ⊎ (n ≡ 3)) (sym width) is.width;
    }

-- ---- recordings

pub align_some : (f : Format) → IsPlayable f → 0 < f.channels * f.width
align_some f p = by p.width
  where
    by : (f.width ≡ 2) ⊎ (f.width ≡ 3) → 0 < f.channels * f.width
    by (inl is) = subst (λ (w : ℕ). 0 < f.channels * w) (sym is) (omega (arith, p.some_channels))
    by (inr is) = subst (λ (w : ℕ). 0 < f.channels * w) (sym is) (omega (arith, p.some_channels))

pub align_few : (f : Format) → IsPlayable f → f.channels * f.width ≤ 24
align_few f p = by p.width
  where
    by : (f.width ≡ 2) ⊎ (f.width ≡ 3) → f.channels * f.width ≤ 24
    by (inl is) = subst (λ (w : ℕ). f.channels * w ≤ 24) (sym is) (omega (arith, p.few_channels))
    by (inr is) = subst (λ (w : ℕ). f.channels * w ≤ 24) (sym is) (omega (arith, p.few_channels))

pub frames_few : (n k : ℕ) → 0 < k → n ≤ 33554432 → n / k ≤ 33554432
frames_few n k some few = let below : n / k < 33554433 = div_below n k 33554433 some (omega (arith, few, mul-le 33554433 1 33554433 k (le_refl 33554433) (omega (arith, some)))) in omega (arith, below)

-- the whole frames of some bytes
pub frames_whole : (f : Format) (r : Recording) → IsPlayable f → r.channels ≡ f.channels → r.width ≡ f.width → f.channels * f.width ≤ length r.sounding.now → r.frames ≡ length r.sounding.now / (f.channels * f.width) → IsWhole r
frames_whole f r p channels width some frames =
    let align = f.channels * f.width in
    let there : r.frames * (f.channels * f.width) ≤ length r.sounding.now = subst (λ (n : ℕ). n * align ≤ length r.sounding.now) (sym frames) (div-mul-le_self (length r.sounding.now) align) in
    let same : r.frames * r.channels * r.width ≡ r.frames * (f.channels * f.width) = mul_assoc r.frames r.channels r.width ∙ (λ i. r.frames * (channels i * width i)) in
    record {
      some_channels = subst (λ (n : ℕ). 1 ≤ n) (sym channels) p.some_channels;
      few_channels = subst (λ (n : ℕ). n ≤ 8) (sym channels) p.few_channels;
      width = subst (λ (n : ℕ). (n ≡ 2) ⊎ (n ≡ 3)) (sym width) p.width;
      some_frames = subst (λ (n : ℕ). 1 ≤ n) (sym frames) (le-div 1 (length r.sounding.now) align (align_some f p) (omega (arith, some)));
      there = omega (arith, there, same);
    }

abbrev some_frames : Bool → Wave → Option Wave
some_frames few w = if few then None else Some w

abbrev wave_by : ℕ → ℕ → ℕ → List ℕ → Wave
wave_by channels width align sounding = record { channels = channels; samples = samples_of (length sounding / align * channels) width sounding }

pub too_few_frames : (channels width align : ℕ) (sounding : List ℕ) → length sounding < align → whole_frames channels width align sounding ≡ None
too_few_frames channels width align sounding few = ap (λ (b : Bool). some_frames b (wave_by channels width align sounding)) (lt-ltb (length sounding) align few)

pub frames_heard : (f : Format) (r : Recording) → r.channels ≡ f.channels → r.width ≡ f.width → f.channels * f.width ≤ length r.sounding.now → r.frames ≡ length r.sounding.now / (f.channels * f.width)
    → whole_frames f.channels f.width (f.channels * f.width) r.sounding.now ≡ Some (heard r)
frames_heard f r channels width some frames =
    let n = length r.sounding.now / (f.channels * f.width) in
    let all : samples_of (n * f.channels) f.width r.sounding.now ≡ samples_of (r.frames * r.channels) r.width r.sounding.now = λ i. samples_of (sym frames i * sym channels i) (sym width i) r.sounding.now in
    ap (λ (b : Bool). some_frames b (wave_by f.channels f.width (f.channels * f.width) r.sounding.now)) (le-ltb (length r.sounding.now) (f.channels * f.width) some)
    ∙ (λ i. Some (record { channels = sym channels i; samples = all i }))

-- ---- from a chunk of a format on

abbrev pub from_format : List ℕ → Bool → Bool → Option Wave
from_format chunk other format = if other || not format then None else option_and_then (λ found. wave_of (content_of chunk) (content_of found)) (data_behind chunk)

pub data_first : (chunk : List ℕ) → is_named data_name chunk ≡ true → wave_from chunk ≡ None
data_first chunk named = ap (λ (b : Bool). from_format chunk b (is_format (content_of chunk))) named

pub no_format : (chunk : List ℕ) → is_named data_name chunk ≡ false → is_format (content_of chunk) ≡ false → wave_from chunk ≡ None
no_format chunk other none = λ i. from_format chunk (other i) (none i)

behind_format : (chunk : List ℕ) (f : Format) → is_named data_name chunk ≡ false → IsSaid f (content_of chunk)
    → wave_from chunk ≡ option_and_then (λ found. whole_frames f.channels f.width (f.channels * f.width) (content_of found)) (data_behind chunk)
behind_format chunk f other is =
    (λ i. from_format chunk (other i) (is.format i))
    ∙ (λ i. option_and_then (λ found. whole_frames (sym is.channels i) (sym is.width i) (sym is.align i) (content_of found)) (data_behind chunk))

pub no_data : (chunk : List ℕ) (f : Format) → is_named data_name chunk ≡ false → IsSaid f (content_of chunk) → data_behind chunk ≡ None → wave_from chunk ≡ None
no_data chunk f other is none = behind_format chunk f other is ∙ ap (option_and_then (λ found. whole_frames f.channels f.width (f.channels * f.width) (content_of found))) none

pub finds_data : (chunk found : List ℕ) (f : Format) (r : Option Recording) → is_named data_name chunk ≡ false → IsSaid f (content_of chunk) → data_behind chunk ≡ Some found
    → Finds heard r (whole_frames f.channels f.width (f.channels * f.width) (content_of found)) → Finds heard r (wave_from chunk)
finds_data chunk found f r other is some finds =
    let whole = behind_format chunk f other is ∙ ap (option_and_then (λ c. whole_frames f.channels f.width (f.channels * f.width) (content_of c))) some in
    subst (λ (o : Option Wave). Finds heard r o) (sym whole) finds

-- ---- files

abbrev from_head : List ℕ → Bool → Option Wave
from_head bytes headed = if not headed then None else option_and_then wave_from (first_of format_name data_name (drop 12 bytes))

pub no_head : (bytes : List ℕ) → is_headed bytes ≡ false → wave_in bytes ≡ None
unfolding wave_in
no_head bytes not_headed = ap (from_head bytes) not_headed

pub behind_head : (bytes : List ℕ) → is_headed bytes ≡ true → wave_in bytes ≡ option_and_then wave_from (first_of format_name data_name (drop 12 bytes))
unfolding wave_in
behind_head bytes headed = ap (from_head bytes) headed

pub no_chunk : (bytes : List ℕ) → is_headed bytes ≡ true → first_of format_name data_name (drop 12 bytes) ≡ None → wave_in bytes ≡ None
no_chunk bytes headed none = behind_head bytes headed ∙ ap (option_and_then wave_from) none

pub finds_chunk : (bytes chunk : List ℕ) (r : Option Recording) → is_headed bytes ≡ true → first_of format_name data_name (drop 12 bytes) ≡ Some chunk → Finds heard r (wave_from chunk) → Finds heard r (wave_in bytes)
finds_chunk bytes chunk r headed some finds = subst (λ (o : Option Wave). Finds heard r o) (sym (behind_head bytes headed ∙ ap (option_and_then wave_from) some)) finds

-- a file that is too long is none
pub too_long_head : (bytes : List ℕ) → 33554432 < length bytes → is_headed bytes ≡ false
too_long_head bytes long = ap (λ (b : Bool). b && nat_le 12 (length bytes) && is_named (codes "RIFF") bytes && is_named (codes "WAVE") (drop 8 bytes)) (lt-leb (length bytes) 33554432 long)
