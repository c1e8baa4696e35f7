-- The bytes of a source have one answer.
use Rattle.std.proofs.Common.{◌≡◌, ◌<◌, ◌≤◌, ◌⊎◌, ℕ, List, length, Option, Some, None, Ok, refl, sym, ap, subst, ◌∙◌, arith, inl, inr}
use Rattle.std.specs.Prelude.{IfSome}
use Rattle.sn_osc.specs.declared.fault.StreamFault.{StreamFault}
use Rattle.sn_osc.specs.Shape.{Shape}
use Rattle.sn_osc.proofs.Streams.{one_list, one_stream_fault}
use Rattle.sn_ports.specs.Octets.{Octets}
use Rattle.sn_render.proofs.GatheringLemmas.{told, bad_alone}
use Rattle.sn_score.proofs.Answering.{ok_is, number_is}
use Rattle.sn_score.proofs.FirstFaults.{fault_read, excluded}
use Rattle.sn_score.proofs.Running.{score_read}
use Rattle.sn_words.specs.declared.convert.Conversion.{Conversion}
use Rattle.sn_words.specs.declared.convert.Conversion.TheVariants as conversions
use Rattle.sn_words.specs.Converting.{convert_words_of}
use Rattle.sn_top.specs.Converting.{AreForms, HasBadStream, HasBadScore, HasAnswer, IsAnswer, Forms, ForConversion, ByConvertWords}
use Rattle.sn_top.specs.declared.converting.Converted.{Converted}
use Rattle.sn_top.specs.declared.converting.Converted.TheVariants.{Done, NoMemory, BadWords, BadStream, LongStream, ReadFault, OutFault, BadScore}

-- ---- one answer

same_packets : (c : Conversion) (given : List ℕ) (xs ys : List Shape) (a b : List ℕ) → AreForms c given xs a → AreForms c given ys b → xs ≡ ys
same_packets conversions.Score given xs ys a b h k = ok_is xs ys (sym (score_read given xs h.0) ∙ score_read given ys k.0)
same_packets conversions.Dump given xs ys a b h k = one_list xs ys given h.0 k.0

no_bad_stream : (c : Conversion) (given : List ℕ) (xs : List Shape) (made : List ℕ) (packet place : ℕ) (fault : StreamFault) → AreForms c given xs made → HasBadStream c given packet place fault → ⊥
no_bad_stream conversions.Score given xs made packet place fault h k = k
no_bad_stream conversions.Dump given xs made packet place fault h k = bad_alone given xs packet place fault k h.0

no_bad_score : (c : Conversion) (given : List ℕ) (xs : List Shape) (made : List ℕ) (line : ℕ) → AreForms c given xs made → HasBadScore c given line → ⊥
no_bad_score conversions.Score given xs made line h k = excluded given xs line h.0 k
no_bad_score conversions.Dump given xs made line h k = k

not_both : (c : Conversion) (given : List ℕ) (packet place : ℕ) (fault : StreamFault) (line : ℕ) → HasBadStream c given packet place fault → HasBadScore c given line → ⊥
not_both conversions.Score given packet place fault line h k = h
not_both conversions.Dump given packet place fault line h k = k

same_stream_fault : (k k' p p' : ℕ) (f f' : StreamFault) → k ≡ k' → p ≡ p' → f ≡ f' → BadStream k p f ≡ BadStream k' p' f'
same_stream_fault k k' p p' f f' a b c = cc

one_bad_stream : (c : Conversion) (given : List ℕ) (k p : ℕ) (f : StreamFault) (k' p' : ℕ) (f' : StreamFault) → HasBadStream c given k p f → HasBadStream c given k' p' f' → BadStream k p f ≡ BadStream k' p' f'
one_bad_stream conversions.Score given k p f k' p' f' a b = absurd a
one_bad_stream conversions.Dump given k p f k' p' f' a b =
    let same = one_stream_fault a.before b.before 0 a.front a.rest b.front b.rest p p' f f' a.frames b.frames (sym a.parts ∙ b.parts) a.why b.why in
    same_stream_fault k k' p p' f f' (sym a.count ∙ same.0 ∙ b.count) same.1 same.2

one_bad_score : (c : Conversion) (given : List ℕ) (m n : ℕ) → HasBadScore c given m → HasBadScore c given n → m ≡ n
one_bad_score conversions.Score given m n a b = number_is m n (sym (fault_read given m a) ∙ fault_read given n b)
one_bad_score conversions.Dump given m n a b = absurd a

one_answer : (c : Conversion) (given : List ℕ) (a b : Converted) → HasAnswer c given a → HasAnswer c given b → a ≡ b
one_answer c given NoMemory b h k = absurd h
one_answer c given (BadWords i) b h k = absurd h
one_answer c given ReadFault b h k = absurd h
one_answer c given OutFault b h k = absurd h
one_answer c given (LongStream n) (LongStream m) h k = ap (λ x. LongStream x) (h.0 ∙ sym k.0)
one_answer c given (LongStream n) (BadStream packet place fault) h k = absurd (omega (arith, h.1, k.0))
one_answer c given (LongStream n) (BadScore line) h k = absurd (omega (arith, h.1, k.0))
one_answer c given (LongStream n) (Done m) h k = absurd (omega (arith, h.1, k.0))
one_answer c given (LongStream n) b h k = absurd k
one_answer c given (BadStream packet place fault) (LongStream m) h k = absurd (omega (arith, h.0, k.1))
one_answer c given (BadStream packet place fault) (BadStream packet' place' fault') h k = one_bad_stream c given packet place fault packet' place' fault' h.1 k.1
one_answer c given (BadStream packet place fault) (BadScore line) h k = absurd (not_both c given packet place fault line h.1 k.1)
one_answer c given (BadStream packet place fault) (Done m) h k = let (xs, made, forms, count) = k.1 in absurd (no_bad_stream c given xs made packet place fault forms h.1)
one_answer c given (BadStream packet place fault) b h k = absurd k
one_answer c given (BadScore line) (LongStream m) h k = absurd (omega (arith, h.0, k.1))
one_answer c given (BadScore line) (BadStream packet place fault) h k = absurd (not_both c given packet place fault line k.1 h.1)
one_answer c given (BadScore line) (BadScore line') h k = ap (λ x. BadScore x) (one_bad_score c given line line' h.1 k.1)
one_answer c given (BadScore line) (Done m) h k = let (xs, made, forms, count) = k.1 in absurd (no_bad_score c given xs made line forms h.1)
one_answer c given (BadScore line) b h k = absurd k
one_answer c given (Done n) (LongStream m) h k = absurd (omega (arith, h.0, k.1))
one_answer c given (Done n) (BadStream packet place fault) h k = let (xs, made, forms, count) = h.1 in absurd (no_bad_stream c given xs made packet place fault forms k.1)
one_answer c given (Done n) (BadScore line) h k = let (xs, made, forms, count) = h.1 in absurd (no_bad_score c given xs made line forms k.1)
one_answer c given (Done n) (Done m) h k =
    let (xs, made, forms, count) = h.1 in
    let (ys, made', forms', count') = k.1 in
    ap (λ x. Done x) (count ∙ ap length (same_packets c given xs ys made made' forms forms') ∙ sym count')
one_answer c given (Done n) b h k = absurd k

pub complete : (c : Conversion) (source : Option (List ℕ)) (result answer : Converted) (given : List ℕ) → IsAnswer c source result → source ≡ Some given → HasAnswer c given answer
    → (result ≡ ReadFault → ⊥) → (result ≡ OutFault → ⊥) → (result ≡ answer) ⊎ (result ≡ NoMemory)
complete c source (Done n) answer given is some has read out = inl (one_answer c given (Done n) answer (told (λ b. HasAnswer c b (Done n)) source given some is) has)
complete c source (LongStream n) answer given is some has read out = inl (one_answer c given (LongStream n) answer (is.0, told (λ b. 16777216 < length b) source given some is.1) has)
complete c source (BadStream packet place fault) answer given is some has read out =
    inl (one_answer c given (BadStream packet place fault) answer (told (λ b. HasAnswer c b (BadStream packet place fault)) source given some is) has)
complete c source (BadScore line) answer given is some has read out = inl (one_answer c given (BadScore line) answer (told (λ b. HasAnswer c b (BadScore line)) source given some is) has)
complete c source NoMemory answer given is some has read out = inr refl
complete c source (BadWords i) answer given is some has read out = absurd is
complete c source ReadFault answer given is some has read out = absurd (read refl)
complete c source OutFault answer given is some has read out = absurd (out refl)

-- ---- both forms of the packets

done_answer : (c : Conversion) (bytes : List ℕ) (n : ℕ) (made : List ℕ) → Forms c (Some bytes) n made → HasAnswer c bytes (Done n)
done_answer c bytes n made f = (subst (λ ys. length ys ≤ 16777216) f.told f.size, (f.packets, made, subst (λ ys. AreForms c ys f.packets made) f.told f.forms, f.count_is))

-- the answer if the sink failed
pub out_answer : (c : Conversion) (source : Option (List ℕ)) (n : ℕ) (made : List ℕ) → Forms c source n made → IsAnswer c source OutFault
out_answer c None n made f = tt
out_answer c (Some bytes) n made f = (n, done_answer c bytes n made f)

-- ---- the words

pub by_conversion : (words : List Octets) (c : Conversion) (P : Conversion → Type 0) → convert_words_of words ≡ Ok c → P c → ByConvertWords words P
by_conversion words c P chosen holds = subst (λ r. ForConversion r P) (sym chosen) holds
