-- `/b_query`: what is told, and that it can be sent.
use Rattle.std.proofs.Common.{◌≡◌, ◌<◌, ◌+◌, ◌*◌, ◌^◌, ℕ, ℤ, pos, List, [], ◌∷◌, ◌++◌, length, Option, Some, None, Ok, refl, ap, sym, ◌∙◌, arith, length-append}
use Rattle.std.specs.Option.{option_map}
use Rattle.std.specs.Prelude.{IfSome, codes}
use Rattle.sn_osc.specs.Shape.{Argument, int, arguments}
use Rattle.sn_osc.specs.Bytes.{arguments_bytes, int_bytes}
use Rattle.sn_mem.specs.declared.buffers.BufferPlace.{BufferPlace}
use Rattle.sn_reply.specs.declared.reason.Reason.{Reason}
use Rattle.sn_reply.specs.declared.replies.To.TheVariants.{Client}
use Rattle.sn_reply.specs.Replies.{ReplyShape}
use Rattle.sn_world.specs.declared.buffer_repetition.BufferNumber.{BufferNumber}
use Rattle.sn_world.specs.declared.stage.Stage.{Stage}
use Rattle.sn_mem.specs.Buffers.{buffer_of}
use Rattle.sn_world.specs.BufferNumbers.{at_number, number_refusal}
use Rattle.sn_world.specs.BufferCommands.{info, infos, buffer_number, judge_query, answer_query, query_row}
use Rattle.sn_world.specs.Pictures.{Pictures}
use Rattle.sn_world.specs.Rows.{unless, singles, some_of, first_refusal, question}
use Rattle.sn_world.specs.World.{Turn, world_of, turn_of, replied}
use Rattle.sn_buscmd.specs.Samples.{place_info, place_infos, place_answer, CanBeSaid}
use Rattle.sn_buscmd.proofs.BufferLemmas.{buffer_there}
use Rattle.sn_buscmd.proofs.ResamplingLemmas.{is_buffer}

-- ---- what is told

one_told : (rate : ℕ) (ws : List ℕ) (o : Option BufferPlace) → place_info rate o ≡ info rate (option_map (buffer_of ws) o)
one_told rate ws None = refl
one_told rate ws (Some p) = refl

pub all_told : (stage : Stage) (ws : List ℕ) (rs : List BufferNumber) → place_infos stage.rate stage.buffers rs ≡ infos (world_of stage ws) rs
all_told stage ws [] = refl
all_told stage ws (r ∷ rs) = λ i. int r.number ∷ (one_told stage.rate ws (at_number stage.buffers r.number) ∙ ap (info stage.rate) (sym (buffer_there ws stage.buffers r.number))) i ++ all_told stage ws rs i

pub query_told : (from : ℕ) (xs : List Argument) (stage : Stage) (ws : List ℕ) (replies after : List ReplyShape) (rs : List BufferNumber) → Some rs ≡ some_of (singles buffer_number xs)
    → first_refusal (λ (r : BufferNumber). number_refusal r.number) rs ≡ None → after ≡ replies ++ (record { to = Client from; message = place_answer stage.rate stage.buffers rs }) ∷ []
    → query_row from xs (turn_of stage ws replies) ≡ Ok (turn_of stage ws after)
query_told from xs stage ws replies after rs read free told =
    let t : Turn = turn_of stage ws replies in
    ap (λ (o : Option (List BufferNumber)). question judge_query answer_query from o t) (sym read)
    ∙ ap (λ (o : Option Reason). unless o (Ok (replied from (answer_query (world_of stage ws) rs) t))) free
    ∙ ap (λ (zs : List ReplyShape). Ok (turn_of stage ws zs))
    (sym (told ∙ ap (λ (ys : List Argument). replies ++ (record { to = Client from; message = record { address = codes "/b_info"; body = arguments ys } }) ∷ []) (all_told stage ws rs)))

-- a place that is found can be told of
pub can_be_said : (stage : Stage) (ws : List ℕ) (n : ℤ) (o : Option BufferPlace) → Pictures stage ws → o ≡ at_number stage.buffers n → IfSome o CanBeSaid
can_be_said stage ws n None pictures found = tt
can_be_said stage ws n (Some p) pictures found = let is = is_buffer stage ws n p found pictures in record { short = is.short; few = is.few }

-- ---- the reply is short

one_long : (rate : ℕ) (o : Option BufferPlace) → length (place_info rate o) ≡ 3
one_long rate None = refl
one_long rate (Some p) = refl

one_bytes : (rate : ℕ) (o : Option BufferPlace) (rest : List Argument) → length (arguments_bytes (place_info rate o ++ rest)) ≡ 12 + length (arguments_bytes rest)
one_bytes rate None rest = omega (arith, length-append (int_bytes (pos 0)) (int_bytes (pos 0) ++ (int_bytes (pos 0) ++ arguments_bytes rest)), length-append (int_bytes (pos 0)) (int_bytes (pos 0) ++ arguments_bytes rest), length-append (int_bytes (pos 0)) (arguments_bytes rest))
one_bytes rate (Some p) rest = omega (arith, length-append (int_bytes (pos p.frames)) (int_bytes (pos p.channels) ++ (int_bytes (pos rate) ++ arguments_bytes rest)), length-append (int_bytes (pos p.channels)) (int_bytes (pos rate) ++ arguments_bytes rest), length-append (int_bytes (pos rate)) (arguments_bytes rest))

pub all_long : (rate : ℕ) (ps : List (Option BufferPlace)) (rs : List BufferNumber) → length (place_infos rate ps rs) ≡ 4 * length rs
all_long rate ps [] = refl
all_long rate ps (r ∷ rs) = omega (arith, length-append (place_info rate (at_number ps r.number)) (place_infos rate ps rs), one_long rate (at_number ps r.number), all_long rate ps rs)

pub all_bytes : (rate : ℕ) (ps : List (Option BufferPlace)) (rs : List BufferNumber) → length (arguments_bytes (place_infos rate ps rs)) ≡ 16 * length rs
all_bytes rate ps [] = refl
all_bytes rate ps (r ∷ rs) = omega (arith, length-append (int_bytes r.number) (arguments_bytes (place_info rate (at_number ps r.number) ++ place_infos rate ps rs)), one_bytes rate (at_number ps r.number) (place_infos rate ps rs), all_bytes rate ps rs)

pub few_infos : (xs : List Argument) (rate : ℕ) (ps : List (Option BufferPlace)) (rs : List BufferNumber) → xs ≡ place_infos rate ps rs → 20 * length rs + 2 ^ 20 < 2 ^ 31 → length (arguments_bytes xs) + length xs + 256 < 2 ^ 31
few_infos xs rate ps rs is few = omega (arith, ap length is, ap (λ ys. length (arguments_bytes ys)) is, all_long rate ps rs, all_bytes rate ps rs, few)
