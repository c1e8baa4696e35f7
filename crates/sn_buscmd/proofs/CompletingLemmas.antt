-- Completion messages: which are accepted, and how deep they nest.
use Rattle.std.proofs.Common.{◌≡◌, ℕ, zero, suc, ◌-◌, ◌<◌, ◌≤◌, true, false, List, length, map, take, Option, Some, None, Ok, subst, ap, sym, ◌∙◌, arith}
use Rattle.std.specs.Option.{option_map}
use Rattle.std.specs.Prelude.{is_none, IfSome}
use Rattle.std.proofs.lemmas.List.{take-map, length-map}
use Rattle.sn_osc.specs.declared.packet.Arg.{Arg}
use Rattle.sn_osc.specs.declared.packet.Message.{Message}
use Rattle.sn_osc.specs.Shape.{argument_of, MessageShape, message_of, Shape, message, bundle}
use Rattle.sn_osc.specs.Grammar.{Spells}
use Rattle.sn_osc.proofs.Encoded.{packet_is}
use Rattle.sn_reply.specs.Sending.{IsAnswerable}
use Rattle.sn_world.specs.Completing.{own, one_message}
use Rattle.sn_world.specs.Commands.{completion_of, each_within, depth_within}

-- ---- a message that was decoded can be answered

pub decoded_answerable : (m : MessageShape) (bytes : List ℕ) → length bytes ≤ 65536 → Spells (message m) bytes → IsAnswerable m
decoded_answerable m bytes few spelled =
    let is = packet_is (message m) 8 1 bytes spelled in
    record { valid = is.1; short = omega (arith, few, ap length is.0) }

pub found_answerable : (o : Option Message) (s : Shape) (bytes : List ℕ) → option_map message_of o ≡ one_message (Ok s) → (length bytes ≤ 65536) × Spells s bytes → IfSome o (λ x. IsAnswerable (message_of x))
found_answerable None s bytes e found = tt
found_answerable (Some m) (message x) bytes e found = let same : x ≡ message_of m = cc in subst IsAnswerable same (decoded_answerable x bytes found.0 found.1)
found_answerable (Some m) (bundle tag inner) bytes e found = absurd cc

-- ---- how deep

deeper : (deep : ℕ) (m : MessageShape) → 0 < deep → depth_within deep m ≡ each_within (depth_within (deep - 1)) (completion_of m)
unfolding depth_within
deeper zero m some = absurd (omega (arith, some))
deeper (suc deep) m some = let e : suc deep - 1 ≡ deep = omega arith in ap (λ (n : ℕ). each_within (depth_within n) (completion_of m)) (sym e)

pub none-within : (deep : ℕ) (m : MessageShape) → completion_of m ≡ None → depth_within deep m ≡ true
unfolding depth_within
none-within zero m none = ap is_none none
none-within (suc deep) m none = ap (each_within (depth_within deep)) none

pub one-within : (deep : ℕ) (m c : MessageShape) → 0 < deep → completion_of m ≡ Some c → depth_within deep m ≡ depth_within (deep - 1) c
one-within deep m c some is = deeper deep m some ∙ ap (each_within (depth_within (deep - 1))) is

at-none : (m c : MessageShape) → completion_of m ≡ Some c → depth_within 0 m ≡ false
unfolding depth_within
at-none m c is = ap is_none is

pub too-deep : (deep : ℕ) (m c : MessageShape) → deep ≡ 0 → completion_of m ≡ Some c → depth_within deep m ≡ false
too-deep deep m c last is = ap (λ (n : ℕ). depth_within n m) last ∙ at-none m c is

-- ---- the arguments before the last one

pub own-given : (xs : List Arg) (ys : List Arg) → ys ≡ take (length xs - 1) xs → map argument_of ys ≡ own (map argument_of xs)
own-given xs ys is = ap (map argument_of) is ∙ sym (take-map argument_of (length xs - 1) xs) ∙ ap (λ (n : ℕ). take (n - 1) (map argument_of xs)) (sym (length-map xs argument_of))
