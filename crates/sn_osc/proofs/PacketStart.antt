-- What is read from a packet, by how it begins.
use Rattle.std.proofs.Common.{◌≡◌, ℕ, zero, suc, ◌-◌, ◌<◌, true, false, List, length, Result, Ok, refl, ap, ◌∙◌, arith}
use Rattle.sn_osc.specs.declared.fault.PacketFault.{PacketFault}
use Rattle.sn_osc.specs.declared.fault.PacketKind.TheVariants.{Start, Head, TooDeep}
use Rattle.sn_osc.specs.declared.fault.Undecoded.{Undecoded}
use Rattle.sn_osc.specs.declared.fault.Undecoded.TheVariants as undecoded
use Rattle.sn_osc.specs.Shape.{Shape, MessageShape, message}
use Rattle.sn_osc.specs.Bytes.{begins_with, counts_as}
use Rattle.sn_osc.specs.Reading.{◌>>=◌, Fails, fault, message_in, tag_in, is_headed, bundle_in, packet_or, packet_in}

abbrev pub Read : Type 0
Read = Result Shape PacketFault

-- what is read if the head of a bundle stands there
abbrev pub enclosing : ℕ → ℕ → ℕ → List ℕ → Result Shape PacketFault
enclosing zero around end bytes = fault TooDeep (end - length bytes)
enclosing (suc deep) around end bytes = bundle_in (packet_in deep (counts_as around (tag_in bytes))) around end bytes

pub is_or : (deep around end : ℕ) (bytes : List ℕ) → packet_in deep around end bytes ≡ packet_or (enclosing deep around end bytes) end bytes
unfolding packet_in
is_or zero around end bytes = refl
is_or (suc deep) around end bytes = refl

pub at_message : (deep around end : ℕ) (bytes : List ℕ) → begins_with 47 bytes ≡ true → packet_in deep around end bytes ≡ (message_in end bytes >>= λ m. Ok (message m))
unfolding packet_or
at_message deep around end bytes slash = is_or deep around end bytes ∙ rw slash refl

pub at_start : (deep around end : ℕ) (bytes : List ℕ) → begins_with 47 bytes ≡ false → begins_with 35 bytes ≡ false → packet_in deep around end bytes ≡ fault Start (end - length bytes)
unfolding packet_or
at_start deep around end bytes slash hash = is_or deep around end bytes ∙ rw (slash, hash) refl

pub at_head : (deep around end : ℕ) (bytes : List ℕ) → begins_with 47 bytes ≡ false → begins_with 35 bytes ≡ true → is_headed bytes ≡ false → packet_in deep around end bytes ≡ fault Head (end - length bytes)
unfolding packet_or
at_head deep around end bytes slash hash head = is_or deep around end bytes ∙ rw (slash, hash, head) refl

at_inner : (deep around end : ℕ) (bytes : List ℕ) → begins_with 47 bytes ≡ false → begins_with 35 bytes ≡ true → is_headed bytes ≡ true → packet_in deep around end bytes ≡ enclosing deep around end bytes
unfolding packet_or
at_inner deep around end bytes slash hash head = is_or deep around end bytes ∙ rw (slash, hash, head) refl

pub at_depth : (deep around end : ℕ) (bytes : List ℕ) → begins_with 47 bytes ≡ false → begins_with 35 bytes ≡ true → is_headed bytes ≡ true → deep ≡ 0 → packet_in deep around end bytes ≡ fault TooDeep (end - length bytes)
at_depth deep around end bytes slash hash head is = at_inner deep around end bytes slash hash head ∙ ap (λ d. enclosing d around end bytes) is

pub at_bundle : (deep around end : ℕ) (bytes : List ℕ) → begins_with 47 bytes ≡ false → begins_with 35 bytes ≡ true → is_headed bytes ≡ true → 0 < deep
    → packet_in deep around end bytes ≡ bundle_in (packet_in (deep - 1) (counts_as around (tag_in bytes))) around end bytes
at_bundle zero around end bytes slash hash head some = absurd (omega arith)
at_bundle (suc deep) around end bytes slash hash head some =
    let same : deep ≡ suc deep - 1 = omega arith in
    at_inner (suc deep) around end bytes slash hash head ∙ ap (λ d. bundle_in (packet_in d (counts_as around (tag_in bytes))) around end bytes) same

-- the fault of a message is that of its packet
pub message_fails : (e : Undecoded) (read : Result MessageShape PacketFault) → Fails e read → Fails e (read >>= λ m. Ok (message m))
message_fails undecoded.NoMemory read h = tt
message_fails (undecoded.Bad f) read h = rw h refl
