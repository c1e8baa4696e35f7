-- Reading one argument for each tag, as a loop does.
use Rattle.std.proofs.Common.{◌≡◌, ℕ, ◌+◌, ◌≤◌, ◌<◌, List, [], ◌∷◌, ◌++◌, length, drop, get_or, Result, Ok, Err, refl, sym, ap, ◌∙◌, append_assoc, append-nil}
use Rattle.std.proofs.lemmas.List.{at_drop_more, at_drop_all}
use Rattle.sn_osc.specs.declared.fault.PacketFault.{PacketFault}
use Rattle.sn_osc.specs.declared.fault.Undecoded.{Undecoded}
use Rattle.sn_osc.specs.declared.fault.Undecoded.TheVariants as undecoded
use Rattle.sn_osc.specs.Shape.{Argument}
use Rattle.sn_osc.specs.Reading.{◌>>=◌, Fails, argument_at, arguments_at}

abbrev Read : Type 0
Read = Result (List Argument × List ℕ) PacketFault

-- what was read before, and what is still read
abbrev pub with_front : List Argument → Result (List Argument × List ℕ) PacketFault → Result (List Argument × List ℕ) PacketFault
with_front front read = read >>= λ x. Ok (front ++ x.0, x.1)

abbrev step : ℕ → ℕ → List ℕ → List ℕ → Read
step end tag tags bytes = argument_at end tag bytes >>= λ first. arguments_at end tags first.1 >>= λ others. Ok (first.0 ∷ others.0, others.1)

turn : (end : ℕ) (tags : List ℕ) (i : ℕ) (bytes : List ℕ) → i < length tags → arguments_at end (drop i tags) bytes ≡ step end (get_or tags i 0) (drop (i + 1) tags) bytes
unfolding arguments_at
turn end tags i bytes lt = at_drop_more (λ (ts : List ℕ). arguments_at end ts bytes) tags i 0 lt

regroup : (front : List Argument) (x : Argument) (read : Read) → with_front front (read >>= λ others. Ok (x ∷ others.0, others.1)) ≡ with_front (front ++ x ∷ []) read
regroup front x (Ok others) = ap (λ (xs : List Argument). Ok (xs, others.1)) (simp append_assoc)
regroup front x (Err f) = refl

pub no_front : (read : Result (List Argument × List ℕ) PacketFault) → with_front [] read ≡ read
no_front (Ok x) = refl
no_front (Err f) = refl

pub goes_on : (end : ℕ) (front : List Argument) (tags : List ℕ) (i : ℕ) (bytes : List ℕ) (x : Argument) (after : List ℕ) (total : Result (List Argument × List ℕ) PacketFault) → i < length tags
    → argument_at end (get_or tags i 0) bytes ≡ Ok (x, after) → with_front front (arguments_at end (drop i tags) bytes) ≡ total → with_front (front ++ x ∷ []) (arguments_at end (drop (i + 1) tags) after) ≡ total
goes_on end front tags i bytes x after total lt read so_far =
    let one : arguments_at end (drop i tags) bytes ≡ (arguments_at end (drop (i + 1) tags) after >>= λ others. Ok (x ∷ others.0, others.1)) = turn end tags i bytes lt ∙ rw read refl in
    sym (regroup front x (arguments_at end (drop (i + 1) tags) after)) ∙ sym (ap (with_front front) one) ∙ so_far

pub ends : (e : Undecoded) (end : ℕ) (front : List Argument) (tags : List ℕ) (i : ℕ) (bytes : List ℕ) (total : Result (List Argument × List ℕ) PacketFault) → i < length tags
    → Fails e (argument_at end (get_or tags i 0) bytes) → with_front front (arguments_at end (drop i tags) bytes) ≡ total → Fails e total
ends undecoded.NoMemory end front tags i bytes total lt h so_far = tt
ends (undecoded.Bad f) end front tags i bytes total lt h so_far =
    let one : arguments_at end (drop i tags) bytes ≡ Err f = turn end tags i bytes lt ∙ rw h refl in
    sym so_far ∙ ap (with_front front) one

pub is_done : (end : ℕ) (front : List Argument) (tags : List ℕ) (i : ℕ) (bytes : List ℕ) (total : Result (List Argument × List ℕ) PacketFault) → length tags ≤ i
    → with_front front (arguments_at end (drop i tags) bytes) ≡ total → total ≡ Ok (front, bytes)
unfolding arguments_at
is_done end front tags i bytes total le so_far =
    sym so_far ∙ ap (with_front front) (at_drop_all (λ (ts : List ℕ). arguments_at end ts bytes) tags i le) ∙ ap (λ (xs : List Argument). Ok (xs, bytes)) (append-nil front)
