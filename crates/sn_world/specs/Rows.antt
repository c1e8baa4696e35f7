-- A command as a row of a table: its repetitions, the reasons against one in their order, and what one does.
use Rattle.std.specs.Prelude.{ℕ, Bool, List, [], ◌∷◌, Option, Some, None, Result, Ok, Err, if◌then◌else◌}
use Rattle.sn_osc.specs.Shape.{Argument, MessageShape}
use Rattle.sn_reply.specs.declared.reason.Reason.{Reason}
use Rattle.sn_reply.specs.declared.reason.Reason.TheVariants as Reasons
use Rattle.sn_world.specs.World.{World, Turn, replied}

-- the first reason whose test holds
abbrev pub first_of : List (Bool × Reason) → Option Reason
first_of [] = None
first_of (t ∷ ts) = if t.0 then Some t.1 else first_of ts

abbrev pub unless : {A : Type 0} → Option Reason → Result A Reason → Result A Reason
unless (Some reason) r = Err reason
unless None r = r

abbrev pub or_else : {A : Type 0} → Option A → Option A → Option A
or_else None o = o
or_else (Some x) o = Some x

-- ---- repetitions of one, two and three arguments

abbrev pub another : {R : Type 0} → Option R → Option (List R) → Option (List R)
another None rs = None
another (Some r) None = None
another (Some r) (Some rs) = Some (r ∷ rs)

abbrev pub singles : {R : Type 0} → (Argument → Option R) → List Argument → Option (List R)
singles p [] = Some []
singles p (x ∷ rest) = another (p x) (singles p rest)

abbrev pub pairs : {R : Type 0} → (Argument → Argument → Option R) → List Argument → Option (List R)
pairs p [] = Some []
pairs p (x ∷ []) = None
pairs p (x ∷ y ∷ rest) = another (p x y) (pairs p rest)

abbrev pub triples : {R : Type 0} → (Argument → Argument → Argument → Option R) → List Argument → Option (List R)
triples p [] = Some []
triples p (x ∷ []) = None
triples p (x ∷ y ∷ []) = None
triples p (x ∷ y ∷ z ∷ rest) = another (p x y z) (triples p rest)

-- at least one
abbrev pub some_of : {R : Type 0} → Option (List R) → Option (List R)
some_of None = None
some_of (Some []) = None
some_of (Some (r ∷ rs)) = Some (r ∷ rs)

-- ---- repetitions that change the world, each judged in what the earlier ones left

abbrev pub steps : {R : Type 0} → (World → R → Option Reason) → (R → Turn → Turn) → List R → Turn → Result Turn Reason
steps judge act [] t = Ok t
steps judge act (r ∷ rs) t = unless (judge t.world r) (steps judge act rs (act r t))

-- If the arguments are no repetitions of the command, nothing else is judged.
abbrev pub row : {R : Type 0} → (World → R → Option Reason) → (R → Turn → Turn) → Option (List R) → Turn → Result Turn Reason
row judge act None t = Err Reasons.Arguments
row judge act (Some rs) t = steps judge act rs t

-- ---- repetitions that ask, with one reply to all of them

-- the first reason against any of them
abbrev pub first_refusal : {R : Type 0} → (R → Option Reason) → List R → Option Reason
first_refusal judge [] = None
first_refusal judge (r ∷ rs) = or_else (judge r) (first_refusal judge rs)

abbrev pub question : {R : Type 0} → (World → R → Option Reason) → (World → List R → MessageShape) → ℕ → Option (List R) → Turn → Result Turn Reason
question judge answer from None t = Err Reasons.Arguments
question judge answer from (Some rs) t = unless (first_refusal (judge t.world) rs) (Ok (replied from (answer t.world rs) t))

-- ---- all repetitions of a message that changes the world, without judging

abbrev pub act_all : {R : Type 0} → (R → Turn → Turn) → List R → Turn → Turn
act_all act [] t = t
act_all act (r ∷ rs) t = act_all act rs (act r t)
