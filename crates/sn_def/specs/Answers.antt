-- What a reader answers, against what reading gives.
use Rattle.std.specs.Prelude.{◌≡◌, Result, Ok, Err, List, ℕ, map}
use Rattle.std.specs.Borrow.{Bor}
use Rattle.sn_def.specs.declared.fault.DefKind.{DefKind}
use Rattle.sn_def.specs.declared.fault.DefFault.{DefFault}
use Rattle.sn_def.specs.declared.fault.Refused.{Refused}
use Rattle.sn_def.specs.declared.fault.Refused.TheVariants as refused
use Rattle.sn_def.specs.declared.fault.Unread.{Unread}
use Rattle.sn_def.specs.declared.fault.Unread.TheVariants as unread
use Rattle.sn_def.specs.Reading.{fault}

abbrev pub texts : List (Bor (List ℕ)) → List (List ℕ)
texts fields = map (λ f. f.now) fields

-- `NoMemory`, or what reading gives
abbrev pub RefusedAs : {Y : Type 0} → Refused → Result Y DefKind → Type 0
RefusedAs refused.NoMemory read = Unit {0}
RefusedAs (refused.Because kind) read = read ≡ Err kind

abbrev pub Gives : {X Y : Type 0} → (X → Y) → Result X Refused → Result Y DefKind → Type 0
Gives view (Ok x) read = read ≡ Ok (view x)
Gives view (Err e) read = RefusedAs e read

-- what is answered for a line that was refused
abbrev pub told_at : ℕ → Refused → Unread
told_at line refused.NoMemory = unread.NoMemory
told_at line (refused.Because kind) = unread.Bad (fault line kind)

abbrev pub UnreadAs : {Y : Type 0} → Unread → Result Y DefFault → Type 0
UnreadAs unread.NoMemory read = Unit {0}
UnreadAs (unread.Bad fault) read = read ≡ Err fault

abbrev pub Reads : {X Y : Type 0} → (X → Y) → Result X Unread → Result Y DefFault → Type 0
Reads view (Ok x) read = read ≡ Ok (view x)
Reads view (Err e) read = UnreadAs e read
