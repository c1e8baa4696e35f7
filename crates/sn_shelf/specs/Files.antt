-- What lies on a shelf, and what is read from it.
use Rattle.std.specs.Prelude.{◌≡◌, ◌<◌, ◌≤◌, ℕ, if◌then◌else◌, List, [], ◌∷◌, length, take, drop, map, Option, Some, None, Result, Ok, Err, IfSome, nat_le, bytes_eq, ⊤}
use Rattle.sn_ports.specs.Limits.{most_file}
use Rattle.sn_ports.specs.Transfer.{Before}
use Rattle.sn_shelf.specs.declared.traits.Unshelved.{Unshelved}
use Rattle.sn_shelf.specs.declared.traits.Unshelved.TheVariants.{Missing, Failed}
use Rattle.sn_shelf.specs.declared.files.Piece.{Piece}
use Rattle.sn_shelf.specs.declared.files.Piece.TheVariants.{More, End, NoFile}
use Rattle.sn_shelf.specs.declared.fault.Unexpanded.{Unexpanded}
use Rattle.sn_shelf.specs.declared.memory.ShelfFile.{ShelfFile}

-- a file: its name and its bytes
pub record File : Type 0 where
  pub name : List ℕ
  pub bytes : List ℕ

-- the bytes of the file with this name
abbrev pub bytes_named : List ℕ → List File → Option (List ℕ)
bytes_named name [] = None
bytes_named name (f ∷ fs) = if bytes_eq f.name name then Some f.bytes else bytes_named name fs

-- So many bytes, from a place on, were put at the start. If there is room, they are none only if no byte stands at the
-- place.
pub record GivesFrom (bytes : List ℕ) (at n : ℕ) (into : List ℕ) : Type 0 where
  pub front : take n into ≡ take n (drop at bytes)
  pub few : n ≤ length (drop at bytes)
  pub some : 0 < length into → 0 < length (drop at bytes) → 0 < n

-- What a read answers if there are such bytes, or no such file. It may fail in either case.
abbrev pub Reads : Option (List ℕ) → ℕ → Result ℕ Unshelved → List ℕ → Type 0
Reads (Some bytes) at (Ok n) into = GivesFrom bytes at n into
Reads (Some bytes) at (Err Missing) into = ⊥
Reads (Some bytes) at (Err Failed) into = ⊤
Reads None at (Ok n) into = ⊥
Reads None at (Err e) into = ⊤

-- what a read of a name answers, if the files are known
abbrev pub ReadsNamed : Option (List File) → List ℕ → ℕ → Result ℕ Unshelved → List ℕ → Type 0
ReadsNamed files name at r into = IfSome files (λ fs. Reads (bytes_named name fs) at r into)

-- ---- a shelf in memory

abbrev pub file_of : ShelfFile → File
file_of f = record { name = f.name.bytes; bytes = f.bytes.bytes }

abbrev pub files_of : List ShelfFile → List File
files_of = map file_of

-- no two files have one name
abbrev pub AreDistinct : List File → Type 0
AreDistinct [] = ⊤
AreDistinct (f ∷ fs) = (bytes_named f.name fs ≡ None) × AreDistinct fs

-- What a contract sees of a shelf in memory: its files, which calls fail, and how many calls and faults there were.
pub record Stocked : Type 0 where
  pub files : List File
  pub fails : List ℕ
  pub calls : ℕ
  pub faults : ℕ

-- ---- whole files

-- a file of at most 33,554,432 bytes
abbrev pub within_limit : Option (List ℕ) → Option (List ℕ)
within_limit None = None
within_limit (Some bytes) = if nat_le (length bytes) most_file then Some bytes else None

-- what has been read of a file begins it, and nothing is read if there is none
abbrev pub IsReadOf : List ℕ → Option (List ℕ) → Type 0
IsReadOf bytes None = bytes ≡ []
IsReadOf bytes (Some whole) = Before bytes whole

abbrev pub IsReadNamed : Option (List File) → List ℕ → List ℕ → Type 0
IsReadNamed files name bytes = IfSome files (λ fs. IsReadOf bytes (bytes_named name fs))

-- What reading on answers: what was read is still a prefix of the file, or is all of it, or there is no such file.
abbrev pub AnswersPiece : Option (List ℕ) → Result Piece Unexpanded → List ℕ → List ℕ → Type 0
AnswersPiece file (Ok More) old new = IsReadOf old file → IsReadOf new file
AnswersPiece file (Ok End) old new = IsReadOf old file → file ≡ Some new
AnswersPiece file (Ok NoFile) old new = file ≡ None
AnswersPiece file (Err e) old new = ⊤
