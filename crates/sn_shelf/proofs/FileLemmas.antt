-- Files that are read piece by piece.
use Rattle.std.proofs.Common.{◌≡◌, ◌≤◌, ◌<◌, ℕ, List, [], ◌∷◌, ◌++◌, length, take, drop, Option, Some, None, Ok, Bool, true, false, refl, sym, ap, ◌∙◌, subst, arith, append_assoc, append-nil, take-append-drop}
use Rattle.std.specs.Prelude.{IfSome, nat_le, if◌then◌else◌}
use Rattle.std.proofs.lemmas.Bool.{le-leb, lt-leb}
use Rattle.std.proofs.lemmas.List.{length-append, drop_at}
use Rattle.sn_ports.specs.Transfer.{Before}
use Rattle.sn_shelf.specs.Files.{File, GivesFrom, Reads, ReadsNamed, IsReadOf, IsReadNamed, AnswersPiece, within_limit, bytes_named}
use Rattle.sn_shelf.specs.declared.files.Piece.TheVariants.{More, End, NoFile}

-- one more piece
pub piece_more : (whole old into : List ℕ) (n : ℕ) → GivesFrom whole (length old) n into → Before old whole → Before (old ++ take n into) whole
piece_more whole old into n g b =
    let rest = b.0 in
    let left : drop (length old) whole ≡ rest = ap (drop (length old)) b.1 ∙ drop_at old rest (length old) refl in
    let piece : take n into ≡ take n rest = g.front ∙ ap (take n) left in
    (drop n rest, b.1 ∙ ap (λ l. old ++ l) (sym (take-append-drop n rest)) ∙ ap (λ l. old ++ (l ++ drop n rest)) (sym piece) ∙ sym (append_assoc old (take n into) (drop n rest)))

-- none more
pub piece_none : (whole old into : List ℕ) → 0 < length into → GivesFrom whole (length old) 0 into → Before old whole → Some whole ≡ Some old
piece_none whole old into some g b = ends b.0 b.1
  where
    ends : (rest : List ℕ) → whole ≡ old ++ rest → Some whole ≡ Some old
    ends [] e = ap (λ l. Some l) (e ∙ append-nil old)
    ends (x ∷ rest) e =
        let left : drop (length old) whole ≡ x ∷ rest = ap (drop (length old)) e ∙ drop_at old (x ∷ rest) (length old) refl in
        let there : 0 < length (drop (length old) whole) = omega (arith, ap length left) in
        absurd (omega (arith, g.some some there))

-- what a read that gave bytes, or none, answers of a file
pub reads_more : (files : Option (List File)) (name old into new : List ℕ) (at n : ℕ) → ReadsNamed files name at (Ok n) into → at ≡ length old → new ≡ old ++ take n into
    → IfSome files (λ fs. AnswersPiece (bytes_named name fs) (Ok More) old new)
reads_more None name old into new at n reads is put = tt
reads_more (Some fs) name old into new at n reads is put = of (bytes_named name fs) reads
  where
    of : (file : Option (List ℕ)) → Reads file at (Ok n) into → AnswersPiece file (Ok More) old new
    of None r = absurd r
    of (Some whole) r = λ b. subst (λ l. Before l whole) (sym put) (piece_more whole old into n (subst (λ k. GivesFrom whole k n into) is r) b)

pub reads_none : (files : Option (List File)) (name old into : List ℕ) (at : ℕ) → ReadsNamed files name at (Ok 0) into → at ≡ length old → 0 < length into
    → IfSome files (λ fs. AnswersPiece (bytes_named name fs) (Ok End) old old)
reads_none None name old into at reads is some = tt
reads_none (Some fs) name old into at reads is some = of (bytes_named name fs) reads
  where
    of : (file : Option (List ℕ)) → Reads file at (Ok 0) into → AnswersPiece file (Ok End) old old
    of None r = absurd r
    of (Some whole) r = λ b. piece_none whole old into some (subst (λ k. GivesFrom whole k 0 into) is r) b

-- ---- whole files

few_kept : (b : Bool) (bytes : List ℕ) → b ≡ true → (if b then Some bytes else None) ≡ Some bytes
few_kept true bytes h = refl
few_kept false bytes h = absurd cc

many_dropped : (b : Bool) (bytes : List ℕ) → b ≡ false → (if b then Some bytes else None) ≡ None
many_dropped true bytes h = absurd cc
many_dropped false bytes h = refl

pub within_few : (bytes : List ℕ) → length bytes ≤ 33554432 → within_limit (Some bytes) ≡ Some bytes
within_few bytes few = few_kept (nat_le (length bytes) 33554432) bytes (le-leb (length bytes) 33554432 few)

pub within_many : (bytes : List ℕ) → 33554432 < length bytes → within_limit (Some bytes) ≡ None
within_many bytes many = many_dropped (nat_le (length bytes) 33554432) bytes (lt-leb (length bytes) 33554432 many)

-- all was read; a shelf has the files that it had
pub read_whole : (files same : Option (List File)) (name old new : List ℕ) → same ≡ files → IsReadNamed files name old → IfSome same (λ fs. AnswersPiece (bytes_named name fs) (Ok End) old new) → length new ≤ 33554432
    → IfSome files (λ fs. Some new ≡ within_limit (bytes_named name fs))
read_whole files same name old new kept is answers few = of files is (subst (λ (o : Option (List File)). IfSome o (λ fs. AnswersPiece (bytes_named name fs) (Ok End) old new)) kept answers)
  where
    of : (o : Option (List File)) → IsReadNamed o name old → IfSome o (λ fs. AnswersPiece (bytes_named name fs) (Ok End) old new) → IfSome o (λ fs. Some new ≡ within_limit (bytes_named name fs))
    of None is answers = tt
    of (Some fs) is answers = sym (ap within_limit (answers is) ∙ within_few new few)

-- there is none
pub read_nothing : (files same : Option (List File)) (name old new : List ℕ) → same ≡ files → IfSome same (λ fs. AnswersPiece (bytes_named name fs) (Ok NoFile) old new)
    → IfSome files (λ fs. None ≡ within_limit (bytes_named name fs))
read_nothing files same name old new kept answers = of files (subst (λ (o : Option (List File)). IfSome o (λ fs. AnswersPiece (bytes_named name fs) (Ok NoFile) old new)) kept answers)
  where
    of : (o : Option (List File)) → IfSome o (λ fs. AnswersPiece (bytes_named name fs) (Ok NoFile) old new) → IfSome o (λ fs. None ≡ within_limit (bytes_named name fs))
    of None answers = tt
    of (Some fs) answers = sym (ap within_limit answers)

-- some of it was read
pub read_some : (files same : Option (List File)) (name old new : List ℕ) → same ≡ files → IsReadNamed files name old → IfSome same (λ fs. AnswersPiece (bytes_named name fs) (Ok More) old new)
    → IsReadNamed files name new
read_some files same name old new kept is answers = of files is (subst (λ (o : Option (List File)). IfSome o (λ fs. AnswersPiece (bytes_named name fs) (Ok More) old new)) kept answers)
  where
    of : (o : Option (List File)) → IsReadNamed o name old → IfSome o (λ fs. AnswersPiece (bytes_named name fs) (Ok More) old new) → IsReadNamed o name new
    of None is answers = tt
    of (Some fs) is answers = answers is

-- more was read than a file may have
pub read_too_much : (files : Option (List File)) (name bytes : List ℕ) → IsReadNamed files name bytes → 33554432 < length bytes → IfSome files (λ fs. None ≡ within_limit (bytes_named name fs))
read_too_much None name bytes is many = tt
read_too_much (Some fs) name bytes is many = of (bytes_named name fs) is
  where
    of : (file : Option (List ℕ)) → IsReadOf bytes file → None ≡ within_limit file
    of None r = refl
    of (Some whole) r = sym (within_many whole (omega (arith, many, ap length r.1, length-append bytes r.0)))

-- what was read of a file of which nothing was
pub none_read : (files : Option (List File)) (name : List ℕ) → IsReadNamed files name []
none_read None name = tt
none_read (Some fs) name = of (bytes_named name fs)
  where
    of : (file : Option (List ℕ)) → IsReadOf [] file
    of None = refl
    of (Some whole) = (whole, refl)
