-- What the answer of reading says, from what is read.
use Rattle.std.proofs.Common.{◌≡◌, ℕ, ◌+◌, ◌<◌, ◌≤◌, ◌==◌, List, [], length, get_or, drop, Bor, Result, Ok, Err, IfOk, sym, ap, subst, ◌∙◌, arith}
use Rattle.std.proofs.Math.ListN.{get_or-map}
use Rattle.std.proofs.lemmas.List.{length-map}
use Rattle.std.proofs.lemmas.List.Splits.{length-slice_split}
use Rattle.std.proofs.lemmas.List.Sums.{count_by-le-length}
use Rattle.sn_osc.specs.Shape.{Shape}
use Rattle.sn_score.specs.declared.fault.Unscored.{Unscored}
use Rattle.sn_score.specs.declared.fault.Unscored.TheVariants as unscored
use Rattle.sn_score.specs.Score.{Score}
use Rattle.sn_score.specs.Faults.{ScoreFault}
use Rattle.sn_score.specs.Reached.{Reached, Read, after_line, lines_at, pieces, read}
use Rattle.sn_score.specs.Answers.{Reads, UnscoredAs, NextAs, texts}
use Rattle.sn_score.proofs.FirstFaults.{read_score, read_fault}
use Rattle.sn_score.proofs.Loops.{is_fault}

pub ok_is : (a b : List Shape) → (let r : Read = Ok a in r) ≡ Ok b → a ≡ b
ok_is a b e = cc

pub number_is : (m n : ℕ) → (let r : Read = Err m in r) ≡ Err n → m ≡ n
number_is m n e = cc

pub is_found : {X : Type 0} (view : X → List Shape) (text : List ℕ) (r : Result X Unscored) → Reads view r (read text) → IfOk r (λ x. Score text (view x))
is_found view text (Ok x) reads = read_score text (view x) reads
is_found view text (Err e) reads = tt

pub is_bad : {X : Type 0} (view : X → List Shape) (text : List ℕ) (r : Result X Unscored) (number : ℕ) → r ≡ Err (unscored.Bad number) → Reads view r (read text) → ScoreFault text number
is_bad view text r number is reads = read_fault text number (subst (λ k. Reads view k (read text)) is reads)

-- ---- lines that are lent

abbrev pub Lent : Type 0
Lent = Bor (List ℕ)

pub text_there : (lines : List Lent) (i : ℕ) → get_or (texts lines) i [] ≡ (get_or lines i (record { ref_ptr = (0, 0); now = [] })).now
text_there lines i = get_or-map (λ (l : Lent). l.now) lines i (record { ref_ptr = (0, 0); now = [] })

pub as_many : (lines : List Lent) → length (texts lines) ≡ length lines
as_many lines = length-map lines (λ (l : Lent). l.now)

pub few_pieces : (text : List ℕ) → length (pieces text) ≤ length text + 1
few_pieces text = omega (arith, length-slice_split (λ b. b == 10) text, count_by-le-length (λ b. b == 10) text)

pub fault_from : (e : Unscored) (s : Reached) (lines : List (List ℕ)) (i n : ℕ) (total : Read) → i + 1 < length lines → NextAs n e (after_line s (get_or lines i [])) → lines_at s n (drop i lines) ≡ total → UnscoredAs e total
fault_from unscored.NoMemory s lines i n total lt next so_far = tt
fault_from (unscored.Bad line) s lines i n total lt next so_far = is_fault s lines i n total lt next.1 so_far ∙ ap (λ m. Err m) (sym next.0)
