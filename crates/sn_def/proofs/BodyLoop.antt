-- Reading the lines after the first two, as a loop does.
use Rattle.std.proofs.Common.{◌≡◌, ℕ, ◌+◌, ◌≤◌, ◌<◌, ◌==◌, Bool, true, false, cond, List, [], length, drop, get_or, Result, Ok, Err, refl, sym, ap, ◌∙◌, codes, arith, length-drop, ne_eqb}
use Rattle.std.specs.Str.{bytes_eq}
use Rattle.std.proofs.lemmas.List.{at_drop_more, at_drop_all}
use Rattle.sn_def.specs.declared.fault.DefKind.TheVariants as wrong
use Rattle.sn_def.specs.declared.fault.DefFault.{DefFault}
use Rattle.sn_def.specs.declared.fault.Unread.{Unread}
use Rattle.sn_def.specs.declared.fault.Unread.TheVariants as unread
use Rattle.sn_def.specs.declared.version.Version.{Version}
use Rattle.sn_def.specs.Definition.{Definition}
use Rattle.sn_def.specs.Reading.{◌>>=◌, pieces, line_at, at_line, fault, end_at, body_at}
use Rattle.sn_def.specs.Answers.{UnreadAs}

abbrev Read : Type 0
Read = Result Definition DefFault

-- the line at i, and those after it
abbrev from_line : Version → Definition → List (List ℕ) → ℕ → Bool → Bool → Read → Read
from_line v d lines i last ends next = cond last (Err (fault (3 + i) wrong.Line)) (cond ends (end_at (3 + i) d (drop (i + 1) lines)) (next >>= λ e. body_at v (3 + i + 1) e (drop (i + 1) lines)))

turn : (v : Version) (d : Definition) (lines : List (List ℕ)) (i : ℕ) → i < length lines
    → body_at v (3 + i) d (drop i lines) ≡ from_line v d lines i (length (drop (i + 1) lines) == 0) (bytes_eq (get_or lines i []) (codes "end")) (at_line (3 + i) (line_at v d (pieces 32 (get_or lines i []))))
unfolding body_at
turn v d lines i lt = at_drop_more (λ (ls : List (List ℕ)). body_at v (3 + i) d ls) lines i [] lt

last_one : (lines : List (List ℕ)) (i : ℕ) → length lines ≤ i + 1 → (length (drop (i + 1) lines) == 0) ≡ true
last_one lines i le = let none : length (drop (i + 1) lines) ≡ 0 = omega (arith, length-drop (i + 1) lines) in rw none refl

not_last : (lines : List (List ℕ)) (i : ℕ) → i + 1 < length lines → (length (drop (i + 1) lines) == 0) ≡ false
not_last lines i lt = ne_eqb (length (drop (i + 1) lines)) 0 (omega (arith, length-drop (i + 1) lines))

pub is_cut : (v : Version) (d : Definition) (lines : List (List ℕ)) (i : ℕ) (total : Read) → i < length lines → length lines ≤ i + 1 → body_at v (3 + i) d (drop i lines) ≡ total → total ≡ Err (fault (3 + i) wrong.Line)
is_cut v d lines i total lt le so_far = sym so_far ∙ turn v d lines i lt ∙ rw (last_one lines i le) refl

pub ends : (v : Version) (d : Definition) (lines : List (List ℕ)) (i : ℕ) (total : Read) → i + 1 < length lines → bytes_eq (get_or lines i []) (codes "end") ≡ true → body_at v (3 + i) d (drop i lines) ≡ total → total ≡ end_at (3 + i) d (drop (i + 1) lines)
ends v d lines i total lt is so_far = let here : i < length lines = omega arith in sym so_far ∙ turn v d lines i here ∙ rw (not_last lines i lt, is) refl

goes : (v : Version) (d : Definition) (lines : List (List ℕ)) (i : ℕ) (total : Read) → i + 1 < length lines → bytes_eq (get_or lines i []) (codes "end") ≡ false → body_at v (3 + i) d (drop i lines) ≡ total
    → total ≡ (at_line (3 + i) (line_at v d (pieces 32 (get_or lines i []))) >>= λ e. body_at v (3 + i + 1) e (drop (i + 1) lines))
goes v d lines i total lt is so_far = let here : i < length lines = omega arith in sym so_far ∙ turn v d lines i here ∙ rw (not_last lines i lt, is) refl

pub goes_on : (v : Version) (d next : Definition) (lines : List (List ℕ)) (i : ℕ) (total : Read) → i + 1 < length lines → bytes_eq (get_or lines i []) (codes "end") ≡ false → at_line (3 + i) (line_at v d (pieces 32 (get_or lines i []))) ≡ Ok next
    → body_at v (3 + i) d (drop i lines) ≡ total → body_at v (3 + (i + 1)) next (drop (i + 1) lines) ≡ total
goes_on v d next lines i total lt is read so_far =
    let number : 3 + (i + 1) ≡ 3 + i + 1 = omega arith in
    let later : total ≡ body_at v (3 + i + 1) next (drop (i + 1) lines) = goes v d lines i total lt is so_far ∙ rw read refl in
    ap (λ (n : ℕ). body_at v n next (drop (i + 1) lines)) number ∙ sym later

pub is_bad : (e : Unread) (v : Version) (d : Definition) (lines : List (List ℕ)) (i : ℕ) (total : Read) → i + 1 < length lines → bytes_eq (get_or lines i []) (codes "end") ≡ false → UnreadAs e (at_line (3 + i) (line_at v d (pieces 32 (get_or lines i []))))
    → body_at v (3 + i) d (drop i lines) ≡ total → UnreadAs e total
is_bad unread.NoMemory v d lines i total lt is read so_far = tt
is_bad (unread.Bad f) v d lines i total lt is read so_far = goes v d lines i total lt is so_far ∙ rw read refl

pub no_lines : (v : Version) (d : Definition) (lines : List (List ℕ)) (i : ℕ) (total : Read) → length lines ≤ i → body_at v (3 + i) d (drop i lines) ≡ total → total ≡ Err (fault (3 + i) wrong.Line)
unfolding body_at
no_lines v d lines i total le so_far = sym so_far ∙ at_drop_all (λ (ls : List (List ℕ)). body_at v (3 + i) d ls) lines i le
