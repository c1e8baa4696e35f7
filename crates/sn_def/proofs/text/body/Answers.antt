use Rattle.std.proofs.Common.{rules, ◌≡◌, ◌<◌, length, ◌+◌, ◌-◌, ◌≤◌, true, false, [], ap, sym, ◌∙◌, arith, take, drop, length-drop, get_or, codes, subst, Result}
use Rattle.std.specs.Str.{bytes_eq}
use Rattle.std.proofs.lemmas.List.{drop-map, take_all}
use Rattle.std.proofs.lemmas.Result.{err_from_is_err_and}
use Rattle.sn_def.specs.declared.fault.DefFault.{DefFault}
use Rattle.sn_def.specs.Definition.{Definition}
use Rattle.sn_def.specs.Reading.{end_at, body_at}
use Rattle.sn_def.specs.Answers.{Reads, texts}
use Rattle.sn_def.proofs.Fielding.{Field, text_there, as_many}
use Rattle.sn_def.proofs.Forming.{at_line_ok}
use Rattle.sn_def.proofs.Growing.{line_grows}
use Rattle.sn_def.proofs.BodyLoop.{is_cut, ends, goes_on, is_bad, no_lines}
use Rattle.sn_def.proofs.text.body.Goals as goal

pub returns-then-at-lines : goal.returns-then-at-lines
returns-then-at-lines c =
    let lines = c.args.lines.now in
    let lt : c.loop-at.at < length (texts lines) = rw (as_many lines) c.loop-at-test.true in
    let le : length (texts lines) ≤ c.loop-at.at + 1 = omega (arith, as_many lines) in
    rw (c.bad.ensures, c.line-number.ensures.count) (is_cut c.args.version c.loop-at.read (texts lines) c.loop-at.at _ lt le c.loop-at.invariant.read)

pub returns-then-eq : goal.returns-then-eq
returns-then-eq c =
    let lines = c.args.lines.now in
    let i = c.loop-at.at in
    let more : i + 1 < length (texts lines) = omega (arith, as_many lines, c.loop-at-test.true) in
    let is : bytes_eq (get_or (texts lines) i []) (codes "end") ≡ true = rw (text_there lines i) (search rules) in
    let ended : body_at c.args.version 3 c.args.draft (texts lines) ≡ end_at (3 + i) c.loop-at.read (texts (drop (i + 1) lines)) =
    ends c.args.version c.loop-at.read (texts lines) i _ more is c.loop-at.invariant.read ∙ ap (end_at (3 + i) c.loop-at.read) (drop-map (λ (f : Field). f.now) (i + 1) lines) in
    let all : take (length lines - (i + 1)) (drop (i + 1) lines) ≡ drop (i + 1) lines = take_all (length lines - (i + 1)) (drop (i + 1) lines) (omega (arith, length-drop (i + 1) lines)) in
    subst (λ (r : Result Definition DefFault). Reads (λ d. d) c.end.result r) (sym ended) (rw (all, c.line-number.ensures.count) at c.end.ensures)

pub returns-in_err-read : goal.returns-in_err-read
returns-in_err-read c =
    let p = err_from_is_err_and c.from_residual.result c.from_residual.ensures.1 in
    let lines = c.args.lines.now in
    let i = c.loop-at.at in
    let more : i + 1 < length (texts lines) = omega (arith, as_many lines, c.loop-at-test.true) in
    let is : bytes_eq (get_or (texts lines) i []) (codes "end") ≡ false = rw (text_there lines i) (search rules) in
    rw (p.1, p.2) (is_bad _ c.args.version c.loop-at.read (texts lines) i _ more is (rw (text_there lines i, ← c.line-number.ensures.count) c.in_err-read.ensures) c.loop-at.invariant.read)

pub loop-at-preserved : goal.loop-at-preserved
loop-at-preserved c =
    let lines = c.args.lines.now in
    let i = c.loop-at.at in
    let more : i + 1 < length (texts lines) = omega (arith, as_many lines, c.loop-at-test.true) in
    let is : bytes_eq (get_or (texts lines) i []) (codes "end") ≡ false = rw (text_there lines i) (search rules) in
    record {
      within = omega (arith, c.loop-at-test.true);
      few = omega (arith, c.loop-at.invariant.few, line_grows c.args.version c.loop-at.read c.in_ok-read.read _ (at_line_ok _ _ c.in_ok-read.read c.in_ok-read.ensures));
      read = goes_on c.args.version c.loop-at.read c.in_ok-read.read (texts lines) i _ more is (rw (text_there lines i, ← c.line-number.ensures.count) c.in_ok-read.ensures) c.loop-at.invariant.read;
    }

pub returns : goal.returns
returns c =
    let lines = c.args.lines.now in
    let le : length (texts lines) ≤ c.loop-at.at = rw (as_many lines) c.loop-at-test.false in
    let last : length lines ≡ c.loop-at.at = omega (arith, as_many lines, c.loop-at.invariant.within) in
    rw (c.bad-2.ensures, c.line.ensures.count, last) (no_lines c.args.version c.loop-at.read (texts lines) c.loop-at.at _ le c.loop-at.invariant.read)
