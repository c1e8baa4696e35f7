use Rattle.std.proofs.Common.{◌≡◌, ◌≤◌, length, map, Option, Some, None, List, ℤ, sym, ap, ◌∙◌, arith, rules}
use Rattle.std.proofs.lemmas.Grind.{common_steps}
use Rattle.sn_osc.specs.Shape.{argument_of}
use Rattle.sn_world.specs.Runs.{value_runs}
use Rattle.sn_world.proofs.Parsing.{after, after-another}
use Rattle.sn_world.proofs.RunLemmas.{behind_two, with_values, head-step, run-short, run-read, runs-one}
use Rattle.sn_world.proofs.runs.value_runs.Goals as goal

pub returns-then-after-count : goal.returns-then-after-count
returns-then-after-count c =
    let args = c.loop-rest.rest.now in
    let head = head-step args c.first-item.result c.count-item.result (Some c.in-Some.run') c.in-len2-up.len_at_least c.first-item.is c.count-item.is (sym c.from_two.ensures ∙ c.in-Some.is) in
    let short = run-short c.in-Some.run' (behind_two args) c.if-after-count.true in
    sym (ap (after c.loop-rest.found.items) (head ∙ short)) ∙ c.loop-rest.invariant

pub returns-in_default-2 : goal.returns-in_default-2
returns-in_default-2 c =
    let args = c.loop-rest.rest.now in
    let bad : Option (List ℤ) = None in
    let none : c.in_ok-values.field-0 ≡ None = c.in_default-2.is in
    let read = run-read args c.split_at.result.0.now c.split_at.result.1.now c.first-item.result c.count-item.result c.in-Some.run' bad c.in-len2-up.len_at_least c.first-item.is c.count-item.is (sym c.from_two.ensures ∙ c.in-Some.is)
    c.if-after-count.false c.split_at.ensures.front c.split_at.ensures.back (rw none at c.in_ok-values.ensures) in
    sym (ap (after c.loop-rest.found.items) read) ∙ c.loop-rest.invariant

pub loop-rest-preserved : goal.loop-rest-preserved
loop-rest-preserved c =
    let args = c.loop-rest.rest.now in
    let behind = c.split_at.result.1.now in
    let found = c.loop-rest.found.items in
    let run = c.in-Some.run' in
    let read = run-read args c.split_at.result.0.now behind c.first-item.result c.count-item.result run (Some c.in-Some-2.values.items) c.in-len2-up.len_at_least c.first-item.is c.count-item.is (sym c.from_two.ensures ∙ c.in-Some.is)
    c.if-after-count.false c.split_at.ensures.front c.split_at.ensures.back (rw c.in-Some-2.is at c.in_ok-values.ensures) in
    ap (λ items. after items (value_runs (map argument_of behind))) (c.in_ok-push.ensures.items ∙ search rules)
    ∙ after-another found (with_values run c.in-Some-2.values.items) (value_runs (map argument_of behind))
    ∙ sym (ap (after found) read) ∙ c.loop-rest.invariant

pub returns-else-is_empty : goal.returns-else-is_empty
returns-else-is_empty c =
    let some : 1 ≤ length c.loop-rest.rest.now = grind (arith, common_steps) in
    sym (ap (after c.loop-rest.found.items) (runs-one c.loop-rest.rest.now some (omega arith))) ∙ c.loop-rest.invariant
