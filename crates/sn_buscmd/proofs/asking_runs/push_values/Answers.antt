use Rattle.std.proofs.Common.{◌+◌, ◌-◌, ◌++◌, ◌∷◌, ℕ, List, nat_abs, to_z, of_z, map, sym, ap, ◌∙◌, rules}
use Rattle.std.specs.Prelude.{FitsSigned}
use Rattle.std.specs.Int.{w32}
use Rattle.std.proofs.lemmas.Int.{to_z-of_z}
use Rattle.sn_osc.specs.Shape.{Argument, int, argument_of}
use Rattle.sn_mem.specs.Buses.{control_buses}
use Rattle.sn_world.specs.Buses.{value_at}
use Rattle.sn_world.specs.Runs.{values_from}
use Rattle.sn_buscmd.proofs.RunLemmas.{pushed, values-more}
use Rattle.sn_buscmd.proofs.asking_runs.push_values.Goals as goal

pub loop-number-preserved : goal.loop-number-preserved
loop-number-preserved g c =
    let buses = control_buses (g.P.Port.words c.args.port.now) in
    let found = c.loop-number.found.items in
    let number = c.loop-number.number in
    let end : ℕ = nat_abs (to_z w32 (of_z w32 c.args.run.now.first)) + c.args.run.now.count in
    let rest : List Argument = values_from buses (number + 1) (end - (number + 1)) in
    let fits : FitsSigned w32 c.value_at.result = search rules in
    record {
      left =
          ap (λ items. map argument_of items ++ rest) c.in_ok-push.ensures.items
          ∙ pushed found (to_z w32 (of_z w32 c.value_at.result)) rest
          ∙ ap (λ v. map argument_of found ++ int v ∷ rest) (to_z-of_z w32 c.value_at.result fits ∙ c.value_at.ensures.value ∙ ap (λ ws. value_at (control_buses ws) number) c.loop-number.invariant.words)
          ∙ sym (ap (λ xs. map argument_of found ++ xs) (values-more buses number end c.loop-number-test.true))
          ∙ c.loop-number.invariant.left;
      words = c.value_at.ensures.words ∙ c.loop-number.invariant.words;
      foot = c.value_at.ensures.port.0 ∙ c.loop-number.invariant.foot;
      rest = c.value_at.ensures.port.1 ∙ c.loop-number.invariant.rest;
    }
