use Rattle.std.proofs.Common.{◌<◌, ap, subst, sym, ◌∙◌, length, List, ℕ}
use Rattle.sn_osc.specs.Bytes.{has_no_null}
use Rattle.sn_nodecmd.proofs.NameLemmas.{name-clean, name-short}
use Rattle.sn_nodecmd.proofs.describing.push_synth.Goals as goal

pub push_name-requires-clause-clean : goal.push_name-requires-clause-clean
push_name-requires-clause-clean c = ap has_no_null c.as_slice.ensures ∙ name-clean c.args.def.now.name.bytes c.is_named.ensures

pub push_name-requires-clause-short : goal.push_name-requires-clause-short
push_name-requires-clause-short c = subst (λ (n : List ℕ). length n < 60) (sym c.as_slice.ensures) (name-short c.args.def.now.name.bytes c.is_named.ensures)
