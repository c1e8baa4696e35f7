use Rattle.std.proofs.Common.{◌≡◌, ◌+◌, List, [], ℕ, replicate, ◌∙◌, sym, subst}
use Rattle.atomic_table.specs.Table.{opening}
use Rattle.sn_table.specs.Tables.{first_view, TableHolds}
use Rattle.sn_table.proofs.Steps.{opens}
use Rattle.sn_table.proofs.seats.Shared.open.Goals as goal

pub of_words-requires : goal.of_words-requires
of_words-requires c = let h = c.in_ok-zeros.ensures.items_if_clones_equal in let e : replicate (c.args.words + c.args.jobs) 0 ≡ c.deref.result.now = sym (c.deref.ensures.value ∙ h (λ y e. e)) in subst (λ (ws : List ℕ). TableHolds c.args.words c.args.jobs (opening {S = ℕ} ws [] (first_view c.args.words c.args.jobs))) e (opens c.args.words c.args.jobs)
