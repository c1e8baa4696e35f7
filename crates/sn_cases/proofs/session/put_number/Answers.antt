use Rattle.std.proofs.Common.{◌≤◌, ℕ, All, sym, subst}
use Rattle.std.proofs.lemmas.List.Elements.{All-push}
use Rattle.sn_ports.specs.Limits.{most_ticks}
use Rattle.sn_cases.proofs.session.put_number.Goals as goal

pub returns : goal.returns
returns c =
    let small : ℕ → Type 0 = λ n. n ≤ most_ticks in
    subst (All small) (sym c.in_ok-push.ensures.items) (All-push small c.args.numbers.now.items c.args.number c.requires.before c.requires.due)
