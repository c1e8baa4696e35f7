use Rattle.std.proofs.Common.{◌≡◌, ◌+◌, ◌∙◌, suc, ap, sym, arith}
use Rattle.sn_quiet.specs.Walks.{settled_world, walks, walks_settled}
use Rattle.sn_quiet.proofs.Worlds.{walk_unseen, walks_settle}
use Rattle.sn_quiet.proofs.laws.settling_is_unseen.Goals as goal

pub returns : goal.returns
returns c = record {
  walk = walk_unseen;
  walks = λ b n w. let s : n + 1 ≡ suc n = omega arith in ap (λ m. settled_world (walks b m w)) s ∙ (walks_settle b n w ∙ ap (λ m. walks_settled b m w) (sym s));
}
