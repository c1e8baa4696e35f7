use Rattle.std.proofs.Common.{◌≡◌, ◌||◌, subst}
use Rattle.sn_mem.specs.Words.{covers, has}
use Rattle.sn_pool.specs.Holes.{HolesState}
use Rattle.sn_pool.proofs.Runs.{has_more}
use Rattle.sn_pool.proofs.holes.Holes.add.Goals as goal

pub returns-then-run-gt0-clause-words : goal.returns-then-run-gt0-clause-words
returns-then-run-gt0-clause-words c = λ x.
    subst (λ (s : HolesState). has c.insert.new.self.items x ≡ (covers c.args.run x || has s.runs x)) c.self.view_is
    (has_more c.args.run c.self.inside.by_place.items c.insert.new.self.items c.insert.ensures.added x)
