use Rattle.std.proofs.Common.{refl, arith}
use Rattle.sn_play.proofs.Spanned.{in_memory, played, rests}
use Rattle.sn_play.proofs.laws.span_is_the_walks.Goals as goal

pub returns : goal.returns
returns c =
    let w = c.args.work.now in
    record {
      feet = λ words ready p room. in_memory w c.root_holds_all.ensures c.ids_are_distinct.ensures ready words p room;
      script = λ words. c.sequential_is_a_script.ensures w.all.now words refl (λ j lt. refl);
      played = λ words ready p room resting. played w c.root_holds_all.ensures c.ids_are_distinct.ensures ready words p room ready.most (omega arith) resting;
      rests = λ words ready p room all more resting. rests w c.root_holds_all.ensures c.ids_are_distinct.ensures ready words p room all more resting;
    }
