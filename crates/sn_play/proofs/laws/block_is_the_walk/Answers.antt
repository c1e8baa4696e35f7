use Rattle.std.proofs.Common.{refl}
use Rattle.sn_play.proofs.JobRuns.{block_rests, block_walks, within}
use Rattle.sn_play.proofs.laws.block_is_the_walk.Goals as goal

pub returns : goal.returns
returns c =
    let w = c.args.work.now in
    record {
      ready = λ words first most p lies room few bounded planned early. record { words = words; pictures = p; first = first; most = most; lies = lies; room = room; few = few; bounded = bounded; planned = planned; early = early };
      feet = λ words r p room. within w c.root_holds_all.ensures c.ids_are_distinct.ensures r words p room;
      script = λ words. c.sequential_is_a_script.ensures w.plan.now words refl (λ j lt. refl);
      walk = λ words r p room resting. block_walks w c.root_holds_all.ensures c.ids_are_distinct.ensures r words p room resting;
      rests = λ words r p room all more resting. block_rests w c.root_holds_all.ensures c.ids_are_distinct.ensures r words p room all more resting;
    }
