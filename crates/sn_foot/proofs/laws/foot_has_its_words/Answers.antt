use Rattle.std.proofs.Common.{◌++◌}
use Rattle.sn_foot.specs.Footprints.{footprint_of, states_of, used_places}
use Rattle.sn_foot.proofs.Containing.{its_words}
use Rattle.sn_foot.proofs.Runs.{is_canonical}
use Rattle.sn_foot.proofs.laws.foot_has_its_words.Goals as goal

pub returns : goal.returns
returns c = record {
  words = λ buffers hs. its_words buffers hs;
  canonical = λ buffers hs. (
    is_canonical (used_places buffers (footprint_of buffers hs).reads),
    is_canonical (used_places buffers (footprint_of buffers hs).writes ++ states_of hs),
    is_canonical (used_places buffers (footprint_of buffers hs).mixes),
  );
}
