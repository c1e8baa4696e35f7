-- Running nodes as the walk gives them, and what is told of each.
use Rattle.std.specs.Prelude.{true, Bool}
use Rattle.sn_tree.specs.declared.walk.Visit.{Visit}
use Rattle.sn_tree.specs.Trees.{Label}
use Rattle.sn_world.specs.declared.stage.Held.{Held}
use Rattle.sn_foot.specs.declared.resource.Resource.{Resource}
use Rattle.sn_foot.specs.declared.uses.Role.{Role}
use Rattle.sn_foot.specs.declared.uses.Role.TheVariants.{Read, Write, Mix}
use Rattle.sn_foot.specs.Footprints.{Footprint}
use Rattle.sn_report.specs.Reports.{Sight, held_sight}

abbrev pub label_in : Visit Held → Label Held
label_in v = record { id = v.id; kind = v.kind; running = true; payload = v.payload.now }

abbrev pub sight_in : Visit Held → Label Sight
sight_in v = record { id = v.id; kind = v.kind; running = true; payload = held_sight v.payload.now }

-- what is read, what is written, or what is mixed
abbrev pub used_so : Role → Footprint → Resource → Bool
used_so Read foot r = foot.reads r
used_so Write foot r = foot.writes r
used_so Mix foot r = foot.mixes r
