-- How nodes are counted one after the other.
use Rattle.std.specs.Prelude.{ℕ, ◌+◌, pos, [], ◌∷◌, length, codes}
use Rattle.sn_osc.specs.Shape.{int, arguments, MessageShape}
use Rattle.sn_world.specs.World.{World}
use Rattle.sn_world.specs.declared.stage.Held.{Held}
use Rattle.sn_world.specs.declared.stage.Held.TheVariants as held
use Rattle.sn_world.specs.Status.{capped, total, units_of, synths_of, groups_of}
use Rattle.sn_buscmd.specs.declared.status.Census.{Census}

abbrev pub with_held : Census → Held → Census
with_held c held.Group = record c { groups = capped (c.groups + 1) }
with_held c (held.Synth def controls state) = record c { synths = capped (c.synths + 1); units = capped (c.units + length def.value.units) }

-- what is counted in a world
abbrev pub census_of : World → Census
census_of w = record { units = capped (total units_of w.nodes); synths = capped (total synths_of w.nodes); groups = capped (total groups_of w.nodes) }

-- the reply to `/status`
abbrev pub counts_message : Census → ℕ → MessageShape
counts_message c definitions = record {
  address = codes "/status.reply";
  body = arguments (int (pos 1) ∷ int (pos (capped c.units)) ∷ int (pos (capped c.synths)) ∷ int (pos (capped c.groups)) ∷ int (pos (capped definitions)) ∷ []);
}
