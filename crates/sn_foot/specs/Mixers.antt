-- Units that mix.
use Rattle.std.specs.Prelude.{Bool, true, false}
use Rattle.sn_def.specs.declared.kind.Kind.{Kind}
use Rattle.sn_def.specs.declared.kind.Kind.TheVariants as kinds

-- units of this kind add their signals to what audio buses hold
abbrev pub mixes_audio : Kind → Bool
mixes_audio kinds.Outar = true
mixes_audio kind = false
