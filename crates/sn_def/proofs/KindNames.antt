-- Each kind has a name of its own.
use Rattle.std.proofs.Common.{◌≡◌, Some, refl}
use Rattle.sn_def.specs.declared.kind.Kind.{Kind}
use Rattle.sn_def.specs.declared.kind.Kind.TheVariants as kinds
use Rattle.sn_def.specs.Units.{row_of, kind_named}

pub kind_of_name : (k : Kind) → kind_named (row_of k).name ≡ Some k
unfolding kind_named row_of
kind_of_name kinds.SinOsc = refl
kind_of_name _ = refl
