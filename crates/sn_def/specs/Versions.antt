-- The versions of definition texts.
use Rattle.std.specs.Prelude.{ℕ, Bool, true, false, List, codes, Option, Some, None, if◌then◌else◌}
use Rattle.std.specs.Str.{bytes_eq}
use Rattle.sn_ports.specs.Limits.{most_wires}
use Rattle.sn_def.specs.declared.version.Version.{Version}
use Rattle.sn_def.specs.declared.version.Version.TheVariants as versions

-- the first line of a text
abbrev pub title : Version → List ℕ
title versions.One = codes "snova 1"
title versions.Two = codes "snova 2"

-- the version that a first line names
abbrev pub version_of : List ℕ → Option Version
version_of line =
    if bytes_eq line (codes "snova 1") then Some versions.One else
    if bytes_eq line (codes "snova 2") then Some versions.Two else None

abbrev pub most_controls : Version → ℕ
most_controls versions.One = 128
most_controls versions.Two = most_wires

-- whether controls may stand in arrays
abbrev pub has_arrays : Version → Bool
has_arrays versions.One = false
has_arrays versions.Two = true
