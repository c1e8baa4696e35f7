-- Files that are written, and what they hold.
use Rattle.std.specs.Prelude.{◌≡◌, Option, Some}
use Rattle.sn_files.specs.declared.identity.Identity.{Identity}

-- both are one regular file
abbrev pub AreOne : Option Identity → Option Identity → Type 0
AreOne file other = (it : Identity) × (file ≡ Some it) × (other ≡ Some it)
