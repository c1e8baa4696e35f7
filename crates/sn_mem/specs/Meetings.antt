-- Extents that share a word, as a test.
use Rattle.std.specs.Prelude.{◌+◌, max, Bool, ◌&&◌, ◌||◌, nat_le, nat_lt, List}
use Rattle.std.specs.List.{list_any}
use Rattle.sn_mem.specs.declared.extents.Extent.{Extent}
use Rattle.sn_mem.specs.declared.extents.Foot.{Foot}
use Rattle.sn_mem.specs.Words.{covers}

-- the later first word lies in both
abbrev pub meet : Extent → Extent → Bool
meet a b = nat_lt (max a.at b.at) (a.at + a.len) && nat_lt (max a.at b.at) (b.at + b.len)

-- the second begins in the first and does not end past it
abbrev pub holds : Extent → Extent → Bool
holds e run = covers e run.at && nat_le (run.at + run.len) (e.at + e.len)

abbrev pub any_meet : List Extent → List Extent → Bool
any_meet es fs = list_any (λ e. list_any (meet e) fs) es

-- the first writes a word that the second touches
abbrev pub writes_meet : Foot → Foot → Bool
writes_meet a b = any_meet a.writes b.writes || any_meet a.writes b.reads
