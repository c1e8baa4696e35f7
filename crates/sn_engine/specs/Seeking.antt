-- How a clash is found among others: by its key. The keys of two clashes differ exactly if the clashes are not the
-- same.
use Rattle.std.specs.Prelude.{◌≡◌, List}
use Rattle.std.specs.List.{list_any}
use Rattle.std.specs.BTreeSet.{BTreeSet, contains}
use Rattle.std.specs.declared.cmp.Ordering.{Ordering}
use Rattle.std.specs.Ordering.{nat_cmp, int_cmp, ordering_then}
use Rattle.sn_foot.specs.Footprints.{number_of}
use Rattle.sn_clash.specs.declared.clash.Clash.{Clash}
use Rattle.sn_engine.specs.declared.before.Key.{Key}
use Rattle.sn_engine.specs.Clashing.{sort_of, same_clash}

abbrev pub key_of : Clash → Key
key_of c = record { group = c.group; first = c.first; second = c.second; sort = sort_of c.resource; number = number_of c.resource }

-- keys are ordered by their fields
abbrev pub key_cmp : Key → Key → Ordering
key_cmp a b = ordering_then (int_cmp a.group b.group) (ordering_then (int_cmp a.first b.first) (ordering_then (int_cmp a.second b.second) (ordering_then (nat_cmp a.sort b.sort) (nat_cmp a.number b.number))))

-- a clash's key is among the keys exactly if the clash is among the clashes
abbrev pub AreKeysOf : BTreeSet Key → List Clash → Type 0
AreKeysOf keys clashes = (c : Clash) → contains key_cmp keys (key_of c) ≡ list_any (λ b. same_clash b c) clashes
