-- Nodes that end, and the words that they give back.
use Rattle.std.specs.Prelude.{◌≤◌, ℕ, Option, Some, None}
use Rattle.sn_pool.specs.Pools.{Journal}

-- an open journal of the pool has room for so many extents that are given back
abbrev pub HasRoomFor : ℕ → Option Journal → Type 0
HasRoomFor n None = Unit {0}
HasRoomFor n (Some journal) = n ≤ journal.room
