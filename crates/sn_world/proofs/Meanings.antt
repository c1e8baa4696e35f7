-- What a synth may do to the words, and what it does there.
use Rattle.std.proofs.Common.{◌≡◌, ◌≤◌, ◌<◌, ◌+◌, ℕ, ℤ, true, false, Option, List, length, refl, ap, arith, lit<}
use Rattle.std.specs.Prelude.{◌||◌}
use Rattle.sn_mem.specs.declared.extents.Foot.{Foot}
use Rattle.sn_mem.specs.Words.{writes, touches, has, everything, everything_is, MayWrite}
use Rattle.sn_mem.specs.Blocks.{window}
use Rattle.sn_mem.specs.declared.extents.Extent.{Extent}
use Rattle.sn_mem.specs.declared.buffers.BufferPlace.{BufferPlace}
use Rattle.sn_mem.specs.Buffers.{resources_of, AreApart}
use Rattle.sn_mem.proofs.Meetings.{covered}
use Rattle.sn_def.specs.declared.control.Control.{Control}
use Rattle.sn_def.specs.declared.definition.Def.{Def}
use Rattle.sn_def.specs.Definition.{Definition}
use Rattle.sn_def.specs.Defs.{definition_of}
use Rattle.sn_def.specs.StateWords.{state_words}
use Rattle.sn_def.proofs.Forming.{formed}
use Rattle.sn_synth.specs.Synths.{synth_block}
use Rattle.sn_synth.specs.Words.{synth_words}
use Rattle.sn_synth.specs.Conditions.{AreControlsOf, MayPlayAll, MayFollow}
use Rattle.sn_synth.proofs.Picturing.{SynthMeans, run_means}
use Rattle.sn_synth.proofs.Plain.{may_play, may_follow}
use Rattle.sn_world.specs.Buffers.{AreEach}
use Rattle.sn_world.specs.Pictures.{WritesBuses, WritesWorld}
use Rattle.sn_world.proofs.BufferLaws.{are_written}

-- ---- what may be written

pub touched : (f : Foot) (x : ℕ) → writes f x ≡ true → touches f x ≡ true
touched f x h = ap (λ b. b || has f.reads x) h

bus_words : (f : Foot) → WritesBuses f → MayWrite f 0 10368
bus_words f may = record { below = lit< tt; each = λ i lt. may (0 + i) (omega arith) }

pub plays_all : (f : Foot) (region : Extent) (places : List (Option BufferPlace)) → WritesWorld f region → region.at ≡ 10368 → 10368 + region.len < 4294967296 → AreEach region places → (d : Definition) (controls : List Control) → MayPlayAll f places controls d
plays_all f region places may base bounded each d controls = may_play f places d controls (bus_words f may.buses) (are_written f region places (omega (arith, base, bounded)) may.pool each)

pub follows_all : (f : Foot) → WritesBuses f → (d : Definition) (controls : List Control) → AreControlsOf d controls → MayFollow f controls
follows_all f may d controls are = may_follow f d controls (bus_words f may) are

-- ---- what a synth does to words that may all be written

all_of : (n x : ℕ) → x < n → writes (everything n) x ≡ true
all_of n x lt = ap (λ b. b || false) (covered (record { at = 0; len = n }) x (omega arith) (omega arith))

pub played : (rate b : ℕ) (id : ℤ) (def : Def) (controls : List Control) (region : Extent) (places : List (Option BufferPlace)) (at len : ℕ) (ws : List ℕ) → AreControlsOf (definition_of def) controls → len ≡ state_words rate (definition_of def)
    → 10368 ≤ at → at + len < 4294967296 → at + len ≤ length ws → AreEach region places → region.at ≡ 10368 → 10368 + region.len < 4294967296 → 10368 + region.len ≤ length ws → AreApart (record { at = at; len = len }) places
    → SynthMeans at len places ws (synth_words rate b id (definition_of def) controls places at ws) (synth_block rate b id (definition_of def) controls (resources_of places ws) (window ws at len))
played rate b id def controls region places at len ws are size from bounded fits each base low long apart =
    let d = definition_of def in
    let f = everything (length ws) in
    let may : WritesWorld f region = record { buses = λ k low. all_of (length ws) k (omega arith); pool = λ k low high. all_of (length ws) k (omega (arith, base, high, long)) } in
    run_means rate b id f places d controls at len ws (synth_words rate b id d controls places at ws) refl are (formed d def.written).fit (plays_all f region places may base low each d controls) size (λ some. from)
    (record { below = bounded; each = λ i lt. all_of (length ws) (at + i) (omega arith) }) (everything_is (length ws)) apart
