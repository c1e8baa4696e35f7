-- If all words of the buses may be written, a synth may play.
use Rattle.std.proofs.Common.{◌≡◌, ℕ, zero, suc, ◌+◌, List, [], ◌∷◌, pos, ◌+ℤ◌, Option, Some, None, get_or, arith, All}
use Rattle.std.proofs.lemmas.Bool.{or_left}
use Rattle.std.proofs.lemmas.List.Elements.{All-head, All-tail}
use Rattle.sn_def.specs.declared.control.Control.{Control as SynthControl}
use Rattle.sn_def.specs.Definition.{Definition}
use Rattle.sn_mem.specs.declared.extents.Foot.{Foot}
use Rattle.sn_mem.specs.declared.buffers.BufferPlace.{BufferPlace}
use Rattle.sn_mem.specs.Words.{has, MayWrite}
use Rattle.sn_mem.specs.Buses.{audio_number}
use Rattle.sn_io.specs.Channels.{control_number}
use Rattle.sn_io.specs.BufferUnits.{numbered}
use Rattle.sn_io.specs.Conditions.{MayReadControl, MayReadBuffer, MayWriteBuffer}
use Rattle.sn_io.proofs.Mixing.{number_bound}
use Rattle.sn_io.proofs.Setting.{control_bound}
use Rattle.sn_io.proofs.Plain.{reads_audio_bus, reads_control_bus, writes_audio_bus, writes_control_bus}
use Rattle.sn_synth.specs.Conditions.{AreControlsOf, IsFollowed, MayFollow, MayPlayAll, index_of, place_of}

reads_bus : (f : Foot) (o : Option ℕ) → MayWrite f 0 10368 → IsFollowed o → MayReadControl f o
reads_bus f None may is = tt
reads_bus f (Some k) may is = reads_control_bus f (Some k) may (λ n e. let s : k ≡ n = cc in omega (arith, is))

pub may_follow : (f : Foot) (d : Definition) (controls : List SynthControl) → MayWrite f 0 10368 → AreControlsOf d controls → MayFollow f controls
may_follow f d controls may are = λ k e lt. reads_bus f (get_or controls k e).bus may (are.followed k e lt)

written_at : (f : Foot) (n : ℕ) (ps : List (Option BufferPlace)) → All (MayWriteBuffer f) ps → MayWriteBuffer f (get_or ps n None)
written_at f n [] may = tt
written_at f zero (p ∷ ps) may = All-head (MayWriteBuffer f) p ps may
written_at f (suc n) (p ∷ ps) may = written_at f n ps (All-tail (MayWriteBuffer f) p ps may)

writes_place : (f : Foot) (o : Option ℕ) (ps : List (Option BufferPlace)) → All (MayWriteBuffer f) ps → MayWriteBuffer f (numbered o ps)
writes_place f None ps may = tt
writes_place f (Some n) ps may = written_at f n ps may

read_too : (f : Foot) (p : Option BufferPlace) → MayWriteBuffer f p → MayReadBuffer f p
read_too f None may = tt
read_too f (Some p) may = record { below = may.below; each = λ i lt. or_left (has f.writes (p.extent.at + i)) (has f.reads (p.extent.at + i)) (may.each i lt) }

pub may_play : (f : Foot) (places : List (Option BufferPlace)) (d : Definition) (controls : List SynthControl) → MayWrite f 0 10368 → All (MayWriteBuffer f) places → MayPlayAll f places controls d
may_play f places d controls may each = λ k e lt.
    let index = index_of controls (get_or d.units k e) in record {
      hears = λ is i low. reads_audio_bus f (audio_number (index +ℤ pos i)) may (number_bound (index +ℤ pos i));
      reads = λ is i low. reads_control_bus f (control_number (index +ℤ pos i)) may (control_bound (index +ℤ pos i));
      writes = λ is i low. writes_audio_bus f (audio_number (index +ℤ pos i)) may (number_bound (index +ℤ pos i));
      sets = λ is i low. writes_control_bus f (control_number (index +ℤ pos i)) may (control_bound (index +ℤ pos i));
      plays = λ is. read_too f (place_of places controls (get_or d.units k e)) (writes_place f (control_number index) places each);
      records = λ is. writes_place f (control_number index) places each;
    }
