-- What a synth may do with a foot it may do with a wider one.
use Rattle.std.proofs.Common.{◌+◌, ℕ, ℤ, pos, ◌+ℤ◌, List, Option, Some, None, get_or}
use Rattle.sn_def.specs.declared.control.Control.{Control as SynthControl}
use Rattle.sn_def.specs.declared.unit.Unit.{Unit as UnitLine}
use Rattle.sn_def.specs.Definition.{Definition}
use Rattle.sn_mem.specs.declared.extents.Extent.{Extent}
use Rattle.sn_mem.specs.declared.extents.Foot.{Foot}
use Rattle.sn_mem.specs.declared.buffers.BufferPlace.{BufferPlace}
use Rattle.sn_mem.specs.Words.{MayWrite, MayRead}
use Rattle.sn_mem.specs.Buses.{audio_number}
use Rattle.sn_io.specs.ByFoot.{IsPart}
use Rattle.sn_io.specs.Channels.{control_number}
use Rattle.sn_io.specs.Conditions.{MayReadAudio, MayReadControl, MayWriteAudio, MayWriteControl, MayReadBuffer, MayWriteBuffer}
use Rattle.sn_synth.specs.Conditions.{index_of, place_of, MayPlay, MayRun}

writes_wider : (f g : Foot) (at n : ℕ) → IsPart f g → MayWrite f at n → MayWrite g at n
writes_wider f g at n part may = record { below = may.below; each = λ i lt. part.written (at + i) (may.each i lt) }

reads_wider : (f g : Foot) (at n : ℕ) → IsPart f g → MayRead f at n → MayRead g at n
reads_wider f g at n part may = record { below = may.below; each = λ i lt. part.touched (at + i) (may.each i lt) }

audio_read : (f g : Foot) (o : Option ℕ) → IsPart f g → MayReadAudio f o → MayReadAudio g o
audio_read f g None part may = tt
audio_read f g (Some n) part may = reads_wider f g _ _ part may

control_read : (f g : Foot) (o : Option ℕ) → IsPart f g → MayReadControl f o → MayReadControl g o
control_read f g None part may = tt
control_read f g (Some n) part may = reads_wider f g _ _ part may

audio_written : (f g : Foot) (o : Option ℕ) → IsPart f g → MayWriteAudio f o → MayWriteAudio g o
audio_written f g None part may = tt
audio_written f g (Some n) part may = writes_wider f g _ _ part may

control_written : (f g : Foot) (o : Option ℕ) → IsPart f g → MayWriteControl f o → MayWriteControl g o
control_written f g None part may = tt
control_written f g (Some n) part may = writes_wider f g _ _ part may

buffer_read : (f g : Foot) (q : Option BufferPlace) → IsPart f g → MayReadBuffer f q → MayReadBuffer g q
buffer_read f g None part may = tt
buffer_read f g (Some p) part may = reads_wider f g _ _ part may

buffer_written : (f g : Foot) (q : Option BufferPlace) → IsPart f g → MayWriteBuffer f q → MayWriteBuffer g q
buffer_written f g None part may = tt
buffer_written f g (Some p) part may = writes_wider f g _ _ part may

plays_wider : (f g : Foot) (places : List (Option BufferPlace)) (controls : List SynthControl) (u : UnitLine) → IsPart f g → MayPlay f places controls u → MayPlay g places controls u
plays_wider f g places controls u part may =
    let z : ℤ = index_of controls u in record {
      hears = λ is i low. audio_read f g (audio_number (z +ℤ pos i)) part (may.hears is i low);
      reads = λ is i low. control_read f g (control_number (z +ℤ pos i)) part (may.reads is i low);
      writes = λ is i low. audio_written f g (audio_number (z +ℤ pos i)) part (may.writes is i low);
      sets = λ is i low. control_written f g (control_number (z +ℤ pos i)) part (may.sets is i low);
      plays = λ is. buffer_read f g (place_of places controls u) part (may.plays is);
      records = λ is. buffer_written f g (place_of places controls u) part (may.records is);
    }

pub runs_wider : (f g : Foot) (places : List (Option BufferPlace)) (controls : List SynthControl) (d : Definition) (state : Extent) → IsPart f g → MayRun f places controls d state → MayRun g places controls d state
runs_wider f g places controls d state part may = record {
  keeps = writes_wider f g state.at state.len part may.keeps;
  follows = λ k e lt. control_read f g (get_or controls k e).bus part (may.follows k e lt);
  plays = λ k e lt. plays_wider f g places controls (get_or d.units k e) part (may.plays k e lt);
}
