-- A buffer that is made of samples, as it stands in memory.
use Rattle.sn_world.specs.BufferReading.{FilledBuffer}
use Rattle.sn_buscmd.specs.declared.buffer_reading.FilledBuffer.{FilledBuffer as Filled}

abbrev pub filled : Filled → FilledBuffer
filled f = record { new = f.new; bytes = f.bytes.now }
