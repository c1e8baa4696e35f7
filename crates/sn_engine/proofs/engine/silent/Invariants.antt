-- So many texts without bytes.
use Rattle.std.proofs.Common.{◌≡◌, [], map, replicate}
use Rattle.sn_ports.specs.Octets.{bytes_of}
use Rattle.sn_engine.proofs.engine.silent.Given as goal

abbrev pub invariant-loop : goal.invariant-loop
invariant-loop l = map bytes_of l.texts.items ≡ replicate l.counter []
