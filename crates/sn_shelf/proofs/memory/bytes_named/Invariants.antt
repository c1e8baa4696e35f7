-- The files that are left have the answer.
use Rattle.std.proofs.Common.{◌≡◌, drop}
use Rattle.sn_shelf.specs.Files.{bytes_named, files_of}
use Rattle.sn_shelf.proofs.memory.bytes_named.Given as goal

abbrev pub invariant-loop-file : goal.invariant-loop-file
invariant-loop-file l = bytes_named l.name (files_of (drop l.file-index l.files)) ≡ bytes_named l.name (files_of l.files)
