-- What requests and parts of files in memory stand for.
use Rattle.std.specs.Prelude.{ℤ, List, map, option_map}
use Rattle.sn_osc.specs.Shape.{Argument, argument_of}
use Rattle.sn_shelf.specs.declared.requests.Leading.{Leading}
use Rattle.sn_shelf.specs.declared.requests.Request.{Request as Asked}
use Rattle.sn_shelf.specs.Expanded.{Request}

abbrev pub int_and_rest : Leading → ℤ × List Argument
int_and_rest l = (l.value, map argument_of l.rest.now)

abbrev pub asked : Asked → Request
asked r = record { number = r.number; path = r.path.now.bytes; start = r.start; frames = r.frames; completion = option_map (λ t. t.now.bytes) r.completion }
