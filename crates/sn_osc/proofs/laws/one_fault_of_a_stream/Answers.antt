use Rattle.std.proofs.Common.{◌∙◌, sym, ◌≡◌}
use Rattle.sn_osc.proofs.Streams.{excluded, one_stream_fault}
use Rattle.sn_osc.proofs.laws.one_fault_of_a_stream.Goals as goal

pub returns-clause-one : goal.returns-clause-one
returns-clause-one c = λ stream m n p q a b f g.
    let same = one_stream_fault f.before g.before 0 f.front f.rest g.front g.rest p q a b f.frames g.frames (sym f.parts ∙ g.parts) f.why g.why in
    (sym f.count ∙ same.0 ∙ g.count, same.1, same.2)

pub returns-clause-none : goal.returns-clause-none
returns-clause-none c = λ stream xs n p a frames f. excluded xs f.before 0 stream f.front f.rest p a frames f.frames f.parts f.why
