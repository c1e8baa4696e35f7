use Rattle.sn_io.proofs.Mixing.{added_by_lane}
use Rattle.sn_io.proofs.laws.lanes_add_what_was_put.Goals as goal

pub returns : goal.returns
returns c = λ b ws ls at lane signal off inside. added_by_lane b ws ls at lane signal off inside
