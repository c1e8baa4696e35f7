use Rattle.std.proofs.Common.{rules, ◌≡◌, ◌≤◌, ◌<◌, ◌∷◌, ◌++◌, [], length}
use Rattle.sn_score.proofs.Loops.{unhex_more, unhex_done}
use Rattle.sn_score.proofs.fields.unhex.Goals as goal

pub loop-rest-preserved : goal.loop-rest-preserved
loop-rest-preserved c =
    let rest = c.loop-rest.rest.now in
    let long : 2 ≤ length rest = search rules in
    let put : c.append.new.self.bytes ≡ c.loop-rest.bytes.bytes ++ c.hex_byte-byte.result.0 ∷ [] = search rules in
    unhex_more rest c.hex_byte-byte.result.1.now c.hex_byte-byte.result.0 c.loop-rest.bytes.bytes c.append.new.self.bytes _ long c.hex_byte-byte.ensures.byte c.hex_byte-byte.ensures.rest put c.loop-rest.invariant

pub returns : goal.returns
returns c =
    let few : length c.loop-rest.rest.now < 2 = search rules in
    unhex_done c.loop-rest.rest.now c.loop-rest.bytes.bytes _ few c.loop-rest.invariant
