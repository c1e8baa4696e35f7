use Rattle.std.proofs.Common.{rules, ◌≡◌, ◌∷◌, ◌++◌, [], map, ◌∙◌}
use Rattle.sn_osc.specs.Shape.{shape}
use Rattle.sn_drill.specs.Stream.{drawn, note}
use Rattle.sn_drill.proofs.StreamLemmas.{first_number, two_numbers, none_yet, more_notes, note_packet}
use Rattle.sn_drill.proofs.stream.put_notes.Goals as goal

pub loop-index-init : goal.loop-index-init
loop-index-init c = record { put = none_yet c.args.seed c.args.rate (map shape c.args.packets.now.items); drawn = first_number c.args.seed }

pub loop-index-preserved : goal.loop-index-preserved
loop-index-preserved c =
    let at = c.loop-index in
    let first = c.following-first.result in
    let second = c.following-number.result in
    let one = c.in_ok-note.field-0 in
    let numbers = two_numbers c.args.seed at.index first second at.number at.invariant.drawn c.following-first.ensures c.following-number.ensures in
    let made : c.in_ok-elements.elements.items ≡ one ∷ [] = search rules in
    let pushed : c.push.new.self.items ≡ at.packets.items ++ c.packets_before.result ∷ [] = search rules in
    let plays : shape one ≡ note (drawn first) (drawn second) = c.in_ok-note.ensures ∙ (λ i. note (c.drawn.ensures.value i) (c.drawn-in-loop-index.ensures.value i)) in
    let packet = note_packet c.args.seed c.args.rate at.index first second c.in_ok-elements.elements.items c.packets_before.result one c.packets_before.ensures made plays numbers.0 numbers.1 in
    record {
      put = more_notes c.args.seed c.args.rate at.index (map shape c.args.packets.now.items) at.packets.items c.push.new.self.items c.packets_before.result at.invariant.put pushed packet;
      drawn = numbers.2;
    }
