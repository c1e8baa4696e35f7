use Rattle.std.proofs.Common.{rules, ◌≡◌, ◌∙◌, true, Some, None, ap, sym, subst}
use Rattle.std.specs.Str.{bytes_eq}
use Rattle.sn_osc.specs.Shape.{MessageShape, message, message_of}
use Rattle.sn_score.specs.Lines.{message_line}
use Rattle.sn_score.specs.Fields.{message_at}
use Rattle.sn_score.specs.Reached.{with_packet, after_message_line}
use Rattle.sn_score.specs.Answers.{Gives, IsSpellingLen, reached}
use Rattle.sn_score.proofs.Spelling.{after_spelled, after_unspelled}
use Rattle.sn_score.proofs.draft.Draft.with_message.Goals as goal

pub returns-in-Some : goal.returns-in-Some
returns-in-Some c =
    let line = c.args.line.now in
    let s = reached c.args.self in
    let m = message_of c.in_ok-message.message in
    let same : bytes_eq (message_line m) line ≡ true = search rules in
    let len : IsSpellingLen (Some c.in-Some.bytes) (message m) = subst (λ o. IsSpellingLen o (message m)) c.in-Some.is c.spelling_len.ensures in
    let after : after_message_line s (message_at line) line ≡ with_packet s (message m) c.in-Some.bytes = ap (λ (k : MessageShape). after_message_line s k line) (sym c.in_ok-message.ensures) ∙ after_spelled s m line c.in-Some.bytes same len in
    subst (Gives c.with_packet.result) (sym after) c.with_packet.ensures

pub returns-in-None : goal.returns-in-None
returns-in-None c =
    let line = c.args.line.now in
    let s = reached c.args.self in
    let m = message_of c.in_ok-message.message in
    let none : IsSpellingLen None (message m) = subst (λ o. IsSpellingLen o (message m)) c.in-None.is c.spelling_len.ensures in
    ap (λ (k : MessageShape). after_message_line s k line) (sym c.in_ok-message.ensures) ∙ after_unspelled s m line none
