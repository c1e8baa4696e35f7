use Rattle.std.proofs.Common.{rules, ◌≡◌, ◌-◌, ◌∷◌, ◌++◌, ◌∙◌, [], true, false, arith}
use Rattle.sn_score.specs.Fields.{is_closed, unquoted}
use Rattle.sn_score.proofs.Loops.{not_over, bytes_more, bytes_done}
use Rattle.sn_score.proofs.fields.unquoted.Goals as goal

pub loop-rest-preserved : goal.loop-rest-preserved
loop-rest-preserved c =
    let i = c.loop-rest.invariant in
    let rest = c.loop-rest.rest.now in
    let whole = unquoted c.args.bytes.now in
    let goes : is_closed rest ≡ false = search rules in
    let put : c.append.new.self.bytes ≡ c.loop-rest.text.bytes ++ c.quoted_byte-byte.result.0 ∷ [] = search rules in
    let more = bytes_more i.fuel (i.fuel - 1) rest c.quoted_byte-byte.result.1.now c.quoted_byte-byte.result.0 c.loop-rest.text.bytes c.append.new.self.bytes whole.0 whole.1 (omega (arith, i.enough, not_over rest goes)) goes c.quoted_byte-byte.ensures.byte c.quoted_byte-byte.ensures.rest put i.text i.after in
    record {
      fuel = i.fuel - 1;
      enough = omega (arith, i.enough, c.quoted_byte-byte.ensures.shorter);
      shorter = omega (arith, i.shorter, c.quoted_byte-byte.ensures.shorter);
      text = more.0;
      after = more.1;
    }

pub returns-clause-text : goal.returns-clause-text
returns-clause-text c =
    let i = c.loop-rest.invariant in
    let whole = unquoted c.args.bytes.now in
    let over : is_closed c.loop-rest.rest.now ≡ true = search rules in
    (bytes_done i.fuel c.loop-rest.rest.now c.loop-rest.text.bytes whole.0 whole.1 over i.text i.after).0

pub returns-clause-rest : goal.returns-clause-rest
returns-clause-rest c =
    let i = c.loop-rest.invariant in
    let whole = unquoted c.args.bytes.now in
    let over : is_closed c.loop-rest.rest.now ≡ true = search rules in
    c.skip.ensures ∙ (bytes_done i.fuel c.loop-rest.rest.now c.loop-rest.text.bytes whole.0 whole.1 over i.text i.after).1
