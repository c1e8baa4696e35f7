use Rattle.std.proofs.Common.{◌≡◌, List, ℕ, Ok, subst}
use Rattle.sn_def.specs.Reading.{pieces, title_at, text_at}
use Rattle.sn_def.specs.Answers.{texts}
use Rattle.sn_def.proofs.text.read_lines.Goals as goal

pub into_def-requires : goal.into_def-requires
unfolding text_at
into_def-requires c =
    let cut : texts c.deref.result.now ≡ pieces 10 c.args.text.now = cc (c.in_ok-lines.ensures, c.deref.ensures.value) in
    (c.args.text.now, subst (λ (lines : List (List ℕ)). title_at lines ≡ Ok c.in_ok-draft.draft) cut c.in_ok-draft.ensures)
