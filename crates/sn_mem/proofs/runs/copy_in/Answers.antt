use Rattle.std.proofs.Common.{◌≡◌, ◌+◌, ◌-◌, length, take, drop, refl, sym, ◌∙◌, arith, append_assoc}
use Rattle.std.proofs.lemmas.List.Edits.{paste_all}
use Rattle.std.proofs.lemmas.Slice.{put_mid-paste}
use Rattle.sn_mem.proofs.Puts.{put_is}
use Rattle.sn_mem.proofs.runs.copy_in.Goals as goal

pub returns : goal.returns
returns c =
    let ws = c.args.words.now in
    let run = c.args.run.now in
    let n = length run in
    let at = c.args.at in
    let k = at + length c.args.run.now - at in
    let few : n ≡ k = omega arith in
    put_mid-paste at k ws c.copy_from_slice.new.self run n c.copy_from_slice.ensures.after few refl
    ∙ (paste_all ws at run n refl ∙ (sym (append_assoc (take at ws) run (drop (at + n) ws)) ∙ sym (put_is ws at run c.requires)))
