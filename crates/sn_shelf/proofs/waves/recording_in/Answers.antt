use Rattle.std.proofs.Common.{rules, ◌≡◌, true, drop, Option, Some, None, sym, subst}
use Rattle.sn_shelf.specs.Waves.{first_of, is_headed, format_name, data_name, wave_in}
use Rattle.sn_shelf.specs.declared.waves.Recording.{Recording}
use Rattle.sn_shelf.specs.WaveViews.{heard, Finds}
use Rattle.sn_shelf.proofs.WaveLemmas.{no_chunk, finds_chunk}
use Rattle.sn_shelf.proofs.waves.recording_in.Goals as goal

pub returns-in_err-chunk-clause-value : goal.returns-in_err-chunk-clause-value
returns-in_err-chunk-clause-value c =
    let bytes = c.args.bytes.now in
    let headed : is_headed bytes ≡ true = search rules in
    let none : first_of format_name data_name (drop 12 bytes) ≡ None = search rules in
    let nothing : c.from_residual.result ≡ None = search rules in
    subst (λ (r : Option Recording). Finds heard r (wave_in bytes)) (sym nothing) (no_chunk bytes headed none)

pub returns-clause-value : goal.returns-clause-value
returns-clause-value c =
    let bytes = c.args.bytes.now in
    let headed : is_headed bytes ≡ true = search rules in
    let some : first_of format_name data_name (drop 12 bytes) ≡ Some c.in_ok-chunk.chunk.now = search rules in
    finds_chunk bytes c.in_ok-chunk.chunk.now c.recording_from.result headed some c.recording_from.ensures.value
