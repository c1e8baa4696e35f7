-- One more channel.
use Rattle.std.proofs.Common.{◌≡◌, ℕ, ◌+◌, List, ℤ, Option, Bool, refl, ap, sym, ◌∙◌, add-one}
use Rattle.sn_mem.specs.Blocks.{block}
use Rattle.sn_io.specs.Channels.{channels, audio_channel, control_channel}
use Rattle.sn_io.specs.OverWords.{onto_audio, onto_audio_channel, onto_control, onto_control_channel}

pub channels_none : {S : Type 0} (change : S → ℕ → List ℤ → S) (inputs : List (List ℤ)) (s : S) → channels change inputs 0 s ≡ s
unfolding channels
channels_none change inputs s = refl

pub channels_more : {S : Type 0} (change : S → ℕ → List ℤ → S) (inputs : List (List ℤ)) (i : ℕ) (s : S) → channels change inputs (i + 1) s ≡ change (channels change inputs i s) i (block inputs (i + 1))
unfolding channels
channels_more change inputs i s = rw add-one refl

pub audio_more : (adds : Bool) (b : ℕ) (inputs : List (List ℤ)) (ws us vs : List ℕ) (i : ℕ) (o : Option ℕ) (xs : List ℤ)
    → us ≡ channels (onto_audio_channel adds b inputs) inputs i ws → o ≡ audio_channel inputs i → xs ≡ block inputs (i + 1) → vs ≡ onto_audio adds b us o xs → vs ≡ channels (onto_audio_channel adds b inputs) inputs (i + 1) ws
audio_more adds b inputs ws us vs i o xs e f h s =
    let before : List ℕ = channels (onto_audio_channel adds b inputs) inputs i ws in
    s ∙ (ap (λ (us : List ℕ). onto_audio adds b us o xs) e
    ∙ (ap (λ (o : Option ℕ). onto_audio adds b before o xs) f
    ∙ (ap (onto_audio adds b before (audio_channel inputs i)) h
    ∙ sym (channels_more (onto_audio_channel adds b inputs) inputs i ws))))

pub control_more : (b : ℕ) (inputs : List (List ℤ)) (ws us vs : List ℕ) (i : ℕ) (o : Option ℕ) (xs : List ℤ)
    → us ≡ channels (onto_control_channel b inputs) inputs i ws → o ≡ control_channel inputs i → xs ≡ block inputs (i + 1) → vs ≡ onto_control b us o xs → vs ≡ channels (onto_control_channel b inputs) inputs (i + 1) ws
control_more b inputs ws us vs i o xs e f h s =
    let before : List ℕ = channels (onto_control_channel b inputs) inputs i ws in
    s ∙ (ap (λ (us : List ℕ). onto_control b us o xs) e
    ∙ (ap (λ (o : Option ℕ). onto_control b before o xs) f
    ∙ (ap (onto_control b before (control_channel inputs i)) h
    ∙ sym (channels_more (onto_control_channel b inputs) inputs i ws))))
