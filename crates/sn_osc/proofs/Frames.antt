-- Frames stand by themselves: if one begins a list of bytes, what follows doesn't change it.
use Rattle.std.proofs.Common.{◌≡◌, ℕ, ℤ, ◌+◌, ◌^◌, ◌%◌, ◌<◌, ◌≤◌, Bool, true, false, not, cond, ltb, leb, eqb, ◌&&◌, List, [], ◌++◌, length, take, drop, refl, sym, ap, ◌∙◌, append_assoc, arith}
use Rattle.std.specs.Int.{w32, to_be_bytes}
use Rattle.std.proofs.lemmas.Bool.{ltb-false, le-ltb, leb-true}
use Rattle.std.proofs.lemmas.List.{take_at, drop_at, take-append-drop, drop-drop, length-append, length-take, nil_from_length}
use Rattle.sn_osc.specs.Bytes.{frame_bytes}
use Rattle.sn_osc.specs.Reading.{int_in, size_in}
use Rattle.sn_osc.specs.Frames.{FirstFrame, cut, bad_size, frame, is_frame_size, first_frame}
use Rattle.sn_osc.proofs.Fields.{IsBytes, and_yes, size_back, size_again, after_size}

pub nothing_after : (a b rest : List ℕ) → length a < 2 ^ 32 → length b < 2 ^ 32 → frame_bytes a ++ rest ≡ frame_bytes b → rest ≡ []
nothing_after a b rest few many same =
    let whole : to_be_bytes w32 (length a) ++ (a ++ rest) ≡ to_be_bytes w32 (length b) ++ b = sym (append_assoc (to_be_bytes w32 (length a)) a rest) ∙ same in
    let size : length a ≡ length b = sym (size_again (length a) (a ++ rest) few) ∙ ap (λ t. size_in t) whole ∙ size_again (length b) b many in
    let after : a ++ rest ≡ b = sym (after_size (length a) (a ++ rest)) ∙ ap (drop 4) whole ∙ after_size (length b) b in
    nil_from_length rest (omega (arith, size, ap length after, length-append a rest))

pub kept_after : (start size : ℕ) (items : List ℕ) → drop (start + (4 + size)) items ≡ drop size (drop 4 (drop start items))
kept_after start size items = sym (drop-drop size 4 (drop start items) ∙ drop-drop (4 + size) start items)

first_again : (packet rest : List ℕ) → is_frame_size (length packet) ≡ true → length packet < 2 ^ 32 → first_frame (to_be_bytes w32 (length packet) ++ (packet ++ rest)) ≡ frame packet rest
first_again packet rest ok few =
    let n = length packet in
    let bytes = to_be_bytes w32 n ++ (packet ++ rest) in
    let size : size_in bytes ≡ n = size_again n (packet ++ rest) few in
    let after : drop 4 bytes ≡ packet ++ rest = after_size n (packet ++ rest) in
    let four : ltb (length bytes) 4 ≡ false = le-ltb _ _ (omega (arith, length-append (to_be_bytes w32 n) (packet ++ rest))) in
    let inside : ltb (length (packet ++ rest)) n ≡ false = le-ltb _ _ (omega (arith, length-append packet rest)) in
    rw (four, size, after, ok, inside, take_at packet rest n refl, drop_at packet rest n refl) refl

-- a frame at the start is found, whatever follows it
pub frame_found : (packet rest : List ℕ) → is_frame_size (length packet) ≡ true → first_frame (frame_bytes packet ++ rest) ≡ frame packet rest
frame_found packet rest ok =
    let tests = and_yes (leb 4 (length packet) && leb (length packet) 65536) (eqb (length packet % 4) 0) ok in
    let most : length packet ≤ 65536 = leb-true _ _ (and_yes (leb 4 (length packet)) (leb (length packet) 65536) tests.0).1 in
    ap (λ t. first_frame t) (append_assoc (to_be_bytes w32 (length packet)) packet rest) ∙ first_again packet rest ok (omega (arith, most))

not_cut : (b : Bool) (x : FirstFrame) (packet rest : List ℕ) → cond b cut x ≡ frame packet rest → (b ≡ false) × (x ≡ frame packet rest)
not_cut true x packet rest e = absurd cc
not_cut false x packet rest e = (refl, e)

not_bad : (b : Bool) (size : ℤ) (x : FirstFrame) (packet rest : List ℕ) → cond b (bad_size size) x ≡ frame packet rest → (b ≡ false) × (x ≡ frame packet rest)
not_bad true size x packet rest e = absurd cc
not_bad false size x packet rest e = (refl, e)

pub same_frame : (a b c d : List ℕ) → frame a b ≡ frame c d → (a ≡ c) × (b ≡ d)
same_frame a b c d e = (cc, cc)

-- a frame that is found stands at the start
pub frame_stands : (bytes packet rest : List ℕ) → IsBytes bytes → first_frame bytes ≡ frame packet rest → bytes ≡ frame_bytes packet ++ rest
frame_stands bytes packet rest fits e =
    let n = size_in bytes in
    let after = drop 4 bytes in
    let a = not_cut (ltb (length bytes) 4) (cond (not (is_frame_size n)) (bad_size (int_in bytes)) (cond (ltb (length after) n) cut (frame (take n after) (drop n after)))) packet rest e in
    let b = not_bad (not (is_frame_size n)) (int_in bytes) (cond (ltb (length after) n) cut (frame (take n after) (drop n after))) packet rest a.1 in
    let c = not_cut (ltb (length after) n) (frame (take n after) (drop n after)) packet rest b.1 in
    let d = same_frame (take n after) (drop n after) packet rest c.1 in
    let long : 4 ≤ length bytes = ltb-false _ _ a.0 in
    let len : length packet ≡ n = ap length (sym d.0) ∙ omega (arith, ltb-false _ _ c.0, length-take n after) in
    let head : take 4 bytes ≡ to_be_bytes w32 (length packet) = sym (size_back bytes fits long) ∙ ap (to_be_bytes w32) (sym len) in
    let tail : after ≡ packet ++ rest = sym (take-append-drop n after) ∙ ap (λ (t : List ℕ). t ++ drop n after) d.0 ∙ ap (λ (t : List ℕ). packet ++ t) d.1 in
    sym (take-append-drop 4 bytes) ∙ ap (λ (t : List ℕ). t ++ after) head ∙ ap (λ (t : List ℕ). to_be_bytes w32 (length packet) ++ t) tail ∙ sym (append_assoc (to_be_bytes w32 (length packet)) packet rest)
