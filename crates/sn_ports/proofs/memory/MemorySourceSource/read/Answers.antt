use Rattle.std.proofs.Common.{◌≡◌, ◌≤◌, ◌+◌, ◌-◌, List, ℕ, ◌++◌, length, take, drop, sym, ap, ◌∙◌, arith, subst, take_all, take-append-drop, drop_of_length-le}
use Rattle.std.proofs.lemmas.List.{take_at, drop-drop, length-drop, length-take, length-append}
use Rattle.sn_ports.proofs.memory.MemorySourceSource.read.Goals as goal

-- what was copied, and what is left, are what was left
gives : (bytes into copied : List ℕ) (at n : ℕ) → at ≤ length bytes → n ≤ length bytes - at → copied ≡ take n (take (length bytes - at) (drop at bytes))
    → drop at bytes ≡ take n (copied ++ drop n into) ++ drop (at + n) bytes
gives bytes into copied at n within fits is =
    let whole : take (length bytes - at) (drop at bytes) ≡ drop at bytes = take_all (length bytes - at) (drop at bytes) (omega (arith, length-drop at bytes)) in
    let front : copied ≡ take n (drop at bytes) = is ∙ ap (take n) whole in
    let len : length copied ≡ n = ap length front ∙ omega (arith, length-take n (drop at bytes), length-drop at bytes) in
    rw (take_at copied (drop n into) n len, front, ← drop-drop n at bytes) (sym (take-append-drop n (drop at bytes)))

pub returns-clause-bytes : goal.returns-clause-bytes
returns-clause-bytes c =
    let i = c.self.inside in
    let n = c.min-count.result in
    let text = c.as_slice.result.now in
    let whole : text ≡ i.bytes.bytes = c.as_slice.ensures in
    let is : c.args.self.now.left ≡ drop i.at i.bytes.bytes = ap (λ s. s.left) (sym c.self.view_is) in
    let within : i.at ≤ length i.bytes.bytes = c.self.invariant.1 in
    let len : length (take (length text - i.at) (drop i.at text)) ≡ length i.bytes.bytes - i.at = omega (arith, length-take (length text - i.at) (drop i.at text), length-drop i.at text, ap length whole) in
    let few : n ≤ length i.bytes.bytes - i.at = omega (arith, c.min.ensures, c.min-count.ensures, len) in
    let g = gives i.bytes.bytes c.args.into.now c.copy_from_slice.new.self i.at n within few (subst (λ t. c.copy_from_slice.new.self ≡ take n (take (length t - i.at) (drop i.at t))) whole c.copy_from_slice.ensures.after) in
    (is ∙ g, λ none room. drop_of_length-le i.bytes.bytes (omega (arith, c.min.ensures, c.min-count.ensures, len, c.self.invariant.0, length-append c.copy_from_slice.new.self (drop n c.args.into.now), length-drop n c.args.into.now, ap length c.copy_from_slice.ensures.after, length-take n (take (length text - i.at) (drop i.at text)))))
