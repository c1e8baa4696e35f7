use Rattle.std.proofs.Common.{◌≡◌, ◌≤◌, ◌-◌, ℕ, length, take, drop, sym, ap, subst, ◌∙◌, arith, IsTrue}
use Rattle.std.proofs.lemmas.List.{length-take}
use Rattle.sn_osc.specs.Frames.{is_frame_size}
use Rattle.sn_osc.proofs.Streams.{front_frame, behind_size}
use Rattle.sn_osc.proofs.frame.first_frame.Goals as goal

pub returns-clause-stands : goal.returns-clause-stands
returns-clause-stands c =
    let bytes = c.args.bytes.now in
    let n = c.size-size.result in
    let long : 4 ≤ length bytes = c.if-bytes-lt4.false in
    let behind : take (length bytes - 4) (drop 4 bytes) ≡ drop 4 bytes = behind_size bytes long in
    let whole : n ≤ length (drop 4 bytes) = omega (arith, c.if-rest-size.false, ap length behind) in
    let front : c.split_at.result.0.now ≡ take n (drop 4 bytes) = c.split_at.ensures.front ∙ ap (take n) behind in
    let back : c.split_at.result.1.now ≡ drop n (drop 4 bytes) = c.split_at.ensures.back ∙ ap (drop n) behind in
    let len : length c.split_at.result.0.now ≡ n = ap length front ∙ omega (arith, length-take n (drop 4 bytes)) in
    let size : IsTrue (is_frame_size n) = sym c.is_frame_size.ensures ∙ c.if-not-is_frame_size.false in (
      subst (λ (k : ℕ). IsTrue (is_frame_size k)) (sym len) size,
      front_frame bytes c.split_at.result.0.now c.split_at.result.1.now n (λ i. omega (arith, c.type_inv.bytes i)) long c.size-size.ensures whole front back,
    )
