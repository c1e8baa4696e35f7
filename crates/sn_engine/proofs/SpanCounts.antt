-- How many blocks may come in a row.
use Rattle.std.proofs.Common.{◌≡◌, ◌≢◌, ⊎_elim, true≢false, ◌≤◌, ◌+◌, ◌-◌, ◌*◌, ℕ, Bool, true, false, sym, ap, subst, ◌∙◌, arith}
use Rattle.std.specs.List.{list_any}
use Rattle.std.proofs.Math.Nat.{mul-le-mul_right}
use Rattle.std.proofs.lemmas.Bool.{cases_eq}
use Rattle.sn_queue.specs.Steps.{is_due}
use Rattle.sn_queue.specs.Waiting.{WaitingList}
use Rattle.sn_span.specs.Unrolling.{start}

-- if one is due before the last block of so many, fewer may come
pub fewer_may : (q : WaitingList) (b most n : ℕ) (asked : Bool) → asked ≡ list_any (is_due q (b + most - 1)) q.waiting → asked ≡ true → n ≤ most → list_any (is_due q (b + n - 1)) q.waiting ≡ false → n ≤ most - 1
fewer_may q b most n asked is on few none = ⊎_elim
    (λ (e : n ≡ most). absurd (true≢false (sym on ∙ (is ∙ (ap (λ m. list_any (is_due q (b + m - 1)) q.waiting) (sym e) ∙ none)))))
    (λ (d : n ≢ most). omega (arith, few, d))
    (cases_eq n most)

-- fewer blocks have room if more do
pub less_room : (jobs count n most : ℕ) → count ≡ jobs → n ≤ most → start count most ≤ 65536 → start jobs n ≤ 65536
less_room jobs count n most same low room =
    let there : start jobs most ≤ 65536 = subst (λ m. start m most ≤ 65536) same room in
    let less : n * (jobs + 1) ≤ most * (jobs + 1) = mul-le-mul_right (jobs + 1) low in
    omega (arith, less, there)
