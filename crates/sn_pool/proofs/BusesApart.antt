-- No word is in two buses.
use Rattle.std.proofs.Common.{◌≢◌, ℕ, ◌+◌, ◌<◌, ◌≤◌, arith}
use Rattle.sn_mem.specs.Layout.{audio_place, control_place}
use Rattle.sn_pool.specs.Pools.{AreDisjoint}
use Rattle.sn_pool.proofs.Runs.{within}

pub audio_apart : (m n : ℕ) → m ≢ n → AreDisjoint (audio_place m) (audio_place n)
audio_apart m n differ x one other =
    let a = within (audio_place m) x one in
    let b = within (audio_place n) x other in
    omega (arith, differ, a.low, a.high, b.low, b.high)

pub control_apart : (m n : ℕ) → m ≢ n → AreDisjoint (control_place m) (control_place n)
control_apart m n differ x one other =
    let a = within (control_place m) x one in
    let b = within (control_place n) x other in
    omega (arith, differ, a.low, a.high, b.low, b.high)

pub audio_from_control : (m n : ℕ) → m < 128 → AreDisjoint (audio_place m) (control_place n)
audio_from_control m n few x one other =
    let a = within (audio_place m) x one in
    let b = within (control_place n) x other in
    omega (arith, few, a.low, a.high, b.low, b.high)

pub audio_below : (n : ℕ) → n < 128 → (audio_place n).at + (audio_place n).len ≤ 10368
audio_below n few = omega (arith, few)

pub control_below : (n : ℕ) → n < 1024 → (control_place n).at + (control_place n).len ≤ 10368
control_below n few = omega (arith, few)
