-- What a running job may touch lies in its picture.
use Rattle.std.specs.Prelude.{◌≡◌, ℕ, ◌<◌, true, length}
use Rattle.std.proofs.Common.{sym, subst}
use Rattle.sn_mem.specs.Words.{touches}
use Rattle.sn_machine.specs.declared.views.View.{View}
use Rattle.sn_machine.specs.Fits.{Fits, IsBusy, foot_of, job_of, picture_of}

pub is_inside : (v : View) (x : ℕ) → Fits v → IsBusy v → touches (foot_of v) x ≡ true → x < length (picture_of v)
is_inside v x f busy t = let r = f.running (job_of v) (picture_of v) busy in subst (λ n. x < n) (sym r.1) (f.within (job_of v) x r.0 t)
