-- Two views that differ only in the picture.
use Rattle.std.proofs.Common.{◌≡◌, ℕ, List, [], Some, ap, ◌∙◌}
use Rattle.sn_machine.specs.declared.views.View.{View}
use Rattle.sn_machine.specs.Fits.{IsBusy, job_of, picture_of}
use Rattle.sn_machine.specs.Steps.{pictured}

pub repaint : (u v : View) (p : List ℕ) → pictured u (job_of u) [] ≡ pictured v (job_of v) [] → IsBusy u → picture_of u ≡ p → u ≡ pictured v (job_of v) p
repaint u v p same busy is =
    let start : u ≡ pictured u (job_of u) p = λ i. record u { worker = record u.worker { runs = (busy ∙ ap (λ (q : List ℕ). Some (record { job = job_of u; picture = q })) is) i } } in
    start ∙ ap (λ (w : View). pictured w (job_of w) p) same
