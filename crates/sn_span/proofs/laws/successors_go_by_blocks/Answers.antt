use Rattle.std.proofs.Common.{◌≡◌, ◌+◌, ◌==◌, ◌++◌, ◌∷◌, [], ◌∙◌, if◌then◌else◌, suc, length, ap, arith}
use Rattle.std.specs.Prelude.{map}
use Rattle.sn_span.specs.Unrolling.{entries, last_jobs, start}
use Rattle.sn_span.proofs.Following.{job_successors, capture_successors, last_successors}
use Rattle.sn_span.proofs.laws.successors_go_by_blocks.Goals as goal

pub returns : goal.returns
returns c = record {
  jobs = λ jobs outputs at blocks k i are l m. job_successors jobs outputs at blocks are k i l m;
  captures = λ jobs outputs at blocks k are l.
      let s : suc k ≡ k + 1 = omega arith in
      capture_successors jobs outputs at blocks are k (omega (arith, l))
      ∙ ap (λ h. map (λ q. start (length jobs) h + q) (entries jobs) ++ (if length (last_jobs jobs) == 0 then (start (length jobs) h + length jobs) ∷ [] else [])) s;
  last = λ jobs outputs at blocks k are e. last_successors jobs outputs at blocks are k (omega (arith, e));
}
