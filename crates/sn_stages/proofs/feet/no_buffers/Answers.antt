use Rattle.std.proofs.Common.{◌≡◌, ◌∙◌, List, Option, None, ap, length, subst, sym}
use Rattle.std.specs.Prelude.{replicate}
use Rattle.std.specs.List.{All}
use Rattle.std.proofs.lemmas.List.{length-replicate}
use Rattle.std.proofs.lemmas.Result.{IfOk-weaker}
use Rattle.sn_mem.specs.declared.buffers.BufferPlace.{BufferPlace}
use Rattle.sn_mem.specs.Buffers.{live_places}
use Rattle.sn_foot.specs.Canonical.{Ends}
use Rattle.sn_stages.proofs.Places.{none_end}
use Rattle.sn_stages.proofs.feet.no_buffers.Goals as goal

pub returns : goal.returns
returns c =
    let nothing : Option BufferPlace = None in
    let fresh : List (Option BufferPlace) → Type 0 = λ bs. bs ≡ replicate 1024 None in
    record {
      long = IfOk-weaker c.new.result fresh (λ bs. length bs ≡ 1024) (λ bs e. ap length e ∙ length-replicate 1024 nothing) c.new.ensures;
      ends = IfOk-weaker c.new.result fresh (λ bs. All Ends (live_places bs)) (λ bs e. subst (λ (cs : List (Option BufferPlace)). All Ends (live_places cs)) (sym e) (none_end 1024)) c.new.ensures;
    }
