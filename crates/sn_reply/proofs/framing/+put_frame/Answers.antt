use Rattle.std.proofs.Common.{rules, ◌≡◌, ◌+◌, ◌++◌, ◌∷◌, List, ℕ, map, sym, ap, subst}
use Rattle.sn_ports.specs.Octets.{Octets, bytes_of}
use Rattle.sn_reply.specs.Frames.{frame_to, with_frame, EachBegins}
use Rattle.sn_reply.proofs.FrameLaws.{each_begins_refl, frame_behind, on_err}
use Rattle.sn_reply.proofs.framing.+put_frame.Goals as goal

pub returns-in_err-put_own-clause-behind : goal.returns-in_err-put_own-clause-behind
returns-in_err-put_own-clause-behind t c =
    let rest = c.in-Some.rest.now in
    let parts : c.args.out.now ≡ c.in-Some.first.now ∷ rest = search rules in
    subst (λ (ts : List Octets). EachBegins (map bytes_of ts) (bytes_of c.put_own.new.out ∷ map bytes_of rest)) (sym parts) (c.put_own.ensures.behind, each_begins_refl (map bytes_of rest))

pub returns-in_err-put_own-clause-front : goal.returns-in_err-put_own-clause-front
returns-in_err-put_own-clause-front t c = λ r to frame.
    let rest = c.in-Some.rest.now in
    let more = frame_to c.args.client r in
    let parts : c.args.out.now ≡ c.in-Some.first.now ∷ rest = search rules in
    on_err c.from_residual.result
    (subst (λ (ts : List Octets). EachBegins (bytes_of c.put_own.new.out ∷ map bytes_of rest) (with_frame c.args.client r (map bytes_of ts))) (sym parts)
    ((more, ap (λ (b : List ℕ). b ++ more) (sym c.in_err-put_own.ensures.kept)), frame_behind (c.args.client + 1) r (map bytes_of rest)))
