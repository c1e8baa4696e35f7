-- Replies that begin with others.
use Rattle.std.proofs.Common.{◌≡◌, List, [], ◌∷◌, ◌++◌, refl, ap, sym, ◌∙◌}
use Rattle.std.proofs.lemmas.List.{append-nil}
use Rattle.sn_reply.specs.Replies.{ReplyShape}
use Rattle.sn_world.specs.Answers.{Continues}

pub continues_same : (xs : List ReplyShape) → Continues xs xs
continues_same xs = ([], sym (append-nil xs))

assoc : (xs ys zs : List ReplyShape) → (xs ++ ys) ++ zs ≡ xs ++ (ys ++ zs)
assoc [] ys zs = refl
assoc (x ∷ xs) ys zs = ap (λ (rs : List ReplyShape). x ∷ rs) (assoc xs ys zs)

pub continues_then : (xs ys zs : List ReplyShape) → Continues xs ys → Continues ys zs → Continues xs zs
continues_then xs ys zs p q = (p.0 ++ q.0, q.1 ∙ ap (λ (rs : List ReplyShape). rs ++ q.0) p.1 ∙ assoc xs p.0 q.0)

pub continues_more : (xs ys zs more : List ReplyShape) → Continues xs ys → zs ≡ ys ++ more → Continues xs zs
continues_more xs ys zs more p is = continues_then xs ys zs p (more, is)
