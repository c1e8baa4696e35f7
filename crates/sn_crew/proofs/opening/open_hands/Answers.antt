use Rattle.std.proofs.Common.{rules, ◌≡◌, ◌∙◌, ℕ, ◌+◌, All, List, [], ◌∷◌, ◌++◌, length, subst, sym, arith}
use Rattle.sn_crew.specs.declared.opening.Side.{Side}
use Rattle.sn_crew.specs.declared.hands.Hand.{Hand}
use Rattle.sn_crew.specs.Hands.{deques_of}
use Rattle.sn_crew.proofs.Halves.{all_left, all_right}
use Rattle.std.proofs.lemmas.List.Elements.{All-append}
use Rattle.sn_crew.proofs.opening.open_hands.Goals as goal

pub loop-own-preserved : goal.loop-own-preserved
loop-own-preserved c =
    let i = c.loop-own.invariant in
    let n = c.args.workers in
    let P : Side → Type 0 = λ s. length s.others.items + 1 ≡ n in
    let Q : Hand → Type 0 = λ p. deques_of p ≡ n in
    let rest = c.pop-in-Some.new.self.items in
    let side = c.in-Some-pop.side in
    let all : All P (rest ++ side ∷ []) = subst (All P) c.in-Some-pop.ensures.items i.2 in
    let mine : Q c.in_ok-open_hand.field-0 = c.in_ok-open_hand.ensures ∙ all_right P rest (side ∷ []) all 0 side (omega arith) in
    let one : All Q (c.in_ok-open_hand.field-0 ∷ []) = λ k d l. subst (λ m. Q (Rattle.std.proofs.Common.slice_index_or (c.in_ok-open_hand.field-0 ∷ []) m d)) (let e : 0 ≡ k = omega arith in e) mine in (
      omega (arith, i.0, c.in-Some.ensures.len, c.in-Some-pop.ensures.len),
      omega (arith, i.1, c.in-Some.ensures.len, c.in_ok-push.ensures.len),
      all_left P rest (side ∷ []) all,
      subst (All Q) (sym c.in_ok-push.ensures.items) (All-append Q c.loop-own.hands.items (c.in_ok-open_hand.field-0 ∷ []) i.3 one),
    )
