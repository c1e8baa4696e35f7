-- Nodes that are counted one after the other, and all at once.
use Rattle.std.proofs.lemmas.Grind.{common_steps}
use Rattle.std.proofs.Common.{◌≡◌, ◌≤◌, ◌<◌, ◌+◌, ℕ, suc, pos, true, false, List, [], ◌∷◌, ◌++◌, length, Ok, refl, ap, sym, ◌∙◌, arith}
use Rattle.std.specs.Prelude.{if◌then◌else◌, nat_le, ◌==◌}
use Rattle.std.proofs.lemmas.Bool.{cond_both, leb-true, leb-false, le-leb}
use Rattle.sn_osc.specs.Shape.{Argument, int, arguments}
use Rattle.sn_tree.specs.Trees.{Nodes, none, node, payloads, with_payloads}
use Rattle.sn_tree.specs.Tallies.{gathered}
use Rattle.sn_world.specs.declared.stage.Held.{Held}
use Rattle.sn_world.specs.declared.stage.Held.TheVariants as held
use Rattle.sn_world.specs.Nodes.{Content, content_of}
use Rattle.std.specs.Prelude.{codes}
use Rattle.std.specs.FinMap as finite
use Rattle.sn_world.specs.World.{World, Turn, replied}
use Rattle.sn_world.specs.Status.{units_of, synths_of, groups_of, total, capped, status_message, status_row}
use Rattle.sn_buscmd.specs.declared.status.Census.{Census}
use Rattle.sn_buscmd.specs.Census.{with_held, census_of, counts_message}

capped-small : (n : ℕ) → n ≤ 2147483647 → capped n ≡ n
capped-small n small = ap (λ b. if b then n else 2147483647) (le-leb n 2147483647 small)

capped-most : (n : ℕ) → capped n ≤ 2147483647
capped-most n = cond_both (nat_le n 2147483647) n 2147483647 (λ m. m ≤ 2147483647) (λ h. leb-true n 2147483647 h) (λ _. omega arith)

pub capped-twice : (n : ℕ) → capped (capped n) ≡ capped n
capped-twice n = capped-small (capped n) (capped-most n)

capped-more : (n m : ℕ) → capped (capped n + m) ≡ capped (n + m)
capped-more n m = cond_both (nat_le n 2147483647) n 2147483647 (λ k. capped (k + m) ≡ capped (n + m)) (λ _. refl) (λ h. big (leb-false n 2147483647 h))
  where
    big : 2147483647 < n → capped (2147483647 + m) ≡ capped (n + m)
    big more = above (2147483647 + m) (omega arith) ∙ sym (above (n + m) (omega arith))
      where
        above : (k : ℕ) → 2147483647 ≤ k → capped k ≡ 2147483647
        above k le = cond_both (nat_le k 2147483647) k 2147483647 (λ j. j ≡ 2147483647) (λ h. omega (arith, leb-true k 2147483647 h)) (λ _. refl)

-- the weights of what nodes hold
amount : (Content → ℕ) → List ℕ → List Held → ℕ
amount weight ws [] = 0
amount weight ws (h ∷ hs) = weight (content_of ws h) + amount weight ws hs

amount-append : (weight : Content → ℕ) (ws : List ℕ) (gs hs : List Held) → amount weight ws (gs ++ hs) ≡ amount weight ws gs + amount weight ws hs
unfolding amount
amount-append weight ws [] hs = omega arith
amount-append weight ws (g ∷ gs) hs = omega (arith, amount-append weight ws gs hs)

amount-total : (weight : Content → ℕ) (ws : List ℕ) (t : Nodes Held) → amount weight ws (payloads t) ≡ total weight (with_payloads (content_of ws) t)
unfolding amount
amount-total weight ws none = refl
amount-total weight ws (node label below after) =
    omega (arith, amount-append weight ws (payloads below) (payloads after), amount-total weight ws below, amount-total weight ws after)

census : ℕ → ℕ → ℕ → Census
census u s g = record { units = capped u; synths = capped s; groups = capped g }

counted : (ws : List ℕ) (hs : List Held) (u s g : ℕ) → gathered with_held (census u s g) hs ≡ census (u + amount units_of ws hs) (s + amount synths_of ws hs) (g + amount groups_of ws hs)
unfolding census amount
counted ws [] u s g =
    let eu : u ≡ u + 0 = omega arith in
    let es : s ≡ s + 0 = omega arith in
    let eg : g ≡ g + 0 = omega arith in
    λ i. record { units = capped (eu i); synths = capped (es i); groups = capped (eg i) }
counted ws (held.Group ∷ hs) u s g =
    let eu : u + amount units_of ws hs ≡ u + (0 + amount units_of ws hs) = omega arith in
    let es : s + amount synths_of ws hs ≡ s + (0 + amount synths_of ws hs) = omega arith in
    let eg : g + 1 + amount groups_of ws hs ≡ g + (1 + amount groups_of ws hs) = omega arith in
    let first : with_held (census u s g) held.Group ≡ census u s (g + 1) = λ i. record { units = capped u; synths = capped s; groups = capped-more g 1 i } in
    ap (λ c. gathered with_held c hs) first ∙ counted ws hs u s (g + 1) ∙ (λ i. record { units = capped (eu i); synths = capped (es i); groups = capped (eg i) })
counted ws (held.Synth def controls state ∷ hs) u s g =
    let n = length def.value.units in
    let eu : u + n + amount units_of ws hs ≡ u + (n + amount units_of ws hs) = omega arith in
    let es : s + 1 + amount synths_of ws hs ≡ s + (1 + amount synths_of ws hs) = omega arith in
    let eg : g + amount groups_of ws hs ≡ g + (0 + amount groups_of ws hs) = omega arith in
    let first : with_held (census u s g) (held.Synth def controls state) ≡ census (u + n) (s + 1) g = λ i. record { units = capped-more u n i; synths = capped-more s 1 i; groups = capped g } in
    ap (λ c. gathered with_held c hs) first ∙ counted ws hs (u + n) (s + 1) g ∙ (λ i. record { units = capped (eu i); synths = capped (es i); groups = capped (eg i) })

-- all nodes of a tree
pub all-counted : (ws : List ℕ) (t : Nodes Held) → gathered with_held (record { units = 0; synths = 0; groups = 0 }) (payloads t)
    ≡ (let nodes : Nodes Content = with_payloads (content_of ws) t in let c : Census = record { units = capped (total units_of nodes); synths = capped (total synths_of nodes); groups = capped (total groups_of nodes) } in c)
unfolding census
all-counted ws t =
    counted ws (payloads t) 0 0 0
    ∙ (λ i. record { units = capped (zero_plus _ (amount-total units_of ws t) i); synths = capped (zero_plus _ (amount-total synths_of ws t) i); groups = capped (zero_plus _ (amount-total groups_of ws t) i) })
  where
    zero_plus : {n : ℕ} (m : ℕ) → n ≡ m → 0 + n ≡ m
    zero_plus m e = omega (arith, e)

pub status-asked : (from : ℕ) (xs : List Argument) (t : Turn) → (length xs == 0) ≡ true → status_row from xs t ≡ Ok (replied from (status_message t.world) t)
status-asked from [] t e = refl
status-asked from (x ∷ xs) t e = let none : (suc (length xs) == 0) ≡ false = grind (arith, common_steps) in absurd cc

pub counts-said : (w : World) (c : Census) (definitions : ℕ) → c ≡ census_of w → definitions ≡ finite.len w.definitions → counts_message c definitions ≡ status_message w
counts-said w c definitions is known =
    (λ i. counts_message (is i) (known i))
    ∙ (λ i. record { address = codes "/status.reply"; body = arguments (int (pos 1) ∷ int (pos (capped-twice (total units_of w.nodes) i)) ∷ int (pos (capped-twice (total synths_of w.nodes) i)) ∷ int (pos (capped-twice (total groups_of w.nodes) i)) ∷ int (pos (capped (finite.len w.definitions))) ∷ []) })
