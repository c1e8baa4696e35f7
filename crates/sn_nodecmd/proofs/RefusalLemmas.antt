-- What is against mappings, judged by all nodes at once.
use Rattle.std.proofs.Common.{◌≡◌, ◌<◌, ◌≤◌, ◌+◌, ℕ, suc, Bool, true, false, not, nat_lt, List, [], ◌∷◌, ◌++◌, map, length, drop, take, Option, Some, None, unwrap_or, refl, ap, sym, subst, ◌∙◌, ⊎_elim, arith}
use Rattle.std.specs.Prelude.{◌||◌, if◌then◌else◌}
use Rattle.std.specs.List.{list_any, position, position_or_len}
use Rattle.std.proofs.lemmas.Bool.{cases_lt, ltb-true}
use Rattle.std.proofs.lemmas.List.{append-nil, take_all, take-append-drop, length-take-le}
use Rattle.sn_reply.specs.declared.reason.Reason.{Reason}
use Rattle.sn_reply.specs.declared.reason.Reason.TheVariants.{Bus, IndexControl}
use Rattle.sn_tree.specs.Trees.{Nodes}
use Rattle.sn_world.specs.declared.stage.Held.{Held}
use Rattle.sn_world.specs.Rows.{or_else, first_refusal}
use Rattle.sn_world.specs.Mappings.{Mapping, is_followable, any_node}
use Rattle.sn_nodecmd.specs.declared.mappings.Mapping.{Mapping as Read}
use Rattle.sn_nodecmd.specs.Mapped.{mapping_of, takes_index, refusal_in}
use Rattle.sn_nodecmd.specs.Indexing.{held_takes}
use Rattle.sn_nodecmd.proofs.IndexingLemmas.{any_mapped, nodes-as}
use Rattle.sn_nodecmd.proofs.NeededLemmas.{AreFollowable, is_bad, none_bad, bad, not_bad, all_refuse, takes, by_index, followed, bus_refused}

-- those before the first one whose bus can't be followed
abbrev pub followable : List Read → List Read
followable ms = take (position_or_len is_bad ms) ms

are-followable : (ms : List Read) → AreFollowable (followable ms)
are-followable [] = tt
are-followable (m ∷ ms) = at (is_bad m) refl (are-followable ms)
  where
    at : (b : Bool) → is_bad m ≡ b → AreFollowable (followable ms) → AreFollowable (take (if not b then 1 + position_or_len is_bad ms else 0) (m ∷ ms))
    at true e others = tt
    at false e others =
        let next : 1 + position_or_len is_bad ms ≡ suc (position_or_len is_bad ms) = omega arith in
        subst (λ (n : ℕ). AreFollowable (take n (m ∷ ms))) (sym next) (not_bad (is_followable m.bus) e, others)

pub all-followable : (ms : List Read) → length ms ≤ length (followable ms) → followable ms ≡ ms
all-followable ms all =
    let place : ℕ = position_or_len is_bad ms in
    take_all place ms (⊎_elim (λ (l : place < length ms). omega (arith, all, length-take-le place ms (omega (arith, l)))) (λ (l : length ms ≤ place). l) (cases_lt place (length ms)))

placed : (p n i : ℕ) → Some i ≡ (if nat_lt p n then Some p else None) → (i ≡ p) × (i < n)
placed p n i is = at (nat_lt p n) refl is
  where
    at : (b : Bool) → nat_lt p n ≡ b → Some i ≡ (if b then Some p else None) → (i ≡ p) × (i < n)
    at true e h = let same : i ≡ p = ap (λ (o : Option ℕ). unwrap_or o 0) h in (same, subst (λ (k : ℕ). k < n) (sym same) (ltb-true p n e))
    at false e h = absurd cc

pub followable-to : (ms : List Read) (i : ℕ) → Some i ≡ position is_bad ms → (take i ms ≡ followable ms) × (i < length ms)
followable-to ms i some =
    let at : (i ≡ position_or_len is_bad ms) × (i < length ms) = placed (position_or_len is_bad ms) (length ms) i some in
    (ap (λ (n : ℕ). take n ms) at.0, at.1)

pub followable-whole : (ms : List Read) → None ≡ position is_bad ms → ms ≡ followable ms
followable-whole ms none = sym (take_all (position_or_len is_bad ms) ms (none_bad ms (sym none)))

-- the first one whose bus can't be followed, and those after it
record IsBadIn (ms : List Read) (before : List Read) : Type 0 where
  first : Read
  others : List Read
  all : before ++ first ∷ others ≡ ms
  fails : is_followable first.bus ≡ false

first-bad : (ms : List Read) → length (followable ms) < length ms → IsBadIn ms (followable ms)
first-bad [] less = absurd (omega arith)
first-bad (m ∷ ms) less = at (is_bad m) refl less (first-bad ms)
  where
    at : (b : Bool) → is_bad m ≡ b → length (take (if not b then 1 + position_or_len is_bad ms else 0) (m ∷ ms)) < suc (length ms) → (length (followable ms) < length ms → IsBadIn ms (followable ms))
        → IsBadIn (m ∷ ms) (take (if not b then 1 + position_or_len is_bad ms else 0) (m ∷ ms))
    at true e l others = record { first = m; others = ms; all = refl; fails = bad (is_followable m.bus) e }
    at false e l others =
        let next : 1 + position_or_len is_bad ms ≡ suc (position_or_len is_bad ms) = omega arith in
        let few : length (m ∷ followable ms) < suc (length ms) = subst (λ (n : ℕ). length (take n (m ∷ ms)) < suc (length ms)) next l in
        let r : IsBadIn ms (followable ms) = others (omega (arith, few)) in
        let all : IsBadIn (m ∷ ms) (m ∷ followable ms) = record { first = r.first; others = r.others; all = ap (λ (all : List Read). m ∷ all) r.all; fails = r.fails } in
        subst (λ (n : ℕ). IsBadIn (m ∷ ms) (take n (m ∷ ms))) (sym next) all

module _ (t : Nodes Held) where
  joined : (a b : Bool) (o : Option Reason) → or_else (by_index t a) (or_else (by_index t b) o) ≡ or_else (by_index t (a || b)) o
  joined true b o = refl
  joined false b o = refl

  refused-by : (ms more : List Read) → AreFollowable ms → all_refuse t (ms ++ more) ≡ or_else (by_index t (list_any (takes t) ms)) (all_refuse t more)
  refused-by [] more f = refl
  refused-by (m ∷ ms) more f =
      ap (λ (o : Option Reason). or_else o (all_refuse t (ms ++ more))) (followed t m f.0)
      ∙ ap (or_else (by_index t (takes t m))) (refused-by ms more f.1)
      ∙ joined (takes t m) (list_any (takes t) ms) (all_refuse t more)

  by-nodes : (ms : List Read) → list_any (takes t) ms ≡ any_node (held_takes (map mapping_of ms)) t
  by-nodes ms = sym (any_mapped mapping_of (λ (m : Mapping). any_node (takes_index m.control) t) ms) ∙ nodes-as (map mapping_of ms) t

  abbrev any_taken : List Read → Bool
  any_taken ms = any_node (held_takes (map mapping_of (followable ms))) t

  pub refused-index : (ms : List Read) → any_taken ms ≡ true → first_refusal (refusal_in t) (map mapping_of ms) ≡ Some IndexControl
  refused-index ms found =
      let place : ℕ = position_or_len is_bad ms in
      ap (all_refuse t) (sym (take-append-drop place ms))
      ∙ refused-by (followable ms) (drop place ms) (are-followable ms)
      ∙ ap (λ (b : Bool). or_else (by_index t b) (all_refuse t (drop place ms))) (by-nodes (followable ms) ∙ found)

  pub refused-bus : (ms : List Read) → any_taken ms ≡ false → length (followable ms) < length ms → first_refusal (refusal_in t) (map mapping_of ms) ≡ Some Bus
  refused-bus ms free less =
      let r : IsBadIn ms (followable ms) = first-bad ms less in
      ap (all_refuse t) (sym r.all)
      ∙ refused-by (followable ms) (r.first ∷ r.others) (are-followable ms)
      ∙ ap (λ (b : Bool). or_else (by_index t b) (all_refuse t (r.first ∷ r.others))) (by-nodes (followable ms) ∙ free)
      ∙ ap (λ (o : Option Reason). or_else o (all_refuse t r.others)) (bus_refused t r.first r.fails)

  pub not-refused : (ms : List Read) → any_taken ms ≡ false → length ms ≤ length (followable ms) → first_refusal (refusal_in t) (map mapping_of ms) ≡ None
  not-refused ms free all =
      ap (all_refuse t) (sym (all-followable ms all) ∙ sym (append-nil (followable ms)))
      ∙ refused-by (followable ms) [] (are-followable ms)
      ∙ ap (λ (b : Bool). or_else (by_index t b) None) (by-nodes (followable ms) ∙ free)
