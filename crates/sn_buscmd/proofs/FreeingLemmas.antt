-- `/d_free`: names that are judged one after the other, and forgotten together.
use Rattle.std.proofs.Common.{◌≡◌, ◌≤◌, ◌<◌, ◌+◌, ℕ, zero, suc, map, drop, get_or, Bool, true, false, cond, not, is_some, ◌&&◌, List, [], ◌∷◌, length, Option, Some, None, Result, Ok, Err, refl, ap, sym, ◌∙◌, arith}
use Rattle.std.specs.Prelude.{◌==◌}
use Rattle.sn_ports.specs.Octets.{Octets, bytes_of}
use Rattle.std.specs.Ordering.{eq_by_cmp, nat_cmp}
use Rattle.std.specs.declared.cmp.Ordering.TheVariants.{Equal}
use Rattle.std.specs.Cmp.Lexicographic.{slice_cmp, nat_list_cmp_total}
use Rattle.std.specs.FinMap.{get, insert, remove, empty, retain_keys, same_map, get-insert, get-remove, get-empty, get-retain_keys, slice_cmp-IsAntisymmetric, nat_cmp-IsAntisymmetric}
use Rattle.sn_def.specs.Definition.{Definition}
use Rattle.sn_osc.specs.Shape.{Argument, int, string, blob}
use Rattle.sn_reply.specs.declared.reason.Reason.{Reason}
use Rattle.sn_reply.specs.declared.reason.Reason.TheVariants.{NoSuchDefinition}
use Rattle.sn_world.specs.Definitions.{Definitions}
use Rattle.sn_world.specs.Names.{NameSet}
use Rattle.sn_world.specs.World.{Turn}
use Rattle.sn_world.specs.Rows.{first_of, unless, steps, row, another, singles, some_of}
use Rattle.sn_world.specs.Forgetting.{name_of, judge_forget, act_forget, forget_row, are_known, without_names}

-- ---- definitions without a set of names

same_name : (x y : List ℕ) → slice_cmp nat_cmp x y ≡ Equal → x ≡ y
same_name = slice_cmp-IsAntisymmetric nat_cmp-IsAntisymmetric

pub less : Definitions → NameSet → Definitions
less ds ns = retain_keys ds (λ q. not (is_some (get ns q)))

get-less : (ds : Definitions) (ns : NameSet) (q : List ℕ) → get (less ds ns) q ≡ cond (not (is_some (get ns q))) (get ds q) None
unfolding less
get-less ds ns q = get-retain_keys ds (λ x. not (is_some (get ns x))) q (λ x same. ap (λ n. not (is_some (get ns n))) (sym (same_name q x same)))

chosen : (a : Bool) (n : Option (Unit {0})) (d : Option Definition) → cond (not (is_some (cond a (Some tt) n))) d None ≡ cond a None (cond (not (is_some n)) d None)
chosen true n d = refl
chosen false n d = refl

pub less-more : (ds : Definitions) (ns : NameSet) (name : List ℕ) → less ds (insert ns name tt) ≡ remove (less ds ns) name
less-more ds ns name = same_map nat_list_cmp_total same_name _ _ (λ q.
    get-less ds (insert ns name tt) q
    ∙ ap (λ o. cond (not (is_some o)) (get ds q) None) (get-insert nat_list_cmp_total ns name tt q)
    ∙ chosen (eq_by_cmp (slice_cmp nat_cmp) q name) (get ns q) (get ds q)
    ∙ sym (get-remove nat_list_cmp_total (less ds ns) name q ∙ ap (cond (eq_by_cmp (slice_cmp nat_cmp) q name) None) (get-less ds ns q)))

pub less-none : (ds : Definitions) (ns : NameSet) → ns ≡ empty → less ds ns ≡ ds
less-none ds ns none = same_map nat_list_cmp_total same_name _ _ (λ q.
    get-less ds ns q ∙ ap (λ o. cond (not (is_some o)) (get ds q) None) (ap (λ (m : NameSet). get m q) none ∙ get-empty (slice_cmp nat_cmp) q))

both : (a b : Bool) (d : Option Definition) → a ≡ is_some d → is_some (cond b d None) ≡ (a && b)
both true true d h = sym h
both false true d h = sym h
both true false d h = refl
both false false d h = refl

-- a name is known there if it has a definition and is none of the set
pub known-less : (ds : Definitions) (ns : NameSet) (name : List ℕ) (has new : Bool) → has ≡ is_some (get ds name) → new ≡ not (is_some (get ns name)) → is_some (get (less ds ns) name) ≡ (has && new)
known-less ds ns name has new is_there is_new =
    ap is_some (get-less ds ns name) ∙ ap (λ b. is_some (cond b (get ds name) None)) (sym is_new) ∙ both has new (get ds name) is_there

first-name : (names : List Octets) (i : ℕ) (name : Octets) → i < length names → name ≡ get_or names i name → drop i names ≡ name ∷ drop (i + 1) names
first-name [] i name lt is = absurd (omega arith)
first-name (n ∷ names) zero name lt is = ap (λ x. x ∷ names) (sym is)
first-name (n ∷ names) (suc i) name lt is =
    let one : suc (i + 1) ≡ suc i + 1 = omega arith in
    first-name names i name (omega arith) is ∙ ap (λ k. name ∷ drop k (n ∷ names)) one

pub next-known : (ds : Definitions) (ns : NameSet) (names : List Octets) (i : ℕ) (name : Octets) (text : List ℕ) (has new : Bool) → i < length names → name ≡ get_or names i name → text ≡ name.bytes
    → has ≡ is_some (get ds text) → new ≡ not (is_some (get ns text))
    → are_known (map bytes_of (drop i names)) (less ds ns) ≡ ((has && new) && are_known (map bytes_of (drop (i + 1) names)) (less ds (insert ns text tt)))
next-known ds ns names i name text has new lt is text_is is_there is_new =
    ap (λ xs. are_known (map bytes_of xs) (less ds ns)) (first-name names i name lt is)
    ∙ ap (λ x. is_some (get (less ds ns) x) && are_known (map bytes_of (drop (i + 1) names)) (remove (less ds ns) x)) (sym text_is)
    ∙ ap (λ b. b && are_known (map bytes_of (drop (i + 1) names)) (remove (less ds ns) text)) (known-less ds ns text has new is_there is_new)
    ∙ ap (λ m. (has && new) && are_known (map bytes_of (drop (i + 1) names)) m) (sym (less-more ds ns text))

pub some-of_test : (n : ℕ) → (n == 0) ≡ false → 1 ≤ n
some-of_test zero e = absurd cc
some-of_test (suc n) e = omega arith

-- ---- the row

abbrev pub with_definitions : Definitions → Turn → Turn
with_definitions ds t = record t { world = record t.world { definitions = ds } }

abbrev pub freed : Bool → Turn → Result Turn Reason
freed true t = Ok t
freed false t = Err NoSuchDefinition

stepped : (known others : Bool) (t : Turn) → unless (first_of ((not known, NoSuchDefinition) ∷ [])) (freed others t) ≡ freed (known && others) t
stepped true others t = refl
stepped false others t = refl

all-freed : (names : List (List ℕ)) (t : Turn) → steps judge_forget act_forget names t ≡ freed (are_known names t.world.definitions) (with_definitions (without_names names t.world.definitions) t)
all-freed [] t = refl
all-freed (name ∷ names) t =
    let ds = t.world.definitions in
    ap (unless (judge_forget t.world name)) (all-freed names (act_forget name t))
    ∙ stepped (is_some (get ds name)) (are_known names (remove ds name)) (with_definitions (without_names names (remove ds name)) t)

not_empty : (x : Argument) (xs : List Argument) (o : Option (List (List ℕ))) → some_of (another (name_of x) o) ≡ another (name_of x) o
not_empty (string s) xs None = refl
not_empty (string s) xs (Some names) = refl
not_empty (int n) xs o = refl
not_empty (blob b) xs o = refl

some-names : (xs : List Argument) → 1 ≤ length xs → some_of (singles name_of xs) ≡ singles name_of xs
some-names [] some = absurd (omega arith)
some-names (x ∷ xs) some = not_empty x xs (singles name_of xs)

module _ (from : ℕ) (xs : List Argument) (t : Turn) where
  pub names_row : 1 ≤ length xs → (names : List (List ℕ)) → Some names ≡ singles name_of xs → forget_row from xs t ≡ freed (are_known names t.world.definitions) (with_definitions (without_names names t.world.definitions) t)
  names_row some names read = ap (λ (o : Option (List (List ℕ))). row judge_forget act_forget o t) (some-names xs some ∙ sym read) ∙ all-freed names t

  pub names_unknown : 1 ≤ length xs → (names : List (List ℕ)) → Some names ≡ singles name_of xs → are_known names t.world.definitions ≡ false → forget_row from xs t ≡ Err NoSuchDefinition
  names_unknown some names read unknown = names_row some names read ∙ ap (λ b. freed b (with_definitions (without_names names t.world.definitions) t)) unknown

  pub names_known : 1 ≤ length xs → (names : List (List ℕ)) → Some names ≡ singles name_of xs → are_known names t.world.definitions ≡ true → forget_row from xs t ≡ Ok (with_definitions (without_names names t.world.definitions) t)
  names_known some names read known = names_row some names read ∙ ap (λ b. freed b (with_definitions (without_names names t.world.definitions) t)) known
