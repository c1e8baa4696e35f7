-- Index controls among the controls of mappings, found by the last numbers of a definition's controls.
use Rattle.std.proofs.Common.{◌≡◌, ◌≢◌, ◌<◌, ◌==◌, ℕ, zero, suc, ℤ, pos, negsuc, Bool, true, false, nat_lt, List, [], ◌∷◌, map, length, replicate, set, get_or, is_some, Option, Some, None, refl, ap, sym, subst, ◌∙◌, ⊎_elim}
use Rattle.std.specs.Prelude.{◌||◌, if◌then◌else◌, zip}
use Rattle.std.specs.List.{list_any, position_or_len}
use Rattle.std.specs.Str.{bytes_eq}
use Rattle.std.proofs.Math.Bool.{or-false}
use Rattle.std.proofs.lemmas.Bool.{cases_eq, eq-eqb, ne_eqb, ltb-true}
use Rattle.std.proofs.lemmas.List.{get_or-set_same, get_or-set_other, length-replicate}
use Rattle.sn_def.specs.declared.table.Mark.{Mark}
use Rattle.sn_def.specs.declared.table.Mark.TheVariants as marks
use Rattle.sn_def.specs.declared.unit.Input.{Input}
use Rattle.sn_def.specs.declared.unit.Input.TheVariants as inputs
use Rattle.sn_def.specs.declared.unit.Unit.{Unit as UnitLine}
use Rattle.sn_def.specs.Asked.{is_index_input, has_index}
use Rattle.sn_def.specs.Definition.{Definition, Parameter}
use Rattle.sn_def.specs.Units.{row_of}
use Rattle.sn_tree.specs.Trees.{Nodes, none, node}
use Rattle.sn_world.specs.declared.stage.Held.{Held}
use Rattle.sn_world.specs.declared.stage.Held.TheVariants as held
use Rattle.sn_world.specs.NewSynth.{ControlName, numbered, named, control_of}
use Rattle.sn_world.specs.Mappings.{Mapping, is_index_of, any_node}
use Rattle.sn_nodecmd.specs.Mapped.{run_for, takes_index}
use Rattle.sn_nodecmd.specs.Indexing.{definition_takes, held_takes, reaches, input_taken, unit_takes}
use Rattle.sn_nodecmd.specs.Resolving.{entered_at, entered, last_of}
use Rattle.sn_nodecmd.proofs.LayingLemmas.{length-entered_at}

-- ---- tests of two lists

four : (a b c d : Bool) → ((a || b) || (c || d)) ≡ ((a || c) || (b || d))
four true b c d = refl
four false true true d = refl
four false true false d = refl
four false false c d = refl

module _ {X : Type 0} where
  none_passes : (p : X → Bool) → ((x : X) → p x ≡ false) → (xs : List X) → list_any p xs ≡ false
  none_passes p fails [] = refl
  none_passes p fails (x ∷ xs) = ap (λ (b : Bool). b || list_any p xs) (fails x) ∙ none_passes p fails xs

  same_test : (p q : X → Bool) → ((x : X) → p x ≡ q x) → (xs : List X) → list_any p xs ≡ list_any q xs
  same_test p q same [] = refl
  same_test p q same (x ∷ xs) = λ i. same x i || same_test p q same xs i

  two_tests : (p q : X → Bool) (xs : List X) → list_any (λ (x : X). p x || q x) xs ≡ (list_any p xs || list_any q xs)
  two_tests p q [] = refl
  two_tests p q (x ∷ xs) = ap (λ (b : Bool). (p x || q x) || b) (two_tests p q xs) ∙ four (p x) (q x) (list_any p xs) (list_any q xs)

module _ {X Y : Type 0} where
  pub any_mapped : (f : X → Y) (p : Y → Bool) (xs : List X) → list_any p (map f xs) ≡ list_any (λ (x : X). p (f x)) xs
  any_mapped f p [] = refl
  any_mapped f p (x ∷ xs) = ap (λ (b : Bool). p (f x) || b) (any_mapped f p xs)

  exchanged : (f : X → Y → Bool) (xs : List X) (ys : List Y) → list_any (λ (x : X). list_any (λ (y : Y). f x y) ys) xs ≡ list_any (λ (y : Y). list_any (λ (x : X). f x y) xs) ys
  exchanged f [] ys = sym (none_passes (λ (y : Y). false) (λ y. refl) ys)
  exchanged f (x ∷ xs) ys =
      ap (λ (b : Bool). list_any (λ (y : Y). f x y) ys || b) (exchanged f xs ys)
      ∙ sym (two_tests (λ (y : Y). f x y) (λ (y : Y). list_any (λ (z : X). f z y) xs) ys)

-- ---- controls that mappings give a number

-- a control is that with a number
abbrev is_at : ℕ → Option ℕ → Bool
is_at c None = false
is_at c (Some k) = c == k

abbrev IsBelow : ℕ → Option ℕ → Type 0
IsBelow n None = Unit {0}
IsBelow n (Some k) = k < n

bounded : (k n : ℕ) (b : Bool) → nat_lt k n ≡ b → IsBelow n (if b then Some k else None)
bounded k n true e = ltb-true k n e
bounded k n false e = tt

control-below : (d : Definition) (c : ControlName) → IsBelow (length d.controls) (control_of d c)
control-below d (numbered (pos k)) = bounded k (length d.controls) (nat_lt k (length d.controls)) refl
control-below d (numbered (negsuc k)) = tt
control-below d (named name) =
    let k : ℕ = position_or_len (λ (c : Parameter). bytes_eq c.name name) d.controls in
    bounded k (length d.controls) (nat_lt k (length d.controls)) refl

reaches-set : (ns : List (Option ℤ)) (k c : ℕ) (v : ℤ) → k < length ns → reaches (set ns k (Some v)) c ≡ ((c == k) || reaches ns c)
reaches-set ns k c v within = ⊎_elim same other (cases_eq c k)
  where
    same : c ≡ k → reaches (set ns k (Some v)) c ≡ ((c == k) || reaches ns c)
    same e =
        ap (λ (j : ℕ). is_some (get_or (set ns k (Some v)) j None)) e
        ∙ ap is_some (get_or-set_same ns k (Some v) None within)
        ∙ sym (ap (λ (b : Bool). b || reaches ns c) (eq-eqb c k e))

    other : c ≢ k → reaches (set ns k (Some v)) c ≡ ((c == k) || reaches ns c)
    other n = ap is_some (get_or-set_other ns k c (Some v) None n) ∙ sym (ap (λ (b : Bool). b || reaches ns c) (ne_eqb c k n))

reaches-run : (o : Option ℕ) (v : ℤ) (ns : List (Option ℤ)) (c : ℕ) → IsBelow (length ns) o → reaches (entered_at o (v ∷ []) ns) c ≡ (is_at c o || reaches ns c)
reaches-run None v ns c is = refl
reaches-run (Some k) v ns c is = reaches-set ns k c v is

turn : (a b r : Bool) → (a || (b || r)) ≡ ((b || a) || r)
turn true true r = refl
turn true false r = refl
turn false true r = refl
turn false false r = refl

module _ (d : Definition) where
  abbrev number : Mapping → Option ℕ
  number m = control_of d m.control

  reaches-all : (ms : List Mapping) (ns : List (Option ℤ)) (c : ℕ) → length ns ≡ length d.controls → reaches (entered (map run_for ms) d ns) c ≡ (list_any (λ (m : Mapping). is_at c (number m)) ms || reaches ns c)
  reaches-all [] ns c len = refl
  reaches-all (m ∷ ms) ns c len =
      reaches-all ms (entered_at (number m) (m.bus ∷ []) ns) c (length-entered_at (number m) (m.bus ∷ []) ns ∙ len)
      ∙ ap (λ (b : Bool). list_any (λ (x : Mapping). is_at c (number x)) ms || b) (reaches-run (number m) m.bus ns c (subst (λ (n : ℕ). IsBelow n (number m)) (sym len) (control-below d m.control)))
      ∙ turn (list_any (λ (x : Mapping). is_at c (number x)) ms) (is_at c (number m)) (reaches ns c)

  reaches-none : (n c : ℕ) → reaches (replicate n None) c ≡ false
  reaches-none zero c = refl
  reaches-none (suc n) zero = refl
  reaches-none (suc n) (suc c) = reaches-none n c

  abbrev last : List Mapping → List (Option ℤ)
  last ms = last_of (map run_for ms) d

  reaches-last : (ms : List Mapping) (c : ℕ) → list_any (λ (m : Mapping). is_at c (number m)) ms ≡ reaches (last ms) c
  reaches-last ms c =
      let any : Bool = list_any (λ (m : Mapping). is_at c (number m)) ms in
      let blank : List (Option ℤ) = replicate (length d.controls) None in
      sym (reaches-all ms blank c (length-replicate (length d.controls) None) ∙ ap (λ (b : Bool). any || b) (reaches-none (length d.controls) c) ∙ or-false any)

  -- ---- index inputs

  abbrev input_is : Option ℕ → Mark → Input → Bool
  input_is None mark input = false
  input_is (Some k) mark input = is_index_input k mark input

  abbrev unit_is : Option ℕ → UnitLine → Bool
  unit_is o u = list_any (λ (p : Mark × Input). input_is o p.0 p.1) (zip (row_of u.kind).inputs u.inputs)

  has-as : (k : ℕ) (u : UnitLine) → has_index k u ≡ unit_is (Some k) u
  unfolding has_index
  has-as k u = refl

  index-as : (o : Option ℕ) → is_index_of d o ≡ list_any (unit_is o) d.units
  index-as None = sym (none_passes (unit_is None) (λ (u : UnitLine). none_passes (λ (p : Mark × Input). false) (λ p. refl) (zip (row_of u.kind).inputs u.inputs)) d.units)
  index-as (Some k) = same_test (has_index k) (unit_is (Some k)) (has-as k) d.units

  control-is : (k : ℕ) (o : Option ℕ) → input_is o marks.Index (inputs.Control k) ≡ is_at k o
  control-is k None = refl
  control-is k (Some j) = refl

  abbrev Never : Mark → Input → Type 0
  Never mark input = (k : ℕ) → is_index_input k mark input ≡ false

  never : (mark : Mark) (input : Input) → Never mark input → (ms : List Mapping) → list_any (λ (m : Mapping). input_is (number m) mark input) ms ≡ false
  never mark input fails ms = none_passes (λ (m : Mapping). input_is (number m) mark input) (λ (m : Mapping). at (number m)) ms
    where
      at : (o : Option ℕ) → input_is o mark input ≡ false
      at None = refl
      at (Some k) = fails k

  input-as : (ms : List Mapping) (mark : Mark) (input : Input) → list_any (λ (m : Mapping). input_is (number m) mark input) ms ≡ input_taken (last ms) mark input
  input-as ms marks.Index (inputs.Control k) = same_test (λ (m : Mapping). input_is (number m) marks.Index (inputs.Control k)) (λ (m : Mapping). is_at k (number m)) (λ (m : Mapping). control-is k (number m)) ms ∙ reaches-last ms k
  input-as ms marks.Index (inputs.Literal v) = never marks.Index (inputs.Literal v) (λ k. refl) ms
  input-as ms marks.Index (inputs.Wire w) = never marks.Index (inputs.Wire w) (λ k. refl) ms
  input-as ms marks.Signal (inputs.Control k) = never marks.Signal (inputs.Control k) (λ k. refl) ms
  input-as ms marks.Signal (inputs.Literal v) = never marks.Signal (inputs.Literal v) (λ k. refl) ms
  input-as ms marks.Signal (inputs.Wire w) = never marks.Signal (inputs.Wire w) (λ k. refl) ms
  input-as ms marks.Constant (inputs.Control k) = never marks.Constant (inputs.Control k) (λ k. refl) ms
  input-as ms marks.Constant (inputs.Literal v) = never marks.Constant (inputs.Literal v) (λ k. refl) ms
  input-as ms marks.Constant (inputs.Wire w) = never marks.Constant (inputs.Wire w) (λ k. refl) ms
  input-as ms marks.Longest (inputs.Control k) = never marks.Longest (inputs.Control k) (λ k. refl) ms
  input-as ms marks.Longest (inputs.Literal v) = never marks.Longest (inputs.Literal v) (λ k. refl) ms
  input-as ms marks.Longest (inputs.Wire w) = never marks.Longest (inputs.Wire w) (λ k. refl) ms

  unit-as : (ms : List Mapping) (u : UnitLine) → list_any (λ (m : Mapping). unit_is (number m) u) ms ≡ unit_takes (last ms) u
  unit-as ms u =
      let all : List (Mark × Input) = zip (row_of u.kind).inputs u.inputs in
      exchanged (λ (m : Mapping) (p : Mark × Input). input_is (number m) p.0 p.1) ms all
      ∙ same_test (λ (p : Mark × Input). list_any (λ (m : Mapping). input_is (number m) p.0 p.1) ms) (λ (p : Mark × Input). input_taken (last ms) p.0 p.1) (λ (p : Mark × Input). input-as ms p.0 p.1) all

  -- by the units of a definition
  pub taken-as : (ms : List Mapping) → list_any (unit_takes (last ms)) d.units ≡ definition_takes ms d
  taken-as ms = sym (
      same_test (λ (m : Mapping). is_index_of d (number m)) (λ (m : Mapping). list_any (unit_is (number m)) d.units) (λ (m : Mapping). index-as (number m)) ms
      ∙ exchanged (λ (m : Mapping) (u : UnitLine). unit_is (number m) u) ms d.units
      ∙ same_test (λ (u : UnitLine). list_any (λ (m : Mapping). unit_is (number m) u) ms) (unit_takes (last ms)) (unit-as ms) d.units)

-- ---- in nodes

held-as : (ms : List Mapping) (h : Held) → list_any (λ (m : Mapping). takes_index m.control h) ms ≡ held_takes ms h
held-as ms held.Group = none_passes (λ (m : Mapping). false) (λ m. refl) ms
held-as ms (held.Synth def controls state) = refl

-- node by node, or mapping by mapping
pub nodes-as : (ms : List Mapping) (t : Nodes Held) → list_any (λ (m : Mapping). any_node (takes_index m.control) t) ms ≡ any_node (held_takes ms) t
nodes-as ms none = none_passes (λ (m : Mapping). false) (λ m. refl) ms
nodes-as ms (node l below after) =
    two_tests (λ (m : Mapping). takes_index m.control l.payload) (λ (m : Mapping). any_node (takes_index m.control) below || any_node (takes_index m.control) after) ms
    ∙ (λ i. held-as ms l.payload i || (two_tests (λ (m : Mapping). any_node (takes_index m.control) below) (λ (m : Mapping). any_node (takes_index m.control) after) ms ∙ (λ j. nodes-as ms below j || nodes-as ms after j)) i)
