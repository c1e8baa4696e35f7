-- Mappings that later ones make unnecessary, and those after the first one that is refused.
use Rattle.std.proofs.Common.{◌≡◌, ◌≢◌, ◌<◌, ◌≤◌, ◌+◌, ℕ, zero, suc, ℤ, Bool, true, false, not, nat_lt, List, [], ◌∷◌, ◌++◌, map, length, drop, take, get_or, Option, Some, None, ◌⊎◌, inl, inr, Result, Ok, refl, ap, sym, subst, ◌∙◌, ⊎_elim, arith}
use Rattle.std.specs.Prelude.{if◌then◌else◌}
use Rattle.std.specs.List.{position, position_or_len}
use Rattle.std.proofs.lemmas.Bool.{cases_eq, cases_lt, lt-ltb}
use Rattle.std.proofs.lemmas.List.Quantifiers.{position-Some}
use Rattle.std.proofs.lemmas.List.{append-nil}
use Rattle.sn_def.specs.declared.control.Control.{Control}
use Rattle.sn_def.specs.Definition.{Definition}
use Rattle.sn_reply.specs.declared.reason.Reason.{Reason}
use Rattle.sn_reply.specs.declared.reason.Reason.TheVariants.{Bus, IndexControl}
use Rattle.sn_reply.specs.Replies.{ReplyShape}
use Rattle.sn_tree.specs.Trees.{Nodes, subtree}
use Rattle.sn_tree.specs.Reworking.{reworked}
use Rattle.sn_world.specs.declared.stage.Held.{Held}
use Rattle.sn_world.specs.declared.stage.Stage.{Stage}
use Rattle.sn_world.specs.World.{Turn, world_of, turn_of}
use Rattle.sn_world.specs.Rows.{unless, or_else, first_of, first_refusal}
use Rattle.sn_world.specs.NewSynth.{control_of}
use Rattle.sn_world.specs.ControlRuns.{ForNode, in_synth, judge_node}
use Rattle.sn_world.specs.Mappings.{Mapping, is_followable, with_bus, with_buses, any_node, map_outcome}
use Rattle.sn_nodecmd.specs.declared.mappings.Mapping.{Mapping as Read}
use Rattle.sn_nodecmd.specs.Runs.{name_of}
use Rattle.sn_nodecmd.specs.Covering.{IsCovered, AreLeft}
use Rattle.sn_nodecmd.specs.Mapped.{mapping_of, takes_index, refusal_in, AreNeeded}
use Rattle.sn_nodecmd.proofs.MappingLemmas.{judged}

abbrev pub same_control : Read → Read → Type 0
same_control m later = name_of later.control ≡ name_of m.control

-- each has a control bus, or none
abbrev pub AreFollowable : List Read → Type 0
AreFollowable [] = Unit {0}
AreFollowable (m ∷ ms) = (is_followable m.bus ≡ true) × AreFollowable ms

-- ---- reasons

module _ (t : Nodes Held) where
  abbrev pub refuses : Read → Option Reason
  refuses m = refusal_in t (mapping_of m)

  abbrev pub all_refuse : List Read → Option Reason
  all_refuse ms = first_refusal (refusal_in t) (map mapping_of ms)

  abbrev pub takes : Read → Bool
  takes m = any_node (takes_index (name_of m.control)) t

  abbrev pub by_index : Bool → Option Reason
  by_index b = if b then Some IndexControl else None

  pub followed : (m : Read) → is_followable m.bus ≡ true → refuses m ≡ by_index (takes m)
  followed m f = ap (λ b. first_of ((not b, Bus) ∷ (takes m, IndexControl) ∷ [])) f

  or_index : (b : Bool) → or_else (by_index b) (Some IndexControl) ≡ Some IndexControl
  or_index true = refl
  or_index false = refl

  -- one of them takes an index
  index_covered : (m : Read) (ms more : List Read) → AreFollowable ms → IsCovered same_control m ms → takes m ≡ true → all_refuse (ms ++ more) ≡ Some IndexControl
  index_covered m [] more f c x = absurd c
  index_covered m (s ∷ ss) more f (inl same) x =
      ap (λ o. or_else o (all_refuse (ss ++ more))) (followed s f.0 ∙ ap by_index (ap (λ n. any_node (takes_index n) t) same ∙ x))
  index_covered m (s ∷ ss) more f (inr c) x = (λ i. or_else (followed s f.0 i) (index_covered m ss more f.1 c x i)) ∙ or_index (takes s)

  -- without one that is covered they are refused alike
  without_covered : (m : Read) (ms more : List Read) → is_followable m.bus ≡ true → AreFollowable ms → IsCovered same_control m ms → all_refuse (m ∷ (ms ++ more)) ≡ all_refuse (ms ++ more)
  without_covered m ms more g f c = at (takes m) refl
    where
      at : (b : Bool) → takes m ≡ b → all_refuse (m ∷ (ms ++ more)) ≡ all_refuse (ms ++ more)
      at true e = ap (λ o. or_else o (all_refuse (ms ++ more))) (followed m g ∙ ap by_index e) ∙ sym (index_covered m ms more f c e)
      at false e = ap (λ o. or_else o (all_refuse (ms ++ more))) (followed m g ∙ ap by_index e)

  left_refused : (ms left more : List Read) → AreFollowable ms → AreLeft same_control ms left → all_refuse (left ++ more) ≡ all_refuse (ms ++ more)
  left_refused [] left more f l = ap (λ all. all_refuse (all ++ more)) l
  left_refused (m ∷ ms) left more f (inl l) = ap (λ all. all_refuse (all ++ more)) l.1.0 ∙ ap (or_else (refuses m)) (left_refused ms l.0 more f.1 l.1.1)
  left_refused (m ∷ ms) left more f (inr l) = left_refused ms left more f.1 l.1 ∙ sym (without_covered m ms more f.0 f.1 l.0)

  -- none after a refused one is asked
  pub bus_refused : (b : Read) → is_followable b.bus ≡ false → refuses b ≡ Some Bus
  bus_refused b f = ap (λ g. first_of ((not g, Bus) ∷ (takes b, IndexControl) ∷ [])) f

  bad_last : (ms : List Read) (b : Read) (rest : List Read) → is_followable b.bus ≡ false → all_refuse (ms ++ b ∷ []) ≡ all_refuse (ms ++ b ∷ rest)
  bad_last [] b rest f = ap (λ o. or_else o None) (bus_refused b f) ∙ sym (ap (λ o. or_else o (all_refuse rest)) (bus_refused b f))
  bad_last (m ∷ ms) b rest f = ap (or_else (refuses m)) (bad_last ms b rest f)

  neither : (o p : Option Reason) → or_else o p ≡ None → p ≡ None
  neither None p h = h
  neither (Some x) p h = absurd cc

  bad_refused : (ms : List Read) (b : Read) (rest : List Read) → is_followable b.bus ≡ false → all_refuse (ms ++ b ∷ rest) ≡ None → ⊥
  bad_refused [] b rest f h = let e : Some Bus ≡ None = sym (ap (λ o. or_else o (all_refuse rest)) (bus_refused b f)) ∙ h in cc
  bad_refused (m ∷ ms) b rest f h = bad_refused ms b rest f (neither (refuses m) (all_refuse (ms ++ b ∷ rest)) h)

-- ---- controls that follow buses

over : (k : ℕ) (a b : ℤ) (cs : List Control) → with_bus (Some k) a (with_bus (Some k) b cs) ≡ with_bus (Some k) a cs
over k a b [] = refl
over zero a b (c ∷ cs) = refl
over (suc k) a b (c ∷ cs) = ap (λ (l : List Control). c ∷ l) (over k a b cs)

swap : (j k : ℕ) (a b : ℤ) (cs : List Control) → j ≢ k → with_bus (Some j) a (with_bus (Some k) b cs) ≡ with_bus (Some k) b (with_bus (Some j) a cs)
swap j k a b [] n = refl
swap zero zero a b (c ∷ cs) n = absurd (n refl)
swap zero (suc k) a b (c ∷ cs) n = refl
swap (suc j) zero a b (c ∷ cs) n = refl
swap (suc j) (suc k) a b (c ∷ cs) n = ap (λ (l : List Control). c ∷ l) (swap j k a b cs (λ e. n (ap suc e)))

-- a control follows a bus after another one did, or after itself
passes : (o p : Option ℕ) (a b : ℤ) (cs : List Control) → (with_bus p a (with_bus o b cs) ≡ with_bus p a cs) ⊎ (with_bus p a (with_bus o b cs) ≡ with_bus o b (with_bus p a cs))
passes None p a b cs = inl refl
passes (Some k) None a b cs = inr refl
passes (Some k) (Some j) a b cs =
    ⊎_elim (λ (e : j ≡ k). inl (subst (λ (n : ℕ). with_bus (Some n) a (with_bus (Some k) b cs) ≡ with_bus (Some n) a cs) (sym e) (over k a b cs))) (λ (n : j ≢ k). inr (swap j k a b cs n)) (cases_eq j k)

again : (o : Option ℕ) (a b : ℤ) (cs : List Control) → with_bus o a (with_bus o b cs) ≡ with_bus o a cs
again None a b cs = refl
again (Some k) a b cs = over k a b cs

covered_bus : (m : Read) (ms : List Read) (d : Definition) (cs : List Control) → IsCovered same_control m ms
    → with_buses (map mapping_of ms) d (with_bus (control_of d (name_of m.control)) m.bus cs) ≡ with_buses (map mapping_of ms) d cs
covered_bus m [] d cs c = absurd c
covered_bus m (s ∷ ss) d cs (inl same) =
    ap (with_buses (map mapping_of ss) d)
    (subst (λ (o : Option ℕ). with_bus o s.bus (with_bus (control_of d (name_of m.control)) m.bus cs) ≡ with_bus o s.bus cs) (sym (ap (control_of d) same)) (again (control_of d (name_of m.control)) s.bus m.bus cs))
covered_bus m (s ∷ ss) d cs (inr c) =
    ⊎_elim
    (λ (e : with_bus (control_of d (name_of s.control)) s.bus (with_bus (control_of d (name_of m.control)) m.bus cs) ≡ with_bus (control_of d (name_of s.control)) s.bus cs). ap (with_buses (map mapping_of ss) d) e)
    (λ (e : with_bus (control_of d (name_of s.control)) s.bus (with_bus (control_of d (name_of m.control)) m.bus cs) ≡ with_bus (control_of d (name_of m.control)) m.bus (with_bus (control_of d (name_of s.control)) s.bus cs)).
    ap (with_buses (map mapping_of ss) d) e ∙ covered_bus m ss d (with_bus (control_of d (name_of s.control)) s.bus cs) c)
    (passes (control_of d (name_of m.control)) (control_of d (name_of s.control)) s.bus m.bus cs)

left_mapped : (ms left : List Read) → AreLeft same_control ms left → (d : Definition) (cs : List Control) → with_buses (map mapping_of left) d cs ≡ with_buses (map mapping_of ms) d cs
left_mapped [] left l d cs = ap (λ (all : List Read). with_buses (map mapping_of all) d cs) l
left_mapped (m ∷ ms) left (inl l) d cs =
    ap (λ (all : List Read). with_buses (map mapping_of all) d cs) l.1.0 ∙ left_mapped ms l.0 l.1.1 d (with_bus (control_of d (name_of m.control)) m.bus cs)
left_mapped (m ∷ ms) left (inr l) d cs = left_mapped ms left l.1 d cs ∙ sym (covered_bus m ms d cs l.0)

-- ---- the first bad one

abbrev pub is_bad : Read → Bool
is_bad m = not (is_followable m.bus)

pub not_bad : (b : Bool) → not b ≡ false → b ≡ true
not_bad true e = refl
not_bad false e = absurd cc

pub bad : (b : Bool) → not b ≡ true → b ≡ false
bad true e = absurd cc
bad false e = refl

followable_to : (ms : List Read) (i : ℕ) (d : Read) → ((k : ℕ) → k < i → is_bad (get_or ms k d) ≡ false) → AreFollowable (take i ms)
followable_to [] zero d h = tt
followable_to [] (suc i) d h = tt
followable_to (m ∷ ms) zero d h = tt
followable_to (m ∷ ms) (suc i) d h = (not_bad (is_followable m.bus) (h zero (omega arith)), followable_to ms i d (λ k l. h (suc k) (omega (arith, l))))

followable_all : (ms : List Read) → length ms ≤ position_or_len is_bad ms → AreFollowable ms
followable_all [] h = tt
followable_all (m ∷ ms) h = at (is_bad m) refl h (followable_all ms)
  where
    at : (b : Bool) → is_bad m ≡ b → suc (length ms) ≤ (if not b then 1 + position_or_len is_bad ms else 0) → (length ms ≤ position_or_len is_bad ms → AreFollowable ms) → AreFollowable (m ∷ ms)
    at true e l others = absurd (omega (arith, l))
    at false e l others = (not_bad (is_followable m.bus) e, others (omega (arith, l)))

pub none_bad : (ms : List Read) → position is_bad ms ≡ None → length ms ≤ position_or_len is_bad ms
none_bad ms none =
    ⊎_elim
    (λ (l : position_or_len is_bad ms < length ms). let c : true ≡ false = sym (lt-ltb (position_or_len is_bad ms) (length ms) l) ∙ off (nat_lt (position_or_len is_bad ms) (length ms)) none in cc)
    (λ (l : length ms ≤ position_or_len is_bad ms). l)
    (cases_lt (position_or_len is_bad ms) (length ms))
  where
    off : (b : Bool) → (if b then Some (position_or_len is_bad ms) else None) ≡ None → b ≡ false
    off true e = absurd cc
    off false e = refl

cut_at : (ms : List Read) (i : ℕ) (d : Read) → i < length ms → take i ms ++ get_or ms i d ∷ drop (suc i) ms ≡ ms
cut_at [] i d l = absurd (omega arith)
cut_at (m ∷ ms) zero d l = refl
cut_at (m ∷ ms) (suc i) d l = ap (λ (all : List Read). m ∷ all) (cut_at ms i d (omega arith))

-- none is bad
pub needed_all : (ms left : List Read) → None ≡ position is_bad ms → AreLeft same_control ms left → AreNeeded (map mapping_of ms) (map mapping_of left)
needed_all ms left none l =
    let f : AreFollowable ms = followable_all ms (none_bad ms (sym none)) in
    record {
      refused = λ t. ap (all_refuse t) (sym (append-nil left)) ∙ left_refused t ms left [] f l ∙ ap (all_refuse t) (append-nil ms);
      mapped = λ t h d cs. left_mapped ms left l d cs;
    }

-- one is bad
pub needed_to_bad : (ms left : List Read) (i : ℕ) (b : Read) → position is_bad ms ≡ Some i → b ≡ get_or ms i b → AreLeft same_control (take i ms) left → AreNeeded (map mapping_of ms) (map mapping_of (left ++ b ∷ []))
needed_to_bad ms left i b some is l =
    let p = position-Some is_bad ms i b some in
    let f : AreFollowable (take i ms) = followable_to ms i b (λ k w. p.2 k w) in
    let g : is_followable b.bus ≡ false = bad (is_followable b.bus) (ap is_bad is ∙ p.1) in
    let whole : take i ms ++ b ∷ drop (suc i) ms ≡ ms = ap (λ (x : Read). take i ms ++ x ∷ drop (suc i) ms) is ∙ cut_at ms i b p.0 in
    record {
      refused = λ t. left_refused t (take i ms) left (b ∷ []) f l ∙ bad_last t (take i ms) b (drop (suc i) ms) g ∙ ap (all_refuse t) whole;
      mapped = λ t h d cs. absurd (bad_refused t (take i ms) b (drop (suc i) ms) g (ap (all_refuse t) whole ∙ h));
    }

-- ---- the row

module _ (stage : Stage) (words : List ℕ) (replies : List ReplyShape) (id : ℤ) (ms left : List Mapping) (n : AreNeeded ms left) where
  abbrev all_of : ForNode Mapping
  all_of = record { id = id; all = ms }

  abbrev left_of : ForNode Mapping
  left_of = record { id = id; all = left }

  abbrev reached : Nodes Held
  reached = subtree id stage.tree.attached

  abbrev after : ForNode Mapping → Option Reason → Result Turn Reason
  after r o = unless o (Ok (record { world = record (world_of stage words) { nodes = reworked (in_synth (with_buses r.all)) id (world_of stage words).nodes }; replies = replies }))

  same_after : (o p : Option Reason) → first_refusal (refusal_in reached) ms ≡ p → after left_of (or_else o p) ≡ after all_of (or_else o p)
  same_after (Some x) p e = refl
  same_after None (Some x) e = refl
  same_after None None e = λ i. let o : Result Turn Reason = Ok (record { world = record (world_of stage words) { nodes = reworked (in_synth (λ d cs. n.mapped reached e d cs i)) id (world_of stage words).nodes }; replies = replies }) in o

  pub same_mapped : map_outcome (Some left_of) (turn_of stage words replies) ≡ map_outcome (Some all_of) (turn_of stage words replies)
  same_mapped =
      judged stage words replies left_of (judge_node (world_of stage words) id) (first_refusal (refusal_in reached) ms) refl (n.refused reached)
      ∙ same_after (judge_node (world_of stage words) id) (first_refusal (refusal_in reached) ms) refl
      ∙ sym (judged stage words replies all_of (judge_node (world_of stage words) id) (first_refusal (refusal_in reached) ms) refl refl)
