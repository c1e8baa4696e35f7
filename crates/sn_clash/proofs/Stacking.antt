-- What a pass over nodes finds.
use Rattle.std.proofs.Common.{◌≡◌, ◌<◌, ℕ, ◌+◌, ◌-◌, ℤ, Bool, true, false, ◌&&◌, ◌||◌, List, [], ◌∷◌, ◌++◌, sym, refl, ap, ◌∙◌, arith, length, take, drop, map, reverse, append_assoc, length-append, if◌then◌else◌}
use Rattle.std.specs.Prelude.{slice_index_or}
use Rattle.std.specs.List.{list_any}
use Rattle.std.proofs.lemmas.Bool.{cond-false, or_parts}
use Rattle.std.proofs.Math.Bool.{and-false, and-or_distrib_left, or_assoc}
use Rattle.std.proofs.Math.Seq.{drop-append_seam}
use Rattle.std.proofs.lemmas.List.{append-nil, map-append, reverse-append, reverse-reverse, length-reverse, length-map, take-map, drop-map, take_more}
use Rattle.std.proofs.lemmas.List.Folds.{list_any-append}
use Rattle.sn_tree.specs.Order.{take_seam}
use Rattle.sn_tree.specs.declared.node.NodeKind.{NodeKind}
use Rattle.sn_tree.specs.Trees.{Label, Nodes, none, node, running_labels}
use Rattle.sn_tree.specs.Members.{tops, members as rows}
use Rattle.sn_tree.specs.declared.members.Member.{Member as Row}
use Rattle.sn_world.specs.declared.stage.Held.{Held}
use Rattle.sn_foot.specs.declared.resource.Resource.{Resource}
use Rattle.sn_foot.specs.declared.uses.Role.{Role}
use Rattle.sn_foot.specs.declared.uses.Role.TheVariants.{Read, Write, Mix}
use Rattle.sn_foot.specs.Footprints.{Footprint}
use Rattle.sn_clash.specs.declared.clash.Clash.{Clash}
use Rattle.sn_clash.specs.declared.subtree.Subtree.{Subtree}
use Rattle.std.specs.Global.{Vec}
use Rattle.sn_foot.specs.declared.uses.Use.{Use}
use Rattle.sn_clash.specs.Clashing.{Member, clashes, clashes_among, footprint, is_parallel, members}
use Rattle.sn_foot.specs.Uses.{footprint_in, held_uses}
use Rattle.sn_clash.specs.Passing.{Passed, Slot, base_of, either, found_at, gathered, members_of, no_use, nothing, pass, pass_one, passed_of, slot_members, slot_of, used_by, uses_at}
use Rattle.sn_clash.specs.Rows.{row_of}

-- ---- a pass

pub pass_append : (there : Resource → Bool) (xs ys : List (Label Held × ℕ)) (s : Passed) → pass there (xs ++ ys) s ≡ pass there xs (pass there ys s)
pass_append there [] ys s = refl
pass_append there (x ∷ xs) ys s = ap (λ t. pass_one there x t) (pass_append there xs ys s)

pub pass_next : (there : Resource → Bool) (ms : List (Row Held)) (n m : ℕ) (x : Row Held) (old new : Passed) → n ≡ m + 1 → m < length ms → x ≡ slice_index_or ms m x →
    new ≡ pass_one there (row_of x) old →
    pass there (map row_of (take m ms)) new ≡ pass there (map row_of (take n ms)) old
pass_next there ms n m x old new is lt at e =
    ap (λ s. pass there (map row_of (take m ms)) s) e
    ∙ sym (ap (λ rs. pass there rs old) (ap (λ k. map row_of (take k ms)) is ∙ ap (λ xs. map row_of xs) (take_more ms m x lt) ∙ map-append row_of (take m ms) (slice_index_or ms m x ∷ [])
    ∙ ap (λ y. map row_of (take m ms) ++ row_of y ∷ []) (sym at))
    ∙ pass_append there (map row_of (take m ms)) (row_of x ∷ []) old)

module _ (there : Resource → Bool) where
  abbrev slot : Label Held → List Slot → ℕ → Slot
  slot label kids base = record { member = record { id = label.id; uses = uses_at there label (slot_members kids) }; base = base }

  abbrev built : Label Held → List Slot → List Slot → ℕ → List Clash → Passed
  built label left kids base found = record { slots = left ++ slot label kids base ∷ []; found = found_at there label (slot_members kids) base found }

  step_at : (label : Label Held) (ss : List Slot) (found : List Clash) (n : ℕ) (left kids : List Slot) (base : ℕ) → take n ss ≡ left → drop n ss ≡ kids → base_of kids (length found) ≡ base →
      built label (take n ss) (drop n ss) (base_of (drop n ss) (length found)) found ≡ built label left kids base found
  step_at label ss found n left kids base a b e =
      ap (λ ls. built label ls (drop n ss) (base_of (drop n ss) (length found)) found) a
      ∙ ap (λ ks. built label left ks (base_of ks (length found)) found) b
      ∙ ap (λ k. built label left kids k found) e

  step : (label : Label Held) (left kids : List Slot) (old more : List Clash) (k : ℕ) → length kids ≡ k → base_of kids (length (old ++ more)) ≡ length old →
      pass_one there (label, k) (record { slots = left ++ kids; found = old ++ more }) ≡ built label left kids (length old) (old ++ more)
  step label left kids old more k size base =
      let here : length (left ++ kids) - k ≡ length left = omega (arith, length-append left kids) in
      step_at label (left ++ kids) (old ++ more) (length (left ++ kids) - k) left kids (length old)
      (ap (λ n. take n (left ++ kids)) here ∙ take_seam left kids)
      (ap (λ n. drop n (left ++ kids)) here ∙ drop-append_seam left kids)
      base

-- ---- a node is passed

map_twice : {A B C : Type 0} (f : A → B) (g : B → C) (xs : List A) → map g (map f xs) ≡ map (λ x. g (f x)) xs
map_twice f g [] = refl
map_twice f g (x ∷ xs) = ap (λ ys. g (f x) ∷ ys) (map_twice f g xs)

pub one_passed : (there : Resource → Bool) (label : Label Held) (k : ℕ) (old es new : List Subtree) (found more : List Clash) (kept base size : ℕ) (uses : Vec Use) →
    es ≡ drop kept old → kept ≡ length old - k → size ≡ length found → base ≡ base_of (map (slot_of there) es) size →
    footprint_in there uses.items ≡ uses_at there label (members_of there es) →
    more ≡ found_at there label (members_of there es) base found →
    new ≡ take kept old ++ (record { id = label.id; uses = uses; base = base }) ∷ [] →
    passed_of there new more ≡ pass_one there (label, k) (passed_of there old found)
one_passed there label k old es new found more kept base size uses same kept_is size_is base_is uses_is more_is new_is =
    let e : Subtree = record { id = label.id; uses = uses; base = base } in
    let ss : List Slot = map (slot_of there) old in
    let left : List Slot = map (slot_of there) (take kept old) in
    let kids : List Slot = map (slot_of there) (drop kept old) in
    let cut : length ss - k ≡ kept = omega (arith, length-map old (slot_of there)) in
    let shown : slot_members kids ≡ members_of there es =
    ap (λ xs. reverse xs) (map_twice (slot_of there) (λ (s : Slot). s.member) (drop kept old)) ∙ ap (λ xs. members_of there xs) (sym same) in
    let based : base_of kids (length found) ≡ base = sym (base_is ∙ ap (λ xs. base_of (map (slot_of there) xs) size) same ∙ ap (λ n. base_of kids n) size_is) in
    sym (step_at there label ss found (length ss - k) left kids base
    (ap (λ n. take n ss) cut ∙ take-map (slot_of there) kept old)
    (ap (λ n. drop n ss) cut ∙ drop-map (slot_of there) kept old)
    based
    ∙ (λ i. record {
      slots = (ap (λ ms. left ++ (record { member = record { id = label.id; uses = uses_at there label ms }; base = base }) ∷ []) shown
          ∙ ap (λ (f : Footprint). left ++ (record { member = record { id = label.id; uses = f }; base = base }) ∷ []) (sym uses_is)
          ∙ sym (map-append (slot_of there) (take kept old) (e ∷ []))
          ∙ ap (λ xs. map (slot_of there) xs) (sym new_is)) i;
      found = (ap (λ ms. found_at there label ms base found) shown ∙ sym more_is) i;
    }))

-- ---- what nodes use

abbrev used : (Held → Resource → Bool) → List (Label Held) → Resource → Bool
used test labels r = list_any (λ (l : Label Held). test l.payload r) labels

either_labels : (running : Bool) (label : Label Held) (bs cs : List (Label Held)) (test : Held → Resource → Bool) (r : Resource) →
    used test (if running then label ∷ (bs ++ cs) else cs) r ≡ (used test (if running then label ∷ (bs ++ []) else []) r || used test cs r)
either_labels true label bs cs test r =
    ap (λ b. test label.payload r || b) (list_any-append (λ (l : Label Held). test l.payload r) bs cs)
    ∙ sym (or_assoc (test label.payload r) (used test bs r) (used test cs r))
    ∙ ap (λ b. (test label.payload r || b) || used test cs r) (sym (ap (λ (ls : List (Label Held)). used test ls r) (append-nil bs)))
either_labels false label bs cs test r = refl

no_more : (f t : Bool) → f ≡ (f || (t && false))
no_more true t = refl
no_more false true = refl
no_more false false = refl

gather_bool : (f t m a : Bool) → ((f || (t && a)) || (t && m)) ≡ (f || (t && (m || a)))
gather_bool true t m a = refl
gather_bool false false m a = refl
gather_bool false true true true = refl
gather_bool false true true false = refl
gather_bool false true false true = refl
gather_bool false true false false = refl

module _ (there : Resource → Bool) where
  abbrev nodes_use : List (Label Held) → Footprint
  nodes_use labels = footprint there held_uses labels

  abbrev tops_of : Nodes Held → List Member
  tops_of t = members there held_uses t

  more_reads : (f : Footprint) (label : Label Held) (below after : Nodes Held) (r : Resource) →
      ((f.reads r || (nodes_use (running_labels after)).reads r) || (nodes_use (running_labels (node label below none))).reads r) ≡ (f.reads r || (nodes_use (running_labels (node label below after))).reads r)
  more_reads f label below after r =
      gather_bool (f.reads r) (there r) (used (held_uses Read) (running_labels (node label below none)) r) (used (held_uses Read) (running_labels after) r)
      ∙ ap (λ b. f.reads r || (there r && b)) (sym (either_labels label.running label (running_labels below) (running_labels after) (held_uses Read) r))

  more_writes : (f : Footprint) (label : Label Held) (below after : Nodes Held) (r : Resource) →
      ((f.writes r || (nodes_use (running_labels after)).writes r) || (nodes_use (running_labels (node label below none))).writes r) ≡ (f.writes r || (nodes_use (running_labels (node label below after))).writes r)
  more_writes f label below after r =
      gather_bool (f.writes r) (there r) (used (held_uses Write) (running_labels (node label below none)) r) (used (held_uses Write) (running_labels after) r)
      ∙ ap (λ b. f.writes r || (there r && b)) (sym (either_labels label.running label (running_labels below) (running_labels after) (held_uses Write) r))

  more_mixes : (f : Footprint) (label : Label Held) (below after : Nodes Held) (r : Resource) →
      ((f.mixes r || (nodes_use (running_labels after)).mixes r) || (nodes_use (running_labels (node label below none))).mixes r) ≡ (f.mixes r || (nodes_use (running_labels (node label below after))).mixes r)
  more_mixes f label below after r =
      gather_bool (f.mixes r) (there r) (used (held_uses Mix) (running_labels (node label below none)) r) (used (held_uses Mix) (running_labels after) r)
      ∙ ap (λ b. f.mixes r || (there r && b)) (sym (either_labels label.running label (running_labels below) (running_labels after) (held_uses Mix) r))

  gathered_all : (f : Footprint) (t : Nodes Held) → gathered f (tops_of t) ≡ either f (nodes_use (running_labels t))
  gathered_all f none = λ i. record { reads = λ r. no_more (f.reads r) (there r) i; writes = λ r. no_more (f.writes r) (there r) i; mixes = λ r. no_more (f.mixes r) (there r) i }
  gathered_all f (node label below after) =
      ap (λ (g : Footprint). either g (nodes_use (running_labels (node label below none)))) (gathered_all f after)
      ∙ (λ i. record { reads = λ r. more_reads f label below after r i; writes = λ r. more_writes f label below after r i; mixes = λ r. more_mixes f label below after r i })

  own_too : (role : Role) (label : Label Held) (below : Nodes Held) (r : Resource) →
      ((there r && held_uses role label.payload r) || (there r && used (held_uses role) (running_labels below) r)) ≡ (there r && (held_uses role label.payload r || used (held_uses role) (running_labels below ++ []) r))
  own_too role label below r =
      sym (and-or_distrib_left (there r) (held_uses role label.payload r) (used (held_uses role) (running_labels below) r))
      ∙ ap (λ (ls : List (Label Held)). there r && (held_uses role label.payload r || used (held_uses role) ls r)) (sym (append-nil (running_labels below)))

  uses_top : (running : Bool) (label : Label Held) (below : Nodes Held) →
      (if running then gathered (used_by there label.payload) (tops_of below) else no_use) ≡ nodes_use (if running then label ∷ (running_labels below ++ []) else [])
  uses_top true label below =
      gathered_all (used_by there label.payload) below
      ∙ (λ i. record {
        reads = λ r. own_too Read label below r i;
        writes = λ r. own_too Write label below r i;
        mixes = λ r. own_too Mix label below r i;
      })
  uses_top false label below = λ i. record { reads = λ r. sym (and-false (there r)) i; writes = λ r. sym (and-false (there r)) i; mixes = λ r. sym (and-false (there r)) i }

  -- ---- the slots of nodes

  abbrev found_in : Nodes Held → List Clash
  found_in t = clashes there held_uses t

  abbrev top : Label Held → Nodes Held → Member
  top label below = record { id = label.id; uses = nodes_use (running_labels (node label below none)) }

  abbrev slots : ℕ → Nodes Held → List Slot
  slots base none = []
  slots base (node label below after) = slots base after ++ (record { member = top label below; base = base + length (found_in after) }) ∷ []

  length-slots : (base : ℕ) (t : Nodes Held) → length (slots base t) ≡ tops t
  length-slots base none = refl
  length-slots base (node label below after) =
      length-append (slots base after) ((record { member = top label below; base = base + length (found_in after) }) ∷ []) ∙ (let e = length-slots base after in omega arith)

  members-slots : (base : ℕ) (t : Nodes Held) → slot_members (slots base t) ≡ tops_of t
  members-slots base none = refl
  members-slots base (node label below after) =
      let s : Slot = record { member = top label below; base = base + length (found_in after) } in
      ap (λ xs. reverse xs) (map-append (λ (x : Slot). x.member) (slots base after) (s ∷ []))
      ∙ reverse-append (map (λ (x : Slot). x.member) (slots base after)) (s.member ∷ [])
      ∙ ap (λ ms. top label below ∷ ms) (members-slots base after)

  base-append : (xs : List Slot) (s : Slot) (d : ℕ) → base_of (xs ++ s ∷ []) d ≡ base_of xs s.base
  base-append [] s d = refl
  base-append (x ∷ xs) s d = refl

  base-slots : (base : ℕ) (t : Nodes Held) → base_of (slots base t) (base + length (found_in t)) ≡ base
  base-slots base none = let e : base + 0 ≡ base = omega arith in e
  base-slots base (node label below after) =
      base-append (slots base after) (record { member = top label below; base = base + length (found_in after) }) (base + length (found_in (node label below after))) ∙ base-slots base after

  -- ---- all nodes

  abbrev own : NodeKind → ℤ → Nodes Held → List Clash
  own kind id below = if is_parallel kind then take 1 (clashes_among id (tops_of below)) else []

  one_reversed : (b : Bool) (xs : List Clash) → reverse (if b then take 1 xs else []) ≡ (if b then take 1 xs else [])
  one_reversed true [] = refl
  one_reversed true (x ∷ xs) = refl
  one_reversed false xs = refl

  found_more : (running : Bool) (old one below after : List Clash) → reverse one ≡ one →
      (if running then ((old ++ reverse after) ++ reverse below) ++ one else take (length (old ++ reverse after)) ((old ++ reverse after) ++ reverse below))
      ≡ old ++ reverse (if running then one ++ (below ++ after) else after)
  found_more true old one below after same =
      ap (λ xs. xs ++ one) (append_assoc old (reverse after) (reverse below))
      ∙ append_assoc old (reverse after ++ reverse below) one
      ∙ ap (λ xs. old ++ xs) (ap (λ xs. xs ++ one) (sym (reverse-append below after)) ∙ ap (λ xs. reverse (below ++ after) ++ xs) (sym same) ∙ sym (reverse-append one (below ++ after)))
  found_more false old one below after same = take_seam (old ++ reverse after) (reverse below)

  abbrev passed : Nodes Held → Passed → Passed
  passed t s = record { slots = s.slots ++ slots (length s.found) t; found = s.found ++ reverse (found_in t) }

  long_found : (old more : List Clash) → length (old ++ reverse more) ≡ length old + length more
  long_found old more = length-append old (reverse more) ∙ ap (λ n. length old + n) (length-reverse more)

  abbrev slot_at : Label Held → Footprint → ℕ → Slot
  slot_at label f base = record { member = record { id = label.id; uses = f }; base = base }

  abbrev place : Label Held → List Slot → List Member → ℕ → List Clash → Passed
  place label left ms base found = record { slots = left ++ slot_at label (uses_at there label ms) base ∷ []; found = found_at there label ms base found }

  passed_node : (label : Label Held) (below after : Nodes Held) (s : Passed) → pass_one there (label, tops below) (passed below (passed after s)) ≡ passed (node label below after) s
  passed_node label below after s =
      let old : List Clash = s.found ++ reverse (found_in after) in
      let n : ℕ = length old in
      let kids : List Slot = slots n below in
      let same : slot_members kids ≡ tops_of below = members-slots n below in
      let base : base_of kids (length (old ++ reverse (found_in below))) ≡ n = ap (λ k. base_of kids k) (long_found old (found_in below)) ∙ base-slots n below in
      step there label (s.slots ++ slots (length s.found) after) kids old (reverse (found_in below)) (tops below) (length-slots n below) base
      ∙ ap (λ ms. place label (s.slots ++ slots (length s.found) after) ms n (old ++ reverse (found_in below))) same
      ∙ (λ i. record {
        slots = (append_assoc s.slots (slots (length s.found) after) (slot_at label (uses_at there label (tops_of below)) n ∷ [])
            ∙ ap (λ (f : Footprint). s.slots ++ (slots (length s.found) after ++ slot_at label f n ∷ [])) (uses_top label.running label below)
            ∙ ap (λ k. s.slots ++ (slots (length s.found) after ++ slot_at label (nodes_use (running_labels (node label below none))) k ∷ [])) (long_found s.found (found_in after))) i;
        found = found_more label.running s.found (own label.kind label.id below) (found_in below) (found_in after) (one_reversed (is_parallel label.kind) (clashes_among label.id (tops_of below))) i;
      })

  pub all_passed : (t : Nodes Held) (s : Passed) → pass there (rows t) s ≡ passed t s
  all_passed none s = λ i. record { slots = sym (append-nil s.slots) i; found = sym (append-nil s.found) i }
  all_passed (node label below after) s =
      ap (λ p. pass_one there (label, tops below) p) (pass_append there (rows below) (rows after) s ∙ ap (λ p. pass there (rows below) p) (all_passed after s) ∙ all_passed below (passed after s))
      ∙ passed_node label below after s

  pub group_passed : (t : Nodes Held) → reverse (pass there (rows t) nothing).found ≡ found_in t
  group_passed t = ap (λ (p : Passed). reverse p.found) (all_passed t nothing) ∙ reverse-reverse (found_in t)

-- ---- without a parallel group

abbrev parallel : Label Held → Bool
parallel l = is_parallel l.kind

none_of : (running : Bool) (label : Label Held) (bs cs : List (Label Held)) (mine below after : List Clash) → (parallel label ≡ false → mine ≡ []) → (list_any parallel bs ≡ false → below ≡ []) → (list_any parallel cs ≡ false → after ≡ []) →
    list_any parallel (if running then label ∷ (bs ++ cs) else cs) ≡ false → (if running then mine ++ (below ++ after) else after) ≡ []
none_of true label bs cs mine below after f g h quiet =
    let here = or_parts (parallel label) (list_any parallel (bs ++ cs)) quiet in
    let rest = or_parts (list_any parallel bs) (list_any parallel cs) (sym (list_any-append parallel bs cs) ∙ here.1) in
    λ i. f here.0 i ++ (g rest.0 i ++ h rest.1 i)
none_of false label bs cs mine below after f g h quiet = h quiet

module _ (there : Resource → Bool) where
  no_parallel : (t : Nodes Held) → list_any parallel (running_labels t) ≡ false → clashes there held_uses t ≡ []
  no_parallel none quiet = refl
  no_parallel (node label below after) quiet =
      let first : List Clash = take 1 (clashes_among label.id (members there held_uses below)) in
      none_of label.running label (running_labels below) (running_labels after) (if parallel label then first else []) (clashes there held_uses below) (clashes there held_uses after)
      (λ is. cond-false (parallel label) first [] is) (no_parallel below) (no_parallel after) quiet

  pub no_clashes : (t : Nodes Held) → list_any (λ l. is_parallel l.kind) (running_labels t) ≡ false → [] ≡ clashes there held_uses t
  no_clashes t quiet = sym (no_parallel t quiet)
