-- `/s_get`: controls that are asked for, their values, and how many bytes tell them.
use Rattle.std.proofs.Common.{Global, ◌≡◌, ◌≤◌, ◌<◌, ◌+◌, ◌*◌, ◌^◌, ◌&&◌, ℕ, zero, suc, ℤ, pos, negsuc, Bool, true, false, List, [], ◌∷◌, ◌++◌, length, map, get_or, nat_lt, Option, Some, None, is_some, Ok, Err, refl, ap, sym, subst, ◌∙◌, arith, append_assoc, length-append}
use Rattle.std.specs.Prelude.{if◌then◌else◌}
use Rattle.std.specs.List.{list_all, All}
use Rattle.std.specs.Option.{option_map}
use Rattle.std.specs.Ordering.{int_eq}
use Rattle.std.specs.Str.{bytes_eq}
use Rattle.std.proofs.Props.{props}
use Rattle.std.proofs.Math.Logic.{∥∥₁_elim}
use Rattle.std.proofs.lemmas.Bool.{ltb-true}
use Rattle.std.proofs.lemmas.List.{length-map}
use Rattle.std.proofs.lemmas.List.Elements.{All-get_or}
use Rattle.std.proofs.lemmas.List.Quantifiers.{position-Some}
use Rattle.std.proofs.lemmas.Slice.Eq.{bytes_eq-Decides}
use Rattle.std.specs.declared.sync.Arc.{Arc}
use Rattle.sn_osc.specs.Shape.{Argument, int, string, blob}
use Rattle.sn_osc.specs.Bytes.{argument_bytes, arguments_bytes, int_bytes}
use Rattle.sn_mem.specs.declared.extents.Extent.{Extent}
use Rattle.sn_mem.specs.declared.extents.Foot.{Foot}
use Rattle.sn_mem.specs.Buses.{ControlBus, control_buses}
use Rattle.sn_def.specs.declared.control.Control.{Control}
use Rattle.sn_def.specs.declared.definition.Def.{Def}
use Rattle.sn_def.specs.Definition.{Definition, Parameter, control_names}
use Rattle.sn_def.specs.Defs.{definition_of}
use Rattle.sn_def.specs.Reading.{IsWritten}
use Rattle.sn_def.specs.Grammar.{is_given_name, names_of}
use Rattle.sn_def.specs.Asked.{control_named}
use Rattle.sn_synth.specs.Synths.{control_value}
use Rattle.sn_synth.specs.Conditions.{MayFollow, no_control}
use Rattle.sn_reply.proofs.Sending.{first-of, second-of, length-arguments_bytes-least}
use Rattle.sn_reply.specs.declared.reason.Reason.TheVariants as Reasons
use Rattle.sn_reply.specs.declared.replies.To.TheVariants.{Client}
use Rattle.sn_reply.specs.Replies.{ReplyShape}
use Rattle.sn_tree.specs.Trees.{Label, Nodes, none, node, holds, label_of, with_payloads}
use Rattle.sn_tree.proofs.PayloadLaws.{relabelled, label-payloads}
use Rattle.sn_world.specs.declared.stage.Held.{Held}
use Rattle.sn_world.specs.declared.stage.Held.TheVariants as held
use Rattle.sn_world.specs.declared.stage.Stage.{Stage}
use Rattle.sn_world.specs.Nodes.{Content, content_of}
use Rattle.sn_world.specs.Pictures.{IsHeld, AreHeld}
use Rattle.sn_world.specs.World.{Turn, turn_of}
use Rattle.sn_world.specs.Rows.{another, singles, some_of}
use Rattle.sn_world.specs.Runs.{number as int_of}
use Rattle.sn_world.specs.NewSynth.{ControlName, numbered, named, control_name, name_argument, control_of}
use Rattle.sn_world.specs.ControlRuns.{ForNode, for_node, asked_of}
use Rattle.sn_world.specs.SynthQueries.{value_arguments, values_asked, values_message, payload_at, values_from, values_outcome}
use Rattle.sn_nodecmd.specs.Getting.{CanBeTold}
use Rattle.sn_nodecmd.proofs.NameLemmas.{NamesAreShort}

-- ---- the names of a definition's controls

all-left : (p : List ℕ → Bool) (xs ys : List (List ℕ)) → list_all p (xs ++ ys) ≡ true → list_all p xs ≡ true
all-left p [] ys h = refl
all-left p (x ∷ xs) ys h =
    let here : p x ≡ true = first-of (p x) (list_all p (xs ++ ys)) h in
    ap (λ b. b && list_all p xs) here ∙ all-left p xs ys (second-of (p x) (list_all p (xs ++ ys)) h)

a_test : (b : Bool) → IsProp (b ≡ true)
a_test b = hlevel props

pub controls_named_well : NamesAreShort → (d : Definition) → ∥ IsWritten d ∥₁ → list_all is_given_name (control_names d) ≡ true
controls_named_well short d w =
    ∥∥₁_elim w (a_test (list_all is_given_name (control_names d))) (λ t. all-left is_given_name (control_names d) d.wires (second-of (is_given_name d.name) (list_all is_given_name (names_of d)) (short d t)))

name-at : (cs : List Parameter) (k : ℕ) (c : Parameter) → k < length cs → list_all is_given_name (map (λ (p : Parameter). p.name) cs) ≡ true → is_given_name (get_or cs k c).name ≡ true
name-at [] k c lt h = absurd (omega arith)
name-at (p ∷ ps) zero c lt h = first-of (is_given_name p.name) (list_all is_given_name (map (λ (q : Parameter). q.name) ps)) h
name-at (p ∷ ps) (suc k) c lt h = name-at ps k c (omega arith) (second-of (is_given_name p.name) (list_all is_given_name (map (λ (q : Parameter). q.name) ps)) h)

no_parameter : Parameter
no_parameter = record { name = []; default = pos 0 }

found-name : (d : Definition) (name : List ℕ) (o : Option ℕ) → control_named d name ≡ o → is_some o ≡ true → list_all is_given_name (control_names d) ≡ true → is_given_name name ≡ true
found-name d name None e h all = absurd cc
found-name d name (Some k) e h all =
    let found = position-Some (λ (c : Parameter). bytes_eq c.name name) d.controls k no_parameter e in
    let same : (get_or d.controls k no_parameter).name ≡ name = (bytes_eq-Decides (get_or d.controls k no_parameter).name name).0 found.1 in
    ap is_given_name (sym same) ∙ name-at d.controls k no_parameter found.0 all

pub known-name : (d : Definition) (name : List ℕ) → is_some (control_named d name) ≡ true → list_all is_given_name (control_names d) ≡ true → is_given_name name ≡ true
known-name d name h all = found-name d name (control_named d name) refl h all

-- ---- the number of a control

numbered-within : (b : Bool) (n k m : ℕ) → (b ≡ true → n < m) → (if b then Some n else None) ≡ Some k → k < m
numbered-within true n k m lt e = let same : n ≡ k = ap (λ (o : Option ℕ). number o) e in omega (arith, lt refl)
  where
    number : Option ℕ → ℕ
    number None = 0
    number (Some x) = x
numbered-within false n k m lt e = absurd cc

pub within : (d : Definition) (c : ControlName) (k : ℕ) → control_of d c ≡ Some k → k < length d.controls
within d (numbered (pos n)) k e = numbered-within (nat_lt n (length d.controls)) n k (length d.controls) (ltb-true n (length d.controls)) e
within d (numbered (negsuc n)) k e = absurd cc
within d (named name) k e = (position-Some (λ (c : Parameter). bytes_eq c.name name) d.controls k no_parameter e).0

-- the control with a number may be read if all may be read
single : (f : Foot) (cs : List Control) (k : ℕ) → k < length cs → MayFollow f cs → MayFollow f (get_or cs k no_control ∷ [])
single f cs k lt all zero e one = all k no_control lt
single f cs k lt all (suc j) e one = absurd (omega arith)

pub may-read : (f : Foot) (cs : List Control) (k : ℕ) (c : Control) → k < length cs → MayFollow f cs → c ≡ get_or cs k no_control → MayFollow f (c ∷ [])
may-read f cs k c lt all e = subst (λ (x : Control). MayFollow f (x ∷ [])) (sym e) (single f cs k lt all)

-- what holds of each control holds of the one with a number
pub at-number : (P : Control → Type 0) (cs : List Control) (k : ℕ) (c : Control) → k < length cs → All P cs → c ≡ get_or cs k no_control → P c
at-number P cs k c lt all e = subst P (sym e) (All-get_or P cs k no_control lt all)

-- ---- how many bytes tell them

name_back : (x : Argument) (c : ControlName) → control_name x ≡ Some c → name_argument c ≡ x
name_back (int k) c e = ap told (sym e)
  where
    told : Option ControlName → Argument
    told None = int k
    told (Some n) = name_argument n
name_back (string s) c e = ap told (sym e)
  where
    told : Option ControlName → Argument
    told None = string s
    told (Some n) = name_argument n
name_back (blob b) c e = absurd cc

more_back : (x : Argument) (xs : List Argument) (o : Option ControlName) (p : Option (List ControlName)) (cs : List ControlName) → control_name x ≡ o → singles control_name xs ≡ p
    → ((ds : List ControlName) → singles control_name xs ≡ Some ds → map name_argument ds ≡ xs) → another o p ≡ Some cs → map name_argument cs ≡ x ∷ xs
more_back x xs None p cs e f back h = absurd cc
more_back x xs (Some c) None cs e f back h = absurd cc
more_back x xs (Some c) (Some ds) cs e f back h =
    sym (ap told h) ∙ (λ i. name_back x c e i ∷ back ds f i)
  where
    told : Option (List ControlName) → List Argument
    told None = []
    told (Some bs) = map name_argument bs

names_back : (xs : List Argument) (cs : List ControlName) → singles control_name xs ≡ Some cs → map name_argument cs ≡ xs
names_back [] cs h = sym (ap told h)
  where
    told : Option (List ControlName) → List Argument
    told None = []
    told (Some bs) = map name_argument bs
names_back (x ∷ xs) cs h = more_back x xs (control_name x) (singles control_name xs) cs refl refl (λ ds e. names_back xs ds e) h

told-for : (i : Option ℤ) (o : Option (List ControlName)) (xs : List Argument) (r : ForNode ControlName) → ((cs : List ControlName) → o ≡ Some cs → map name_argument cs ≡ xs) → for_node i (some_of o) ≡ Some r → map name_argument r.all ≡ xs
told-for None o xs r back h = absurd cc
told-for (Some id) None xs r back h = absurd cc
told-for (Some id) (Some []) xs r back h = absurd cc
told-for (Some id) (Some (c ∷ cs)) xs r back h = sym (ap told h) ∙ back (c ∷ cs) refl
  where
    told : Option (ForNode ControlName) → List Argument
    told None = []
    told (Some q) = map name_argument q.all

pub can_be_told : (xs : List Argument) (r : ForNode ControlName) → asked_of (singles control_name) xs ≡ Some r → 4 * length (arguments_bytes xs) + 2 ^ 20 < 2 ^ 31 → CanBeTold r.all
can_be_told [] r h few = absurd cc
can_be_told (x ∷ xs) r h few =
    let back : map name_argument r.all ≡ xs = told-for (int_of x) (singles control_name xs) xs r (names_back xs) h in
    let bytes : length (arguments_bytes (map name_argument r.all)) ≡ length (arguments_bytes xs) = ap (λ ys. length (arguments_bytes ys)) back in
    let count : length r.all ≡ length xs = sym (length-map r.all name_argument) ∙ ap length back in
    omega (arith, length-append (argument_bytes x) (arguments_bytes xs), length-arguments_bytes-least xs)

module _ (buses : List ControlBus) (d : Definition) (controls : List Control) where
  arguments-append : (xs ys : List Argument) → arguments_bytes (xs ++ ys) ≡ arguments_bytes xs ++ arguments_bytes ys
  arguments-append [] ys = refl
  arguments-append (x ∷ xs) ys = ap (λ bs. argument_bytes x ++ bs) (arguments-append xs ys) ∙ sym (append_assoc (argument_bytes x) (arguments_bytes xs) (arguments_bytes ys))

  size : List Argument → ℕ
  size xs = length (arguments_bytes xs) + length xs

  size-append : (xs ys : List Argument) → size (xs ++ ys) ≡ size xs + size ys
  unfolding size
  size-append xs ys = omega (arith, ap length (arguments-append xs ys), length-append (arguments_bytes xs) (arguments_bytes ys), length-append xs ys)

  size-one : (c : ControlName) (o : Option ℕ) → size (value_arguments buses controls c o) ≤ length (argument_bytes (name_argument c)) + 6
  unfolding size
  size-one c None = omega arith
  size-one c (Some k) =
      let value : ℤ = control_value buses (get_or controls k no_control) in
      omega (arith, length-append (argument_bytes (name_argument c)) (int_bytes value ++ []), length-append (int_bytes value) [])

  size-values : (cs : List ControlName) → size (values_asked buses d controls cs) ≤ length (arguments_bytes (map name_argument cs)) + 6 * length cs
  unfolding size
  size-values [] = omega arith
  size-values (c ∷ cs) =
      omega (arith, size-append (value_arguments buses controls c (control_of d c)) (values_asked buses d controls cs), size-one c (control_of d c), size-values cs, length-append (argument_bytes (name_argument c)) (arguments_bytes (map name_argument cs)))

  pub few-told : (a b c : List Argument) (x : Argument) (cs : List ControlName) → a ≡ [] → b ≡ a ++ x ∷ [] → c ≡ b ++ values_asked buses d controls cs → length (argument_bytes x) ≤ 64 → CanBeTold cs
      → length (arguments_bytes c) + length c + 256 < 2 ^ 31
  unfolding size
  few-told a b c x cs e f g short few =
      let whole : size c ≡ size (b ++ values_asked buses d controls cs) = ap size g in
      let front : size b ≡ size (a ++ x ∷ []) = ap size f in
      let nothing : size a ≡ 0 = ap size e in
      omega (arith, size-append b (values_asked buses d controls cs), size-append a (x ∷ []), size-values cs, length-append (argument_bytes x) [])

-- ---- what a node holds

abbrev pub NoSynth : Held → Type 0
NoSynth h = (def : Arc Def Global) (controls : List Control) (state : Extent) → h ≡ held.Synth def controls state → ⊥

-- a synth of this definition, with these controls
abbrev pub IsSynthWith : Definition → List Control → Held → Type 0
IsSynthWith d controls held.Group = ⊥
IsSynthWith d controls (held.Synth def cs state) = (definition_of def.value ≡ d) × (cs ≡ controls)

held-by : (rate : ℕ) (region : Extent) (a b : Bool) (l m : Label Held) (o p : Option (Label Held)) → IsHeld rate region l.payload → (o ≡ Some m → IsHeld rate region m.payload) → (p ≡ Some m → IsHeld rate region m.payload)
    → (if a then Some l else if b then o else p) ≡ Some m → IsHeld rate region m.payload
held-by rate region true b l m o p here inner later e = subst (λ (x : Option (Label Held)). Is x) e here
  where
    Is : Option (Label Held) → Type 0
    Is None = Unit {0}
    Is (Some x) = IsHeld rate region x.payload
held-by rate region false true l m o p here inner later e = inner e
held-by rate region false false l m o p here inner later e = later e

label-held : (rate : ℕ) (region : Extent) (id : ℤ) (t : Nodes Held) (m : Label Held) → AreHeld rate region t → label_of id t ≡ Some m → IsHeld rate region m.payload
label-held rate region id none m are e = absurd cc
label-held rate region id (node l below after) m are e =
    held-by rate region (int_eq l.id id) (holds id below) l m (label_of id below) (label_of id after) are.0 (label-held rate region id below m are.1.0) (label-held rate region id after m are.1.1) e

payload-by : (rate : ℕ) (region : Extent) (o : Option (Label Held)) (h : Held) → ((m : Label Held) → o ≡ Some m → IsHeld rate region m.payload) → Some h ≡ option_map (λ (l : Label Held). l.payload) o → IsHeld rate region h
payload-by rate region None h is e = absurd cc
payload-by rate region (Some l) h is e = subst (λ (x : Option Held). Is x) (sym e) (is l refl)
  where
    Is : Option Held → Type 0
    Is None = Unit {0}
    Is (Some x) = IsHeld rate region x

pub payload-held : (rate : ℕ) (region : Extent) (id : ℤ) (t : Nodes Held) (h : Held) → AreHeld rate region t → Some h ≡ payload_at id t → IsHeld rate region h
payload-held rate region id t h are e = payload-by rate region (label_of id t) h (λ m. label-held rate region id t m are) e

content-by : (words : List ℕ) (o : Option (Label Held)) → option_map (λ (l : Label Content). l.payload) (option_map (relabelled (content_of words)) o) ≡ option_map (content_of words) (option_map (λ (l : Label Held). l.payload) o)
content-by words None = refl
content-by words (Some l) = refl

payload-seen : (words : List ℕ) (id : ℤ) (t : Nodes Held) → payload_at id (with_payloads (content_of words) t) ≡ option_map (content_of words) (payload_at id t)
payload-seen words id t = ap (option_map (λ (l : Label Content). l.payload)) (label-payloads (content_of words) id t) ∙ content-by words (label_of id t)

-- ---- the row

module _ (from : ℕ) (stage : Stage) (words : List ℕ) (replies : List ReplyShape) (r : ForNode ControlName) where
  abbrev turn : Turn
  turn = turn_of stage words replies

  outcome-is : (o : Option Held) → o ≡ payload_at r.id stage.tree.attached → values_outcome from (Some r) turn ≡ values_from from r (option_map (content_of words) o) turn
  outcome-is o e = ap (λ p. values_from from r p turn) (payload-seen words r.id stage.tree.attached ∙ ap (option_map (content_of words)) (sym e))

  pub not_there : None ≡ payload_at r.id stage.tree.attached → values_outcome from (Some r) turn ≡ Err Reasons.NoSuchNode
  not_there e = outcome-is None e

  by_kind : (h : Held) → NoSynth h → values_from from r (Some (content_of words h)) turn ≡ Err Reasons.NotSynth
  by_kind held.Group other = refl
  by_kind (held.Synth def controls state) other = absurd (other def controls state refl)

  pub no_synth : (h : Held) → Some h ≡ payload_at r.id stage.tree.attached → NoSynth h → values_outcome from (Some r) turn ≡ Err Reasons.NotSynth
  no_synth h e other = outcome-is (Some h) e ∙ by_kind h other

  pub told : (h : Held) (d : Definition) (controls : List Control) (after : List ReplyShape) (words' : List ℕ) → Some h ≡ payload_at r.id stage.tree.attached → IsSynthWith d controls h
      → after ≡ replies ++ (record { to = Client from; message = values_message (control_buses words) r.id d controls r.all }) ∷ [] → words' ≡ words
      → values_outcome from (Some r) turn ≡ Ok (turn_of stage words' after)
  told h d controls after words' e is said same = outcome-is (Some h) e ∙ by_parts h is ∙ (λ i. Ok (turn_of stage (sym same i) (sym said i)))
    where
      by_parts : (h : Held) → IsSynthWith d controls h → values_from from r (Some (content_of words h)) turn ≡ Ok (turn_of stage words (replies ++ (record { to = Client from; message = values_message (control_buses words) r.id d controls r.all }) ∷ []))
      by_parts held.Group is = absurd is
      by_parts (held.Synth def cs state) is = λ i. Ok (turn_of stage words (replies ++ (record { to = Client from; message = values_message (control_buses words) r.id (is.0 i) (is.1 i) r.all }) ∷ []))
