-- The clashes of nodes name the parallel groups of which two members clash.
use Rattle.std.proofs.Common.{◌≡◌, ◌<◌, ◌≤◌, ◌⊎◌, inl, inr, ⊎_elim, ℕ, zero, suc, ℤ, Bool, true, false, ◌&&◌, ◌||◌, List, [], ◌∷◌, ◌++◌, map, take, Option, sym, refl, ap, ◌∙◌, subst, arith, if◌then◌else◌, true≢false, None}
use Rattle.std.specs.Prelude.{nat_lt}
use Rattle.std.specs.List.{filter, list_any}
use Rattle.std.specs.Ordering.{int_eq}
use Rattle.std.proofs.lemmas.Bool.{and_parts, cases_Bool, cases_lt, cond-true, cond-false, ltb-true, or_cases, or_left, or_right, or_parts}
use Rattle.std.proofs.lemmas.Bool.Decides.{Decides-int_eq}
use Rattle.std.proofs.lemmas.List.{map-append}
use Rattle.std.proofs.lemmas.List.Folds.{list_any-append}
use Rattle.sn_mem.specs.declared.buffers.BufferPlace.{BufferPlace}
use Rattle.sn_mem.specs.Blocks.{table}
use Rattle.sn_tree.specs.declared.node.NodeKind.{NodeKind}
use Rattle.sn_tree.specs.declared.node.NodeKind.TheVariants as kinds
use Rattle.sn_tree.specs.Trees.{Label, Nodes, none, node, running_labels}
use Rattle.sn_world.specs.declared.stage.Held.{Held}
use Rattle.sn_foot.specs.declared.resource.Resource.{Resource}
use Rattle.sn_foot.specs.declared.resource.Resource.TheVariants.{Audio, Control, Buffer}
use Rattle.sn_foot.specs.Footprints.{Footprint, footprint_of, held_mixes, held_reads, held_writes, clash_on, is_there, meets_on}
use Rattle.sn_foot.specs.Footprints.{Clash as FootprintsClash}
use Rattle.sn_foot.specs.Uses.{held_uses}
use Rattle.sn_clash.specs.declared.clash.Clash.{Clash}
use Rattle.sn_clash.specs.Clashing.{Member, clashes, clashes_among, clashes_with, footprint, is_parallel, members, resources}
use Rattle.sn_clash.proofs.Members.{any_first, clash_at}
use Rattle.sn_graph.specs.Plans.{is_listed}
use Rattle.sn_graph.specs.Clear.{held_of, ClashesWithNone, ClashesWithOne, NoneClash, TwoClash, AreListed}

-- ---- lists

nil_append : {A : Type 0} (xs ys : List A) → xs ++ ys ≡ [] → (xs ≡ []) × (ys ≡ [])
nil_append [] ys e = (refl, e)
nil_append (x ∷ xs) ys e = absurd (cc)

nil_map : {A B : Type 0} (f : A → B) (xs : List A) → map f xs ≡ [] → xs ≡ []
nil_map f [] e = refl
nil_map f (x ∷ xs) e = absurd (cc)

first_append : {A : Type 0} (x : A) (xs ys zs : List A) → ys ++ zs ≡ x ∷ xs → ((us : List A) × (ys ≡ x ∷ us)) ⊎ (zs ≡ x ∷ xs)
first_append x xs [] zs e = inr e
first_append x xs (y ∷ ys) zs e = inl (ys, cc)

first_map : {A B : Type 0} (f : A → B) (y : B) (ys : List B) (xs : List A) → map f xs ≡ y ∷ ys → (x : A) × (us : List A) × (xs ≡ x ∷ us)
first_map f y ys [] e = absurd (cc)
first_map f y ys (x ∷ xs) e = (x, xs, refl)

-- none passes a test
none_passes : {A : Type 0} (p : A → Bool) (xs : List A) → filter p xs ≡ [] → list_any p xs ≡ false
none_passes p xs e = sym (any_first p xs None (sym (ap (λ ys. take 1 ys) e)))

first_if : {A : Type 0} (p : A → Bool) (b : Bool) (x y : A) (xs ys : List A) → p x ≡ b → (if b then x ∷ xs else xs) ≡ y ∷ ys → (xs ≡ y ∷ ys → p y ≡ true) → p y ≡ true
first_if p true x y xs ys is e f = let same : x ≡ y = cc in sym (ap p same) ∙ is
first_if p false x y xs ys is e f = f e

-- the first that is kept passes it
first_passes : {A : Type 0} (p : A → Bool) (y : A) (ys xs : List A) → filter p xs ≡ y ∷ ys → p y ≡ true
first_passes p y ys [] e = absurd (cc)
first_passes p y ys (x ∷ xs) e = first_if p (p x) x y (filter p xs) ys refl e (first_passes p y ys xs)

any_table : {A : Type 0} (p : A → Bool) (f : ℕ → A) (n k : ℕ) → n < k → p (f n) ≡ true → list_any p (table f k) ≡ true
unfolding table
any_table p f n zero l t = absurd (omega arith)
any_table p f n (suc k) l t =
    list_any-append p (table f k) (f k ∷ [])
    ∙ ⊎_elim
    (λ (o : n < k). or_left (list_any p (table f k)) (p (f k) || false) (any_table p f n k o t))
    (λ (ge : k ≤ n). let e : k ≡ n = omega arith in or_right (list_any p (table f k)) (p (f k) || false) (or_left (p (f k)) false (ap (λ m. p (f m)) e ∙ t)))
    (cases_lt n k)

-- ---- resources

any_resource : (p : Resource → Bool) → list_any p resources ≡ (list_any p (table Audio 128) || (list_any p (table Control 1024) || list_any p (table Buffer 1024)))
unfolding resources
any_resource p =
    list_any-append p (table Audio 128) (table Control 1024 ++ table Buffer 1024)
    ∙ ap (λ b. list_any p (table Audio 128) || b) (list_any-append p (table Control 1024) (table Buffer 1024))

module _ (buffers : List (Option BufferPlace)) where
  -- each resource that is there is one of them
  among_resources : (p : Resource → Bool) (r : Resource) → is_there buffers r ≡ true → p r ≡ true → list_any p resources ≡ true
  among_resources p (Audio n) h t = any_resource p ∙ or_left (list_any p (table Audio 128)) (list_any p (table Control 1024) || list_any p (table Buffer 1024)) (any_table p Audio n 128 (ltb-true n 128 h) t)
  among_resources p (Control n) h t =
      any_resource p
      ∙ or_right (list_any p (table Audio 128)) (list_any p (table Control 1024) || list_any p (table Buffer 1024))
      (or_left (list_any p (table Control 1024)) (list_any p (table Buffer 1024)) (any_table p Control n 1024 (ltb-true n 1024 h) t))
  among_resources p (Buffer n) h t =
      any_resource p
      ∙ or_right (list_any p (table Audio 128)) (list_any p (table Control 1024) || list_any p (table Buffer 1024))
      (or_right (list_any p (table Control 1024)) (list_any p (table Buffer 1024)) (any_table p Buffer n 1024 (ltb-true n 1024 (and_parts (nat_lt n 1024) _ h).0) t))

  -- ---- footprints

  any_payload : (p : Held → Bool) (ls : List (Label Held)) → list_any (λ l. p l.payload) ls ≡ list_any p (map (λ l. l.payload) ls)
  any_payload p [] = refl
  any_payload p (l ∷ ls) = ap (λ b. p l.payload || b) (any_payload p ls)

  abbrev used : List (Label Held) → Footprint
  used ls = footprint (is_there buffers) held_uses ls

  abbrev tops : Nodes Held → List Member
  tops t = members (is_there buffers) held_uses t

  abbrev found : Nodes Held → List Clash
  found t = clashes (is_there buffers) held_uses t

  same_footprint : (ls : List (Label Held)) → used ls ≡ footprint_of buffers (map (λ l. l.payload) ls)
  same_footprint ls = λ i. record {
    reads = λ r. is_there buffers r && any_payload (λ h. held_reads h r) ls i;
    writes = λ r. is_there buffers r && any_payload (λ h. held_writes h r) ls i;
    mixes = λ r. is_there buffers r && any_payload (λ h. held_mixes h r) ls i;
  }

  -- what it writes or mixes is there
  abbrev IsOfThere : Footprint → Type 0
  IsOfThere f = (r : Resource) → (f.writes r || f.mixes r) ≡ true → is_there buffers r ≡ true

  met_there : (f g : Footprint) (r : Resource) → IsOfThere f → meets_on f g r ≡ true → is_there buffers r ≡ true
  met_there f g r a t =
      let all : Bool = (g.reads r || g.writes r) || g.mixes r in
      let alone : Bool = g.reads r || g.writes r in
      ⊎_elim
      (λ (h : (f.writes r && all) ≡ true). a r (or_left (f.writes r) (f.mixes r) (and_parts (f.writes r) all h).0))
      (λ (h : (f.mixes r && alone) ≡ true). a r (or_right (f.writes r) (f.mixes r) (and_parts (f.mixes r) alone h).0))
      (or_cases (f.writes r && all) (f.mixes r && alone) t)

  on_there : (f g : Footprint) → IsOfThere f → IsOfThere g → FootprintsClash f g → list_any (clash_on f g) resources ≡ true
  on_there f g a b (r, t) =
      among_resources (clash_on f g) r
      (⊎_elim
      (λ (h : meets_on f g r ≡ true). met_there f g r a h)
      (λ (h : meets_on g f r ≡ true). met_there g f r b h)
      (or_cases (meets_on f g r) (meets_on g f r) t))
      t

  there_is : (ls : List (Label Held)) → IsOfThere (used ls)
  there_is ls r h = ⊎_elim
      (λ (w : (used ls).writes r ≡ true). (and_parts (is_there buffers r) (list_any (λ l. held_writes l.payload r) ls) w).0)
      (λ (m : (used ls).mixes r ≡ true). (and_parts (is_there buffers r) (list_any (λ l. held_mixes l.payload r) ls) m).0)
      (or_cases ((used ls).writes r) ((used ls).mixes r) h)

  abbrev all_of : Label Held → Nodes Held → List (Label Held)
  all_of label below = running_labels (node label below none)

  -- if no resource is that of a clash, there is none
  none_on : (ls ms : List (Label Held)) → filter (clash_on (used ls) (used ms)) resources ≡ [] → FootprintsClash (footprint_of buffers (map (λ l. l.payload) ls)) (footprint_of buffers (map (λ l. l.payload) ms)) → ⊥
  none_on ls ms e c =
      let d : FootprintsClash (used ls) (used ms) = subst (λ (f : Footprint). FootprintsClash f (used ms)) (sym (same_footprint ls)) (subst (λ (g : Footprint). FootprintsClash (footprint_of buffers (map (λ l. l.payload) ls)) g) (sym (same_footprint ms)) c) in
      true≢false (sym (on_there (used ls) (used ms) (there_is ls) (there_is ms) d) ∙ none_passes (clash_on (used ls) (used ms)) resources e)

  -- and if one is, they clash
  some_on : (ls ms : List (Label Held)) (r : Resource) → clash_on (used ls) (used ms) r ≡ true → FootprintsClash (footprint_of buffers (map (λ l. l.payload) ls)) (footprint_of buffers (map (λ l. l.payload) ms))
  some_on ls ms r t =
      let d : FootprintsClash (used ls) (used ms) = (r, t) in
      subst (λ (x : Footprint). FootprintsClash x (footprint_of buffers (map (λ l. l.payload) ms))) (same_footprint ls) (subst (λ (y : Footprint). FootprintsClash (used ls) y) (same_footprint ms) d)

  -- ---- members of a group

  abbrev member_at : ℤ → List (Label Held) → Member
  member_at x ls = record { id = x; uses = used ls }

  abbrev shared : List (Label Held) → List (Label Held) → List Resource
  shared ls ms = filter (clash_on (used ls) (used ms)) resources

  none_with : (id x : ℤ) (ls : List (Label Held)) (t : Nodes Held) → clashes_with id (member_at x ls) (tops t) ≡ [] → ClashesWithNone buffers (map (λ l. l.payload) ls) t
  none_with id x ls none e = tt
  none_with id x ls (node label below after) e =
      let ms : List (Label Held) = all_of label below in
      let f : Resource → Clash = clash_at id (member_at x ls) (member_at label.id ms) in
      let p = nil_append (map f (shared ls ms)) (clashes_with id (member_at x ls) (tops after)) e in
      (none_on ls ms (nil_map f (shared ls ms) p.0), none_with id x ls after p.1)

  none_among : (id : ℤ) (t : Nodes Held) → clashes_among id (tops t) ≡ [] → NoneClash buffers t
  none_among id none e = tt
  none_among id (node label below after) e =
      let ls : List (Label Held) = all_of label below in
      let p = nil_append (clashes_with id (member_at label.id ls) (tops after)) (clashes_among id (tops after)) e in
      (none_with id label.id ls after p.0, none_among id after p.1)

  some_with : (id x : ℤ) (ls : List (Label Held)) (t : Nodes Held) (c : Clash) (cs : List Clash) → clashes_with id (member_at x ls) (tops t) ≡ c ∷ cs → ClashesWithOne buffers (map (λ l. l.payload) ls) t
  some_with id x ls none c cs e = absurd (cc)
  some_with id x ls (node label below after) c cs e =
      let ms : List (Label Held) = all_of label below in
      let f : Resource → Clash = clash_at id (member_at x ls) (member_at label.id ms) in
      ⊎_elim
      (λ (h : (us : List Clash) × (map f (shared ls ms) ≡ c ∷ us)).
      let k = first_map f c h.0 (shared ls ms) h.1 in inl (some_on ls ms k.0 (first_passes (clash_on (used ls) (used ms)) k.0 k.1 resources k.2)))
      (λ (h : clashes_with id (member_at x ls) (tops after) ≡ c ∷ cs). inr (some_with id x ls after c cs h))
      (first_append c cs (map f (shared ls ms)) (clashes_with id (member_at x ls) (tops after)) e)

  some_among : (id : ℤ) (t : Nodes Held) (c : Clash) (cs : List Clash) → clashes_among id (tops t) ≡ c ∷ cs → TwoClash buffers t
  some_among id none c cs e = absurd (cc)
  some_among id (node label below after) c cs e =
      let ls : List (Label Held) = all_of label below in
      ⊎_elim
      (λ (h : (us : List Clash) × (clashes_with id (member_at label.id ls) (tops after) ≡ c ∷ us)). inl (some_with id label.id ls after c h.0 h.1))
      (λ (h : clashes_among id (tops after) ≡ c ∷ cs). inr (some_among id after c cs h))
      (first_append c cs (clashes_with id (member_at label.id ls) (tops after)) (clashes_among id (tops after)) e)

  one_none : (hs : List Held) (t : Nodes Held) → ClashesWithNone buffers hs t → ClashesWithOne buffers hs t → ⊥
  one_none hs none n o = o
  one_none hs (node label below after) n o = ⊎_elim
      (λ (c : FootprintsClash (footprint_of buffers hs) (footprint_of buffers (held_of (node label below none)))). n.0 c)
      (λ (c : ClashesWithOne buffers hs after). one_none hs after n.1 c)
      o

  two_none : (t : Nodes Held) → NoneClash buffers t → TwoClash buffers t → ⊥
  two_none none n o = o
  two_none (node label below after) n o = ⊎_elim
      (λ (c : ClashesWithOne buffers (held_of (node label below none)) after). one_none (held_of (node label below none)) after n.0 c)
      (λ (c : TwoClash buffers after). two_none after n.1 c)
      o

  -- ---- the groups that clashes name

  abbrev names : List Clash → List ℤ
  names cs = map (λ c. c.group) cs

  names_append : (xs ys : List Clash) (id : ℤ) → is_listed (names (xs ++ ys)) id ≡ (is_listed (names xs) id || is_listed (names ys) id)
  names_append xs ys id =
      ap (λ zs. is_listed zs id) (map-append (λ (c : Clash). c.group) xs ys) ∙ list_any-append (λ x. int_eq x id) (names xs) (names ys)

  abbrev AreOf : ℤ → List Clash → Type 0
  AreOf id [] = Unit {0}
  AreOf id (c ∷ cs) = (c.group ≡ id) × AreOf id cs

  of_append : (id : ℤ) (xs ys : List Clash) → AreOf id xs → AreOf id ys → AreOf id (xs ++ ys)
  of_append id [] ys o p = p
  of_append id (x ∷ xs) ys o p = (o.0, of_append id xs ys o.1 p)

  of_pair : (id : ℤ) (a b : Member) (rs : List Resource) → AreOf id (map (clash_at id a b) rs)
  of_pair id a b [] = tt
  of_pair id a b (r ∷ rs) = (refl, of_pair id a b rs)

  of_with : (id : ℤ) (a : Member) (bs : List Member) → AreOf id (clashes_with id a bs)
  of_with id a [] = tt
  of_with id a (b ∷ bs) = of_append id (map (clash_at id a b) (filter (clash_on a.uses b.uses) resources)) (clashes_with id a bs) (of_pair id a b (filter (clash_on a.uses b.uses) resources)) (of_with id a bs)

  of_among : (id : ℤ) (ms : List Member) → AreOf id (clashes_among id ms)
  of_among id [] = tt
  of_among id (a ∷ bs) = of_append id (clashes_with id a bs) (clashes_among id bs) (of_with id a bs) (of_among id bs)

  -- a group that is not named has no clash
  not_named : (id : ℤ) (cs : List Clash) → AreOf id cs → is_listed (names (take 1 cs)) id ≡ false → cs ≡ []
  not_named id [] o e = refl
  not_named id (c ∷ cs) o e = absurd (true≢false (sym (or_left (int_eq c.group id) false ((Decides-int_eq c.group id).1 o.0)) ∙ e))

  -- and one that is named has one
  named : (id x : ℤ) (cs : List Clash) → AreOf id cs → is_listed (names (take 1 cs)) x ≡ true → (id ≡ x) × (c : Clash) × (us : List Clash) × (cs ≡ c ∷ us)
  named id x [] o e = absurd (true≢false (sym e))
  named id x (c ∷ cs) o e = ⊎_elim
      (λ (h : int_eq c.group x ≡ true). (sym o.0 ∙ (Decides-int_eq c.group x).0 h, c, cs, refl))
      (λ (h : false ≡ true). absurd (true≢false (sym h)))
      (or_cases (int_eq c.group x) false e)

  abbrev own : NodeKind → ℤ → Nodes Held → List Clash
  own kind id below = if is_parallel kind then take 1 (clashes_among id (tops below)) else []

  found_running : (label : Label Held) (below after : Nodes Held) (x : ℤ) → label.running ≡ true →
      is_listed (names (found (node label below after))) x ≡ (is_listed (names (own label.kind label.id below)) x || (is_listed (names (found below)) x || is_listed (names (found after)) x))
  found_running label below after x run =
      ap (λ cs. is_listed (names cs) x) (cond-true label.running (own label.kind label.id below ++ (found below ++ found after)) (found after) run)
      ∙ names_append (own label.kind label.id below) (found below ++ found after) x
      ∙ ap (λ b. is_listed (names (own label.kind label.id below)) x || b) (names_append (found below) (found after) x)

  found_paused : (label : Label Held) (below after : Nodes Held) (x : ℤ) → label.running ≡ false → is_listed (names (found (node label below after))) x ≡ is_listed (names (found after)) x
  found_paused label below after x paused = ap (λ cs. is_listed (names cs) x) (cond-false label.running (own label.kind label.id below ++ (found below ++ found after)) (found after) paused)

  -- ids among which are those of the groups
  listed_by : (ids : List ℤ) (t : Nodes Held) → ((x : ℤ) → is_listed ids x ≡ false → is_listed (names (found t)) x ≡ false) → AreListed buffers ids t
  listed_by ids none all = tt
  listed_by ids (node label below after) all =
      let parts : label.running ≡ true → (x : ℤ) → is_listed ids x ≡ false → (is_listed (names (own label.kind label.id below)) x ≡ false) × ((is_listed (names (found below)) x ≡ false) × (is_listed (names (found after)) x ≡ false)) =
      λ run x u.
      let p = or_parts (is_listed (names (own label.kind label.id below)) x) (is_listed (names (found below)) x || is_listed (names (found after)) x) (sym (found_running label below after x run) ∙ all x u) in
      (p.0, or_parts (is_listed (names (found below)) x) (is_listed (names (found after)) x) p.1) in (
        λ run. (
          λ parallel u. none_among label.id below
              (not_named label.id (clashes_among label.id (tops below)) (of_among label.id (tops below))
              (sym (ap (λ cs. is_listed (names cs) label.id) (cond-true (is_parallel label.kind) (take 1 (clashes_among label.id (tops below))) [] (ap is_parallel parallel))) ∙ (parts run label.id u).0)),
          listed_by ids below (λ x u. (parts run x u).1.0),
        ),
        listed_by ids after (λ x u. ⊎_elim
            (λ (run : label.running ≡ true). (parts run x u).1.1)
            (λ (paused : label.running ≡ false). sym (found_paused label below after x paused) ∙ all x u)
            (cases_Bool label.running)),
      )

  -- each group of which two members clash is named
  pub all_listed : (t : Nodes Held) → AreListed buffers (names (found t)) t
  all_listed t = listed_by (names (found t)) t (λ x u. u)

  -- ---- the groups that are named

  -- the walk reaches a parallel group with this id, of which two members clash
  abbrev pub Named : ℤ → Nodes Held → Type 0
  Named id none = ⊥
  Named id (node label below after) =
      ((label.running ≡ true) × (((label.id ≡ id) × ((label.kind ≡ kinds.Parallel) × TwoClash buffers below)) ⊎ Named id below)) ⊎ Named id after

  parallel_is : (kind : NodeKind) → is_parallel kind ≡ true → kind ≡ kinds.Parallel
  parallel_is kinds.Synth h = absurd (true≢false (sym h))
  parallel_is kinds.Group h = absurd (true≢false (sym h))
  parallel_is kinds.Parallel h = refl

  named_own : (kind : NodeKind) (id x : ℤ) (below : Nodes Held) → is_listed (names (own kind id below)) x ≡ true → (id ≡ x) × ((kind ≡ kinds.Parallel) × TwoClash buffers below)
  named_own kind id x below h = ⊎_elim
      (λ (p : is_parallel kind ≡ true).
      let n = named id x (clashes_among id (tops below)) (of_among id (tops below)) (sym (ap (λ cs. is_listed (names cs) x) (cond-true (is_parallel kind) (take 1 (clashes_among id (tops below))) [] p)) ∙ h) in
      (n.0, (parallel_is kind p, some_among id below n.1 n.2 n.3)))
      (λ (p : is_parallel kind ≡ false). absurd (true≢false (sym h ∙ ap (λ cs. is_listed (names cs) x) (cond-false (is_parallel kind) (take 1 (clashes_among id (tops below))) [] p))))
      (cases_Bool (is_parallel kind))

  own_named : (kind : NodeKind) (id x : ℤ) (below : Nodes Held) → id ≡ x → kind ≡ kinds.Parallel → TwoClash buffers below → is_listed (names (own kind id below)) x ≡ true
  own_named kind id x below same parallel two =
      ap (λ cs. is_listed (names cs) x) (cond-true (is_parallel kind) (take 1 (clashes_among id (tops below))) [] (ap is_parallel parallel))
      ∙ ⊎_elim
      (λ (t : is_listed (names (take 1 (clashes_among id (tops below)))) x ≡ true). t)
      (λ (f : is_listed (names (take 1 (clashes_among id (tops below)))) x ≡ false).
      absurd (two_none below (none_among id below (not_named id (clashes_among id (tops below)) (of_among id (tops below)) (ap (λ y. is_listed (names (take 1 (clashes_among id (tops below)))) y) same ∙ f))) two))
      (cases_Bool (is_listed (names (take 1 (clashes_among id (tops below)))) x))

  pub named_found : (id : ℤ) (t : Nodes Held) → is_listed (names (found t)) id ≡ true → Named id t
  named_found id none h = absurd (true≢false (sym h))
  named_found id (node label below after) h =
      let here : List ℤ = names (own label.kind label.id below) in
      ⊎_elim
      (λ (run : label.running ≡ true). ⊎_elim
      (λ (a : is_listed here id ≡ true). inl (run, inl (named_own label.kind label.id id below a)))
      (λ (b : (is_listed (names (found below)) id || is_listed (names (found after)) id) ≡ true). ⊎_elim
      (λ (a : is_listed (names (found below)) id ≡ true). inl (run, inr (named_found id below a)))
      (λ (a : is_listed (names (found after)) id ≡ true). inr (named_found id after a))
      (or_cases (is_listed (names (found below)) id) (is_listed (names (found after)) id) b))
      (or_cases (is_listed here id) (is_listed (names (found below)) id || is_listed (names (found after)) id) (sym (found_running label below after id run) ∙ h)))
      (λ (paused : label.running ≡ false). inr (named_found id after (sym (found_paused label below after id paused) ∙ h)))
      (cases_Bool label.running)

  pub found_named : (id : ℤ) (t : Nodes Held) → Named id t → is_listed (names (found t)) id ≡ true
  found_named id none n = absurd n
  found_named id (node label below after) n =
      let here : List ℤ = names (own label.kind label.id below) in
      let b : Bool = is_listed (names (found below)) id in
      let a : Bool = is_listed (names (found after)) id in
      ⊎_elim
      (λ (m : (label.running ≡ true) × (((label.id ≡ id) × ((label.kind ≡ kinds.Parallel) × TwoClash buffers below)) ⊎ Named id below)).
      found_running label below after id m.0
      ∙ ⊎_elim
      (λ (k : (label.id ≡ id) × ((label.kind ≡ kinds.Parallel) × TwoClash buffers below)). or_left (is_listed here id) (b || a) (own_named label.kind label.id id below k.0 k.1.0 k.1.1))
      (λ (k : Named id below). or_right (is_listed here id) (b || a) (or_left b a (found_named id below k)))
      m.1)
      (λ (m : Named id after). ⊎_elim
      (λ (run : label.running ≡ true). found_running label below after id run ∙ or_right (is_listed here id) (b || a) (or_right b a (found_named id after m)))
      (λ (paused : label.running ≡ false). found_paused label below after id paused ∙ found_named id after m)
      (cases_Bool label.running))
      n
