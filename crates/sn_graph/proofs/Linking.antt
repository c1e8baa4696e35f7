-- The walk's nodes, put together from its end on, are the nodes that run.
use Rattle.std.proofs.Common.{◌≡◌, ◌≤◌, ◌<◌, ℕ, ◌-◌, ℤ, Bool, true, false, if◌then◌else◌, List, [], ◌∷◌, ◌++◌, map, take, drop, length, reverse, Option, sym, refl, ap, ◌∙◌, append_assoc, ⊎_elim, arith}
use Rattle.std.proofs.lemmas.Bool.{cases_lt}
use Rattle.std.proofs.lemmas.List.{append-nil, drop-map, drop_all, length-drop, length-map, length-reverse, map-append, reverse-append, take-append-drop, take-map, take_all}
use Rattle.std.proofs.Math.Seq.{take-append_seam, drop-append_seam}
use Rattle.sn_mem.specs.declared.buffers.BufferPlace.{BufferPlace}
use Rattle.sn_tree.specs.declared.node.NodeKind.{NodeKind}
use Rattle.sn_tree.specs.declared.node.NodeKind.TheVariants as kinds
use Rattle.sn_tree.specs.Trees as trees
use Rattle.sn_tree.specs.Trees.{Label, Nodes}
use Rattle.sn_tree.specs.Members.{tops, members}
use Rattle.sn_world.specs.declared.stage.Held.{Held}
use Rattle.sn_graph.specs.declared.parts.Part.{Part}
use Rattle.sn_graph.specs.Voices.{HeardNodes, none, synth, group}
use Rattle.sn_graph.specs.Stages.{may_split, with_group, with_node, running_of}
use Rattle.sn_graph.specs.Pieces.{Piece, nothing, group_piece, piece_of, pieces, before, linked, running_piece, piece, with_member, built}

-- ---- the list of the kept ones

pub linked-snoc : (ps : List Piece) (p : Piece) (rest : HeardNodes) → linked (ps ++ p ∷ []) rest ≡ linked ps (before p rest)
linked-snoc [] p rest = refl
linked-snoc (q ∷ ps) p rest = ap (before q) (linked-snoc ps p rest)

-- ---- one node

before_group : (flag : Bool) (inner after : HeardNodes) → before (group_piece flag inner) after ≡ with_group flag inner after
before_group flag none after = refl
before_group flag (synth v rest) after = refl
before_group flag (group f deeper rest) after = refl

module _ (buffers : List (Option BufferPlace)) (clashing : List ℤ) where
  -- ---- all nodes

  pub built-snoc : (ms : List (Label Held × ℕ)) (m : Label Held × ℕ) (ps : List Piece) → built buffers clashing (ms ++ m ∷ []) ps ≡ built buffers clashing ms (with_member buffers clashing m ps)
  built-snoc [] m ps = refl
  built-snoc (k ∷ ms) m ps = ap (λ qs. with_member buffers clashing k qs) (built-snoc ms m ps)

  -- the nodes beside the first one, each with all below it
  abbrev pub top_pieces : Nodes Held → List Piece
  top_pieces trees.none = []
  top_pieces (trees.node label inner after) = piece buffers clashing label (running_of buffers clashing inner) ∷ top_pieces after

  before_by_kind : (kind : NodeKind) (label : Label Held) (inner after : HeardNodes) → before (running_piece buffers clashing kind label inner) after ≡ with_node buffers clashing kind label inner after
  before_by_kind kinds.Synth label inner after = refl
  before_by_kind kinds.Group label inner after = before_group false inner after
  before_by_kind kinds.Parallel label inner after = before_group (may_split clashing label.id) inner after

  before_if : (b : Bool) (p : Piece) (r after : HeardNodes) → before p after ≡ r → before (if b then p else nothing) after ≡ (if b then r else after)
  before_if true p r after e = e
  before_if false p r after e = refl

  pub linked_tops : (t : Nodes Held) → linked (top_pieces t) none ≡ running_of buffers clashing t
  linked_tops trees.none = refl
  linked_tops (trees.node label inner after) =
      ap (before (piece buffers clashing label (running_of buffers clashing inner))) (linked_tops after)
      ∙ before_if label.running (running_piece buffers clashing label.kind label (running_of buffers clashing inner)) (with_node buffers clashing label.kind label (running_of buffers clashing inner) (running_of buffers clashing after)) (running_of buffers clashing after)
      (before_by_kind label.kind label (running_of buffers clashing inner) (running_of buffers clashing after))

  length-tops : (t : Nodes Held) → length (top_pieces t) ≡ tops t
  length-tops trees.none = refl
  length-tops (trees.node label inner after) = omega (arith, length-tops after)

  built_all : (t : Nodes Held) (ms : List (Label Held × ℕ)) (ps : List Piece) → built buffers clashing (members t ++ ms) ps ≡ top_pieces t ++ built buffers clashing ms ps
  built_all trees.none ms ps = refl
  built_all (trees.node label inner after) ms ps =
      let later : List Piece = top_pieces after ++ built buffers clashing ms ps in
      let all : built buffers clashing ((members inner ++ members after) ++ ms) ps ≡ top_pieces inner ++ later =
      ap (λ xs. built buffers clashing xs ps) (append_assoc (members inner) (members after) ms) ∙ built_all inner (members after ++ ms) ps ∙ ap (λ qs. top_pieces inner ++ qs) (built_all after ms ps) in
      ap (λ qs. with_member buffers clashing (label, tops inner) qs) all
      ∙ ap (λ n. piece buffers clashing label (linked (take n (top_pieces inner ++ later)) none) ∷ drop n (top_pieces inner ++ later)) (sym (length-tops inner))
      ∙ ap (λ qs. piece buffers clashing label (linked qs none) ∷ drop (length (top_pieces inner)) (top_pieces inner ++ later)) (take-append_seam (top_pieces inner) later)
      ∙ ap (λ r. piece buffers clashing label r ∷ drop (length (top_pieces inner)) (top_pieces inner ++ later)) (linked_tops inner)
      ∙ ap (λ qs. piece buffers clashing label (running_of buffers clashing inner) ∷ qs) (drop-append_seam (top_pieces inner) later)

  pub built_tree : (t : Nodes Held) → built buffers clashing (members t) [] ≡ top_pieces t
  built_tree t = ap (λ ms. built buffers clashing ms []) (sym (append-nil (members t))) ∙ built_all t [] [] ∙ append-nil (top_pieces t)

  pub linked_whole : (t : Nodes Held) (ps : List Piece) (count : ℕ) → length ps ≤ count → ps ≡ built buffers clashing (members t) [] → linked (take count ps) none ≡ running_of buffers clashing t
  linked_whole t ps count l is = ap (λ qs. linked qs none) (take_all count ps l ∙ is ∙ built_tree t) ∙ linked_tops t

pub length-pieces : (ps : List Part) → length (pieces ps) ≡ length ps
length-pieces ps = length-reverse (map piece_of ps) ∙ length-map ps piece_of

-- ---- the first ones, which were put last

reverse_split : {A : Type 0} (k : ℕ) (xs : List A) → reverse xs ≡ reverse (drop k xs) ++ reverse (take k xs)
reverse_split k xs = ap reverse (sym (take-append-drop k xs)) ∙ reverse-append (take k xs) (drop k xs)

last_length : {A : Type 0} (n : ℕ) (xs : List A) → n < length xs → length (reverse (drop (length xs - n) xs)) ≡ n
last_length n xs l = omega (arith, l, length-reverse (drop (length xs - n) xs), length-drop (length xs - n) xs)

drop_last : {A : Type 0} (n : ℕ) (xs : List A) → reverse (take (length xs - n) xs) ≡ drop n (reverse xs)
drop_last n xs =
    let k : ℕ = length xs - n in
    ⊎_elim
    (λ (l : n < length xs).
    sym (drop-append_seam (reverse (drop k xs)) (reverse (take k xs)))
    ∙ ap (λ m. drop m (reverse (drop k xs) ++ reverse (take k xs))) (last_length n xs l)
    ∙ ap (drop n) (sym (reverse_split k xs)))
    (λ (g : length xs ≤ n). let none_left : k ≡ 0 = omega (arith, g) in
    ap (λ m. reverse (take m xs)) none_left ∙ sym (drop_all n (reverse xs) (omega (arith, g, length-reverse xs))))
    (cases_lt n (length xs))

take_last : {A : Type 0} (n : ℕ) (xs : List A) → reverse (drop (length xs - n) xs) ≡ take n (reverse xs)
take_last n xs =
    let k : ℕ = length xs - n in
    ⊎_elim
    (λ (l : n < length xs).
    sym (take-append_seam (reverse (drop k xs)) (reverse (take k xs)))
    ∙ ap (λ m. take m (reverse (drop k xs) ++ reverse (take k xs))) (last_length n xs l)
    ∙ ap (take n) (sym (reverse_split k xs)))
    (λ (g : length xs ≤ n). let none_left : k ≡ 0 = omega (arith, g) in
    ap (λ m. reverse (drop m xs)) none_left ∙ sym (take_all n (reverse xs) (omega (arith, g, length-reverse xs))))
    (cases_lt n (length xs))

pub drop_pieces : (n : ℕ) (ps : List Part) → pieces (take (length ps - n) ps) ≡ drop n (pieces ps)
drop_pieces n ps =
    ap reverse (sym (take-map piece_of (length ps - n) ps))
    ∙ ap (λ m. reverse (take (m - n) (map piece_of ps))) (sym (length-map ps piece_of))
    ∙ drop_last n (map piece_of ps)

pub take_pieces : (n : ℕ) (ps : List Part) → pieces (drop (length ps - n) ps) ≡ take n (pieces ps)
take_pieces n ps =
    ap reverse (sym (drop-map piece_of (length ps - n) ps))
    ∙ ap (λ m. reverse (drop (m - n) (map piece_of ps))) (sym (length-map ps piece_of))
    ∙ take_last n (map piece_of ps)

pub map_reverse : {A B : Type 0} (f : A → B) (xs : List A) → map f (reverse xs) ≡ reverse (map f xs)
map_reverse f [] = refl
map_reverse f (x ∷ xs) = ap (map f) (reverse-append (x ∷ []) xs) ∙ map-append f (reverse xs) (x ∷ []) ∙ ap (λ ys. ys ++ f x ∷ []) (map_reverse f xs) ∙ sym (reverse-append (f x ∷ []) (map f xs))
