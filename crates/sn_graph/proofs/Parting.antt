-- A row keeps the synths of its nodes, and which of them are parted.
use Rattle.std.proofs.Common.{◌≡◌, ℤ, true, false, ◌||◌, List, [], ◌∷◌, ◌++◌, Some, None, sym, refl, ap, ◌∙◌, append_assoc}
use Rattle.std.proofs.Math.Bool.{or_assoc, or-false, and-false}
use Rattle.std.proofs.lemmas.List.{append-nil}
use Rattle.std.specs.Ordering.{int_eq}
use Rattle.sn_mem.specs.declared.moves.Moved.{Moved}
use Rattle.sn_graph.specs.declared.nodes.Voice.{Voice}
use Rattle.sn_graph.specs.Voices.{HeardNodes, none, synth, group, voices, has}
use Rattle.sn_graph.specs.Rows.{Row, done, job, split, more}
use Rattle.sn_graph.specs.Plans.{close, followed, members, joined, keep, row_of, rows_of}
use Rattle.sn_graph.proofs.Shapes.{is_parted, heard, heard_all, heard_list, parts, parts_all, parts_list}

pub has-append : (xs ys : List Voice) (a : ℤ) → has (xs ++ ys) a ≡ (has xs a || has ys a)
has-append [] ys a = refl
has-append (x ∷ xs) ys a = rw (has-append xs ys a) (sym (or_assoc (int_eq x.id a) (has xs a) (has ys a)))

pub heard-close : (run : List Voice) (r : Row) → heard (close run r) ≡ run ++ heard r
heard-close [] r = refl
heard-close (s ∷ ss) r = refl

pub heard-followed : (x y : Row) → heard (followed x y) ≡ heard x ++ heard y
heard-followed done y = refl
heard-followed (job ss x) y = rw (heard-followed x y) (sym (append_assoc ss (heard x) (heard y)))
heard-followed (split lanes ms x) y = rw (heard-followed x y) (sym (append_assoc (heard_all ms) (heard x) (heard y)))

pub heard-members : (r : Row) (rs : List Row) → heard_all (members r rs) ≡ heard r ++ heard_list rs
heard-members r [] = sym (append-nil (heard r))
heard-members r (q ∷ rs) = ap (λ (l : List Voice). heard r ++ l) (heard-members q rs)

pub heard-joined : (lanes : List Moved) (rs : List Row) → heard (joined lanes rs) ≡ heard_list rs
heard-joined lanes [] = refl
heard-joined lanes (r ∷ []) = sym (append-nil (heard r))
heard-joined lanes (r ∷ q ∷ rs) = append-nil (heard r ++ heard_all (members q rs)) ∙ ap (λ (l : List Voice). heard r ++ l) (heard-members q rs)

pub heard-keep : (r : Row) (rs : List Row) → heard_list (keep r rs) ≡ heard r ++ heard_list rs
heard-keep done rs = refl
heard-keep (job ss a) rs = refl
heard-keep (split lanes ms a) rs = refl

heard-after : (run : List Voice) (r rest : Row) → heard (close run (followed r rest)) ≡ run ++ (heard r ++ heard rest)
heard-after run r rest = heard-close run (followed r rest) ∙ ap (λ (l : List Voice). run ++ l) (heard-followed r rest)

-- the joined synths of the jobs are those of the nodes
mutual
  pub heard-row : (run : List Voice) (nodes : HeardNodes) → heard (row_of run nodes) ≡ run ++ voices nodes
  heard-row run none = heard-close run done
  heard-row run (synth s rest) = heard-row (run ++ s ∷ []) rest ∙ append_assoc run (s ∷ []) (voices rest)
  heard-row run (group (Some lanes) inner rest) =
      heard-after run (joined lanes (rows_of inner)) (row_of [] rest)
      ∙ rw (heard-joined lanes (rows_of inner), heard-rows inner, heard-row [] rest) refl
  heard-row run (group None inner rest) =
      heard-after run (row_of [] inner) (row_of [] rest)
      ∙ rw (heard-row [] inner, heard-row [] rest) refl

  pub heard-rows : (nodes : HeardNodes) → heard_list (rows_of nodes) ≡ voices nodes
  heard-rows none = refl
  heard-rows (synth s rest) = ap (λ (l : List Voice). s ∷ l) (heard-rows rest)
  heard-rows (group (Some lanes) inner rest) = heard-keep (joined lanes (rows_of inner)) (rows_of rest) ∙ rw (heard-joined lanes (rows_of inner), heard-rows inner, heard-rows rest) refl
  heard-rows (group None inner rest) = heard-keep (row_of [] inner) (rows_of rest) ∙ rw (heard-row [] inner, heard-rows rest) refl

pub parts-close : (run : List Voice) (r : Row) (a b : ℤ) → parts (close run r) a b ≡ parts r a b
parts-close [] r a b = refl
parts-close (s ∷ ss) r a b = refl

pub parts-followed : (x y : Row) (a b : ℤ) → parts (followed x y) a b ≡ (parts x a b || parts y a b)
parts-followed done y a b = refl
parts-followed (job ss x) y a b = parts-followed x y a b
parts-followed (split lanes ms x) y a b = rw (parts-followed x y a b) (sym (or_assoc (parts_all ms a b) (parts x a b) (parts y a b)))

pub parts-members : (r : Row) (rs : List Row) (a b : ℤ) → parts_all (members r rs) a b ≡ parts_list (r ∷ rs) a b
parts-members r [] a b = sym (rw (and-false (has (heard r) a)) (or-false (parts r a b)))
parts-members r (q ∷ rs) a b = rw (heard-members q rs, parts-members q rs a b) refl

pub parts-joined : (lanes : List Moved) (rs : List Row) (a b : ℤ) → parts (joined lanes rs) a b ≡ parts_list rs a b
parts-joined lanes [] a b = refl
parts-joined lanes (r ∷ []) a b = parts-members r [] a b
parts-joined lanes (r ∷ q ∷ rs) a b = or-false (parts_all (more r (members q rs)) a b) ∙ parts-members r (q ∷ rs) a b

pub parts-keep : (r : Row) (rs : List Row) (a b : ℤ) → parts_list (keep r rs) a b ≡ parts_list (r ∷ rs) a b
parts-keep done rs a b = refl
parts-keep (job ss x) rs a b = refl
parts-keep (split lanes ms x) rs a b = refl

parts-after : (run : List Voice) (r rest : Row) (a b : ℤ) → parts (close run (followed r rest)) a b ≡ (parts r a b || parts rest a b)
parts-after run r rest a b = parts-close run (followed r rest) a b ∙ parts-followed r rest a b

-- what is parted in the row is parted in the nodes
mutual
  pub parts-row : (run : List Voice) (nodes : HeardNodes) (a b : ℤ) → parts (row_of run nodes) a b ≡ is_parted false nodes a b
  parts-row run none a b = parts-close run done a b
  parts-row run (synth s rest) a b = parts-row (run ++ s ∷ []) rest a b
  parts-row run (group (Some lanes) inner rest) a b =
      parts-after run (joined lanes (rows_of inner)) (row_of [] rest) a b
      ∙ rw (parts-joined lanes (rows_of inner) a b, parts-rows inner a b, parts-row [] rest a b) refl
  parts-row run (group None inner rest) a b =
      parts-after run (row_of [] inner) (row_of [] rest) a b
      ∙ rw (parts-row [] inner a b, parts-row [] rest a b) refl

  pub parts-rows : (nodes : HeardNodes) (a b : ℤ) → parts_list (rows_of nodes) a b ≡ is_parted true nodes a b
  parts-rows none a b = refl
  parts-rows (synth s rest) a b = rw (heard-rows rest, or-false (int_eq s.id a), parts-rows rest a b) refl
  parts-rows (group (Some lanes) inner rest) a b = parts-keep (joined lanes (rows_of inner)) (rows_of rest) a b ∙ rw (heard-joined lanes (rows_of inner), heard-rows inner, heard-rows rest, parts-joined lanes (rows_of inner) a b, parts-rows inner a b, parts-rows rest a b) refl
  parts-rows (group None inner rest) a b = parts-keep (row_of [] inner) (rows_of rest) a b ∙ rw (heard-row [] inner, heard-rows rest, parts-row [] inner a b, parts-rows rest a b) refl
