-- Flags of audio buses, and what they say of nodes.
use Rattle.std.proofs.Common.{◌≡◌, ◌<◌, ℕ, Bool, false, ◌||◌, ◌&&◌, List, ◌++◌, length, Option, take, replicate, sym, ap, ◌∙◌, arith}
use Rattle.std.specs.Prelude.{slice_index_or}
use Rattle.std.proofs.lemmas.List.{get_or-replicate, length-replicate, same_lists, take_all}
use Rattle.std.proofs.lemmas.List.Folds.{list_any-append}
use Rattle.sn_mem.specs.declared.moves.Moved.{Moved}
use Rattle.sn_mem.specs.Blocks.{table}
use Rattle.sn_mem.proofs.Tables.{length-table}
use Rattle.sn_mem.proofs.Windows.{table_at, table_same}
use Rattle.sn_graph.specs.declared.nodes.Voice.{Voice}
use Rattle.sn_graph.specs.Voices.{HeardNodes, synth, group, voices}
use Rattle.sn_graph.specs.Sharing.{mixes, one_mixes, two_mix}

-- ---- tables of flags

pub whole_table : (f : ℕ → Bool) (xs : List Bool) (n : ℕ) → n ≡ 128 → length xs ≡ 128 → take n xs ≡ table f n → xs ≡ table f 128
whole_table f xs n last size first = sym (take_all n xs (omega (arith, last, size))) ∙ first ∙ ap (λ m. table f m) last

pub none_told : (n : ℕ) → replicate n false ≡ table (λ k. false) n
none_told n =
    same_lists (replicate n false) (table (λ k. false) n) (length-replicate n false ∙ sym (length-table (λ k. false) n))
    (λ k d lt. let low : k < n = omega (arith, lt, length-replicate n false) in get_or-replicate n k false d low ∙ sym (table_at (λ m. false) n k d low))

pub told : (f : ℕ → Bool) (xs : List Bool) → xs ≡ table f 128 → (k : ℕ) → k < 128 → slice_index_or xs k false ≡ f k
told f xs e k lt = ap (λ (ys : List Bool). slice_index_or ys k false) e ∙ table_at f 128 k false lt

pub either_told : (f g : ℕ → Bool) (xs ys zs : List Bool) → xs ≡ table f 128 → ys ≡ table g 128 → zs ≡ table (λ n. slice_index_or xs n false || slice_index_or ys n false) 128 → zs ≡ table (λ n. f n || g n) 128
either_told f g xs ys zs a b e =
    e ∙ table_same (λ n. slice_index_or xs n false || slice_index_or ys n false) (λ n. f n || g n) 128
    (λ k lt. ap (λ x. x || slice_index_or ys k false) (told f xs a k lt) ∙ ap (λ y. f k || y) (told g ys b k lt))

pub both_told : (f g : ℕ → Bool) (xs ys zs : List Bool) → xs ≡ table f 128 → ys ≡ table g 128 → zs ≡ table (λ n. slice_index_or xs n false && slice_index_or ys n false) 128 → zs ≡ table (λ n. f n && g n) 128
both_told f g xs ys zs a b e =
    e ∙ table_same (λ n. slice_index_or xs n false && slice_index_or ys n false) (λ n. f n && g n) 128
    (λ k lt. ap (λ x. x && slice_index_or ys k false) (told f xs a k lt) ∙ ap (λ y. f k && y) (told g ys b k lt))

-- ---- one more node

-- the flags are those of the buses that nodes mix, and of those that two of them mix
abbrev pub AreOf : HeardNodes → List Bool → List Bool → Type 0
AreOf nodes mixed shared = (mixed ≡ table (one_mixes (voices nodes)) 128) × (shared ≡ table (two_mix nodes) 128)

-- a synth before others, whose flags are its own put to theirs
pub with_synth : (v : Voice) (rest : HeardNodes) (own mixed shared more m s : List Bool) → AreOf rest mixed shared → own ≡ table (mixes v) 128
    → more ≡ table (λ n. slice_index_or own n false && slice_index_or mixed n false) 128
    → s ≡ table (λ n. slice_index_or more n false || slice_index_or shared n false) 128
    → m ≡ table (λ n. slice_index_or own n false || slice_index_or mixed n false) 128
    → AreOf (synth v rest) m s
with_synth v rest own mixed shared more m s is o a b d =
    let f : ℕ → Bool = one_mixes (voices rest) in
    let met : more ≡ table (λ n. mixes v n && f n) 128 = both_told (mixes v) f own mixed more o is.0 a in
    (either_told (mixes v) f own mixed m o is.0 d, either_told (λ n. mixes v n && f n) (two_mix rest) more shared s met is.1 b)

-- a group before others
pub with_group : (lanes : Option (List Moved)) (inner rest : HeardNodes) (own mixed shared more m s : List Bool) → AreOf rest mixed shared → own ≡ table (one_mixes (voices inner)) 128
    → more ≡ table (λ n. slice_index_or own n false && slice_index_or mixed n false) 128
    → s ≡ table (λ n. slice_index_or more n false || slice_index_or shared n false) 128
    → m ≡ table (λ n. slice_index_or own n false || slice_index_or mixed n false) 128
    → AreOf (group lanes inner rest) m s
with_group lanes inner rest own mixed shared more m s is o a b d =
    let e : ℕ → Bool = one_mixes (voices inner) in
    let f : ℕ → Bool = one_mixes (voices rest) in
    let met : more ≡ table (λ n. e n && f n) 128 = both_told e f own mixed more o is.0 a in (
      either_told e f own mixed m o is.0 d ∙ table_same (λ n. e n || f n) (one_mixes (voices inner ++ voices rest)) 128 (λ k lt. sym (list_any-append (λ v. mixes v k) (voices inner) (voices rest))),
      either_told (λ n. e n && f n) (two_mix rest) more shared s met is.1 b,
    )
