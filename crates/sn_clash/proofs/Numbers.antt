-- The numbers of the resources on which members clash.
use Rattle.std.proofs.Common.{◌≡◌, ◌≤◌, ◌<◌, ℕ, zero, suc, ℤ, Bool, true, false, List, [], ◌∷◌, ◌++◌, map, take, refl, arith}
use Rattle.std.specs.Prelude.{if◌then◌else◌}
use Rattle.std.specs.List.{All, filter}
use Rattle.std.proofs.lemmas.List.Elements.{All-nil, All-cons, All-head, All-tail, All-append, All-filter, All-take}
use Rattle.sn_mem.specs.Blocks.{table}
use Rattle.sn_tree.specs.Trees.{Nodes, none, node}
use Rattle.sn_world.specs.declared.stage.Stage.{Stage}
use Rattle.sn_foot.specs.declared.resource.Resource.{Resource}
use Rattle.sn_foot.specs.declared.resource.Resource.TheVariants.{Audio, Control, Buffer}
use Rattle.sn_foot.specs.declared.uses.Role.{Role}
use Rattle.sn_foot.specs.Footprints.{clash_on, is_there, number_of}
use Rattle.sn_foot.specs.Uses.{held_uses}
use Rattle.sn_clash.specs.declared.clash.Clash.{Clash}
use Rattle.sn_clash.specs.Clashing.{Member, clashes, clashes_among, clashes_in, clashes_with, is_parallel, members, resources}

abbrev pub IsSmall : Clash → Type 0
IsSmall c = number_of c.resource < 1024

abbrev HasSmall : Resource → Type 0
HasSmall r = number_of r < 1024

small_table : (f : ℕ → Resource) (n : ℕ) → n ≤ 1024 → ((k : ℕ) → number_of (f k) ≡ k) → All HasSmall (table f n)
unfolding table
small_table f zero h is = All-nil HasSmall
small_table f (suc n) h is =
    All-append HasSmall (table f n) (f n ∷ []) (small_table f n (omega (arith, h)) is)
    (All-cons HasSmall (f n) [] (omega (arith, h, is n)) (All-nil HasSmall))

small_resources : All HasSmall resources
unfolding resources
small_resources =
    All-append HasSmall (table Audio 128) (table Control 1024 ++ table Buffer 1024)
    (small_table Audio 128 (omega arith) (λ k. refl))
    (All-append HasSmall (table Control 1024) (table Buffer 1024)
    (small_table Control 1024 (omega arith) (λ k. refl))
    (small_table Buffer 1024 (omega arith) (λ k. refl)))

small_mapped : (f : Resource → Clash) → ((r : Resource) → HasSmall r → IsSmall (f r)) → (rs : List Resource) → All HasSmall rs → All IsSmall (map f rs)
small_mapped f keeps [] all = All-nil IsSmall
small_mapped f keeps (r ∷ rs) all = All-cons IsSmall (f r) (map f rs) (keeps r (All-head HasSmall r rs all)) (small_mapped f keeps rs (All-tail HasSmall r rs all))

small_with : (id : ℤ) (a : Member) (bs : List Member) → All IsSmall (clashes_with id a bs)
small_with id a [] = All-nil IsSmall
small_with id a (b ∷ bs) =
    let test : Resource → Bool = clash_on a.uses b.uses in
    let told : Resource → Clash = λ r. record { group = id; first = a.id; second = b.id; resource = r } in
    All-append IsSmall (map told (filter test resources)) (clashes_with id a bs)
    (small_mapped told (λ r h. h) (filter test resources) (All-filter test HasSmall resources small_resources))
    (small_with id a bs)

small_among : (id : ℤ) (ms : List Member) → All IsSmall (clashes_among id ms)
small_among id [] = All-nil IsSmall
small_among id (a ∷ bs) = All-append IsSmall (clashes_with id a bs) (clashes_among id bs) (small_with id a bs) (small_among id bs)

either_small : (b : Bool) (xs ys : List Clash) → All IsSmall xs → All IsSmall ys → All IsSmall (if b then xs else ys)
either_small true xs ys p q = p
either_small false xs ys p q = q

module _ {P : Type 0} (there : Resource → Bool) (uses : Role → P → Resource → Bool) where
  small_clashes : (t : Nodes P) → All IsSmall (clashes there uses t)
  small_clashes none = All-nil IsSmall
  small_clashes (node label below after) =
      let first : List Clash = take 1 (clashes_among label.id (members there uses below)) in
      let own : List Clash = if is_parallel label.kind then first else [] in
      let rest : List Clash = clashes there uses below ++ clashes there uses after in
      either_small label.running (own ++ rest) (clashes there uses after)
      (All-append IsSmall own rest
      (either_small (is_parallel label.kind) first [] (All-take IsSmall 1 (clashes_among label.id (members there uses below)) (small_among label.id (members there uses below))) (All-nil IsSmall))
      (All-append IsSmall (clashes there uses below) (clashes there uses after) (small_clashes below) (small_clashes after)))
      (small_clashes after)

pub small_in : (stage : Stage) → All IsSmall (clashes_in stage)
small_in stage = small_clashes (is_there stage.buffers) held_uses stage.tree.attached
