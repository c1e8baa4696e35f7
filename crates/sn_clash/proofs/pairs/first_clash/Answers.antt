use Rattle.std.proofs.Common.{◌≡◌, ◌<◌, ◌∙◌, ◌+◌, ◌-◌, ℕ, ℤ, Bool, Option, arith, ap, take, length, w32, to_z, of_z, rules}
use Rattle.std.specs.Prelude.{FitsSigned}
use Rattle.std.proofs.lemmas.Int.{to_z-of_z}
use Rattle.std.proofs.lemmas.Result.{IfOk-weaker}
use Rattle.sn_foot.specs.declared.resource.Resource.{Resource}
use Rattle.sn_clash.specs.declared.clash.Clash.{Clash}
use Rattle.sn_foot.specs.Footprints.{is_there}
use Rattle.sn_clash.specs.Clashing.{clashes_among, clashes_with}
use Rattle.sn_clash.specs.Marking.{listed}
use Rattle.sn_clash.specs.Passing.{member_of, members_of}
use Rattle.sn_clash.proofs.Members.{no_pair, some_pair}
use Rattle.sn_clash.proofs.pairs.first_clash.Goals as goal

pub returns-then-count-eq0 : goal.returns-then-count-eq0
returns-then-count-eq0 c = no_pair (is_there c.args.buffers.now) c.args.group c.args.members.now c.in_ok-count.count c.if-count-eq0.true c.in_ok-count.ensures.first

pub returns : goal.returns
returns c =
    let there : Resource → Bool = is_there c.args.buffers.now in
    let es = c.args.members.now in
    let n : ℕ = c.in_ok-count.count in
    let m : ℕ = n - 1 in
    let x = c.index-members-count.result in
    let is : n ≡ m + 1 = omega (arith, c.if-count-eq0.false) in
    let lt : m < length c.args.members.now = omega (arith, c.if-count-eq0.false, c.in_ok-count.ensures.within) in
    let fits : FitsSigned w32 c.args.group = search rules in
    let g : ℤ = to_z w32 (of_z w32 c.args.group) in
    let same : g ≡ c.args.group = to_z-of_z w32 c.args.group fits in
    IfOk-weaker c.first_with.result
    (λ (found : Option Clash). listed found ≡ take 1 (clashes_with g (member_of there x) (members_of there (take m es))))
    (λ (found : Option Clash). listed found ≡ take 1 (clashes_among c.args.group (members_of there es)))
    (λ found e. e
    ∙ ap (λ (k : ℤ). take 1 (clashes_with k (member_of there x) (members_of there (take m es)))) same
    ∙ some_pair there c.args.group es n m x is lt c.index-members-count.is c.in_ok-count.ensures.first)
    c.first_with.ensures
