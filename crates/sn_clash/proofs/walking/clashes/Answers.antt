use Rattle.std.proofs.Common.{◌≡◌, ◌∙◌, ℕ, List, sym, subst}
use Rattle.std.specs.List.{All}
use Rattle.std.proofs.lemmas.Result.{IfOk-weaker}
use Rattle.sn_world.specs.World.{world_of}
use Rattle.sn_clash.specs.declared.clash.Clash.{Clash}
use Rattle.sn_clash.specs.Clashing.{clashes_in, clashes_of}
use Rattle.sn_clash.proofs.Numbers.{IsSmall, small_in}
use Rattle.sn_clash.proofs.Worlds.{same_clashes}
use Rattle.sn_clash.proofs.walking.clashes.Goals as goal

pub returns-clause-world : goal.returns-clause-world
returns-clause-world c =
    let stage = c.args.stage.now in
    IfOk-weaker c.all_clashes.result (λ (found : List Clash). found ≡ clashes_in stage) (λ (found : List Clash). (words : List ℕ) → found ≡ clashes_of (world_of stage words))
    (λ found e words. e ∙ sym (same_clashes stage words)) c.all_clashes.ensures

pub returns-clause-small : goal.returns-clause-small
returns-clause-small c =
    let stage = c.args.stage.now in
    IfOk-weaker c.all_clashes.result (λ (found : List Clash). found ≡ clashes_in stage) (All IsSmall)
    (λ found e. subst (All IsSmall) (sym e) (small_in stage)) c.all_clashes.ensures
