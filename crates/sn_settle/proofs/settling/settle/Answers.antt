use Rattle.std.proofs.Common.{◌≡◌, ◌≤◌, ◌*◌, ◌++◌, ◌∙◌, length, get_or, ap, sym, subst, arith, List, [], ℕ, All, true≢false}
use Rattle.std.proofs.lemmas.Bool.{eqb-true}
use Rattle.sn_tree.specs.Trees.{running_labels}
use Rattle.sn_world.specs.declared.endings.Ending.{Ending}
use Rattle.sn_world.specs.Pictures.{Pictures}
use Rattle.sn_world.specs.Settling.{all_acted}
use Rattle.sn_world.specs.SettleWords.{walk_endings, settled_walk}
use Rattle.sn_world.specs.World.{Turn, world_of}
use Rattle.sn_settle.specs.Telling.{HaveRoom}
use Rattle.sn_settle.specs.Acting.{IsActed, IsBelowRoot}
use Rattle.sn_settle.proofs.Rooted.{endings_below}
use Rattle.sn_settle.proofs.Reading.{nothing, none_there}
use Rattle.sn_settle.proofs.Sending.{room_kept}
use Rattle.sn_settle.proofs.Settled.{long, outside_kept, ended, settled_is, all_sent, pictured, none_acted, same_words, can_look, room_to_act}
use Rattle.sn_settle.proofs.settling.settle.Goals as goal

pub look_at_all-requires-clause-can : goal.look_at_all-requires-clause-can
look_at_all-requires-clause-can g c =
    can_look c.args.stage.now c.args.block (g.P.Port.words c.args.port.now) c.requires.pictures c.args.outs.now c.clear.new.self c.requires.clients c.requires.bytes (omega (arith, c.requires.room, c.clear.ensures.room))

pub returns-then-is_empty-clause-world : goal.returns-then-is_empty-clause-world
returns-then-is_empty-clause-world g c =
    let stage = c.args.stage.now in
    let ws = g.P.Port.words c.args.port.now in
    let are : c.as_slice.result.now ≡ walk_endings stage.rate (running_labels stage.tree.attached) ws = c.as_slice.ensures ∙ c.look_at_all.ensures.seen.noted.items ∙ ap (λ (xs : List Ending). xs ++ walk_endings stage.rate (running_labels stage.tree.attached) ws) c.clear.ensures.items in
    let few : length c.as_slice.result.now ≤ 0 = omega (arith, eqb-true (length c.as_slice.result.now) 0 (sym c.if-is_empty.ensures)) in
    let nil : walk_endings stage.rate (running_labels stage.tree.attached) ws ≡ [] = sym are ∙ nothing c.as_slice.result.now few in
    ap (world_of stage) (c.look_at_all.ensures.words ∙ sym (same_words stage c.args.block ws c.requires.pictures nil))
    ∙ sym (ap (λ (t : Turn). t.world) (settled_is stage c.args.block ws c.requires.pictures stage c.args.outs.now c.look_at_all.new.outs c.look_at_all.new.outs 0 c.look_at_all.ensures.seen.told (none_acted stage c.args.block ws c.requires.pictures c.look_at_all.new.outs nil)))

pub returns-then-is_empty-clause-sent : goal.returns-then-is_empty-clause-sent
returns-then-is_empty-clause-sent g c =
    let stage = c.args.stage.now in
    let ws = g.P.Port.words c.args.port.now in
    let are : c.as_slice.result.now ≡ walk_endings stage.rate (running_labels stage.tree.attached) ws = c.as_slice.ensures ∙ c.look_at_all.ensures.seen.noted.items ∙ ap (λ (xs : List Ending). xs ++ walk_endings stage.rate (running_labels stage.tree.attached) ws) c.clear.ensures.items in
    let few : length c.as_slice.result.now ≤ 0 = omega (arith, eqb-true (length c.as_slice.result.now) 0 (sym c.if-is_empty.ensures)) in
    let nil : walk_endings stage.rate (running_labels stage.tree.attached) ws ≡ [] = sym are ∙ nothing c.as_slice.result.now few in
    all_sent stage c.args.block ws c.requires.pictures stage c.args.outs.now c.look_at_all.new.outs c.look_at_all.new.outs 0 c.look_at_all.ensures.seen.told (none_acted stage c.args.block ws c.requires.pictures c.look_at_all.new.outs nil)

pub act_all-requires-clause-room : goal.act_all-requires-clause-room
act_all-requires-clause-room g c =
    let stage = c.args.stage.now in
    let ws = g.P.Port.words c.args.port.now in
    let are : c.as_slice-2.result.now ≡ walk_endings stage.rate (running_labels stage.tree.attached) ws = c.as_slice-2.ensures ∙ c.look_at_all.ensures.seen.noted.items ∙ ap (λ (xs : List Ending). xs ++ walk_endings stage.rate (running_labels stage.tree.attached) ws) c.clear.ensures.items in
    subst (λ (es : List Ending). HaveRoom (48 * length es) c.look_at_all.new.outs) (sym are) (room_to_act stage c.args.block ws c.requires.pictures c.args.outs.now c.look_at_all.new.outs c.requires.bytes c.look_at_all.ensures.seen.told)

pub act_all-requires-clause-others : goal.act_all-requires-clause-others
act_all-requires-clause-others g c =
    let stage = c.args.stage.now in
    let ws = g.P.Port.words c.args.port.now in
    let are : c.as_slice-2.result.now ≡ walk_endings stage.rate (running_labels stage.tree.attached) ws = c.as_slice-2.ensures ∙ c.look_at_all.ensures.seen.noted.items ∙ ap (λ (xs : List Ending). xs ++ walk_endings stage.rate (running_labels stage.tree.attached) ws) c.clear.ensures.items in
    subst (All IsBelowRoot) (sym are)
    (endings_below stage.rate stage.pool.region stage.tree.attached ws c.requires.pictures.synths c.root_holds_all.ensures c.root_is_a_group.ensures c.root_is_on_top.ensures)

pub returns-clause-world : goal.returns-clause-world
returns-clause-world g c =
    let stage = c.args.stage.now in
    let ws = g.P.Port.words c.args.port.now in
    let are : c.as_slice-2.result.now ≡ walk_endings stage.rate (running_labels stage.tree.attached) ws = c.as_slice-2.ensures ∙ c.look_at_all.ensures.seen.noted.items ∙ ap (λ (xs : List Ending). xs ++ walk_endings stage.rate (running_labels stage.tree.attached) ws) c.clear.ensures.items in
    let acts = subst (λ (es : List Ending). IsActed (length es) (all_acted es) stage c.act_all.new.stage c.look_at_all.new.outs c.act_all.new.outs) are c.act_all.ensures.acted in
    let words = c.settle_words.ensures.words in
    ap (world_of c.act_all.new.stage) (words ∙ ap (λ (us : List ℕ). settled_walk stage.rate (running_labels stage.tree.attached) us) c.look_at_all.ensures.words)
    ∙ sym (ap (λ (t : Turn). t.world) (settled_is stage c.args.block ws c.requires.pictures c.act_all.new.stage c.args.outs.now c.look_at_all.new.outs c.act_all.new.outs _ c.look_at_all.ensures.seen.told acts))

pub returns-clause-sent : goal.returns-clause-sent
returns-clause-sent g c =
    let stage = c.args.stage.now in
    let ws = g.P.Port.words c.args.port.now in
    let are : c.as_slice-2.result.now ≡ walk_endings stage.rate (running_labels stage.tree.attached) ws = c.as_slice-2.ensures ∙ c.look_at_all.ensures.seen.noted.items ∙ ap (λ (xs : List Ending). xs ++ walk_endings stage.rate (running_labels stage.tree.attached) ws) c.clear.ensures.items in
    let acts = subst (λ (es : List Ending). IsActed (length es) (all_acted es) stage c.act_all.new.stage c.look_at_all.new.outs c.act_all.new.outs) are c.act_all.ensures.acted in
    all_sent stage c.args.block ws c.requires.pictures c.act_all.new.stage c.args.outs.now c.look_at_all.new.outs c.act_all.new.outs _ c.look_at_all.ensures.seen.told acts

pub returns-clause-pictures : goal.returns-clause-pictures
returns-clause-pictures g c =
    let stage = c.args.stage.now in
    let ws = g.P.Port.words c.args.port.now in
    let are : c.as_slice-2.result.now ≡ walk_endings stage.rate (running_labels stage.tree.attached) ws = c.as_slice-2.ensures ∙ c.look_at_all.ensures.seen.noted.items ∙ ap (λ (xs : List Ending). xs ++ walk_endings stage.rate (running_labels stage.tree.attached) ws) c.clear.ensures.items in
    let acts = subst (λ (es : List Ending). IsActed (length es) (all_acted es) stage c.act_all.new.stage c.look_at_all.new.outs c.act_all.new.outs) are c.act_all.ensures.acted in
    subst (Pictures c.act_all.new.stage) (sym (c.settle_words.ensures.words ∙ ap (λ (us : List ℕ). settled_walk stage.rate (running_labels stage.tree.attached) us) c.look_at_all.ensures.words))
    (pictured stage c.args.block ws c.requires.pictures c.act_all.new.stage c.args.outs.now c.look_at_all.new.outs c.act_all.new.outs _ c.look_at_all.ensures.seen.told acts)

pub returns-clause-len : goal.returns-clause-len
returns-clause-len g c =
    let stage = c.args.stage.now in
    ap (λ (us : List ℕ). length us) (c.settle_words.ensures.words ∙ ap (λ (us : List ℕ). settled_walk stage.rate (running_labels stage.tree.attached) us) c.look_at_all.ensures.words)
    ∙ long stage c.args.block (g.P.Port.words c.args.port.now) c.requires.pictures

pub returns-then-is_empty-clause-others : goal.returns-then-is_empty-clause-others
returns-then-is_empty-clause-others g c = λ k behind past. ap (λ (us : List ℕ). get_or us k 0) c.look_at_all.ensures.words

pub returns-clause-others : goal.returns-clause-others
returns-clause-others g c = λ k behind past.
    let stage = c.args.stage.now in
    ap (λ (us : List ℕ). get_or us k 0) (c.settle_words.ensures.words ∙ ap (λ (us : List ℕ). settled_walk stage.rate (running_labels stage.tree.attached) us) c.look_at_all.ensures.words)
    ∙ outside_kept stage c.args.block (g.P.Port.words c.args.port.now) c.requires.pictures k behind past

pub returns-clause-idle : goal.returns-clause-idle
returns-clause-idle g c = λ none.
    let stage = c.args.stage.now in
    let ws = g.P.Port.words c.args.port.now in
    let are : c.as_slice.result.now ≡ walk_endings stage.rate (running_labels stage.tree.attached) ws = c.as_slice.ensures ∙ c.look_at_all.ensures.seen.noted.items ∙ ap (λ (xs : List Ending). xs ++ walk_endings stage.rate (running_labels stage.tree.attached) ws) c.clear.ensures.items in
    absurd (true≢false (none_there c.as_slice.result.now (sym c.if-is_empty.ensures) (are ∙ sym (ended stage c.args.block ws c.requires.pictures) ∙ none)))

pub returns-then-is_empty-clause-endings : goal.returns-then-is_empty-clause-endings
returns-then-is_empty-clause-endings g c =
    let stage = c.args.stage.now in
    let ws = g.P.Port.words c.args.port.now in
    c.look_at_all.ensures.seen.noted.items ∙ ap (λ (xs : List Ending). xs ++ walk_endings stage.rate (running_labels stage.tree.attached) ws) c.clear.ensures.items ∙ sym (ended stage c.args.block ws c.requires.pictures)

pub returns-clause-endings : goal.returns-clause-endings
returns-clause-endings g c =
    let stage = c.args.stage.now in
    let ws = g.P.Port.words c.args.port.now in
    c.look_at_all.ensures.seen.noted.items ∙ ap (λ (xs : List Ending). xs ++ walk_endings stage.rate (running_labels stage.tree.attached) ws) c.clear.ensures.items ∙ sym (ended stage c.args.block ws c.requires.pictures)

pub returns-then-is_empty-clause-kept : goal.returns-then-is_empty-clause-kept
returns-then-is_empty-clause-kept g c = room_kept _ c.args.endings.now c.clear.new.self c.look_at_all.new.endings c.clear.ensures.items c.clear.ensures.room c.look_at_all.ensures.seen.noted

pub returns-clause-kept : goal.returns-clause-kept
returns-clause-kept g c = room_kept _ c.args.endings.now c.clear.new.self c.look_at_all.new.endings c.clear.ensures.items c.clear.ensures.room c.look_at_all.ensures.seen.noted
