use Rattle.std.proofs.Common.{◌≡◌, ◌-◌, [], List, ◌∷◌, length, take, refl, sym, ap, ◌∙◌, arith}
use Rattle.std.specs.Prelude.{vec_len}
use Rattle.sn_reply.specs.declared.replies.Mark.{Mark}
use Rattle.sn_reply.proofs.Framed.{hold_of, are_framed, read_as, cut_last, none_cut, same}
use Rattle.sn_reply.proofs.replies.Replies.drop_last.Goals as goal

no_items : (marks : List Mark) → length marks ≡ 0 → marks ≡ []
no_items [] none = refl
no_items (m ∷ ms) none = absurd (omega (arith, none))

pub overflow_sub-kept : goal.overflow_sub-kept
overflow_sub-kept c =
    let inside = c.self.inside in
    let before = hold_of inside.frames.bytes inside.marks.items c.args.self.now c.self.invariant c.self.view_is in
    let w = cut_last inside.frames.bytes inside.marks.items c.pop.new.self.items c.in-Some.mark c.args.self.now before c.in-Some.ensures.items in
    omega (arith, w.fits, c.len.ensures)

pub invariant_of-self : goal.invariant_of-self
invariant_of-self c =
    let inside = c.self.inside in
    let before = hold_of inside.frames.bytes inside.marks.items c.args.self.now c.self.invariant c.self.view_is in
    let cases : (vec_len inside.marks ≡ 0) × (vec_len c.pop.new.self ≡ 0) = rw c.in_default.is at c.pop.ensures.cases in
    let none = no_items inside.marks.items (sym inside.marks.ok.0 ∙ cases.0) in
    let left = no_items c.pop.new.self.items (sym c.pop.new.self.ok.0 ∙ cases.1) in
    are_framed inside.frames.bytes c.pop.new.self.items (take (length c.args.self.now - 1) c.args.self.now) (none_cut inside.frames.bytes inside.marks.items c.pop.new.self.items c.args.self.now before none left)

pub returns-in_default : goal.returns-in_default
returns-in_default c =
    let inside = c.self.inside in
    let before = hold_of inside.frames.bytes inside.marks.items c.args.self.now c.self.invariant c.self.view_is in
    let cases : (vec_len inside.marks ≡ 0) × (vec_len c.pop.new.self ≡ 0) = rw c.in_default.is at c.pop.ensures.cases in
    let none = no_items inside.marks.items (sym inside.marks.ok.0 ∙ cases.0) in
    let left = no_items c.pop.new.self.items (sym c.pop.new.self.ok.0 ∙ cases.1) in
    read_as inside.frames.bytes c.pop.new.self.items (take (length c.args.self.now - 1) c.args.self.now) (none_cut inside.frames.bytes inside.marks.items c.pop.new.self.items c.args.self.now before none left)

pub invariant_of-self-2 : goal.invariant_of-self-2
invariant_of-self-2 c =
    let inside = c.self.inside in
    let before = hold_of inside.frames.bytes inside.marks.items c.args.self.now c.self.invariant c.self.view_is in
    let w = cut_last inside.frames.bytes inside.marks.items c.pop.new.self.items c.in-Some.mark c.args.self.now before c.in-Some.ensures.items in
    let size : c.len.result - c.in-Some.mark.len ≡ length inside.frames.bytes - c.in-Some.mark.len = ap (λ n. n - c.in-Some.mark.len) c.len.ensures in
    let kept : c.keep_front.new.text.bytes ≡ take (length inside.frames.bytes - c.in-Some.mark.len) inside.frames.bytes = c.keep_front.ensures ∙ ap (λ n. take n inside.frames.bytes) size in
    let left = take (length c.args.self.now - 1) c.args.self.now in
    are_framed c.keep_front.new.text.bytes c.pop.new.self.items left
    (same (take (length inside.frames.bytes - c.in-Some.mark.len) inside.frames.bytes) c.keep_front.new.text.bytes c.pop.new.self.items c.pop.new.self.items left w.kept kept refl)

pub returns : goal.returns
returns c =
    let inside = c.self.inside in
    let before = hold_of inside.frames.bytes inside.marks.items c.args.self.now c.self.invariant c.self.view_is in
    let w = cut_last inside.frames.bytes inside.marks.items c.pop.new.self.items c.in-Some.mark c.args.self.now before c.in-Some.ensures.items in
    let size : c.len.result - c.in-Some.mark.len ≡ length inside.frames.bytes - c.in-Some.mark.len = ap (λ n. n - c.in-Some.mark.len) c.len.ensures in
    let kept : c.keep_front.new.text.bytes ≡ take (length inside.frames.bytes - c.in-Some.mark.len) inside.frames.bytes = c.keep_front.ensures ∙ ap (λ n. take n inside.frames.bytes) size in
    let left = take (length c.args.self.now - 1) c.args.self.now in
    read_as c.keep_front.new.text.bytes c.pop.new.self.items left
    (same (take (length inside.frames.bytes - c.in-Some.mark.len) inside.frames.bytes) c.keep_front.new.text.bytes c.pop.new.self.items c.pop.new.self.items left w.kept kept refl)
