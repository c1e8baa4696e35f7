-- Nothing of what waits for clients is lost.
use Rattle.std.proofs.Common.{◌≡◌, ℕ, List, sym, subst}
use Rattle.sn_reply.specs.Frames.{with_frames, EachBegins}
use Rattle.sn_reply.specs.Replies.{ReplyShape}
use Rattle.sn_reply.proofs.FrameLaws.{each_begins_refl, frames_behind}

-- ---- if nothing was sent

pub none_lost : (old now : List (List ℕ)) → now ≡ old → EachBegins old now
none_lost old now same = subst (λ (ts : List (List ℕ)). EachBegins old ts) (sym same) (each_begins_refl old)

pub none_sent : (old now : List (List ℕ)) (rs : List ReplyShape) → now ≡ old → EachBegins now (with_frames 0 rs old)
none_sent old now rs same = subst (λ (ts : List (List ℕ)). EachBegins ts (with_frames 0 rs old)) (sym same) (frames_behind 0 rs old)

-- ---- if some was

still_waits : (before old now new : List (List ℕ)) → before ≡ old → now ≡ new → EachBegins before new → EachBegins old now
still_waits before old now new is same h = subst (λ (ts : List (List ℕ)). EachBegins ts now) is (subst (λ (ts : List (List ℕ)). EachBegins before ts) (sym same) h)

pub front_waits : (before old now new : List (List ℕ)) (said rs : List ReplyShape) → before ≡ old → now ≡ new → said ≡ rs → EachBegins new (with_frames 0 said before) → EachBegins now (with_frames 0 rs old)
front_waits before old now new said rs is same told h = still_waits new now (with_frames 0 rs old) (with_frames 0 said before) (sym same) (sym (λ i. with_frames 0 (told i) (is i))) h

pub all_waits : (now all : List (List ℕ)) → now ≡ all → EachBegins now all
all_waits now all same = none_lost now all (sym same)
