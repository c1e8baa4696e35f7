-- Clashes and plans that are kept if the layout stays.
use Rattle.std.proofs.Common.{◌≡◌, ◌<◌, ◌+◌, ℕ, suc, arith, Bool, true, List, [], ◌∷◌, ◌++◌, map, drop, length, get_or, sym, ap, subst, ◌∙◌, append-nil}
use Rattle.std.specs.List.{AllByRecursion}
use Rattle.std.proofs.Math.Seq.{drop-cons}
use Rattle.sn_osc.specs.declared.packet.Message.{Message}
use Rattle.sn_osc.specs.Shape.{MessageShape, message_of}
use Rattle.sn_reply.specs.Replies.{ReplyShape}
use Rattle.sn_reply.specs.Sending.{IsAnswerable}
use Rattle.sn_round.specs.declared.jobs.Job.{Job}
use Rattle.sn_world.specs.declared.stage.Stage.{Stage}
use Rattle.sn_world.specs.World.{World, Turn, world_of}
use Rattle.sn_clash.specs.declared.clash.Clash.{Clash}
use Rattle.sn_clash.specs.Clashing.{clashes_of}
use Rattle.sn_mem.specs.declared.extents.Extent.{Extent}
use Rattle.sn_graph.specs.Lanes.{with_lanes}
use Rattle.sn_graph.specs.Voices.{HeardNodes}
use Rattle.sn_graph.specs.Plans.{IsPlanned, plan_of}
use Rattle.sn_layout.specs.Layout.{layout_of}
use Rattle.sn_settle.specs.declared.eventful.Eventful.{Eventful}
use Rattle.sn_layout.specs.Leaving.{LeavesLayout}
use Rattle.sn_layout.proofs.Voices.{clashes_alike, quiet_alike, nodes_alike, clashes_anyhow, quiet_anyhow}
use Rattle.sn_engine.specs.declared.acting.Asked.{Asked}
use Rattle.sn_engine.specs.Boundary.{Acted, acted, act_message, act_messages, asked_by, both, messages_ask}
use Rattle.sn_engine.specs.Clashing.{told_clashes}
use Rattle.sn_engine.specs.Holding.{AreClashesOf, LayoutStays}
use Rattle.sn_engine.proofs.WeighingLemmas.{lanes_alike, lanes_anyhow}
use Rattle.sn_engine.specs.Planning.{IsPlanOf, IsPlannedFor, first_lane, laned_nodes, lanes_for}
use Rattle.sn_engine.proofs.ActingLemmas.{both-assoc}
use Rattle.sn_engine.proofs.EventfulLemmas.{eventful_stays}
use Rattle.sn_engine.proofs.CompletionLemmas.{none_carried}
use Rattle.sn_engine.proofs.ToldLemmas.{none_told}

-- ---- messages that act

-- one message, after which no completion message acts
pub one_stays : (from : ℕ) (m : MessageShape) (t after : Turn) (before now : Bool) → after ≡ (act_message from m t).turn → (now ≡ true → before ≡ true) → (now ≡ true → LeavesLayout m t) → LayoutStays before now t.world after.world
one_stays from m t after before now acts so_far leaves = λ is.
    let left = leaves is in
    (so_far is, ap (λ (u : Turn). layout_of u.world) (acts ∙ ap (λ (a : Acted). a.turn) (none_carried 8 from (acted from m t) (left.alone from))) ∙ left.layout from)

pub then_stays : (a b c : Bool) (u v w : World) → LayoutStays a b u v → LayoutStays b c v w → LayoutStays a c u w
then_stays a b c u v w first next = λ is.
    let later = next is in
    let sooner = first later.0 in
    (sooner.0, later.1 ∙ sooner.1)

-- one of some messages of a client, and those after it
module _ (from : ℕ) (ms : List Message) (i : ℕ) (m : Message) (within : i < length ms) (is : m ≡ get_or ms i m) (before after : Turn) (acts : after ≡ (act_message from (message_of m) before).turn) where
  split : map message_of (drop i ms) ≡ message_of m ∷ map message_of (drop (i + 1) ms)
  split =
      let next : suc i ≡ i + 1 = omega arith in
      ap (map message_of) (drop-cons ms i m within)
      ∙ ap (λ (k : ℕ). message_of (get_or ms i m) ∷ map message_of (drop k ms)) next
      ∙ ap (λ (x : Message). message_of x ∷ map message_of (drop (i + 1) ms)) (sym is)

  pub more_acts : act_messages from (map message_of (drop (i + 1) ms)) after ≡ act_messages from (map message_of (drop i ms)) before
  more_acts = ap (act_messages from (map message_of (drop (i + 1) ms))) acts ∙ ap (λ (xs : List MessageShape). act_messages from xs before) (sym split)

  pub more_asked : (asked more whole : Asked) → whole ≡ both asked more → more ≡ asked_by (act_message from (message_of m) before).next
      → both whole (messages_ask from (map message_of (drop (i + 1) ms)) after) ≡ both asked (messages_ask from (map message_of (drop i ms)) before)
  more_asked asked more whole sum tells =
      let rest = messages_ask from (map message_of (drop (i + 1) ms)) after in
      ap (λ (a : Asked). both a rest) sum
      ∙ both-assoc asked more rest
      ∙ ap (both asked)
      ((λ k. both (tells k) (messages_ask from (map message_of (drop (i + 1) ms)) (acts k)))
      ∙ ap (λ (xs : List MessageShape). messages_ask from xs before) (sym split))

  pub more_left : AllByRecursion IsAnswerable (map message_of (drop i ms)) → AllByRecursion IsAnswerable (map message_of (drop (i + 1) ms))
  more_left all = (subst (AllByRecursion IsAnswerable) split all).1

-- ---- what is kept

module _ (old new : Stage) (us vs : List ℕ) (same : layout_of (world_of new vs) ≡ layout_of (world_of old us)) where
  pub clashes_stay : (cs : List Clash) → AreClashesOf old cs → AreClashesOf new cs
  clashes_stay cs h = λ words. h us ∙ clashes_alike (world_of old us) (world_of new vs) (sym same) ∙ clashes_anyhow new vs words

  abbrev plan_stays : (jobs : List Job) → new.pool.region ≡ old.pool.region → IsPlanOf old jobs → IsPlanOf new jobs
  plan_stays jobs region h =
      let at : first_lane old ≡ first_lane new = ap (λ (e : Extent). (10368 + e.len) + 16384) (sym region) in
      let nodes : laned_nodes h.laned old ≡ laned_nodes h.laned new = λ i. with_lanes (at i) (lanes_for h.laned) (nodes_alike old new us vs (sym same) i) in
      record {
        laned = h.laned;
        jobs_are = h.jobs_are ∙ ap plan_of nodes;
        planned = subst (λ (n : HeardNodes). IsPlanned n jobs) nodes h.planned;
        order = h.order;
        free = h.free;
        few = h.few;
      }

  pub planned_stays : (workers : ℕ) (jobs : List Job) (quiet : Bool) (eventful : Eventful) → new.pool.region ≡ old.pool.region → IsPlannedFor workers old jobs quiet eventful → IsPlannedFor workers new jobs quiet eventful
  planned_stays workers jobs quiet eventful region h = record {
    plan = plan_stays jobs region h.plan;
    lanes_are = λ words. h.lanes_are us ∙ lanes_alike workers (world_of old us) (world_of new vs) (sym same) ∙ lanes_anyhow workers new vs words;
    quiet_is = λ words. h.quiet_is us ∙ quiet_alike (world_of old us) (world_of new vs) (sym same) ∙ quiet_anyhow new vs words;
    eventful_is = eventful_stays old new us vs same eventful h.eventful_is;
  }

-- clashes that stay are not told again
pub told_again : (said : List ReplyShape) (held : List Clash) (w : World) → held ≡ clashes_of w → said ≡ said ++ told_clashes held (clashes_of w)
told_again said held w is = sym (ap (λ (cs : List Clash). said ++ told_clashes held cs) (sym is) ∙ ap (λ (rs : List ReplyShape). said ++ rs) (none_told held) ∙ append-nil said)
