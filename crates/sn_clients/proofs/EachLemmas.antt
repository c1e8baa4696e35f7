-- The steps of an engine only add to the bytes of each client.
use Rattle.std.proofs.Common.{◌≡◌, ℕ, zero, suc, ◌+◌, ◌<◌, Bool, true, false, List, [], ◌∷◌, ◌++◌, length, replicate, Result, Ok, Err, refl, sym, ap, subst, ◌∙◌, append_assoc, append-nil, arith}
use Rattle.std.specs.Prelude.{slice_index_or}
use Rattle.std.proofs.lemmas.List.{length-replicate}
use Rattle.sn_ports.specs.Transfer.{Before}
use Rattle.sn_osc.specs.Reading.{read}
use Rattle.sn_osc.specs.Shape.{Shape}
use Rattle.sn_osc.specs.declared.fault.PacketFault.{PacketFault}
use Rattle.sn_pcm.specs.Pcm.{pcm}
use Rattle.sn_reply.specs.Frames.{EachBegins, frames_to, with_frames}
use Rattle.sn_reply.specs.Replies.{ReplyShape}
use Rattle.sn_reply.proofs.FrameLaws.{as_many, begins_refl, begins_trans, each_begins_refl, each_begins_trans, first_sent, none_sent}
use Rattle.sn_world.specs.Walk.{walk}
use Rattle.sn_engine.specs.Arriving.{offered, with_offered}
use Rattle.sn_engine.specs.Boundary.{replies_at}
use Rattle.sn_engine.specs.Entries.{entries_of}
use Rattle.sn_engine.specs.Outputs.{outputs}
use Rattle.sn_engine.specs.Refusing.{bad_packet, with_bad_packet}
use Rattle.sn_engine.specs.Running.{Running, at_boundary, flow_at, turn_settled, with_block, with_settled}
use Rattle.sn_engine.specs.declared.standing.Flow.{Flow}
use Rattle.sn_engine.specs.declared.standing.Flow.TheVariants as flows
use Rattle.sn_render.specs.Play.{after_block}
use Rattle.sn_render.proofs.StepLemmas.{holding, begins_more}
use Rattle.sn_clients.specs.PlayMany.{Played, arrived, ticks, unless_quit, with_packet}
use Rattle.sn_clients.specs.Written.{emptied}

-- bytes before those that each client is to be sent
abbrev pub each_behind : List (List ℕ) → List (List ℕ) → List (List ℕ)
each_behind [] out = out
each_behind (s ∷ ss) [] = []
each_behind (s ∷ ss) (t ∷ ts) = (s ++ t) ∷ each_behind ss ts

-- what was written, and after it what an engine still holds
abbrev pub behind_all : List ℕ → List (List ℕ) → Running → Running
behind_all sound said r = record r { sound = sound ++ r.sound; replies = each_behind said r.replies }

-- a step that does the same, whatever was written before it
pub record IsStep (f : Running → Running) : Type 0 where
  pub adds : (sound : List ℕ) (said : List (List ℕ)) (r : Running) → f (behind_all sound said r) ≡ behind_all sound said (f r)
  pub clients : (r : Running) → length (f r).replies ≡ length r.replies

pub both_steps : (f g : Running → Running) → IsStep f → IsStep g → IsStep (λ r. g (f r))
both_steps f g one other = record {
  adds = λ sound said r. ap g (one.adds sound said r) ∙ other.adds sound said (f r);
  clients = λ r. other.clients (f r) ∙ one.clients r;
}

-- what is told comes after what each client was told before
pub tells_each : (client : ℕ) (rs : List ReplyShape) (said out : List (List ℕ)) → with_frames client rs (each_behind said out) ≡ each_behind said (with_frames client rs out)
tells_each client rs [] out = refl
tells_each client rs (s ∷ ss) [] = none_sent client rs ∙ ap (each_behind (s ∷ ss)) (sym (none_sent client rs))
tells_each client rs (s ∷ ss) (t ∷ ts) =
    first_sent client rs (s ++ t) (each_behind ss ts)
    ∙ ap (λ (l : List (List ℕ)). ((s ++ t) ++ frames_to client rs) ∷ l) (tells_each (client + 1) rs ss ts)
    ∙ ap (λ (bytes : List ℕ). bytes ∷ each_behind ss (with_frames (client + 1) rs ts)) (append_assoc s t (frames_to client rs))
    ∙ ap (each_behind (s ∷ ss)) (sym (first_sent client rs t ts))

pub boundary_step : IsStep at_boundary
boundary_step = record {
  adds = λ sound said r. ap (λ out. holding (sound ++ r.sound) out (at_boundary r)) (tells_each 0 (replies_at r.block r.waiting r.clashes r.world) said r.replies);
  clients = λ r. as_many 0 (replies_at r.block r.waiting r.clashes r.world) r.replies;
}

block_step : IsStep with_block
block_step = record {
  adds = λ sound said r. ap (λ bytes. holding bytes (each_behind said r.replies) (with_block r)) (append_assoc sound r.sound (pcm r.settings (outputs r.settings r.block (walk r.block r.world))));
  clients = λ r. refl;
}

settled_step : IsStep with_settled
settled_step = record {
  adds = λ sound said r. ap (λ out. holding (sound ++ r.sound) out (with_settled r)) (tells_each 0 (turn_settled r).replies said r.replies);
  clients = λ r. as_many 0 (turn_settled r).replies r.replies;
}

rendered_step : IsStep (λ r. with_settled (with_block r))
rendered_step = both_steps with_block with_settled block_step settled_step

pub after_block_step : IsStep after_block
after_block_step = both_steps at_boundary (λ r. with_settled (with_block r)) boundary_step rendered_step

packet_step : (client : ℕ) (x : Result Shape PacketFault) → IsStep (with_packet client x)
packet_step client (Ok x) = record {
  adds = λ sound said r. ap (λ out. holding (sound ++ r.sound) out (with_offered client (entries_of x) r)) (tells_each 0 (offered client (entries_of x) r).replies said r.replies);
  clients = λ r. as_many 0 (offered client (entries_of x) r).replies r.replies;
}
packet_step client (Err fault) = record {
  adds = λ sound said r. ap (λ out. holding (sound ++ r.sound) out (with_bad_packet client r)) (tells_each 0 (bad_packet client ∷ []) said r.replies);
  clients = λ r. as_many 0 (bad_packet client ∷ []) r.replies;
}

pub arrived_step : (client : ℕ) (frame : List ℕ) → IsStep (arrived client frame)
arrived_step client frame = packet_step client (read frame)

-- ---- what is added

each_held : (out : List (List ℕ)) → each_behind out (replicate (length out) []) ≡ out
each_held [] = refl
each_held (t ∷ ts) = λ i. append-nil t i ∷ each_held ts i

all_held : (p : Running) → behind_all p.sound p.replies (emptied p) ≡ p
all_held p = λ i. holding (append-nil p.sound i) (each_held p.replies i) p

-- a step adds what it gives if no bytes are left
pub added : (f : Running → Running) → IsStep f → (p e : Running) → e ≡ emptied p → f p ≡ behind_all p.sound p.replies (f e)
added f step p e is = ap f (sym (all_held p)) ∙ step.adds p.sound p.replies (emptied p) ∙ ap (λ (r : Running). behind_all p.sound p.replies (f r)) (sym is)

pub as_many_behind : (ss ts : List (List ℕ)) → length ss ≡ length ts → length (each_behind ss ts) ≡ length ts
as_many_behind [] ts e = refl
as_many_behind (s ∷ ss) [] e = absurd (omega (arith, e))
as_many_behind (s ∷ ss) (t ∷ ts) e = ap suc (as_many_behind ss ts (omega (arith, e)))

pub each_at : (ss ts : List (List ℕ)) (c : ℕ) → length ss ≡ length ts → slice_index_or (each_behind ss ts) c [] ≡ slice_index_or ss c [] ++ slice_index_or ts c []
each_at [] [] c e = refl
each_at [] (t ∷ ts) c e = absurd (omega (arith, e))
each_at (s ∷ ss) [] c e = absurd (omega (arith, e))
each_at (s ∷ ss) (t ∷ ts) zero e = refl
each_at (s ∷ ss) (t ∷ ts) (suc c) e = each_at ss ts c (omega (arith, e))

empties : (r : Running) (sound : List ℕ) (said : List (List ℕ)) → length said ≡ length r.replies → emptied (behind_all sound said r) ≡ emptied r
empties r sound said e = ap (λ (n : ℕ). holding [] (replicate n []) r) (as_many_behind said r.replies e)

-- if a step is taken with no bytes left, the bytes come after those of before
pub record AddsTo (p q e : Running) : Type 0 where
  pub clients : length q.replies ≡ length p.replies
  pub given : length e.replies ≡ length p.replies
  pub rest : emptied q ≡ emptied e
  pub sound : q.sound ≡ p.sound ++ e.sound
  pub said : q.replies ≡ each_behind p.replies e.replies

pub adds_to : (f : Running → Running) → IsStep f → (p e : Running) → e ≡ emptied p → AddsTo p (f p) (f e)
adds_to f step p e is =
    let all = added f step p e is in
    let same : emptied (f p) ≡ emptied (behind_all p.sound p.replies (f e)) = ap emptied all in
    let given : length (f e).replies ≡ length p.replies = step.clients e ∙ ap (λ (r : Running). length r.replies) is ∙ length-replicate (length p.replies) [] in
    record {
      clients = step.clients p;
      given = given;
      rest = same ∙ empties (f e) p.sound p.replies (sym given);
      sound = ap (λ (r : Running). r.sound) all;
      said = ap (λ (r : Running). r.replies) all;
    }

-- ---- one engine has the bytes of another, and perhaps more after them

pub record Grows (p q : Running) : Type 0 where
  pub sound : Before p.sound q.sound
  pub replies : EachBegins p.replies q.replies

pub grows_not : (p : Running) → Grows p p
grows_not p = record { sound = begins_refl p.sound; replies = each_begins_refl p.replies }

pub grows_both : (p q r : Running) → Grows p q → Grows q r → Grows p r
grows_both p q r g h = record { sound = begins_trans p.sound q.sound r.sound g.sound h.sound; replies = each_begins_trans p.replies q.replies r.replies g.replies h.replies }

each_more : (ss ts : List (List ℕ)) → length ss ≡ length ts → EachBegins ss (each_behind ss ts)
each_more [] [] e = tt
each_more [] (t ∷ ts) e = absurd (omega (arith, e))
each_more (s ∷ ss) [] e = absurd (omega (arith, e))
each_more (s ∷ ss) (t ∷ ts) e = (begins_more s t, each_more ss ts (omega (arith, e)))

pub grows : (f : Running → Running) → IsStep f → (p : Running) → Grows p (f p)
grows f step p =
    let a = adds_to f step p (emptied p) refl in
    record { sound = ((f (emptied p)).sound, a.sound); replies = subst (EachBegins p.replies) (sym a.said) (each_more p.replies (f (emptied p)).replies (sym a.given)) }

pub each_begins_at : (ts us : List (List ℕ)) (c : ℕ) → EachBegins ts us → Before (slice_index_or ts c []) (slice_index_or us c [])
each_begins_at [] [] c h = begins_refl []
each_begins_at [] (u ∷ us) c h = absurd h
each_begins_at (t ∷ ts) [] c h = absurd h
each_begins_at (t ∷ ts) (u ∷ us) zero h = h.0
each_begins_at (t ∷ ts) (u ∷ us) (suc c) h = each_begins_at ts us c h.1

pub each_begins_length : (ts us : List (List ℕ)) → EachBegins ts us → length us ≡ length ts
each_begins_length [] [] h = refl
each_begins_length [] (u ∷ us) h = absurd h
each_begins_length (t ∷ ts) [] h = absurd h
each_begins_length (t ∷ ts) (u ∷ us) h = ap suc (each_begins_length ts us h.1)

grows_by : (flow : Flow) (p r : Running) (more : Played) → Grows p r → Grows p more.play → Grows p (unless_quit flow r more).play
grows_by flows.On p r more g h = h
grows_by flows.Quit p r more g h = g

pub ticks_grow : (n : ℕ) (r : Running) → Grows r (ticks n r).play
ticks_grow zero r = grows_not r
ticks_grow (suc n) r =
    let next = after_block r in
    grows_by (flow_at r) r (at_boundary r) (ticks n next) (grows at_boundary boundary_step r) (grows_both r next (ticks n next).play (grows after_block after_block_step r) (ticks_grow n next))
