-- Boundaries and their blocks, one after the other.
use Rattle.std.proofs.Common.{◌≡◌, ℕ, zero, suc, ◌+◌, ◌<◌, Bool, true, false, List, [], Option, Result, Ok, Err, IsErrAnd, length, refl, sym, ap, subst, ◌∙◌, arith}
use Rattle.std.specs.Io.KnownBytes.{Appends}
use Rattle.std.proofs.KnownBytes.{Appends-nil}
use Rattle.std.proofs.lemmas.List.{length-replicate}
use Rattle.sn_engine.specs.Running.{Running, at_boundary, flow_at}
use Rattle.sn_engine.specs.declared.standing.Flow.{Flow}
use Rattle.sn_engine.specs.declared.standing.Flow.TheVariants as flows
use Rattle.sn_render.specs.Fronts.{TakesFront}
use Rattle.sn_render.specs.Play.{after_block}
use Rattle.sn_clients.specs.PlayMany.{Played, ticks, unless_quit}
use Rattle.sn_clients.specs.Looping.{HaltsAt, PlaysTo, Ticked, TicksInPart, TicksLast, TicksNot, TicksOn}
use Rattle.sn_clients.specs.Written.{IsGoing, Wrote, WroteFronts, emptied}
use Rattle.sn_clients.specs.declared.playing.Halt.{Halt}
use Rattle.sn_clients.specs.declared.playing.Halt.TheVariants as halts
use Rattle.sn_clients.proofs.EachLemmas.{after_block_step, boundary_step, grows, ticks_grow}
use Rattle.sn_clients.proofs.WrittenLemmas.{fronts_later, going_on, wrote_fronts, wrote_on, wrote_part}

-- if `/quit` is not accepted at the next boundary, and if it is
ticks_on : (n : ℕ) (r : Running) → flow_at r ≡ flows.On → ticks (suc n) r ≡ ticks n (after_block r)
ticks_on n r e = ap (λ (f : Flow). unless_quit f (at_boundary r) (ticks n (after_block r))) e

ticks_last : (n : ℕ) (r : Running) → flow_at r ≡ flows.Quit → ticks (suc n) r ≡ record { play = at_boundary r; quit = true }
ticks_last n r e = ap (λ (f : Flow). unless_quit f (at_boundary r) (ticks n (after_block r))) e

module _ {R : Type 0} (taken : R → Option (List ℕ)) (faults : R → ℕ) where
  -- some number of the blocks is left
  pub record TicksLeft (first now : List R) (failed : List Bool) (sound_first sound_now : Option (List ℕ)) (count done : ℕ) (r e : Running) : Type 0 where
    pub play : Running
    pub left : ℕ
    pub counted : done + left ≡ count
    pub same : ticks count r ≡ ticks left play
    pub going : IsGoing taken faults first now failed sound_first sound_now play e

  pub ticks_begin : (first now : List R) (failed : List Bool) (sound_first sound_now : Option (List ℕ)) (count : ℕ) (r e : Running) → IsGoing taken faults first now failed sound_first sound_now r e → TicksLeft first now failed sound_first sound_now count 0 r e
  ticks_begin first now failed sound_first sound_now count r e g = record { play = r; left = count; counted = omega arith; same = refl; going = g }

  on_by : (left : ℕ) (first mid new : List R) (one two : List Bool) (sound_first sound_mid sound_new : Option (List ℕ)) (count done : ℕ) (r play e next : Running) → done + left ≡ count → done < count → ticks count r ≡ ticks left play
      → IsGoing taken faults first mid one sound_first sound_mid play e → TicksOn taken faults mid new one two sound_mid sound_new e next → TicksLeft first new two sound_first sound_new count (done + 1) r next
  on_by zero first mid new one two sound_first sound_mid sound_new count done r play e next counted more same g t = absurd (omega (arith, counted, more))
  on_by (suc m) first mid new one two sound_first sound_mid sound_new count done r play e next counted more same g t = record {
    play = after_block play;
    left = m;
    counted = omega (arith, counted);
    same = same ∙ ticks_on m play (ap (λ (q : Running). flow_at q) (sym g.engine) ∙ t.flow);
    going = going_on taken faults after_block after_block_step first mid new one two sound_first sound_mid sound_new play e next g t.sound t.replies t.engine;
  }

  pub ticks_next : (first mid new : List R) (one two : List Bool) (sound_first sound_mid sound_new : Option (List ℕ)) (count done : ℕ) (r e next : Running) → TicksLeft first mid one sound_first sound_mid count done r e → done < count
      → TicksOn taken faults mid new one two sound_mid sound_new e next → TicksLeft first new two sound_first sound_new count (done + 1) r next
  ticks_next first mid new one two sound_first sound_mid sound_new count done r e next h more t = on_by h.left first mid new one two sound_first sound_mid sound_new count done r h.play e next h.counted more h.same h.going t

  ended : (left : ℕ) (first now : List R) (failed : List Bool) (sound_first sound_now : Option (List ℕ)) (p : Played) (play e : Running) → left ≡ 0 → p ≡ ticks left play → IsGoing taken faults first now failed sound_first sound_now play e
      → PlaysTo taken faults first now failed sound_first sound_now p e (Ok tt)
  ended zero first now failed sound_first sound_now p play e none is g = subst (λ (q : Played). PlaysTo taken faults first now failed sound_first sound_now q e (Ok tt)) (sym is) (refl, g)
  ended (suc m) first now failed sound_first sound_now p play e none is g = absurd (omega (arith, none))

  pub ticks_end : (first now : List R) (failed : List Bool) (sound_first sound_now : Option (List ℕ)) (count done : ℕ) (r e : Running) → TicksLeft first now failed sound_first sound_now count done r e → done ≡ count
      → PlaysTo taken faults first now failed sound_first sound_now (ticks count r) e (Ok tt)
  ticks_end first now failed sound_first sound_now count done r e h all = ended h.left first now failed sound_first sound_now (ticks count r) h.play e (omega (arith, h.counted, all)) h.same h.going

  -- ---- what a boundary and its block answer

  pub ticked_not : (sinks : List R) (failed : List Bool) (sound : Option (List ℕ)) (old new : Running) (r : Result (Unit {0}) Halt) → IsErrAnd r (λ halt. halt ≡ halts.NoMemory) → Ticked taken faults sinks sinks failed failed sound sound old new r
  ticked_not sinks failed sound old new (Ok x) is = absurd is
  ticked_not sinks failed sound old new (Err e) is =
      let none : TicksNot taken faults sinks sinks failed failed sound sound = record { sound = refl; sinks = refl; failed = refl } in
      subst (λ (halt : Halt). Ticked taken faults sinks sinks failed failed sound sound old new (Err halt)) (sym is) none

  pub ticked_part : (sinks : List R) (failed : List Bool) (sound_old sound_new : Option (List ℕ)) (old new : Running) (r : Result (Unit {0}) Halt) (halt : Halt) → IsErrAnd r (λ h. h ≡ halt) → halt ≡ halts.SoundFault → flow_at old ≡ flows.On
      → TakesFront sound_old sound_new (after_block old).sound → Ticked taken faults sinks sinks failed failed sound_old sound_new old new r
  ticked_part sinks failed sound_old sound_new old new (Ok x) halt is fault flow front = absurd is
  ticked_part sinks failed sound_old sound_new old new (Err e) halt is fault flow front =
      let part : TicksInPart taken faults sinks sinks failed failed sound_old sound_new old = record { flow = flow; sound = front; sinks = refl; failed = refl } in
      subst (λ (h : Halt). Ticked taken faults sinks sinks failed failed sound_old sound_new old new (Err h)) (sym (is ∙ fault)) part

  -- ---- an end at a boundary or its block

  quiet : (play e : Running) → e ≡ emptied play → (at_boundary e).sound ≡ []
  quiet play e is = ap (λ (q : Running). q.sound) is

  halts_by : (halt : Halt) (m : ℕ) (first mid new : List R) (one two : List Bool) (sound_first sound_mid sound_new : Option (List ℕ)) (play e next : Running) → IsGoing taken faults first mid one sound_first sound_mid play e
      → Ticked taken faults mid new one two sound_mid sound_new e next (Err halt) → HaltsAt taken faults first new two sound_first sound_new (ticks (suc m) play) halt
  halts_by halts.Quit m first mid new one two sound_first sound_mid sound_new play e next g t =
      subst (λ (p : Played). HaltsAt taken faults first new two sound_first sound_new p halts.Quit) (sym (ticks_last m play (ap (λ (q : Running). flow_at q) (sym g.engine) ∙ t.flow))) (
        refl,
        wrote_on taken faults at_boundary boundary_step first mid new one two sound_first sound_mid sound_new play e g
            (subst (λ (bytes : List ℕ). Appends sound_mid sound_new bytes) (sym (quiet play e g.engine)) (subst (λ (o : Option (List ℕ)). Appends sound_mid o []) (sym t.sound) (Appends-nil sound_mid))) t.replies,
      )
  halts_by halts.SoundFault m first mid new one two sound_first sound_mid sound_new play e next g t =
      let on = ap (λ (q : Running). flow_at q) (sym g.engine) ∙ t.flow in
      let part : WroteFronts taken faults first mid one sound_first sound_new (after_block play) = wrote_part taken faults after_block after_block_step first mid one sound_first sound_mid sound_new play e (grows after_block after_block_step play) g t.sound in
      let moved : WroteFronts taken faults first new two sound_first sound_new (after_block play) = subst (λ (p : List R × List Bool). WroteFronts taken faults first p.0 p.1 sound_first sound_new (after_block play)) (λ i. (sym t.sinks i, sym t.failed i)) part in
      subst (λ (p : Played). WroteFronts taken faults first new two sound_first sound_new p.play) (sym (ticks_on m play on))
      (fronts_later taken faults first new two sound_first sound_new (after_block play) (ticks m (after_block play)).play (ticks_grow m (after_block play)) moved)
  halts_by halts.NoMemory m first mid new one two sound_first sound_mid sound_new play e next g t =
      let moved : Wrote taken faults first new two sound_first sound_new play = subst (λ (p : List R × List Bool × Option (List ℕ)). Wrote taken faults first p.0 p.1 sound_first p.2 play) (λ i. (sym t.sinks i, sym t.failed i, sym t.sound i)) g.wrote in
      wrote_fronts taken faults first new two sound_first sound_new play (ticks (suc m) play).play (ticks_grow (suc m) play) moved
  halts_by halts.TurnsFull m first mid new one two sound_first sound_mid sound_new play e next g t = absurd t

  halts_left : (left : ℕ) (halt : Halt) (first mid new : List R) (one two : List Bool) (sound_first sound_mid sound_new : Option (List ℕ)) (count done : ℕ) (r play e next : Running) → done + left ≡ count → done < count → ticks count r ≡ ticks left play
      → IsGoing taken faults first mid one sound_first sound_mid play e → Ticked taken faults mid new one two sound_mid sound_new e next (Err halt) → HaltsAt taken faults first new two sound_first sound_new (ticks count r) halt
  halts_left zero halt first mid new one two sound_first sound_mid sound_new count done r play e next counted more same g t = absurd (omega (arith, counted, more))
  halts_left (suc m) halt first mid new one two sound_first sound_mid sound_new count done r play e next counted more same g t =
      subst (λ (p : Played). HaltsAt taken faults first new two sound_first sound_new p halt) (sym same) (halts_by halt m first mid new one two sound_first sound_mid sound_new play e next g t)

  pub ticks_halt : (halt : Halt) (first mid new : List R) (one two : List Bool) (sound_first sound_mid sound_new : Option (List ℕ)) (count done : ℕ) (r e next : Running) → TicksLeft first mid one sound_first sound_mid count done r e → done < count
      → Ticked taken faults mid new one two sound_mid sound_new e next (Err halt) → HaltsAt taken faults first new two sound_first sound_new (ticks count r) halt
  ticks_halt halt first mid new one two sound_first sound_mid sound_new count done r e next h more t =
      halts_left h.left halt first mid new one two sound_first sound_mid sound_new count done r h.play e next h.counted more h.same h.going t

  -- an end, told of another answer
  pub halted_plays : (first new : List R) (failed : List Bool) (sound_first sound_new : Option (List ℕ)) (p : Played) (e : Running) (r : Result (Unit {0}) Halt) (halt : Halt) → IsErrAnd r (λ h. h ≡ halt) → HaltsAt taken faults first new failed sound_first sound_new p halt
      → PlaysTo taken faults first new failed sound_first sound_new p e r
  halted_plays first new failed sound_first sound_new p e (Ok x) halt is h = absurd is
  halted_plays first new failed sound_first sound_new p e (Err k) halt is h = subst (HaltsAt taken faults first new failed sound_first sound_new p) (sym is) h

-- as many clients are sent something as before
pub emptied_clients : (r : Running) → length (emptied r).replies ≡ length r.replies
emptied_clients r = length-replicate (length r.replies) []

pub block_clients : (r : Running) → length (emptied (after_block r)).replies ≡ length r.replies
block_clients r = emptied_clients (after_block r) ∙ after_block_step.clients r
