-- What the sinks took, step by step.
use Rattle.std.proofs.Common.{◌≡◌, ℕ, suc, ◌<◌, Bool, true, false, List, [], ◌∷◌, ◌++◌, length, Option, Result, Ok, Err, OnOk, refl, sym, ap, subst, ◌∙◌, arith}
use Rattle.std.specs.Prelude.{is_err, slice_index_or}
use Rattle.std.specs.Io.KnownBytes.{Appends}
use Rattle.std.proofs.KnownBytes.{Appends-trans}
use Rattle.sn_ports.specs.Causes.{HasCause, Rose}
use Rattle.sn_ports.specs.Transfer.{Before, TakesAll}
use Rattle.sn_ports.specs.declared.failed.Failed.{Failed}
use Rattle.sn_reply.proofs.FrameLaws.{begins_refl}
use Rattle.sn_engine.specs.Running.{Running}
use Rattle.sn_render.specs.Fronts.{TakesFront}
use Rattle.sn_render.proofs.WritingLemmas.{taken_behind, within}
use Rattle.sn_clients.specs.Written.{AllHear, AllHearFronts, AllSend, Fails, Hears, IsGoing, Sends, Wrote, WroteFronts, emptied}
use Rattle.sn_clients.proofs.EachLemmas.{AddsTo, Grows, IsStep, adds_to, each_at, each_behind, each_begins_at, each_begins_length}

-- ---- one sink

pub drained : (r : Result (Unit {0}) Failed) (old new : Option (List ℕ)) (before now : ℕ) (said : List ℕ) → TakesAll old new r said → HasCause before now r → OnOk r (now ≡ before) → Sends false (is_err r) old new before now said
drained (Ok x) old new before now said takes cause same = (takes, same)
drained (Err e) old new before now said takes cause same = (takes, cause.failed)

takes_whole : (old new : Option (List ℕ)) (said : List ℕ) → Appends old new said → TakesFront old new said
takes_whole old new said h = (said, h, begins_refl said)

heard_front : (failed : Bool) (old new : Option (List ℕ)) (said : List ℕ) → Hears failed old new said → TakesFront old new said
heard_front false old new said h = takes_whole old new said h
heard_front true old new said h = h

hears_more : (one two : Bool) (old mid new : Option (List ℕ)) (x y z : ℕ) (said more : List ℕ) → Hears one old mid said → Sends one two mid new y z more → Hears two old new (said ++ more)
hears_more false false old mid new x y z said more h s = Appends-trans old mid new said more h s.0
hears_more false true old mid new x y z said more h s = taken_behind old mid new said more h s.0
hears_more true two old mid new x y z said more h s = subst (λ (b : Bool). Hears b old new (said ++ more)) (sym s.0) (subst (λ (o : Option (List ℕ)). TakesFront old o (said ++ more)) (sym s.1) (within old mid said (said ++ more) (more, refl) h))

fails_more : (one two : Bool) (old mid new : Option (List ℕ)) (x y z : ℕ) (more : List ℕ) → Fails one x y → Sends one two mid new y z more → Fails two x z
fails_more false false old mid new x y z more h s = s.1 ∙ h
fails_more false true old mid new x y z more h s = subst (λ (n : ℕ). Rose n z) h s.1
fails_more true two old mid new x y z more h s = subst (λ (b : Bool). Fails b x z) (sym s.0) (subst (Rose x) (sym s.2) h)

module _ {R : Type 0} (taken : R → Option (List ℕ)) (faults : R → ℕ) where
  -- ---- all sinks

  -- what is sent once more comes after what was sent before
  pub all_hear_more : (first mid new : List R) (one two : List Bool) (said more : List (List ℕ)) → AllHear taken faults first mid one said → AllSend taken faults mid new one two more → AllHear taken faults first new two (each_behind said more)
  all_hear_more first mid new one two said more h s =
      let as_many : length said ≡ length more = h.clients ∙ sym (s.clients ∙ h.sinks) in
      record {
        sinks = s.sinks ∙ h.sinks;
        flags = s.flags ∙ h.sinks;
        clients = long said more as_many ∙ h.clients;
        hear = λ c d inside. let sent = s.sends c d (subst (λ (n : ℕ). c < n) (sym h.sinks) inside) in
            subst (λ (bytes : List ℕ). Hears (slice_index_or two c false) (taken (slice_index_or first c d)) (taken (slice_index_or new c d)) bytes) (sym (each_at said more c as_many))
            (hears_more (slice_index_or one c false) (slice_index_or two c false) (taken (slice_index_or first c d)) (taken (slice_index_or mid c d)) (taken (slice_index_or new c d)) 0 (faults (slice_index_or mid c d)) (faults (slice_index_or new c d))
            (slice_index_or said c []) (slice_index_or more c []) (h.hear c d inside) sent);
        fail = λ c d inside. let sent = s.sends c d (subst (λ (n : ℕ). c < n) (sym h.sinks) inside) in
            fails_more (slice_index_or one c false) (slice_index_or two c false) (taken (slice_index_or first c d)) (taken (slice_index_or mid c d)) (taken (slice_index_or new c d)) (faults (slice_index_or first c d)) (faults (slice_index_or mid c d)) (faults (slice_index_or new c d))
            (slice_index_or more c []) (h.fail c d inside) sent;
      }
    where
      long : (ss ts : List (List ℕ)) → length ss ≡ length ts → length (each_behind ss ts) ≡ length ss
      long [] [] e = refl
      long [] (t ∷ ts) e = absurd (omega (arith, e))
      long (s ∷ ss) [] e = absurd (omega (arith, e))
      long (s ∷ ss) (t ∷ ts) e = ap suc (long ss ts (omega (arith, e)))

  -- prefixes of what is said by a later step
  pub all_hear_fronts : (old new : List R) (failed : List Bool) (p q : Running) → Grows p q → AllHear taken faults old new failed p.replies → AllHearFronts taken faults old new failed q.replies
  all_hear_fronts old new failed p q g h = record {
    sinks = h.sinks;
    flags = h.flags;
    clients = each_begins_length p.replies q.replies g.replies ∙ h.clients;
    hear = λ c d inside. within (taken (slice_index_or old c d)) (taken (slice_index_or new c d)) (slice_index_or p.replies c []) (slice_index_or q.replies c []) (each_begins_at p.replies q.replies c g.replies)
        (heard_front (slice_index_or failed c false) (taken (slice_index_or old c d)) (taken (slice_index_or new c d)) (slice_index_or p.replies c []) (h.hear c d inside));
    fail = h.fail;
  }

  pub hear_fronts_later : (old new : List R) (failed : List Bool) (p q : Running) → Grows p q → AllHearFronts taken faults old new failed p.replies → AllHearFronts taken faults old new failed q.replies
  hear_fronts_later old new failed p q g h = record {
    sinks = h.sinks;
    flags = h.flags;
    clients = each_begins_length p.replies q.replies g.replies ∙ h.clients;
    hear = λ c d inside. within (taken (slice_index_or old c d)) (taken (slice_index_or new c d)) (slice_index_or p.replies c []) (slice_index_or q.replies c []) (each_begins_at p.replies q.replies c g.replies) (h.hear c d inside);
    fail = h.fail;
  }

  -- ---- the whole session

  pub wrote_fronts : (old new : List R) (failed : List Bool) (sound_old sound_new : Option (List ℕ)) (p q : Running) → Grows p q → Wrote taken faults old new failed sound_old sound_new p → WroteFronts taken faults old new failed sound_old sound_new q
  wrote_fronts old new failed sound_old sound_new p q g w = record {
    sound = within sound_old sound_new p.sound q.sound g.sound (takes_whole sound_old sound_new p.sound w.sound);
    replies = all_hear_fronts old new failed p q g w.replies;
  }

  pub fronts_later : (old new : List R) (failed : List Bool) (sound_old sound_new : Option (List ℕ)) (p q : Running) → Grows p q → WroteFronts taken faults old new failed sound_old sound_new p → WroteFronts taken faults old new failed sound_old sound_new q
  fronts_later old new failed sound_old sound_new p q g w = record {
    sound = within sound_old sound_new p.sound q.sound g.sound w.sound;
    replies = hear_fronts_later old new failed p q g w.replies;
  }

  -- what a step gave was written
  pub wrote_on : (f : Running → Running) → IsStep f → (first mid new : List R) (one two : List Bool) (sound_first sound_mid sound_new : Option (List ℕ)) (r e : Running) → IsGoing taken faults first mid one sound_first sound_mid r e
      → Appends sound_mid sound_new (f e).sound → AllSend taken faults mid new one two (f e).replies → Wrote taken faults first new two sound_first sound_new (f r)
  wrote_on f step first mid new one two sound_first sound_mid sound_new r e g sound sends =
      let a = adds_to f step r e g.engine in
      record {
        sound = subst (Appends sound_first sound_new) (sym a.sound) (Appends-trans sound_first sound_mid sound_new r.sound (f e).sound g.wrote.sound sound);
        replies = subst (AllHear taken faults first new two) (sym a.said) (all_hear_more first mid new one two r.replies (f e).replies g.wrote.replies sends);
      }

  -- and the engine plays on
  pub going_on : (f : Running → Running) → IsStep f → (first mid new : List R) (one two : List Bool) (sound_first sound_mid sound_new : Option (List ℕ)) (r e next : Running) → IsGoing taken faults first mid one sound_first sound_mid r e
      → Appends sound_mid sound_new (f e).sound → AllSend taken faults mid new one two (f e).replies → next ≡ emptied (f e) → IsGoing taken faults first new two sound_first sound_new (f r) next
  going_on f step first mid new one two sound_first sound_mid sound_new r e next g sound sends is = record {
    engine = is ∙ sym (adds_to f step r e g.engine).rest;
    wrote = wrote_on f step first mid new one two sound_first sound_mid sound_new r e g sound sends;
  }

  -- of the sound of a step a prefix was written, and nothing else
  pub wrote_part : (f : Running → Running) → IsStep f → (first mid : List R) (failed : List Bool) (sound_first sound_mid sound_new : Option (List ℕ)) (r e : Running) → Grows r (f r) → IsGoing taken faults first mid failed sound_first sound_mid r e
      → TakesFront sound_mid sound_new (f e).sound → WroteFronts taken faults first mid failed sound_first sound_new (f r)
  wrote_part f step first mid failed sound_first sound_mid sound_new r e more g sound =
      let a = adds_to f step r e g.engine in
      record {
        sound = subst (TakesFront sound_first sound_new) (sym a.sound) (taken_behind sound_first sound_mid sound_new r.sound (f e).sound g.wrote.sound sound);
        replies = all_hear_fronts first mid failed r (f r) more g.wrote.replies;
      }
