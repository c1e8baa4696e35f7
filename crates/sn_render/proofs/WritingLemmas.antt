-- An engine plays on while some of its bytes are written.
use Rattle.std.proofs.Common.{◌≡◌, ℕ, List, [], ◌∷◌, ◌++◌, length, Result, Ok, Err, OnErr, OnOk, Option, refl, sym, ap, subst, ◌∙◌, append_assoc, arith}
use Rattle.std.specs.Io.KnownBytes.{Appends}
use Rattle.std.proofs.KnownBytes.{Appends-nil, Appends-trans}
use Rattle.sn_ports.specs.Transfer.{Before}
use Rattle.sn_reply.proofs.FrameLaws.{begins_trans}
use Rattle.sn_engine.specs.Running.{Running}
use Rattle.sn_render.specs.Fronts.{TakesFront, TakeFronts, TakeBoth}
use Rattle.sn_render.specs.Going.{before_first, behind, IsWritten, HasWritten}
use Rattle.sn_render.specs.Play.{to_first}
use Rattle.sn_render.proofs.StepLemmas.{IsStep, Grows, first_behind, begins_more, begins_under}

pub on_ok : {T E A B : Type 0} (r : Result T E) → (A → B) → OnOk r A → OnOk r B
on_ok (Ok x) f h = f h
on_ok (Err e) f h = tt

pub on_err : {T E A B : Type 0} (r : Result T E) → (A → B) → OnErr r A → OnErr r B
on_err (Ok x) f h = tt
on_err (Err e) f h = f h

pub on_any_err : {T E P : Type 0} (r : Result T E) → P → OnErr r P
on_any_err (Ok x) p = tt
on_any_err (Err e) p = p

-- ---- prefixes

pub takes_none : (old : Option (List ℕ)) (whole : List ℕ) → TakesFront old old whole
takes_none old whole = ([], Appends-nil old, begins_more [] whole)

-- what was written is a prefix of what was to be written
written_taken : (before after : List ℕ) (old new : Option (List ℕ)) → IsWritten before after old new → TakesFront old new before
written_taken before after old new w = (w.piece, w.taken, (after, w.parts))

-- a prefix of bytes that begin others
pub within : (old new : Option (List ℕ)) (part whole : List ℕ) → Before part whole → TakesFront old new part → TakesFront old new whole
within old new part whole begins t =
    let (front, taken, is) = t in
    (front, taken, begins_trans front part whole is begins)

-- a prefix that was taken after other bytes
pub taken_behind : (old mid new : Option (List ℕ)) (out whole : List ℕ) → Appends old mid out → TakesFront mid new whole → TakesFront old new (out ++ whole)
taken_behind old mid new out whole before t =
    let (front, taken, is) = t in
    (out ++ front, Appends-trans old mid new out front before taken, begins_under out front whole is)

pub fronts_within : (sound_old sound_new replies_old replies_new : Option (List ℕ)) (p q : Running) → Grows p q → TakeFronts sound_old sound_new replies_old replies_new p.sound (to_first p.replies)
    → TakeFronts sound_old sound_new replies_old replies_new q.sound (to_first q.replies)
fronts_within sound_old sound_new replies_old replies_new p q g t = record {
  sound = within sound_old sound_new p.sound q.sound g.sound t.sound;
  replies = within replies_old replies_new (to_first p.replies) (to_first q.replies) g.replies t.replies;
}

-- ---- what was written, and what is held

pub written_none : (sound replies : Option (List ℕ)) (r : Running) → HasWritten sound sound replies replies r r
written_none sound replies r = record {
  sound_out = [];
  replies_out = [];
  parts = ap (λ (out : List (List ℕ)). record r { replies = out }) (none r.replies);
  sound = Appends-nil sound;
  replies = Appends-nil replies;
}
  where
    none : (out : List (List ℕ)) → out ≡ before_first [] out
    none [] = refl
    none (t ∷ ts) = refl

behind_both : (a b c d : List ℕ) (r : Running) → behind a b (behind c d r) ≡ behind (a ++ c) (b ++ d) r
behind_both a b c d r = λ i. record r { sound = sym (append_assoc a c r.sound) i; replies = both r.replies i }
  where
    both : (out : List (List ℕ)) → before_first b (before_first d out) ≡ before_first (b ++ d) out
    both [] = refl
    both (t ∷ ts) = ap (λ (bytes : List ℕ). bytes ∷ ts) (sym (append_assoc b d t))

pub written_both : (sound_old sound_mid sound_new replies_old replies_mid replies_new : Option (List ℕ)) (p q r : Running) → HasWritten sound_old sound_mid replies_old replies_mid p q → HasWritten sound_mid sound_new replies_mid replies_new q r
    → HasWritten sound_old sound_new replies_old replies_new p r
written_both sound_old sound_mid sound_new replies_old replies_mid replies_new p q r w v = record {
  sound_out = w.sound_out ++ v.sound_out;
  replies_out = w.replies_out ++ v.replies_out;
  parts = w.parts ∙ ap (behind w.sound_out w.replies_out) v.parts ∙ behind_both w.sound_out w.replies_out v.sound_out v.replies_out r;
  sound = Appends-trans sound_old sound_mid sound_new w.sound_out v.sound_out w.sound v.sound;
  replies = Appends-trans replies_old replies_mid replies_new w.replies_out v.replies_out w.replies v.replies;
}

-- both take a step
pub written_step : (f : Running → Running) → IsStep f → (sound_old sound_new replies_old replies_new : Option (List ℕ)) (p r : Running) → HasWritten sound_old sound_new replies_old replies_new p r → HasWritten sound_old sound_new replies_old replies_new (f p) (f r)
written_step f step sound_old sound_new replies_old replies_new p r w = record {
  sound_out = w.sound_out;
  replies_out = w.replies_out;
  parts = ap f w.parts ∙ step.adds w.sound_out w.replies_out r;
  sound = w.sound;
  replies = w.replies;
}

-- the bytes of an engine are those that were written, and after them those that it holds
sounds : (sound_old sound_new replies_old replies_new : Option (List ℕ)) (p r : Running) → (w : HasWritten sound_old sound_new replies_old replies_new p r) → w.sound_out ++ r.sound ≡ p.sound
sounds sound_old sound_new replies_old replies_new p r w = sym (ap (λ (q : Running). q.sound) w.parts)

replies_are : (sound_old sound_new replies_old replies_new : Option (List ℕ)) (p r : Running) → (w : HasWritten sound_old sound_new replies_old replies_new p r) → length r.replies ≡ 1 → w.replies_out ++ to_first r.replies ≡ to_first p.replies
replies_are sound_old sound_new replies_old replies_new p r w alone = sym (ap (λ (q : Running). to_first q.replies) w.parts ∙ first_behind w.replies_out r.replies alone)

-- all that is still held is written
pub written_all : (sound_old sound_mid sound_new replies_old replies_mid replies_new : Option (List ℕ)) (p r : Running) → HasWritten sound_old sound_mid replies_old replies_mid p r → length r.replies ≡ 1
    → TakeBoth sound_mid sound_new replies_mid replies_new r.sound (to_first r.replies) → TakeBoth sound_old sound_new replies_old replies_new p.sound (to_first p.replies)
written_all sound_old sound_mid sound_new replies_old replies_mid replies_new p r w alone t = record {
  sound = subst (Appends sound_old sound_new) (sounds sound_old sound_mid replies_old replies_mid p r w) (Appends-trans sound_old sound_mid sound_new w.sound_out r.sound w.sound t.sound);
  replies = subst (Appends replies_old replies_new) (replies_are sound_old sound_mid replies_old replies_mid p r w alone) (Appends-trans replies_old replies_mid replies_new w.replies_out (to_first r.replies) w.replies t.replies);
}

-- prefixes of what is still held are written
pub written_fronts : (sound_old sound_mid sound_new replies_old replies_mid replies_new : Option (List ℕ)) (p r : Running) → HasWritten sound_old sound_mid replies_old replies_mid p r → length r.replies ≡ 1
    → TakeFronts sound_mid sound_new replies_mid replies_new r.sound (to_first r.replies) → TakeFronts sound_old sound_new replies_old replies_new p.sound (to_first p.replies)
written_fronts sound_old sound_mid sound_new replies_old replies_mid replies_new p r w alone t = record {
  sound = subst (TakesFront sound_old sound_new) (sounds sound_old sound_mid replies_old replies_mid p r w) (taken_behind sound_old sound_mid sound_new w.sound_out r.sound w.sound t.sound);
  replies = subst (TakesFront replies_old replies_new) (replies_are sound_old sound_mid replies_old replies_mid p r w alone) (taken_behind replies_old replies_mid replies_new w.replies_out (to_first r.replies) w.replies t.replies);
}

-- ---- one sink after the other

-- one took of the sound, and then the other of the replies
pub written_in_turn : (sound_old sound_new replies_old replies_new : Option (List ℕ)) (whole held wrote new : Running) → held ≡ whole → wrote ≡ record held { sound = wrote.sound } → new ≡ record wrote { replies = new.replies }
    → length held.replies ≡ 1 → length new.replies ≡ 1 → IsWritten held.sound wrote.sound sound_old sound_new → IsWritten (to_first wrote.replies) (to_first new.replies) replies_old replies_new
    → HasWritten sound_old sound_new replies_old replies_new whole new
written_in_turn sound_old sound_new replies_old replies_new whole held wrote new done sounded replied alone alone' w v =
    let both : new ≡ record held { sound = wrote.sound; replies = new.replies } = replied ∙ ap (λ (r : Running). record r { replies = new.replies }) sounded in
    let said : to_first held.replies ≡ v.piece ++ to_first new.replies = ap (λ (r : Running). to_first r.replies) (sym sounded) ∙ v.parts in
    let parts : held ≡ behind w.piece v.piece new = (λ i. record held { sound = w.parts i; replies = one v.piece held.replies new.replies alone alone' said i }) ∙ sym (ap (behind w.piece v.piece) both) in
    record { sound_out = w.piece; replies_out = v.piece; parts = sym done ∙ parts; sound = w.taken; replies = v.taken }
  where
    one : (piece : List ℕ) (out left : List (List ℕ)) → length out ≡ 1 → length left ≡ 1 → to_first out ≡ piece ++ to_first left → out ≡ before_first piece left
    one piece (t ∷ []) (u ∷ []) a b is = ap (λ (bytes : List ℕ). bytes ∷ []) is
    one piece [] left a b is = absurd cc
    one piece (t ∷ (u ∷ ts)) left a b is = absurd (omega (arith, a))
    one piece (t ∷ []) [] a b is = absurd cc
    one piece (t ∷ []) (u ∷ (x ∷ us)) a b is = absurd (omega (arith, b))

-- it was cut short in the sound
pub sound_cut : (sound_old sound_new replies_old : Option (List ℕ)) (whole held : Running) → held ≡ whole → TakesFront sound_old sound_new held.sound → TakeFronts sound_old sound_new replies_old replies_old whole.sound (to_first whole.replies)
sound_cut sound_old sound_new replies_old whole held done t = record {
  sound = subst (λ (r : Running). TakesFront sound_old sound_new r.sound) done t;
  replies = takes_none replies_old (to_first whole.replies);
}

-- or in the replies
pub replies_cut : (sound_old sound_new replies_old replies_new : Option (List ℕ)) (whole held wrote : Running) → held ≡ whole → wrote ≡ record held { sound = wrote.sound } → IsWritten held.sound wrote.sound sound_old sound_new
    → TakesFront replies_old replies_new (to_first wrote.replies) → TakeFronts sound_old sound_new replies_old replies_new whole.sound (to_first whole.replies)
replies_cut sound_old sound_new replies_old replies_new whole held wrote done sounded w t = record {
  sound = subst (λ (r : Running). TakesFront sound_old sound_new r.sound) done (written_taken held.sound wrote.sound sound_old sound_new w);
  replies = subst (λ (out : List (List ℕ)). TakesFront replies_old replies_new (to_first out)) (ap (λ (r : Running). r.replies) sounded ∙ ap (λ (r : Running). r.replies) done) t;
}
