-- Entries that act while they are taken from the queue.
use Rattle.std.proofs.Common.{◌≡◌, ◌⊎◌, inl, inr, ℕ, ◌<◌, Bool, true, false, cond, List, [], ◌∷◌, length, filter, Option, Some, None, refl, sym, ap, subst, ◌∙◌}
use Rattle.std.specs.Prelude.{not, if◌then◌else◌, Result, Ok}
use Rattle.std.proofs.Math.Bool.{or_assoc, or-false}
use Rattle.sn_ports.specs.declared.failed.NoMemory.{NoMemory}
use Rattle.sn_reply.specs.declared.reason.Reason.{Reason}
use Rattle.sn_world.specs.declared.command.Handled.{Handled}
use Rattle.sn_world.specs.declared.command.Handled.TheVariants.{Done, Quit, ClearSched, Failed, NotMine}
use Rattle.sn_world.specs.Answers.{Handles, UnlessDone}
use Rattle.sn_world.specs.Commands.{either as first_there}
use Rattle.std.specs.List.{AllByRecursion}
use Rattle.sn_queue.specs.declared.entry.Entry.{Entry}
use Rattle.sn_queue.specs.Waiting.{Waiting, WaitingList}
use Rattle.sn_queue.specs.Meaning.{waiting_of}
use Rattle.sn_queue.specs.Steps.{is_due, first_due, without_first_due, clear_after}
use Rattle.sn_reply.specs.Sending.{IsAnswerable}
use Rattle.sn_world.specs.World.{Turn}
use Rattle.sn_engine.specs.Answerable.{AllAnswerable}
use Rattle.sn_engine.specs.declared.acting.Asked.{Asked}
use Rattle.sn_engine.specs.Boundary.{act_messages, act_entries, both, nothing_asked, messages_ask, entries_ask, due_at, later_than, left_at}
use Rattle.sn_engine.proofs.DueLemmas.{first_of_filtered, none_filtered, others_stay, all_others, unchanged, first_has, others_have, first_among}

-- One entry was taken: it is the first that acts, and the others that are due, and those that are not, stay.
pub record IsTaken (now : ℕ) (old new : WaitingList) (w : Waiting) : Type 0 where
  pub acts : (t : Turn) → act_entries (due_at now new) (act_messages w.from w.messages t) ≡ act_entries (due_at now old) t
  pub asks : (t : Turn) → both (messages_ask w.from w.messages t) (entries_ask (due_at now new) (act_messages w.from w.messages t)) ≡ entries_ask (due_at now old) t
  pub left : record new { waiting = later_than now new } ≡ record old { waiting = later_than now old }
  pub answerable : AllAnswerable old.waiting → AllByRecursion IsAnswerable w.messages
  pub others : AllAnswerable old.waiting → AllAnswerable new.waiting
  pub fewer : length new.waiting < length old.waiting

taken_first : (now : ℕ) (q : WaitingList) (w : Waiting) → first_due q now ≡ Some w → IsTaken now q (without_first_due q now) w
taken_first now q w e = record {
  acts = λ t. ap (λ ws. act_entries ws t) (sym (first_of_filtered (is_due q now) q.waiting w e));
  asks = λ t. ap (λ ws. entries_ask ws t) (sym (first_of_filtered (is_due q now) q.waiting w e));
  left = ap (λ ws. record q { waiting = ws }) (others_stay (is_due q now) q.waiting);
  answerable = first_has (λ v. AllByRecursion IsAnswerable v.messages) (is_due q now) q.waiting w e;
  others = others_have (λ v. AllByRecursion IsAnswerable v.messages) (is_due q now) q.waiting;
  fewer = first_among (is_due q now) q.waiting w e;
}

pub taken : (now : ℕ) (old new : WaitingList) (entry : Entry) → Some (waiting_of entry) ≡ first_due old now → new ≡ without_first_due old now → IsTaken now old new (waiting_of entry)
taken now old new entry first is = subst (λ q. IsTaken now old q (waiting_of entry)) (sym is) (taken_first now old (waiting_of entry) (sym first))

-- if none is due, none acts, and all stay
pub record IsDone (now : ℕ) (old new : WaitingList) : Type 0 where
  pub acts : (t : Turn) → act_entries (due_at now old) t ≡ t
  pub asks : (t : Turn) → entries_ask (due_at now old) t ≡ nothing_asked
  pub left : new ≡ record old { waiting = later_than now old }
  pub others : AllAnswerable old.waiting → AllAnswerable new.waiting

done_first : (now : ℕ) (q : WaitingList) → first_due q now ≡ None → IsDone now q (without_first_due q now)
done_first now q e = record {
  acts = λ t. ap (λ ws. act_entries ws t) (none_filtered (is_due q now) q.waiting e);
  asks = λ t. ap (λ ws. entries_ask ws t) (none_filtered (is_due q now) q.waiting e);
  left = ap (λ ws. record q { waiting = ws }) (unchanged (is_due q now) q.waiting e ∙ sym (all_others (is_due q now) q.waiting e));
  others = others_have (λ v. AllByRecursion IsAnswerable v.messages) (is_due q now) q.waiting;
}

pub done : (now : ℕ) (old new : WaitingList) → None ≡ first_due old now → new ≡ without_first_due old now → IsDone now old new
done now old new none is = subst (IsDone now old) (sym is) (done_first now old (sym none))

-- ---- nothing but which entries wait changes

pub kept_then : (a b c : WaitingList) → b ≡ record a { waiting = b.waiting } → c ≡ record b { waiting = c.waiting } → c ≡ record a { waiting = c.waiting }
kept_then a b c one two = two ∙ ap (λ (q : WaitingList). record q { waiting = c.waiting }) one

replaced : (a c : WaitingList) (ws : List Waiting) → c ≡ record a { waiting = ws } → c ≡ record a { waiting = c.waiting }
replaced a c ws is = is ∙ ap (λ (q : WaitingList). record a { waiting = q.waiting }) (sym is)

-- after what changed so before, if an entry is taken, and if those that are due later are dropped
pub taken_kept : (now : ℕ) (a b c : WaitingList) → b ≡ record a { waiting = b.waiting } → c ≡ without_first_due b now → c ≡ record a { waiting = c.waiting }
taken_kept now a b c so_far is = kept_then a b c so_far (replaced b c (without_first_due b now).waiting is)

pub cleared_kept : (now : ℕ) (a b c : WaitingList) → b ≡ record a { waiting = b.waiting } → c ≡ clear_after b now → c ≡ record a { waiting = c.waiting }
cleared_kept now a b c so_far is = kept_then a b c so_far (replaced b c (clear_after b now).waiting is)

-- ---- what is asked besides

pub both-assoc : (a b c : Asked) → both (both a b) c ≡ both a (both b c)
both-assoc a b c = λ i. record { clear = or_assoc a.clear b.clear c.clear i; quit = or_assoc a.quit b.quit c.quit i }

pub both-nothing : (a b : Asked) → b ≡ nothing_asked → both a b ≡ a
both-nothing a b none = ap (both a) none ∙ (λ i. record { clear = or-false a.clear i; quit = or-false a.quit i })

-- none of those that are not due is due
none_due : {X : Type 0} (test : X → Bool) (xs : List X) → filter test (filter (λ x. not (test x)) xs) ≡ []
none_due test [] = refl
none_due test (x ∷ xs) = at (test x) refl (none_due test xs)
  where
    at : (b : Bool) → test x ≡ b → filter test (filter (λ y. not (test y)) xs) ≡ [] → filter test (cond (not b) (x ∷ filter (λ y. not (test y)) xs) (filter (λ y. not (test y)) xs)) ≡ []
    at true is ih = ih
    at false is ih = ap (λ b. cond b (x ∷ filter test (filter (λ y. not (test y)) xs)) (filter test (filter (λ y. not (test y)) xs))) is ∙ ih

pub cleared-left : (now : ℕ) (q mid new : WaitingList) (t : Turn) → mid ≡ record q { waiting = later_than now q } → new ≡ clear_after mid now → (entries_ask (due_at now q) t).clear ≡ true → new ≡ record q { waiting = left_at now q t }
cleared-left now q mid new t is after clears =
    after ∙ ap (λ m. clear_after m now) is
    ∙ ap (λ ws. record q { waiting = ws }) (none_due (is_due q now) q.waiting ∙ sym (ap (λ b. if b then [] else later_than now q) clears))

pub cleared-answerable : (now : ℕ) (mid new : WaitingList) → new ≡ clear_after mid now → AllAnswerable mid.waiting → AllAnswerable new.waiting
cleared-answerable now mid new is all = subst (λ (q : WaitingList). AllAnswerable q.waiting) (sym is) (kept (is_due mid now) mid.waiting all)
  where
    kept : (test : Waiting → Bool) (ws : List Waiting) → AllAnswerable ws → AllAnswerable (filter test ws)
    kept test [] all = tt
    kept test (w ∷ ws) all = at (test w) (kept test ws all.1)
      where
        at : (b : Bool) → AllAnswerable (filter test ws) → AllAnswerable (cond b (w ∷ filter test ws) (filter test ws))
        at true rest = (all.0, rest)
        at false rest = rest

-- ---- the first row that is there

still_first : (o other : Option (Result Turn Reason)) (t : Turn) → o ≡ Some (Ok t) → first_there o other ≡ Some (Ok t)
still_first o other t e = ap (λ x. first_there x other) e

-- a command on nodes that was carried out is its own row
pub done_there : (h : Handled) (o other : Option (Result Turn Reason)) (t : Turn) → (h ≡ Done) ⊎ ((h ≡ Quit) ⊎ (h ≡ ClearSched)) → Handles (Ok h) o t → first_there o other ≡ Some (Ok t)
done_there h o other t (inl e) row = still_first o other t (subst (λ x. Handles (Ok x) o t) e row)
done_there h o other t (inr (inl e)) row = still_first o other t (subst (λ x. Handles (Ok x) o t) e row)
done_there h o other t (inr (inr e)) row = still_first o other t (subst (λ x. Handles (Ok x) o t) e row)

pub handles_done : (r : Result Handled NoMemory) (o : Option (Result Turn Reason)) (t after : Turn) → r ≡ Ok Done → t ≡ after → o ≡ Some (Ok after) → Handles r o t
handles_done r o t after is same row = subst (λ x. Handles x o t) (sym is) (row ∙ ap (λ x. Some (Ok x)) (sym same))

pub not_mine : (h : Handled) (P : Type 0) → h ≡ NotMine → UnlessDone (Ok h) P → P
not_mine h P is p = subst (λ x. UnlessDone (Ok x) P) is p

pub none_there : (h : Handled) (o : Option (Result Turn Reason)) (t : Turn) → h ≡ NotMine → Handles (Ok h) o t → o ≡ None
none_there h o t is row = subst (λ x. Handles (Ok x) o t) is row

-- the other commands are asked if the address is none of the first ones'
pub handles_other : (r asked : Result Handled NoMemory) (o other told : Option (Result Turn Reason)) (t after : Turn) → r ≡ asked → t ≡ after → o ≡ None → told ≡ other → Handles asked told after → Handles r (first_there o other) t
handles_other r asked o other told t after is same none as_told row =
    let found : Handles asked (first_there o other) after = subst (λ x. Handles asked (first_there x other) after) (sym none) (subst (λ x. Handles asked x after) as_told row) in
    subst (λ x. Handles x (first_there o other) t) (sym is) (subst (λ x. Handles asked (first_there o other) x) (sym same) found)

-- ---- a message that is not carried out changes nothing

pub unless_done : (r : Result Handled NoMemory) (x t : Turn) → r ≡ Ok Done → UnlessDone r (x ≡ t)
unless_done r x t is = subst (λ q. UnlessDone q (x ≡ t)) (sym is) tt

pub unless_failed : (r : Result Handled NoMemory) (h : Handled) (reason : Reason) (x y t : Turn) → r ≡ Ok (Failed reason) → h ≡ Failed reason → x ≡ y → UnlessDone (Ok h) (y ≡ t) → UnlessDone r (x ≡ t)
unless_failed r h reason x y t is failed same fact =
    let unchanged_by : y ≡ t = subst (λ k. UnlessDone (Ok k) (y ≡ t)) failed fact in
    subst (λ q. UnlessDone q (x ≡ t)) (sym is) (same ∙ unchanged_by)

pub unless_other : (r asked : Result Handled NoMemory) (x y after t : Turn) → r ≡ asked → x ≡ y → after ≡ t → UnlessDone asked (y ≡ after) → UnlessDone r (x ≡ t)
unless_other r asked x y after t is same none fact =
    let at_first : UnlessDone asked (y ≡ t) = subst (λ z. UnlessDone asked (y ≡ z)) none fact in
    subst (λ q. UnlessDone q (x ≡ t)) (sym is) (subst (λ z. UnlessDone asked (z ≡ t)) (sym same) at_first)
