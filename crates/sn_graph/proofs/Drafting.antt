-- Runs and rows as the planner puts them.
use Rattle.std.proofs.Common.{◌≡◌, ℕ, suc, ◌+◌, ◌^◌, ◌<◌, ◌≤◌, Bool, true, false, if◌then◌else◌, Bor, List, [], ◌∷◌, ◌++◌, length, map, sym, refl, ap, ◌∙◌, subst, ⊎_elim, arith, append_assoc, length-append}
use Rattle.std.proofs.lemmas.List.{append-nil}
use Rattle.std.specs.List.{All}
use Rattle.std.proofs.lemmas.List.Elements.{All-append}
use Rattle.sn_foot.specs.Canonical.{Ends}
use Rattle.std.proofs.lemmas.Bool.{cases_Bool, cond-true, cond-false}
use Rattle.sn_round.specs.declared.jobs.Job.{Job}
use Rattle.sn_graph.specs.declared.nodes.Voice.{Voice}
use Rattle.sn_graph.specs.Voices.{AreWithin, HaveEnds, JointsEnd, all_reads, all_writes, joint_lanes, HeardNodes, none, synth, group, voices, own_foot}
use Rattle.sn_graph.specs.Rows.{Row, done, job, split, job_of, size, size_all, last, lasts, jobs, jobs_all}
use Rattle.sn_graph.specs.Plans.{close, followed, members, joined, keep, row_of, rows_of, inner_row}
use Rattle.std.proofs.Common.{Option, Some, None}
use Rattle.sn_mem.specs.declared.moves.Moved.{Moved}
use Rattle.sn_graph.specs.Drafts.{listed, Puts, IsJoint}
use Rattle.sn_graph.proofs.Planning.{length-jobs}
use Rattle.sn_graph.proofs.Filling as filling

-- what is left to be put of a row w is the row r
pub record Leaves (before now : List Job) (e f : Option ℕ) (r w : Row) : Type 0 where
  pub jobs_left : now ++ jobs (length now) (listed f) r ≡ before ++ jobs (length before) (listed e) w
  pub last_left : last (length now) (listed f) r ≡ last (length before) (listed e) w

abbrev pub jobs_list : ℕ → List ℕ → List Row → List Job
jobs_list n e [] = []
jobs_list n e (r ∷ rs) = jobs n e r ++ jobs_list (n + size r) e rs

abbrev pub lasts_list : ℕ → List ℕ → List Row → List ℕ
lasts_list n e [] = []
lasts_list n e (r ∷ rs) = last n e r ++ lasts_list (n + size r) e rs

-- what is left of the members
pub record LeavesAll (before now : List Job) (lasts : List ℕ) (e : Option ℕ) (rs ws : List Row) : Type 0 where
  pub jobs_left : now ++ jobs_list (length now) (listed e) rs ≡ before ++ jobs_list (length before) (listed e) ws
  pub lasts_left : lasts ++ lasts_list (length now) (listed e) rs ≡ lasts_list (length before) (listed e) ws

abbrev pub behind : List (Bor Voice) → List Voice
behind run = map (λ (s : Bor Voice). s.now) run

-- a row after another
pub size-followed : (x y : Row) → size (followed x y) ≡ size x + size y
size-followed done y = omega arith
size-followed (job ss x) y = omega (arith, size-followed x y)
size-followed (split lanes ms x) y = omega (arith, size-followed x y)

pub last-followed : (n : ℕ) (e : List ℕ) (x y : Row) → last n e (followed x y) ≡ last (n + size x) (last n e x) y
last-followed n e done y = let q : n ≡ n + 0 = omega arith in ap (λ (k : ℕ). last k e y) q
last-followed n e (job ss x) y = let q : n + 1 + size x ≡ n + (1 + size x) = omega arith in last-followed (n + 1) (n ∷ []) x y ∙ ap (λ (k : ℕ). last k (last (n + 1) (n ∷ []) x) y) q
last-followed n e (split lanes ms x) y =
    let q : n + size_all ms + 1 + size x ≡ n + (size_all ms + (1 + size x)) = omega arith in
    last-followed (n + size_all ms + 1) ((n + size_all ms) ∷ []) x y ∙ ap (λ (k : ℕ). last k (last (n + size_all ms + 1) ((n + size_all ms) ∷ []) x) y) q

pub jobs-followed : (n : ℕ) (e : List ℕ) (x y : Row) → jobs n e (followed x y) ≡ jobs n e x ++ jobs (n + size x) (last n e x) y
jobs-followed n e done y = let q : n ≡ n + 0 = omega arith in ap (λ (k : ℕ). jobs k e y) q
jobs-followed n e (job ss x) y =
    let q : n + 1 + size x ≡ n + (1 + size x) = omega arith in
    ap (λ (l : List Job). job_of ss [] e ∷ l) (jobs-followed (n + 1) (n ∷ []) x y ∙ ap (λ (k : ℕ). jobs (n + 1) (n ∷ []) x ++ jobs k (last (n + 1) (n ∷ []) x) y) q)
jobs-followed n e (split lanes ms x) y =
    let q : n + size_all ms + 1 + size x ≡ n + (size_all ms + (1 + size x)) = omega arith in
    let m : ℕ = n + size_all ms in
    ap (λ (l : List Job). jobs_all n e ms ++ job_of [] lanes (lasts n e ms) ∷ l) (jobs-followed (m + 1) (m ∷ []) x y ∙ ap (λ (k : ℕ). jobs (m + 1) (m ∷ []) x ++ jobs k (last (m + 1) (m ∷ []) x) y) q)
    ∙ sym (append_assoc (jobs_all n e ms) (job_of [] lanes (lasts n e ms) ∷ jobs (m + 1) (m ∷ []) x) (jobs (n + (size_all ms + (1 + size x))) (last (m + 1) (m ∷ []) x) y))

pub close-followed : (run : List Voice) (r : Row) → close run r ≡ followed (close run done) r
close-followed [] r = refl
close-followed (s ∷ ss) r = refl

pub puts-length : (before after : List Job) (e f : Option ℕ) (r : Row) → Puts before after e f r → length after ≡ length before + size r
puts-length before after e f r p =
    omega (arith, ap length p.jobs_put, length-append before (jobs (length before) (listed e) r), length-jobs (length before) (listed e) r)

-- the open run that was put
pub put_run : (before after : List Job) (e f : Option ℕ) (ss : List Voice) → 1 ≤ length ss → after ≡ before ++ job_of ss [] (listed e) ∷ [] → f ≡ Some (length before) → Puts before after e f (close ss done)
put_run before after e f [] l h k = absurd (omega arith)
put_run before after e f (s ∷ ss) l h k = record { jobs_put = h; last_is = ap listed k }

-- a first part was put
pub leaves_more : (before now after : List Job) (e f g : Option ℕ) (x y w : Row) → Leaves before now e f (followed x y) w → Puts now after f g x → Leaves before after e g y w
leaves_more before now after e f g x y w h p =
    let n : ℕ = length now in
    let q : length after ≡ n + size x = puts-length now after f g x p in
    let same : jobs (length after) (listed g) y ≡ jobs (n + size x) (last n (listed f) x) y = (λ i. jobs (q i) (p.last_is i) y) in
    record {
      jobs_left =
          ap (λ (l : List Job). l ++ jobs (length after) (listed g) y) p.jobs_put
          ∙ (append_assoc now (jobs n (listed f) x) (jobs (length after) (listed g) y)
          ∙ (ap (λ (l : List Job). now ++ (jobs n (listed f) x ++ l)) same
          ∙ (ap (λ (l : List Job). now ++ l) (sym (jobs-followed n (listed f) x y)) ∙ h.jobs_left)));
      last_left = (λ i. last (q i) (p.last_is i) y) ∙ (sym (last-followed n (listed f) x y) ∙ h.last_left);
    }

pub leaves_none : (before now after : List Job) (e f g : Option ℕ) (x w : Row) → Leaves before now e f x w → Puts now after f g x → Puts before after e g w
leaves_none before now after e f g x w h p = record { jobs_put = p.jobs_put ∙ h.jobs_left; last_is = p.last_is ∙ h.last_left }

pub leaves-length : (before now : List Job) (e f : Option ℕ) (r w : Row) → Leaves before now e f r w → length now + size r ≡ length before + size w
leaves-length before now e f r w h =
    omega (
      arith,
      ap length h.jobs_left,
      length-append before (jobs (length before) (listed e) w),
      length-append now (jobs (length now) (listed f) r),
      length-jobs (length before) (listed e) w,
      length-jobs (length now) (listed f) r,
    )

-- at a group the open run comes first, and then the group
group_row : (run : List Voice) (flag : Option (List Moved)) (inner rest : HeardNodes) → row_of run (group flag inner rest) ≡ followed (close run done) (followed (inner_row flag inner) (row_of [] rest))
group_row run flag inner rest = close-followed run (followed (inner_row flag inner) (row_of [] rest))

-- a group in a row: it was put after the open run
pub group_put : (before now mid after : List Job) (e f g k : Option ℕ) (run : List Voice) (flag : Option (List Moved)) (inner rest : HeardNodes) (w : Row) → Leaves before now e f (row_of run (group flag inner rest)) w
    → Puts now mid f g (close run done) → Puts mid after g k (inner_row flag inner) → Leaves before after e k (row_of [] rest) w
group_put before now mid after e f g k run flag inner rest w h p q =
    let r : Row = inner_row flag inner in
    let q2 : row_of run (group flag inner rest) ≡ followed (close run done) (followed r (row_of [] rest)) = group_row run flag inner rest in
    leaves_more before mid after e g k r (row_of [] rest) w (leaves_more before now mid e f g (close run done) (followed r (row_of [] rest)) w (subst (λ (x : Row). Leaves before now e f x w) q2 h) p) q

-- there is room for the open run and the group
pub room_for : (before now : List Job) (e f : Option ℕ) (run : List Voice) (flag : Option (List Moved)) (inner rest : HeardNodes) (w : Row) → Leaves before now e f (row_of run (group flag inner rest)) w
    → length now + size (close run done) + size (inner_row flag inner) ≤ length before + size w
room_for before now e f run flag inner rest w h =
    let r : Row = inner_row flag inner in
    let q2 : row_of run (group flag inner rest) ≡ followed (close run done) (followed r (row_of [] rest)) = group_row run flag inner rest in
    omega (arith, leaves-length before now e f (row_of run (group flag inner rest)) w h, ap size q2, size-followed (close run done) (followed r (row_of [] rest)), size-followed r (row_of [] rest))

-- a member was put
pub member_put : (before now after : List Job) (ls : List ℕ) (e f : Option ℕ) (r : Row) (rs ws : List Row) → LeavesAll before now ls e (r ∷ rs) ws → Puts now after e f r → LeavesAll before after (ls ++ listed f) e rs ws
member_put before now after ls e f r rs ws h p =
    let n : ℕ = length now in
    let q : length after ≡ n + size r = puts-length now after e f r p in
    record {
      jobs_left =
          ap (λ (l : List Job). l ++ jobs_list (length after) (listed e) rs) p.jobs_put
          ∙ (append_assoc now (jobs n (listed e) r) (jobs_list (length after) (listed e) rs)
          ∙ (ap (λ (m : ℕ). now ++ (jobs n (listed e) r ++ jobs_list m (listed e) rs)) q ∙ h.jobs_left));
      lasts_left =
          append_assoc ls (listed f) (lasts_list (length after) (listed e) rs)
          ∙ ((λ i. ls ++ (p.last_is i ++ lasts_list (q i) (listed e) rs)) ∙ h.lasts_left);
    }

pub length-list : (n : ℕ) (e : List ℕ) (r : Row) (rs : List Row) → length (jobs_list n e (r ∷ rs)) ≡ size_all (members r rs)
length-list n e r [] = omega (arith, length-append (jobs n e r) [], length-jobs n e r)
length-list n e r (q ∷ rs) = omega (arith, length-append (jobs n e r) (jobs_list (n + size r) e (q ∷ rs)), length-jobs n e r, length-list (n + size r) e q rs)

pub size-joined : (lanes : List Moved) (r : Row) (rs : List Row) → size_all (members r rs) ≤ size (joined lanes (r ∷ rs))
size-joined lanes r [] = omega arith
size-joined lanes r (q ∷ rs) = omega arith

-- there is room for a member
pub room_member : (lanes : List Moved) (before now : List Job) (ls : List ℕ) (e : Option ℕ) (r : Row) (rs ws : List Row) → LeavesAll before now ls e (r ∷ rs) ws → length now + size r ≤ length before + size (joined lanes ws)
room_member lanes before now ls e r rs [] h =
    omega (arith, ap length h.jobs_left, length-append before [], length-append now (jobs_list (length now) (listed e) (r ∷ rs)), length-append (jobs (length now) (listed e) r) (jobs_list (length now + size r) (listed e) rs), length-jobs (length now) (listed e) r)
room_member lanes before now ls e r rs (w ∷ ws) h =
    omega (
      arith,
      ap length h.jobs_left,
      length-append before (jobs_list (length before) (listed e) (w ∷ ws)),
      length-append now (jobs_list (length now) (listed e) (r ∷ rs)),
      length-append (jobs (length now) (listed e) r) (jobs_list (length now + size r) (listed e) rs),
      length-jobs (length now) (listed e) r,
      length-list (length before) (listed e) w ws,
      size-joined lanes w ws,
    )

pub room_joint : (lanes : List Moved) (before now : List Job) (ls : List ℕ) (e : Option ℕ) (ws : List Row) → LeavesAll before now ls e [] ws → length now ≤ length before + size (joined lanes ws)
room_joint lanes before now ls e [] h = omega (arith, ap length h.jobs_left, length-append before [], length-append now [])
room_joint lanes before now ls e (w ∷ ws) h =
    omega (arith, ap length h.jobs_left, length-append before (jobs_list (length before) (listed e) (w ∷ ws)), length-append now [], length-list (length before) (listed e) w ws, size-joined lanes w ws)

-- a row with a job has one last job
pub single : (n : ℕ) (x : ℕ) (r : Row) → (m : ℕ) × (last n (x ∷ []) r ≡ m ∷ [])
single n x done = (x, refl)
single n x (job ss rest) = single (n + 1) n rest
single n x (split lanes ms rest) = single (n + size_all ms + 1) (n + size_all ms) rest

pub last_single : (n : ℕ) (e : List ℕ) (r : Row) → 1 ≤ size r → (m : ℕ) × (last n e r ≡ m ∷ [])
last_single n e done l = absurd (omega arith)
last_single n e (job ss rest) l = single (n + 1) n rest
last_single n e (split lanes ms rest) l = single (n + size_all ms + 1) (n + size_all ms) rest

pub jobs-members : (n : ℕ) (e : List ℕ) (r : Row) (rs : List Row) → jobs_all n e (members r rs) ≡ jobs_list n e (r ∷ rs)
jobs-members n e r [] = sym (append-nil (jobs n e r))
jobs-members n e r (q ∷ rs) = ap (λ (l : List Job). jobs n e r ++ l) (jobs-members (n + size r) e q rs)

pub lasts-members : (n : ℕ) (e : List ℕ) (r : Row) (rs : List Row) → lasts n e (members r rs) ≡ lasts_list n e (r ∷ rs)
lasts-members n e r [] = sym (append-nil (last n e r))
lasts-members n e r (q ∷ rs) = ap (λ (l : List ℕ). last n e r ++ l) (lasts-members (n + size r) e q rs)

-- the joint was put after the members
pub joint_put : (lanes : List Moved) (before now after : List Job) (ls : List ℕ) (e f : Option ℕ) (ws : List Row) → filling.AllFull ws → LeavesAll before now ls e [] ws → IsJoint lanes now after ls e f → Puts before after e f (joined lanes ws)
joint_put lanes before now after ls e f [] full h j =
    let none : ls ≡ [] = sym (append-nil ls) ∙ h.lasts_left in
    let k : (after ≡ now) × (f ≡ e) = subst (λ (l : List ℕ). IsJoint lanes now after l e f) none j in
    record { jobs_put = k.0 ∙ (sym (append-nil now) ∙ h.jobs_left); last_is = ap listed k.1 }
joint_put lanes before now after ls e f (r ∷ []) full h j =
    let m = last_single (length before) (listed e) r full.0 in
    let one : ls ≡ m.0 ∷ [] = sym (append-nil ls) ∙ (h.lasts_left ∙ (append-nil (last (length before) (listed e) r) ∙ m.1)) in
    let k : (after ≡ now) × (f ≡ Some m.0) = subst (λ (l : List ℕ). IsJoint lanes now after l e f) one j in
    record {
      jobs_put = k.0 ∙ (sym (append-nil now) ∙ (h.jobs_left ∙ ap (λ (l : List Job). before ++ l) (append-nil (jobs (length before) (listed e) r))));
      last_is = ap listed k.1 ∙ sym m.1;
    }
joint_put lanes before now after ls e f (r ∷ q ∷ rs) full h j =
    let n : ℕ = length before in
    let a = last_single n (listed e) r full.0 in
    let b = last_single (n + size r) (listed e) q full.2.0 in
    let rest : List ℕ = lasts_list (n + size r + size q) (listed e) rs in
    let all : ls ≡ lasts n (listed e) (members r (q ∷ rs)) = sym (append-nil ls) ∙ (h.lasts_left ∙ sym (lasts-members n (listed e) r (q ∷ rs))) in
    let two : ls ≡ a.0 ∷ b.0 ∷ rest = sym (append-nil ls) ∙ (h.lasts_left ∙ (λ i. a.1 i ++ (b.1 i ++ rest))) in
    let k : (after ≡ now ++ job_of [] lanes (a.0 ∷ b.0 ∷ rest) ∷ []) × (f ≡ Some (length now)) = subst (λ (l : List ℕ). IsJoint lanes now after l e f) two j in
    let here : now ≡ before ++ jobs_all n (listed e) (members r (q ∷ rs)) = sym (append-nil now) ∙ (h.jobs_left ∙ ap (λ (l : List Job). before ++ l) (sym (jobs-members n (listed e) r (q ∷ rs)))) in
    let long : length now ≡ n + size_all (members r (q ∷ rs)) = omega (arith, ap length here, length-append before (jobs_all n (listed e) (members r (q ∷ rs))), ap length (jobs-members n (listed e) r (q ∷ rs)), length-list n (listed e) r (q ∷ rs)) in
    record {
      jobs_put = k.0 ∙ ((λ i. here i ++ job_of [] lanes ((sym two ∙ all) i) ∷ []) ∙ append_assoc before (jobs_all n (listed e) (members r (q ∷ rs))) (job_of [] lanes (lasts n (listed e) (members r (q ∷ rs))) ∷ []));
      last_is = ap listed k.1 ∙ ap (λ (m : ℕ). m ∷ []) long;
    }

pub is_joint : (lanes : List Moved) (before after : List Job) (ls : List ℕ) (e f : Option ℕ) → 2 ≤ length ls → after ≡ before ++ job_of [] lanes ls ∷ [] → f ≡ Some (length before) → IsJoint lanes before after ls e f
is_joint lanes before after [] e f l h k = absurd (omega arith)
is_joint lanes before after (x ∷ []) e f l h k = absurd (omega arith)
is_joint lanes before after (x ∷ y ∷ ls) e f l h k = (h, k)

pub length-behind : (run : List (Bor Voice)) → length (behind run) ≡ length run
length-behind [] = refl
length-behind (x ∷ xs) = ap suc (length-behind xs)

-- the same as the planner meets them
module _ {before now : List Job} {e f : Option ℕ} {w : Row} where
  pub fit_row : {r : Row} → Leaves before now e f r w → length before + size w < 2 ^ 32 → length now < 2 ^ 32
  fit_row {r} h l = omega (arith, leaves-length before now e f r w h)

  pub fit_group : (run : List Voice) {n inner rest : HeardNodes} {flag : Option (List Moved)} {mid : List Job} {g : Option ℕ} → Leaves before now e f (row_of run n) w → n ≡ group flag inner rest → length before + size w < 2 ^ 32
      → Puts now mid f g (close run done) → length mid + size (inner_row flag inner) < 2 ^ 32
  fit_group run {n} {inner} {rest} {flag} {mid} {g} h q l p =
      omega (arith, puts-length now mid f g (close run done) p, room_for before now e f run flag inner rest w (subst (λ (m : HeardNodes). Leaves before now e f (row_of run m) w) q h))

  pub next_group : (run : List Voice) {n inner rest : HeardNodes} {flag : Option (List Moved)} {mid after : List Job} {g k : Option ℕ} → Leaves before now e f (row_of run n) w → n ≡ group flag inner rest
      → Puts now mid f g (close run done) → Puts mid after g k (inner_row flag inner) → Leaves before after e k (row_of [] rest) w
  next_group run {n} {inner} {rest} {flag} {mid} {after} {g} {k} h q p r =
      group_put before now mid after e f g k run flag inner rest w (subst (λ (m : HeardNodes). Leaves before now e f (row_of run m) w) q h) p r

  pub end_row : (run : List Voice) {n : HeardNodes} {after : List Job} {g : Option ℕ} → Leaves before now e f (row_of run n) w → n ≡ none → Puts now after f g (close run done) → Puts before after e g w
  end_row run {n} {after} {g} h q p = leaves_none before now after e f g (close run done) w (subst (λ (m : HeardNodes). Leaves before now e f (row_of run m) w) q h) p

last_of : (ls ms : List ℕ) (b : Bool) (k : Option ℕ) → b ≡ true → ms ≡ ls ++ listed (if b then k else None) → ms ≡ ls ++ listed k
last_of ls ms b k h m = m ∙ ap (λ (o : Option ℕ). ls ++ listed o) (cond-true b k None h)

none_of : (ls ms : List ℕ) (b : Bool) (k : Option ℕ) → b ≡ false → ms ≡ ls ++ listed (if b then k else None) → ms ≡ ls
none_of ls ms b k h m = m ∙ (ap (λ (o : Option ℕ). ls ++ listed o) (cond-false b k None h) ∙ append-nil ls)

module _ (lanes : List Moved) {before now : List Job} {e : Option ℕ} {ls : List ℕ} {ws : List Row} where
  pub fit_members : {rs : List Row} → LeavesAll before now ls e rs ws → length before + size (joined lanes ws) < 2 ^ 32 → length now < 2 ^ 32
  fit_members {rs = []} h l = omega (arith, room_joint lanes before now ls e ws h)
  fit_members {rs = r ∷ rs} h l = omega (arith, room_member lanes before now ls e r rs ws h)

  -- a member without a job is left out
  fit_kept : (r : Row) (rs : List Row) → LeavesAll before now ls e (keep r rs) ws → length before + size (joined lanes ws) < 2 ^ 32 → length now + size r < 2 ^ 32
  fit_kept done rs h l = omega (arith, fit_members h l)
  fit_kept (job ss a) rs h l = omega (arith, room_member lanes before now ls e (job ss a) rs ws h)
  fit_kept (split others ms a) rs h l = omega (arith, room_member lanes before now ls e (split others ms a) rs ws h)

  pub fit_member : {n inner rest : HeardNodes} {flag : Option (List Moved)} → LeavesAll before now ls e (rows_of n) ws → n ≡ group flag inner rest → length before + size (joined lanes ws) < 2 ^ 32 → length now + size (inner_row flag inner) < 2 ^ 32
  fit_member {n} {inner} {rest} {flag} h q l = fit_kept (inner_row flag inner) (rows_of rest) (subst (λ (x : HeardNodes). LeavesAll before now ls e (rows_of x) ws) q h) l

  pub end_members : (inner : HeardNodes) {n : HeardNodes} {after : List Job} {k : Option ℕ} → LeavesAll before now ls e (rows_of n) ws → n ≡ none → ws ≡ rows_of inner → IsJoint lanes now after ls e k → Puts before after e k (joined lanes ws)
  end_members inner {n} {after} {k} h q u j =
      joint_put lanes before now after ls e k ws (subst filling.AllFull (sym u) (filling.full-rows inner)) (subst (λ (x : HeardNodes). LeavesAll before now ls e (rows_of x) ws) q h) j

module _ {before now : List Job} {e : Option ℕ} {ls : List ℕ} {ws : List Row} where
  pub next_synth : {n rest : HeardNodes} {s : Voice} {after : List Job} {k : Option ℕ} {ms : List ℕ} → LeavesAll before now ls e (rows_of n) ws → n ≡ synth s rest → Puts now after e k (close (s ∷ []) done) → ms ≡ ls ++ listed k → LeavesAll before after ms e (rows_of rest) ws
  next_synth {n} {rest} {s} {after} {k} {ms} h q p m =
      subst (λ (l : List ℕ). LeavesAll before after l e (rows_of rest) ws) (sym m) (member_put before now after ls e k (close (s ∷ []) done) (rows_of rest) ws (subst (λ (x : HeardNodes). LeavesAll before now ls e (rows_of x) ws) q h) p)

  kept_put : (r : Row) (rs : List Row) (after : List Job) (k : Option ℕ) (ms : List ℕ) (b : Bool) → LeavesAll before now ls e (keep r rs) ws → Puts now after e k r
      → ms ≡ ls ++ listed (if b then k else None) → (b ≡ true → length now < length after) → (b ≡ false → length after ≤ length now) → LeavesAll before after ms e rs ws
  kept_put done rs after k ms b h p m more few =
      let same : after ≡ now = p.jobs_put ∙ append-nil now in
      ⊎_elim
      (λ (t : b ≡ true). absurd (omega (arith, more t, ap length same)))
      (λ (f : b ≡ false). subst (λ (l : List ℕ). LeavesAll before after l e rs ws) (sym (none_of ls ms b k f m)) (subst (λ (js : List Job). LeavesAll before js ls e rs ws) (sym same) h))
      (cases_Bool b)
  kept_put (job ss a) rs after k ms b h p m more few =
      let long = puts-length now after e k (job ss a) p in
      ⊎_elim
      (λ (t : b ≡ true). subst (λ (l : List ℕ). LeavesAll before after l e rs ws) (sym (last_of ls ms b k t m)) (member_put before now after ls e k (job ss a) rs ws h p))
      (λ (f : b ≡ false). absurd (omega (arith, few f, long)))
      (cases_Bool b)
  kept_put (split lanes ns a) rs after k ms b h p m more few =
      let long = puts-length now after e k (split lanes ns a) p in
      ⊎_elim
      (λ (t : b ≡ true). subst (λ (l : List ℕ). LeavesAll before after l e rs ws) (sym (last_of ls ms b k t m)) (member_put before now after ls e k (split lanes ns a) rs ws h p))
      (λ (f : b ≡ false). absurd (omega (arith, few f, long)))
      (cases_Bool b)

  pub next_member : (b : Bool) {n inner rest : HeardNodes} {flag : Option (List Moved)} {after : List Job} {k : Option ℕ} {ms : List ℕ} → LeavesAll before now ls e (rows_of n) ws → n ≡ group flag inner rest → Puts now after e k (inner_row flag inner)
      → ms ≡ ls ++ listed (if b then k else None) → (b ≡ true → length now < length after) → (b ≡ false → length after ≤ length now) → LeavesAll before after ms e (rows_of rest) ws
  next_member b {n} {inner} {rest} {flag} {after} {k} {ms} h q p m more few =
      kept_put (inner_row flag inner) (rows_of rest) after k ms b (subst (λ (x : HeardNodes). LeavesAll before now ls e (rows_of x) ws) q h) p m more few

-- the words of some of them
pub within_left : (xs ys : List Voice) → AreWithin (xs ++ ys) → AreWithin xs
within_left [] ys w = tt
within_left (x ∷ xs) ys w = (w.0, within_left xs ys w.1)

pub within_right : (xs ys : List Voice) → AreWithin (xs ++ ys) → AreWithin ys
within_right [] ys w = w
within_right (x ∷ xs) ys w = within_right xs ys w.1

pub within_both : (xs ys : List Voice) → AreWithin xs → AreWithin ys → AreWithin (xs ++ ys)
within_both [] ys v w = w
within_both (x ∷ xs) ys v w = (v.0, within_both xs ys v.1 w)

pub reads_end : (vs : List Voice) → AreWithin vs → All Ends (all_reads vs)
reads_end [] w = λ k d l. absurd (omega arith)
reads_end (v ∷ vs) w = All-append Ends (own_foot v).reads (all_reads vs) w.0.0 (reads_end vs w.1)

pub writes_end : (vs : List Voice) → AreWithin vs → All Ends (all_writes vs)
writes_end [] w = λ k d l. absurd (omega arith)
writes_end (v ∷ vs) w = All-append Ends (own_foot v).writes (all_writes vs) w.0.1 (writes_end vs w.1)

-- what is left of the joints
pub joints_synth : (n : HeardNodes) {rest : HeardNodes} {v : Voice} → JointsEnd n → n ≡ synth v rest → JointsEnd rest
joints_synth n {rest} {v} j e = subst (λ (m : HeardNodes). JointsEnd m) e j

pub joints_group : (n : HeardNodes) {lanes : Option (List Moved)} {inner rest : HeardNodes} → JointsEnd n → n ≡ group lanes inner rest → HaveEnds (joint_lanes lanes) × (JointsEnd inner × JointsEnd rest)
joints_group n {lanes} {inner} {rest} j e = subst (λ (m : HeardNodes). JointsEnd m) e j

-- what is left to be put touches words with numbers
pub within_run : (run : List Voice) (n : HeardNodes) → AreWithin (run ++ voices n) → AreWithin run
within_run run n w = within_left run (voices n) w

pub within_synth : (n : HeardNodes) {rest : HeardNodes} {v : Voice} → AreWithin (voices n) → n ≡ synth v rest → AreWithin (v ∷ []) × AreWithin (voices rest)
within_synth n {rest} {v} w e = let s : AreWithin (voices (synth v rest)) = subst (λ (m : HeardNodes). AreWithin (voices m)) e w in ((s.0, tt), s.1)

module _ (run : List Voice) (n : HeardNodes) {rest inner : HeardNodes} {flag : Option (List Moved)} where
  within_group : AreWithin (run ++ voices n) → n ≡ group flag inner rest → AreWithin (voices inner ++ voices rest)
  within_group w e = within_right run (voices (group flag inner rest)) (subst (λ (m : HeardNodes). AreWithin (run ++ voices m)) e w)

  pub within_inner : AreWithin (run ++ voices n) → n ≡ group flag inner rest → AreWithin (voices inner)
  within_inner w e = within_left (voices inner) (voices rest) (within_group w e)

  pub within_rest : AreWithin (run ++ voices n) → n ≡ group flag inner rest → AreWithin (voices rest)
  within_rest w e = within_right (voices inner) (voices rest) (within_group w e)
