-- Two lists of extents share a word exactly where two of their extents meet.
use Rattle.std.proofs.Common.{◌≡◌, ◌≤◌, ◌<◌, ◌↔◌, IsTrue, ℕ, ◌+◌, max, Bool, true, false, ◌||◌, List, [], ◌∷◌, refl, ap, sym, ⊎_elim, inl, inr, true≢false, arith}
use Rattle.std.specs.List.{list_any}
use Rattle.std.specs.Prelude.{nat_le, nat_lt}
use Rattle.std.proofs.lemmas.Bool.{and_parts, and_from, and_left, and_right, or_cases, or_left, or_right, ltb-true, lt-ltb, le-ltb, leb-true, le-leb, lt-leb}
use Rattle.sn_mem.specs.declared.extents.Extent.{Extent}
use Rattle.sn_mem.specs.declared.extents.Foot.{Foot}
use Rattle.sn_mem.specs.Words.{covers, has, writes, touches, Clash}
use Rattle.sn_mem.specs.Meetings.{meet, any_meet, writes_meet}

-- a word is in some of them if one covers it
pub has_is : (es : List Extent) (x : ℕ) → list_any (λ e. covers e x) es ≡ has es x
has_is [] x = refl
has_is (e ∷ es) x = ap (λ (b : Bool). covers e x || b) (has_is es x)

pub covered : (e : Extent) (x : ℕ) → e.at ≤ x → x < e.at + e.len → covers e x ≡ true
covered e x low high = and_from (nat_le e.at x) (nat_lt x (e.at + e.len)) (le-leb e.at x low) (lt-ltb x (e.at + e.len) high)

pub before : (e : Extent) (x : ℕ) → x < e.at → covers e x ≡ false
before e x h = and_left (nat_le e.at x) (nat_lt x (e.at + e.len)) (lt-leb e.at x h)

pub after : (e : Extent) (x : ℕ) → e.at + e.len ≤ x → covers e x ≡ false
after e x h = and_right (nat_le e.at x) (nat_lt x (e.at + e.len)) (le-ltb x (e.at + e.len) h)

meet_is : (a b : Extent) → meet a b ≡ true → (covers a (max a.at b.at) ≡ true) × (covers b (max a.at b.at) ≡ true)
meet_is a b m =
    let p = and_parts (nat_lt (max a.at b.at) (a.at + a.len)) (nat_lt (max a.at b.at) (b.at + b.len)) m in
    let l = ltb-true (max a.at b.at) (a.at + a.len) p.0 in let r = ltb-true (max a.at b.at) (b.at + b.len) p.1 in
    (covered a (max a.at b.at) (omega arith) l, covered b (max a.at b.at) (omega arith) r)

pub is_meet : (a b : Extent) (x : ℕ) → covers a x ≡ true → covers b x ≡ true → meet a b ≡ true
is_meet a b x c d =
    let p = and_parts (nat_le a.at x) (nat_lt x (a.at + a.len)) c in let q = and_parts (nat_le b.at x) (nat_lt x (b.at + b.len)) d in
    let p0 = leb-true a.at x p.0 in let p1 = ltb-true x (a.at + a.len) p.1 in let q0 = leb-true b.at x q.0 in let q1 = ltb-true x (b.at + b.len) q.1 in
    and_from (nat_lt (max a.at b.at) (a.at + a.len)) (nat_lt (max a.at b.at) (b.at + b.len)) (lt-ltb (max a.at b.at) (a.at + a.len) (omega arith)) (lt-ltb (max a.at b.at) (b.at + b.len) (omega arith))

-- an extent that meets one of the list shares a word with it
one_is : (a : Extent) (fs : List Extent) → list_any (meet a) fs ≡ true → (x : ℕ) × (covers a x ≡ true) × (has fs x ≡ true)
one_is a [] e = absurd (true≢false (sym e))
one_is a (f ∷ fs) e = ⊎_elim
    (λ (m : meet a f ≡ true). let p = meet_is a f m in (max a.at f.at, p.0, or_left (covers f (max a.at f.at)) (has fs (max a.at f.at)) p.1))
    (λ (m : list_any (meet a) fs ≡ true). let (x, c, h) = one_is a fs m in (x, c, or_right (covers f x) (has fs x) h))
    (or_cases (meet a f) (list_any (meet a) fs) e)

pub is_one : (a : Extent) (fs : List Extent) (x : ℕ) → covers a x ≡ true → has fs x ≡ true → list_any (meet a) fs ≡ true
is_one a [] x c h = absurd (true≢false (sym h))
is_one a (f ∷ fs) x c h = ⊎_elim
    (λ (d : covers f x ≡ true). or_left (meet a f) (list_any (meet a) fs) (is_meet a f x c d))
    (λ (d : has fs x ≡ true). or_right (meet a f) (list_any (meet a) fs) (is_one a fs x c d))
    (or_cases (covers f x) (has fs x) h)

any_is : (es fs : List Extent) → any_meet es fs ≡ true → (x : ℕ) × (has es x ≡ true) × (has fs x ≡ true)
any_is [] fs e = absurd (true≢false (sym e))
any_is (a ∷ es) fs e = ⊎_elim
    (λ (m : list_any (meet a) fs ≡ true). let (x, c, h) = one_is a fs m in (x, or_left (covers a x) (has es x) c, h))
    (λ (m : any_meet es fs ≡ true). let (x, c, h) = any_is es fs m in (x, or_right (covers a x) (has es x) c, h))
    (or_cases (list_any (meet a) fs) (any_meet es fs) e)

is_any : (es fs : List Extent) (x : ℕ) → has es x ≡ true → has fs x ≡ true → any_meet es fs ≡ true
is_any [] fs x h k = absurd (true≢false (sym h))
is_any (a ∷ es) fs x h k = ⊎_elim
    (λ (c : covers a x ≡ true). or_left (list_any (meet a) fs) (any_meet es fs) (is_one a fs x c k))
    (λ (c : has es x ≡ true). or_right (list_any (meet a) fs) (any_meet es fs) (is_any es fs x c k))
    (or_cases (covers a x) (has es x) h)

writes_is : (a b : Foot) → writes_meet a b ≡ true → (x : ℕ) × (writes a x ≡ true) × (touches b x ≡ true)
writes_is a b e = ⊎_elim
    (λ (m : any_meet a.writes b.writes ≡ true). let (x, c, h) = any_is a.writes b.writes m in (x, c, or_left (has b.writes x) (has b.reads x) h))
    (λ (m : any_meet a.writes b.reads ≡ true). let (x, c, h) = any_is a.writes b.reads m in (x, c, or_right (has b.writes x) (has b.reads x) h))
    (or_cases (any_meet a.writes b.writes) (any_meet a.writes b.reads) e)

is_writes : (a b : Foot) (x : ℕ) → writes a x ≡ true → touches b x ≡ true → writes_meet a b ≡ true
is_writes a b x w t = ⊎_elim
    (λ (h : has b.writes x ≡ true). or_left (any_meet a.writes b.writes) (any_meet a.writes b.reads) (is_any a.writes b.writes x w h))
    (λ (h : has b.reads x ≡ true). or_right (any_meet a.writes b.writes) (any_meet a.writes b.reads) (is_any a.writes b.reads x w h))
    (or_cases (has b.writes x) (has b.reads x) t)

pub clash_is : (a b : Foot) → IsTrue (writes_meet a b || writes_meet b a) ↔ Clash a b
clash_is a b = (
  (λ (e : (writes_meet a b || writes_meet b a) ≡ true). ⊎_elim
      (λ (m : writes_meet a b ≡ true). let (x, w, t) = writes_is a b m in (x, inl (w, t)))
      (λ (m : writes_meet b a ≡ true). let (x, w, t) = writes_is b a m in (x, inr (w, t)))
      (or_cases (writes_meet a b) (writes_meet b a) e)),
  (λ (h : Clash a b). ⊎_elim
      (λ (p : (writes a h.0 ≡ true) × (touches b h.0 ≡ true)). or_left (writes_meet a b) (writes_meet b a) (is_writes a b h.0 p.0 p.1))
      (λ (p : (writes b h.0 ≡ true) × (touches a h.0 ≡ true)). or_right (writes_meet a b) (writes_meet b a) (is_writes b a h.0 p.0 p.1))
      h.1),
)
