-- The order of a row's jobs.
use Rattle.std.proofs.Common.{◌≡◌, ◌⊎◌, ℕ, zero, suc, ◌+◌, ◌<◌, ◌≤◌, List, [], ◌∷◌, ◌++◌, sym, refl, ap, ◌∙◌, subst, ⊎_elim, inl, inr, arith}
use Rattle.std.specs.Prelude.{Contains}
use Rattle.std.proofs.lemmas.Bool.{cases_lt}
use Rattle.std.proofs.lemmas.List.Elements.{Contains-append_left, Contains-append_right, Contains-append_cases}
use Rattle.sn_graph.specs.Rows.{Row, Members, done, job, split, one, more, size, size_all, last, lasts}
use Rattle.sn_graph.proofs.Shapes.{Fits, FitsAll, Apart, ApartAll, Across}

-- i is a predecessor of j, or of a job before it
pub data Path (b : ℕ → List ℕ) : ℕ → ℕ → Type 0 where
  step : {i j : ℕ} → Contains (b j) i → Path b i j
  next : {i k j : ℕ} → Path b i k → Contains (b j) k → Path b i j

pub itself : (x : ℕ) → Contains (x ∷ []) x
itself x = (0, omega arith, refl)

pub only : (x y : ℕ) → Contains (x ∷ []) y → x ≡ y
only x y (zero, l, e) = e
only x y (suc k, l, e) = absurd (omega arith)

module _ (b : ℕ → List ℕ) where
  pub trans : {i k j : ℕ} → Path b i k → Path b k j → Path b i j
  trans p (step c) = next p c
  trans p (next q c) = next (trans p q) c

  -- x is one of these, or stands before one of them
  abbrev pub Reaches : ℕ → List ℕ → Type 0
  Reaches x ms = (m : ℕ) × Contains ms m × ((x ≡ m) ⊎ Path b x m)

  -- from a predecessor of j
  pub to_here : (j : ℕ) (ms : List ℕ) (x : ℕ) → b j ≡ ms → Reaches x ms → Path b x j
  to_here j ms x e (m, c, h) =
      let c2 : Contains (b j) m = subst (λ (l : List ℕ). Contains l m) (sym e) c in
      ⊎_elim (λ (q : x ≡ m). subst (λ (y : ℕ). Path b y j) (sym q) (step c2)) (λ (p : Path b x m). next p c2) h

  pub after : (x k : ℕ) (ms : List ℕ) → Path b x k → Reaches k ms → Reaches x ms
  after x k ms p (m, c, h) = (m, c, inr (⊎_elim (λ (q : k ≡ m). subst (λ (y : ℕ). Path b x y) q p) (λ (r : Path b k m). trans p r) h))

  pub left : (x : ℕ) (ms ns : List ℕ) → Reaches x ms → Reaches x (ms ++ ns)
  left x ms ns (m, c, h) = (m, Contains-append_left ms ns m c, h)

  pub right : (x : ℕ) (ms ns : List ℕ) → Reaches x ns → Reaches x (ms ++ ns)
  right x ms ns (m, c, h) = (m, Contains-append_right ms ns m c, h)

  -- the entry stands before the last job, or is it
  mutual
    pub reach : (n : ℕ) (e : List ℕ) (r : Row) (x : ℕ) → Fits b n e r → Contains e x → Reaches x (last n e r)
    reach n e done x f c = (x, c, inl refl)
    reach n e (job ss rest) x f c =
        let p : Path b x n = step (subst (λ (l : List ℕ). Contains l x) (sym f.0) c) in
        after x n _ p (reach (n + 1) (n ∷ []) rest n f.1 (itself n))
    reach n e (split lanes ms rest) x f c =
        let p : Path b x (n + size_all ms) = to_here (n + size_all ms) (lasts n e ms) x f.1 (reach_all n e ms x f.0 c) in
        after x (n + size_all ms) _ p (reach (n + size_all ms + 1) ((n + size_all ms) ∷ []) rest (n + size_all ms) f.2 (itself (n + size_all ms)))

    pub reach_all : (n : ℕ) (e : List ℕ) (ms : Members) (x : ℕ) → FitsAll b n e ms → Contains e x → Reaches x (lasts n e ms)
    reach_all n e (one r) x f c = reach n e r x f c
    reach_all n e (more r ms) x f c = left x (last n e r) (lasts (n + size r) e ms) (reach n e r x f.0 c)

  -- the entry stands before each job
  mutual
    pub first : (n : ℕ) (e : List ℕ) (r : Row) (x k : ℕ) → Fits b n e r → Contains e x → n ≤ k → k < n + size r → Path b x k
    first n e done x k f c l m = absurd (omega arith)
    first n e (job ss rest) x k f c l m =
        let p : Path b x n = step (subst (λ (l : List ℕ). Contains l x) (sym f.0) c) in
        ⊎_elim
        (λ (h : n < k). trans p (first (n + 1) (n ∷ []) rest n k f.1 (itself n) (omega arith) (omega arith)))
        (λ (h : k ≤ n). let q : n ≡ k = omega arith in subst (λ (y : ℕ). Path b x y) q p)
        (cases_lt n k)
    first n e (split lanes ms rest) x k f c l m =
        let p : Path b x (n + size_all ms) = to_here (n + size_all ms) (lasts n e ms) x f.1 (reach_all n e ms x f.0 c) in
        ⊎_elim
        (λ (h : k < n + size_all ms). first_all n e ms x k f.0 c l h)
        (λ (h : n + size_all ms ≤ k). ⊎_elim
        (λ (g : n + size_all ms < k). trans p (first (n + size_all ms + 1) ((n + size_all ms) ∷ []) rest (n + size_all ms) k f.2 (itself (n + size_all ms)) (omega arith) (omega arith)))
        (λ (g : k ≤ n + size_all ms). let q : n + size_all ms ≡ k = omega arith in subst (λ (y : ℕ). Path b x y) q p)
        (cases_lt (n + size_all ms) k))
        (cases_lt k (n + size_all ms))

    pub first_all : (n : ℕ) (e : List ℕ) (ms : Members) (x k : ℕ) → FitsAll b n e ms → Contains e x → n ≤ k → k < n + size_all ms → Path b x k
    first_all n e (one r) x k f c l m = first n e r x k f c l m
    first_all n e (more r ms) x k f c l m =
        ⊎_elim
        (λ (h : k < n + size r). first n e r x k f.0 c l h)
        (λ (h : n + size r ≤ k). first_all (n + size r) e ms x k f.1 c h (omega arith))
        (cases_lt k (n + size r))

  -- each job stands before the last job, or is it
  mutual
    pub end : (n : ℕ) (e : List ℕ) (r : Row) (k : ℕ) → Fits b n e r → n ≤ k → k < n + size r → Reaches k (last n e r)
    end n e done k f l m = absurd (omega arith)
    end n e (job ss rest) k f l m =
        ⊎_elim
        (λ (h : n < k). end (n + 1) (n ∷ []) rest k f.1 (omega arith) (omega arith))
        (λ (h : k ≤ n). let q : n ≡ k = omega arith in subst (λ (y : ℕ). Reaches y (last (n + 1) (n ∷ []) rest)) q (reach (n + 1) (n ∷ []) rest n f.1 (itself n)))
        (cases_lt n k)
    end n e (split lanes ms rest) k f l m =
        let from_joint : Reaches (n + size_all ms) (last n e (split lanes ms rest)) = reach (n + size_all ms + 1) ((n + size_all ms) ∷ []) rest (n + size_all ms) f.2 (itself (n + size_all ms)) in
        ⊎_elim
        (λ (h : k < n + size_all ms). after k (n + size_all ms) _ (to_here (n + size_all ms) (lasts n e ms) k f.1 (end_all n e ms k f.0 l h)) from_joint)
        (λ (h : n + size_all ms ≤ k). ⊎_elim
        (λ (g : n + size_all ms < k). end (n + size_all ms + 1) ((n + size_all ms) ∷ []) rest k f.2 (omega arith) (omega arith))
        (λ (g : k ≤ n + size_all ms). let q : n + size_all ms ≡ k = omega arith in subst (λ (y : ℕ). Reaches y (last n e (split lanes ms rest))) q from_joint)
        (cases_lt (n + size_all ms) k))
        (cases_lt k (n + size_all ms))

    pub end_all : (n : ℕ) (e : List ℕ) (ms : Members) (k : ℕ) → FitsAll b n e ms → n ≤ k → k < n + size_all ms → Reaches k (lasts n e ms)
    end_all n e (one r) k f l m = end n e r k f l m
    end_all n e (more r ms) k f l m =
        ⊎_elim
        (λ (h : k < n + size r). left k (last n e r) (lasts (n + size r) e ms) (end n e r k f.0 l h))
        (λ (h : n + size r ≤ k). right k (last n e r) (lasts (n + size r) e ms) (end_all (n + size r) e ms k f.1 h (omega arith)))
        (cases_lt k (n + size r))

  -- of two jobs the lower stands before the higher, or they are apart
  mutual
    pub order : (n : ℕ) (e : List ℕ) (r : Row) (i j : ℕ) → Fits b n e r → n ≤ i → i < j → j < n + size r → Path b i j ⊎ Apart n r i j
    order n e done i j f l m h = absurd (omega arith)
    order n e (job ss rest) i j f l m h =
        ⊎_elim
        (λ (g : n < i). order (n + 1) (n ∷ []) rest i j f.1 (omega arith) m (omega arith))
        (λ (g : i ≤ n). let q : n ≡ i = omega arith in inl (subst (λ (y : ℕ). Path b y j) q (first (n + 1) (n ∷ []) rest n j f.1 (itself n) (omega arith) (omega arith))))
        (cases_lt n i)
    order n e (split lanes ms rest) i j f l m h =
        let joint : ℕ = n + size_all ms in
        let tail : joint < j → Path b joint j = λ (g : joint < j). first (n + size_all ms + 1) ((n + size_all ms) ∷ []) rest (n + size_all ms) j f.2 (itself (n + size_all ms)) (omega arith) (omega arith) in
        let upto : (x : ℕ) → Path b x joint → joint ≤ j → Path b x j = λ (x : ℕ) (p : Path b x joint) (g : joint ≤ j). ⊎_elim
        (λ (k : joint < j). trans p (tail k))
        (λ (k : j ≤ joint). let q : joint ≡ j = omega arith in subst (λ (y : ℕ). Path b x y) q p)
        (cases_lt joint j) in
        ⊎_elim
        (λ (g : j < n + size_all ms). ⊎_elim (λ (p : Path b i j). inl p) (λ (a : ApartAll n ms i j). inr (inl a)) (order_all n e ms i j f.0 l m g))
        (λ (g : n + size_all ms ≤ j). ⊎_elim
        (λ (k : i < n + size_all ms). inl (upto i (to_here (n + size_all ms) (lasts n e ms) i f.1 (end_all n e ms i f.0 l k)) g))
        (λ (k : n + size_all ms ≤ i). ⊎_elim
        (λ (d : n + size_all ms < i). ⊎_elim (λ (p : Path b i j). inl p) (λ (a : Apart (n + size_all ms + 1) rest i j). inr (inr a)) (order (n + size_all ms + 1) ((n + size_all ms) ∷ []) rest i j f.2 (omega arith) m (omega arith)))
        (λ (d : i ≤ n + size_all ms). let q : n + size_all ms ≡ i = omega arith in inl (subst (λ (y : ℕ). Path b y j) q (tail (omega arith))))
        (cases_lt (n + size_all ms) i))
        (cases_lt i (n + size_all ms)))
        (cases_lt j (n + size_all ms))

    pub order_all : (n : ℕ) (e : List ℕ) (ms : Members) (i j : ℕ) → FitsAll b n e ms → n ≤ i → i < j → j < n + size_all ms → Path b i j ⊎ ApartAll n ms i j
    order_all n e (one r) i j f l m h = order n e r i j f l m h
    order_all n e (more r ms) i j f l m h =
        ⊎_elim
        (λ (g : j < n + size r). ⊎_elim (λ (p : Path b i j). inl p) (λ (a : Apart n r i j). inr (inr (inl a))) (order n e r i j f.0 l m g))
        (λ (g : n + size r ≤ j). ⊎_elim
        (λ (k : i < n + size r). inr (inl (l, k, g, omega arith)))
        (λ (k : n + size r ≤ i). ⊎_elim (λ (p : Path b i j). inl p) (λ (a : ApartAll (n + size r) ms i j). inr (inr (inr a))) (order_all (n + size r) e ms i j f.1 k m (omega arith)))
        (cases_lt i (n + size r)))
        (cases_lt j (n + size r))

-- the other way: what is apart is not ordered
module _ (b : ℕ → List ℕ) where
  abbrev pub IsLower : Type 0
  IsLower = (k m : ℕ) → Contains (b k) m → m < k

  abbrev pub Below : ℕ → List ℕ → Type 0
  Below n e = (x : ℕ) → Contains e x → x < n

  pub below_itself : (n : ℕ) → Below (n + 1) (n ∷ [])
  below_itself n x c = let q : n ≡ x = only n x c in omega arith

  pub path_lower : {i j : ℕ} → IsLower → Path b i j → i < j
  path_lower {i} {j} low (step c) = low j i c
  path_lower {i} {j} low (next {k = k} p c) = let h : i < k = path_lower low p in let g : k < j = low j k c in omega arith

  abbrev pub Stays : ℕ → ℕ → List ℕ → ℕ → Type 0
  Stays n k e m = ((n ≤ m) × (m < k)) ⊎ Contains e m

  mutual
    pub last_in : (n : ℕ) (e : List ℕ) (r : Row) (m : ℕ) → Contains (last n e r) m → Stays n (n + size r) e m
    last_in n e done m c = inr c
    last_in n e (job ss rest) m c =
        ⊎_elim
        (λ (h : (n + 1 ≤ m) × (m < n + 1 + size rest)). inl (omega arith, omega arith))
        (λ (h : Contains (n ∷ []) m). let q : n ≡ m = only n m h in inl (omega arith, omega arith))
        (last_in (n + 1) (n ∷ []) rest m c)
    last_in n e (split lanes ms rest) m c =
        ⊎_elim
        (λ (h : (n + size_all ms + 1 ≤ m) × (m < n + size_all ms + 1 + size rest)). inl (omega arith, omega arith))
        (λ (h : Contains ((n + size_all ms) ∷ []) m). let q : n + size_all ms ≡ m = only (n + size_all ms) m h in inl (omega arith, omega arith))
        (last_in (n + size_all ms + 1) ((n + size_all ms) ∷ []) rest m c)

    pub lasts_in : (n : ℕ) (e : List ℕ) (ms : Members) (m : ℕ) → Contains (lasts n e ms) m → Stays n (n + size_all ms) e m
    lasts_in n e (one r) m c = last_in n e r m c
    lasts_in n e (more r ms) m c =
        ⊎_elim
        (λ (d : Contains (last n e r) m). ⊎_elim (λ (h : (n ≤ m) × (m < n + size r)). inl (omega arith, omega arith)) (λ (h : Contains e m). inr h) (last_in n e r m d))
        (λ (d : Contains (lasts (n + size r) e ms) m). ⊎_elim (λ (h : (n + size r ≤ m) × (m < n + size r + size_all ms)). inl (omega arith, omega arith)) (λ (h : Contains e m). inr h) (lasts_in (n + size r) e ms m d))
        (Contains-append_cases (last n e r) (lasts (n + size r) e ms) m c)

  -- a predecessor stands in the row, or in the entry
  mutual
    pub stays : (n : ℕ) (e : List ℕ) (r : Row) (k m : ℕ) → Fits b n e r → n ≤ k → k < n + size r → Contains (b k) m → Stays n k e m
    stays n e done k m f l h c = absurd (omega arith)
    stays n e (job ss rest) k m f l h c =
        ⊎_elim
        (λ (g : n < k). ⊎_elim
        (λ (d : (n + 1 ≤ m) × (m < k)). inl (omega arith, omega arith))
        (λ (d : Contains (n ∷ []) m). let q : n ≡ m = only n m d in inl (omega arith, omega arith))
        (stays (n + 1) (n ∷ []) rest k m f.1 (omega arith) (omega arith) c))
        (λ (g : k ≤ n). let q : k ≡ n = omega arith in inr (subst (λ (l : List ℕ). Contains l m) (ap b q ∙ f.0) c))
        (cases_lt n k)
    stays n e (split lanes ms rest) k m f l h c =
        ⊎_elim
        (λ (g : k < n + size_all ms). stays_all n e ms k m f.0 l g c)
        (λ (g : n + size_all ms ≤ k). ⊎_elim
        (λ (a : n + size_all ms < k). ⊎_elim
        (λ (d : (n + size_all ms + 1 ≤ m) × (m < k)). inl (omega arith, omega arith))
        (λ (d : Contains ((n + size_all ms) ∷ []) m). let q : n + size_all ms ≡ m = only (n + size_all ms) m d in inl (omega arith, omega arith))
        (stays (n + size_all ms + 1) ((n + size_all ms) ∷ []) rest k m f.2 (omega arith) (omega arith) c))
        (λ (a : k ≤ n + size_all ms). let q : k ≡ n + size_all ms = omega arith in
        ⊎_elim
        (λ (d : (n ≤ m) × (m < n + size_all ms)). inl (omega arith, omega arith))
        (λ (d : Contains e m). inr d)
        (lasts_in n e ms m (subst (λ (l : List ℕ). Contains l m) (ap b q ∙ f.1) c)))
        (cases_lt (n + size_all ms) k))
        (cases_lt k (n + size_all ms))

    pub stays_all : (n : ℕ) (e : List ℕ) (ms : Members) (k m : ℕ) → FitsAll b n e ms → n ≤ k → k < n + size_all ms → Contains (b k) m → Stays n k e m
    stays_all n e (one r) k m f l h c = stays n e r k m f l h c
    stays_all n e (more r ms) k m f l h c =
        ⊎_elim
        (λ (g : k < n + size r). stays n e r k m f.0 l g c)
        (λ (g : n + size r ≤ k). ⊎_elim (λ (d : (n + size r ≤ m) × (m < k)). inl (omega arith, omega arith)) (λ (d : Contains e m). inr d) (stays_all (n + size r) e ms k m f.1 g (omega arith) c))
        (cases_lt k (n + size r))

  -- what stands before a job of the members stands among them, or no later than the entry
  pub closed : (n : ℕ) (e : List ℕ) (ms : Members) {i j : ℕ} → IsLower → FitsAll b n e ms → n ≤ j → j < n + size_all ms → Path b i j → (n ≤ i) ⊎ ((x : ℕ) × Contains e x × (i ≤ x))
  closed n e ms {i} {j} low f l h (step c) = ⊎_elim (λ (d : (n ≤ i) × (i < j)). inl d.0) (λ (d : Contains e i). inr (i, d, omega arith)) (stays_all n e ms j i f l h c)
  closed n e ms {i} {j} low f l h (next {k = k} p c) =
      ⊎_elim
      (λ (d : (n ≤ k) × (k < j)). closed n e ms low f d.0 (omega arith) p)
      (λ (d : Contains e k). let g : i < k = path_lower low p in inr (k, d, omega arith))
      (stays_all n e ms j k f l h c)

  mutual
    pub apart : (n : ℕ) (e : List ℕ) (r : Row) (i j : ℕ) → IsLower → Fits b n e r → Below n e → Apart n r i j → Path b i j → ⊥
    apart n e done i j low f u a p = a
    apart n e (job ss rest) i j low f u a p = apart (n + 1) (n ∷ []) rest i j low f.1 (below_itself n) a p
    apart n e (split lanes ms rest) i j low f u a p =
        ⊎_elim
        (λ (d : ApartAll n ms i j). apart_all n e ms i j low f.0 u d p)
        (λ (d : Apart (n + size_all ms + 1) rest i j). apart (n + size_all ms + 1) ((n + size_all ms) ∷ []) rest i j low f.2 (below_itself (n + size_all ms)) d p)
        a

    pub apart_all : (n : ℕ) (e : List ℕ) (ms : Members) (i j : ℕ) → IsLower → FitsAll b n e ms → Below n e → ApartAll n ms i j → Path b i j → ⊥
    apart_all n e (one r) i j low f u a p = apart n e r i j low f u a p
    apart_all n e (more r ms) i j low f u a p =
        ⊎_elim
        (λ (d : Across n (size r) (size_all ms) i j). ⊎_elim
        (λ (g : n + size r ≤ i). omega arith)
        (λ (g : (x : ℕ) × Contains e x × (i ≤ x)). let k : g.0 < n = u g.0 g.1 in let o : i ≤ g.0 = g.2 in omega arith)
        (closed (n + size r) e ms low f.1 d.2 d.3 p))
        (λ (d : Apart n r i j ⊎ ApartAll (n + size r) ms i j). ⊎_elim
        (λ (g : Apart n r i j). apart n e r i j low f.0 u g p)
        (λ (g : ApartAll (n + size r) ms i j). apart_all (n + size r) e ms i j low f.1 (λ x c. let k : x < n = u x c in omega arith) g p)
        d)
        a
