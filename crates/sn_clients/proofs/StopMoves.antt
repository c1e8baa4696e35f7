-- Each step on the stop word keeps its rule.
use Rattle.std.proofs.Common.{◌≡◌, ◌≢◌, ◌||◌, ◌==◌, ℕ, zero, suc, Bool, true, false, if◌then◌else◌, true≢false, eqb-true, List, [], ◌∷◌, get_or, set, sym, refl, ap, ◌∙◌, subst, ⊎_elim, arith}
use Rattle.std.proofs.lemmas.List.{set-get_or}
use mathlib.Core.Option.{some, none, some-injective, some-ne-none}
use lib.ListN.{get_elem?}
use Rattle.atomic_table.specs.Table.{Me, State, Allows, Joins, Splits, keeps, opening, step}
use Rattle.crossbeam_queue.proofs.Lists.{at_longer, at_set, set_again, set_else, set_here}
use Rattle.sn_clients.specs.declared.ends.Sight.{Sight}
use Rattle.sn_clients.specs.declared.ends.Sight.TheVariants.{Setter, Finder, Shut}
use Rattle.sn_clients.specs.StopWord.{Heard, IsFinder, IsSet, Looked, Set, Stops, as_set, found_in, heard_in, new_setter, next_finder, set_in, shut, with_found}
use Rattle.sn_clients.proofs.Lists.{at_push, at_within}

abbrev is_setter : Sight → Bool
is_setter (Setter set heard) = true
is_setter (Finder found) = false
is_setter Shut = false

abbrev is_finder : Sight → Bool
is_finder (Setter set heard) = false
is_finder (Finder found) = true
is_finder Shut = false

setter_finder : {X : Type 0} (a b c : Bool) → Setter a b ≡ Finder c → X
setter_finder a b c e = absurd (true≢false (ap is_setter e))

shut_finder : {X : Type 0} (c : Bool) → Shut ≡ Finder c → X
shut_finder c e = absurd (true≢false (sym (ap is_finder e)))

set_is_true : (b : Bool) (words : List ℕ) → words ≡ (if b then 1 else 0) ∷ [] → IsSet words → b ≡ true
set_is_true true words e s = refl
set_is_true false words e s = let k : ◌≡◌ {A = ℕ} 0 1 = ap (λ (ws : List ℕ). get_or ws 0 0) (sym e ∙ s) in absurd (omega arith)

is_set : (b : Bool) (words : List ℕ) → words ≡ (if b then 1 else 0) ∷ [] → get_or words 0 0 ≡ 1 → IsSet words
is_set true words e one = e
is_set false words e one = let k : ◌≡◌ {A = ℕ} 0 1 = ap (λ (ws : List ℕ). get_or ws 0 0) (sym e) ∙ one in absurd (omega arith)

abbrev St : Type 0
St = State ℕ Sight

pub stop_opens : Stops (opening (0 ∷ []) [] new_setter)
stop_opens = record { was_set = false; was_heard = false; setter = refl; word = refl; heard = λ e. absurd (true≢false (sym e)); found = alone }
  where
    alone : (place : ℕ) → get_elem? (new_setter ∷ []) place ≡ some (Finder true) → IsSet (0 ∷ [])
    alone zero e = setter_finder false false true (some-injective new_setter (Finder true) e)
    alone (suc place) e = absurd (some-ne-none (Finder true) (sym e))

setter_is : (s : St) (v : Sight) (h : Stops s) → get_elem? s.views 0 ≡ some v → Setter h.was_set h.was_heard ≡ v
setter_is s v h at = some-injective (Setter h.was_set h.was_heard) v (sym h.setter ∙ at)

set_word : (words : List ℕ) (x : ℕ) → words ≡ x ∷ [] → IsSet (set words 0 1)
set_word words x e = ap (λ (ws : List ℕ). set ws 0 1) e

sets_first : (slots : ℕ) (me : Me ℕ Sight) → Allows Stops slots 0 me 0 (λ _. 1) (λ _. Set (step slots 0 1 0 none) me 1)
sets_first slots me s h len at small =
    let w : Sight = as_set me.0 in
    let is = set_word s.words (if h.was_set then 1 else 0) h.word in (
      w,
      keeps,
      tt,
      record {
        was_set = true;
        was_heard = heard_in me.0;
        setter = set_here s.views 0 w (at_within s.views 0 me.0 at);
        word = is;
        heard = λ _. is;
        found = λ _ _. is;
      },
      refl,
    )

pub sets : (slots id : ℕ) (me : Me ℕ Sight) → id ≡ 0 → Allows Stops slots id me 0 (λ _. 1) (λ _. Set (step slots 0 1 0 none) me 1)
sets slots id me first = subst (λ (i : ℕ). Allows Stops slots i me 0 (λ _. 1) (λ _. Set (step slots 0 1 0 none) me 1)) (sym first) (sets_first slots me)

pub looks : (slots id : ℕ) (me : Me ℕ Sight) → IsFinder me.0 → Allows Stops slots id me 0 (λ n. n) (Looked (step slots 0 0 0 none) me)
looks slots id me finder s h len at small =
    let n : ℕ = get_or s.words 0 0 in
    let w : Sight = Finder (n == 1) in
    let same : set s.words 0 n ≡ s.words = set-get_or s.words 0 0 in
    let apart : 0 ≢ id = (λ e. setter_finder h.was_set h.was_heard (found_in me.0) (some-injective (Setter h.was_set h.was_heard) (Finder (found_in me.0)) (sym h.setter ∙ ap (λ (i : ℕ). get_elem? s.views i) e ∙ at ∙ ap some finder))) in
    let one : n ≡ 1 → IsSet s.words = is_set h.was_set s.words h.word in (
      w,
      keeps,
      tt,
      record {
        was_set = h.was_set;
        was_heard = h.was_heard;
        setter = set_else s.views id 0 w apart ∙ h.setter;
        word = same ∙ h.word;
        heard = λ e. same ∙ h.heard e;
        found = λ j at'. same ∙ ⊎_elim
            (λ (m : (j ≡ id) × (w ≡ Finder true)). one (eqb-true n 1 (ap found_in m.1)))
            (λ (o : (j ≢ id) × (get_elem? s.views j ≡ some (Finder true))). h.found j o.1)
            (at_set s.views id j w (Finder true) at');
      },
      (refl, λ e. ap (λ (ws : List ℕ). get_or ws 0 0) (h.found id (at ∙ ap some (finder ∙ ap Finder e)))),
    )

hears_first : (slots : ℕ) (me : Me ℕ Sight) → Allows Stops slots 0 me 0 (λ n. n) (Heard (step slots 0 0 0 none) me)
hears_first slots me s h len at small =
    let is = setter_is s me.0 h at in (
      me.0,
      keeps,
      tt,
      subst (λ (p : List ℕ × List Sight). Stops (record { words = p.0; homes = s.homes; views = p.1 })) (λ k. (sym (set-get_or s.words 0 0) k, sym (set_again s.views 0 me.0 at) k)) h,
      (refl, λ e. ap set_in (sym is) ∙ set_is_true h.was_set s.words h.word (h.heard (ap heard_in is ∙ e))),
    )

pub hears : (slots id : ℕ) (me : Me ℕ Sight) → id ≡ 0 → Allows Stops slots id me 0 (λ n. n) (Heard (step slots 0 0 0 none) me)
hears slots id me first = subst (λ (i : ℕ). Allows Stops slots i me 0 (λ n. n) (Heard (step slots 0 0 0 none) me)) (sym first) (hears_first slots me)

pub splits : (id : ℕ) (v : Sight) → Splits Stops id v v next_finder
splits id v s h at = record {
  was_set = h.was_set;
  was_heard = h.was_heard;
  setter = at_longer (set s.views id v) (next_finder ∷ []) 0 (Setter h.was_set h.was_heard) (ap (λ (vs : List Sight). get_elem? vs 0) same ∙ h.setter);
  word = h.word;
  heard = h.heard;
  found = λ j at'. ⊎_elim
      (λ o. h.found j (ap (λ (vs : List Sight). get_elem? vs j) (sym same) ∙ o))
      (λ m. absurd (true≢false (sym (ap found_in m.1))))
      (at_push (set s.views id v) next_finder (Finder true) j at');
}
  where
    same : set s.views id v ≡ s.views
    same = set_again s.views id v at

or_cases : {X : Type 0} (a b : Bool) → (a ≡ true → X) → (b ≡ true → X) → a || b ≡ true → X
or_cases true b f g e = f refl
or_cases false b f g e = g e

joins_first : (v : Sight) (other : ℕ) (w : Sight) → IsFinder w → Joins Stops 0 v other w (with_found v w) shut
joins_first v other w finder s h at apart at' =
    let both : Sight = with_found v w in
    let is = setter_is s v h at in
    let was : get_elem? s.views other ≡ some w = sym (set_else s.views 0 other both apart) ∙ at' in
    record {
      was_set = set_in v;
      was_heard = heard_in v || found_in w;
      setter = set_else (set s.views 0 both) other 0 shut (λ z. apart (sym z)) ∙ set_here s.views 0 both (at_within s.views 0 v at);
      word = h.word ∙ ap (λ (b : Bool). (if b then 1 else 0) ∷ []) (ap set_in is);
      heard = or_cases (heard_in v) (found_in w) (λ e. h.heard (ap heard_in is ∙ e)) (λ e. h.found other (was ∙ ap some (finder ∙ ap Finder e)));
      found = λ j e. ⊎_elim
          (λ m. shut_finder true m.1)
          (λ o. ⊎_elim (λ m. setter_finder (set_in v) (heard_in v || found_in w) true m.1) (λ p. h.found j p.1) (at_set s.views 0 j both (Finder true) o.1))
          (at_set (set s.views 0 both) other j shut (Finder true) e);
    }

pub joins : (id : ℕ) (v : Sight) (other : ℕ) (w : Sight) → id ≡ 0 → IsFinder w → Joins Stops id v other w (with_found v w) shut
joins id v other w first finder = subst (λ (i : ℕ). Joins Stops i v other w (with_found v w) shut) (sym first) (joins_first v other w finder)

or_right : (a b : Bool) → b ≡ true → a || b ≡ true
or_right true b e = refl
or_right false b e = e

-- what a look tells after an inlet was gathered
pub told : (v w : Sight) (me : Me ℕ Sight) (held : List (ℕ × ℕ)) → me ≡ (with_found v w, held) → (heard_in me.0 ≡ true → set_in me.0 ≡ true) → found_in w ≡ true → set_in v ≡ true
told v w me held joined heard e =
    let is : me.0 ≡ with_found v w = ap (λ (m : Me ℕ Sight). m.0) joined in
    sym (ap set_in is) ∙ heard (ap heard_in is ∙ or_right (heard_in v) (found_in w) e)
