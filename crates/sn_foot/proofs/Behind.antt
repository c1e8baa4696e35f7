-- What a synth uses is put behind what stands there already.
use Rattle.std.proofs.Common.{◌≡◌, ◌∙◌, ◌≤◌, ℕ, zero, suc, ◌+◌, ℤ, pos, ◌+ℤ◌, Bool, List, [], ◌∷◌, ◌++◌, Option, Some, None, refl, ap, arith, append_assoc, drop, length, take}
use Rattle.std.proofs.lemmas.List.{length-append}
use Rattle.std.proofs.Math.Seq.{drop-append_seam, take-append_seam}
use Rattle.sn_def.specs.declared.control.Control.{Control as SynthControl}
use Rattle.sn_def.specs.declared.unit.Unit.{Unit as UnitLine}
use Rattle.sn_def.specs.declared.table.Bank.{Bank}
use Rattle.sn_def.specs.declared.table.Bank.TheVariants.{Control}
use Rattle.sn_def.specs.declared.table.Use.{Use as RowUse}
use Rattle.sn_def.specs.Units.{row_of}
use Rattle.sn_foot.specs.Mixers.{mixes_audio}
use Rattle.sn_synth.specs.Conditions.{index_of}
use Rattle.sn_foot.specs.declared.uses.Role.{Role}
use Rattle.sn_foot.specs.declared.uses.Role.TheVariants.{Read}
use Rattle.sn_foot.specs.declared.uses.Use.{Use}
use Rattle.sn_foot.specs.Judging.{is_alone, judged}
use Rattle.sn_foot.specs.Putting.{number_at, put_controls, put_number, put_span, put_units, put_used, resource, role_in, span}

number_behind : (role : Role) (bank : Bank) (number : Option ℕ) (us vs : List Use) → put_number role bank number (us ++ vs) ≡ us ++ put_number role bank number vs
number_behind role bank None us vs = refl
number_behind role bank (Some n) us vs = append_assoc us vs ((record { role = role; resource = resource bank n }) ∷ [])

span_behind : (role : Role) (bank : Bank) (first : ℤ) (count : ℕ) (us vs : List Use) → put_span role bank first count (us ++ vs) ≡ us ++ put_span role bank first count vs
unfolding put_span
span_behind role bank first zero us vs = refl
span_behind role bank first (suc i) us vs =
    let number : Option ℕ = number_at (first +ℤ pos i) in
    ap (λ (ws : List Use). put_number role bank number ws) (span_behind role bank first i us vs) ∙ number_behind role bank number us (put_span role bank first i vs)

used_behind : (adds : Bool) (used : Option RowUse) (controls : List SynthControl) (u : UnitLine) (us vs : List Use) → put_used adds used controls u (us ++ vs) ≡ us ++ put_used adds used controls u vs
used_behind adds None controls u us vs = refl
used_behind adds (Some used) controls u us vs = span_behind (role_in adds used.access used.bank) used.bank (index_of controls u) (span used.access used.bank u) us vs

units_behind : (controls : List SynthControl) (units : List UnitLine) (us vs : List Use) → put_units controls units (us ++ vs) ≡ us ++ put_units controls units vs
units_behind controls [] us vs = refl
units_behind controls (u ∷ rest) us vs =
    let used : Option RowUse = (row_of u.kind).uses in
    ap (λ (ws : List Use). put_units controls rest ws) (used_behind (mixes_audio u.kind) used controls u us vs) ∙ units_behind controls rest us (put_used (mixes_audio u.kind) used controls u vs)

controls_behind : (cs : List SynthControl) (us vs : List Use) → put_controls cs (us ++ vs) ≡ us ++ put_controls cs vs
controls_behind [] us vs = refl
controls_behind (c ∷ cs) us vs = ap (λ (ws : List Use). put_controls cs ws) (number_behind Read Control c.bus us vs) ∙ controls_behind cs us (put_number Read Control c.bus vs)

with_none : (us : List Use) → us ≡ us ++ []
with_none [] = refl
with_none (u ∷ us) = ap (λ (vs : List Use). u ∷ vs) (with_none us)

pub own_behind : (controls : List SynthControl) (units : List UnitLine) (us : List Use) → put_units controls units (put_controls controls us) ≡ us ++ put_units controls units (put_controls controls [])
own_behind controls units us =
    ap (λ (ws : List Use). put_units controls units ws) (ap (λ (ws : List Use). put_controls controls ws) (with_none us) ∙ controls_behind controls us [])
    ∙ units_behind controls units us (put_controls controls [])

pub there_behind : (us own mid : List Use) → mid ≡ us ++ own → length us ≤ length mid
there_behind us own mid e = let l : length mid ≡ length us + length own = ap length e ∙ length-append us own in omega (arith, l)

pub judged_behind : (us own mid new : List Use) (first : ℕ) → first ≡ length us → mid ≡ us ++ own →
    new ≡ take first mid ++ judged (is_alone (drop first mid)) (drop first mid) → new ≡ us ++ judged (is_alone own) own
judged_behind us own mid new first at e made =
    made
    ∙ ap (λ n. take n mid ++ judged (is_alone (drop n mid)) (drop n mid)) at
    ∙ ap (λ (ws : List Use). take (length us) ws ++ judged (is_alone (drop (length us) ws)) (drop (length us) ws)) e
    ∙ ap (λ (ws : List Use). ws ++ judged (is_alone (drop (length us) (us ++ own))) (drop (length us) (us ++ own))) (take-append_seam us own)
    ∙ ap (λ (ws : List Use). us ++ judged (is_alone ws) ws) (drop-append_seam us own)
