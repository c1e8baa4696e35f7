-- Each control is given its last number alone: that is as if each run had given its numbers in turn.
use Rattle.std.proofs.Common.{◌≡◌, ◌≤◌, ◌<◌, ◌+◌, ℕ, zero, suc, ℤ, List, [], ◌∷◌, map, length, take, replicate, set, get_or, Option, Some, None, refl, ap, sym, subst, ◌∙◌, arith}
use Rattle.std.proofs.lemmas.List.{length-set, set_past}
use Rattle.sn_def.specs.declared.control.Control.{Control}
use Rattle.sn_def.specs.Definition.{Definition}
use Rattle.sn_synth.specs.Conditions.{no_control}
use Rattle.sn_world.specs.NewSynth.{control_of, with_value}
use Rattle.sn_world.specs.ControlRuns.{ControlRun, with_values_from, with_run, with_runs}
use Rattle.sn_world.specs.Mappings.{Mapping, with_bus, with_buses}
use Rattle.sn_nodecmd.specs.declared.laying.Field.{Field}
use Rattle.sn_nodecmd.specs.declared.laying.Field.TheVariants as fields
use Rattle.sn_nodecmd.specs.Mapped.{run_for}
use Rattle.sn_nodecmd.specs.Resolving.{entered_from, entered_at, entered, last_of}
use Rattle.sn_nodecmd.specs.Laying.{with_number, laid_at, laid_from, laid_run, laid_runs, with_last, laid}

-- ---- numbers that are entered

pub entered-past : (k : ℕ) (vs : List ℤ) (ns : List (Option ℤ)) → length ns ≤ k → entered_from k vs ns ≡ ns
entered-past k [] ns past = refl
entered-past k (v ∷ vs) ns past = ap (entered_from (k + 1) vs) (set_past ns k (Some v) past) ∙ entered-past (k + 1) vs ns (omega arith)

pub entered-step : (k : ℕ) (all rest : List ℤ) (v : ℤ) (ns : List (Option ℤ)) → all ≡ v ∷ rest → entered_from k all ns ≡ entered_from (k + 1) rest (set ns k (Some v))
entered-step k all rest v ns is = ap (λ (vs : List ℤ). entered_from k vs ns) is

length-entered_from : (k : ℕ) (vs : List ℤ) (ns : List (Option ℤ)) → length (entered_from k vs ns) ≡ length ns
length-entered_from k [] ns = refl
length-entered_from k (v ∷ vs) ns = length-entered_from (k + 1) vs (set ns k (Some v)) ∙ length-set ns k (Some v)

pub length-entered_at : (o : Option ℕ) (vs : List ℤ) (ns : List (Option ℤ)) → length (entered_at o vs ns) ≡ length ns
length-entered_at None vs ns = refl
length-entered_at (Some k) vs ns = length-entered_from k vs ns

pub length-entered : (rs : List ControlRun) (d : Definition) (ns : List (Option ℤ)) → length (entered rs d ns) ≡ length ns
length-entered [] d ns = refl
length-entered (r ∷ rs) d ns = length-entered rs d (entered_at (control_of d r.control) r.values ns) ∙ length-entered_at (control_of d r.control) r.values ns

-- ---- numbers that are given

pub laid-past : (field : Field) (k : ℕ) (vs : List ℤ) (cs : List Control) → length cs ≤ k → laid_from field k vs cs ≡ cs
laid-past field k [] cs past = refl
laid-past field k (v ∷ vs) cs past = ap (laid_from field (k + 1) vs) (set_past cs k (with_number field v (get_or cs k no_control)) past) ∙ laid-past field (k + 1) vs cs (omega arith)

pub laid-step : (field : Field) (k : ℕ) (all rest : List ℤ) (v : ℤ) (cs : List Control) → all ≡ v ∷ rest → laid_from field k all cs ≡ laid_from field (k + 1) rest (laid_at field (Some v) k cs)
laid-step field k all rest v cs is = ap (λ (vs : List ℤ). laid_from field k vs cs) is

-- a number that comes later
later : (field : Field) (n : Option ℤ) (v : ℤ) (c : Control) → with_number field v c ≡ with_number field v (with_last field n c)
later field None v c = refl
later fields.Value (Some u) v c = refl
later fields.Bus (Some u) v c = refl

lay-set : (field : Field) (ns : List (Option ℤ)) (k : ℕ) (v : ℤ) (cs : List Control) → length cs ≤ length ns → laid field (set ns k (Some v)) cs ≡ laid_at field (Some v) k (laid field ns cs)
lay-set field [] k v [] few = refl
lay-set field [] k v (c ∷ cs) few = absurd (omega arith)
lay-set field (n ∷ ns) zero v [] few = refl
lay-set field (n ∷ ns) (suc k) v [] few = refl
lay-set field (n ∷ ns) zero v (c ∷ cs) few = ap (λ (x : Control). x ∷ laid field ns cs) (later field n v c)
lay-set field (n ∷ ns) (suc k) v (c ∷ cs) few = ap (λ (rest : List Control). with_last field n c ∷ rest) (lay-set field ns k v cs (omega arith))

lay-from : (field : Field) (vs : List ℤ) (k : ℕ) (ns : List (Option ℤ)) (cs : List Control) → length cs ≤ length ns → laid field (entered_from k vs ns) cs ≡ laid_from field k vs (laid field ns cs)
lay-from field [] k ns cs few = refl
lay-from field (v ∷ vs) k ns cs few =
    lay-from field vs (k + 1) (set ns k (Some v)) cs (omega (arith, length-set ns k (Some v)))
    ∙ ap (laid_from field (k + 1) vs) (lay-set field ns k v cs few)

lay-at : (field : Field) (o : Option ℕ) (vs : List ℤ) (ns : List (Option ℤ)) (cs : List Control) → length cs ≤ length ns → laid field (entered_at o vs ns) cs ≡ laid_run field o vs (laid field ns cs)
lay-at field None vs ns cs few = refl
lay-at field (Some k) vs ns cs few = lay-from field vs k ns cs few

lay-all : (field : Field) (rs : List ControlRun) (d : Definition) (ns : List (Option ℤ)) (cs : List Control) → length cs ≤ length ns → laid field (entered rs d ns) cs ≡ laid_runs field rs d (laid field ns cs)
lay-all field [] d ns cs few = refl
lay-all field (r ∷ rs) d ns cs few =
    lay-all field rs d (entered_at (control_of d r.control) r.values ns) cs (omega (arith, length-entered_at (control_of d r.control) r.values ns))
    ∙ ap (laid_runs field rs d) (lay-at field (control_of d r.control) r.values ns cs few)

lay-blank : (field : Field) (n : ℕ) (cs : List Control) → laid field (replicate n None) cs ≡ cs
lay-blank field zero cs = refl
lay-blank field (suc n) [] = refl
lay-blank field (suc n) (c ∷ cs) = ap (λ (rest : List Control). c ∷ rest) (lay-blank field n cs)

-- the last numbers of runs, in place of the runs
pub laid-last : (field : Field) (rs : List ControlRun) (d : Definition) (cs : List Control) → length cs ≤ length (last_of rs d) → laid field (last_of rs d) cs ≡ laid_runs field rs d cs
laid-last field rs d cs few =
    let blank : List (Option ℤ) = replicate (length d.controls) None in
    lay-all field rs d blank cs (subst (λ (n : ℕ). length cs ≤ n) (length-entered rs d blank) few) ∙ ap (laid_runs field rs d) (lay-blank field (length d.controls) cs)

-- ---- one number after the other

none-there : (field : Field) (x : Option ℤ) (k : ℕ) → laid_at field x k [] ≡ []
none-there field None k = refl
none-there field (Some v) k = refl

laid-first : (field : Field) (n : Option ℤ) (c : Control) (cs : List Control) → laid field (n ∷ []) (c ∷ cs) ≡ laid_at field n zero (c ∷ cs)
laid-first field None c cs = refl
laid-first field (Some v) c cs = refl

laid-behind : (field : Field) (x : Option ℤ) (k : ℕ) (c : Control) (cs : List Control) → laid_at field x (suc k) (c ∷ cs) ≡ c ∷ laid_at field x k cs
laid-behind field None k c cs = refl
laid-behind field (Some v) k c cs = refl

lay-next : (field : Field) (ns : List (Option ℤ)) (k : ℕ) (x : Option ℤ) (cs : List Control) → k < length ns → x ≡ get_or ns k x → laid field (take (suc k) ns) cs ≡ laid_at field x k (laid field (take k ns) cs)
lay-next field [] k x cs within is = absurd (omega arith)
lay-next field (n ∷ ns) zero x [] within is = sym (none-there field x zero)
lay-next field (n ∷ ns) (suc k) x [] within is = sym (none-there field x (suc k))
lay-next field (n ∷ ns) zero x (c ∷ cs) within is = laid-first field n c cs ∙ ap (λ (y : Option ℤ). laid_at field y zero (c ∷ cs)) (sym is)
lay-next field (n ∷ ns) (suc k) x (c ∷ cs) within is =
    ap (λ (rest : List Control). with_last field n c ∷ rest) (lay-next field ns k x cs (omega arith) is) ∙ sym (laid-behind field x k (with_last field n c) (laid field (take k ns) cs))

pub lay-step : (field : Field) (ns : List (Option ℤ)) (k : ℕ) (x : Option ℤ) (cs : List Control) → k < length ns → x ≡ get_or ns k x → laid field (take (k + 1) ns) cs ≡ laid_at field x k (laid field (take k ns) cs)
lay-step field ns k x cs within is = ap (λ (n : ℕ). laid field (take n ns) cs) (let e : k + 1 ≡ suc k = omega arith in e) ∙ lay-next field ns k x cs within is

-- ---- the folds of the rows

from-set : (k : ℕ) (vs : List ℤ) (cs : List Control) → laid_from fields.Value k vs cs ≡ with_values_from k vs cs
from-set k [] cs = refl
from-set k (v ∷ vs) cs = from-set (k + 1) vs (with_value (Some k) v cs)

run-set : (o : Option ℕ) (vs : List ℤ) (cs : List Control) → laid_run fields.Value o vs cs ≡ with_run o vs cs
run-set None vs cs = refl
run-set (Some k) vs cs = from-set k vs cs

pub runs-set : (rs : List ControlRun) (d : Definition) (cs : List Control) → laid_runs fields.Value rs d cs ≡ with_runs rs d cs
runs-set [] d cs = refl
runs-set (r ∷ rs) d cs = ap (laid_runs fields.Value rs d) (run-set (control_of d r.control) r.values cs) ∙ runs-set rs d (with_run (control_of d r.control) r.values cs)

bus-set : (o : Option ℕ) (bus : ℤ) (cs : List Control) → laid_run fields.Bus o (bus ∷ []) cs ≡ with_bus o bus cs
bus-set None bus cs = refl
bus-set (Some k) bus cs = refl

pub buses-set : (ms : List Mapping) (d : Definition) (cs : List Control) → laid_runs fields.Bus (map run_for ms) d cs ≡ with_buses ms d cs
buses-set [] d cs = refl
buses-set (m ∷ ms) d cs = ap (laid_runs fields.Bus (map run_for ms) d) (bus-set (control_of d m.control) m.bus cs) ∙ buses-set ms d (with_bus (control_of d m.control) m.bus cs)
