-- What a synth uses is told by what is laid of it.
use Rattle.std.proofs.Common.{◌≡◌, ℕ, pos, ◌+◌, ◌-◌, ◌==◌, Bool, true, false, not, ◌&&◌, ◌||◌, List, [], ◌∷◌, length, get_or, refl, ap, sym, subst}
use Rattle.std.specs.Prelude.{zip, if◌then◌else◌}
use Rattle.std.specs.List.{list_any}
use Rattle.std.proofs.lemmas.Bool.{eq-eqb, or_left, or_right}
use Rattle.sn_def.specs.declared.table.Mark.{Mark}
use Rattle.sn_def.specs.declared.table.Mark.TheVariants.{Index}
use Rattle.sn_def.specs.declared.table.Access.TheVariants as accesses
use Rattle.sn_def.specs.declared.table.Bank.TheVariants as banks
use Rattle.sn_def.specs.declared.control.Control.{Control as SynthControl}
use Rattle.sn_def.specs.declared.unit.Input.{Input}
use Rattle.sn_def.specs.declared.unit.Input.TheVariants.{Literal, Control, Wire}
use Rattle.sn_def.specs.declared.unit.Unit.{Unit as UnitLine}
use Rattle.sn_def.specs.Units.{row_of}
use Rattle.sn_def.specs.Asked.{is_index_input, has_index, is_index}
use Rattle.sn_def.proofs.RowLaws.{first_index, bus_index, on_a_buffer}
use Rattle.sn_io.specs.BusUnits.{reads_audio, reads_control, writes_audio, writes_control}
use Rattle.sn_io.specs.BufferUnits.{reads_buffer, writes_buffer}
use Rattle.sn_synth.specs.Conditions.{index_value, index_of}
use Rattle.sn_tree.specs.Trees.{Nodes, none, node, with_payloads}
use Rattle.sn_world.specs.Nodes.{Content, group, synth}
use Rattle.sn_quiet.specs.Quiet.{are_quiet, is_quiet_content}
use Rattle.sn_foot.specs.declared.resource.Resource.{Resource}
use Rattle.sn_foot.specs.declared.resource.Resource.TheVariants as resources
use Rattle.sn_foot.specs.declared.uses.Role.{Role}
use Rattle.sn_foot.specs.declared.uses.Role.TheVariants.{Read, Write, Mix}
use Rattle.sn_foot.specs.Mixers.{mixes_audio}
use Rattle.sn_foot.specs.Footprints.{is_among, synth_mixes, unit_mixes, unit_reads, unit_writes, users}
use Rattle.sn_clash.specs.Clashing.{content_uses}
use Rattle.sn_layout.specs.Layout.{kept_values, laid}
use Rattle.sn_layout.proofs.Values.{value_stays, follow_too}

-- ---- the index of a unit

module _ (test : ℕ → Bool) (cs : List SynthControl) where
  first_same : (ms : List Mark) (xs : List Input) → ((k : ℕ) → list_any (λ p. is_index_input k p.0 p.1) (zip (Index ∷ ms) xs) ≡ true → test k ≡ true)
      → index_value (kept_values test cs) (get_or xs 0 (Literal (pos 0))) ≡ index_value cs (get_or xs 0 (Literal (pos 0)))
  first_same ms [] h = refl
  first_same ms (Literal v ∷ xs) h = refl
  first_same ms (Control k ∷ xs) h = value_stays test cs k (h k (or_left (k == k) (list_any (λ p. is_index_input k p.0 p.1) (zip ms xs)) (eq-eqb k k refl)))
  first_same ms (Wire k ∷ xs) h = refl

  has_index_of : (u : UnitLine) (ms : List Mark) (k : ℕ) → (row_of u.kind).inputs ≡ Index ∷ ms → list_any (λ p. is_index_input k p.0 p.1) (zip (Index ∷ ms) u.inputs) ≡ true → has_index k u ≡ true
  unfolding has_index
  has_index_of u ms k e h = let P : List Mark → Type 0 = λ (marks : List Mark). list_any (λ p. is_index_input k p.0 p.1) (zip marks u.inputs) ≡ true in subst P (sym e) h

  -- the test passes each control that is an index input of the unit
  abbrev Passes : UnitLine → Type 0
  Passes u = (k : ℕ) → has_index k u ≡ true → test k ≡ true

  index_same : (u : UnitLine) (ms : List Mark) → Passes u → (row_of u.kind).inputs ≡ Index ∷ ms → index_of (kept_values test cs) u ≡ index_of cs u
  index_same u ms passes e = first_same ms u.inputs (λ k h. passes k (has_index_of u ms k e h))

  guarded : (b x y : Bool) → (b ≡ true → x ≡ y) → (b && x) ≡ (b && y)
  guarded true x y h = h refl
  guarded false x y h = refl

  unit_reads_same : (r : Resource) (u : UnitLine) → Passes u → unit_reads (kept_values test cs) u r ≡ unit_reads cs u r
  unit_reads_same (resources.Audio n) u passes = guarded (reads_audio u.kind) (is_among (index_of (kept_values test cs) u) u.outputs n) (is_among (index_of cs u) u.outputs n) (λ is. ap (λ z. is_among z u.outputs n) (index_same u [] passes (bus_index accesses.Read banks.Audio u.kind refl is)))
  unit_reads_same (resources.Control n) u passes = guarded (reads_control u.kind) (is_among (index_of (kept_values test cs) u) u.outputs n) (is_among (index_of cs u) u.outputs n) (λ is. ap (λ z. is_among z u.outputs n) (index_same u [] passes (bus_index accesses.Read banks.Control u.kind refl is)))
  unit_reads_same (resources.Buffer n) u passes = guarded (reads_buffer u.kind) (is_among (index_of (kept_values test cs) u) 1 n) (is_among (index_of cs u) 1 n) (λ is. let (ms, e) = first_index u.kind (on_a_buffer accesses.Read u.kind is) in ap (λ z. is_among z 1 n) (index_same u ms passes e))

  unit_writes_same : (r : Resource) (u : UnitLine) → Passes u → unit_writes (kept_values test cs) u r ≡ unit_writes cs u r
  unit_writes_same (resources.Audio n) u passes = guarded (writes_audio u.kind) (is_among (index_of (kept_values test cs) u) (length u.inputs - 1) n) (is_among (index_of cs u) (length u.inputs - 1) n) (λ is. ap (λ z. is_among z (length u.inputs - 1) n) (index_same u [] passes (bus_index accesses.Write banks.Audio u.kind refl is)))
  unit_writes_same (resources.Control n) u passes = guarded (writes_control u.kind) (is_among (index_of (kept_values test cs) u) (length u.inputs - 1) n) (is_among (index_of cs u) (length u.inputs - 1) n) (λ is. ap (λ z. is_among z (length u.inputs - 1) n) (index_same u [] passes (bus_index accesses.Write banks.Control u.kind refl is)))
  unit_writes_same (resources.Buffer n) u passes = guarded (writes_buffer u.kind) (is_among (index_of (kept_values test cs) u) 1 n) (is_among (index_of cs u) 1 n) (λ is. let (ms, e) = first_index u.kind (on_a_buffer accesses.Write u.kind is) in ap (λ z. is_among z 1 n) (index_same u ms passes e))

  unit_mixes_same : (r : Resource) (u : UnitLine) → Passes u → unit_mixes (kept_values test cs) u r ≡ unit_mixes cs u r
  unit_mixes_same (resources.Audio n) u passes = ap (λ b. mixes_audio u.kind && b) (unit_writes_same (resources.Audio n) u passes)
  unit_mixes_same (resources.Control n) u passes = refl
  unit_mixes_same (resources.Buffer n) u passes = refl

  -- all units, of which the test passes each index control
  units_same : (f g : UnitLine → Bool) → ((u : UnitLine) → Passes u → f u ≡ g u) → (us : List UnitLine) → ((k : ℕ) → list_any (has_index k) us ≡ true → test k ≡ true) → list_any f us ≡ list_any g us
  units_same f g each [] all = refl
  units_same f g each (u ∷ us) all =
      λ i. each u (λ k h. all k (or_left (has_index k u) (list_any (has_index k) us) h)) i
      || units_same f g each us (λ k h. all k (or_right (has_index k u) (list_any (has_index k) us) h)) i

  users_same : (r : Resource) (us : List UnitLine) → ((k : ℕ) → list_any (has_index k) us ≡ true → test k ≡ true) → users (kept_values test cs) us r ≡ users cs us r
  users_same r [] all = refl
  users_same r (u ∷ us) all =
      let passes : Passes u = λ k h. all k (or_left (has_index k u) (list_any (has_index k) us) h) in
      λ i. (if unit_reads_same r u passes i || unit_writes_same r u passes i then 1 else 0)
      + users_same r us (λ k h. all k (or_right (has_index k u) (list_any (has_index k) us) h)) i

  mixed_same : (r : Resource) (us : List UnitLine) → ((k : ℕ) → list_any (has_index k) us ≡ true → test k ≡ true) → synth_mixes us (kept_values test cs) r ≡ synth_mixes us cs r
  mixed_same r us all =
      λ i. units_same (λ u. unit_mixes (kept_values test cs) u r) (λ u. unit_mixes cs u r) (unit_mixes_same r) us all i
      && (users_same r us all i == 1)

-- ---- what is laid of a node

pub uses_same : (role : Role) (c : Content) (r : Resource) → content_uses role (laid c) r ≡ content_uses role c r
uses_same Read group r = refl
uses_same Write group r = refl
uses_same Mix group r = refl
uses_same Read (synth s) r =
    let test : ℕ → Bool = is_index s.definition in
    λ i. follow_too test s.controls r i
    || units_same test s.controls (λ u. unit_reads (kept_values test s.controls) u r) (λ u. unit_reads s.controls u r) (unit_reads_same test s.controls r) s.definition.units (λ k h. h) i
uses_same Write (synth s) r =
    let test : ℕ → Bool = is_index s.definition in
    λ i. units_same test s.controls (λ u. unit_writes (kept_values test s.controls) u r) (λ u. unit_writes s.controls u r) (unit_writes_same test s.controls r) s.definition.units (λ k h. h) i
    && not (mixed_same test s.controls r s.definition.units (λ k h. h) i)
uses_same Mix (synth s) r = mixed_same (is_index s.definition) s.controls r s.definition.units (λ k h. h)

quiet_same : (c : Content) → is_quiet_content (laid c) ≡ is_quiet_content c
quiet_same group = refl
quiet_same (synth s) = refl

pub quiet_laid : (t : Nodes Content) → are_quiet (with_payloads laid t) ≡ are_quiet t
quiet_laid none = refl
quiet_laid (node label below after) = λ i. (if label.running then quiet_same label.payload i && quiet_laid below i else true) && quiet_laid after i
