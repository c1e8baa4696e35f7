-- What each row of the table of units keeps to.
use Rattle.std.specs.Prelude.{◌≡◌, ℕ, ◌+◌, nat_le, Bool, true, false, not, ◌||◌, List, [], ◌∷◌, length, Option, Some, None, slice_get}
use Rattle.sn_def.specs.declared.table.Mark.{Mark}
use Rattle.sn_def.specs.declared.table.Mark.TheVariants.{Index, Constant, Longest}
use Rattle.sn_def.specs.declared.table.StateSize.{StateSize}
use Rattle.sn_def.specs.declared.table.StateSize.TheVariants.{Fixed}
use Rattle.sn_def.specs.declared.table.Family.{Family}
use Rattle.sn_def.specs.declared.table.Family.TheVariants as families
use Rattle.sn_def.specs.declared.table.Bank.{Bank}
use Rattle.sn_def.specs.declared.table.Bank.TheVariants as banks
use Rattle.sn_def.specs.declared.table.Use.{Use}
use Rattle.sn_def.specs.declared.table.Ends.{Ends}
use Rattle.sn_def.specs.declared.table.Ends.TheVariants as ends
use Rattle.sn_def.specs.Units.{UnitRow}
use Rattle.sn_def.specs.StateWords.{is_longest, words_of}

-- the index is the one input that a unit on buses always has, and the first one of a unit on a buffer
abbrev pub index_fits : Family → List Mark → Bool
index_fits families.Bus (Index ∷ []) = true
index_fits families.Bus _ = false
index_fits families.Buffer (Index ∷ marks) = true
index_fits families.Buffer _ = false
index_fits _ marks = true

-- units on buses use buses, and units on buffers buffers
abbrev pub bank_fits : Bank → Family → Bool
bank_fits banks.Audio families.Bus = true
bank_fits banks.Control families.Bus = true
bank_fits banks.Buffer families.Buffer = true
bank_fits _ _ = false

abbrev pub use_fits : Option Use → Family → Bool
use_fits None family = true
use_fits (Some u) family = bank_fits u.bank family

-- a filter alone may have a longest delay, which is its second input and no other
abbrev pub delay_fits : Family → List Mark → Bool
delay_fits families.Filter (m ∷ Longest ∷ marks) = not (is_longest m)
delay_fits _ _ = false

abbrev pub words_fit : StateSize → Family → List Mark → Bool
words_fit (Fixed n) family marks = true
words_fit _ family marks = delay_fits family marks

-- the words that a unit has at least
abbrev pub least_words : UnitRow → ℕ
least_words row = words_of row.words 0

abbrev pub is_constant : Option Mark → Bool
is_constant (Some Constant) = true
is_constant _ = false

-- a done action that is an input is a literal
abbrev pub action_fits : Ends → List Mark → Bool
action_fits (ends.Input i) marks = is_constant (slice_get marks i)
action_fits _ marks = true

abbrev pub does_end : Ends → Bool
does_end ends.Never = false
does_end _ = true

pub record RowFits (row : UnitRow) : Type 0 where
  pub inputs : nat_le (length row.inputs + row.signals) 12 ≡ true
  pub index : index_fits row.family row.inputs ≡ true
  pub uses : use_fits row.uses row.family ≡ true
  pub words : words_fit row.words row.family row.inputs ≡ true
  pub few : nat_le (least_words row) 19 ≡ true
  pub action : action_fits row.ends row.inputs ≡ true
  -- a unit that ends has a done word, and one that sends three words for what it sends
  pub done : (not (does_end row.ends) || nat_le 1 (least_words row)) ≡ true
  pub sent : (not row.sends || nat_le 3 (least_words row)) ≡ true
