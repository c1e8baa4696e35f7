-- Replies of numbers and short names.
use Rattle.std.specs.Prelude.{◌≡◌, ◌≤◌, ℕ, true, List, length}
use Rattle.std.specs.List.{AllByRecursion}
use Rattle.sn_osc.specs.Shape.{Argument}
use Rattle.sn_osc.specs.Bytes.{is_argument, argument_bytes, begins_with, has_no_null}

-- a number in 32 bits, or a short string without a null byte
pub record IsShort (x : Argument) : Type 0 where
  pub valid : is_argument x ≡ true
  pub short : length (argument_bytes x) ≤ 64

abbrev pub AreShort : List Argument → Type 0
AreShort xs = AllByRecursion IsShort xs

-- a reply's address
pub record IsAddress (address : List ℕ) : Type 0 where
  pub begins : begins_with 47 address ≡ true
  pub clean : has_no_null address ≡ true
  pub short : length address ≤ 64
