-- Units without a state: the sample of a frame. 1.0 is 16777216.
use Rattle.std.specs.Prelude.{ℕ, List, [], ◌∷◌, ℤ, pos, negsuc, neg_ℤ, ◌+ℤ◌, ◌-ℤ◌, ◌*ℤ◌, int_lt, unsigned_abs, cond, Bool}
use Rattle.std.specs.Int.{int_max, int_min}
use Rattle.sn_ports.specs.Limits.{block_frames}
use Rattle.sn_fixed.specs.Fixed.{floor, sat, mul as product}
use Rattle.sn_mem.specs.Blocks.{sample, table}
use Rattle.sn_def.specs.declared.kind.Kind.{Kind}
use Rattle.sn_def.specs.declared.kind.Kind.TheVariants as kinds
use Rattle.sn_def.specs.declared.table.Family.TheVariants as families
use Rattle.sn_def.specs.Facts.{is_of}
use Rattle.sn_filt.specs.Ratios.{div, mod_of}
use Rattle.sn_filt.specs.Powers.{exp2, log2}

-- Add a b, Sub a b, Mul a b
abbrev pub add : List (List ℤ) → ℕ → ℤ
add inputs k = sat (sample inputs 0 k +ℤ sample inputs 1 k)

abbrev pub sub : List (List ℤ) → ℕ → ℤ
sub inputs k = sat (sample inputs 0 k -ℤ sample inputs 1 k)

abbrev pub mul : List (List ℤ) → ℕ → ℤ
mul inputs k = product (sample inputs 0 k) (sample inputs 1 k)

-- MulAdd x m a
abbrev pub mul_add : List (List ℤ) → ℕ → ℤ
mul_add inputs k = sat (floor (sample inputs 0 k *ℤ sample inputs 1 k) 16777216 +ℤ sample inputs 2 k)

-- Neg x, Abs x
abbrev pub neg : List (List ℤ) → ℕ → ℤ
neg inputs k = sat (neg_ℤ (sample inputs 0 k))

abbrev pub abs : List (List ℤ) → ℕ → ℤ
abs inputs k = sat (pos (unsigned_abs (sample inputs 0 k)))

-- Min a b, Max a b
abbrev pub min : List (List ℤ) → ℕ → ℤ
min inputs k = int_min (sample inputs 0 k) (sample inputs 1 k)

abbrev pub max : List (List ℤ) → ℕ → ℤ
max inputs k = int_max (sample inputs 0 k) (sample inputs 1 k)

-- Clip x lo hi
abbrev pub clip : List (List ℤ) → ℕ → ℤ
clip inputs k = int_min (int_max (sample inputs 0 k) (sample inputs 1 k)) (sample inputs 2 k)

-- Gt a b, Lt a b
abbrev pub gt : List (List ℤ) → ℕ → ℤ
gt inputs k = cond (int_lt (sample inputs 1 k) (sample inputs 0 k)) (pos 16777216) (pos 0)

abbrev pub lt : List (List ℤ) → ℕ → ℤ
lt inputs k = cond (int_lt (sample inputs 0 k) (sample inputs 1 k)) (pos 16777216) (pos 0)

-- the nearest number from -1.0 to 1.0
abbrev pub clipped : ℤ → ℤ
clipped x = int_max (negsuc 16777215) (int_min (pos 16777216) x)

-- how far to the right a position is: 0 is left, and 1.0 right
abbrev pub rightness : ℤ → ℤ
rightness position = floor (clipped position +ℤ pos 16777216) 2

-- Pan2 x pos level: the left output and the right one
abbrev pub pan_left : List (List ℤ) → ℕ → ℤ
pan_left inputs k = product (product (sample inputs 0 k) (sample inputs 2 k)) (pos 16777216 -ℤ rightness (sample inputs 1 k))

abbrev pub pan_right : List (List ℤ) → ℕ → ℤ
pan_right inputs k = product (product (sample inputs 0 k) (sample inputs 2 k)) (rightness (sample inputs 1 k))

abbrev pub is_arithmetic : Kind → Bool
is_arithmetic kind = is_of families.Arithmetic kind

-- the output blocks
unfoldable pub arithmetic : Kind → List (List ℤ) → List (List ℤ)
arithmetic kinds.Add inputs = table (add inputs) block_frames ∷ []
arithmetic kinds.Sub inputs = table (sub inputs) block_frames ∷ []
arithmetic kinds.Mul inputs = table (mul inputs) block_frames ∷ []
arithmetic kinds.MulAdd inputs = table (mul_add inputs) block_frames ∷ []
arithmetic kinds.Neg inputs = table (neg inputs) block_frames ∷ []
arithmetic kinds.Abs inputs = table (abs inputs) block_frames ∷ []
arithmetic kinds.Min inputs = table (min inputs) block_frames ∷ []
arithmetic kinds.Max inputs = table (max inputs) block_frames ∷ []
arithmetic kinds.Clip inputs = table (clip inputs) block_frames ∷ []
arithmetic kinds.Gt inputs = table (gt inputs) block_frames ∷ []
arithmetic kinds.Lt inputs = table (lt inputs) block_frames ∷ []
arithmetic kinds.Pan2 inputs = table (pan_left inputs) block_frames ∷ table (pan_right inputs) block_frames ∷ []
arithmetic kinds.Div inputs = table (div inputs) block_frames ∷ []
arithmetic kinds.Mod inputs = table (mod_of inputs) block_frames ∷ []
arithmetic kinds.Exp2 inputs = table (exp2 inputs) block_frames ∷ []
arithmetic kinds.Log2 inputs = table (log2 inputs) block_frames ∷ []
arithmetic _ inputs = []
