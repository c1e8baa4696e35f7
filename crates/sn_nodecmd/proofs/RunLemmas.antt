-- Runs of controls.
use Rattle.std.proofs.Common.{◌≡◌, ◌≤◌, ◌<◌, ◌-◌, ◌+◌, ℕ, zero, suc, ℤ, Bool, true, false, List, [], ◌∷◌, ◌++◌, map, length, take, drop, Option, Some, None, refl, ap, sym, ◌∙◌, arith, length-drop, append_assoc}
use Rattle.std.specs.Prelude.{if◌then◌else◌}
use Rattle.std.specs.List.{list_all}
use Rattle.std.specs.Option.{option_map}
use Rattle.std.proofs.lemmas.Bool.{le-leb}
use Rattle.std.proofs.lemmas.List.{length-map, take-map, drop-map, take_all, append-nil}
use Rattle.sn_osc.specs.declared.packet.Arg.{Arg}
use Rattle.sn_osc.specs.declared.packet.Arg.TheVariants as args
use Rattle.sn_osc.specs.Shape.{Argument, argument_of}
use Rattle.sn_world.specs.Rows.{another}
use Rattle.sn_world.specs.ControlRuns.{ControlRun, ints, first_values, and_more, repeated}
use Rattle.sn_nodecmd.specs.Runs.{is_int, value_in}

-- ---- arguments that are numbers

abbrev pub is_int_arg : Arg → Bool
is_int_arg a = is_int (argument_of a)

abbrev ints_if : List Arg → Bool → Option (List ℤ)
ints_if xs b = if b then Some (map value_in (map argument_of xs)) else None

ints-are : (xs : List Arg) → ints (map argument_of xs) ≡ ints_if xs (list_all is_int_arg xs)
ints-are [] = refl
ints-are (args.Int v ∷ xs) = ap (another (Some v)) (ints-are xs) ∙ at (list_all is_int_arg xs)
  where
    at : (b : Bool) → another (Some v) (ints_if xs b) ≡ ints_if (args.Int v ∷ xs) b
    at true = refl
    at false = refl
ints-are (args.Text t ∷ xs) = refl
ints-are (args.Blob t ∷ xs) = refl

first_values-are : (n : ℕ) (xs : List Arg) → n ≤ length xs → first_values (Some n) (map argument_of xs) ≡ ints_if (take n xs) (list_all is_int_arg (take n xs))
first_values-are n xs within =
    ap (λ (b : Bool). if b then ints (take n (map argument_of xs)) else None) (le-leb n (length (map argument_of xs)) (omega (arith, length-map xs argument_of)))
    ∙ ap ints (take-map argument_of n xs) ∙ ints-are (take n xs)

pub first_values-some : (n : ℕ) (xs : List Arg) → n ≤ length xs → list_all is_int_arg (take n xs) ≡ true → Some (map value_in (map argument_of (take n xs))) ≡ first_values (Some n) (map argument_of xs)
first_values-some n xs within all = sym (first_values-are n xs within ∙ ap (ints_if (take n xs)) all)

pub first_values-none : (n : ℕ) (xs : List Arg) → n ≤ length xs → list_all is_int_arg (take n xs) ≡ false → None ≡ first_values (Some n) (map argument_of xs)
first_values-none n xs within other = sym (first_values-are n xs within ∙ ap (ints_if (take n xs)) other)

pub past-mapped : (n : ℕ) (xs : List Arg) → map argument_of (take (length xs - n) (drop n xs)) ≡ drop n (map argument_of xs)
past-mapped n xs = ap (map argument_of) (take_all (length xs - n) (drop n xs) (omega (arith, length-drop n xs))) ∙ sym (drop-map argument_of n xs)

-- ---- repetitions, one after the other

module _ (read : List Argument → Option (ControlRun × List Argument)) (args : List Arg) where
  -- what was read, and what is left to be read
  pub record IsReading (found : List ControlRun) (rest : List Arg) : Type 0 where
    pub fuel : ℕ
    pub enough : length rest ≤ fuel
    pub is : option_map (λ rs. found ++ rs) (repeated read fuel (map argument_of rest)) ≡ repeated read (length (map argument_of args)) (map argument_of args)

  reading-by : (found : List ControlRun) (fuel : ℕ) (x : Arg) (xs : List Arg) → length (x ∷ xs) ≤ suc fuel → option_map (λ rs. found ++ rs) (repeated read (suc fuel) (map argument_of (x ∷ xs))) ≡ repeated read (length (map argument_of args)) (map argument_of args)
      → (run : ControlRun) (rest : List Arg) → length rest < length (x ∷ xs) → Some (run, map argument_of rest) ≡ read (map argument_of (x ∷ xs)) → IsReading (found ++ run ∷ []) rest
  reading-by found fuel x xs enough is run rest fewer took = record {
    fuel = fuel;
    enough = omega arith;
    is = more (repeated read fuel (map argument_of rest)) ∙ ap (λ (o : Option (ControlRun × List Argument)). option_map (λ rs. found ++ rs) (and_more o (λ ys. repeated read fuel ys))) took ∙ is;
  }
    where
      more : (o : Option (List ControlRun)) → option_map (λ rs. (found ++ run ∷ []) ++ rs) o ≡ option_map (λ rs. found ++ rs) (another (Some run) o)
      more None = refl
      more (Some rs) = ap Some (append_assoc found (run ∷ []) rs)

  pub reading-more : (found : List ControlRun) (now rest : List Arg) → IsReading found now → (run : ControlRun) → length rest < length now → Some (run, map argument_of rest) ≡ read (map argument_of now) → IsReading (found ++ run ∷ []) rest
  reading-more found now rest r run fewer took = at now r.fuel r.enough r.is fewer took
    where
      at : (ys : List Arg) (fuel : ℕ) → length ys ≤ fuel → option_map (λ rs. found ++ rs) (repeated read fuel (map argument_of ys)) ≡ repeated read (length (map argument_of args)) (map argument_of args)
          → length rest < length ys → Some (run, map argument_of rest) ≡ read (map argument_of ys) → IsReading (found ++ run ∷ []) rest
      at [] fuel enough is few is_read = absurd (omega arith)
      at (x ∷ xs) zero enough is few is_read = absurd (omega arith)
      at (x ∷ xs) (suc fuel) enough is few is_read = reading-by found fuel x xs enough is run rest few is_read

  pub reading-all : (found : List ControlRun) (now : List Arg) → IsReading found now → length now ≤ 0 → Some found ≡ repeated read (length (map argument_of args)) (map argument_of args)
  reading-all found now r few = at now r.fuel r.is few
    where
      at : (ys : List Arg) (fuel : ℕ) → option_map (λ rs. found ++ rs) (repeated read fuel (map argument_of ys)) ≡ repeated read (length (map argument_of args)) (map argument_of args)
          → length ys ≤ 0 → Some found ≡ repeated read (length (map argument_of args)) (map argument_of args)
      at [] zero is none = ap Some (sym (append-nil found)) ∙ is
      at [] (suc fuel) is none = ap Some (sym (append-nil found)) ∙ is
      at (x ∷ xs) fuel is none = absurd (omega arith)
