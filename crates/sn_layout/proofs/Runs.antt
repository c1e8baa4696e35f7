-- Runs of controls, one after the other.
use Rattle.std.proofs.Common.{◌≡◌, ◌<◌, ◌≤◌, ◌-◌, ◌+◌, ◌||◌, ℕ, ℤ, zero, suc, true, false, not, arith, map, take, drop, take_all, get_or, length, List, [], ◌∷◌, Option, Some, None, refl, ap, sym, subst, ◌∙◌}
use Rattle.std.proofs.lemmas.Bool.{or_from}
use Rattle.sn_osc.specs.declared.packet.Arg.{Arg}
use Rattle.sn_osc.specs.Shape.{Argument, argument_of, int}
use Rattle.sn_def.specs.declared.control.Control.{Control}
use Rattle.sn_def.specs.Definition.{Definition}
use Rattle.sn_tree.specs.Trees.{Nodes, subtree}
use Rattle.sn_world.specs.declared.stage.Held.{Held}
use Rattle.sn_world.specs.Mappings.{any_node}
use Rattle.sn_world.specs.Rows.{another, some_of}
use Rattle.sn_world.specs.ControlRuns.{ControlRun, and_more, for_node, repeated}
use Rattle.sn_layout.specs.Leaving.{any_laid, holds_laid, is_laid, runs_laid, runs_plain, sets_plain}
use Rattle.sn_layout.specs.Reading.{ArePlain, MayBePlain}

-- the first of some controls is not laid
pub next_laid : (d : Definition) (cs : List Control) (k n : ℕ) → 0 < n → is_laid d cs k ≡ false → any_laid d cs k n ≡ any_laid d cs (k + 1) (n - 1)
next_laid d cs k zero some f = absurd (omega (arith, some))
next_laid d cs k (suc n) some f =
    let e : suc n - 1 ≡ n = omega arith in
    ap (λ b. b || any_laid d cs (k + 1) n) f ∙ ap (λ m. any_laid d cs (k + 1) m) (sym e)

pub none_laid : (d : Definition) (cs : List Control) (k n : ℕ) → n ≤ 0 → any_laid d cs k n ≡ false
none_laid d cs k zero few = refl
none_laid d cs k (suc n) few = absurd (omega (arith, few))

-- ---- what is read from arguments

module _ (reached : Nodes Held) (read : List Argument → Option (ControlRun × List Argument)) where
  another_plain : (r : ControlRun) (o : Option (List ControlRun)) → any_node (holds_laid r.control (length r.values)) reached ≡ false → MayBePlain reached o → MayBePlain reached (another (Some r) o)
  another_plain r None f h = tt
  another_plain r (Some rs) f h = or_from (any_node (holds_laid r.control (length r.values)) reached) (runs_laid holds_laid reached rs) f h

  none_plain : ArePlain reached read []
  none_plain zero = refl
  none_plain (suc n) = refl

  pub last_plain : (args : List Arg) → length args ≤ 0 → ArePlain reached read (map argument_of args)
  last_plain [] few = none_plain
  last_plain (a ∷ args) few = absurd (omega (arith, few))

  -- what is no run
  pub unread_plain : (args : List Arg) → None ≡ read (map argument_of args) → ArePlain reached read (map argument_of args)
  unread_plain [] missing = none_plain
  unread_plain (a ∷ args) missing = at
    where
      at : ArePlain reached read (map argument_of (a ∷ args))
      at zero = tt
      at (suc n) = subst (λ (o : Option (ControlRun × List Argument)). MayBePlain reached (and_more o (λ rest. repeated read n rest))) missing tt

  -- a run that sets none, and what is read after it
  pub next_plain : (args : List Arg) (r : ControlRun) (rest : List Argument) → Some (r, rest) ≡ read (map argument_of args) → any_node (holds_laid r.control (length r.values)) reached ≡ false → ArePlain reached read rest
      → ArePlain reached read (map argument_of args)
  next_plain [] r rest is f h = none_plain
  next_plain (a ∷ args) r rest is f h = at
    where
      at : ArePlain reached read (map argument_of (a ∷ args))
      at zero = tt
      at (suc n) = subst (λ (o : Option (ControlRun × List Argument)). MayBePlain reached (and_more o (λ left. repeated read n left))) is (another_plain r (repeated read n rest) f (h n))

runs_named : (all : Nodes Held) (id : ℤ) (o : Option (List ControlRun)) → MayBePlain (subtree id all) o → runs_plain holds_laid all (for_node (Some id) (some_of o)) ≡ true
runs_named all id None h = refl
runs_named all id (Some []) h = refl
runs_named all id (Some (r ∷ rs)) h = ap not h

-- a node, and runs
pub node_plain : (all : Nodes Held) (id : ℤ) (read : List Argument → Option (ControlRun × List Argument)) (xs : List Argument) → ArePlain (subtree id all) read xs → sets_plain holds_laid all (int id ∷ xs) read ≡ true
node_plain all id read xs h = runs_named all id (repeated read (length xs) xs) (h (length xs))

-- as it stands among the arguments
pub node_first : (all : Nodes Held) (read : List Argument → Option (ControlRun × List Argument)) (args : List Arg) (x : Arg) → 1 ≤ length args → x ≡ get_or args 0 x
    → sets_plain holds_laid all (map argument_of args) read ≡ sets_plain holds_laid all (argument_of x ∷ map argument_of (take (length args - 1) (drop 1 args))) read
node_first all read [] x one is = absurd (omega (arith, one))
node_first all read (a ∷ rest) x one is =
    let whole : take (length (a ∷ rest) - 1) rest ≡ rest = take_all _ rest (omega arith) in
    ap (λ (y : Arg). sets_plain holds_laid all (argument_of y ∷ map argument_of rest) read) (sym is)
    ∙ ap (λ (ys : List Arg). sets_plain holds_laid all (argument_of x ∷ map argument_of ys) read) (sym whole)
