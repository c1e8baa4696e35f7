-- Packets that ask for the samples of files.
use Rattle.std.specs.Prelude.{◌≡◌, Bool, false, ◌||◌, List, is_some}
use Rattle.std.specs.List.{AllZip}
use Rattle.sn_osc.specs.Shape.{MessageShape, Shape, Shapes, message, bundle, none, more}
use Rattle.sn_shelf.specs.Expanded.{request_of}

abbrev pub is_request : MessageShape → Bool
is_request m = is_some (request_of m)

abbrev mutual
  -- one of the messages of a packet does
  pub asks : Shape → Bool
  asks (message m) = is_request m
  asks (bundle tag inner) = any_asks inner

  pub any_asks : Shapes → Bool
  any_asks none = false
  any_asks (more x xs) = asks x || any_asks xs

-- A packet that asks for no file stays as it is.
abbrev pub KeepsUnasked : Shape → Shape → Type 0
KeepsUnasked old new = asks old ≡ false → new ≡ old

-- each packet of a list does, in its place
abbrev pub AllKeepUnasked : List Shape → List Shape → Type 0
AllKeepUnasked olds news = AllZip KeepsUnasked olds news
