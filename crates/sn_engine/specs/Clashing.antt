-- Clashes of members of parallel groups are told to every client, each once.
use Rattle.std.specs.Prelude.{ℕ, pos, ◌==◌, ◌<◌, Bool, ◌&&◌, if◌then◌else◌, List, [], ◌∷◌, ◌++◌, codes}
use Rattle.std.specs.List.{list_any}
use Rattle.std.specs.Ordering.{int_eq}
use Rattle.sn_ports.specs.Limits.{control_bus_count}
use Rattle.sn_osc.specs.Shape.{Argument, int, string, arguments, MessageShape}
use Rattle.sn_reply.specs.declared.replies.To.TheVariants.{All}
use Rattle.sn_reply.specs.Replies.{ReplyShape}
use Rattle.sn_foot.specs.declared.resource.Resource.{Resource}
use Rattle.sn_foot.specs.declared.resource.Resource.TheVariants.{Audio, Control, Buffer}
use Rattle.sn_foot.specs.Footprints.{number_of}
use Rattle.sn_clash.specs.declared.clash.Clash.{Clash}

-- the sort and the number of a resource
abbrev pub resource_arguments : Resource → List Argument
resource_arguments (Audio n) = string (codes "audio") ∷ int (pos n) ∷ []
resource_arguments (Control n) = string (codes "control") ∷ int (pos n) ∷ []
resource_arguments (Buffer n) = string (codes "buffer") ∷ int (pos n) ∷ []

-- its number can be sent
abbrev pub IsSmall : Clash → Type 0
IsSmall c = number_of c.resource < control_bus_count

-- the group, the two members in order, and the resource
abbrev pub clash_message : Clash → MessageShape
clash_message c = record { address = codes "/p_clash"; body = arguments (int c.group ∷ int c.first ∷ int c.second ∷ resource_arguments c.resource) }

-- ---- the same clash

-- the sorts of resources, numbered
abbrev pub sort_of : Resource → ℕ
sort_of (Audio n) = 0
sort_of (Control n) = 1
sort_of (Buffer n) = 2

abbrev pub same_resource : Resource → Resource → Bool
same_resource a b = (sort_of a == sort_of b) && (number_of a == number_of b)

-- all of it is equal
abbrev pub same_clash : Clash → Clash → Bool
same_clash a b = int_eq a.group b.group && (int_eq a.first b.first && (int_eq a.second b.second && same_resource a.resource b.resource))

-- ---- those that are told

-- a clash, unless it is among those of the boundary before
abbrev pub told_clash : List Clash → Clash → List ReplyShape
told_clash before c = if list_any (λ b. same_clash b c) before then [] else (record { to = All; message = clash_message c }) ∷ []

abbrev pub told_clashes : List Clash → List Clash → List ReplyShape
told_clashes before [] = []
told_clashes before (c ∷ cs) = told_clash before c ++ told_clashes before cs
