-- What the words of the command line ask for.
use Rattle.std.specs.Prelude.{ℕ, Bool, ◌||◌, cond, List, [], ◌∷◌, codes}
use Rattle.std.specs.Str.{bytes_eq}
use Rattle.sn_ports.specs.Octets.{Octets}
use Rattle.snova.specs.declared.usage.Call.{Call}

abbrev pub is_help : List ℕ → Bool
is_help word = bytes_eq word (codes "help") || (bytes_eq word (codes "--help") || bytes_eq word (codes "-h"))

abbrev pub is_conversion : List ℕ → Bool
is_conversion word = bytes_eq word (codes "score") || bytes_eq word (codes "dump")

-- a first word that others may follow
abbrev pub by_name : List ℕ → Call
by_name word =
    cond (bytes_eq word (codes "serve")) Call.Serve (cond (is_conversion word) Call.Convert (cond (bytes_eq word (codes "drill")) Call.Drill (cond (bytes_eq word (codes "plan")) Call.Plan Call.Render)))

-- a word that stands alone
abbrev pub alone : List ℕ → Call
alone word = cond (is_help word) Call.Help (cond (bytes_eq word (codes "--version")) Call.Version (by_name word))

-- Help and the version are asked for by one word alone; all else is to serve, to convert, to drill, to plan or to
-- render.
abbrev pub call_of : List Octets → Call
call_of [] = Call.Render
call_of (word ∷ []) = alone word.bytes
call_of (word ∷ (next ∷ words)) = by_name word.bytes
