-- How many words extents have.
use Rattle.std.specs.Prelude.{ℕ, ◌+◌, List, [], ◌∷◌}
use Rattle.sn_mem.specs.declared.extents.Extent.{Extent}

-- How many words the extents have together.
unfoldable pub words_of : List Extent → ℕ
words_of [] = 0
words_of (e ∷ es) = e.len + words_of es
