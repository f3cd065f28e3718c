-- Leaves that are stored one after the other.
use Rattle.std.specs.Prelude.{ℕ, List, fold}
use Rattle.c_layout.specs.declared.tags.TagDef.{TagDef}
use Rattle.c_tree.specs.declared.programs.DataDef.{DataDef}
use Rattle.elab_meaning.specs.Initialisers.{Leaf, leaf_bytes, stored}

-- bytes behind the stores of these leaves
abbrev pub stored_leaves : List TagDef → List DataDef → List ℕ → List Leaf → List ℕ
stored_leaves tags objects bytes ls = fold (λ bytes l. stored l.offset (leaf_bytes tags objects l) bytes) bytes ls
