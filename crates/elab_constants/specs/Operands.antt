-- An operand as what a node reads of it.
use Rattle.std.specs.Prelude.{List}
use Rattle.c_layout.specs.declared.tags.TagDef.{TagDef}
use Rattle.c_tree.specs.declared.programs.DataDef.{DataDef}
use Rattle.c_tree.specs.declared.typed.TypedExpr.{TypedExpr}
use Rattle.elab_meaning.specs.Addresses.{Part, part_of}

-- the expression itself, with the pointer that it is and the pointer to the place that it designates
abbrev pub operand : List TagDef → List DataDef → TypedExpr → Part
operand tags objects e =
    record { whole = e; pointer = (part_of tags objects e).pointer; place = (part_of tags objects e).place }
