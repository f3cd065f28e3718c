-- Which variables are in registers: integers and pointers whose address is never taken. This project's own. An `&` in
-- the operand of `sizeof` takes an address too.
use Rattle.std.specs.Prelude.{◌≢◌, ℕ, ⊤, All}
use Rattle.c_layout.specs.declared.types.CType.{CType, out-CType}
use Rattle.c_layout.specs.declared.types.CType.TheOpen.{CType-F}
use Rattle.c_tree.specs.declared.programs.FnDef.{FnDef}
use Rattle.c_tree.specs.declared.programs.LocalDef.{LocalDef}
use Rattle.c_tree.specs.Bodies.{Throughout}
use Rattle.c_tree.specs.Traversals.{taken}

-- an integer or a pointer
abbrev pub IsScalar : CType-F CType → Type 0
IsScalar (CType-F.Int width signed plain_char long_long) = ⊤
IsScalar (CType-F.Ptr of) = ⊤
IsScalar _ = ⊥

-- The address of the variable of that number is taken nowhere in the body.
abbrev pub IsNeverTaken : FnDef → ℕ → Type 0
IsNeverTaken f local = Throughout (λ number. ⊤) (λ e. All (λ number. number ≢ local) (taken e)) f.body

-- the variable of that number, which is this one, is a register variable
abbrev pub IsRegister : FnDef → ℕ → LocalDef → Type 0
IsRegister f number local = IsScalar (out-CType local.ctype) × IsNeverTaken f number
