-- Where the text of an expression begins, brackets round it or its operands left away. A node's own place is that of a later
-- token where it is that of an operator, of `[` or of a member's name; an added conversion has its operand's.
use Rattle.std.specs.Prelude.{true, List, [], ◌∷◌}
use Rattle.fc_base.specs.declared.refusals.Place.{Place}
use Rattle.c_tree.specs.declared.typed.TypedExpr.{TypedExpr, fold-TypedExpr}
use Rattle.c_tree.specs.declared.typed.TypedKind.TheOpen.{TypedKind-F, TypedExpr-F}

-- that of the first of several, else of the node
abbrev pub first_of : List Place → Place → Place
first_of [] own = own
first_of (p ∷ ps) own = p

-- of a kind of expression whose node has that place
abbrev pub kind_first : TypedKind-F (Place → Place) Place → Place → Place
kind_first (TypedKind-F.Comma all) own = first_of all own
kind_first (TypedKind-F.Assign op to from) own = to
kind_first (TypedKind-F.Cond test then_part else_part) own = test
kind_first (TypedKind-F.Binary op a b) own = a
kind_first (TypedKind-F.Cast of true) own = of
kind_first (TypedKind-F.Postfix op of) own = of
kind_first (TypedKind-F.Index base index) own = base
kind_first (TypedKind-F.Member base arrow member) own = base
kind_first _ own = own

abbrev pub expr_first : TypedExpr-F (Place → Place) Place → Place
expr_first e = e.kind e.place

-- the place of the first token
abbrev pub first_place : TypedExpr → Place
first_place = fold-TypedExpr (Place → Place) Place kind_first expr_first
