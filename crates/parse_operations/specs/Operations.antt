-- What an expression goes on with, and what it is then.
use Rattle.std.specs.Prelude.{ℕ, suc, max, ◌≤◌, ◌<◌, List, ◌∷◌}
use Rattle.fc_base.specs.declared.refusals.Place.{Place}
use Rattle.c_tree.specs.declared.nodes.Expr.{Expr}
use Rattle.c_tree.specs.declared.nodes.ExprKind.TheVariants as e
use Rattle.parse_meaning.specs.Terminals.{Lexeme}
use Rattle.parse_meaning.specs.Expressions.{expr}
use Rattle.parse_reading.specs.Reading.{Read, LeftOperand, left}
use Rattle.parse_tokens.specs.Rooms.{height_room}
use Rattle.parse_tokens.specs.declared.faults.WithHeight.{WithHeight}
use Rattle.parse_operations.specs.declared.operations.Operation.{Operation}
use Rattle.parse_operations.specs.declared.operations.Operation.TheVariants as tail

abbrev pub tall : {A : Type 0} → Read A → WithHeight A
tall x = record { tree = x.tree; height = x.height }

-- no part is very high, and an operator has a level
abbrev pub FitsOperation : Operation → Type 0
FitsOperation (tail.Call xs) = xs.height < height_room
FitsOperation (tail.Index y) = y.height < height_room
FitsOperation (tail.Member arrow name place) = Unit {0}
FitsOperation (tail.Step b) = Unit {0}
FitsOperation (tail.Choice y z) = (y.height < height_room) × (z.height < height_room)
FitsOperation (tail.Assign b y) = y.height < height_room
FitsOperation (tail.Join b l y) = (l ≤ 16) × (y.height < height_room)
FitsOperation (tail.List xs) = xs.height < height_room

-- an expression with a tail: where it started, what it was, how high it was, and the token's place
abbrev pub with_operation : Place → Expr → ℕ → Operation → Place → List Lexeme → LeftOperand
with_operation start x h (tail.Call xs) place t = left 1 (expr (e.Call x xs.tree) x.place) (suc (max h xs.height)) t
with_operation start x h (tail.Index y) place t = left 1 (expr (e.Index x y.tree) place) (suc (max h y.height)) t
with_operation start x h (tail.Member arrow name at_name) place t = left 1 (expr (e.Member x arrow name) at_name) (suc h) t
with_operation start x h (tail.Step b) place t = left 1 (expr (e.Postfix b x) start) (suc h) t
with_operation start x h (tail.Choice y z) place t = left 14 (expr (e.Cond x y.tree z.tree) place) (suc (max h (max y.height z.height))) t
with_operation start x h (tail.Assign b y) place t = left 15 (expr (e.Assign b x y.tree) place) (suc (max h y.height)) t
with_operation start x h (tail.Join b l y) place t = left (suc l) (expr (e.Binary b x y.tree) place) (suc (max h y.height)) t
with_operation start x h (tail.List xs) place t = left 16 (expr (e.Comma (x ∷ xs.tree)) start) (suc (max h xs.height)) t
