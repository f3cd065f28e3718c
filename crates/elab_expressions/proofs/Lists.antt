-- The last of several expressions, and fronts of lists of expressions.
use Rattle.std.proofs.Common.{◌≡◌, ℕ, zero, suc, ◌-◌, ◌≤◌, List, [], ◌∷◌, length, take, drop, Err, refl, ap, sym, ◌∙◌, subst, arith}
use Rattle.std.specs.Prelude.{slice_get}
use Rattle.std.specs.Option.{option_map_or}
use Rattle.fc_base.specs.declared.refusals.Fault.{Fault}
use Rattle.c_layout.specs.declared.types.CType.TheVariants.{Void}
use Rattle.c_tree.specs.declared.nodes.Expr.{Expr}
use Rattle.c_tree.specs.declared.typed.TypedExpr.{TypedExpr}
use Rattle.elab_meaning.specs.Expressions.{last_type}
use Rattle.elab_meaning.specs.Parts.{ReadExpr}
use Rattle.elab_meaning.specs.Trees.{read_expr}
use Rattle.elab_scope.specs.declared.state.State.{State}
use Rattle.elab_scope.specs.States.{Types}
use Rattle.elab_expressions.proofs.Following.{fault_types}
use Rattle.elab_expressions.specs.Calls.{before_and_behind, format_onto}
use Rattle.elab_expressions.specs.Words.{heights, parts_of, values_onto}

last_at : (x : TypedExpr) (xs : List TypedExpr) →
    last_type (x ∷ xs) ≡ option_map_or (λ (y : TypedExpr). y.ctype) (slice_get (x ∷ xs) (length xs)) Void
last_at x [] = refl
last_at x (y ∷ more) = last_at y more

pub last_is : (xs : List TypedExpr) → last_type xs ≡ option_map_or (λ (x : TypedExpr). x.ctype) (slice_get xs (length xs - 1)) Void
last_is [] = refl
last_is (x ∷ xs) =
    let before : length (x ∷ xs) - 1 ≡ length xs = omega arith in
    last_at x xs ∙ ap (λ (k : ℕ). option_map_or (λ (y : TypedExpr). y.ctype) (slice_get (x ∷ xs) k) Void) (sym before)

heights_front : (k : ℕ) (es : List Expr) → heights (take k es) ≤ heights es
heights_front zero es = omega arith
heights_front (suc k) [] = omega arith
heights_front (suc k) (e ∷ es) = let more = heights_front k es in omega arith

heights_behind : (k : ℕ) (es : List Expr) → heights (drop k es) ≤ heights es
heights_behind zero es = omega arith
heights_behind (suc k) [] = omega arith
heights_behind (suc k) (e ∷ es) = let more = heights_behind k es in omega arith

pub front_low : (k n : ℕ) (es fs : List Expr) → fs ≡ take k es → heights es ≤ n → heights fs ≤ n
front_low k n es fs e low = let less : heights (take k es) ≤ n = omega (arith, heights_front k es, low) in subst (λ (xs : List Expr). heights xs ≤ n) (sym e) less

pub behind_low : (k n : ℕ) (es fs : List Expr) → fs ≡ drop k es → heights es ≤ n → heights fs ≤ n
behind_low k n es fs e low = let less : heights (drop k es) ≤ n = omega (arith, heights_behind k es, low) in subst (λ (xs : List Expr). heights xs ≤ n) (sym e) less

parts_front : (k : ℕ) (es : List Expr) → parts_of (take k es) ≡ take k (parts_of es)
parts_front zero es = refl
parts_front (suc k) [] = refl
parts_front (suc k) (e ∷ es) = ap (λ ps. read_expr e ∷ ps) (parts_front k es)

parts_behind : (k : ℕ) (es : List Expr) → parts_of (drop k es) ≡ drop k (parts_of es)
parts_behind zero es = refl
parts_behind (suc k) [] = refl
parts_behind (suc k) (e ∷ es) = parts_behind k es

pub front_parts : (k : ℕ) (es fs : List Expr) → fs ≡ take k es → parts_of fs ≡ take k (parts_of es)
front_parts k es fs e = ap parts_of e ∙ parts_front k es

pub behind_parts : (k : ℕ) (es fs : List Expr) → fs ≡ drop k es → parts_of fs ≡ drop k (parts_of es)
behind_parts k es fs e = ap parts_of e ∙ parts_behind k es

-- the arguments before a format are refused
pub front_fault : (k : ℕ) (es fs : List Expr) (values : List TypedExpr) (old mid : State) (f : Fault) → fs ≡ take k es
    → Types (values_onto values (parts_of fs)) old (Err f) mid → Types (before_and_behind values k (parts_of es)) old (Err f) mid
front_fault k es fs values old mid f e types =
    fault_types (values_onto values (take k (parts_of es))) (λ vs. format_onto vs (drop k (parts_of es))) old mid f
    (subst (λ (ps : List ReadExpr). Types (values_onto values ps) old (Err f) mid) (front_parts k es fs e) types)
