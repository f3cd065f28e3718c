-- Arguments that are converted to their parameters' types, from the last one on.
use Rattle.std.proofs.Common.{◌≡◌, ◌<◌, List, [], ◌∷◌, ◌++◌, length, Option, refl, ap, sym, ◌∙◌, arith, length-append}
use Rattle.std.specs.Prelude.{slice_get}
use Rattle.c_layout.specs.declared.types.CType.{CType}
use Rattle.c_layout.specs.Types.{promoted}
use Rattle.c_tree.specs.declared.typed.TypedExpr.{TypedExpr}
use Rattle.elab_meaning.specs.Conversions.{converted}
use Rattle.elab_meaning.specs.Expressions.{converted_arguments}
use Rattle.elab_expressions.specs.Calls.{converted_to}

pub fewer : (all before : List TypedExpr) (last : TypedExpr) → all ≡ before ++ last ∷ [] → length before < length all
fewer all before last e = omega (arith, length-append before (last ∷ []), ap length e)

converted_last : (params : List CType) (xs : List TypedExpr) (x : TypedExpr) →
    converted_arguments params (xs ++ x ∷ []) ≡ converted_arguments params xs ++ converted_to (slice_get params (length xs)) x ∷ []
converted_last [] [] x = refl
converted_last (p ∷ ps) [] x = refl
converted_last [] (y ∷ ys) x = ap (λ zs. converted (promoted y.ctype) y ∷ zs) (converted_last [] ys x)
converted_last (p ∷ ps) (y ∷ ys) x = ap (λ zs. converted p y ∷ zs) (converted_last ps ys x)

-- those before the last one, and the last one
pub converted_behind : (params : List CType) (all before : List TypedExpr) (last : TypedExpr) (made : List TypedExpr) (x : TypedExpr)
    (p : Option CType) (result : List TypedExpr) → all ≡ before ++ last ∷ [] → made ≡ converted_arguments params before
    → p ≡ slice_get params (length before) → x ≡ converted_to p last → result ≡ made ++ x ∷ [] → result ≡ converted_arguments params all
converted_behind params all before last made x p result e m g k r =
    r ∙ (ap (λ zs. zs ++ x ∷ []) m ∙ (ap (λ y. converted_arguments params before ++ y ∷ []) (k ∙ ap (λ q. converted_to q last) g)
    ∙ (sym (converted_last params before last) ∙ sym (ap (converted_arguments params) e))))
