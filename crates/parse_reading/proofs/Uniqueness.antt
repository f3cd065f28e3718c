-- One list of tokens, one outcome.
use Rattle.std.proofs.Common.{◌≡◌, ℕ, zero, suc, ◌≤◌, max, List, [], length, Option, Some, None, refl, sym, ap, ◌∙◌, arith}
use Rattle.std.specs.Prelude.{Result, Ok, Err}
use Rattle.fc_base.specs.declared.refusals.Place.{Place}
use Rattle.fc_base.specs.declared.refusals.Refusal.{Refusal}
use Rattle.c_tokens.specs.declared.tokens.Token.{Token}
use Rattle.c_tree.specs.declared.nodes.Expr.{Expr}
use Rattle.c_tree.specs.declared.externals.External.{External}
use Rattle.c_tree.specs.declared.externals.FileTree.{FileTree}
use Rattle.parse_meaning.specs.Terminals.{Lexeme}
use Rattle.parse_meaning.specs.Expressions.{IsExpr}
use Rattle.parse_meaning.specs.File as f
use Rattle.parse_meaning.specs.File.{Begins, Declarations, Declares, Derives, first_left_out, first_deep}
use Rattle.parse_reading.specs.Reading.{Read, found, expression}
use Rattle.parse_reading.proofs.Complete.{Ends, last}
use Rattle.parse_reading.proofs.CompleteExprs.{expression_reads}
use Rattle.parse_reading.proofs.Files.{declares_once, file_declares, only}

-- a level of the grammar ends at the end of a list
end_ends : (l : ℕ) → l ≤ 16 → Ends l []
end_ends l low = record { stops = omega arith; last = omega (arith, last_low l low) }
  where
    last_low : (l : ℕ) → l ≤ 16 → last l ≤ 16
    last_low zero low = omega arith
    last_low (suc zero) low = omega arith
    last_low (suc (suc zero)) low = omega arith
    last_low (suc (suc (suc zero))) low = omega arith
    last_low (suc (suc (suc (suc zero)))) low = omega arith
    last_low (suc (suc (suc (suc (suc zero))))) low = omega arith
    last_low (suc (suc (suc (suc (suc (suc zero)))))) low = omega arith
    last_low (suc (suc (suc (suc (suc (suc (suc zero))))))) low = omega arith
    last_low (suc (suc (suc (suc (suc (suc (suc (suc zero)))))))) low = omega arith
    last_low (suc (suc (suc (suc (suc (suc (suc (suc (suc zero))))))))) low = omega arith
    last_low (suc (suc (suc (suc (suc (suc (suc (suc (suc (suc zero)))))))))) low = omega arith
    last_low (suc (suc (suc (suc (suc (suc (suc (suc (suc (suc (suc zero))))))))))) low = omega arith
    last_low (suc (suc (suc (suc (suc (suc (suc (suc (suc (suc (suc (suc zero)))))))))))) low = omega arith
    last_low (suc (suc (suc (suc (suc (suc (suc (suc (suc (suc (suc (suc (suc zero))))))))))))) low = omega arith
    last_low (suc (suc (suc (suc (suc (suc (suc (suc (suc (suc (suc (suc (suc (suc l)))))))))))))) low = omega arith

pub expression_once : (l h j : ℕ) (s : List Lexeme) (x y : Expr) → l ≤ 16 → IsExpr l s x h [] → IsExpr l s y j [] → (x ≡ y) × (h ≡ j)
expression_once l h j s x y low d i =
    let a : expression (max h j) l s ≡ Some (found x h []) = expression_reads (max h j) l h s [] x d (omega arith) (end_ends l low) in
    let b : expression (max h j) l s ≡ Some (found y j []) = expression_reads (max h j) l j s [] y i (omega arith) (end_ends l low) in
    let both : ◌≡◌ {A = Option (Read Expr)} (Some (found x h [])) (Some (found y j [])) = sym a ∙ b in
    let e : found x h [] ≡ found y j [] = cc in
    (ap (λ r. r.tree) e, ap (λ r. r.height) e)

pub begins_once : (types names others : List (List ℕ)) (s t u : List Token) (x y : External) → Begins types s x names t
    → Begins types s y others u → (x ≡ y) × (names ≡ others) × (t ≡ u)
begins_once types names others s t u x y b c =
    let e = only types names others s t u x y b c in
    (ap (λ r. r.tree) e.0, ap (λ r. r.names) e.0, e.1)

pub derives_once : (s : List Token) (a b : Result FileTree Refusal) → Derives s a → Derives s b → a ≡ b
derives_once s a b (f.left_out e) (f.left_out g) = cc
derives_once s a b (f.left_out e) (f.deep g h) = cc
derives_once s a b (f.left_out e) (f.refused_syntax g h i) = cc
derives_once s a b (f.left_out e) (f.derived g h i) = cc
derives_once s a b (f.deep e d) (f.left_out g) = cc
derives_once s a b (f.deep e d) (f.deep g h) = cc
derives_once s a b (f.deep e d) (f.refused_syntax g h i) = cc
derives_once s a b (f.deep e d) (f.derived g h i) = cc
derives_once s a b (f.refused_syntax e d c) (f.left_out g) = cc
derives_once s a b (f.refused_syntax e d c) (f.deep g h) = cc
derives_once s a b (f.refused_syntax e d c) (f.refused_syntax g h i) = let same = declares_once [] s _ _ c i in cc
derives_once s a b (f.refused_syntax e d c) (f.derived g h i) = let same = declares_once [] s _ _ c i in cc
derives_once s a b (f.derived e d c) (f.left_out g) = cc
derives_once s a b (f.derived e d c) (f.deep g h) = cc
derives_once s a b (f.derived e d c) (f.refused_syntax g h i) = let same = declares_once [] s _ _ c i in cc
derives_once s a b (f.derived e d c) (f.derived g h i) = let same = declares_once [] s _ _ c i in cc

-- every list derives something
derives_declared : (s : List Token) (out : Declarations) → first_left_out s ≡ None → first_deep 0 s ≡ None → Declares [] s out
    → (r : Result FileTree Refusal) × Derives s r
derives_declared s (Ok xs) e d c = (_, f.derived e d c)
derives_declared s (Err place) e d c = (_, f.refused_syntax e d c)

derives_deep : (s : List Token) (o : Option Place) → first_left_out s ≡ None → first_deep 0 s ≡ o
    → (r : Result FileTree Refusal) × Derives s r
derives_deep s (Some place) e d = (_, f.deep e d)
derives_deep s None e d = derives_declared s _ e d (file_declares (length s) [] s (omega arith))

derives_left_out : (s : List Token) (o : Option Place) → first_left_out s ≡ o → (r : Result FileTree Refusal) × Derives s r
derives_left_out s (Some place) e = (_, f.left_out e)
derives_left_out s None e = derives_deep s (first_deep 0 s) e refl

pub derives_some : (s : List Token) → (r : Result FileTree Refusal) × Derives s r
derives_some s = derives_left_out s (first_left_out s) refl
