-- The steps of the loop over what stands between braces.
use Rattle.std.proofs.Common.{◌≡◌, ◌≢◌, ℕ, zero, suc, max, List, [], ◌∷◌, ◌++◌, Option, Some, None, Bool, true, false, length, refl, sym, ap, ◌∙◌}
use Rattle.std.specs.Prelude.{Result, Ok, Err}
use Rattle.std.specs.Result.{IsErrAnd}
use Rattle.c_tokens.specs.declared.puncts.Punct.TheVariants as p
use Rattle.c_tree.specs.declared.statements.Stmt.{Stmt}
use Rattle.parse_meaning.specs.declared.terminals.Keyword.TheVariants as w
use Rattle.parse_meaning.specs.declared.terminals.Terminal.TheVariants as k
use Rattle.parse_meaning.specs.Terminals.{Lexeme, at}
use Rattle.parse_reading.specs.Reading.{Read, ◌>>=◌, found, prepended, expression}
use Rattle.parse_reading.specs.ReadingStatements.{items, items_by, labelled, labelled_by, with_stmt, statement, cases}
use Rattle.parse_lists.specs.Ends.{body_end_at}
use Rattle.parse_statements.specs.declared.statements.Beside.{Beside}
use Rattle.parse_statements.specs.declared.statements.Beside.TheVariants as beside
use Rattle.parse_statements.specs.Lists.{item_of, stmts_of, begins_cases}
use Rattle.parse_initialisers.specs.Readers.{locals}
use Rattle.parse_tokens.specs.Gives.{Gives}
use Rattle.parse_tokens.specs.declared.faults.ParseFault.{ParseFault}
use Rattle.parse_tokens.specs.declared.faults.ParseFault.TheVariants as fault
use Rattle.parse_tokens.specs.declared.faults.WithHeight.{WithHeight}
use Rattle.parse_tokens.proofs.Turns.{prepended-prepended, prepended_last}

-- what `?` returns
pub err_gives : {A : Type 0} (read : Option (Read A)) (r : Result (WithHeight A) ParseFault) (new : List Lexeme) (e : ParseFault) →
    IsErrAnd r (λ f. e ≡ f) → (e ≢ fault.NoMemory → read ≡ None) → Gives read r new
err_gives read (Ok x) new e same none = absurd same
err_gives read (Err f) new e same none = λ other. none (λ is. other (sym same ∙ is))

-- a statement, and then those that a reader finds
abbrev with_next : (List Lexeme → Option (Read (List Stmt))) → Option (Read Stmt) → Option (Read (List Stmt))
with_next later r = r >>= λ x. prepended (x.tree ∷ []) x.height (later x.rest)

-- what stands there ends, or goes on with an item
abbrev braced_by : (List Lexeme → Option (Read (List Stmt))) → Option (Read Stmt) → Bool × List Lexeme → Option (Read (List Stmt))
braced_by later x (true, t) = Some (found [] 0 t)
braced_by later x (false, s) = with_next later x

module _ (n : ℕ) where
  items_braced : (later : List Lexeme → Option (Read (List Stmt))) (s : List Lexeme) →
      items_by (expression n) (locals n) (statement n) later s ≡ braced_by later (item_of n beside.Declarations s) (body_end_at s)
  unfolding with_stmt
  items_braced later [] = refl
  items_braced later (at (k.Punct p.RightBrace) o ∷ t) = refl
  items_braced later (o ∷ t) = refl

  labelled_braced : (later : List Lexeme → Option (Read (List Stmt))) (s : List Lexeme) →
      labelled_by (expression n) (locals n) (statement n) later s ≡ braced_by later (item_of n beside.Labels s) (body_end_at s)
  unfolding with_stmt
  labelled_braced later [] = refl
  labelled_braced later (at (k.Punct p.RightBrace) o ∷ t) = refl
  labelled_braced later (o ∷ t) = refl

  stmts_on : (b : Beside) (m : ℕ) (s : List Lexeme) → stmts_of n b (suc m) s ≡ braced_by (stmts_of n b m) (item_of n b s) (body_end_at s)
  unfolding items labelled
  stmts_on beside.Declarations m s = items_braced (stmts_of n beside.Declarations m) s
  stmts_on beside.Labels m s = labelled_braced (stmts_of n beside.Labels m) s

  stmts_last : (b : Beside) (s : List Lexeme) → stmts_of n b zero s ≡ braced_by (λ t. None) (item_of n b s) (body_end_at s)
  unfolding items labelled
  stmts_last beside.Declarations s = items_braced (λ t. None) s
  stmts_last beside.Labels s = labelled_braced (λ t. None) s

  -- where nothing ends, no token is taken
  stays : (s t : List Lexeme) → body_end_at s ≡ (false, t) → s ≡ t
  stays [] t e = ap (λ (r : Bool × List Lexeme). r.1) e
  stays (at (k.Punct p.RightBrace) o ∷ u) t e = let other : true ≡ false = ap (λ (r : Bool × List Lexeme). r.0) e in cc
  stays (o ∷ u) t e = ap (λ (r : Bool × List Lexeme). r.1) e

  module _ (b : Beside) (xs : List Stmt) (h : ℕ) where
    pub braced_end : (m : ℕ) (s t : List Lexeme) → body_end_at s ≡ (true, t) → prepended xs h (stmts_of n b m s) ≡ Some (found xs h t)
    braced_end zero s t ends = rw (stmts_last b s, ends) (prepended_last xs h t)
    braced_end (suc m) s t ends = rw (stmts_on b m s, ends) (prepended_last xs h t)

    pub braced_fail : (m : ℕ) (s t : List Lexeme) → body_end_at s ≡ (false, t) → item_of n b t ≡ None →
        prepended xs h (stmts_of n b (suc m) s) ≡ None
    braced_fail m s t ends none = rw (stmts_on b m s, ends, ap (item_of n b) (stays s t ends) ∙ none) refl

    pub braced_go : (m : ℕ) (s t : List Lexeme) (x : Read Stmt) → body_end_at s ≡ (false, t) → item_of n b t ≡ Some x →
        prepended xs h (stmts_of n b (suc m) s) ≡ prepended (xs ++ x.tree ∷ []) (max h x.height) (stmts_of n b m x.rest)
    braced_go m s t x ends some =
        rw (stmts_on b m s, ends, ap (item_of n b) (stays s t ends) ∙ some)
        (prepended-prepended xs (x.tree ∷ []) h x.height (stmts_of n b m x.rest))

    pub braced_over : (s t : List Lexeme) → body_end_at s ≡ (false, t) → prepended xs h (stmts_of n b 0 s) ≡ None
    braced_over s t ends = rw (stmts_last b s, ends) (go (item_of n b s))
      where
        go : (x : Option (Read Stmt)) → prepended xs h (with_next (λ t. None) x) ≡ None
        go None = refl
        go (Some x) = refl

-- the labels and statements of a switch are those that a loop finds, if one may stand first
module _ (n : ℕ) where
  pub cases_begun : (s : List Lexeme) → begins_cases s ≡ true →
      cases (expression n) (locals n) (statement n) s ≡ stmts_of n beside.Labels (suc (length s)) s
  unfolding labelled with_stmt
  cases_begun [] e = let other : false ≡ true = e in cc
  cases_begun (at (k.Punct p.RightBrace) o ∷ t) e = refl
  cases_begun (at (k.Word w.Case) o ∷ t) e = refl
  cases_begun (at (k.Word w.Default) o ∷ t) e = refl
  cases_begun (o ∷ t) e = let other : false ≡ true = e in cc

  pub cases_none : (s : List Lexeme) → begins_cases s ≡ false → cases (expression n) (locals n) (statement n) s ≡ None
  unfolding with_stmt
  cases_none [] e = refl
  cases_none (at (k.Punct p.RightBrace) o ∷ t) e = let other : true ≡ false = e in cc
  cases_none (at (k.Word w.Case) o ∷ t) e = let other : true ≡ false = e in cc
  cases_none (at (k.Word w.Default) o ∷ t) e = let other : true ≡ false = e in cc
  cases_none (o ∷ t) e = refl
