-- Productions, and the parts in which they are read.
use Rattle.std.specs.Prelude.{if◌then◌else◌, nat_le}
use Rattle.std.proofs.Common.{◌≡◌, ℕ, suc, max, List, [], ◌∷◌, length, Option, Some, None, Bool, true, false, refl, sym, ap, ◌∙◌, arith}
use Rattle.fc_base.specs.declared.refusals.Place.{Place}
use Rattle.c_tokens.specs.declared.puncts.Punct.TheVariants as p
use Rattle.c_tokens.specs.declared.tokens.Token.{Token}
use Rattle.c_tree.specs.declared.nodes.Expr.{Expr}
use Rattle.c_tree.specs.declared.nodes.ExprKind.TheVariants as e
use Rattle.parse_meaning.specs.declared.terminals.Keyword.TheVariants as w
use Rattle.parse_reading.specs.declared.operators.Operator.{Operator}
use Rattle.parse_reading.specs.declared.operators.Operator.TheVariants as role
use Rattle.parse_meaning.specs.declared.terminals.Terminal.{Terminal}
use Rattle.parse_meaning.specs.declared.terminals.Terminal.TheVariants as k
use Rattle.parse_meaning.specs.Terminals.{Lexeme, at, text_of, place_of, is_tag}
use Rattle.parse_meaning.specs.Expressions.{expr}
use Rattle.parse_reading.specs.Reading as spec
use Rattle.parse_reading.specs.Reading.{◌>>=◌, Read, LeftOperand, found, left}
use Rattle.parse_tokens.proofs.Binds.{bind_bind, bind_each}
use Rattle.parse_operations.specs.Operations.{tall, with_operation}
use Rattle.parse_operations.specs.declared.operations.Operation.{Operation}
use Rattle.parse_operations.specs.declared.operations.Operation.TheVariants as tail
use Rattle.parse_expressions.specs.Openings as openings
use Rattle.parse_expressions.specs.Operations as tails
use Rattle.parse_expressions.specs.Operations.{tail_of, go_on}

-- a tree, and a token behind it
token_behind : {A B : Type 0} (o : Option (Read A)) (after : List Lexeme → Option (List Lexeme)) (g : Read A → Option B) →
    ((o >>= λ x. after x.rest >>= λ u. Some (found x.tree x.height u)) >>= g)
    ≡ (o >>= λ x. after x.rest >>= λ u. g (found x.tree x.height u))
token_behind o after g = bind_bind o _ g ∙ bind_each o _ _ (λ x. bind_bind (after x.rest) _ g)

module _ (n : ℕ) (sub : ℕ → List Lexeme → Option (Read Expr)) where
  -- ---- What an expression begins with

  pub converted_parts : (place : Place) (t : List Lexeme) → spec.converted n sub place t ≡ openings.converted n sub place t
  unfolding spec.converted
  converted_parts place t = sym (token_behind (spec.type_name n sub t) spec.after_right_paren _)

  sized_type_parts : (place : Place) (t : List Lexeme) → spec.sized_type n sub place t ≡ openings.sized_type n sub place t
  unfolding spec.sized_type
  sized_type_parts place t = sym (token_behind (spec.type_name n sub t) spec.after_right_paren _)

  pub sized_parts : (place : Place) (t : List Lexeme) → spec.sized n sub place t ≡ openings.sized n sub place t
  sized_parts place [] = refl
  sized_parts place (at (k.Punct p.LeftParen) q ∷ t) = rw (sized_type_parts place t) refl
  sized_parts place _ = refl

  pub size_called_parts : (place : Place) (s : List Lexeme) → spec.size_called n sub place s ≡ openings.size_called n sub place s
  unfolding spec.size_called
  size_called_parts place s =
      bind_each (spec.after_left_paren s) _ _ (λ t.
      bind_each (sub 15 t) _ _ (λ x.
      bind_each (spec.after_comma x.rest) _ _ (λ u.
      sym (token_behind (sub 14 u) spec.after_right_paren _))
      ∙ sym (bind_bind (spec.after_comma x.rest) _ _))
      ∙ sym (bind_bind (sub 15 t) _ _))
      ∙ sym (bind_bind (spec.after_left_paren s) _ _)

  pub prefix_sizeof : (o : Token) (s t : List Lexeme) → s ≡ at (k.Word w.Sizeof) o ∷ t →
      spec.prefix n sub s ≡ openings.sized n sub o.place t
  unfolding spec.prefix
  prefix_sizeof o s t e = ap (spec.prefix n sub) e ∙ sized_parts o.place t

  pub prefix_size_call : (o : Token) (s t : List Lexeme) → s ≡ at (k.Word w.DynamicObjectSize) o ∷ t →
      spec.prefix n sub s ≡ openings.size_called n sub o.place t
  unfolding spec.prefix
  prefix_size_call o s t e = ap (spec.prefix n sub) e ∙ size_called_parts o.place t

  type_opens : (b : Bool) → (if b then false else true) ≡ false → b ≡ true
  type_opens true e = refl
  type_opens false e = cc

  pub prefix_type : (o : Token) (s t : List Lexeme) → s ≡ at (k.Punct p.LeftParen) o ∷ t → openings.opens_group s ≡ false →
      spec.prefix n sub s ≡ openings.converted n sub o.place t
  unfolding spec.prefix
  prefix_type o s t e plain =
      let begins = type_opens (spec.begins_spec t) (ap openings.opens_group (sym e) ∙ plain) in
      ap (spec.prefix n sub) e ∙ ap (λ b. spec.opened n sub (spec.prefix n sub t) b o.place t) begins ∙ converted_parts o.place t

  -- ---- How it goes on

  module _ (start : Place) (x : Expr) (h : ℕ) (r : List Lexeme) (place : Place) where
    -- with a tail that has been read
    abbrev behind : Operation × List Lexeme → Option LeftOperand
    behind y = Some (with_operation start x h y.0 place y.1)

    called_some : (t : List Lexeme) → spec.called_some n sub (found x h r) t
        ≡ ((tails.arguments_some n sub t >>= λ xs. Some (tail.Call (tall xs), xs.rest)) >>= behind)
    unfolding spec.called_some
    called_some t =
        sym (bind_bind (tails.arguments_some n sub t) _ behind ∙ token_behind (spec.exprs n sub (length t) t) spec.after_right_paren _)

    called_parts : (t : List Lexeme) → spec.called n sub (found x h r) t ≡ (tail_of n sub role.Call t >>= behind)
    called_parts [] = called_some []
    called_parts (at (k.Punct p.RightParen) o ∷ t) =
        let height : h ≡ max h 0 = omega arith in ap (λ j. Some (left 1 (expr (e.Call x []) x.place) (suc j) t)) height
    called_parts (c ∷ t) = called_some (c ∷ t)

    chosen : (b : Bool) (y : Operation × List Lexeme) → (if b then behind y else None) ≡ ((if b then Some y else None) >>= behind)
    chosen true y = refl
    chosen false y = refl

    by_parts : (as_role : Operator) (t : List Lexeme) →
        spec.next_by n sub start (found x h r) as_role place t ≡ (tail_of n sub as_role t >>= behind)
    unfolding spec.indexed spec.chosen spec.assigned_to spec.joined spec.listed
    by_parts role.Call t = called_parts t
    by_parts role.Index t = sym (bind_bind (tails.bracketed n sub t) _ behind ∙ token_behind (sub 16 t) spec.after_right_bracket _)
    by_parts (role.Member arrow) [] = refl
    by_parts (role.Member arrow) (at c q ∷ t) = chosen (is_tag c) (tail.Member arrow (text_of q) q.place, t)
    by_parts (role.Step b) t = refl
    by_parts role.Choice t =
        sym (bind_bind (tails.colon_ended n sub t) _ behind
        ∙ bind_each (tails.colon_ended n sub t) _ _ (λ y. bind_bind (sub 14 y.rest) _ behind)
        ∙ token_behind (sub 16 t) spec.after_colon _)
    by_parts (role.Assign b) t = sym (bind_bind (sub 15 t) _ behind)
    by_parts (role.Join b l) t = sym (bind_bind (sub l t) _ behind)
    by_parts role.List t = sym (bind_bind (spec.exprs n sub (length t) t) _ behind)
    by_parts role.Str t = refl
    by_parts role.End t = refl

    if_behind : (b : Bool) (o : Option (Operation × List Lexeme)) →
        (if b then (o >>= behind) else None) ≡ ((if b then o else None) >>= behind)
    if_behind true o = refl
    if_behind false o = refl

    none_behind : (b : Bool) → None ≡ ((if b then None else None) >>= behind)
    none_behind true = refl
    none_behind false = refl

    from_parts : (l : ℕ) (c : Terminal) (t : List Lexeme) →
        spec.next_from n sub start (left l x h r) c place t ≡ go_on n sub start l x h (spec.operator_of c) place t
    unfolding spec.next_from
    from_parts l c t =
        rw (by_parts (spec.operator_of c) t) (if_behind (nat_le l (spec.operator_takes (spec.operator_of c)))
        (tail_of n sub (spec.operator_of c) t))

  pub next_parts : (start : Place) (l : ℕ) (x : Expr) (h : ℕ) (s : List Lexeme) →
      spec.next_in n sub start (left l x h s) s ≡ go_on n sub start l x h (tails.next_operator s) (place_of s) (tails.behind_next s)
  next_parts start l x h [] = none_behind start x h [] (place_of []) (nat_le l 0)
  next_parts start l x h (at c o ∷ t) = from_parts start x h (at c o ∷ t) o.place l c t
