-- The steps of the loop over init declarators.
use Rattle.std.proofs.Common.{◌≡◌, ℕ, zero, suc, max, List, [], ◌∷◌, ◌++◌, Option, Some, None, Bool, true, false, length, refl, sym, ap, ◌∙◌, append_assoc, arith}
use Rattle.c_tokens.specs.declared.puncts.Punct.TheVariants as p
use Rattle.c_tree.specs.declared.nodes.Attribute.{Attribute}
use Rattle.c_tree.specs.declared.statements.Init.{Init}
use Rattle.c_tree.specs.declared.statements.InitDeclarator.{InitDeclarator}
use Rattle.parse_meaning.specs.declared.terminals.Terminal.TheVariants as k
use Rattle.parse_meaning.specs.Terminals.{Lexeme, at}
use Rattle.parse_meaning.specs.Expressions.{Declared}
use Rattle.parse_reading.specs.Reading.{Read, ◌>>=◌, found}
use Rattle.parse_reading.specs.ReadingDeclarators.{Named}
use Rattle.parse_reading.specs.ReadingStatements.{NamedInit, NamedInits, as_init, attribute_lists, initialised, init_behind, init_declarator, init_declarators, init_declarators_behind, with_init}
use Rattle.parse_lists.specs.Ends.{declarators_end_at}
use Rattle.parse_initialisers.specs.Readers.{init_some, init_at, init_declarator_from, init_declarators_from}

abbrev pub as_inits : List InitDeclarator → List Declared → NamedInits
as_inits ts ds = record { trees = ts; declared = ds }

-- init declarators that were read, and then those that a reader finds
abbrev pub gathered : List InitDeclarator → List Declared → ℕ → Option (Read NamedInits) → Option (Read NamedInits)
gathered ts ds h r = r >>= λ ys. Some (found (as_inits (ts ++ ys.tree.trees) (ds ++ ys.tree.declared)) (max h ys.height) ys.rest)

module _ (named : List Lexeme → Option (Read Named)) (init : List Lexeme → Option (Read Init)) (ts : List InitDeclarator)
    (ds : List Declared) (h : ℕ) where
  gathered-with : (y : Read NamedInit) (r : Option (Read NamedInits)) →
      gathered ts ds h (with_init named init y r) ≡ gathered (ts ++ y.tree.tree ∷ []) (ds ++ y.tree.declared ∷ []) (max h y.height) r
  gathered-with y None = refl
  gathered-with y (Some r) =
      let made : List InitDeclarator → List Declared → ℕ → Option (Read NamedInits) = λ a b m. Some (found (as_inits a b) m r.rest) in
      let heights : max h (max y.height r.height) ≡ max (max h y.height) r.height = omega arith in
      ap (λ a. made a (ds ++ y.tree.declared ∷ r.tree.declared) (max h (max y.height r.height)))
      (sym (append_assoc ts (y.tree.tree ∷ []) r.tree.trees))
      ∙ ap (λ b. made ((ts ++ y.tree.tree ∷ []) ++ r.tree.trees) b (max h (max y.height r.height)))
      (sym (append_assoc ds (y.tree.declared ∷ []) r.tree.declared))
      ∙ ap (made ((ts ++ y.tree.tree ∷ []) ++ r.tree.trees) ((ds ++ y.tree.declared ∷ []) ++ r.tree.declared)) heights

module _ (named : List Lexeme → Option (Read Named)) (init : List Lexeme → Option (Read Init)) where
  -- the list goes on behind an init declarator, or ends there
  ended_by : (List Lexeme → Option (Read NamedInits)) → Read NamedInit → Option (Bool × List Lexeme) → Option (Read NamedInits)
  ended_by later y None = None
  ended_by later y (Some (true, t)) = Some (found (as_inits (y.tree.tree ∷ []) (y.tree.declared ∷ [])) y.height t)
  ended_by later y (Some (false, t)) = with_init named init y (later t)

  behind_ends : (later : List Lexeme → Option (Read NamedInits)) (y : Read NamedInit) (s : List Lexeme) →
      init_declarators_behind named init later y s ≡ ended_by later y (declarators_end_at s)
  unfolding ended_by
  behind_ends later y [] = refl
  behind_ends later y (at (k.Punct p.Semicolon) o ∷ t) = refl
  behind_ends later y (at (k.Punct p.Comma) o ∷ t) = refl
  behind_ends later y (o ∷ t) = refl

  -- ---- A declarator that has been read

  abbrev completed : Named → ℕ → List (List Attribute) → Option (Read (Option Init)) → Option (Read NamedInit)
  completed x h xs r = r >>= λ y. Some (found (as_init x.tree xs y.tree x.declared) (max h y.height) y.rest)

  completed_some : (x : Read Named) (xs : List (List Attribute)) (r : Option (Read Init)) →
      (r >>= λ y. Some (found (as_init x.tree.tree xs (Some y.tree) x.tree.declared) (max x.height y.height) y.rest))
      ≡ completed x.tree x.height xs (r >>= λ y. Some (found (Some y.tree) y.height y.rest))
  completed_some x xs None = refl
  completed_some x xs (Some y) = refl

  completed_none : (x : Read Named) (xs : List (List Attribute)) (u : List Lexeme) →
      Some (found (as_init x.tree.tree xs None x.tree.declared) x.height u) ≡ completed x.tree x.height xs (Some (found None 0 u))
  completed_none x xs u =
      let made : ℕ → Option (Read NamedInit) = λ m. Some (found (as_init x.tree.tree xs None x.tree.declared) m u) in
      let height : x.height ≡ max x.height 0 = omega arith in
      ap made height

  init_completed : (x : Read Named) (xs : List (List Attribute)) (u : List Lexeme) →
      init_behind named init x xs u ≡ completed x.tree x.height xs (init_at init u)
  unfolding initialised init_some
  init_completed x xs [] = completed_none x xs []
  init_completed x xs (at (k.Punct p.Assign) o ∷ u) = completed_some x xs (init u)
  init_completed x xs (o ∷ u) = completed_none x xs (o ∷ u)

  from_declarator : (x : Read Named) → (attribute_lists (length x.rest) x.rest >>= λ xs. init_behind named init x xs.0 xs.1)
      ≡ init_declarator_from named init x.tree x.height x.rest
  unfolding init_declarator_from
  from_declarator x = go (attribute_lists (length x.rest) x.rest)
    where
      go : (r : Option (List (List Attribute) × List Lexeme)) →
          (r >>= λ xs. init_behind named init x xs.0 xs.1) ≡ (r >>= λ xs. completed x.tree x.height xs.0 (init_at init xs.1))
      go None = refl
      go (Some xs) = init_completed x xs.0 xs.1

  module _ (x : Named) (h : ℕ) (s : List Lexeme) where
    pub from_no_lists : attribute_lists (length s) s ≡ None → init_declarator_from named init x h s ≡ None
    unfolding init_declarator_from
    from_no_lists none = rw none refl

    module _ (xs : List (List Attribute)) (t : List Lexeme) where
      pub from_no_init : attribute_lists (length s) s ≡ Some (xs, t) → init_at init t ≡ None → init_declarator_from named init x h s ≡ None
      unfolding init_declarator_from
      from_no_init lists none = rw (lists, none) refl

      pub from_parts : (y : Read (Option Init)) → attribute_lists (length s) s ≡ Some (xs, t) → init_at init t ≡ Some y →
          init_declarator_from named init x h s ≡ Some (found (as_init x.tree xs y.tree x.declared) (max h y.height) y.rest)
      unfolding init_declarator_from
      from_parts y lists some = rw (lists, some) refl

  pub from_first : (n : ℕ) (s : List Lexeme) (x : Read Named) → named s ≡ Some x →
      init_declarators named init n s ≡ init_declarators_from named init n x.tree x.height x.rest
  unfolding init_declarators init_declarator init_declarators_from
  from_first zero s x e = refl
  from_first (suc n) s x e = rw (e, from_declarator x) refl

  pub no_first : (n : ℕ) (s : List Lexeme) → named s ≡ None → init_declarators named init n s ≡ None
  unfolding init_declarators init_declarator
  no_first zero s e = refl
  no_first (suc n) s e = rw e refl

  -- ---- One turn

  module _ (ts : List InitDeclarator) (ds : List Declared) (hs n : ℕ) (x : Named) (h : ℕ) (s : List Lexeme) where
    pub from_fail : init_declarator_from named init x h s ≡ None → gathered ts ds hs (init_declarators_from named init (suc n) x h s) ≡ None
    unfolding init_declarators_from
    from_fail none = rw none refl

    from_on : (y : Read NamedInit) → init_declarator_from named init x h s ≡ Some y →
        init_declarators_from named init (suc n) x h s ≡ ended_by (init_declarators named init n) y (declarators_end_at y.rest)
    unfolding init_declarators_from
    from_on y some = rw some (behind_ends (init_declarators named init n) y y.rest)

    pub from_no_end : (y : Read NamedInit) → init_declarator_from named init x h s ≡ Some y → declarators_end_at y.rest ≡ None →
        gathered ts ds hs (init_declarators_from named init (suc n) x h s) ≡ None
    unfolding ended_by
    from_no_end y some none = rw (from_on y some, none) refl

    pub from_end : (y : Read NamedInit) (t : List Lexeme) → init_declarator_from named init x h s ≡ Some y →
        declarators_end_at y.rest ≡ Some (true, t) →
        gathered ts ds hs (init_declarators_from named init (suc n) x h s)
        ≡ Some (found (as_inits (ts ++ y.tree.tree ∷ []) (ds ++ y.tree.declared ∷ [])) (max hs y.height) t)
    unfolding ended_by
    from_end y t some ends = rw (from_on y some, ends) refl

    from_more : (y : Read NamedInit) (t : List Lexeme) → init_declarator_from named init x h s ≡ Some y →
        declarators_end_at y.rest ≡ Some (false, t) →
        gathered ts ds hs (init_declarators_from named init (suc n) x h s)
        ≡ gathered (ts ++ y.tree.tree ∷ []) (ds ++ y.tree.declared ∷ []) (max hs y.height) (init_declarators named init n t)
    unfolding ended_by
    from_more y t some ends = rw (from_on y some, ends) (gathered-with named init ts ds hs y (init_declarators named init n t))

    pub from_no_next : (y : Read NamedInit) (t : List Lexeme) → init_declarator_from named init x h s ≡ Some y →
        declarators_end_at y.rest ≡ Some (false, t) → named t ≡ None →
        gathered ts ds hs (init_declarators_from named init (suc n) x h s) ≡ None
    from_no_next y t some ends none = from_more y t some ends ∙ rw (no_first n t none) refl

    pub from_go : (y : Read NamedInit) (t : List Lexeme) (z : Read Named) → init_declarator_from named init x h s ≡ Some y →
        declarators_end_at y.rest ≡ Some (false, t) → named t ≡ Some z →
        gathered ts ds hs (init_declarators_from named init (suc n) x h s)
        ≡ gathered (ts ++ y.tree.tree ∷ []) (ds ++ y.tree.declared ∷ []) (max hs y.height)
        (init_declarators_from named init n z.tree z.height z.rest)
    from_go y t z some ends next = from_more y t some ends ∙ rw (from_first n t z next) refl

  pub from_none : (ts : List InitDeclarator) (ds : List Declared) (hs : ℕ) (x : Named) (h : ℕ) (s : List Lexeme) →
      gathered ts ds hs (init_declarators_from named init 0 x h s) ≡ None
  unfolding init_declarators_from
  from_none ts ds hs x h s = refl
