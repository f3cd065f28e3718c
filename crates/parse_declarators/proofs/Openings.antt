-- The steps of a loop into the parentheses of a declarator, and of a loop out of them.
use Rattle.std.proofs.Common.{◌≡◌, ℕ, zero, suc, ◌≤◌, List, [], ◌∷◌, ◌++◌, length, Option, Some, None, Bool, true, false, refl, sym, ap, ◌∙◌, arith}
use Rattle.std.proofs.lemmas.Bool.{false≢true}
use Rattle.std.specs.Prelude.{IfSome, IfOk, IfErr, Result, Ok, Err, ◌≢◌}
use Rattle.c_tokens.specs.declared.puncts.Punct.TheVariants as p
use Rattle.c_tokens.specs.declared.tokens.Token.{Token}
use Rattle.parse_meaning.specs.declared.terminals.Terminal.TheVariants as k
use Rattle.parse_meaning.specs.Terminals.{Lexeme, at, place_of}
use Rattle.parse_reading.specs.Reading.{Read, ◌>>=◌, after_right_paren, found, pointer_words, expression}
use Rattle.parse_reading.specs.ReadingDeclarators.{Named, grouped, first, direct, pointer_to, whole, declarator}
use Rattle.parse_reading.proofs.Basics.{weaken}
use Rattle.parse_declarators.specs.declared.declarators.Pointer.{Pointer}
use Rattle.parse_tokens.specs.declared.faults.ParseFault.{ParseFault}
use Rattle.parse_tokens.specs.declared.faults.ParseFault.TheVariants as fault
use Rattle.parse_tokens.specs.declared.faults.WithHeight.{WithHeight}
use Rattle.parse_declarators.specs.declared.named.Named.{Named as NamedTree}
use Rattle.parse_declarators.specs.declared.declarators.Opening.{Opening}
use Rattle.parse_declarators.specs.declared.declarators.Openings.{Openings}
use Rattle.parse_declarators.specs.Named.{as_read, GivesNamed, GivesOpenings}
use Rattle.parse_declarators.specs.Suffixes.{pointer_at, opening_at, left_paren_at, name_at, pointed, closed, inmost_at, in_parens, around}
use Rattle.parse_tokens.proofs.Binds.{bind_same, bind_bind}
use Rattle.parse_leaves.proofs.Misses.{nothing_found, some_same}
use Rattle.parse_declarators.proofs.Lengths.{first_shorter}
use Rattle.parse_declarators.proofs.Suffixes.{suffixes_alike}

pub paren_taken : (s t : List Lexeme) → after_right_paren s ≡ Some t → length s ≡ suc (length t)
paren_taken [] t e = absurd (nothing_found e)
paren_taken (at (k.Punct p.RightParen) o ∷ s) t e = ap (λ r. suc (length r)) (some_same e)
paren_taken (o ∷ s) t e = absurd (nothing_found e)

module _ (n : ℕ) where
  pub around_more : (openings : List Opening) (opening : Opening) (r : Option (Read Named)) →
      around (suc n) (expression n) (declarator n) (openings ++ opening ∷ []) r
      ≡ around (suc n) (expression n) (declarator n) openings (in_parens (suc n) (expression n) (declarator n) opening r)
  unfolding around
  around_more [] opening r = refl
  around_more (other ∷ openings) opening r = ap (in_parens (suc n) (expression n) (declarator n) other) (around_more openings opening r)

  pub around_none : (openings : List Opening) → around (suc n) (expression n) (declarator n) openings None ≡ None
  unfolding around
  around_none [] = refl
  around_none (opening ∷ openings) = ap (in_parens (suc n) (expression n) (declarator n) opening) (around_none openings)

  -- a direct declarator, with the pointer before it
  direct_closed : (m : ℕ) (pointer : Option Pointer) (s : List Lexeme) →
      (direct (suc n) (expression n) (declarator n) (whole (suc n) (expression n) (declarator n) m) s >>= λ x. Some (pointed pointer x))
      ≡ (first (suc n) (expression n) (declarator n) (whole (suc n) (expression n) (declarator n) m) s
      >>= closed (suc n) (expression n) (declarator n) (record { pointer = pointer; start = place_of s }))
  unfolding direct
  direct_closed m pointer s =
      bind_bind (first (suc n) (expression n) (declarator n) (whole (suc n) (expression n) (declarator n) m) s) _ _
      ∙ bind_same (first (suc n) (expression n) (declarator n) (whole (suc n) (expression n) (declarator n) m) s) _ _
      (weaken _ _ (first (suc n) (expression n) (declarator n) (whole (suc n) (expression n) (declarator n) m) s)
      (first_shorter n m s) (λ x f.
      ap (λ r. r >>= λ y. Some (pointed pointer y))
      (suffixes_alike n (place_of s) (length s) (length x.rest) x (omega (arith, f.shorter)) (omega arith))))

  made_same : {A : Type 0} (o : Option A) → o ≡ (o >>= λ x. Some x)
  made_same None = refl
  made_same (Some x) = refl

  pub whole_opens : (m : ℕ) (s : List Lexeme) →
      whole (suc n) (expression n) (declarator n) (suc m) s
      ≡ (first (suc n) (expression n) (declarator n) (whole (suc n) (expression n) (declarator n) m) (opening_at s).1
      >>= closed (suc n) (expression n) (declarator n) (opening_at s).0)
  unfolding whole pointer_to pointer_words
  whole_opens m [] = made_same _ ∙ direct_closed m None []
  whole_opens m (at (k.Punct p.Star) o ∷ t) =
      direct_closed m (pointer_at (at (k.Punct p.Star) o ∷ t)).0 (pointer_at (at (k.Punct p.Star) o ∷ t)).1
  whole_opens m (o ∷ t) = made_same _ ∙ direct_closed m None (o ∷ t)

  in_parens_grouped : (opening : Opening) (m : ℕ) (t : List Lexeme) →
      (grouped (suc n) (expression n) (declarator n) (whole (suc n) (expression n) (declarator n) m) t
      >>= closed (suc n) (expression n) (declarator n) opening)
      ≡ in_parens (suc n) (expression n) (declarator n) opening (whole (suc n) (expression n) (declarator n) m t)
  unfolding grouped
  in_parens_grouped opening m t =
      bind_bind (whole (suc n) (expression n) (declarator n) m t) _ _
      ∙ bind_same (whole (suc n) (expression n) (declarator n) m t) _ _ (each (whole (suc n) (expression n) (declarator n) m t))
    where
      each : (o : Option (Read Named)) → IfSome o (λ x.
          ((after_right_paren x.rest >>= λ u. Some (found x.tree x.height u)) >>= closed (suc n) (expression n) (declarator n) opening)
          ≡ (after_right_paren x.rest >>= λ u. closed (suc n) (expression n) (declarator n) opening (found x.tree x.height u)))
      each None = tt
      each (Some x) = bind_bind (after_right_paren x.rest) _ _

  -- what a loop into the parentheses keeps: the turns are no fewer than the tokens
  pub record Inside (read : Option (Read Named)) (openings : List Opening) (opening : Opening) (s : List Lexeme) : Type 0 where
    pub turns : ℕ
    pub enough : length s ≤ turns
    pub same : read ≡ around (suc n) (expression n) (declarator n) openings
        (first (suc n) (expression n) (declarator n) (whole (suc n) (expression n) (declarator n) turns) s
        >>= closed (suc n) (expression n) (declarator n) opening)

  pub inside_begins : (s t : List Lexeme) (opening : Opening) → opening_at s ≡ (opening, t) → length t ≤ length s →
      Inside (whole (suc n) (expression n) (declarator n) (suc (length s)) s) [] opening t
  unfolding around
  inside_begins s t opening e low = record {
    turns = length s;
    enough = low;
    same = whole_opens (length s) s
        ∙ ap (λ r. first (suc n) (expression n) (declarator n) (whole (suc n) (expression n) (declarator n) (length s)) r.1
        >>= closed (suc n) (expression n) (declarator n) r.0) e;
  }

  group_is : (s t : List Lexeme) → left_paren_at s ≡ (true, t) → (o : Token) × (s ≡ at (k.Punct p.LeftParen) o ∷ t)
  group_is [] t e = absurd (false≢true (ap (λ r. r.0) e))
  group_is (at (k.Punct p.LeftParen) o ∷ s) t e = (o, ap (λ r. at (k.Punct p.LeftParen) o ∷ r.1) e)
  group_is (o ∷ s) t e = absurd (false≢true (ap (λ r. r.0) e))

  pub inside_goes : (read : Option (Read Named)) (openings : List Opening) (opening next : Opening) (s t u : List Lexeme) (b : Bool) →
      left_paren_at s ≡ (b, t) → b ≡ true →
      opening_at t ≡ (next, u) → length u ≤ length t → Inside read openings opening s → Inside read (openings ++ opening ∷ []) next u
  inside_goes read openings opening next s t u b group taken_one opens low inside = further inside.turns inside.enough inside.same
    where
      is_group : (o : Token) × (s ≡ at (k.Punct p.LeftParen) o ∷ t)
      is_group = group_is s t (group ∙ ap (λ b. (b, t)) taken_one)

      taken : length s ≡ suc (length t)
      taken = ap length is_group.1

      further : (m : ℕ) → length s ≤ m →
          read ≡ around (suc n) (expression n) (declarator n) openings
          (first (suc n) (expression n) (declarator n) (whole (suc n) (expression n) (declarator n) m) s
          >>= closed (suc n) (expression n) (declarator n) opening) →
          Inside read (openings ++ opening ∷ []) next u
      further zero few same = absurd (omega (arith, taken))
      further (suc m) few same = record {
        turns = m;
        enough = omega (arith, taken);
        same = same
            ∙ ap (λ s. around (suc n) (expression n) (declarator n) openings
            (first (suc n) (expression n) (declarator n) (whole (suc n) (expression n) (declarator n) (suc m)) s
            >>= closed (suc n) (expression n) (declarator n) opening)) is_group.1
            ∙ ap (around (suc n) (expression n) (declarator n) openings) (in_parens_grouped opening (suc m) t
            ∙ ap (in_parens (suc n) (expression n) (declarator n) opening) (whole_opens m t
            ∙ ap (λ r. first (suc n) (expression n) (declarator n) (whole (suc n) (expression n) (declarator n) m) r.1
            >>= closed (suc n) (expression n) (declarator n) r.0) opens))
            ∙ sym (around_more openings opening _);
      }

  first_named : (inside : List Lexeme → Option (Read Named)) (s t : List Lexeme) → left_paren_at s ≡ (false, t) →
      first (suc n) (expression n) (declarator n) inside s ≡ name_at t
  first_named inside [] t e = ap (λ r. name_at r.1) e
  first_named inside (at (k.Punct p.LeftParen) o ∷ s) t e = absurd (false≢true (sym (ap (λ r. r.0) e)))
  first_named inside (at k.Name o ∷ s) t e = ap (λ r. name_at r.1) e
  first_named inside (o ∷ s) t e = ap (λ r. name_at r.1) e

  pub inside_named : (read : Option (Read Named)) (openings : List Opening) (opening : Opening) (s t : List Lexeme) (b : Bool) →
      left_paren_at s ≡ (b, t) → b ≡ false →
      Inside read openings opening s → read ≡ around (suc n) (expression n) (declarator n) openings
      (inmost_at (suc n) (expression n) (declarator n) opening t)
  inside_named read openings opening s t b group not_one inside =
      inside.same
      ∙ ap (λ r. around (suc n) (expression n) (declarator n) openings (r >>= closed (suc n) (expression n) (declarator n) opening))
      (first_named (whole (suc n) (expression n) (declarator n) inside.turns) s t (group ∙ ap (λ b. (b, t)) not_one))

  -- ---- The way out

  around_out : (openings before : List Opening) (opening : Opening) (r : Option (Read Named)) → openings ≡ before ++ opening ∷ [] →
      around (suc n) (expression n) (declarator n) openings r
      ≡ around (suc n) (expression n) (declarator n) before (in_parens (suc n) (expression n) (declarator n) opening r)
  around_out openings before opening r e = ap (λ os. around (suc n) (expression n) (declarator n) os r) e ∙ around_more before opening r

  pub around_goes : (openings before : List Opening) (opening : Opening) (x y : Read Named) → openings ≡ before ++ opening ∷ [] →
      in_parens (suc n) (expression n) (declarator n) opening (Some x) ≡ Some y →
      around (suc n) (expression n) (declarator n) openings (Some x) ≡ around (suc n) (expression n) (declarator n) before (Some y)
  around_goes openings before opening x y e some =
      around_out openings before opening (Some x) e ∙ ap (around (suc n) (expression n) (declarator n) before) some

  pub around_fails : (openings before : List Opening) (opening : Opening) (x : Read Named) → openings ≡ before ++ opening ∷ [] →
      in_parens (suc n) (expression n) (declarator n) opening (Some x) ≡ None →
      around (suc n) (expression n) (declarator n) openings (Some x) ≡ None
  around_fails openings before opening x e none =
      around_out openings before opening (Some x) e ∙ ap (around (suc n) (expression n) (declarator n) before) none ∙ around_none before

  pub around_over : (openings : List Opening) (x : Read Named) → openings ≡ [] →
      around (suc n) (expression n) (declarator n) openings (Some x) ≡ Some x
  unfolding around
  around_over openings x e = ap (λ os. around (suc n) (expression n) (declarator n) os (Some x)) e

  -- ---- Behind the inmost declarator

  module _ {read r : Option (Read Named)} (openings : List Opening)
      (opened : read ≡ around (suc n) (expression n) (declarator n) openings r) where
    pub inner_goes : (x : Read Named) → r ≡ Some x → read ≡ around (suc n) (expression n) (declarator n) openings (Some x)
    inner_goes x some = opened ∙ ap (around (suc n) (expression n) (declarator n) openings) some

    pub inner_fails : r ≡ None → read ≡ None
    inner_fails none = opened ∙ ap (around (suc n) (expression n) (declarator n) openings) none ∙ around_none openings

-- ---- The way in

pub openings_given : (s t u : List Lexeme) (outer : List Opening) (inmost : Opening) →
    ((n : ℕ) → whole (suc n) (expression n) (declarator n) (suc (length s)) s
    ≡ around (suc n) (expression n) (declarator n) outer (inmost_at (suc n) (expression n) (declarator n) inmost t)) →
    (name : Result (WithHeight NamedTree) ParseFault) (r : Result (Openings × WithHeight NamedTree) ParseFault) →
    GivesNamed (name_at t) name u →
    IfOk r (λ x. (x.0 ≡ record { outer = outer; inmost = inmost }) × (name ≡ Ok x.1)) → IfErr r (λ e. name ≡ Err e) → GivesOpenings s r u
openings_given s t u outer inmost named name (Ok x) reads ok err = λ n.
    let some : name_at t ≡ Some (as_read x.1 u) = rw ok.1 at reads in
    named n ∙ ap (λ r. around (suc n) (expression n) (declarator n) outer (r >>= closed (suc n) (expression n) (declarator n) inmost)) some
    ∙ sym (ap (λ o. around (suc n) (expression n) (declarator n) o.outer
    (closed (suc n) (expression n) (declarator n) o.inmost (as_read x.1 u))) ok.0)
openings_given s t u outer inmost named name (Err e) reads ok err = λ enough n.
    let fails : e ≢ fault.NoMemory → name_at t ≡ None = rw err at reads in
    named n ∙ ap (λ r. around (suc n) (expression n) (declarator n) outer (r >>= closed (suc n) (expression n) (declarator n) inmost))
    (fails enough) ∙ around_none n outer

pub none_read : {P : Type 0} (n : ℕ) (s : List Lexeme) →
    (P → (n : ℕ) → whole (suc n) (expression n) (declarator n) (suc (length s)) s ≡ None) → P →
    whole (suc n) (expression n) (declarator n) (suc (length s)) s ≡ None
none_read n s fails p = fails p n
