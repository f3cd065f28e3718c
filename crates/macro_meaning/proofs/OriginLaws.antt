-- Where the tokens of an expanded list come from.
use Rattle.std.proofs.Common.{◌≡◌, ℕ, zero, suc, ◌<◌, false, List, [], ◌∷◌, map, Some, Result, Ok, Err, refl, arith}
use Rattle.std.specs.List.{All, AllByRecursion, Contains}
use Rattle.std.proofs.lemmas.List.Elements.{All-nil, All-cons, All-head, All-tail, All-map, All-weaker, All-contains_itself, All-from_recursion}
use Rattle.std.specs.Result.{IfOk}
use Rattle.fc_base.specs.declared.Fault.{Fault}
use Rattle.fc_base.specs.declared.Level.{Level}
use Rattle.fc_base.specs.declared.Level.TheVariants.{Zero, Three}
use Rattle.c_headers.specs.declared.headers.HeaderId.{HeaderId}
use Rattle.c_headers.specs.declared.headers.MacroValue.{MacroValue}
use Rattle.c_headers.specs.declared.headers.MacroValue.TheVariants as value
use Rattle.c_headers.specs.Headers.{MacroName, header_row}
use Rattle.c_tokens.specs.declared.TokenKind.{TokenKind}
use Rattle.c_tokens.specs.declared.TokenKind.TheVariants as kind
use Rattle.c_tokens.specs.declared.Token.{Token}
use Rattle.c_tokens.specs.Pieces.{IsLexedKind}
use Rattle.fc_base.specs.Answers.{Answers}
use Rattle.macro_meaning.specs.Macros.{Name, Item, BodyPart, plain, parameter, Meaning, Macros, no_macros}
use Rattle.macro_meaning.specs.Definitions.{number_token, value_tokens, header_macro, header_macros, fortify_source}
use Rattle.macro_meaning.specs.Replacement.{Expands}
use Rattle.macro_meaning.specs.Moves.{start}
use Rattle.macro_meaning.specs.Expansion.{IsExpanded}
use Rattle.macro_meaning.specs.Origins.{kinds, item_kinds, ReplacedFrom, of_list, of_macro, ExpandedFrom, of_source, of_header, of_level, inclusion}
use Rattle.macro_meaning.proofs.ItemOrigins.{ItemHolds, BodyPartHolds, MacrosHold, expanded_hold}
use Rattle.macro_meaning.proofs.ListOrigins.{with_macro_holds, moved_holds}

unmapped : {X Y : Type 0} (P : Y → Type 0) (f : X → Y) (xs : List X) → All P (map f xs) → All (λ x. P (f x)) xs
unmapped P f [] h = All-nil (λ x. P (f x))
unmapped P f (x ∷ xs) h = All-cons (λ x. P (f x)) x xs (All-head P (f x) (map f xs) h) (unmapped P f xs (All-tail P (f x) (map f xs) h))

-- ---- replacement

module _ (ms : Macros) (ts : List Item) where
  piece_from : (name : Name) (m : Meaning) → ms name ≡ Some m → (p : BodyPart) → Contains m.body p → BodyPartHolds (ReplacedFrom ms ts) p
  piece_from name m e (plain k spaced) c = of_macro name m e (spaced, c)
  piece_from name m e (parameter n) c = tt

  from_macros : MacrosHold (ReplacedFrom ms ts) ms
  from_macros name m e = All-weaker (Contains m.body) (BodyPartHolds (ReplacedFrom ms ts)) (piece_from name m e) m.body
      (All-contains_itself m.body)

  from_list : All (ItemHolds (ReplacedFrom ms ts)) ts
  from_list = unmapped (ReplacedFrom ms ts) (λ t. t.kind) ts
      (All-weaker (Contains (item_kinds ts)) (ReplacedFrom ms ts) (λ k c. of_list c) (item_kinds ts) (All-contains_itself (item_kinds ts)))

  pub replaced : (depth count : ℕ) (xs : List Item) (count' : ℕ) → Expands ms depth count ts (Ok (xs, count'))
      → All (ReplacedFrom ms ts) (item_kinds xs)
  replaced depth count xs count' x = All-map (ReplacedFrom ms ts) (λ t. t.kind) xs
      (expanded_hold (ReplacedFrom ms ts) ms from_macros x from_list)

-- ---- whole lists

module _ (P : TokenKind → Type 0) (level : Level) (of_level : All (BodyPartHolds P) (fortify_source level).1.body) where
  none_hold : MacrosHold P no_macros
  none_hold name m e = cc

  at_start : (of_headers : (h : HeaderId) → All (λ (d : Name × Meaning). All (BodyPartHolds P) d.1.body) (header_macros h))
      (of_inclusions : (h : HeaderId) → P (kind.Header h)) → MacrosHold P (start level).macros
  at_start of_headers of_inclusions = with_macro_holds P of_headers of_inclusions (fortify_source level).0
      (Some (fortify_source level).1) no_macros of_level none_hold

  whole_list : (of_headers : (h : HeaderId) → All (λ (d : Name × Meaning). All (BodyPartHolds P) d.1.body) (header_macros h))
      (of_inclusions : (h : HeaderId) → P (kind.Header h)) (ts out : List Token)
      → IsExpanded level ts (Ok out) → All (λ t. P t.kind) ts → All (λ t. P t.kind) out
  whole_list of_headers of_inclusions ts out x h = moved_holds P of_headers of_inclusions x (at_start of_headers of_inclusions) h

module _ (level : Level) (ts : List Token) where
  header_piece : (h : HeaderId) (d : Name × Meaning) → Contains (header_macros h) d → (p : BodyPart) → Contains d.1.body p
      → BodyPartHolds (ExpandedFrom level ts) p
  header_piece h d c (plain k spaced) b = of_header h d c (spaced, b)
  header_piece h d c (parameter n) b = tt

  macro_from_header : (h : HeaderId) (d : Name × Meaning) → Contains (header_macros h) d
      → All (BodyPartHolds (ExpandedFrom level ts)) d.1.body
  macro_from_header h d c = All-weaker (Contains d.1.body) (BodyPartHolds (ExpandedFrom level ts)) (header_piece h d c) d.1.body
      (All-contains_itself d.1.body)

  from_headers : (h : HeaderId) → All (λ (d : Name × Meaning). All (BodyPartHolds (ExpandedFrom level ts)) d.1.body) (header_macros h)
  from_headers h = All-weaker (Contains (header_macros h)) (λ (d : Name × Meaning). All (BodyPartHolds (ExpandedFrom level ts)) d.1.body)
      (macro_from_header h) (header_macros h) (All-contains_itself (header_macros h))

  level_piece : (p : BodyPart) → Contains (fortify_source level).1.body p → BodyPartHolds (ExpandedFrom level ts) p
  level_piece (plain k spaced) b = of_level (spaced, b)
  level_piece (parameter n) b = tt

  from_level : All (BodyPartHolds (ExpandedFrom level ts)) (fortify_source level).1.body
  from_level = All-weaker (Contains (fortify_source level).1.body) (BodyPartHolds (ExpandedFrom level ts)) level_piece
      (fortify_source level).1.body (All-contains_itself (fortify_source level).1.body)

  from_source : All (λ t. ExpandedFrom level ts t.kind) ts
  from_source = unmapped (ExpandedFrom level ts) (λ t. t.kind) ts
      (All-weaker (Contains (kinds ts)) (ExpandedFrom level ts) (λ k c. of_source c) (kinds ts) (All-contains_itself (kinds ts)))

  pub expanded : (out : List Token) → IsExpanded level ts (Ok out) → All (ExpandedFrom level ts) (kinds out)
  expanded out x =
      All-map (ExpandedFrom level ts) (λ t. t.kind) out
      (whole_list (ExpandedFrom level ts) level from_level from_headers (λ h. inclusion h) ts out x from_source)

-- ---- spellings

abbrev Lexed : List BodyPart → Type 0
Lexed = All (BodyPartHolds IsLexedKind)

lexed : (body : List BodyPart) → AllByRecursion (BodyPartHolds IsLexedKind) body → Lexed body
lexed body h = All-from_recursion (BodyPartHolds IsLexedKind) body h

abbrev IsLexedMacro : Name × Meaning → Type 0
IsLexedMacro d = Lexed d.1.body

abbrev LexedMacros : List (Name × Meaning) → Type 0
LexedMacros = All IsLexedMacro

digit : (n : ℕ) → n < 4 → IsLexedKind (number_token n)
digit zero lt = (omega arith, omega arith, λ h. cc)
digit (suc n) lt = (omega arith, omega arith, λ h. omega arith)

lexed_number : (n : ℕ) → n < 4 → Lexed (plain (number_token n) false ∷ [])
lexed_number n lt = lexed (plain (number_token n) false ∷ []) (digit n lt, tt)

lexed_value : (v : MacroValue) → Lexed (value_tokens v)
lexed_value value.NullPointer = lexed (value_tokens value.NullPointer) (tt, (tt, (refl, (tt, (tt, (digit 0 (omega arith), (tt, tt)))))))
lexed_value value.MinusOne = lexed (value_tokens value.MinusOne) (tt, (tt, (digit 1 (omega arith), (tt, tt))))
lexed_value value.Zero = lexed_number 0 (omega arith)
lexed_value value.One = lexed_number 1 (omega arith)
lexed_value value.Two = lexed_number 2 (omega arith)

lexed_macros : (ms : List MacroName) → LexedMacros (map header_macro ms)
lexed_macros ms = All-map IsLexedMacro header_macro ms
    (All-weaker (Contains ms) (λ m. IsLexedMacro (header_macro m)) (λ m c. lexed_value m.value) ms (All-contains_itself ms))

lexed_headers : (h : HeaderId) → LexedMacros (header_macros h)
lexed_headers h = lexed_macros (header_row h).macros

lexed_level : (level : Level) → Lexed (fortify_source level).1.body
lexed_level Zero = lexed_number 0 (omega arith)
lexed_level Three = lexed_number 3 (omega arith)

abbrev CanBeSpelled : List Token → Type 0
CanBeSpelled = All (λ t. IsLexedKind t.kind)

pub spelled : (level : Level) (ts out : List Token) → IsExpanded level ts (Ok out) → CanBeSpelled ts → CanBeSpelled out
spelled level ts out x h = whole_list IsLexedKind level (lexed_level level) lexed_headers (λ h. tt) ts out x h

-- each token that a function gives can be spelled
pub spelled_answer : {X : Type 0} (level : Level) (ts : List Token) (see : X → List Token) (r : Result X Fault)
    → Answers see r (IsExpanded level ts) → CanBeSpelled ts → IfOk r (λ x. CanBeSpelled (see x))
spelled_answer level ts see (Ok x) is h = spelled level ts (see x) is h
spelled_answer level ts see (Err f) is h = tt
