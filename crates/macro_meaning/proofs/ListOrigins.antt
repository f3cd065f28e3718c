-- What holds of each kind in a source, in the macros that no line defines and of inclusions holds of each kind that the source expands to.
use Rattle.std.proofs.Common.{◌≡◌, ℕ, Bool, true, false, if◌then◌else◌, List, [], ◌∷◌, map, Option, Some, None, option_map, Ok, Err, refl}
use Rattle.std.specs.Prelude.{option_and_then, find}
use Rattle.std.specs.List.{All, prefix_len, list_any, position}
use Rattle.std.proofs.lemmas.List.Elements.{All-nil, All-cons, All-head, All-tail, All-append, All-map, All-take, All-drop, All-weaker}
use Rattle.fc_base.specs.declared.Place.{Place}
use Rattle.c_headers.specs.declared.headers.HeaderId.{HeaderId}
use Rattle.c_tokens.specs.declared.TokenKind.{TokenKind}
use Rattle.c_tokens.specs.declared.TokenKind.TheVariants as kind
use Rattle.c_tokens.specs.declared.Token.{Token}
use Rattle.macro_meaning.specs.declared.words.Group.{Group}
use Rattle.macro_meaning.specs.declared.words.GroupState.TheVariants.{Taken, Over}
use Rattle.macro_meaning.specs.declared.words.Word.{Word}
use Rattle.macro_meaning.specs.declared.words.Word.TheVariants as word
use Rattle.macro_meaning.specs.Macros.{Name, same_name, Item, item, items, token, Meaning, Macros, with_macro, closes, is_comma}
use Rattle.macro_meaning.specs.Sameness.{same_header, same_meaning}
use Rattle.macro_meaning.specs.Definitions.{Parameters, with_parameter, behind_name, some_parameters, parameters_of, are_distinct, distinct, Definition, with_parameters, opens_at_once, defined_as, definition, macro_name, name_of, numbered, named_part, body_part, meaning, is_operator, header_macros}
use Rattle.macro_meaning.specs.Lines.{Part, part_of, nothing, text, directive, text_or_directive, is_directive, in_text, in_line, rest_of, directive_word}
use Rattle.macro_meaning.specs.Moves.{State, Next, refuses, goes, Move, over, moves, expands, decides, decided, move, on_part, on_directive, by_word, taken_directive, skipped_directive, known_or_new, with_definition, with_definitions, defines, on_define, only_name, on_undef, only_header, header_token, includes, on_include, with_groups, on_ifdef, on_ifndef, on_elif, on_else, on_endif, at_end, takes, waits}
use Rattle.macro_meaning.specs.Expansion as whole
use Rattle.macro_meaning.specs.Expansion.{Expanded, behind, Comes, Moved, Follows}
use Rattle.macro_meaning.proofs.ItemOrigins.{ItemHolds, BodyPartHolds, MacrosHold, expanded_hold}

module _ (P : TokenKind → Type 0)
    (of_headers : (h : HeaderId) → All (λ (d : Name × Meaning). All (BodyPartHolds P) d.1.body) (header_macros h))
    (of_inclusions : (h : HeaderId) → P (kind.Header h)) where
  abbrev TokenHolds : Token → Type 0
  TokenHolds t = P t.kind

  abbrev MeaningHolds : Meaning → Type 0
  MeaningHolds m = All (BodyPartHolds P) m.body

  abbrev pub Holds : Expanded → Type 0
  Holds (Ok ts) = All TokenHolds ts
  Holds (Err e) = Unit {0}

  abbrev NextHolds : Next → Type 0
  NextHolds (refuses e) = Unit {0}
  NextHolds (goes st xs) = MacrosHold P st.macros × All TokenHolds xs

  abbrev MoveHolds : Move → Type 0
  MoveHolds over = Unit {0}
  MoveHolds (moves n) = NextHolds n
  MoveHolds (expands now) = All TokenHolds now
  MoveHolds (decides place line g gs) = All TokenHolds line

  next_if : (v : Bool) (a b : Next) → NextHolds a → NextHolds b → NextHolds (if v then a else b)
  next_if true a b f g = f
  next_if false a b f g = g

  move_if : (v : Bool) (a b : Move) → MoveHolds a → MoveHolds b → MoveHolds (if v then a else b)
  move_if true a b f g = f
  move_if false a b f g = g

  -- ---- definitions

  abbrev ParametersHold : Option Parameters → Type 0
  ParametersHold None = Unit {0}
  ParametersHold (Some p) = All TokenHolds p.rest

  named_hold : (o : Option Name) (f : Name → Option Parameters) → ((name : Name) → ParametersHold (f name))
      → ParametersHold (option_and_then f o)
  named_hold None f h = tt
  named_hold (Some name) f h = h name

  more_hold : (name : Name) (o : Option Parameters) → ParametersHold o → ParametersHold (with_parameter name o)
  more_hold name None h = tt
  more_hold name (Some p) h = h

  parameters_either : (v : Bool) (a b : Option Parameters) → ParametersHold a → ParametersHold b → ParametersHold (if v then a else b)
  parameters_either true a b f g = f
  parameters_either false a b f g = g

  behind_name_holds : (name : Name) (k : TokenKind) (ts : List Token) (more : Option Parameters) → All TokenHolds ts → ParametersHold more
      → ParametersHold (behind_name name k ts more)
  behind_name_holds name k ts more h m =
      parameters_either (closes k) (Some (record { names = name ∷ []; rest = ts }))
      (if is_comma k then with_parameter name more else None) h
      (parameters_either (is_comma k) (with_parameter name more) None (more_hold name more m) tt)

  some_hold : (ts : List Token) → All TokenHolds ts → ParametersHold (some_parameters ts)
  unfolding some_parameters
  some_hold [] h = tt
  some_hold (t ∷ []) h = tt
  some_hold (t ∷ u ∷ us) h =
      let rest : All TokenHolds us = All-tail TokenHolds u us (All-tail TokenHolds t (u ∷ us) h) in
      named_hold (name_of t.kind)
      (λ name. behind_name name u.kind us (some_parameters us))
      (λ name. behind_name_holds name u.kind us (some_parameters us) rest (some_hold us rest))

  parameters_hold : (ts : List Token) → All TokenHolds ts → ParametersHold (parameters_of ts)
  parameters_hold [] h = tt
  parameters_hold (t ∷ ts) h =
      parameters_either (closes t.kind) (Some (record { names = []; rest = ts })) (some_parameters (t ∷ ts)) (All-tail TokenHolds t ts h)
      (some_hold (t ∷ ts) h)

  parameters_if : (v : Bool) (o : Option Parameters) → ParametersHold o → ParametersHold (if v then o else None)
  parameters_if true o h = h
  parameters_if false o h = tt

  distinct_hold : (o : Option Parameters) → ParametersHold o → ParametersHold (distinct o)
  distinct_hold None h = tt
  distinct_hold (Some p) h = parameters_if (are_distinct p.names) (Some p) h

  abbrev DefinitionHolds : Option Definition → Type 0
  DefinitionHolds None = Unit {0}
  DefinitionHolds (Some d) = All TokenHolds d.body

  with_parameters_hold : (name : Name) (o : Option Parameters) → ParametersHold o → DefinitionHolds (option_map (with_parameters name) o)
  with_parameters_hold name None h = tt
  with_parameters_hold name (Some p) h = h

  definition_if : (v : Bool) (a b : Option Definition) → DefinitionHolds a → DefinitionHolds b → DefinitionHolds (if v then a else b)
  definition_if true a b f g = f
  definition_if false a b f g = g

  defined_as_holds : (name : Name) (ts : List Token) → All TokenHolds ts → DefinitionHolds (defined_as name ts)
  defined_as_holds name [] h = h
  defined_as_holds name (t ∷ ts) h =
      definition_if (opens_at_once t) (option_map (with_parameters name) (distinct (parameters_of ts)))
      (Some (record { name = name; parameters = None; body = t ∷ ts }))
      (with_parameters_hold name (distinct (parameters_of ts))
      (distinct_hold (parameters_of ts) (parameters_hold ts (All-tail TokenHolds t ts h)))) h

  of_name : (o : Option Name) (f : Name → Option Definition) → ((name : Name) → DefinitionHolds (f name))
      → DefinitionHolds (option_and_then f o)
  of_name None f h = tt
  of_name (Some name) f h = h name

  definition_holds : (ts : List Token) → All TokenHolds ts → DefinitionHolds (definition ts)
  definition_holds [] h = tt
  definition_holds (t ∷ ts) h = of_name (macro_name t.kind) (λ name. defined_as name ts)
      (λ name. defined_as_holds name ts (All-tail TokenHolds t ts h))

  numbered_holds : (k : TokenKind) (spaced : Bool) (o : Option ℕ) → P k → BodyPartHolds P (numbered k spaced o)
  numbered_holds k spaced None p = p
  numbered_holds k spaced (Some n) p = tt

  named_part_holds : (names : List Name) (k : TokenKind) (spaced : Bool) → P k → BodyPartHolds P (named_part names k spaced)
  named_part_holds names (kind.Name name) spaced p = numbered_holds (kind.Name name) spaced (position (same_name name) names) p
  named_part_holds names (kind.Number v n) spaced p = p
  named_part_holds names (kind.CharConst b) spaced p = p
  named_part_holds names (kind.Str bytes) spaced p = p
  named_part_holds names (kind.Punct q) spaced p = p
  named_part_holds names (kind.HeaderName name) spaced p = p
  named_part_holds names (kind.Header h) spaced p = p

  body_part_holds : (o : Option (List Name)) (t : Token) → P t.kind → BodyPartHolds P (body_part o t)
  body_part_holds None t p = p
  body_part_holds (Some names) t p = named_part_holds names t.kind t.spaced p

  meaning_holds : (o : Option (List Name)) (body : List Token) → All TokenHolds body → MeaningHolds (meaning o body)
  meaning_holds o body h = All-map (BodyPartHolds P) (body_part o) body
      (All-weaker TokenHolds (λ t. BodyPartHolds P (body_part o t)) (body_part_holds o) body h)

  -- ---- macros

  abbrev OptionHolds : Option Meaning → Type 0
  OptionHolds None = Unit {0}
  OptionHolds (Some m) = MeaningHolds m

  told : (o : Option Meaning) (m : Meaning) → OptionHolds o → o ≡ Some m → MeaningHolds m
  told None m h e = cc
  told (Some n) m h e = let same : n ≡ m = cc in rw (← same) h

  pub with_macro_holds : (name : Name) (o : Option Meaning) (ms : Macros) → OptionHolds o → MacrosHold P ms
      → MacrosHold P (with_macro name o ms)
  with_macro_holds name o ms h k other m e = by (same_name name other) e
    where
      by : (v : Bool) → (if v then o else ms other) ≡ Some m → MeaningHolds m
      by true e = told o m h e
      by false e = k other m e

  abbrev OptionsHold : Option Macros → Type 0
  OptionsHold None = Unit {0}
  OptionsHold (Some ms) = MacrosHold P ms

  options_if : (v : Bool) (o : Option Macros) → OptionsHold o → OptionsHold (if v then o else None)
  options_if true o h = h
  options_if false o h = tt

  known_or_new_holds : (ms : Macros) (name : Name) (m : Meaning) (o : Option Meaning) → MacrosHold P ms → MeaningHolds m
      → OptionsHold (known_or_new ms name m o)
  known_or_new_holds ms name m None h k = with_macro_holds name (Some m) ms k h
  known_or_new_holds ms name m (Some old) h k = options_if (same_meaning old m) (Some ms) h

  then_hold : (ds : List (Name × Meaning)) (o : Option Macros) → OptionsHold o
      → ((ms : Macros) → MacrosHold P ms → OptionsHold (with_definitions ds ms)) → OptionsHold (option_and_then (with_definitions ds) o)
  then_hold ds None h f = tt
  then_hold ds (Some ms) h f = f ms h

  with_definitions_hold : (ds : List (Name × Meaning)) (ms : Macros) → All (λ d. MeaningHolds d.1) ds → MacrosHold P ms
      → OptionsHold (with_definitions ds ms)
  with_definitions_hold [] ms k h = h
  with_definitions_hold (d ∷ ds) ms k h =
      then_hold ds (with_definition d.0 d.1 ms) (known_or_new_holds ms d.0 d.1 (ms d.0) h (All-head (λ d. MeaningHolds d.1) d ds k))
      (λ ns. with_definitions_hold ds ns (All-tail (λ d. MeaningHolds d.1) d ds k))

  -- ---- directives

  defines_holds : (st : State) (place : Place) (o : Option Macros) (operator : Option Token) → OptionsHold o
      → NextHolds (defines st place o operator)
  defines_holds st place None operator h = tt
  defines_holds st place (Some ms) (Some t) h = tt
  defines_holds st place (Some ms) None h = (h, All-nil TokenHolds)

  on_define_holds : (st : State) (place : Place) (o : Option Definition) → MacrosHold P st.macros → DefinitionHolds o
      → NextHolds (on_define st place o)
  on_define_holds st place None h d = tt
  on_define_holds st place (Some d) h k =
      let m = meaning d.parameters d.body in
      defines_holds st place (with_definition d.name m st.macros) (find (λ t. is_operator t.kind) d.body)
      (known_or_new_holds st.macros d.name m (st.macros d.name) h (meaning_holds d.parameters d.body k))

  on_undef_holds : (st : State) (place : Place) (o : Option Name) → MacrosHold P st.macros → NextHolds (on_undef st place o)
  on_undef_holds st place None h = tt
  on_undef_holds st place (Some name) h = (with_macro_holds name None st.macros tt h, All-nil TokenHolds)

  includes_holds : (st : State) (hash : Token) (h : HeaderId) (o : Option Macros) → OptionsHold o → NextHolds (includes st hash h o)
  includes_holds st hash h None k = tt
  includes_holds st hash h (Some ms) k = (k, All-cons TokenHolds (header_token hash h) [] (of_inclusions h) (All-nil TokenHolds))

  on_include_holds : (st : State) (hash : Token) (o : Option HeaderId) → MacrosHold P st.macros → NextHolds (on_include st hash o)
  on_include_holds st hash None k = tt
  on_include_holds st hash (Some h) k =
      next_if (list_any (same_header h) st.headers) (goes st []) (includes st hash h (with_definitions (header_macros h) st.macros))
      (k, All-nil TokenHolds)
      (includes_holds st hash h (with_definitions (header_macros h) st.macros)
      (with_definitions_hold (header_macros h) st.macros (of_headers h) k))

  decided_holds : (st : State) (place : Place) (g : Group) (gs : List Group) (d : Option Bool) → MacrosHold P st.macros
      → NextHolds (decided st place g gs d)
  decided_holds st place g gs None h = tt
  decided_holds st place g gs (Some holds) h = (h, All-nil TokenHolds)

  on_ifdef_holds : (st : State) (place : Place) (o : Option Name) → MacrosHold P st.macros → NextHolds (on_ifdef st place o)
  on_ifdef_holds st place None h = tt
  on_ifdef_holds st place (Some name) h = (h, All-nil TokenHolds)

  on_ifndef_holds : (st : State) (place : Place) (o : Option Name) → MacrosHold P st.macros → NextHolds (on_ifndef st place o)
  on_ifndef_holds st place None h = tt
  on_ifndef_holds st place (Some name) h = (h, All-nil TokenHolds)

  on_elif_holds : (st : State) (place : Place) (line : List Token) (gs : List Group) → MacrosHold P st.macros → All TokenHolds line
      → MoveHolds (on_elif st place line gs)
  on_elif_holds st place line [] h k = tt
  on_elif_holds st place line (g ∷ gs) h k =
      move_if g.had_else (moves (refuses _))
      (if waits g.state then decides place line g gs else moves (with_groups st (record g { state = Over } ∷ gs))) tt
      (move_if (waits g.state) (decides place line g gs) (moves (with_groups st (record g { state = Over } ∷ gs))) k
      (h, All-nil TokenHolds))

  on_else_holds : (st : State) (place : Place) (gs : List Group) → MacrosHold P st.macros → NextHolds (on_else st place gs)
  on_else_holds st place [] h = tt
  on_else_holds st place (g ∷ gs) h =
      next_if g.had_else (refuses _) (with_groups st (record g { state = if waits g.state then Taken else Over; had_else = true } ∷ gs)) tt
      (h, All-nil TokenHolds)

  on_endif_holds : (st : State) (place : Place) (gs : List Group) → MacrosHold P st.macros → NextHolds (on_endif st place gs)
  on_endif_holds st place [] h = tt
  on_endif_holds st place (g ∷ gs) h = (h, All-nil TokenHolds)

  taken_holds : (st : State) (hash : Token) (line : List Token) (w : Word) → MacrosHold P st.macros → All TokenHolds line
      → MoveHolds (taken_directive st hash line w)
  taken_holds st hash line word.If h k = k
  taken_holds st hash line word.Ifdef h k = on_ifdef_holds st hash.place (only_name line) h
  taken_holds st hash line word.Ifndef h k = on_ifndef_holds st hash.place (only_name line) h
  taken_holds st hash line word.Include h k = on_include_holds st hash (only_header line) h
  taken_holds st hash line word.Define h k = on_define_holds st hash.place (definition line) h (definition_holds line k)
  taken_holds st hash line word.Undef h k = on_undef_holds st hash.place (only_name line) h
  taken_holds st hash line word.Elif h k = tt
  taken_holds st hash line word.Else h k = tt
  taken_holds st hash line word.Endif h k = tt
  taken_holds st hash line word.Unknown h k = tt

  skipped_holds : (st : State) (hash : Token) (w : Word) → MacrosHold P st.macros → MoveHolds (skipped_directive st hash w)
  skipped_holds st hash word.If h = (h, All-nil TokenHolds)
  skipped_holds st hash word.Ifdef h = (h, All-nil TokenHolds)
  skipped_holds st hash word.Ifndef h = (h, All-nil TokenHolds)
  skipped_holds st hash word.Elif h = (h, All-nil TokenHolds)
  skipped_holds st hash word.Else h = (h, All-nil TokenHolds)
  skipped_holds st hash word.Endif h = (h, All-nil TokenHolds)
  skipped_holds st hash word.Include h = (h, All-nil TokenHolds)
  skipped_holds st hash word.Define h = (h, All-nil TokenHolds)
  skipped_holds st hash word.Undef h = (h, All-nil TokenHolds)
  skipped_holds st hash word.Unknown h = (h, All-nil TokenHolds)

  module _ (st : State) (hash : Token) (line : List Token) (h : MacrosHold P st.macros) (k : All TokenHolds line) where
    plain_word : (w : Word) → MoveHolds (if takes st.groups then taken_directive st hash line w else skipped_directive st hash w)
    plain_word w = move_if (takes st.groups) (taken_directive st hash line w) (skipped_directive st hash w) (taken_holds st hash line w h k)
        (skipped_holds st hash w h)

    word_holds : (w : Word) → MoveHolds (by_word st hash line w)
    word_holds word.Elif = on_elif_holds st hash.place line st.groups h k
    word_holds word.Else = on_else_holds st hash.place st.groups h
    word_holds word.Endif = on_endif_holds st hash.place st.groups h
    word_holds word.If = plain_word word.If
    word_holds word.Ifdef = plain_word word.Ifdef
    word_holds word.Ifndef = plain_word word.Ifndef
    word_holds word.Include = plain_word word.Include
    word_holds word.Define = plain_word word.Define
    word_holds word.Undef = plain_word word.Undef
    word_holds word.Unknown = plain_word word.Unknown

  directive_holds : (st : State) (hash : Token) (line : List Token) → MacrosHold P st.macros → All TokenHolds line
      → MoveHolds (on_directive st hash line)
  directive_holds st hash [] h k = (h, All-nil TokenHolds)
  directive_holds st hash (t ∷ ts) h k = word_holds st hash ts h (All-tail TokenHolds t ts k) (directive_word t.kind)

  end_holds : (gs : List Group) → MoveHolds (at_end gs)
  end_holds [] = tt
  end_holds (g ∷ gs) = tt

  abbrev PartHolds : Part → Type 0
  PartHolds nothing = Unit {0}
  PartHolds (text now rest) = All TokenHolds now × All TokenHolds rest
  PartHolds (directive hash line rest) = All TokenHolds line × All TokenHolds rest

  begun_holds : (v : Bool) (t : Token) (ts : List Token) → All TokenHolds (t ∷ ts) → PartHolds (text_or_directive v t ts)
  begun_holds true t ts h =
      let rest : All TokenHolds ts = All-tail TokenHolds t ts h in
      (All-take TokenHolds (prefix_len in_line ts) ts rest, All-drop TokenHolds (prefix_len in_line ts) ts rest)
  begun_holds false t ts h =
      (All-take TokenHolds (prefix_len in_text (t ∷ ts)) (t ∷ ts) h, All-drop TokenHolds (prefix_len in_text (t ∷ ts)) (t ∷ ts) h)

  part_holds : (ts : List Token) → All TokenHolds ts → PartHolds (part_of ts)
  unfolding part_of
  part_holds [] h = tt
  part_holds (t ∷ ts) h = begun_holds (is_directive t) t ts h

  rest_holds : (f : Part) → PartHolds f → All TokenHolds (rest_of f)
  rest_holds nothing h = All-nil TokenHolds
  rest_holds (text now rest) h = h.1
  rest_holds (directive hash line rest) h = h.1

  tokens_hold : (xs : List Item) → All (ItemHolds P) xs → All TokenHolds (map token xs)
  tokens_hold xs h = All-map TokenHolds token xs h

  on_part_holds : (st : State) (f : Part) → MacrosHold P st.macros → PartHolds f → MoveHolds (on_part st f)
  on_part_holds st nothing h k = end_holds st.groups
  on_part_holds st (text now rest) h k =
      move_if (takes st.groups) (expands now) (moves (goes st [])) k.0 (h, All-nil TokenHolds)
  on_part_holds st (directive hash line rest) h k = directive_holds st hash line h k.0

  move_holds : (st : State) (ts : List Token) (m : Move) → move st ts ≡ m → MacrosHold P st.macros → All TokenHolds ts → MoveHolds m
  move_holds st ts m e h k = rw (← e) (on_part_holds st (part_of ts) h (part_holds ts k))

  -- ---- lists

  behind_holds : (xs : List Token) (out : Expanded) → All TokenHolds xs → Holds out → Holds (behind xs out)
  behind_holds xs (Ok ts) h k = All-append TokenHolds xs ts h k
  behind_holds xs (Err e) h k = tt

  items_hold : (ts : List Token) → All TokenHolds ts → All (ItemHolds P) (items ts)
  items_hold ts h = All-map (ItemHolds P) item ts h

  comes_holds : {st : State} {count c : ℕ} {m : Move} {n : Next} → Comes st count m n c → MacrosHold P st.macros → MoveHolds m → NextHolds n
  comes_holds whole.at_once h k = k
  comes_holds {st = st} (whole.text {now = now} {xs = xs} x) h k = (h, tokens_hold xs (expanded_hold P st.macros h x (items_hold now k)))
  comes_holds (whole.refused_text x) h k = tt
  comes_holds {st = st} (whole.condition {place = place} {g = g} {gs = gs} {d = d} a x q) h k = decided_holds st place g gs d h
  comes_holds (whole.refused_condition a x) h k = tt
  comes_holds (whole.unanswered none) h k = tt

  mutual
    pub moved_holds : {st : State} {count : ℕ} {ts : List Token} {out : Expanded} → Moved st count ts out → MacrosHold P st.macros
        → All TokenHolds ts → Holds out
    moved_holds (whole.ends e) h k = All-nil TokenHolds
    moved_holds {st = st} {ts = ts} (whole.moved x f) h k =
        follows_holds f (comes_holds x h (move_holds st ts (move st ts) refl h k)) (rest_holds (part_of ts) (part_holds ts k))

    follows_holds : {n : Next} {count : ℕ} {rest : List Token} {out : Expanded} → Follows n count rest out → NextHolds n
        → All TokenHolds rest → Holds out
    follows_holds whole.stops h k = tt
    follows_holds (whole.goes_on {xs = xs} {out = out} r) h k = behind_holds xs out h.1 (moved_holds r h.0 k)
