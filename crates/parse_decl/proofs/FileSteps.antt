-- The steps of the loop over external declarations.
use Rattle.std.proofs.Common.{◌≡◌, ℕ, zero, suc, ◌-◌, List, [], ◌∷◌, ◌++◌, Option, Some, None, length, take, drop, map, refl, sym, ap, ◌∙◌, subst, append-nil, append_assoc, arith, length-drop}
use Rattle.std.specs.Prelude.{Result, Ok, Err}
use Rattle.std.specs.Result.{IsErrAnd}
use Rattle.std.proofs.Math.Seq.{take-length}
use Rattle.fc_base.specs.Answers.{Fails, Answers}
use Rattle.fc_base.specs.declared.refusals.Fault.{Fault}
use Rattle.fc_base.specs.declared.refusals.Fault.TheVariants as fault
use Rattle.fc_base.specs.declared.refusals.Refusal.{Refusal}
use Rattle.fc_base.specs.declared.rules.Rule.{Rule}
use Rattle.fc_base.specs.declared.rules.Rule.TheVariants as rule
use Rattle.c_tokens.specs.declared.tokens.Token.{Token}
use Rattle.c_tree.specs.declared.externals.External.{External}
use Rattle.c_tree.specs.declared.externals.FileTree.{FileTree}
use Rattle.parse_meaning.specs.Terminals.{lexeme}
use Rattle.parse_meaning.specs.File as f
use Rattle.parse_meaning.specs.File.{Declarations, behind, Declares, Derives, first_left_out, first_deep}
use Rattle.parse_reading.specs.Reading.{Read}
use Rattle.parse_reading.specs.ReadingFile.{NamedExternal, external, goes_on, file, highest_part}
use Rattle.parse_reading.proofs.Files.{file_declares}
use Rattle.parse_decl.specs.IsRead.{IsRead}
use Rattle.parse_tokens.proofs.Names.{SameNames, lexemes_alike, append_same}

abbrev pub behind_all : List External → Declarations → Declarations
behind_all xs (Ok ys) = Ok (xs ++ ys)
behind_all xs (Err place) = Err place

behind_one : (xs : List External) (x : External) (r : Declarations) → behind_all xs (behind x r) ≡ behind_all (xs ++ x ∷ []) r
behind_one xs x (Ok ys) = let made : List External → Declarations = λ l. Ok l in ap made (sym (append_assoc xs (x ∷ []) ys))
behind_one xs x (Err place) = refl

-- which names are those of types is all that matters
pub file_alike : (n m : ℕ) (a b : List (List ℕ)) (s : List Token) → SameNames a b → file n m a s ≡ file n m b s
unfolding file
file_alike n m a b [] e = refl
file_alike n zero a b (o ∷ s) e = refl
file_alike n (suc m) a b (o ∷ s) e =
    ap (goes_on n (file n m) a o s) (ap (external n) (lexemes_alike a b (o ∷ s) e))
    ∙ go (external n (map (lexeme b) (o ∷ s))) (λ r.
    file_alike n m (a ++ r.tree.names) (b ++ r.tree.names) (drop (length (o ∷ s) - length r.rest) (o ∷ s))
    (append_same a b r.tree.names e))
  where
    go : (r : Option (Read NamedExternal))
        → ((r : Read NamedExternal) → file n m (a ++ r.tree.names) (drop (length (o ∷ s) - length r.rest) (o ∷ s))
        ≡ file n m (b ++ r.tree.names) (drop (length (o ∷ s) - length r.rest) (o ∷ s)))
        → goes_on n (file n m) a o s r ≡ goes_on n (file n m) b o s r
    go None later = refl
    go (Some r) later = ap (behind r.tree.tree) (later r)

module _ (n : ℕ) (xs : List External) (types : List (List ℕ)) (s : List Token) where
  pub file_end : (m : ℕ) → s ≡ [] → behind_all xs (file n m types s) ≡ Ok xs
  unfolding file
  file_end m e = let made : List External → Declarations = λ l. Ok l in rw e (ap made (append-nil xs))

  module _ (o : Token) (t : List Token) where
    pub file_refused : (m : ℕ) → s ≡ o ∷ t → external n (map (lexeme types) s) ≡ None → behind_all xs (file n (suc m) types s) ≡ Err o.place
    unfolding file
    file_refused m e none =
        let here : external n (map (lexeme types) (o ∷ t)) ≡ None = ap (λ l. external n (map (lexeme types) l)) (sym e) ∙ none in
        ap (λ l. behind_all xs (file n (suc m) types l)) e ∙ ap (λ r. behind_all xs (goes_on n (file n m) types o t r)) here

    pub file_goes : (m : ℕ) (r : Read NamedExternal) → s ≡ o ∷ t → external n (map (lexeme types) s) ≡ Some r →
        behind_all xs (file n (suc m) types s) ≡ behind_all (xs ++ r.tree.tree ∷ [])
        (file n m (types ++ r.tree.names) (drop (length s - length r.rest) s))
    unfolding file
    file_goes m r e found =
        let here : external n (map (lexeme types) (o ∷ t)) ≡ Some r = ap (λ l. external n (map (lexeme types) l)) (sym e) ∙ found in
        ap (λ l. behind_all xs (file n (suc m) types l)) e ∙ ap (λ r. behind_all xs (goes_on n (file n m) types o t r)) here
        ∙ behind_one xs r.tree.tree (file n m (types ++ r.tree.names) (drop (length (o ∷ t) - length r.rest) (o ∷ t)))
        ∙ ap (λ l. behind_all (xs ++ r.tree.tree ∷ []) (file n m (types ++ r.tree.names) (drop (length l - length r.rest) l))) (sym e)

    pub file_over : s ≡ o ∷ t → behind_all xs (file n zero types s) ≡ Err o.place
    unfolding file
    file_over e = rw e refl

pub take_behind : {A : Type 0} (xs : List A) (n m : ℕ) → n ≡ m → take (length xs - n) (drop n xs) ≡ drop m xs
take_behind xs n m same =
    let many : length xs - n ≡ length (drop n xs) = omega (arith, length-drop n xs) in
    rw many (take-length (drop n xs)) ∙ ap (λ n. drop n xs) same

-- ---- What a file derives, by what is read

declares_read : (s : List Token) (out : Declarations) → file highest_part (length s) [] s ≡ out → Declares [] s out
declares_read s out e = subst (Declares [] s) e (file_declares (length s) [] s (omega arith))

pub derives_refused : (s : List Token) (r : Refusal) → first_left_out s ≡ None → first_deep 0 s ≡ None → r.rule ≡ rule.Syntax →
    file highest_part (length s) [] s ≡ Err r.place →
    Derives s (Err r)
derives_refused s r kept low is read =
    let made : Rule → Refusal = λ w. record { rule = w; place = r.place } in
    let P : Refusal → Type 0 = λ q. Derives s (Err q) in
    subst P (ap made (sym is)) (f.refused_syntax kept low (declares_read s (Err r.place) read))

pub derives_read : (s : List Token) (xs : List External) → first_left_out s ≡ None → first_deep 0 s ≡ None →
    file highest_part (length s) [] s ≡ Ok xs →
    Derives s (Ok (record { externals = xs }))
derives_read s xs kept low read = f.derived kept low (declares_read s (Ok xs) read)

err_read : (s : List Token) (e : Fault) → first_left_out s ≡ None → first_deep 0 s ≡ None →
    IsRead (file highest_part (length s) [] s) (Err e) → Fails e (Derives s)
err_read s fault.NoMemory kept low read = tt
err_read s (fault.Refused r) kept low read = derives_refused s r kept low read.0 read.1

pub err_derives : (s : List Token) (r : Result FileTree Fault) (e : Fault) → first_left_out s ≡ None → first_deep 0 s ≡ None →
    IsErrAnd r (λ f. e ≡ f) →
    IsRead (file highest_part (length s) [] s) (Err e) → Answers (λ tree. tree) r (Derives s)
err_derives s (Ok x) e kept low same read = absurd same
err_derives s (Err f) e kept low same read =
    let P : Fault → Type 0 = λ f. Fails f (Derives s) in
    subst P same (err_read s e kept low read)
