-- A file derives exactly what is read.
use Rattle.std.proofs.Common.{◌≡◌, ℕ, zero, suc, ◌-◌, ◌<◌, ◌≤◌, List, [], ◌∷◌, ◌++◌, Option, Some, None, refl, sym, ap, subst, ◌∙◌, arith, length, drop, take, map, length-append}
use Rattle.std.specs.Prelude.{IfSome, Err}
use Rattle.std.proofs.lemmas.List.{length-map, drop-map, map-append, take-map, take-append-drop, length-drop}
use Rattle.std.proofs.Math.Seq.{drop-append_seam, take-append_seam}
use Rattle.c_tokens.specs.declared.tokens.Token.{Token}
use Rattle.c_tree.specs.declared.externals.External.{External}
use Rattle.c_tree.specs.Heights.{highest_tree}
use Rattle.parse_meaning.specs.Terminals.{lexeme}
use Rattle.parse_meaning.specs.File as f
use Rattle.parse_meaning.specs.File.{IsExternal, Begins, BeginsFirst, Declarations, behind, Declares, Derives, first_left_out, first_deep}
use Rattle.parse_reading.specs.Reading.{Read, found}
use Rattle.parse_reading.specs.ReadingFile.{NamedExternal, as_external, external, goes_on, file, highest_part}
use Rattle.parse_meaning.proofs.Alone.{alike_shorter}
use Rattle.parse_meaning.proofs.AloneStatements.{external_moves, alone, before_any}
use Rattle.parse_reading.proofs.Externals.{FoundExternal, external_sound, external_reads}

drop_before : {A : Type 0} (s v t : List A) → s ≡ v ++ t → drop (length s - length t) s ≡ t
drop_before s v t e =
    let many : length s - length t ≡ length v = omega (arith, ap length e, length-append v t) in
    rw many (rw e (drop-append_seam v t))

abbrev from_some : {A : Type 0} (P : A → Type 0) (o : Option A) (x : A) → o ≡ Some x → IfSome o P → P x
from_some {A} P o x e h = let Q : Option A → Type 0 = λ o. IfSome o P in subst Q e h

-- the rest of the tokens, by how many a reader left
abbrev left : List Token → Read NamedExternal → List Token
left s r = drop (length s - length r.rest) s

record Same (types : List (List ℕ)) (s : List Token) (x : External) (names : List (List ℕ)) (t : List Token) : Type 0 where
  height : ℕ
  read : external highest_part (map (lexeme types) s) ≡ Some (found (as_external x names) height (map (lexeme types) t))
  rest : drop (length s - length (map (lexeme types) t)) s ≡ t

derives_whole : (types names : List (List ℕ)) (s t : List Token) (x : External) (b : Begins types s x names t)
    → IsExternal (map (lexeme types) s) x names b.height (map (lexeme types) t)
derives_whole types names s t x b =
    let c = lexeme types in
    let mapped : map c s ≡ map c b.before ++ map c t = ap (map c) b.whole ∙ map-append c b.before t in
    rw mapped (before_any b.derives (map c t))

begins_read : (types names : List (List ℕ)) (s t : List Token) (x : External) → Begins types s x names t → Same types s x names t
begins_read types names s t x b = record {
  height = b.height;
  read = external_reads highest_part b.height _ _ x names (derives_whole types names s t x b) b.low;
  rest = rw length-map (drop_before s b.before t b.whole);
}

begins_behind : (types names : List (List ℕ)) (s t : List Token) (x : External) → Begins types s x names t → length t < length s
begins_behind types names s t x b =
    omega (
      arith,
      alike_shorter (external_moves (derives_whole types names s t x b) []).1,
      length-map s (lexeme types),
      length-map t (lexeme types),
    )

read_begins : (types : List (List ℕ)) (s : List Token) (r : Read NamedExternal) → external highest_part (map (lexeme types) s) ≡ Some r
    → Begins types s r.tree.tree r.tree.names (left s r) × (map (lexeme types) (left s r) ≡ r.rest) × (length (left s r) < length s)
read_begins types s r e =
    let c = lexeme types in
    let d : FoundExternal highest_tree (map c s) r = from_some _ _ r e (external_sound highest_part (map c s)) in
    let b = alike_shorter (external_moves d.derives []).1 in
    let v = alone d.derives in
    let dropped : drop (length (map c s) - length r.rest) (map c s) ≡ r.rest = drop_before _ v.0 r.rest v.1 in
    let same : map c (left s r) ≡ r.rest = sym (drop-map c _ s) ∙ (rw length-map at dropped) in
    let shorter : length r.rest < length s = omega (arith, b, length-map s c) in
    let many : length v.0 ≡ length s - length r.rest = omega (arith, ap length v.1, length-append v.0 r.rest, length-map s c) in
    let front : map c (take (length v.0) s) ≡ v.0 = sym (take-map c (length v.0) s)
    ∙ (ap (take (length v.0)) v.1 ∙ take-append_seam v.0 r.rest) in (
      record {
        before = take (length v.0) s;
        whole = sym (take-append-drop (length v.0) s) ∙ ap (λ n. take (length v.0) s ++ drop n s) many;
        height = r.height;
        low = d.low;
        derives = rw front v.2;
      },
      same,
      omega (arith, length-drop (length s - length r.rest) s),
    )

-- one beginning of a list is the only one
pub only : (types names others : List (List ℕ)) (s t u : List Token) (x y : External) → Begins types s x names t
    → Begins types s y others u →
    (as_external x names ≡ as_external y others) × (t ≡ u)
only types names others s t u x y b c =
    let v = begins_read types names s t x b in
    let q = begins_read types others s u y c in
    let e : found (as_external x names) v.height (map (lexeme types) t) ≡ found (as_external y others) q.height (map (lexeme types) u) =
    (let both : ◌≡◌ {A = Option (Read NamedExternal)} (Some (found (as_external x names) v.height (map (lexeme types) t)))
    (Some (found (as_external y others) q.height (map (lexeme types) u))) =
    sym v.read ∙ q.read in cc) in
    (ap (λ r. r.tree) e, sym v.rest ∙ ap (λ n. drop (length s - n) s) (ap (λ r. length r.rest) e) ∙ q.rest)

first : (types names : List (List ℕ)) (s t : List Token) (x : External) → Begins types s x names t → BeginsFirst types s x names t
first types names s t x b =
    record { begins = b; shortest = λ y others u c. let e = only types names others s t u x y b c in omega (arith, ap length e.1) }

file_declares_by : (m : ℕ) (types : List (List ℕ)) (o : Token) (s : List Token) → (r : Option (Read NamedExternal))
    → external highest_part (map (lexeme types) (o ∷ s)) ≡ r
    → ((types : List (List ℕ)) (t : List Token) → length t < length (o ∷ s) → Declares types t (file highest_part m types t))
    → Declares types (o ∷ s) (goes_on highest_part (file highest_part m) types o s r)
file_declares_by m types o s None e later =
    f.refused (λ x names t b. let v = begins_read types names (o ∷ s) t x b in
    let no : None ≡ Some (found (as_external x names) v.height (map (lexeme types) t)) = sym e ∙ v.read in cc)
file_declares_by m types o s (Some r) e later =
    let b = read_begins types (o ∷ s) r e in
    f.external (first types r.tree.names (o ∷ s) _ r.tree.tree b.0) (later (types ++ r.tree.names) (left (o ∷ s) r) b.2)

pub file_declares : (m : ℕ) (types : List (List ℕ)) (s : List Token) → length s ≤ m → Declares types s (file highest_part m types s)
unfolding file
file_declares m types [] room = f.end
file_declares zero types (o ∷ s) room = absurd (omega arith)
file_declares (suc m) types (o ∷ s) room =
    file_declares_by m types o s (external highest_part (map (lexeme types) (o ∷ s))) refl
    (λ types t shorter. file_declares m types t (omega arith))

-- what derives is what is read
file_refuses : (m : ℕ) (types : List (List ℕ)) (o : Token) (s : List Token) (r : Option (Read NamedExternal))
    → external highest_part (map (lexeme types) (o ∷ s)) ≡ r
    → ((x : External) (names : List (List ℕ)) (t : List Token) → Begins types (o ∷ s) x names t → ⊥)
    → goes_on highest_part (file highest_part m) types o s r ≡ Err o.place
file_refuses m types o s None e none = refl
file_refuses m types o s (Some r) e none = absurd (none r.tree.tree r.tree.names (left (o ∷ s) r) (read_begins types (o ∷ s) r e).0)

pub declares_file : (m : ℕ) (types : List (List ℕ)) (s : List Token) (out : Declarations) → Declares types s out → length s ≤ m
    → file highest_part m types s ≡ out
unfolding file
declares_file m types s out f.end room = refl
declares_file zero types s out (f.refused none) room = refl
declares_file (suc m) types s out (f.refused {o = o} {s = t} none) room = file_refuses m types o t _ refl none
declares_file m types [] out (f.external {names = names} b d) room = absurd (omega (arith, begins_behind types names [] _ _ b.begins))
declares_file zero types (o ∷ s) out (f.external b d) room = absurd (omega arith)
declares_file (suc m) types (o ∷ s) out (f.external {names = names} {t = t} {x = x} {out = later} b d) room =
    let v = begins_read types names (o ∷ s) t x b.begins in
    let shorter : length t < length (o ∷ s) = begins_behind types names (o ∷ s) t x b.begins in
    let goes : goes_on highest_part (file highest_part m) types o s (external highest_part (map (lexeme types) (o ∷ s)))
    ≡ behind x (file highest_part m (types ++ names) t) =
    ap (goes_on highest_part (file highest_part m) types o s) v.read ∙ ap (λ l. behind x (file highest_part m (types ++ names) l)) v.rest in
    goes ∙ ap (behind x) (declares_file m (types ++ names) t later d (omega arith))

-- A file derives one thing.
pub declares_once : (types : List (List ℕ)) (s : List Token) (a b : Declarations) → Declares types s a → Declares types s b → a ≡ b
declares_once types s a b d e =
    sym (declares_file (length s) types s a d (omega arith)) ∙ declares_file (length s) types s b e (omega arith)
