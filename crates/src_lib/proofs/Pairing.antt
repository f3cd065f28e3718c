-- Two lists of cells that are compared.
use Rattle.std.proofs.Common.{◌≡◌, ℕ, ◌+◌, ◌<◌, ◌≤◌, Bool, true, false, not, ◌&&◌, eqb, List, ◌∷◌, length, get_or, drop, Result, Ok, Err, refl, ap, ◌∙◌}
use Rattle.std.specs.Prelude.{if◌then◌else◌}
use Rattle.std.proofs.lemmas.List.{drop_all, drop_more}
use Rattle.fc_base.specs.declared.undefined.UndefKind.{UndefKind}
use Rattle.fc_base.specs.declared.undefined.UndefKind.TheVariants as kind
use Rattle.library_meaning.specs.Scan as scans
use Rattle.library_meaning.specs.Scan.{and_then, scan_both}
use Rattle.object_meaning.specs.Cells.{byte_at}
use Rattle.object_meaning.specs.declared.values.Cell.{Cell}
use Rattle.object_meaning.specs.declared.values.Cell.TheVariants.{Byte, Uninit, Part}
use Rattle.src_lib.specs.Pairs.{goes_on, pair_at, pairs_of}
use Rattle.src_lib.specs.declared.pairs.Pair.{Pair}

abbrev pub compared : List Cell → List Cell → Result scans.Pair UndefKind
compared xs ys = scan_both byte_at kind.OutOfObject xs ys

-- what two bytes come to
choice : (a b : ℕ) (rest : Result scans.Pair UndefKind) (same ends : Bool)
    → (if same then (if ends then Ok (record { left = a; right = b }) else rest) else Ok (record { left = a; right = b }))
    ≡ (if same && not ends then rest else Ok (record { left = a; right = b }))
choice a b rest true true = refl
choice a b rest true false = refl
choice a b rest false ends = refl

-- two cells and then others
both_next : (x y : Cell) (xs ys : List Cell)
    → compared (x ∷ xs) (y ∷ ys) ≡ and_then (pair_at x y) (λ p. if goes_on p then compared xs ys else pairs_of (Ok p))
both_next (Byte a) (Byte b) xs ys = choice a b (compared xs ys) (eqb a b) (eqb a 0)
both_next (Byte a) Uninit xs ys = refl
both_next (Byte a) (Part p k) xs ys = refl
both_next Uninit y xs ys = refl
both_next (Part p k) y xs ys = refl

-- at a place of both
module _ (xs ys : List Cell) (k : ℕ) where
  at_both : k < length xs → k < length ys → compared (drop k xs) (drop k ys)
      ≡ and_then (pair_at (get_or xs k Uninit) (get_or ys k Uninit))
      (λ p. if goes_on p then compared (drop (k + 1) xs) (drop (k + 1) ys) else pairs_of (Ok p))
  at_both l m = ap (λ zs. compared zs (drop k ys)) (drop_more xs k Uninit l)
      ∙ ap (compared (get_or xs k Uninit ∷ drop (k + 1) xs)) (drop_more ys k Uninit m)
      ∙ both_next (get_or xs k Uninit) (get_or ys k Uninit) (drop (k + 1) xs) (drop (k + 1) ys)

  pub pairs_go : (p : Pair) → k < length xs → k < length ys → pair_at (get_or xs k Uninit) (get_or ys k Uninit) ≡ Ok p → goes_on p ≡ true
      → compared (drop k xs) (drop k ys) ≡ compared (drop (k + 1) xs) (drop (k + 1) ys)
  pairs_go p l m e g = at_both l m
      ∙ ap (λ r. and_then r (λ q. if goes_on q then compared (drop (k + 1) xs) (drop (k + 1) ys) else pairs_of (Ok q))) e
      ∙ ap (λ b. if b then compared (drop (k + 1) xs) (drop (k + 1) ys) else pairs_of (Ok p)) g

  pub pairs_stop : (p : Pair) → k < length xs → k < length ys → pair_at (get_or xs k Uninit) (get_or ys k Uninit) ≡ Ok p → goes_on p ≡ false
      → compared (drop k xs) (drop k ys) ≡ pairs_of (Ok p)
  pairs_stop p l m e g = at_both l m
      ∙ ap (λ r. and_then r (λ q. if goes_on q then compared (drop (k + 1) xs) (drop (k + 1) ys) else pairs_of (Ok q))) e
      ∙ ap (λ b. if b then compared (drop (k + 1) xs) (drop (k + 1) ys) else pairs_of (Ok p)) g

  pub pairs_fail : (why : UndefKind) → k < length xs → k < length ys → pair_at (get_or xs k Uninit) (get_or ys k Uninit) ≡ Err why
      → compared (drop k xs) (drop k ys) ≡ Err why
  pairs_fail why l m e = at_both l m
      ∙ ap (λ r. and_then r (λ q. if goes_on q then compared (drop (k + 1) xs) (drop (k + 1) ys) else pairs_of (Ok q))) e

  -- where one has ended
  pub left_ends : length xs ≤ k → compared (drop k xs) (drop k ys) ≡ Err kind.OutOfObject
  left_ends l = ap (λ zs. compared zs (drop k ys)) (drop_all k xs l)

  pub right_ends : k < length xs → length ys ≤ k
      → compared (drop k xs) (drop k ys) ≡ and_then (byte_at (get_or xs k Uninit)) (λ a. Err kind.OutOfObject)
  right_ends l m = ap (λ zs. compared zs (drop k ys)) (drop_more xs k Uninit l)
      ∙ ap (compared (get_or xs k Uninit ∷ drop (k + 1) xs)) (drop_all k ys m)
