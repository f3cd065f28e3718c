-- The next of the cells that are read, as tests of them go.
use Rattle.std.proofs.Common.{◌≡◌, ℕ, suc, ◌+◌, ◌-◌, ◌<◌, Bool, ◌&&◌, ◌||◌, List, length, take, drop, get_or, sym, ap, ◌∙◌, arith}
use Rattle.std.specs.List.{list_any, list_all}
use Rattle.object_meaning.specs.Cells.{is_part, are_parts}
use Rattle.object_meaning.specs.declared.values.Cell.{Cell}
use Rattle.object_meaning.specs.declared.values.Cell.TheVariants.{Uninit}
use Rattle.object_meaning.specs.declared.values.Ptr.{Ptr}
use Rattle.src_values.proofs.Spots.{take_next}

module _ (cells : List Cell) (at n : ℕ) (c : Cell) (some : 0 < n) (there : at < length cells) (is : c ≡ get_or cells at Uninit) where
  pub any_next : (p : Cell → Bool) → list_any p (take n (drop at cells)) ≡ (p c || list_any p (take (n - 1) (drop (at + 1) cells)))
  any_next p = ap (list_any p) (take_next cells at n some there) ∙ ap (λ x. p x || list_any p (take (n - 1) (drop (at + 1) cells))) (sym is)

  pub all_next : (p : Cell → Bool) → list_all p (take n (drop at cells)) ≡ (p c && list_all p (take (n - 1) (drop (at + 1) cells)))
  all_next p = ap (list_all p) (take_next cells at n some there) ∙ ap (λ x. p x && list_all p (take (n - 1) (drop (at + 1) cells))) (sym is)

  pub parts_next : (p : Ptr) (k : ℕ) → are_parts p k (take n (drop at cells))
      ≡ (is_part p k c && are_parts p (k + 1) (take (n - 1) (drop (at + 1) cells)))
  parts_next p k =
      let next : suc k ≡ k + 1 = omega arith in
      ap (are_parts p k) (take_next cells at n some there)
      ∙ ap (λ x. is_part p k x && are_parts p (suc k) (take (n - 1) (drop (at + 1) cells))) (sym is)
      ∙ ap (λ j. is_part p k c && are_parts p j (take (n - 1) (drop (at + 1) cells))) next
