-- Names, each once, as the keys of a set.
use Rattle.std.proofs.Common.{◌≡◌, ℕ, ◌+◌, List, [], ◌∷◌, ◌++◌, map, Bool, true, false, cond, refl, sym, ap, ◌∙◌}
use Rattle.std.specs.Prelude.{Some, position, if◌then◌else◌, ◌||◌}
use Rattle.std.specs.List.{list_any, position_from}
use Rattle.std.specs.Str.{bytes_eq}
use Rattle.std.specs.Cmp.Lexicographic.{nat_list_eq_equiv}
use Rattle.std.proofs.lemmas.Iterator.Adapters.{position_from-zero}
use Rattle.std.proofs.lemmas.List.{map-append}
use Rattle.indexmap.specs.IndexSet.{insert_key}
use Rattle.elab_scope.specs.Functions.{with_name}

module _ {K : Type 0} (bytes : K → List ℕ) where
  is_there : (key : K) (keys : List K) →
      list_any (λ other. bytes_eq (bytes key) (bytes other)) keys ≡ list_any (λ other. bytes_eq other (bytes key)) (map bytes keys)
  is_there key [] = refl
  is_there key (k ∷ keys) =
      ap (λ b. b || list_any (λ other. bytes_eq (bytes key) (bytes other)) keys) (nat_list_eq_equiv.symm (bytes key) (bytes k))
      ∙ ap (λ b. bytes_eq (bytes k) (bytes key) || b) (is_there key keys)

  chosen : (b : Bool) (keys : List K) (key : K) →
      map bytes (if b then keys else keys ++ key ∷ []) ≡ (if b then map bytes keys else map bytes keys ++ bytes key ∷ [])
  chosen true keys key = refl
  chosen false keys key = map-append bytes keys (key ∷ [])

  pub named_once : (keys : List K) (key : K) → map bytes (insert_key (λ a b. bytes_eq (bytes a) (bytes b)) keys key) ≡ with_name (bytes key) (map bytes keys)
  named_once keys key =
      chosen (list_any (λ other. bytes_eq (bytes key) (bytes other)) keys) keys key
      ∙ ap (λ b. if b then map bytes keys else map bytes keys ++ bytes key ∷ []) (is_there key keys)

  first_from : (k : ℕ) (name : List ℕ) (keys : List K) →
      position_from (λ key. bytes_eq name (bytes key)) k keys ≡ position_from (λ other. bytes_eq other name) k (map bytes keys)
  first_from k name [] = refl
  first_from k name (key ∷ keys) =
      ap (λ b. cond b (Some k) (position_from (λ key. bytes_eq name (bytes key)) (k + 1) keys)) (nat_list_eq_equiv.symm name (bytes key))
      ∙ ap (λ r. cond (bytes_eq (bytes key) name) (Some k) r) (first_from (k + 1) name keys)

  pub first_of : (name : List ℕ) (keys : List K) → position (λ key. bytes_eq name (bytes key)) keys ≡ position (λ other. bytes_eq other name) (map bytes keys)
  first_of name keys =
      position_from-zero (λ key. bytes_eq name (bytes key)) keys ∙ first_from 0 name keys
      ∙ sym (position_from-zero (λ other. bytes_eq other name) (map bytes keys))
