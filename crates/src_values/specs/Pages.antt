-- Objects in pages of n numbers each, as one list.
use Rattle.std.specs.Prelude.{◌≡◌, ℕ, ◌-◌, ◌≤◌, Bool, ◌&&◌, nat_lt, List, [], ◌∷◌, ◌++◌, length, get_or, replicate, ⊤}
use Rattle.object_meaning.specs.Objects.{Object, ended}

-- a page that others follow: what isn't kept of it has ended
abbrev pub page_of : ℕ → List Object → List Object
page_of n p = p ++ replicate (n - length p) ended

abbrev pub in_pages : ℕ → List (List Object) → List Object
in_pages n [] = []
in_pages n (p ∷ []) = p
in_pages n (p ∷ q ∷ ps) = page_of n p ++ in_pages n (q ∷ ps)

-- no page has more
abbrev pub AreFilled : ℕ → List (List Object) → Type 0
AreFilled n [] = ⊤
AreFilled n (p ∷ ps) = (length p ≤ n) × AreFilled n ps

abbrev pub last_page : List (List Object) → List Object
last_page pages = get_or pages (length pages - 1) []

-- whether there is a last page with a number left
abbrev pub has_room : ℕ → List (List Object) → Bool
has_room n pages = nat_lt 0 (length pages) && nat_lt (length (last_page pages)) n

-- one more object is in the pages
pub record IsPushed (old new : List (List Object)) (object : Object) : Type 0 where
  pub filled : AreFilled 512 new
  pub is : in_pages 512 new ≡ in_pages 512 old ++ object ∷ []
