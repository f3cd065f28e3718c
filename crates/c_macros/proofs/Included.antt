-- A search along the headers that were included.
use Rattle.std.proofs.Common.{◌≡◌, ℕ, ◌+◌, ◌<◌, Bool, true, false, List, ◌∷◌, length, get_or, drop, refl, ap, ◌∙◌, add-one, drop-cons}
use Rattle.std.specs.List.{list_any}
use Rattle.c_headers.specs.declared.headers.HeaderId.{HeaderId}

module _ (p : HeaderId → Bool) (list : List HeaderId) (i : ℕ) (d : HeaderId) (lt : i < length list) where
  header_dropped : drop i list ≡ get_or list i d ∷ drop (i + 1) list
  header_dropped = rw add-one (drop-cons list i d lt)

  pub header_here : p (get_or list i d) ≡ true → list_any p (drop i list) ≡ true
  header_here e = ap (list_any p) header_dropped ∙ rw e refl

  pub header_later : p (get_or list i d) ≡ false → list_any p (drop i list) ≡ list_any p (drop (i + 1) list)
  header_later e = ap (list_any p) header_dropped ∙ rw e refl
