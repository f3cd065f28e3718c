-- Objects found by number, in pages of 512.
use Rattle.std.proofs.Common.{◌≡◌, ℕ, zero, suc, ◌+◌, ◌-◌, ◌*◌, ◌/◌, ◌%◌, ◌<◌, ◌≤◌, Bool, true, false, ◌&&◌, List, [], ◌∷◌, ◌++◌, length, map, get_or, set, refl, sym, ap, ◌∙◌, subst, arith, ⊎_elim, length-append}
use Rattle.std.specs.Prelude.{nat_lt}
use Rattle.std.proofs.lemmas.Bool.{cases_lt, le-ltb, lt-ltb}
use Rattle.std.proofs.lemmas.List.{length-set, get_or_past, set-get_or}
use Rattle.object_meaning.specs.Objects.{Object, ended, object_at, is_live, size_at, with_cells, fill}
use Rattle.object_meaning.specs.declared.values.Cell.TheVariants.{Byte}
use Rattle.object_meaning.proofs.Validity.{live_there}
use Rattle.src_values.specs.Pages.{in_pages, AreFilled, last_page, has_room, IsPushed}
use Rattle.src_values.specs.Table.{IsTable}
use Rattle.src_values.specs.declared.table.Objects.TheInside.{Inside}
use Rattle.src_values.proofs.Paging.{found_in, changed_in, filled_set, filled_at, filled_push, pushed_last, pushed_page}
use Rattle.src_values.proofs.Spots.{get_or_any}

pub by_number : (pages : List (List Object)) (number : ℕ) → AreFilled 512 pages
    → get_or (in_pages 512 pages) number ended ≡ get_or (get_or pages (number / 512) []) (number % 512) ended
by_number pages number f =
    let split : number ≡ number / 512 * 512 + number % 512 = omega arith in
    let small : number % 512 < 512 = omega arith in
    ap (λ k. get_or (in_pages 512 pages) k ended) split ∙ found_in 512 pages (number / 512) (number % 512) f small

-- where a live object stands
pub record Stands (pages : List (List Object)) (number : ℕ) : Type 0 where
  pub page : number / 512 < length pages
  pub place : number % 512 < length (get_or pages (number / 512) [])

page_there : (pages : List (List Object)) (q r : ℕ) → (get_or (get_or pages q []) r ended).alive ≡ true → q < length pages
page_there [] q r l = absurd (cc)
page_there (p ∷ pages) zero r l = omega arith
page_there (p ∷ pages) (suc q) r l = let there = page_there pages q r l in omega (arith, there)

pub stands : (pages : List (List Object)) (number : ℕ) → AreFilled 512 pages → is_live (in_pages 512 pages) number ≡ true
    → Stands pages number
stands pages number f l =
    let at : (get_or (get_or pages (number / 512) []) (number % 512) ended).alive
    ≡ true = ap (λ (x : Object). x.alive) (sym (by_number pages number f)) ∙ l in
    record {
      page = page_there pages (number / 512) (number % 512) at;
      place = live_there (get_or pages (number / 512) []) (number % 512) at;
    }

pub page_is : (pages : List (List Object)) (q : ℕ) (page : List Object) → q < length pages → page ≡ get_or pages q page
    → page ≡ get_or pages q []
page_is pages q page l e = e ∙ get_or_any pages q page [] l

-- one object that lives is changed
pub record Changed (o : Inside) (number : ℕ) (page : List Object) (w : Object) : Type 0 where
  pub filled : AreFilled 512 (set o.pages.items (number / 512) (set page (number % 512) w))
  pub is : in_pages 512 (set o.pages.items (number / 512) (set page (number % 512) w)) ≡ set (in_pages 512 o.pages.items) number w
  pub count : o.count ≡ length (in_pages 512 (set o.pages.items (number / 512) (set page (number % 512) w)))

pub changed : (o : Inside) (number : ℕ) (page : List Object) (w : Object) → IsTable o → Stands o.pages.items number
    → page ≡ get_or o.pages.items (number / 512) [] → Changed o number page w
changed o number page w t s e =
    let split : number / 512 * 512 + number % 512 ≡ number = omega arith in
    let is : in_pages 512 (set o.pages.items (number / 512) (set page (number % 512) w)) ≡ set (in_pages 512 o.pages.items) number w =
    ap (λ p. in_pages 512 (set o.pages.items (number / 512) (set p (number % 512) w))) e
    ∙ changed_in 512 o.pages.items (number / 512) (number % 512) w t.filled s.page s.place
    ∙ ap (λ k. set (in_pages 512 o.pages.items) k w) split in
    let long = length-set page (number % 512) w in
    let few = filled_at 512 o.pages.items (number / 512) t.filled in
    let same = ap length e in
    record {
      filled = filled_set 512 o.pages.items (number / 512) (set page (number % 512) w) t.filled (omega (arith, long, few, same));
      is = is;
      count = t.count ∙ sym (ap length is ∙ length-set (in_pages 512 o.pages.items) number w);
    }

-- one more object
true_both : (a b : Bool) → (a && b) ≡ true → (a ≡ true) × (b ≡ true)
true_both true b e = (refl, e)
true_both false b e = absurd (cc)

lt_by : (m n : ℕ) → nat_lt m n ≡ true → m < n
lt_by m n e = ⊎_elim (λ l. l) (λ g. absurd (let h : true ≡ false = sym e ∙ le-ltb m n g in cc)) (cases_lt m n)

pub push_last_is : (pages : List (List Object)) (page new : List Object) (object : Object) (last : ℕ) → AreFilled 512 pages
    → has_room 512 pages ≡ true → last ≡ length pages
    → page ≡ get_or pages (last - 1) page → new ≡ page ++ object ∷ [] → IsPushed pages (set pages (last - 1) new) object
push_last_is pages page new object last f room l e w =
    let both = true_both (nat_lt 0 (length pages)) (nat_lt (length (last_page pages)) 512) room in
    let some = lt_by 0 (length pages) both.0 in
    let few = lt_by (length (last_page pages)) 512 both.1 in
    let page_at : page ≡ last_page pages = page_is pages (last - 1) page (omega (arith, l, some)) e ∙ ap (λ k. get_or pages (k - 1) []) l in
    let new_is : new ≡ last_page pages ++ object ∷ [] = w ∙ ap (λ p. p ++ object ∷ []) page_at in
    let long = ap length new_is ∙ length-append (last_page pages) (object ∷ []) in
    record {
      filled = filled_set 512 pages (last - 1) new f (omega (arith, long, few));
      is = ap (λ k. in_pages 512 (set pages (k - 1) new)) l ∙ ap (λ p. in_pages 512 (set pages (length pages - 1) p)) new_is
          ∙ pushed_last 512 pages (length pages - 1) object (omega (arith, some));
    }

full_by : (pages : List (List Object)) (k : ℕ) → AreFilled 512 pages → has_room 512 pages ≡ false → k + 1 ≡ length pages
    → length (get_or pages k []) ≡ 512
full_by pages k f e last =
    let few = filled_at 512 pages k f in
    let is : length pages - 1 ≡ k = omega (arith, last) in
    let some = lt-ltb 0 (length pages) (omega (arith, last)) in
    ⊎_elim (λ l. absurd (less some (ap (λ j. nat_lt (length (get_or pages j [])) 512) is ∙ lt-ltb (length (get_or pages k [])) 512 l)))
    (λ g. omega (arith, few, g)) (cases_lt (length (get_or pages k [])) 512)
  where
    less : nat_lt 0 (length pages) ≡ true → nat_lt (length (last_page pages)) 512 ≡ true → ⊥
    less a b = let h : true ≡ false = sym (ap (λ x. x && nat_lt (length (last_page pages)) 512) a ∙ b) ∙ e in cc

pub push_page_is : (pages new : List (List Object)) (page : List Object) (object : Object) → AreFilled 512 pages
    → has_room 512 pages ≡ false → page ≡ object ∷ [] → new ≡ pages ++ page ∷ []
    → IsPushed pages new object
push_page_is pages new page object f full e w =
    let is : new ≡ pages ++ (object ∷ []) ∷ [] = w ∙ ap (λ p. pages ++ p ∷ []) e in
    record {
      filled = subst (AreFilled 512) (sym is) (filled_push 512 pages (object ∷ []) f (omega arith));
      is = ap (in_pages 512) is ∙ pushed_page 512 pages object (λ k last. full_by pages k f full last);
    }

-- an object that is read through its page, or that no page has
pub read_at : (pages found : List (List Object)) (number : ℕ) (page : List Object) → AreFilled 512 pages → found ≡ pages
    → (true ≡ nat_lt (number / 512) (length found)) × (page ≡ get_or found (number / 512) page)
    → object_at page (number % 512) ≡ object_at (in_pages 512 pages) number
read_at pages found number page f same at =
    let there = lt_by (number / 512) (length found) (sym at.0) in
    let is : page ≡ get_or pages (number / 512) [] = page_is found (number / 512) page there at.1
    ∙ ap (λ ps. get_or ps (number / 512) []) same in
    ap (λ p. object_at p (number % 512)) is ∙ sym (by_number pages number f)

none_past : (pages : List (List Object)) (q r : ℕ) → length pages ≤ q → get_or (get_or pages q []) r ended ≡ ended
none_past [] q r l = refl
none_past (p ∷ pages) zero r l = absurd (omega arith)
none_past (p ∷ pages) (suc q) r l = none_past pages q r (omega arith)

pub read_past : (pages found : List (List Object)) (number : ℕ) → AreFilled 512 pages → found ≡ pages
    → false ≡ nat_lt (number / 512) (length found)
    → ended ≡ object_at (in_pages 512 pages) number
read_past pages found number f same past =
    let long = ap length same in
    ⊎_elim (λ l. absurd (let h : true ≡ false = sym (lt-ltb (number / 512) (length found) l) ∙ sym past in cc))
    (λ g. sym (by_number pages number f ∙ none_past pages (number / 512) (number % 512) (omega (arith, g, long))))
    (cases_lt (number / 512) (length found))

-- a place at which a page keeps something
place_there : (pages : List (List Object)) (q r : ℕ) → r < length (get_or pages q []) → q < length pages
place_there [] q r l = absurd (omega (arith, l))
place_there (p ∷ pages) zero r l = omega arith
place_there (p ∷ pages) (suc q) r l = let there = place_there pages q r l in omega (arith, there)

pub kept_stands : (pages found : List (List Object)) (number : ℕ) → found ≡ pages
    → nat_lt (number % 512) (length (get_or found (number / 512) [])) ≡ true → Stands pages number
kept_stands pages found number same kept =
    let place : number % 512 < length (get_or pages (number / 512) []) =
    lt_by (number % 512) (length (get_or pages (number / 512) []))
    (ap (λ ps. nat_lt (number % 512) (length (get_or ps (number / 512) []))) (sym same) ∙ kept) in
    record { page = place_there pages (number / 512) (number % 512) place; place = place }

pub unkept_is : (pages found : List (List Object)) (number : ℕ) → AreFilled 512 pages → found ≡ pages
    → nat_lt (number % 512) (length (get_or found (number / 512) [])) ≡ false
    → object_at (in_pages 512 pages) number ≡ ended
unkept_is pages found number f same unkept =
    let long = ap (λ ps. length (get_or ps (number / 512) [])) same in
    ⊎_elim (λ l. absurd (let h : true ≡ false = sym (lt-ltb (number % 512) (length (get_or found (number / 512) [])) l) ∙ unkept in cc))
    (λ g. by_number pages number f ∙ get_or_past (get_or pages (number / 512) []) (number % 512) ended (omega (arith, g, long)))
    (cases_lt (number % 512) (length (get_or found (number / 512) [])))

-- an object in a page is given its bytes
pub page_object : (o : Inside) (number : ℕ) (page : List Object) → IsTable o → page ≡ get_or o.pages.items (number / 512) []
    → object_at page (number % 512) ≡ object_at (in_pages 512 o.pages.items) number
page_object o number page t e = ap (λ p. object_at p (number % 512)) e ∙ sym (by_number o.pages.items number t.filled)

pub record Filled (o : Inside) (number : ℕ) (new : List Object) (bytes : List ℕ) : Type 0 where
  pub filled : AreFilled 512 (set o.pages.items (number / 512) new)
  pub is : in_pages 512 (set o.pages.items (number / 512) new) ≡ fill (in_pages 512 o.pages.items) number bytes
  pub count : o.count ≡ length (in_pages 512 (set o.pages.items (number / 512) new))

pub filled_table : (o : Inside) (number : ℕ) (page new : List Object) (bytes : List ℕ) → IsTable o → Stands o.pages.items number
    → page ≡ get_or o.pages.items (number / 512) []
    → new ≡ fill page (number % 512) bytes → Filled o number new bytes
filled_table o number page new bytes t s e w =
    let done = changed o number page (with_cells (object_at page (number % 512)) (map Byte bytes)) t s e in
    record {
      filled = subst (λ p. AreFilled 512 (set o.pages.items (number / 512) p)) (sym w) done.filled;
      is = ap (λ p. in_pages 512 (set o.pages.items (number / 512) p)) w ∙ done.is
          ∙ ap (λ (x : Object). set (in_pages 512 o.pages.items) number (with_cells x (map Byte bytes))) (page_object o number page t e);
      count = subst (λ p. o.count ≡ length (in_pages 512 (set o.pages.items (number / 512) p))) (sym w) done.count;
    }

pub fill_none : (objs : List Object) (number : ℕ) (bytes : List ℕ) → object_at objs number ≡ ended → length bytes ≡ size_at objs number
    → objs ≡ fill objs number bytes
fill_none objs number (b ∷ bs) e l = let none = ap (λ (x : Object). x.size) e in absurd (omega (arith, none, l))
fill_none objs number [] e l =
    sym (ap (λ (x : Object). set objs number (with_cells x [])) e ∙ ap (set objs number) (sym e) ∙ set-get_or objs number ended)
