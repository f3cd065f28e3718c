-- Objects in pages, found and changed by page and place.
use Rattle.std.proofs.Common.{◌≡◌, ℕ, zero, suc, ◌+◌, ◌-◌, ◌*◌, ◌<◌, ◌≤◌, List, [], ◌∷◌, ◌++◌, length, get_or, set, replicate, refl, sym, ap, ◌∙◌, arith, append_assoc, append-nil, length-append}
use Rattle.std.proofs.lemmas.List.{get_or_past, length-replicate, length-set, set-append_left}
use Rattle.object_meaning.specs.Objects.{Object, ended}
use Rattle.src_values.specs.Pages.{page_of, in_pages, AreFilled}

pub length-page : (n : ℕ) (p : List Object) → length p ≤ n → length (page_of n p) ≡ n
length-page n p l =
    let a = length-append p (replicate (n - length p) ended) in
    let b = length-replicate (n - length p) ended in
    omega (arith, a, b, l)

-- past the end of what is kept stands that it has ended
padded_at : (p : List Object) (m r : ℕ) → get_or (p ++ replicate m ended) r ended ≡ get_or p r ended
padded_at [] m r = none m r
  where
    none : (m r : ℕ) → get_or (replicate m ended) r ended ≡ ended
    none zero r = refl
    none (suc m) zero = refl
    none (suc m) (suc r) = none m r
padded_at (x ∷ p) m zero = refl
padded_at (x ∷ p) m (suc r) = padded_at p m r

behind_at : (xs ys : List Object) (n i : ℕ) → length xs ≡ n → get_or (xs ++ ys) (n + i) ended ≡ get_or ys i ended
behind_at [] ys n i e = let at : n + i ≡ i = omega (arith, e) in ap (λ k. get_or ys k ended) at
behind_at (x ∷ xs) ys zero i e = absurd (omega (arith, e))
behind_at (x ∷ xs) ys (suc n) i e =
    let at : suc n + i ≡ suc (n + i) = omega arith in
    ap (λ k. get_or (x ∷ xs ++ ys) k ended) at ∙ behind_at xs ys n i (omega (arith, e))

before_at : (xs ys : List Object) (i : ℕ) → i < length xs → get_or (xs ++ ys) i ended ≡ get_or xs i ended
before_at [] ys i l = absurd (omega arith)
before_at (x ∷ xs) ys zero l = refl
before_at (x ∷ xs) ys (suc i) l = before_at xs ys i (omega arith)

pub found_in : (n : ℕ) (pages : List (List Object)) (q r : ℕ) → AreFilled n pages → r < n
    → get_or (in_pages n pages) (q * n + r) ended ≡ get_or (get_or pages q []) r ended
found_in n [] q r f l = refl
found_in n (p ∷ []) zero r f l = let at : 0 * n + r ≡ r = omega arith in ap (λ k. get_or p k ended) at
found_in n (p ∷ []) (suc q) r f l = get_or_past p (suc q * n + r) ended (let few = f.0 in omega (arith, few))
found_in n (p ∷ p' ∷ ps) zero r f l =
    let at : 0 * n + r ≡ r = omega arith in
    let long = length-page n p f.0 in
    ap (λ k. get_or (page_of n p ++ in_pages n (p' ∷ ps)) k ended) at
    ∙ before_at (page_of n p) (in_pages n (p' ∷ ps)) r (omega (arith, long, l))
    ∙ padded_at p (n - length p) r
found_in n (p ∷ p' ∷ ps) (suc q) r f l =
    let at : suc q * n + r ≡ n + (q * n + r) = omega arith in
    ap (λ k. get_or (page_of n p ++ in_pages n (p' ∷ ps)) k ended) at
    ∙ behind_at (page_of n p) (in_pages n (p' ∷ ps)) n (q * n + r) (length-page n p f.0)
    ∙ found_in n (p' ∷ ps) q r f.1 l

-- one object of one page is changed
changed_page : (n : ℕ) (p : List Object) (r : ℕ) (x : Object) → r < length p → page_of n (set p r x) ≡ set (page_of n p) r x
changed_page n p r x l = ap (λ k. set p r x ++ replicate (n - k) ended) (length-set p r x)
    ∙ sym (set-append_left p (replicate (n - length p) ended) r x l)

pub changed_in : (n : ℕ) (pages : List (List Object)) (q r : ℕ) (x : Object) → AreFilled n pages → q < length pages
    → r < length (get_or pages q [])
    → in_pages n (set pages q (set (get_or pages q []) r x)) ≡ set (in_pages n pages) (q * n + r) x
changed_in n [] q r x f l m = absurd (omega arith)
changed_in n (p ∷ []) zero r x f l m = let at : r ≡ 0 * n + r = omega arith in ap (λ k. set p k x) at
changed_in n (p ∷ []) (suc q) r x f l m = absurd (omega arith)
changed_in n (p ∷ p' ∷ ps) zero r x f l m =
    let at : r ≡ 0 * n + r = omega arith in
    let long = length-page n p f.0 in
    let few = f.0 in
    ap (λ ys. ys ++ in_pages n (p' ∷ ps)) (changed_page n p r x m)
    ∙ sym (set-append_left (page_of n p) (in_pages n (p' ∷ ps)) r x (omega (arith, long, m, few)))
    ∙ ap (λ k. set (page_of n p ++ in_pages n (p' ∷ ps)) k x) at
changed_in n (p ∷ p' ∷ ps) (suc q) r x f l m =
    let at : suc q * n + r ≡ n + (q * n + r) = omega arith in
    behind q
    ∙ ap (λ ys. page_of n p ++ ys) (changed_in n (p' ∷ ps) q r x f.1 (omega arith) m)
    ∙ sym (set_behind (page_of n p) (in_pages n (p' ∷ ps)) n (q * n + r) x (length-page n p f.0))
    ∙ ap (λ k. set (page_of n p ++ in_pages n (p' ∷ ps)) k x) (sym at)
  where
    behind : (q : ℕ) → in_pages n (p ∷ set (p' ∷ ps) q (set (get_or (p' ∷ ps) q []) r x))
        ≡ page_of n p ++ in_pages n (set (p' ∷ ps) q (set (get_or (p' ∷ ps) q []) r x))
    behind zero = refl
    behind (suc q) = refl

    set_behind : (xs ys : List Object) (n i : ℕ) (x : Object) → length xs ≡ n → set (xs ++ ys) (n + i) x ≡ xs ++ set ys i x
    set_behind [] ys n i x e = let at : n + i ≡ i = omega (arith, e) in ap (λ k. set ys k x) at
    set_behind (y ∷ xs) ys zero i x e = absurd (omega (arith, e))
    set_behind (y ∷ xs) ys (suc n) i x e =
        let at : suc n + i ≡ suc (n + i) = omega arith in
        ap (λ k. set (y ∷ xs ++ ys) k x) at ∙ ap (λ zs. y ∷ zs) (set_behind xs ys n i x (omega (arith, e)))

pub filled_set : (n : ℕ) (pages : List (List Object)) (q : ℕ) (p : List Object) → AreFilled n pages → length p ≤ n
    → AreFilled n (set pages q p)
filled_set n [] q p f l = f
filled_set n (x ∷ pages) zero p f l = (l, f.1)
filled_set n (x ∷ pages) (suc q) p f l = (f.0, filled_set n pages q p f.1 l)

pub filled_at : (n : ℕ) (pages : List (List Object)) (q : ℕ) → AreFilled n pages → length (get_or pages q []) ≤ n
filled_at n [] q f = omega arith
filled_at n (p ∷ pages) zero f = f.0
filled_at n (p ∷ pages) (suc q) f = filled_at n pages q f.1

-- a page all of whose objects have ended need not be kept where others follow
pub let_go_in : (n : ℕ) (pages : List (List Object)) (q : ℕ) (p : List Object) → AreFilled n pages → q + 1 < length pages
    → p ≡ get_or pages q p → p ≡ replicate (length p) ended
    → in_pages n (set pages q []) ≡ in_pages n pages
let_go_in n [] q p f l e all = absurd (omega arith)
let_go_in n (x ∷ []) q p f l e all = absurd (omega arith)
let_go_in n (x ∷ y ∷ ps) zero p f l e all =
    let few = f.0 in
    let is = ap length e in
    let whole : n - 0 ≡ n = omega arith in
    ap (λ ys. ys ++ in_pages n (y ∷ ps))
    (ap (λ k. replicate k ended) whole ∙ sym (ap (page_of n) (sym e ∙ all) ∙ ended_page n (length p) (omega (arith, few, is))))
  where
    replicates : (a b : ℕ) → replicate a ended ++ replicate b ended ≡ replicate (a + b) ended
    replicates zero b = let none : b ≡ 0 + b = omega arith in ap (λ k. replicate k ended) none
    replicates (suc a) b =
        let next : suc (a + b) ≡ suc a + b = omega arith in
        ap (λ xs. ended ∷ xs) (replicates a b) ∙ ap (λ k. replicate k ended) next

    ended_page : (n m : ℕ) → m ≤ n → page_of n (replicate m ended) ≡ replicate n ended
    ended_page n m l =
        let long = length-replicate m ended in
        let all : m + (n - length (replicate m ended)) ≡ n = omega (arith, long, l) in
        replicates m (n - length (replicate m ended)) ∙ ap (λ k. replicate k ended) all
let_go_in n (x ∷ y ∷ ps) (suc q) p f l e all = behind q ∙ ap (λ ys. page_of n x ++ ys) (let_go_in n (y ∷ ps) q p f.1 (omega arith) e all)
  where
    behind : (q : ℕ) → in_pages n (x ∷ set (y ∷ ps) q []) ≡ page_of n x ++ in_pages n (set (y ∷ ps) q [])
    behind zero = refl
    behind (suc q) = refl

-- one more object, in the last page or in a new one
pub pushed_last : (n : ℕ) (pages : List (List Object)) (k : ℕ) (x : Object) → k + 1 ≡ length pages
    → in_pages n (set pages k (get_or pages k [] ++ x ∷ [])) ≡ in_pages n pages ++ x ∷ []
pushed_last n [] k x e = absurd (omega (arith, e))
pushed_last n (p ∷ []) zero x e = refl
pushed_last n (p ∷ []) (suc k) x e = absurd (omega (arith, e))
pushed_last n (p ∷ q ∷ ps) zero x e = absurd (omega (arith, e))
pushed_last n (p ∷ q ∷ ps) (suc k) x e =
    behind k
    ∙ ap (λ ys. page_of n p ++ ys) (pushed_last n (q ∷ ps) k x (omega (arith, e)))
    ∙ sym (append_assoc (page_of n p) (in_pages n (q ∷ ps)) (x ∷ []))
  where
    behind : (k : ℕ) → in_pages n (p ∷ set (q ∷ ps) k (get_or (q ∷ ps) k [] ++ x ∷ []))
        ≡ page_of n p ++ in_pages n (set (q ∷ ps) k (get_or (q ∷ ps) k [] ++ x ∷ []))
    behind zero = refl
    behind (suc k) = refl

pub pushed_page : (n : ℕ) (pages : List (List Object)) (x : Object) → ((k : ℕ) → k + 1 ≡ length pages → length (get_or pages k []) ≡ n)
    → in_pages n (pages ++ (x ∷ []) ∷ []) ≡ in_pages n pages ++ x ∷ []
pushed_page n [] x full = refl
pushed_page n (p ∷ []) x full =
    let e = full 0 (omega arith) in
    let none : n - length p ≡ 0 = omega (arith, e) in
    ap (λ k. (p ++ replicate k ended) ++ x ∷ []) none ∙ ap (λ ys. ys ++ x ∷ []) (append-nil p)
pushed_page n (p ∷ q ∷ ps) x full =
    ap (λ ys. page_of n p ++ ys) (pushed_page n (q ∷ ps) x (λ k e. full (suc k) (omega (arith, e))))
    ∙ sym (append_assoc (page_of n p) (in_pages n (q ∷ ps)) (x ∷ []))

pub filled_push : (n : ℕ) (pages : List (List Object)) (p : List Object) → AreFilled n pages → length p ≤ n → AreFilled n (pages ++ p ∷ [])
filled_push n [] p f l = (l, tt)
filled_push n (x ∷ pages) p f l = (f.0, filled_push n pages p f.1 l)
