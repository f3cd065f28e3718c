-- What the arguments take of memory, and how their strings and addresses come one after the other.
use Rattle.std.proofs.Common.{◌≡◌, ℕ, zero, suc, ◌+◌, ◌*◌, ◌-◌, ◌<◌, ◌≤◌, List, [], ◌∷◌, ◌++◌, length, take, drop, replicate, Some, refl, sym, ◌∙◌, ap, arith, append_assoc, append-nil, add-one, length-append, drop-cons, slice_get, codes}
use Rattle.std.specs.List.{flat_map, sum_by}
use Rattle.std.specs.Int.{to_le_bytes, w64}
use Rattle.std.proofs.Math.ListN.{drop_of_length-le}
use Rattle.std.proofs.lemmas.List.{length-replicate, take_all}
use Rattle.std.proofs.lemmas.List.Sums.{sum_by-cons}
use Rattle.std.proofs.lemmas.Option.{slice_get_within, get_or_from_slice_get, same_Some}
use Rattle.library_meaning.specs.Memory.{first_valid}
use Rattle.run_meaning.specs.Worlds.{ArgumentsFit}
use Rattle.byte_machine.specs.Opening.{argument_words, string_room, string_block, addresses, argv_address, argument_section}

-- the rest of a list from a place on begins with the element there
pub rest_at : {X : Type 0} (xs : List X) (k : ℕ) (x : X) → slice_get xs k ≡ Some x → drop k xs ≡ x ∷ drop (k + 1) xs
rest_at xs k x is =
    let within : k < length xs = slice_get_within xs k x is in
    let here = get_or_from_slice_get xs k x x is in
    rw (add-one, drop-cons xs k x) (ap (λ y. y ∷ drop (suc k) xs) here)

-- pieces up to a place and the rest of them, with one more piece
pub pieces_more : {X A : Type 0} (f : X → List A) (xs : List X) (k : ℕ) (x : X) (front next all : List A) → slice_get xs k ≡ Some x
    → next ≡ front ++ f x
    → front ++ flat_map f (drop k xs) ≡ all → next ++ flat_map f (drop (k + 1) xs) ≡ all
pieces_more f xs k x front next all is grown before =
    ap (λ l. l ++ flat_map f (drop (k + 1) xs)) grown
    ∙ append_assoc front (f x) (flat_map f (drop (k + 1) xs))
    ∙ ap (λ l. front ++ flat_map f l) (sym (rest_at xs k x is))
    ∙ before

-- at the end no piece is left
pub pieces_done : {X A : Type 0} (f : X → List A) (xs : List X) (k : ℕ) (front all : List A) → length xs ≤ k
    → front ++ flat_map f (drop k xs) ≡ all → front ≡ all
pieces_done f xs k front all past before =
    sym (append-nil front) ∙ ap (λ l. front ++ flat_map f l) (sym (drop_of_length-le xs past)) ∙ before

-- the same of the addresses
pub addresses_more : {A : Type 0} (f : ℕ → List A) (words : List (List ℕ)) (k at at' : ℕ) (word : List ℕ) (front next all : List A)
    → slice_get words k ≡ Some word → at' ≡ at + string_room word → next ≡ front ++ f at
    → front ++ flat_map f (addresses at (drop k words)) ≡ all → next ++ flat_map f (addresses at' (drop (k + 1) words)) ≡ all
unfolding addresses
addresses_more f words k at at' word front next all is moved grown before =
    ap (λ l. l ++ flat_map f (addresses at' (drop (k + 1) words))) grown
    ∙ append_assoc front (f at) (flat_map f (addresses at' (drop (k + 1) words)))
    ∙ ap (λ n. front ++ (f at ++ flat_map f (addresses n (drop (k + 1) words)))) moved
    ∙ ap (λ l. front ++ flat_map f (addresses at l)) (sym (rest_at words k word is))
    ∙ before

pub addresses_done : {A : Type 0} (f : ℕ → List A) (words : List (List ℕ)) (k at : ℕ) (front all : List A) → length words ≤ k
    → front ++ flat_map f (addresses at (drop k words)) ≡ all → front ≡ all
unfolding addresses
addresses_done f words k at front all past before =
    sym (append-nil front) ∙ ap (λ l. front ++ flat_map f (addresses at l)) (sym (drop_of_length-le words past)) ∙ before

-- the sum of the rest, with one less
pub rooms_more : {X : Type 0} (f : X → ℕ) (xs : List X) (k : ℕ) (x : X) → slice_get xs k ≡ Some x
    → sum_by f (drop k xs) ≡ f x + sum_by f (drop (k + 1) xs)
rooms_more f xs k x is = ap (sum_by f) (rest_at xs k x is) ∙ sum_by-cons f x (drop (k + 1) xs)

pub rooms_done : {X : Type 0} (f : X → ℕ) (xs : List X) (k : ℕ) → length xs ≤ k → sum_by f (drop k xs) ≡ 0
rooms_done f xs k past = ap (sum_by f) (drop_of_length-le xs past)

-- one of the terms of a sum
pub term_within : {X : Type 0} (f : X → ℕ) (xs : List X) (k : ℕ) (x : X) → slice_get xs k ≡ Some x → f x ≤ sum_by f xs
term_within f [] k x is = absurd (cc)
term_within f (y ∷ xs) zero x is = let s = sum_by-cons f y xs in let e : f y ≡ f x = cc in omega arith
term_within f (y ∷ xs) (suc k) x is = let s = sum_by-cons f y xs in let rest = term_within f xs k x is in omega arith

-- what a string takes
room_bounds : (word : List ℕ) → string_room word ≤ length word + 17
room_bounds word = omega arith

room_holds : (word : List ℕ) → length word ≤ string_room word
room_holds word = omega arith

-- rooms and their count are bounded by what the arguments count
rooms_within : (words : List (List ℕ)) → sum_by string_room words ≤ sum_by (λ word. length word + 32) words
rooms_within [] = omega arith
rooms_within (word ∷ words) =
    let a = sum_by-cons string_room word words in
    let b = sum_by-cons (λ (w : List ℕ). length w + 32) word words in
    let here = room_bounds word in
    let rest = rooms_within words in
    omega arith

count_within : (words : List (List ℕ)) → 32 * length words ≤ sum_by (λ word. length word + 32) words
count_within [] = omega arith
count_within (word ∷ words) =
    let b = sum_by-cons (λ (w : List ℕ). length w + 32) word words in
    let rest = count_within words in
    omega arith

pub few_arguments : (args : List (List ℕ)) → ArgumentsFit args → length args ≤ 16384
few_arguments args fit = let h = count_within args in omega arith

-- each string is short
pub short_argument : (args : List (List ℕ)) (k : ℕ) (word : List ℕ) → ArgumentsFit args → slice_get (argument_words args) k ≡ Some word
    → length word ≤ 524288
short_argument args zero word fit is = let e : length word ≡ 4 = ap length (sym (same_Some _ _ is)) in omega arith
short_argument args (suc k) word fit is = let h = term_within (λ (w : List ℕ). length w + 32) args k word is in omega arith

-- argv stands below this address
pub argv_low : (args : List (List ℕ)) → ArgumentsFit args → argv_address args ≤ 589840
argv_low args fit =
    let h = rooms_within args in
    let s : sum_by string_room (argument_words args) ≡ 16 + sum_by string_room args = sum_by-cons string_room (codes "prog") args in
    omega arith

length_block : (word : List ℕ) → length (string_block word) ≡ string_room word
unfolding string_block
length_block word =
    let h = room_holds word in
    let n = string_room word - length word in
    let zeros : length (replicate {A = ℕ} n 0) ≡ n = length-replicate {A = ℕ} n 0 in
    length-append word (replicate n 0) ∙ omega arith

length_strings : (words : List (List ℕ)) → length (flat_map string_block words) ≡ sum_by string_room words
length_strings [] = refl
length_strings (word ∷ words) =
    let a = length-append (string_block word) (flat_map string_block words) in
    let b = sum_by-cons string_room word words in
    let here = length_block word in
    let rest = length_strings words in
    omega arith

length_addresses : (at : ℕ) (words : List (List ℕ)) → length (flat_map (to_le_bytes w64) (addresses at words)) ≡ 8 * length words
unfolding addresses
length_addresses at [] = refl
length_addresses at (word ∷ words) =
    let rest = length_addresses (at + string_room word) words in
    omega arith

-- the section stands below the data
pub short_section : (args : List (List ℕ)) → ArgumentsFit args → length (argument_section args) ≤ 983040
unfolding argument_section
short_section args fit =
    let words = argument_words args in
    let low = argv_low args fit in
    let few = few_arguments args fit in
    let a = length-append (flat_map string_block words) (flat_map (to_le_bytes w64) (addresses first_valid words) ++ to_le_bytes w64 0) in
    let b = length-append (flat_map (to_le_bytes w64) (addresses first_valid words)) (to_le_bytes w64 0) in
    let strings = length_strings words in
    let places = length_addresses first_valid words in
    omega arith

-- a string is added with its NUL
pub block_pushed : (n m room : ℕ) (front word grown next : List ℕ) → n ≡ length front → m ≡ length grown → room ≡ string_room word
    → grown ≡ front ++ word
    → next ≡ take (n + room) grown ++ replicate (n + room - m) 0 → next ≡ front ++ string_block word
unfolding string_block
block_pushed n m room front word grown next at long takes grew is =
    let h = room_holds word in
    let both : length grown ≡ length front + length word = ap length grew ∙ length-append front word in
    let whole : length grown ≤ n + room = omega arith in
    let left : n + room - m ≡ string_room word - length word = omega arith in
    is
    ∙ ap (λ l. l ++ replicate (n + room - m) 0) (take_all (n + room) grown whole ∙ grew)
    ∙ ap (λ k. (front ++ word) ++ replicate k 0) left
    ∙ append_assoc front word (replicate (string_room word - length word) 0)

-- the strings, the addresses and the null pointer
pub section_closed : (args : List (List ℕ)) (strings grown next last : List ℕ) → strings ≡ flat_map string_block (argument_words args)
    → grown ≡ strings ++ flat_map (to_le_bytes w64) (addresses first_valid (argument_words args)) → last ≡ to_le_bytes w64 0
    → next ≡ grown ++ last
    → next ≡ argument_section args
unfolding argument_section
section_closed args strings grown next last texts places null is =
    let words = argument_words args in
    let front = flat_map string_block words in
    let after = flat_map (to_le_bytes w64) (addresses first_valid words) in
    is
    ∙ ap (λ l. grown ++ l) null
    ∙ ap (λ l. l ++ to_le_bytes w64 0) (places ∙ ap (λ l. l ++ after) texts)
    ∙ append_assoc front after (to_le_bytes w64 0)
