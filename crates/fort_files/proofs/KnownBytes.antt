-- Writing in several pieces, where the writer tells its bytes.
use Rattle.std.proofs.Common.{◌≡◌, ℕ, ◌+◌, ◌-◌, List, ◌++◌, take, drop, length, Option, None, Some, sym, ap, ◌∙◌, append_assoc, length-drop, Result, Ok, Err, OnErr, arith}
use Rattle.std.proofs.Math.Seq.{take-add}
use Rattle.std.proofs.lemmas.List.{take-append-drop, take_all}
use Rattle.fc_base.specs.Outside.{Appends, AppendsFront}

-- one piece and then another
pub appends_more : (a b c : Option (List ℕ)) (xs ys : List ℕ) → Appends xs a b → Appends ys b c → Appends (xs ++ ys) a c
appends_more None b c xs ys h k = tt
appends_more (Some us) None c xs ys h k = absurd h
appends_more (Some us) (Some vs) None xs ys h k = k
appends_more (Some us) (Some vs) (Some ws) xs ys h k = k ∙ ap (λ front. front ++ ys) h ∙ append_assoc us xs ys

-- the first i bytes, and then n of those from i on, which are spelled as the code cuts them
pub appends_next : (bytes : List ℕ) (i n : ℕ) (a b c : Option (List ℕ)) → Appends (take i bytes) a b → Appends (take n (take (length bytes - i) (drop i bytes))) b c → Appends (take (i + n) bytes) a c
appends_next bytes i n a b c h k =
    let whole : take (length bytes - i) (drop i bytes) ≡ drop i bytes = take_all _ _ (omega (arith, length-drop i bytes)) in
    rw take-add (appends_more a b c (take i bytes) (take n (drop i bytes)) h (rw whole at k))

-- the first bytes are a front
pub appends_front : (bytes : List ℕ) (i : ℕ) (a b : Option (List ℕ)) → Appends (take i bytes) a b → AppendsFront bytes a b
appends_front bytes i a b h = (take i bytes, (drop i bytes, sym (take-append-drop i bytes)), h)

-- what holds anyway holds after an error
pub after_error : {A E : Type 0} (r : Result A E) (P : Type 0) → P → OnErr r P
after_error (Ok x) P h = tt
after_error (Err e) P h = h
