-- The first memory, from a number of zero bytes that is not written out.
use Rattle.std.proofs.Common.{◌≡◌, ℕ, ◌≤◌, List, ◌++◌, length, take, drop, replicate, ap, ◌∙◌, arith}
use Rattle.std.proofs.lemmas.List.{take-append-le, take_all}
use Rattle.bm_image.specs.Images.{PlainImage}
use Rattle.byte_machine.specs.State.{data_start}
use Rattle.library_meaning.specs.Memory.{memory_size, first_valid, put}
use Rattle.byte_machine.specs.Opening.{argument_section, first_memory}

first_memory-is : (image : PlainImage) (args : List (List ℕ)) (n : ℕ) → n ≡ memory_size
    → put data_start image.bytes (put first_valid (argument_section args) (replicate n 0)) ≡ first_memory image args
unfolding first_memory
first_memory-is image args n is = ap (λ k. put data_start image.bytes (put first_valid (argument_section args) (replicate k 0))) is

-- elements that were all written anew
pub written : (n : ℕ) (new old : List ℕ) → length new ≡ n → take n (new ++ drop (length new) old) ≡ new
written n new old long =
    let within : n ≤ length new = omega arith in
    let whole : length new ≤ n = omega arith in
    take-append-le n new (drop (length new) old) within ∙ take_all n new whole

-- the zeros, with the section stored and then the data
pub stored-first_memory : (image : PlainImage) (args : List (List ℕ)) (n : ℕ) (section zeros first bytes second : List ℕ)
    → n ≡ memory_size → section ≡ argument_section args → zeros ≡ replicate n 0 → first ≡ put first_valid section zeros
    → bytes ≡ image.bytes → second ≡ put data_start bytes first
    → second ≡ first_memory image args
stored-first_memory image args n section zeros first bytes second size texts blank below given above =
    let lower : first ≡ put first_valid (argument_section args) (replicate n 0) =
    below ∙ ap (λ s. put first_valid s zeros) texts ∙ ap (λ z. put first_valid (argument_section args) z) blank in
    above ∙ ap (λ b. put data_start b first) given ∙ ap (λ m. put data_start image.bytes m) lower ∙ first_memory-is image args n size
