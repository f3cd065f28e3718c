-- What a run is given, and what the library's rows act on. This project's own.
use Rattle.std.specs.Prelude.{ℕ, ◌+◌, ◌<◌, ◌≤◌, ◌^◌, List, length, sum_by}
use Rattle.std.specs.List.{AllByRecursion}
use Rattle.run_meaning.specs.Runs.{Shown}

-- each number is a byte
abbrev pub AreBytes : List ℕ → Type 0
AreBytes bytes = AllByRecursion (λ byte. byte < 2 ^ 8) bytes

-- the program's arguments: each counts its length and 32 more, and the sum is bounded
abbrev pub arguments_size : List (List ℕ) → ℕ
arguments_size args = sum_by (λ word. length word + 32) args

abbrev pub most_arguments : ℕ
most_arguments = 524288

abbrev pub ArgumentsFit : List (List ℕ) → Type 0
ArgumentsFit args = arguments_size args ≤ most_arguments

-- what a run may take: the bytes left on descriptor 0, and the answers of outside functions still left, each as its
-- numbers. No call of an outside function is built, so nothing takes an answer
pub record Input : Type 0 where
  pub bytes : List ℕ
  pub answers : List (List ℕ)

-- each number of an input lies in its type
abbrev pub IsInput : Input → Type 0
IsInput input = AreBytes input.bytes

-- what is left to take, and what has moved so far
pub record World : Type 0 where
  pub input : Input
  pub shown : Shown
