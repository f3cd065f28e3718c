-- The lines that name a place, as they are written piece by piece.
use Rattle.std.proofs.Common.{◌≡◌, ℕ, List, [], ◌∷◌, ◌++◌, codes, append_assoc}
use Rattle.fort_words.specs.Outcomes.{fault_line_of}

pub refused_line : (row column name : List ℕ)
    → fault_line_of ((row ++ (codes ":" ++ column)) ++ (codes ": refused: " ++ name))
    ≡ codes "fortc: " ++ (row ++ (codes ":" ++ (column ++ (codes ": refused: " ++ (name ++ 10 ∷ [])))))
refused_line row column name = simp append_assoc

pub undefined_line : (row column name : List ℕ)
    → fault_line_of (codes "undefined " ++ (name ++ (codes " at " ++ (row ++ (codes ":" ++ column)))))
    ≡ codes "fortc: undefined " ++ (name ++ (codes " at " ++ (row ++ (codes ":" ++ (column ++ 10 ∷ [])))))
undefined_line row column name = simp append_assoc
