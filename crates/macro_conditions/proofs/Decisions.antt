-- Every line is decided, and in one way only.
use Rattle.std.proofs.Common.{◌≡◌, Bool, true, List, [], Option, Some, None, option_map, refl, sym, ap, ◌∙◌}
use Rattle.c_tokens.specs.declared.TokenKind.{TokenKind}
use Rattle.macro_conditions.specs.declared.values.Value.{Value}
use Rattle.macro_conditions.specs.Values.{is_true}
use Rattle.macro_conditions.specs.Trees.{Tree, Reads, conditional, value}
use Rattle.macro_conditions.specs.Conditions.{Decides, decided, bad}
use Rattle.macro_conditions.specs.Machine.{wants, run, decision}
use Rattle.macro_conditions.proofs.Completeness.{complete_whole}
use Rattle.macro_conditions.proofs.Soundness.{sound}

-- no machine reads what has no value
misses : (line : List TokenKind) → ((x : Tree) → Reads conditional line x [] → value true x ≡ None) → (o : Option Value)
    → run (wants [] true) line ≡ o → None ≡ option_map is_true o
misses line h None e = refl
misses line h (Some v) e = let f = sound line v e in let n = h f.tree f.reads in let g = f.is in cc

-- a decision is what the machine gives
pub decision_is : {line : List TokenKind} {d : Option Bool} → Decides line d → d ≡ decision line
decision_is (decided {line = line} {x = x} r h) = sym (ap (option_map is_true) (complete_whole line x r) ∙ h)
decision_is (bad {line = line} h) = misses line h (run (wants [] true) line) refl

pub one : {line : List TokenKind} {a b : Option Bool} → Decides line a → Decides line b → a ≡ b
one x y = decision_is x ∙ sym (decision_is y)

decides_by : (line : List TokenKind) (o : Option Value) → run (wants [] true) line ≡ o → Decides line (option_map is_true o)
decides_by line None e = bad (λ x r. sym (complete_whole line x r) ∙ e)
decides_by line (Some v) e = let f = sound line v e in decided f.reads (ap (option_map is_true) f.is)

-- the machine decides
pub decides : (line : List TokenKind) → Decides line (decision line)
decides line = decides_by line (run (wants [] true) line) refl

pub some : (line : List TokenKind) → (d : Option Bool) × Decides line d
some line = (decision line, decides line)
