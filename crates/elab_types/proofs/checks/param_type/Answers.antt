use Rattle.std.proofs.Common.{rules}
use Rattle.elab_types.specs.Shapes.{shape_of}
use Rattle.elab_types.proofs.Checked.{param_broken}
use Rattle.elab_types.proofs.checks.param_type.Goals as goal

pub returns-in_err-judge : goal.returns-in_err-judge
returns-in_err-judge c =
    let given = rw (
      c.has_size.ensures,
      c.either.ensures,
      c.either-2.ensures,
      c.is_structure.ensures,
      c.either-3.ensures,
      c.has_function_words-has_words.ensures,
      c.is_over-is_over.ensures,
      c.is_function-is_function.ensures,
      c.in_ok-ctype.ensures,
      c.in_err-judge.was,
    ) at c.judge.ensures in
    let fact = param_broken c.args.tags.now c.args.specs (shape_of c.args.parts) c.args.repeated c.args.at c.in_ok-formed.formed
    (rw c.as_slice.ensures at c.in_ok-formed.ensures) c.in_err-judge.field-0.0 given in
    search (rules, fact)
