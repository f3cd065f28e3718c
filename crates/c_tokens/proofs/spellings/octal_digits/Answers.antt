use Rattle.c_tokens.proofs.OctalLemmas.{octal_step}
use Rattle.c_tokens.proofs.spellings.octal_digits.Goals as goal

pub loop-value-preserved : goal.loop-value-preserved
loop-value-preserved c =
    rw (c.in_ok-push.ensures {u = tt}).items (octal_step c.loop-value.value c.args.value c.loop-value.digits.items c.loop-value-test.true
    c.loop-value.invariant)
