-- The promise, by whether a machine was made ready.
use Rattle.fort_driver.proofs.Answering.{of_machine}
use Rattle.fort_driver.proofs.Promised.{ran_promise, not_ran_promise, has_run}
use Rattle.fort_driver.proofs.top.fort.Goals as goal

pub returns-in-Ok-clause-promise : goal.returns-in-Ok-clause-promise
returns-in-Ok-clause-promise g c =
    rw (c.in-Some.ensures.some) (ran_promise _ _ _ _ _ _ _ _ c.steps.ensures c.in-Ok.ensures c.run_machine.ensures)

pub returns-in-Ok-clause-not_run : goal.returns-in-Ok-clause-not_run
returns-in-Ok-clause-not_run g c =
    rw (c.in-Some.ensures.some) (λ of. absurd (has_run _ _ (of_machine _ _ _ _ _ _ c.run_machine.ensures.ran) of))

pub returns-in-Err-clause-promise : goal.returns-in-Err-clause-promise
returns-in-Err-clause-promise g c = rw (c.in-Some.ensures.some) (not_ran_promise _ _ _ _ _ c.in-Err.ensures)
