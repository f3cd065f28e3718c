use Rattle.std.proofs.Common.{ap, Some, ◌∙◌}
use Rattle.fc_base.proofs.memory_store.MemStoreStore.keep.Goals as goal

-- after want of memory each name has what it had
pub returns-in-Err-clause-others : goal.returns-in-Err-clause-others
returns-in-Err-clause-others c = λ other _. ap (λ files. files other) c.in-Err.ensures.no_memory

pub returns-in-Err-clause-no_memory : goal.returns-in-Err-clause-no_memory
returns-in-Err-clause-no_memory c = λ _. ap Some c.in-Err.ensures.no_memory
