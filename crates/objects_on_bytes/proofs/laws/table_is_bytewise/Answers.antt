use Rattle.objects_on_bytes.proofs.Tables.{bytewise}
use Rattle.objects_on_bytes.proofs.laws.table_is_bytewise.Goals as goal

pub returns : goal.returns
returns c = bytewise
