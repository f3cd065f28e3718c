use Rattle.library_meaning.specs.Rows.{Row}
use Rattle.objects_on_bytes.specs.Calls.{RowFollows}
use Rattle.objects_on_bytes.specs.Rows.{IsBytewise}
use Rattle.objects_on_bytes.proofs.Results.{same_is, forgot_is}
use Rattle.objects_on_bytes.proofs.Tables.{bytewise, each_row}
use Rattle.objects_on_bytes.proofs.Whole.{row_follows, asked_follows}
use Rattle.objects_on_bytes.proofs.laws.calls_follow.Goals as goal

row_is : (row : Row) → IsBytewise row → RowFollows row
row_is row b = record {
  runs = λ at objs m args numbers w k v i. row_follows at args numbers row objs m w k v i b;
  asks = λ at objs m args numbers w k v i. asked_follows at args numbers row objs m w k v i b;
}

pub returns : goal.returns
returns c = record { each = row_is; library = each_row IsBytewise RowFollows row_is bytewise; same = same_is; forgot = forgot_is }
