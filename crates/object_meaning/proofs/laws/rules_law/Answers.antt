use Rattle.object_meaning.proofs.Validity.{home_is, fresh_is, named_is, part_is, trail_is, moved_is, forgot_is, sized_is}
use Rattle.object_meaning.proofs.laws.rules_law.Goals as goal

pub returns : goal.returns
returns c = record {
  home = home_is;
  fresh = fresh_is;
  named = named_is;
  part = part_is;
  trail = trail_is;
  moved = moved_is;
  forgot = forgot_is;
  sized = sized_is;
}
