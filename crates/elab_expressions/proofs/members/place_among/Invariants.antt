use Rattle.std.proofs.Common.{◌≡◌, drop}
use Rattle.std.specs.List.{position_from}
use Rattle.std.specs.Str.{bytes_eq}
use Rattle.elab_expressions.proofs.members.place_among.Given as goal

abbrev pub invariant-loop-member : goal.invariant-loop-member
invariant-loop-member l = record {
  here : l.place ≡ l.member-index;
  rest : position_from (λ m. bytes_eq m.name l.name) l.place (drop l.member-index l.members) ≡ position_from (λ m. bytes_eq m.name l.name) 0 l.members;
}
