use Rattle.std.proofs.Common.{ap, ◌∙◌, map}
use Rattle.std.proofs.lemmas.List.{map-set}
use Rattle.elab_scope.specs.Functions.{local_of}
use Rattle.elab_scope.proofs.beside.replace_local.Goals as goal

pub returns : goal.returns
returns c = ap (map local_of) c.set.ensures ∙ map-set local_of c.args.locals.now c.args.number c.args.def
