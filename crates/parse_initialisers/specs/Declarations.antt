-- What functions that read declarations ensure.
use Rattle.std.specs.Prelude.{map}
use Rattle.parse_meaning.specs.Expressions as g
use Rattle.parse_reading.specs.ReadingStatements as spec
use Rattle.parse_declarators.specs.Named.{nearest_of}
use Rattle.parse_initialisers.specs.declared.declarations.Declared.{Declared}
use Rattle.parse_initialisers.specs.declared.declarations.NamedInit.{NamedInit}
use Rattle.parse_initialisers.specs.declared.declarations.NamedInits.{NamedInits}
use Rattle.parse_initialisers.specs.declared.declarations.Local.{Local}

abbrev pub declared_of : Declared → g.Declared
declared_of x = record { name = x.name.now; nearest = nearest_of x.nearest }

abbrev pub init_of : NamedInit → spec.NamedInit
init_of x = record { tree = x.tree; declared = declared_of x.declared }

abbrev pub inits_of : NamedInits → spec.NamedInits
inits_of x = record { trees = x.trees; declared = map declared_of x.declared }

abbrev pub local_of : Local → spec.Local
local_of x = record { specs = x.specs; declarators = x.declarators }
