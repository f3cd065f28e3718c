-- What is kept of structures and unions beside the list of them.
use Rattle.std.specs.Prelude.{◌≡◌, ◌≤◌, ℕ, Bool, not, ◌&&◌, is_none, List, [], length, drop}
use Rattle.std.specs.List.{position_from}
use Rattle.std.specs.Str.{bytes_eq}
use Rattle.c_layout.specs.declared.tags.TagDef.{TagDef}
use Rattle.elab_meaning.specs.Scope.{is_named}
use Rattle.elab_scope.specs.declared.numbers.Numbers.{Numbers}
use Rattle.elab_scope.specs.Numbers.{number_at}

-- behind those that were given, each tag has the number of the first definition with it
pub record AreFound (tags : List TagDef) (given : ℕ) (added : Numbers) : Type 0 where
  pub found : (name : List ℕ) → number_at added name ≡ position_from (is_named name) given (drop given tags)
  pub within : given ≤ length tags

-- a tag under which nothing was added yet
abbrev pub is_new : Numbers → List ℕ → Bool
is_new added name = not (bytes_eq name []) && is_none (number_at added name)
