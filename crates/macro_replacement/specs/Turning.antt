-- What a token does, as plain data.
use Rattle.std.specs.Prelude.{◌≡◌, ℕ, ◌<◌, List, length}
use Rattle.macro_meaning.specs.Macros.{Item, has}
use Rattle.macro_meaning.specs.Turns.{Turn, stays, bad_call, becomes}
use Rattle.macro_items.specs.Views.{body_part_views, argument_views}
use Rattle.macro_replacement.specs.declared.turns.Turn.{Turn as Taken}
use Rattle.macro_replacement.specs.declared.turns.Turn.TheVariants.{Stays, BadCall, Becomes}

-- where `old` was left after the token, and `new` is left now
abbrev pub TurnsAs : Taken → List Item → List Item → Turn → Type 0
TurnsAs Stays old new t = (t ≡ stays) × (new ≡ old)
TurnsAs BadCall old new t = t ≡ bad_call
TurnsAs (Becomes list args) old new t = t ≡ becomes
    (record { body = body_part_views list.body.now; hide = has list.hides.new; arguments = argument_views args.items; rest = new })

-- arguments stand only in a call, which is not too deep
abbrev pub IsWithin : ℕ → ℕ → Taken → Type 0
IsWithin depth limit (Becomes list args) = 0 < length args.items → depth < limit
IsWithin depth limit _ = Unit {0}
