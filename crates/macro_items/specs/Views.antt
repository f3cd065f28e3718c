-- The code's tokens and macros as plain data.
use Rattle.std.specs.Prelude.{ℕ, nat_eq, List, map, reverse, Option, option_map}
use Rattle.std.specs.Borrow.{Bor}
use Rattle.std.specs.Cmp.Lexicographic.{pointwise}
use Rattle.indexmap.specs.IndexMap.{IndexMap, get_by}
pub use Rattle.macro_items.specs.HideSets.{names}
use Rattle.macro_items.specs.declared.items.Item.{Item as Held}
use Rattle.macro_items.specs.declared.items.BodyPart.{BodyPart as Part}
use Rattle.macro_items.specs.declared.items.BodyPart.TheVariants.{Plain, Parameter}
use Rattle.macro_items.specs.declared.items.Macro.{Macro}
use Rattle.macro_items.specs.declared.items.Argument.{Argument as Operand}
use Rattle.macro_items.specs.declared.items.Argument.TheVariants.{Written, Expanded}
use Rattle.macro_meaning.specs.Macros.{Name, has, Item, BodyPart, plain, parameter, Meaning, Macros, Argument, written, expanded}

abbrev pub view : Held → Item
view t = record { kind = t.kind.now; place = t.place; starts_line = t.starts_line; spaced = t.spaced; hide = has t.hide }

abbrev pub views : List Held → List Item
views = map view

abbrev pub body_part_view : Part → BodyPart
body_part_view (Plain kind spaced) = plain kind.now spaced
body_part_view (Parameter k) = parameter k

abbrev pub body_part_views : List Part → List BodyPart
body_part_views = map body_part_view

abbrev pub meaning_view : Macro → Meaning
meaning_view m = record { parameters = option_map (λ s. names s.keys) m.parameters; body = body_part_views m.body.items }

abbrev pub argument_view : Operand → Argument
argument_view (Written ts) = written (views ts.items)
argument_view (Expanded ts) = expanded (views ts.items)

abbrev pub argument_views : List Operand → List Argument
argument_views = map argument_view

-- what the map has under a name
abbrev pub macro_at : {S : Type 0} → IndexMap (Bor (List ℕ)) Macro S → Name → Option Macro
macro_at m name = get_by (λ k. pointwise nat_eq name k.now) m

abbrev pub table : {S : Type 0} → IndexMap (Bor (List ℕ)) Macro S → Macros
table m = λ name. option_map meaning_view (macro_at m name)

-- what is left to read, where the next token is the last item
abbrev pub left : List Held → List Item
left items = reverse (views items)
