-- The spellings of keywords, one by one.
use Rattle.std.specs.Prelude.{ℕ, List, map, codes}
use Rattle.parse_meaning.specs.declared.terminals.Keyword.{Keyword}
use Rattle.parse_meaning.specs.declared.terminals.Keyword.TheVariants as w

abbrev pub spelling_of : Keyword → List ℕ
spelling_of w.Attribute = codes "__attribute__"
spelling_of w.DynamicObjectSize = codes "__builtin_dynamic_object_size"
spelling_of w.Break = codes "break"
spelling_of w.Case = codes "case"
spelling_of w.Char = codes "char"
spelling_of w.Const = codes "const"
spelling_of w.Continue = codes "continue"
spelling_of w.Default = codes "default"
spelling_of w.Do = codes "do"
spelling_of w.Else = codes "else"
spelling_of w.Enum = codes "enum"
spelling_of w.Extern = codes "extern"
spelling_of w.For = codes "for"
spelling_of w.If = codes "if"
spelling_of w.Inline = codes "inline"
spelling_of w.Int = codes "int"
spelling_of w.Long = codes "long"
spelling_of w.Restrict = codes "restrict"
spelling_of w.Return = codes "return"
spelling_of w.Short = codes "short"
spelling_of w.Signed = codes "signed"
spelling_of w.Sizeof = codes "sizeof"
spelling_of w.Static = codes "static"
spelling_of w.Struct = codes "struct"
spelling_of w.Switch = codes "switch"
spelling_of w.Typedef = codes "typedef"
spelling_of w.Union = codes "union"
spelling_of w.Unsigned = codes "unsigned"
spelling_of w.Void = codes "void"
spelling_of w.While = codes "while"

abbrev pub rows_of : List Keyword → List (List ℕ × Keyword)
rows_of = map (λ word. (spelling_of word, word))
