-- The basic words of a list of specifiers, one behind another.
use Rattle.std.specs.Prelude.{◌==◌, true, false, not, ◌&&◌, if◌then◌else◌, List, fold}
use Rattle.fc_base.specs.declared.levels.Width.TheVariants.{W1, W2, W4, W8}
use Rattle.c_layout.specs.declared.types.CType.{CType}
use Rattle.c_layout.specs.declared.types.CType.TheVariants.{Void, Int}
use Rattle.c_tree.specs.declared.nodes.BasicWord.{BasicWord}
use Rattle.c_tree.specs.declared.nodes.BasicWord.TheVariants as word
use Rattle.elab_types.specs.declared.words.Words.{Words}

abbrev pub no_words : Words
no_words = record { void = false; character = false; short = false; signed = false; unsigned = false; longs = 0 }

abbrev pub with_word : Words → BasicWord → Words
with_word ws word.Void = record ws { void = true }
with_word ws word.Char = record ws { character = true }
with_word ws word.Short = record ws { short = true }
with_word ws word.Int = ws
with_word ws word.Long = record ws { longs = if ws.longs == 0 then 1 else 2 }
with_word ws word.Signed = record ws { signed = true }
with_word ws word.Unsigned = record ws { unsigned = true }

abbrev pub words_of : List BasicWord → Words
words_of = fold with_word no_words

-- the type that they name (C11 6.7.2p2)
abbrev pub word_type : Words → CType
word_type ws =
    let signed = not ws.unsigned in
    if ws.void then Void
    else (if ws.character then Int W1 signed (signed && not ws.signed) false
    else (if ws.short then Int W2 signed false false
    else (if ws.longs == 0 then Int W4 signed false false
    else (if ws.longs == 1 then Int W8 signed false false
    else Int W8 signed false true))))
