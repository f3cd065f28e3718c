-- Lists of specifiers as the code keeps them: of the attributes it keeps whether alloc_size is among them.
use Rattle.std.specs.Prelude.{Bool, true, false, ◌||◌, List, [], ◌∷◌, Option, None, Some}
use Rattle.c_layout.specs.declared.types.CType.{CType}
use Rattle.elab_meaning.specs.Declarations as meant
use Rattle.elab_meaning.specs.Declarations.{has_alloc_size, specifiers_part}
use Rattle.elab_meaning.specs.Parts as part
use Rattle.elab_meaning.specs.Parts.{Meant, ReadSpec}
use Rattle.elab_meaning.specs.Typing.{Typing, ◌>>=◌, pure}
use Rattle.elab_types.specs.declared.specifiers.Gathered.{Gathered}
use Rattle.elab_types.specs.declared.specifiers.Meaning.{Meaning}
use Rattle.elab_types.specs.declared.specifiers.Meaning.TheVariants as kept
use Rattle.elab_types.specs.declared.specifiers.Specifiers.{Specifiers}
use Rattle.elab_types.specs.declared.words.Words.{Words}
use Rattle.elab_types.specs.Words.{no_words, with_word, word_type}

-- ---- one specifier

abbrev pub meaning : Meant → Meaning
meaning part.typedef_word = kept.Typedef
meaning part.static_word = kept.Static
meaning part.inline_word = kept.Inline
meaning part.plain_word = kept.Plain
meaning (part.attributes list) = kept.Attributes (has_alloc_size list)
meaning (part.basic w) = kept.Basic w
meaning (part.type t) = kept.Type t

abbrev pub kept_meaning : ReadSpec → Typing Meaning
kept_meaning spec = do
  m ← spec
  pure (meaning m)

-- ---- a list of them

abbrev pub nothing : Gathered
nothing = record { ctype = None; words = no_words; is_typedef = false; is_static = false; is_inline = false; has_alloc_size = false }

-- the first of two, if it is there
abbrev pub or_else : Option CType → CType → Option CType
or_else None t = Some t
or_else (Some s) t = Some s

abbrev pub gathered : Gathered → Meaning → Gathered
gathered g kept.Typedef = record g { is_typedef = true }
gathered g kept.Static = record g { is_static = true }
gathered g kept.Inline = record g { is_inline = true }
gathered g kept.Plain = g
gathered g (kept.Attributes alloc_size) = record g { has_alloc_size = g.has_alloc_size || alloc_size }
gathered g (kept.Basic w) = record g { words = with_word g.words w }
gathered g (kept.Type t) = record g { ctype = or_else g.ctype t }

abbrev pub type_or : Option CType → Words → CType
type_or None words = word_type words
type_or (Some t) words = t

abbrev pub finished : Gathered → Specifiers
finished g = record {
  base = type_or g.ctype g.words;
  is_typedef = g.is_typedef;
  is_static = g.is_static;
  is_inline = g.is_inline;
  has_alloc_size = g.has_alloc_size;
}

-- what these and then the specifiers of a list say
abbrev pub gathered_on : Gathered → List ReadSpec → Typing Specifiers
gathered_on g [] = pure (finished g)
gathered_on g (spec ∷ specs) = do
  m ← kept_meaning spec
  gathered_on (gathered g m) specs

abbrev pub kept_specifiers : meant.Specifiers → Specifiers
kept_specifiers s = record {
  base = s.base;
  is_typedef = s.is_typedef;
  is_static = s.is_static;
  is_inline = s.is_inline;
  has_alloc_size = has_alloc_size s.attributes;
}

-- the specifiers of a list as they are kept
abbrev pub specifiers_kept : List ReadSpec → Typing Specifiers
specifiers_kept specs = do
  s ← specifiers_part specs
  pure (kept_specifiers s)

-- a word that only a function may have
abbrev pub has_words : Specifiers → Bool
has_words s = s.is_inline || s.has_alloc_size
