-- How the form is read off its tokens: its numbers at their places, and then every token compared. `proofs/Reading` shows
-- that this is the form that the tokens are, and none where they are no form's.
use Rattle.std.specs.Prelude.{ℕ, ◌^◌, ◌&&◌, nat_lt, nat_le, Bool, if◌then◌else◌, List, slice_get, Option, Some, None, option_and_then}
use Rattle.std.specs.Cmp.Lexicographic.{pointwise}
use Rattle.c_tokens.specs.declared.Token.{Token}
use Rattle.c_tokens.specs.declared.TokenKind.{TokenKind}
use Rattle.c_tokens.specs.declared.TokenKind.TheVariants as kind
use Rattle.macro_meaning.specs.Definitions.{number_token}
use Rattle.macro_meaning.specs.Origins.{kinds as kinds_of}
use Rattle.macro_meaning.specs.Sameness.{same_kind}
use Rattle.fort_forms.specs.declared.forms.Form.{Form}
use Rattle.fort_forms.specs.declared.forms.Expected.{Expected}
use Rattle.fort_forms.specs.declared.forms.Expected.TheVariants.{Include, Name, Mark, Number}
use Rattle.fort_forms.specs.Forms.{form_kinds, before_call, name, mark}

-- the kind of token that a part of the form is
abbrev pub part_kind : Expected → TokenKind
part_kind (Include header) = kind.Header header
part_kind (Name text) = name text.now
part_kind (Mark p) = mark p
part_kind (Number n) = number_token n

-- the value of an integer literal, where it fits 32 bits
abbrev pub value_of : TokenKind → Option ℕ
value_of (kind.Number value k) = if nat_lt value (2 ^ 32) then Some value else None
value_of _ = None

abbrev pub value_at : List Token → ℕ → Option ℕ
value_at tokens i = option_and_then (λ t. value_of t.kind) (slice_get tokens i)

abbrev pub made_of : Option ℕ → Option ℕ → Option ℕ → Option ℕ → Option Token → Option Form
made_of (Some size) (Some byte) (Some count) (Some result) (Some call) =
    Some (record { size = size; byte = byte; count = count; result = result; call = call.place })
made_of _ _ _ _ _ = None

-- the form that the tokens are, if they are any
abbrev pub candidate : List Token → Option Form
candidate tokens = made_of (value_at tokens 10) (value_at tokens 17) (value_at tokens 19) (value_at tokens 23) (slice_get tokens before_call)

abbrev pub is_form : Form → Bool
is_form form = nat_le 1 form.size && nat_le form.size 4096 && nat_le form.byte 255 && nat_le form.count 65535 && nat_le form.result 255

abbrev pub same_kinds : List TokenKind → List TokenKind → Bool
same_kinds = pointwise same_kind

abbrev pub checked : List Token → Form → Option Form
checked tokens form = if is_form form && same_kinds (kinds_of tokens) (form_kinds form) then Some form else None

unfoldable pub form_of : List Token → Option Form
form_of tokens = option_and_then (checked tokens) (candidate tokens)
