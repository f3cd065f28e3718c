-- What is read off a list of tokens is the form that it is, and the only one.
use Rattle.std.proofs.Common.{◌≡◌, ℕ, ◌<◌, ◌^◌, ◌&&◌, Bool, true, false, if◌then◌else◌, List, Option, Some, None, option_map, slice_get, refl, sym, ap, subst, ◌∙◌, arith}
use Rattle.std.specs.Prelude.{option_and_then}
use Rattle.std.proofs.lemmas.Bool.{and_parts, and_from, leb-true, le-leb, lt-ltb}
use Rattle.std.proofs.lemmas.Option.{slice_get-map}
use Rattle.fc_base.specs.declared.Place.{Place}
use Rattle.c_tokens.specs.declared.Token.{Token}
use Rattle.c_tokens.specs.declared.TokenKind.{TokenKind}
use Rattle.fort_forms.specs.declared.forms.Form.{Form}
use Rattle.fort_forms.specs.Forms.{IsForm, IsListOf, HaveNoForm, form_kinds, before_call}
use Rattle.macro_meaning.specs.Definitions.{number_token}
use Rattle.macro_meaning.specs.Origins.{kinds as kinds_of}
use Rattle.fort_forms.specs.Reading.{value_of, value_at, made_of, candidate, is_form, same_kinds, checked, form_of}
use Rattle.fort_forms.proofs.Sameness.{kinds_decide}

-- ---- the bounds

within : (form : Form) → is_form form ≡ true → IsForm form
within form e =
    let a = and_parts _ _ e in
    let b = and_parts _ _ a.0 in
    let c = and_parts _ _ b.0 in
    let d = and_parts _ _ c.0 in
    record {
      some = leb-true 1 form.size d.0;
      size = leb-true form.size 4096 d.1;
      byte = leb-true form.byte 255 c.1;
      count = leb-true form.count 65535 b.1;
      result = leb-true form.result 255 a.1;
    }

bounded : (form : Form) → IsForm form → is_form form ≡ true
bounded form ok =
    and_from _ _ (and_from _ _ (and_from _ _ (and_from _ _ (le-leb 1 form.size ok.some) (le-leb form.size 4096 ok.size))
    (le-leb form.byte 255 ok.byte)) (le-leb form.count 65535 ok.count)) (le-leb form.result 255 ok.result)

-- ---- what is read is the form

-- the call's place is that of its token
place_read : (size byte count result : Option ℕ) (call : Option Token) (form : Form) → made_of size byte count result call ≡ Some form
    → option_map (λ t. t.place) call ≡ Some form.call
place_read (Some size) (Some byte) (Some count) (Some result) (Some call) form e = ap (option_map (λ (f : Form). f.call)) e
place_read (Some size) (Some byte) (Some count) (Some result) None form e = absurd (cc)
place_read (Some size) (Some byte) (Some count) None call form e = absurd (cc)
place_read (Some size) (Some byte) None result call form e = absurd (cc)
place_read (Some size) None count result call form e = absurd (cc)
place_read None byte count result call form e = absurd (cc)

pub form_read : (tokens : List Token) (form : Form) → form_of tokens ≡ Some form → IsForm form × IsListOf tokens form
unfolding form_of
form_read tokens form e = from (candidate tokens) refl e where
  tested : (f : Form) (t : Bool) → candidate tokens ≡ Some f → (is_form f && same_kinds (kinds_of tokens) (form_kinds f)) ≡ t → (if t then Some f else None) ≡ Some form
      → IsForm form × IsListOf tokens form
  tested f true made test e =
      let parts = and_parts (is_form f) (same_kinds (kinds_of tokens) (form_kinds f)) test in
      let same : f ≡ form = cc in
      subst (λ x. IsForm x × IsListOf tokens x) same (
        within f parts.0,
        record { kinds = (kinds_decide (kinds_of tokens) (form_kinds f)).0 parts.1; call = place_read _ _ _ _ _ f made },
      )
  tested f false made test e = absurd (cc)

  from : (o : Option Form) → candidate tokens ≡ o → option_and_then (checked tokens) o ≡ Some form → IsForm form × IsListOf tokens form
  from None made e = absurd (cc)
  from (Some f) made e = tested f (is_form f && same_kinds (kinds_of tokens) (form_kinds f)) made refl e

-- ---- the form is read

-- a number at its place
number_read : (tokens : List Token) (kinds : List TokenKind) (i n : ℕ) → kinds_of tokens ≡ kinds → slice_get kinds i ≡ Some (number_token n) → n < 2 ^ 32 → value_at tokens i ≡ Some n
number_read tokens kinds i n same here small =
    through (slice_get tokens i)
    ∙ (ap (option_and_then value_of) (sym (slice_get-map (λ (t : Token). t.kind) tokens i) ∙ (ap (λ l. slice_get l i) same ∙ here))
    ∙ ap (λ t. if t then Some n else None) (lt-ltb n (2 ^ 32) small)) where
      through : (o : Option Token) → option_and_then (λ t. value_of t.kind) o ≡ option_and_then value_of (option_map (λ t. t.kind) o)
      through None = refl
      through (Some t) = refl

call_read : (call : Option Token) (form : Form) → option_map (λ t. t.place) call ≡ Some form.call
    → made_of (Some form.size) (Some form.byte) (Some form.count) (Some form.result) call ≡ Some form
call_read None form e = absurd (cc)
call_read (Some t) form e =
    let place : t.place ≡ form.call = cc in
    ap (λ (p : Place). made_form p) place where
      made_form : Place → Option Form
      made_form p = Some (record { size = form.size; byte = form.byte; count = form.count; result = form.result; call = p })

candidate_is : (tokens : List Token) (form : Form) → IsForm form → IsListOf tokens form → candidate tokens ≡ Some form
unfolding form_kinds
candidate_is tokens form ok is =
    let size = number_read tokens (form_kinds form) 10 form.size is.kinds refl (omega arith) in
    let byte = number_read tokens (form_kinds form) 17 form.byte is.kinds refl (omega arith) in
    let count = number_read tokens (form_kinds form) 19 form.count is.kinds refl (omega arith) in
    let result = number_read tokens (form_kinds form) 23 form.result is.kinds refl (omega arith) in
    (λ i. made_of (size i) (byte i) (count i) (result i) (slice_get tokens before_call)) ∙ call_read (slice_get tokens before_call) form is.call

pub form_found : (tokens : List Token) (form : Form) → IsForm form → IsListOf tokens form → form_of tokens ≡ Some form
unfolding form_of
form_found tokens form ok is =
    let all = and_from _ _ (bounded form ok) ((kinds_decide (kinds_of tokens) (form_kinds form)).1 is.kinds) in
    ap (option_and_then (checked tokens)) (candidate_is tokens form ok is) ∙ ap (λ t. if t then Some form else None) all

-- where none is read there is none
pub none_read : (tokens : List Token) → form_of tokens ≡ None → HaveNoForm tokens
none_read tokens e = λ form ok is. let found = form_found tokens form ok is in absurd (cc)
