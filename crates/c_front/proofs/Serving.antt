-- What an accepted source comes to where it is to be compiled.
use Rattle.std.proofs.Common.{◌≡◌, ℕ, List, Option, Some, None, Result, Ok, Err, refl, sym, ap, ◌∙◌}
use Rattle.fc_base.specs.declared.Level.{Level}
use Rattle.fc_base.specs.declared.Refusal.{Refusal}
use Rattle.fc_base.specs.declared.Fault.{Fault}
use Rattle.fc_base.specs.declared.Fault.TheVariants.{Refused, NoMemory}
use Rattle.fc_base.specs.Answers.{Fails}
use Rattle.c_tokens.specs.declared.Token.{Token}
use Rattle.fort_forms.specs.declared.Form.{Form}
use Rattle.fort_forms.specs.Forms.{IsForm}
use Rattle.fort_forms.specs.Reading.{form_of}
use Rattle.fort_forms.proofs.Reading.{form_read, form_found, none_read}
use Rattle.c_front.specs.Front.{Front}
use Rattle.c_front.specs.Served.{IsServed, no_form, some_form, not_this_form, Compiles, refused, served}
use Rattle.c_front.proofs.Phases as phases

-- the outcome of tokens by the form that they are
abbrev pub by_form : Option Form → Result Form Refusal
by_form None = Err not_this_form
by_form (Some form) = Ok form

pub served_so : (tokens : List Token) (o : Option Form) → form_of tokens ≡ o → IsServed tokens (by_form o)
served_so tokens None e = no_form (none_read tokens e)
served_so tokens (Some form) e = let read = form_read tokens form e in some_form read.0 read.1

is_by_form : (tokens : List Token) {out : Result Form Refusal} → IsServed tokens out → out ≡ by_form (form_of tokens)
is_by_form tokens (no_form none) = go (form_of tokens) refl where
  go : (o : Option Form) → form_of tokens ≡ o → Err not_this_form ≡ by_form (form_of tokens)
  go None is = ap by_form (sym is)
  go (Some form) is = let read = form_read tokens form is in absurd (none form read.0 read.1)
is_by_form tokens (some_form {form = form} ok is) = ap by_form (sym (form_found tokens form ok is))

-- what a source comes to, by what the front gives
abbrev by_front : Result (List Token) Refusal → Result Form Refusal
by_front (Err refusal) = Err refusal
by_front (Ok tokens) = by_form (form_of tokens)

module _ (level : Level) (source : List ℕ) where
  pub some : (out : Result Form Refusal) × Compiles level source out
  some = go (phases.some level source).0 (phases.some level source).1 where
    go : (r : Result (List Token) Refusal) → Front level source r → (out : Result Form Refusal) × Compiles level source out
    go (Err refusal) front = (Err refusal, refused front)
    go (Ok tokens) front = (by_form (form_of tokens), served front (served_so tokens (form_of tokens) refl))

  comes : {out : Result Form Refusal} → Compiles level source out → (r : Result (List Token) Refusal) × Front level source r × (out ≡ by_front r)
  comes (refused {refusal = refusal} front) = (Err refusal, front, refl)
  comes (served {tokens = tokens} front is) = (Ok tokens, front, is_by_form tokens is)

  pub one : {a b : Result Form Refusal} → Compiles level source a → Compiles level source b → a ≡ b
  one x y =
      let first = comes x in
      let second = comes y in
      first.2 ∙ (ap by_front (phases.one level source first.1 second.1) ∙ sym second.2)

  -- what a call answers
  pub refused_front : (fault : Fault) → Fails fault (Front level source) → Fails fault (Compiles level source)
  refused_front NoMemory fails = tt
  refused_front (Refused refusal) fails = refused fails

-- a form is within its bounds
pub form_is : {level : Level} {source : List ℕ} {form : Form} → Compiles level source (Ok form) → IsForm form
form_is (served front (some_form ok is)) = ok
