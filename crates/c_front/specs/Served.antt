-- Which of the accepted sources are compiled so far. This project's own.
use Rattle.std.specs.Prelude.{ℕ, List, Result, Ok, Err}
use Rattle.fc_base.specs.declared.Level.{Level}
use Rattle.fc_base.specs.declared.Refusal.{Refusal}
use Rattle.fc_base.specs.declared.Rule.TheVariants.{NotThisForm}
use Rattle.fort_forms.specs.declared.Form.{Form}
use Rattle.fort_forms.specs.Forms.{IsForm, IsListOf, HaveNoForm}
use Rattle.c_front.specs.Front.{Accepted, Front}

-- the refusal of an accepted source that isn't compiled yet
abbrev pub not_this_form : Refusal
not_this_form = record { rule = NotThisForm; place = record { line = 1; col = 1 } }

-- what a source is compiled from: the form that it is, so far
abbrev pub Compiled : Type 0
Compiled = Form

-- IsServed tokens outcome: what an accepted source with these tokens comes to where it is to be compiled. It is compiled
-- exactly where the tokens are the form's; any other is refused as not-this-form, at the source's start
pub data IsServed (tokens : Accepted) : Result Compiled Refusal → Type 0 where
  no_form : HaveNoForm tokens → IsServed tokens (Err not_this_form)
  some_form : {form : Form} → IsForm form → IsListOf tokens form → IsServed tokens (Ok form)

-- what a source comes to where it is to be compiled: the refusal of the front, or what is made of what that accepts
pub data Compiles (level : Level) (source : List ℕ) : Result Compiled Refusal → Type 0 where
  refused : {refusal : Refusal} → Front level source (Err refusal) → Compiles level source (Err refusal)
  served : {tokens : Accepted} {out : Result Compiled Refusal} → Front level source (Ok tokens) → IsServed tokens out
      → Compiles level source out
