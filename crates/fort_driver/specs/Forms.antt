-- The plain meaning of the one form of source that is compiled so far.
use Rattle.std.specs.Prelude.{ℕ, ◌+◌, List, [], ◌∷◌, true, false, nat_lt, Some}
use Rattle.run_meaning.specs.Events.{Event, Asked, Check}
use Rattle.run_meaning.specs.Runs.{Standing, Ended}
use Rattle.fc_base.specs.declared.levels.End.TheVariants as ends
use Rattle.fc_base.specs.declared.levels.Level.{Level}
use Rattle.fc_base.specs.declared.levels.Mode.TheVariants as modes
use Rattle.byte_machine.specs.Opening.{rounded}
use Rattle.fort_forms.specs.declared.Form.{Form}
use Rattle.c_front.specs.Served.{Compiled}
use Rattle.fort_driver.specs.Agreeing.{Meaning}

-- the events of the form's plain meaning (C11 7.24.6.1, glibc's `__memset_chk`): the size of the array is asked in mode 0. The
-- array is a named object, so its pointer is resolved, and the size is its true size. The call exceeds where it sets more
-- bytes than that
abbrev pub form_events : Form → List Event
form_events form =
    Asked form.call modes.M0 form.size (Some form.size) true false ∷ Check form.call form.size (nat_lt form.size form.count) ∷ []

-- how the form ends
abbrev pub form_end : Form → Standing
form_end form = Ended (ends.Exit form.result)

-- the weight of the form's main: nine nodes, a return among the joins, no register variable
abbrev pub form_weight : ℕ
form_weight = 672

-- the form has one function, which keeps the array in its frame. It takes nothing and no step, so every bound shows all
abbrev pub form_meaning : Form → Meaning
form_meaning form = record {
  functions = record { weight = form_weight; frame = rounded (form.size + 1) } ∷ [];
  main = 0;
  plain = λ args input n. (form_events form, form_end form);
}

-- what a compiled source means at a level
abbrev pub meaning_of : Level → Compiled → Meaning
meaning_of level form = form_meaning form
