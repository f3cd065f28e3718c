-- What was fetched and kept, as the clauses of the top call say it.
use Rattle.std.proofs.Common.{◌≡◌, ℕ, ◌<◌, ◌≤◌, List, length, false, Option, None, Some, Ok, IsSomeAnd, sym, subst, replicate, suc}
use Rattle.std.proofs.Common.{arith, refl, inl, inr, ◌∙◌}
use Rattle.std.proofs.lemmas.List.{length-replicate}
use Rattle.fc_base.specs.Outside.{Files, IfTold, Puts, KeepsOthers, Rose}
use Rattle.fc_base.specs.declared.faults.FetchFault.{FetchFault}
use Rattle.fc_base.specs.declared.faults.FetchFault.TheVariants as fetch
use Rattle.fc_base.specs.declared.faults.KeepFault.{KeepFault}
use Rattle.fc_base.specs.declared.faults.KeepFault.TheVariants as keep
use Rattle.fc_base.specs.declared.levels.Level.TheVariants.{Three}
use Rattle.fc_base.specs.declared.outside.Store.{Ghosts}
use Rattle.run_meaning.specs.Objects.{StoreState, stored}
use Rattle.fort_forms.specs.declared.Form.{Form}
use Rattle.c_front.proofs.Serving.{form_is}
use Rattle.bm_image.specs.Spelling.{bm_image}
use Rattle.fort_words.specs.Commands.{Command, level_of, sizes_of, fetched_of, image_of, longest_of}
use Rattle.fort_words.specs.Outcomes.{after_fetch, after_keep}
use Rattle.fort_driver.specs.Compiled.{form_image}
use Rattle.fort_driver.specs.Fort.{Holds, CompilesFor, IsCompiled, KeepsImage, NotCompiled, meaning_for}
use Rattle.fort_driver.specs.Agreeing.{Agrees}
use Rattle.fort_driver.proofs.Agreement.{image_ok, agrees, bracketed}

-- what a store tells and counts
abbrev pub told_by : {S : Type 0} → Ghosts S → S → StoreState
told_by ghosts store = stored (ghosts.files store) (ghosts.fetch_count store) (ghosts.keep_count store)

-- a list of more than n bytes
long_list : (n : ℕ) → (bytes : List ℕ) × (n < length bytes)
long_list n = (replicate (suc n) 0, subst (λ k. n < k) (sym (length-replicate (suc n) 0)) (omega arith))

-- bytes that are more than n, where they are told, or any
pub long_source : (n : ℕ) (files : Option Files) (name : List ℕ) → IfTold files (λ f. IsSomeAnd (f name) (λ bytes. n < length bytes))
    → (source : List ℕ) × Holds files name source × (n < length source)
long_source n None name long = let some = long_list n in (some.0, tt, some.1)
long_source n (Some f) name long = go (f name) refl long where
  go : (o : Option (List ℕ)) → f name ≡ o → IsSomeAnd o (λ bytes. n < length bytes)
      → (source : List ℕ) × (f name ≡ Some source) × (n < length source)
  go None is long = absurd long
  go (Some source) is long = (source, is, long)

-- the source is compiled as this form
abbrev pub compiled_as : (command : Command) (old : StoreState) (source read : List ℕ) (form : Form)
    → Holds old.files (fetched_of command) source
    → length source ≤ longest_of command → read ≡ source → CompilesFor command read (Ok form) → IsCompiled command old form
compiled_as command old source read form holds short same_source compiles =
    (source, record { held = holds; short = short }, subst (λ s. CompilesFor command s (Ok form)) same_source compiles)

-- the form's image was kept, for a command at level 3 without sizes
abbrev pub kept_image : (command : Command) (old fetched new : StoreState) (source read bytes : List ℕ) (form : Form)
    → level_of command ≡ Three → sizes_of command ≡ false
    → Holds old.files (fetched_of command) source → length source ≤ longest_of command → fetched.files ≡ old.files → read ≡ source
    → CompilesFor command read (Ok form)
    → bytes ≡ bm_image (form_image form) → Puts (image_of command) bytes fetched.files new.files
    → KeepsImage command old new (form_image form)
kept_image command old fetched new source read bytes form level sizes holds short same_files same_source compiles spelled puts = record {
  compiled = form;
  of_source = compiled_as command old source read form holds short same_source compiles;
  bytes = bytes;
  kept = subst (λ f. Puts (image_of command) bytes f new.files) same_files puts;
  spelled = record { image_ok = image_ok form (form_is compiles); spelled = spelled };
  agrees = subst (λ l. Agrees (form_image form) (meaning_for command form) l (sizes_of command)) (sym level)
      (subst (λ t. Agrees (form_image form) (meaning_for command form) Three t) (sym sizes) (agrees form (form_is compiles)));
  bracketed = bracketed form;
}

-- a fetch that gave no bytes
pub fetch_failed : (fault : FetchFault) (command : Command) (old new : StoreState) → new.files ≡ old.files
    → (fault ≡ fetch.TooLong → IfTold old.files (λ f. IsSomeAnd (f (fetched_of command)) (λ bytes. longest_of command < length bytes)))
    → (fault ≡ fetch.Failed → Rose (old.fetch_faults (fetched_of command)) (new.fetch_faults (fetched_of command)))
    → ((name : List ℕ) → new.keep_faults name ≡ old.keep_faults name) → NotCompiled command (after_fetch fault) old new
fetch_failed fetch.Failed command old new same long rose keeps =
    inl (record { files = same; fetch = rose refl; keep = keeps (image_of command) })
fetch_failed fetch.TooLong command old new same long rose keeps =
    (long_source (longest_of command) old.files (fetched_of command) (long refl), same)
fetch_failed fetch.NoMemory command old new same long rose keeps = inl same

-- a keep that kept nothing, for a source that is compiled. The store stands between them as the fetch left it
pub keep_failed : (fault : KeepFault) (command : Command) (old fetched new : StoreState) (form : Form) → IsCompiled command old form
    → fetched.files ≡ old.files → fetched.fetch_faults (fetched_of command) ≡ old.fetch_faults (fetched_of command)
    → ((name : List ℕ) → fetched.keep_faults name ≡ old.keep_faults name)
    → KeepsOthers (image_of command) fetched.files new.files → (fault ≡ keep.NoMemory → new.files ≡ fetched.files)
    → (fault ≡ keep.Failed → Rose (fetched.keep_faults (image_of command)) (new.keep_faults (image_of command)))
    → ((name : List ℕ) → new.fetch_faults name ≡ fetched.fetch_faults name) → NotCompiled command (after_keep fault) old new
keep_failed keep.Failed command old fetched new form compiled same uncounted keeps others none rose fetches = inr (record {
  files = subst (λ files. KeepsOthers (image_of command) files new.files) same others;
  keep = subst (λ count. Rose count (new.keep_faults (image_of command))) (keeps (image_of command)) (rose refl);
  fetch = fetches (fetched_of command) ∙ uncounted;
  of_source = (form, compiled);
})
keep_failed keep.NoMemory command old fetched new form compiled same uncounted keeps others none rose fetches = inl (none refl ∙ same)
