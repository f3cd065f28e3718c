use Rattle.std.proofs.Common.{◌≡◌, [], ◌∷◌, true, refl, sym, subst}
use Rattle.c_library.specs.declared.functions.LibFn.TheVariants as fn
use Rattle.library_meaning.specs.Table as table
use Rattle.object_meaning.specs.LibraryCalls.{row_for}
use Rattle.object_meaning.specs.declared.values.Value.TheVariants.{Int, Pointer}
use Rattle.src_lib.specs.Acts.{DoesBy}
use Rattle.src_lib.specs.Requests.{is_typed}
use Rattle.src_lib.proofs.Acting.{does_by, one_and_count, one_and_counts, one_pointer, two_and_count, two_pointers, typed_is}
use Rattle.src_lib.proofs.acts.run_row.Goals as goal

pub returns-in-Memcpy : goal.returns-in-Memcpy
returns-in-Memcpy c w =
    let args = c.args.args.now in
    let old = c.args.memory.now in
    subst (λ f. DoesBy f args w (row_for f 0 c.args.size) old c.memcpy.new.memory c.memcpy.result) (sym c.in-Memcpy.is)
    (does_by fn.Memcpy args (Pointer c.pointer_at-first.result ∷ Pointer c.pointer_at-second.result ∷ Int c.number_at.result ∷ []) w (table.memcpy c.args.size) old c.memcpy.new.memory
    c.memcpy.result (two_and_count args c.pointer_at-first.result c.pointer_at-second.result c.number_at.result c.pointer_at-first.ensures c.pointer_at-second.ensures c.number_at.ensures
    (typed_is fn.Memcpy args refl (subst (λ f. is_typed f args ≡ true) c.in-Memcpy.is c.requires.typed) c.requires.given)) (λ v. refl)
    (c.memcpy.ensures w))

pub returns-in-Memmove : goal.returns-in-Memmove
returns-in-Memmove c w =
    let args = c.args.args.now in
    let old = c.args.memory.now in
    subst (λ f. DoesBy f args w (row_for f 0 c.args.size) old c.memmove.new.memory c.memmove.result) (sym c.in-Memmove.is)
    (does_by fn.Memmove args (Pointer c.pointer_at-first.result ∷ Pointer c.pointer_at-second.result ∷ Int c.number_at-in-Memmove.result ∷ []) w (table.memmove c.args.size) old c.memmove.new.memory
    c.memmove.result (two_and_count args c.pointer_at-first.result c.pointer_at-second.result c.number_at-in-Memmove.result c.pointer_at-first.ensures c.pointer_at-second.ensures c.number_at-in-Memmove.ensures
    (typed_is fn.Memmove args refl (subst (λ f. is_typed f args ≡ true) c.in-Memmove.is c.requires.typed) c.requires.given)) (λ v. refl)
    (c.memmove.ensures w))

pub returns-in-Mempcpy : goal.returns-in-Mempcpy
returns-in-Mempcpy c w =
    let args = c.args.args.now in
    let old = c.args.memory.now in
    subst (λ f. DoesBy f args w (row_for f 0 c.args.size) old c.mempcpy.new.memory c.mempcpy.result) (sym c.in-Mempcpy.is)
    (does_by fn.Mempcpy args (Pointer c.pointer_at-first.result ∷ Pointer c.pointer_at-second.result ∷ Int c.number_at-in-Mempcpy.result ∷ []) w (table.mempcpy c.args.size) old c.mempcpy.new.memory
    c.mempcpy.result (two_and_count args c.pointer_at-first.result c.pointer_at-second.result c.number_at-in-Mempcpy.result c.pointer_at-first.ensures c.pointer_at-second.ensures c.number_at-in-Mempcpy.ensures
    (typed_is fn.Mempcpy args refl (subst (λ f. is_typed f args ≡ true) c.in-Mempcpy.is c.requires.typed) c.requires.given)) (λ v. refl)
    (c.mempcpy.ensures w))

pub returns-in-Memset : goal.returns-in-Memset
returns-in-Memset c w =
    let args = c.args.args.now in
    let old = c.args.memory.now in
    subst (λ f. DoesBy f args w (row_for f 0 c.args.size) old c.memset.new.memory c.memset.result) (sym c.in-Memset.is)
    (does_by fn.Memset args (Pointer c.pointer_at-first.result ∷ Int c.number_at-in-Memset.result ∷ Int c.number_at-in-Memset-2.result ∷ []) w (table.memset c.args.size) old c.memset.new.memory
    c.memset.result (one_and_counts args c.pointer_at-first.result c.number_at-in-Memset.result c.number_at-in-Memset-2.result c.pointer_at-first.ensures c.number_at-in-Memset.ensures c.number_at-in-Memset-2.ensures
    (typed_is fn.Memset args refl (subst (λ f. is_typed f args ≡ true) c.in-Memset.is c.requires.typed) c.requires.given)) (λ v. refl)
    (c.memset.ensures w))

pub returns-in-Memcmp : goal.returns-in-Memcmp
returns-in-Memcmp c w =
    let args = c.args.args.now in
    let old = c.args.memory.now in
    subst (λ f. DoesBy f args w (row_for f 0 c.args.size) old c.args.memory.now c.memcmp.result) (sym c.in-Memcmp.is)
    (does_by fn.Memcmp args (Pointer c.pointer_at-first.result ∷ Pointer c.pointer_at-second.result ∷ Int c.number_at-in-Memcmp.result ∷ []) w table.memcmp old c.args.memory.now
    c.memcmp.result (two_and_count args c.pointer_at-first.result c.pointer_at-second.result c.number_at-in-Memcmp.result c.pointer_at-first.ensures c.pointer_at-second.ensures c.number_at-in-Memcmp.ensures
    (typed_is fn.Memcmp args refl (subst (λ f. is_typed f args ≡ true) c.in-Memcmp.is c.requires.typed) c.requires.given)) (λ v. refl)
    (c.memcmp.ensures w))

pub returns-in-Strcpy : goal.returns-in-Strcpy
returns-in-Strcpy c w =
    let args = c.args.args.now in
    let old = c.args.memory.now in
    subst (λ f. DoesBy f args w (row_for f 0 c.args.size) old c.strcpy.new.memory c.strcpy.result) (sym c.in-Strcpy.is)
    (does_by fn.Strcpy args (Pointer c.pointer_at-first.result ∷ Pointer c.pointer_at-second.result ∷ []) w (table.strcpy c.args.size) old c.strcpy.new.memory
    c.strcpy.result (two_pointers args c.pointer_at-first.result c.pointer_at-second.result c.pointer_at-first.ensures c.pointer_at-second.ensures
    (typed_is fn.Strcpy args refl (subst (λ f. is_typed f args ≡ true) c.in-Strcpy.is c.requires.typed) c.requires.given)) (λ v. refl)
    (c.strcpy.ensures w))

pub returns-in-Stpcpy : goal.returns-in-Stpcpy
returns-in-Stpcpy c w =
    let args = c.args.args.now in
    let old = c.args.memory.now in
    subst (λ f. DoesBy f args w (row_for f 0 c.args.size) old c.stpcpy.new.memory c.stpcpy.result) (sym c.in-Stpcpy.is)
    (does_by fn.Stpcpy args (Pointer c.pointer_at-first.result ∷ Pointer c.pointer_at-second.result ∷ []) w (table.stpcpy c.args.size) old c.stpcpy.new.memory
    c.stpcpy.result (two_pointers args c.pointer_at-first.result c.pointer_at-second.result c.pointer_at-first.ensures c.pointer_at-second.ensures
    (typed_is fn.Stpcpy args refl (subst (λ f. is_typed f args ≡ true) c.in-Stpcpy.is c.requires.typed) c.requires.given)) (λ v. refl)
    (c.stpcpy.ensures w))

pub returns-in-Strncpy : goal.returns-in-Strncpy
returns-in-Strncpy c w =
    let args = c.args.args.now in
    let old = c.args.memory.now in
    subst (λ f. DoesBy f args w (row_for f 0 c.args.size) old c.strncpy.new.memory c.strncpy.result) (sym c.in-Strncpy.is)
    (does_by fn.Strncpy args (Pointer c.pointer_at-first.result ∷ Pointer c.pointer_at-second.result ∷ Int c.number_at-in-Strncpy.result ∷ []) w (table.strncpy c.args.size) old c.strncpy.new.memory
    c.strncpy.result (two_and_count args c.pointer_at-first.result c.pointer_at-second.result c.number_at-in-Strncpy.result c.pointer_at-first.ensures c.pointer_at-second.ensures c.number_at-in-Strncpy.ensures
    (typed_is fn.Strncpy args refl (subst (λ f. is_typed f args ≡ true) c.in-Strncpy.is c.requires.typed) c.requires.given)) (λ v. refl)
    (c.strncpy.ensures w))

pub returns-in-Strcat : goal.returns-in-Strcat
returns-in-Strcat c w =
    let args = c.args.args.now in
    let old = c.args.memory.now in
    subst (λ f. DoesBy f args w (row_for f 0 c.args.size) old c.strcat.new.memory c.strcat.result) (sym c.in-Strcat.is)
    (does_by fn.Strcat args (Pointer c.pointer_at-first.result ∷ Pointer c.pointer_at-second.result ∷ []) w (table.strcat c.args.size) old c.strcat.new.memory
    c.strcat.result (two_pointers args c.pointer_at-first.result c.pointer_at-second.result c.pointer_at-first.ensures c.pointer_at-second.ensures
    (typed_is fn.Strcat args refl (subst (λ f. is_typed f args ≡ true) c.in-Strcat.is c.requires.typed) c.requires.given)) (λ v. refl)
    (c.strcat.ensures w))

pub returns-in-Strncat : goal.returns-in-Strncat
returns-in-Strncat c w =
    let args = c.args.args.now in
    let old = c.args.memory.now in
    subst (λ f. DoesBy f args w (row_for f 0 c.args.size) old c.strncat.new.memory c.strncat.result) (sym c.in-Strncat.is)
    (does_by fn.Strncat args (Pointer c.pointer_at-first.result ∷ Pointer c.pointer_at-second.result ∷ Int c.number_at-in-Strncat.result ∷ []) w (table.strncat c.args.size) old c.strncat.new.memory
    c.strncat.result (two_and_count args c.pointer_at-first.result c.pointer_at-second.result c.number_at-in-Strncat.result c.pointer_at-first.ensures c.pointer_at-second.ensures c.number_at-in-Strncat.ensures
    (typed_is fn.Strncat args refl (subst (λ f. is_typed f args ≡ true) c.in-Strncat.is c.requires.typed) c.requires.given)) (λ v. refl)
    (c.strncat.ensures w))

pub returns-in-Strlen : goal.returns-in-Strlen
returns-in-Strlen c w =
    let args = c.args.args.now in
    let old = c.args.memory.now in
    subst (λ f. DoesBy f args w (row_for f 0 c.args.size) old c.args.memory.now c.strlen.result) (sym c.in-Strlen.is)
    (does_by fn.Strlen args (Pointer c.pointer_at-first.result ∷ []) w table.strlen old c.args.memory.now
    c.strlen.result (one_pointer args c.pointer_at-first.result c.pointer_at-first.ensures
    (typed_is fn.Strlen args refl (subst (λ f. is_typed f args ≡ true) c.in-Strlen.is c.requires.typed) c.requires.given)) (λ v. refl)
    (c.strlen.ensures w))

pub returns-in-Strcmp : goal.returns-in-Strcmp
returns-in-Strcmp c w =
    let args = c.args.args.now in
    let old = c.args.memory.now in
    subst (λ f. DoesBy f args w (row_for f 0 c.args.size) old c.args.memory.now c.strcmp.result) (sym c.in-Strcmp.is)
    (does_by fn.Strcmp args (Pointer c.pointer_at-first.result ∷ Pointer c.pointer_at-second.result ∷ []) w table.strcmp old c.args.memory.now
    c.strcmp.result (two_pointers args c.pointer_at-first.result c.pointer_at-second.result c.pointer_at-first.ensures c.pointer_at-second.ensures
    (typed_is fn.Strcmp args refl (subst (λ f. is_typed f args ≡ true) c.in-Strcmp.is c.requires.typed) c.requires.given)) (λ v. refl)
    (c.strcmp.ensures w))

pub returns-in-Strchr : goal.returns-in-Strchr
returns-in-Strchr c w =
    let args = c.args.args.now in
    let old = c.args.memory.now in
    subst (λ f. DoesBy f args w (row_for f 0 c.args.size) old c.args.memory.now c.strchr.result) (sym c.in-Strchr.is)
    (does_by fn.Strchr args (Pointer c.pointer_at-first.result ∷ Int c.number_at-in-Strchr.result ∷ []) w table.strchr old c.args.memory.now
    c.strchr.result (one_and_count args c.pointer_at-first.result c.number_at-in-Strchr.result c.pointer_at-first.ensures c.number_at-in-Strchr.ensures
    (typed_is fn.Strchr args refl (subst (λ f. is_typed f args ≡ true) c.in-Strchr.is c.requires.typed) c.requires.given)) (λ v. refl)
    (c.strchr.ensures w))
