-- What is opened on an image is runnable.
use Rattle.std.proofs.Common.{◌≡◌, ℕ, ◌+◌, ◌-◌, ◌/◌, ◌<◌, ◌≤◌, ◌==◌, List, [], ◌∷◌, length, replicate, Bool, true, false, cond, vec_len, refl, sym, ◌∙◌, ap, subst, arith}
use Rattle.std.proofs.lemmas.Bool.{eqb-true}
use Rattle.std.proofs.lemmas.List.{length-replicate}
use Rattle.std.proofs.lemmas.List.Sums.{sum_by-cons}
use Rattle.bm_image.specs.declared.images.FnRec.{FnRec}
use Rattle.bm_image.specs.Images.{PlainImage, function_at, IsImage}
use Rattle.byte_machine.specs.declared.machine.Machine.TheInside.{Inside}
use Rattle.byte_machine.specs.State.{Program, weight_of, weights_of, stack_start, stack_frames, stack_weights}
use Rattle.byte_machine.specs.Calls.{Stack}
use Rattle.byte_machine.specs.Opening.{argument_words, argv_address, first_registers, core_at, program_of}
use Rattle.library_meaning.specs.Memory.{memory_size}
use Rattle.byte_machine.specs.View.{program_in, IsCall, AreCallers, IsRunnable}
use Rattle.byte_machine.proofs.Steps.{some_instruction}

-- the entry has the registers that its function has
first_count : (image : PlainImage) (args : List (List ℕ)) → IsImage image
    → length (first_registers (function_at image.functions image.entry) args) ≡ (function_at image.functions image.entry).regs
first_count image args is = go (f.params == 2) refl where
  f : FnRec
  f = function_at image.functions image.entry

  go : (t : Bool) → (f.params == 2) ≡ t
      → length (cond t (length (argument_words args) ∷ argv_address args ∷ replicate (f.regs - 2) 0) (replicate f.regs 0)) ≡ f.regs
  go true two =
      let params : f.params ≡ 2 = eqb-true f.params 2 two in
      let given = (is.code.bounds image.entry is.entry).given in
      let n = f.regs - 2 in
      let zeros : length (replicate {A = ℕ} n 0) ≡ n = length-replicate {A = ℕ} n 0 in
      omega (arith, params, given, zeros)
  go false other = length-replicate {A = ℕ} f.regs 0

pub first_runnable : (m : Inside) (image : PlainImage) (args : List (List ℕ)) (entry : FnRec) → IsImage image → m.functions.items ≡ image.functions
    → m.code.items ≡ image.code → entry ≡ function_at image.functions image.entry
    → m.windows ≡ record { running = (core_at image args (function_at image.functions image.entry)).running; callers = []; room = stack_weights / m.least }
    → m.weights ≡ entry.weight → vec_len m.memory ≡ memory_size → 1 ≤ m.least
    → ((k : ℕ) → k < length image.functions → m.least ≤ (function_at image.functions k).weight) → IsRunnable m
first_runnable m image args entry is functions code here windows weights memory some least =
    let f = function_at image.functions image.entry in
    let light = (is.code.bounds image.entry is.entry).weight in
    let weight = ap (λ (e : FnRec). e.weight) here in
    let running : IsCall (program_of image) (core_at image args f).running = record {
      function = is.entry;
      behind = omega arith;
      before = some_instruction image.functions image.code image.entry is.code is.entry;
      registers = first_count image args is;
    } in
    let sum = sum_by-cons (weight_of (program_of image)) (core_at image args f).running [] in
    let all : m.weights ≡ weights_of (program_of image) ((core_at image args f).running ∷ []) = omega (arith, weights, weight, sum) in
    let same : program_in m ≡ program_of image =
    ap (λ f. record { functions = f; code = m.code.items }) functions ∙ ap (λ c. record { functions = image.functions; code = c }) code in
    record {
      memory = memory;
      code = rw (functions, code) is.code;
      short = rw code is.size;
      running = subst (λ (p : Program). IsCall p m.windows.running) (sym same)
          (subst (λ (s : Stack). IsCall (program_of image) s.running) (sym windows) running);
      callers = subst (λ (s : Stack). AreCallers (program_in m) s.running.base s.callers) (sym windows) refl;
      base = subst (λ (s : Stack). s.running.base ≤ stack_start + stack_frames) (sym windows) (omega arith);
      weights = subst (λ (p : Program). m.weights ≡ weights_of p (m.windows.running ∷ m.windows.callers)) (sym same)
          (subst (λ (s : Stack). m.weights ≡ weights_of (program_of image) (s.running ∷ s.callers)) (sym windows) all);
      few = omega (arith, weights, weight, light);
      some = some;
      least = subst (λ (l : List FnRec). (k : ℕ) → k < length l → m.least ≤ (function_at l k).weight) (sym functions) least;
      room = ap (λ (s : Stack). s.room) windows;
    }
