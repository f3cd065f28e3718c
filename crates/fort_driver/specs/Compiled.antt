-- The image that a form is compiled to.
use Rattle.std.specs.Prelude.{◌+◌, List, [], ◌∷◌}
use Rattle.bm_isa.specs.declared.instructions.Instr.{Instr}
use Rattle.bm_isa.specs.declared.instructions.Instr.TheVariants as instr
use Rattle.bm_image.specs.Images.{PlainImage, memset_chk}
use Rattle.byte_machine.specs.Opening.{rounded}
use Rattle.bm_image.specs.declared.images.FnRec.{FnRec}
use Rattle.fort_forms.specs.declared.Form.{Form}
use Rattle.fort_driver.specs.Forms.{form_weight}

-- the checked call with the array's place, the byte, the count and the array's size, then the result
abbrev pub form_code : Form → List Instr
form_code form =
    instr.Slot 0 0 ∷ instr.Const 1 form.byte ∷ instr.Const 2 form.count ∷ instr.Const 3 form.size
    ∷ instr.Argument 0 0 ∷ instr.Argument 1 1 ∷ instr.Argument 2 2 ∷ instr.Argument 3 3
    ∷ instr.Host 0 memset_chk 4 ∷ instr.Const 0 form.result ∷ instr.Return 0 ∷ []

-- main keeps the array in its frame
abbrev pub form_function : Form → FnRec
form_function form = record { first = 0; params = 0; regs = 4; weight = form_weight; frame = rounded (form.size + 1) }

abbrev pub form_image : Form → PlainImage
form_image form = record { functions = form_function form ∷ []; code = form_code form; bytes = []; entry = 0 }
