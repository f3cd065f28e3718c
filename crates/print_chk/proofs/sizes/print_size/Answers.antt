use Rattle.std.proofs.Common.{◌++◌, ◌∷◌, [], Err, Ok, sym, subst}
use Rattle.run_meaning.specs.Events.{mode_number}
use Rattle.run_meaning.specs.Objects.{stream}
use Rattle.print_chk.specs.Written.{Wrote}
use Rattle.print_chk.proofs.Parts.{wrote_both, wrote_first}
use Rattle.print_chk.proofs.SizeParts.{line_part, column_part, mode_part, value_part, in_parts}
use Rattle.print_chk.proofs.sizes.print_size.Goals as goal

pub returns-in-Err : goal.returns-in-Err
returns-in-Err g c =
    let m = mode_number c.args.mode in
    let stop = c.in-Err.stop in
    let x = stream (g.S.Sink.written c.args.sink.now) (g.S.Sink.count c.args.sink.now) in
    let y = stream (g.S.Sink.written c.put_number.new.sink) (g.S.Sink.count c.put_number.new.sink) in
    subst (λ t. Wrote t (Err stop) x y) (sym (in_parts c.args.line c.args.column c.args.value c.args.mode))
    (wrote_first (line_part c.args.line) (column_part c.args.column ++ (mode_part m ++ (value_part c.args.value ++ 10 ∷ []))) stop x y c.in-Err.ensures)

pub returns-in-Err-put_number : goal.returns-in-Err-put_number
returns-in-Err-put_number g c =
    let m = mode_number c.args.mode in
    let stop = c.in-Err-put_number.stop in
    let x = stream (g.S.Sink.written c.args.sink.now) (g.S.Sink.count c.args.sink.now) in
    let y = stream (g.S.Sink.written c.put_number.new.sink) (g.S.Sink.count c.put_number.new.sink) in
    let z = stream (g.S.Sink.written c.put_number-2.new.sink) (g.S.Sink.count c.put_number-2.new.sink) in
    let rest = mode_part m ++ (value_part c.args.value ++ 10 ∷ []) in
    subst (λ t. Wrote t (Err stop) x z) (sym (in_parts c.args.line c.args.column c.args.value c.args.mode))
    (wrote_both (line_part c.args.line) (column_part c.args.column ++ rest) (Err stop) x y z c.in-Ok.ensures
    (wrote_first (column_part c.args.column) rest stop y z c.in-Err-put_number.ensures))

pub returns-in-Err-put_number-2 : goal.returns-in-Err-put_number-2
returns-in-Err-put_number-2 g c =
    let m = mode_number c.args.mode in
    let stop = c.in-Err-put_number-2.stop in
    let x = stream (g.S.Sink.written c.args.sink.now) (g.S.Sink.count c.args.sink.now) in
    let y = stream (g.S.Sink.written c.put_number.new.sink) (g.S.Sink.count c.put_number.new.sink) in
    let z = stream (g.S.Sink.written c.put_number-2.new.sink) (g.S.Sink.count c.put_number-2.new.sink) in
    let u = stream (g.S.Sink.written c.put_number-3.new.sink) (g.S.Sink.count c.put_number-3.new.sink) in
    let rest = value_part c.args.value ++ 10 ∷ [] in
    subst (λ t. Wrote t (Err stop) x u) (sym (in_parts c.args.line c.args.column c.args.value c.args.mode))
    (wrote_both (line_part c.args.line) (column_part c.args.column ++ (mode_part m ++ rest)) (Err stop) x y u c.in-Ok.ensures
    (wrote_both (column_part c.args.column) (mode_part m ++ rest) (Err stop) y z u c.in-Ok-put_number.ensures
    (wrote_first (mode_part m) rest stop z u
    (subst (λ n. Wrote (mode_part n) (Err stop) z u) c.mode_number.ensures c.in-Err-put_number-2.ensures))))

pub returns-in-Err-put_number-3 : goal.returns-in-Err-put_number-3
returns-in-Err-put_number-3 g c =
    let m = mode_number c.args.mode in
    let stop = c.in-Err-put_number-3.stop in
    let x = stream (g.S.Sink.written c.args.sink.now) (g.S.Sink.count c.args.sink.now) in
    let y = stream (g.S.Sink.written c.put_number.new.sink) (g.S.Sink.count c.put_number.new.sink) in
    let z = stream (g.S.Sink.written c.put_number-2.new.sink) (g.S.Sink.count c.put_number-2.new.sink) in
    let u = stream (g.S.Sink.written c.put_number-3.new.sink) (g.S.Sink.count c.put_number-3.new.sink) in
    let v = stream (g.S.Sink.written c.put_number-4.new.sink) (g.S.Sink.count c.put_number-4.new.sink) in
    let rest = value_part c.args.value ++ 10 ∷ [] in
    subst (λ t. Wrote t (Err stop) x v) (sym (in_parts c.args.line c.args.column c.args.value c.args.mode))
    (wrote_both (line_part c.args.line) (column_part c.args.column ++ (mode_part m ++ rest)) (Err stop) x y v c.in-Ok.ensures
    (wrote_both (column_part c.args.column) (mode_part m ++ rest) (Err stop) y z v c.in-Ok-put_number.ensures
    (wrote_both (mode_part m) rest (Err stop) z u v (subst (λ n. Wrote (mode_part n) (Ok tt) z u) c.mode_number.ensures c.in-Ok-put_number-2.ensures)
    (wrote_first (value_part c.args.value) (10 ∷ []) stop u v c.in-Err-put_number-3.ensures))))

pub returns : goal.returns
returns g c =
    let m = mode_number c.args.mode in
    let r = c.put.result in
    let x = stream (g.S.Sink.written c.args.sink.now) (g.S.Sink.count c.args.sink.now) in
    let y = stream (g.S.Sink.written c.put_number.new.sink) (g.S.Sink.count c.put_number.new.sink) in
    let z = stream (g.S.Sink.written c.put_number-2.new.sink) (g.S.Sink.count c.put_number-2.new.sink) in
    let u = stream (g.S.Sink.written c.put_number-3.new.sink) (g.S.Sink.count c.put_number-3.new.sink) in
    let v = stream (g.S.Sink.written c.put_number-4.new.sink) (g.S.Sink.count c.put_number-4.new.sink) in
    let w = stream (g.S.Sink.written c.put.new.sink) (g.S.Sink.count c.put.new.sink) in
    let rest = value_part c.args.value ++ 10 ∷ [] in
    subst (λ t. Wrote t r x w) (sym (in_parts c.args.line c.args.column c.args.value c.args.mode))
    (wrote_both (line_part c.args.line) (column_part c.args.column ++ (mode_part m ++ rest)) r x y w c.in-Ok.ensures
    (wrote_both (column_part c.args.column) (mode_part m ++ rest) r y z w c.in-Ok-put_number.ensures
    (wrote_both (mode_part m) rest r z u w (subst (λ n. Wrote (mode_part n) (Ok tt) z u) c.mode_number.ensures c.in-Ok-put_number-2.ensures)
    (wrote_both (value_part c.args.value) (10 ∷ []) r u v w c.in-Ok-put_number-3.ensures c.put.ensures))))
