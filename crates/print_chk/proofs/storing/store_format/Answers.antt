use Rattle.std.proofs.Common.{◌≤◌, length, sym, subst, arith}
use Rattle.print_texts.specs.Printing.{conversion_text}
use Rattle.print_texts.specs.declared.parts.Part.TheVariants as parts
use Rattle.print_chk.specs.Stored.{Stores}
use Rattle.print_chk.proofs.Puts.{begun, converts_now, ended, high_room, low_room, malformed, part_is, reads_far, same_format, went_conversion, went_run}
use Rattle.print_chk.proofs.storing.store_format.Goals as goal

pub loop-left-init : goal.loop-left-init
loop-left-init c = record {
  size = c.requires.size;
  inside = omega arith;
  few = omega arith;
  so_far = begun c.args.args.now c.args.mem.now c.args.format c.args.room c.requires.is c.requires.apart;
}

pub part_at-requires-clause-inside : goal.part_at-requires-clause-inside
part_at-requires-clause-inside c = subst (λ b. c.loop-left.at ≤ length b) (sym (same_format c.loop-left.invariant.so_far (omega arith) c.requires.far)) c.loop-left.invariant.inside

pub returns-in-End-clause-stores : goal.returns-in-End-clause-stores
returns-in-End-clause-stores c = ended c.loop-left.invariant.so_far (omega arith) (part_is c.loop-left.invariant.so_far (omega arith) c.requires.far parts.End c.in-End.ensures)

pub store_copy-left-requires-clause-low : goal.store_copy-left-requires-clause-low
store_copy-left-requires-clause-low c =
    let low = low_room c.loop-left.invariant.so_far (omega arith) in
    omega arith

pub store_copy-left-requires-clause-high : goal.store_copy-left-requires-clause-high
store_copy-left-requires-clause-high c =
    let high = high_room c.loop-left.invariant.so_far (omega arith) in
    omega arith

pub loop-left-preserved-in-Run : goal.loop-left-preserved-in-Run
loop-left-preserved-in-Run c =
    let behind = c.in-Run.behind in
    let part = part_is c.loop-left.invariant.so_far (omega arith) c.requires.far (parts.Run c.in-Run.from behind) c.in-Run.ensures in
    let up = part.1 in
    record {
      size = c.store_copy-left.ensures.same_size;
      inside = part.2;
      few = omega arith;
      so_far = went_run c.loop-left.invariant.so_far (omega arith) c.requires.far c.in-Run.from behind c.store_copy-left.new.mem c.store_copy-left.result c.in-Run.ensures c.requires.is.long c.store_copy-left.ensures.stores;
    }

pub store_conversion-left-requires-clause-low : goal.store_conversion-left-requires-clause-low
store_conversion-left-requires-clause-low c =
    let low = low_room c.loop-left.invariant.so_far (omega arith) in
    omega arith

pub store_conversion-left-requires-clause-high : goal.store_conversion-left-requires-clause-high
store_conversion-left-requires-clause-high c =
    let high = high_room c.loop-left.invariant.so_far (omega arith) in
    omega arith

pub store_conversion-left-requires-clause-valid : goal.store_conversion-left-requires-clause-valid
store_conversion-left-requires-clause-valid c = rw c.argument.ensures (converts_now c.loop-left.invariant.so_far (omega arith) c.requires.far c.in-Converted.conversion c.in-Converted.behind c.in-Converted.ensures)

pub store_conversion-left-requires-clause-apart : goal.store_conversion-left-requires-clause-apart
store_conversion-left-requires-clause-apart c = rw c.argument.ensures (reads_far c.loop-left.invariant.so_far (omega arith) c.requires.far c.in-Converted.conversion c.in-Converted.behind c.in-Converted.ensures)

pub overflow_add-next : goal.overflow_add-next
overflow_add-next c = omega (arith, c.requires.is.long)

pub loop-left-preserved : goal.loop-left-preserved
loop-left-preserved c =
    let conversion = c.in-Converted.conversion in
    let now = c.loop-left.mem in
    let left = c.loop-left.left in
    let behind = c.in-Converted.behind in
    let new = c.store_conversion-left.new.mem in
    let rest = c.store_conversion-left.result in
    let part = part_is c.loop-left.invariant.so_far (omega arith) c.requires.far (parts.Converted conversion behind) c.in-Converted.ensures in
    let up = part.1 in
    record {
      size = c.store_conversion-left.ensures.same_size;
      inside = part.2;
      few = omega arith;
      so_far = went_conversion c.loop-left.invariant.so_far (omega arith) c.requires.far conversion behind c.in-Converted.ensures new rest
          (subst (λ v. Stores (conversion_text now conversion v) left now new rest) c.argument.ensures c.store_conversion-left.ensures.stores);
    }

pub unreachable-requires : goal.unreachable-requires
unreachable-requires c = malformed c.loop-left.invariant.so_far (omega arith) c.requires.far c.in-Malformed.ensures
