use Rattle.object_meaning.proofs.Kept.{store_keeps, store_pointer_keeps, copy_keeps, load_pointer_is, add_keeps, finish_keeps, fill_keeps}
use Rattle.object_meaning.proofs.laws.memory_law.Goals as goal

pub returns : goal.returns
returns c = record {
  store = λ objs v width x w. store_keeps objs w v width x;
  store_pointer = λ objs v x w. store_pointer_keeps objs w v x;
  copy = λ objs to from n w. copy_keeps objs w to from n;
  load_pointer = λ objs v w. load_pointer_is objs w v;
  add = λ objs size writable zeroed w. add_keeps objs w size writable zeroed;
  finish = λ objs o w. finish_keeps objs w o;
  fill = λ objs o bytes w. fill_keeps objs w o bytes;
}
