use Rattle.std.proofs.Common.{length, arith}
use Rattle.hg_sets.proofs.Listed.{found_more}
use Rattle.hg_sets.proofs.lists.slots_for.Goals as goal

pub loop-i-preserved : goal.loop-i-preserved
loop-i-preserved c =
    let put = c.put_in.ensures in
    record {
      len = omega (arith, put.len);
      numbers = put.numbers (length c.args.spans.now) (omega arith) c.loop-i.invariant.numbers;
      one_slot_each = omega (arith, put.one_more, c.loop-i.invariant.one_slot_each);
      found = found_more c.args.elements.now c.args.spans.now c.loop-i.slots.items c.put_in.new.slots.items c.elements_of.result.now c.hash-hash.result c.loop-i.i (omega arith) c.elements_of.ensures c.hash-hash.ensures
          put.found put.kept c.loop-i.invariant.found;
    }
