use Rattle.std.proofs.Common.{sym, ap, ◌∙◌, subst, arith, ◌≡◌, not, nat_eq, true, false}
use Rattle.std.specs.List.{remove}
use Rattle.std.specs.List.Sorted.{IsStrictlyIncreasing}
use Rattle.hg_model.specs.declared.held.HeldLock.{HeldLock}
use Rattle.hg_model.specs.Locks.{counted, without_lock, without_number, IsByRisingLock}
use Rattle.hg_model.proofs.Rising.{rising_filter, counted_rises}
use Rattle.hg_model.proofs.Counting.{map_remove, write_without}
use Rattle.hg_model.proofs.held.HeldLocks.remove.Goals as goal

pub leave_out-requires : goal.leave_out-requires
leave_out-requires c = subst IsStrictlyIncreasing (sym c.self.invariant.1) (counted_rises true c.self.inside.holds.items c.self.invariant.2)

pub invariant_of-self : goal.invariant_of-self
invariant_of-self c =
    let old = c.self.inside.holds.items in
    let new : c.take_out.new.items.items ≡ without_lock c.args.lock old =
    c.take_out.ensures.items ∙ ap (λ hs. remove hs c.in-Some.place) (sym c.as_slice.ensures.value) ∙ c.in-Some.ensures.1 ∙ ap (without_lock c.args.lock) c.as_slice.ensures.value in (
      c.take_out-in-Some.ensures.items ∙ ap (λ ns. remove ns c.in-Some.place) c.self.invariant.0 ∙ sym (map_remove (λ (h : HeldLock). h.lock) old c.in-Some.place) ∙ ap (counted false) (sym c.take_out.ensures.items),
      c.leave_out.ensures ∙ ap (without_number c.args.lock) c.self.invariant.1 ∙ sym (write_without c.args.lock old) ∙ ap (counted true) (sym new),
      subst IsByRisingLock (sym new) (rising_filter (λ (h : HeldLock). not (nat_eq h.lock c.args.lock)) old c.self.invariant.2),
      let most = c.self.invariant.3 in let less = c.take_out.ensures.len in omega arith,
    )
