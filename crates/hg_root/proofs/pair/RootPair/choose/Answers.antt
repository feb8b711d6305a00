use Rattle.std.proofs.Common.{inl, inr, subst, sym}
use Rattle.hg_root.specs.Finding.{root_in}
use Rattle.hg_root.specs.Newest.{IsBelow}
use Rattle.hg_root.specs.Pairs.{Stands, turned}
use Rattle.hg_root.proofs.Choosing.{due_below, known_so, other_below, stands_so}
use Rattle.hg_root.proofs.pair.RootPair.choose.Goals as goal

pub returns-then-are_due-clause-found : goal.returns-then-are_due-clause-found
returns-then-are_due-clause-found g c one other has has_other =
    let x = root_in c.args.in_older in
    let y = root_in c.args.in_newer in
    let below : IsBelow y x = due_below x y c.number_of.result c.number_of-2.result c.in_ok-are_due.are_due other c.number_of.ensures c.number_of-2.ensures c.in_ok-are_due.ensures.due c.if-are_due.true c.in_ok-are_due.ensures.apart has_other in
    record { below = below; either = inr (has, has_other) }

pub returns-then-are_due-clause-stands : goal.returns-then-are_due-clause-stands
returns-then-are_due-clause-stands g c one other rests rests_other has has_other =
    let x = root_in c.args.in_older in
    let y = root_in c.args.in_newer in
    let below : IsBelow y x = due_below x y c.number_of.result c.number_of-2.result c.in_ok-are_due.are_due other c.number_of.ensures c.number_of-2.ensures c.in_ok-are_due.ensures.due c.if-are_due.true c.in_ok-are_due.ensures.apart has_other in
    let noted = record c.args.self.now { is_closed = c.is_none-self.result; is_other_closed = c.is_none-self-2.result } in
    subst (λ p. Stands g.D.Disk p x y) (sym c.take_turns.ensures.turned)
    (stands_so g.D.Disk (turned noted) y x other one rests_other rests has_other has below (known_so c.args.in_newer c.is_none-self-2.result c.is_none-self-2.ensures) (known_so c.args.in_older c.is_none-self.result c.is_none-self.ensures))

pub returns-clause-found : goal.returns-clause-found
returns-clause-found g c one other has has_other =
    let x = root_in c.args.in_older in
    let y = root_in c.args.in_newer in
    let below : IsBelow x y = other_below x y c.number_of.result c.number_of-2.result c.in_ok-are_due.are_due one c.number_of.ensures c.number_of-2.ensures c.in_ok-are_due.ensures.due c.if-are_due.false c.in_ok-are_due.ensures.apart has in
    record { below = below; either = inl (has, has_other) }

pub returns-clause-stands : goal.returns-clause-stands
returns-clause-stands g c one other rests rests_other has has_other =
    let x = root_in c.args.in_older in
    let y = root_in c.args.in_newer in
    let below : IsBelow x y = other_below x y c.number_of.result c.number_of-2.result c.in_ok-are_due.are_due one c.number_of.ensures c.number_of-2.ensures c.in_ok-are_due.ensures.due c.if-are_due.false c.in_ok-are_due.ensures.apart has in
    let noted = record c.args.self.now { is_closed = c.is_none-self.result; is_other_closed = c.is_none-self-2.result } in
    stands_so g.D.Disk noted x y one other rests rests_other has has_other below (known_so c.args.in_older c.is_none-self.result c.is_none-self.ensures) (known_so c.args.in_newer c.is_none-self-2.result c.is_none-self-2.ensures)
