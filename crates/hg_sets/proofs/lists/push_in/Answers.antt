use Rattle.std.proofs.Common.{◌≡◌, ◌+◌, ◌++◌, length, arith}
use Rattle.hg_sets.specs.Listing.{HoldNumbers}
use Rattle.hg_sets.proofs.Listed.{lists_pushed, more_listed}
use Rattle.hg_sets.proofs.lists.push_in.Goals as goal
use Rattle.hg_sets.proofs.lists.push_in.Goals.{After-push_reserved}

-- the elements are those that were there and those of the list
longer : (c : After-push_reserved) → c.extend_from_slice.new.self.items ≡ c.args.elements.now.items ++ c.args.list.now
longer c = rw c.unwrap.ensures at c.extend_from_slice.ensures.items

pub returns-clause-listed : goal.returns-clause-listed
returns-clause-listed c =
    let put = c.put_in.ensures in
    let h = c.requires.listed in
    let elements = c.args.elements.now.items in
    let spans = c.args.spans.now.items in
    let next : c.len-2.result + 1 ≡ length spans + 1 = omega arith in
    let numbers : HoldNumbers (length spans + 1) c.put_in.new.slots.items =
    rw (← next) (put.numbers (c.len-2.result + 1) (omega arith) (λ k d lt. omega (arith, h.numbers k d lt))) in
    rw (longer (goal.at.returns-clause-listed c).After-push_reserved, c.push_reserved.ensures.items)
    (more_listed elements c.args.list.now spans _ c.args.slots.now.items c.put_in.new.slots.items c.args.hash h
    (omega (arith, c.requires.element_room)) (omega (arith, c.requires.list_room)) (omega arith) (omega arith) c.is_of_threads.ensures
    c.requires.hash put.len put.one_more numbers (rw (← next) put.found) put.kept)

pub returns-clause-all : goal.returns-clause-all
returns-clause-all c =
    rw (longer (goal.at.returns-clause-all c).After-push_reserved, c.push_reserved.ensures.items)
    (lists_pushed c.args.elements.now.items c.args.list.now c.args.spans.now.items _ c.requires.listed.within (omega arith) (omega arith))
