use Rattle.std.proofs.Common.{◌≡◌, ◌+◌, ◌-◌, [], length, sym, ◌∙◌, subst, arith}
use Rattle.std.proofs.lemmas.List.{get_or_default}
use Rattle.hg_sets.specs.Interning.{StandsAt}
use Rattle.hg_sets.specs.Listing.{IsMet, lists_of, next_slot}
use Rattle.hg_sets.proofs.Listed.{is_not_there, is_there}
use Rattle.hg_sets.proofs.Slots.{free_ends, met_next}
use Rattle.hg_sets.proofs.lists.find_among.Goals as goal

pub returns-then-entry-eq0 : goal.returns-then-entry-eq0
returns-then-entry-eq0 c =
    λ there.
    let lists = lists_of c.args.elements.now c.args.spans.now in
    let stands : StandsAt lists c.args.list.now there.0 = (there.1, get_or_default lists there.0 [] c.args.list.now there.1 ∙ there.2) in
    free_ends c.args.slots.now (there.0 + 1) c.loop.at _ (omega arith) (omega arith) c.if-entry-eq0.true (c.loop.invariant.ahead there.0 stands)

pub returns-then-eq : goal.returns-then-eq
returns-then-eq c =
    let within = c.requires.listed.numbers c.loop.at 0 (omega arith) in
    is_there c.args.elements.now c.args.spans.now c.args.list.now c.elements_of.result.now _ (omega arith) within c.elements_of.ensures (sym c.eq.ensures ∙ c.if-eq.true)

pub loop-preserved : goal.loop-preserved
loop-preserved c =
    record {
      within = λ some. c.next_slot-at.ensures.within;
      ahead = λ id stands.
          let left : length c.args.slots.now - c.loop.counter - 1 ≡ length c.args.slots.now - (c.loop.counter + 1) = omega arith in
          let next = met_next c.args.slots.now (id + 1) c.loop.at (length c.args.slots.now - c.loop.counter) (omega arith)
          (is_not_there c.args.elements.now c.args.spans.now c.args.list.now c.elements_of.result.now _ id c.elements_of.ensures (sym c.eq.ensures ∙ c.if-eq.false) stands) (c.loop.invariant.ahead id stands) in
          rw c.next_slot-at.ensures.slot (subst (IsMet c.args.slots.now (id + 1) (next_slot (length c.args.slots.now) c.loop.at)) left next);
    }

pub returns : goal.returns
returns c =
    λ there.
    let lists = lists_of c.args.elements.now c.args.spans.now in
    let stands : StandsAt lists c.args.list.now there.0 = (there.1, get_or_default lists there.0 [] c.args.list.now there.1 ∙ there.2) in
    let none : length c.args.slots.now - c.loop.counter ≡ 0 = omega arith in
    subst (IsMet c.args.slots.now (there.0 + 1) c.loop.at) none (c.loop.invariant.ahead there.0 stands)
