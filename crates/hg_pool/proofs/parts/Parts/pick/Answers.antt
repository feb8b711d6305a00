use Rattle.std.proofs.Common.{◌≡◌, ◌<◌, ◌+◌, ◌∙◌, ◌==◌, ℕ, length, get_or, is_some, Some, if◌then◌else◌, ap, arith}
use Rattle.std.proofs.lemmas.List.{get_or_read}
use Rattle.hg_pages.specs.Tables.{slot_in}
use Rattle.hg_pages.proofs.Places.{in_order}
use Rattle.hg_pool.specs.Sound.{shown_of}
use Rattle.hg_pool.proofs.Picked.{all_picked, picked_more, too_few}
use Rattle.hg_pool.proofs.parts.Parts.pick.Goals as goal

pub loop-i-preserved : goal.loop-i-preserved
loop-i-preserved g c =
    let pages = c.args.pages.now.entries in
    let i = c.loop-i.i in
    let inside : i < length pages = omega (arith, c.loop-i-test.true, c.len-i-end.ensures.value) in
    let here : c.at.result ≡ get_or pages i (0, 0) = get_or_read pages i c.at.result inside c.at.ensures (0, 0) in
    picked_more (shown_of c.args.self.now) pages c.loop-i.picks.entries c.set.new.self.entries i c.loop-i.from c.in-Some.slot c.loop-i.invariant inside
    (in_order pages c.len-i-end.ensures.entries).rising
    (λ q. c.in_ok-set-in-Some.ensures.ok q ∙ ap (λ (e : ℕ × ℕ). if e.0 == q then Some c.in-Some.slot else slot_in c.loop-i.picks.entries q) here)
    (c.in_ok-set-in-Some.ensures.length ∙ ap (λ (e : ℕ × ℕ). length c.loop-i.picks.entries + (if is_some (slot_in c.loop-i.picks.entries e.0) then 0 else 1)) here)
    c.in-Some.ensures.0 c.in-Some.ensures.1 c.in-Some.ensures.2 c.in-Some.ensures.3

pub returns-in-None-clause-full : goal.returns-in-None-clause-full
returns-in-None-clause-full g c _ =
    let pages = c.args.pages.now.entries in
    let i = c.loop-i.i in
    let inside : i < length pages = omega (arith, c.loop-i-test.true, c.len-i-end.ensures.value) in
    let few = c.loop-i.invariant.few in
    (c.loop-i.picks.entries, omega (arith, few, inside), too_few (shown_of c.args.self.now) pages c.loop-i.picks.entries i c.loop-i.from c.loop-i.invariant c.in-None.ensures)

pub returns-clause-picks : goal.returns-clause-picks
returns-clause-picks g c =
    let pages = c.args.pages.now.entries in
    let i = c.loop-i.i in
    all_picked (shown_of c.args.self.now) pages c.loop-i.picks.entries i c.loop-i.from c.loop-i.invariant (omega (arith, c.loop-i-test.false, c.len-i-end.ensures.value))
    (omega (arith, c.loop-i.auto.i-end, c.len-i-end.ensures.value))
