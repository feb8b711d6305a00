use Rattle.std.proofs.Common.{◌≡◌, ◌<◌, ◌+◌, ℕ, [], List, get_or, length, length-set, refl, set, subst, sym, arith}
use Rattle.std.proofs.lemmas.List.{get_or_read}
use Rattle.hg_model.specs.Segments.{thread_at}
use Rattle.hg_graph.specs.Clocks.{IsClock}
use Rattle.hg_graph.specs.Needed.{AreNeeded}
use Rattle.hg_graph.proofs.Clocking.{clock_behind}
use Rattle.hg_graph.proofs.Lawful.{lawful_in_line, lawful_rising, thread_small}
use Rattle.hg_graph.proofs.Needing.{lets_go, needed_at, needed_more}
use Rattle.hg_graph.proofs.Sweeping.{thread_read}
use Rattle.hg_graph.proofs.restoring.push_clock.Goals as goal

pub index-requires : goal.index-requires
index-requires c = let first = c.ends-a.ensures.first in let rows = c.requires.clocks.rows in omega (arith, c.args.clocks.now.ok.0)

pub index-requires-2 : goal.index-requires-2
index-requires-2 c = let last = c.ends-a.ensures.last in let rows = c.requires.clocks.rows in omega (arith, c.args.clocks.now.ok.0)

pub greater-requires : goal.greater-requires
greater-requires c =
    let is : c.from-thread.result ≡ thread_at c.args.segments.now c.args.number = thread_read c.args.segments.now c.args.number _ _ c.requires.within c.from-thread.ensures in
    let small = thread_small c.args.segments.now c.requires.lawful c.args.number c.requires.within in
    omega arith

pub bounds-late-a : goal.bounds-late-a
bounds-late-a c = let first = c.ends-a.ensures.first in let rows = c.requires.late.uses.rows in omega (arith, c.requires.within)

pub index_mut-requires : goal.index_mut-requires
index_mut-requires c = let first = c.ends-a.ensures.first in let rows = c.requires.clocks.rows in omega (arith, c.args.clocks.now.ok.0)

pub bounds-late-b : goal.bounds-late-b
bounds-late-b c = let last = c.ends-a.ensures.last in let rows = c.requires.late.uses.rows in omega (arith, c.requires.within)

pub index_mut-requires-2 : goal.index_mut-requires-2
index_mut-requires-2 c = let last = c.ends-a.ensures.last in let rows = c.requires.clocks.rows in omega (arith, c.args.clocks.now.ok.0)

pub returns : goal.returns
returns c =
    let segments = c.args.segments.now in
    let late = c.args.late.now in
    let n = c.args.number in
    let clocks : List (List ℕ) = c.args.clocks.now.items in
    let a = c.ends-a.result.0 in
    let b = c.ends-a.result.1 in
    let rising = lawful_rising segments c.requires.lawful in
    let first = c.ends-a.ensures.first in
    let last = c.ends-a.ensures.last in
    let rows = c.requires.clocks.rows in
    let a_in : a < length clocks = omega arith in
    let b_in : b < length clocks = omega arith in
    let one : List (List ℕ) = set clocks a c.let_go.new.clock in
    let b_in_one : b < length one = omega (arith, length-set clocks a c.let_go.new.clock) in
    let own : IsClock segments n c.in_ok-clock.clock =
    clock_behind segments n c.from-thread.result a b c.index.result.now c.index-2.result.now c.in_ok-clock.clock rising (lawful_in_line segments c.requires.lawful) c.requires.within
    (thread_read segments n _ _ c.requires.within c.from-thread.ensures) c.ends-a.ensures.ends
    (subst (IsClock segments a) (sym (get_or_read clocks a c.index.result.now a_in c.index.ensures [])) (needed_at segments late n a clocks rising c.requires.late c.requires.clocks c.requires.within c.ends-a.ensures.ends.first))
    (subst (IsClock segments b) (sym (get_or_read clocks b c.index-2.result.now b_in c.index-2.ensures [])) (needed_at segments late n b clocks rising c.requires.late c.requires.clocks c.requires.within c.ends-a.ensures.ends.last))
    c.in_ok-clock.ensures in
    subst (AreNeeded segments late (n + 1)) (sym c.in_ok-push.ensures.items)
    (needed_more segments late n clocks one (set one b c.let_go-2.new.clock) c.in_ok-clock.clock c.requires.clocks
    (lets_go late n a (get_or late a 0) clocks c.index_mut.result.now c.let_go.new.clock a_in refl (get_or_read clocks a c.index_mut.result.now a_in c.index_mut.ensures.value []) c.let_go.ensures)
    (lets_go late n b (get_or late b 0) one c.index_mut-2.result.now c.let_go-2.new.clock b_in_one refl (get_or_read one b c.index_mut-2.result.now b_in_one c.index_mut-2.ensures.value []) c.let_go-2.ensures)
    own)
