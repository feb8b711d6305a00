use Rattle.std.proofs.Common.{◌≡◌, ◌-◌, ap, arith, get_or, length, List, ℕ}
use Rattle.hg_model.proofs.Graph.{member_below}
use Rattle.hg_model.specs.Paths.{before}
use Rattle.hg_graph.proofs.Lawful.{behind_few, behind_some, lawful_rising}
use Rattle.hg_graph.proofs.Needing.{ends_of}
use Rattle.hg_graph.proofs.Sweeping.{before_read}
use Rattle.hg_graph.proofs.restoring.ends.Goals as goal

pub bounds-before-0 : goal.bounds-before-0
bounds-before-0 c =
    let is : c.as_slice-before.result.now ≡ before c.args.segments.now c.args.number = before_read c.args.segments.now c.args.number _ _ c.requires.within c.as_slice-before.ensures in
    let some = behind_some c.args.segments.now c.requires.lawful c.args.number c.requires.within c.requires.some in
    omega (arith, ap (λ (xs : List ℕ). length xs) is)

pub overflow_sub-result : goal.overflow_sub-result
overflow_sub-result c =
    let is : c.as_slice-before.result.now ≡ before c.args.segments.now c.args.number = before_read c.args.segments.now c.args.number _ _ c.requires.within c.as_slice-before.ensures in
    let some = behind_some c.args.segments.now c.requires.lawful c.args.number c.requires.within c.requires.some in
    omega (arith, ap (λ (xs : List ℕ). length xs) is)

pub bounds-before-before : goal.bounds-before-before
bounds-before-before c =
    let is : c.as_slice-before.result.now ≡ before c.args.segments.now c.args.number = before_read c.args.segments.now c.args.number _ _ c.requires.within c.as_slice-before.ensures in
    let some = behind_some c.args.segments.now c.requires.lawful c.args.number c.requires.within c.requires.some in
    omega (arith, ap (λ (xs : List ℕ). length xs) is)

pub returns : goal.returns
returns c =
    let segments = c.args.segments.now in
    let rising = lawful_rising segments c.requires.lawful in
    let is : c.as_slice-before.result.now ≡ before segments c.args.number = before_read segments c.args.number _ _ c.requires.within c.as_slice-before.ensures in
    let ends = ends_of (before segments c.args.number) 0 0 _ _ (behind_some segments c.requires.lawful c.args.number c.requires.within c.requires.some) (behind_few segments c.requires.lawful c.args.number c.requires.within)
    (ap (λ (xs : List ℕ). get_or xs 0 0) is) (ap (λ (xs : List ℕ). get_or xs (length xs - 1) 0) is) in
    record {
      ends = ends;
      begin = ap (λ (xs : List ℕ). get_or xs 0 0) is;
      first = member_below segments rising _ c.args.number ends.first;
      last = member_below segments rising _ c.args.number ends.last;
    }
