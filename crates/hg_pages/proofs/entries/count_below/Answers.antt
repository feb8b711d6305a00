use Rattle.std.proofs.Common.{◌≡◌, ◌<◌, ◌≤◌, ◌+◌, ◌-◌, ◌/◌, ℕ, ap, arith, get_or, length}
use Rattle.std.proofs.lemmas.List.{get_or_read}
use Rattle.hg_pages.proofs.Rising.{each_behind, each_front, none_falls}
use Rattle.hg_pages.proofs.entries.count_below.Goals as goal

pub loop-low-preserved-then-at-page : goal.loop-low-preserved-then-at-page
loop-low-preserved-then-at-page c =
    let entries = c.args.entries.now.items in
    let middle = c.loop-low.low + (c.loop-low.high - c.loop-low.low) / 2 in
    let less : middle < c.loop-low.high = omega (arith, c.loop-low-test.true) in
    let inside : middle < length entries = omega (arith, less, c.loop-low.invariant.1) in (
      omega (arith, less),
      c.loop-low.invariant.1,
      λ k d lt.
          let here : c.at.result ≡ get_or entries middle d = get_or_read entries middle c.at.result inside c.at.ensures d in
          omega (arith, none_falls entries k middle d c.requires (omega (arith, lt)) inside, ap (λ (e : ℕ × ℕ). e.0) here, c.if-at-page.true),
      c.loop-low.invariant.3,
    )

pub loop-low-preserved : goal.loop-low-preserved
loop-low-preserved c =
    let entries = c.args.entries.now.items in
    let middle = c.loop-low.low + (c.loop-low.high - c.loop-low.low) / 2 in
    let less : middle < c.loop-low.high = omega (arith, c.loop-low-test.true) in
    let inside : middle < length entries = omega (arith, less, c.loop-low.invariant.1) in (
      omega arith,
      omega (arith, inside),
      c.loop-low.invariant.2,
      λ k d le lt.
          let here : c.at.result ≡ get_or entries middle d = get_or_read entries middle c.at.result inside c.at.ensures d in
          omega (arith, none_falls entries middle k d c.requires le lt, ap (λ (e : ℕ × ℕ). e.0) here, c.if-at-page.false),
    )

pub returns-clause-below : goal.returns-clause-below
returns-clause-below c =
    each_front (λ e. e.0 < c.args.page) c.args.entries.now.items c.loop-low.low c.loop-low.invariant.2 (omega (arith, c.loop-low.invariant.0, c.loop-low.invariant.1))

pub returns-clause-behind : goal.returns-clause-behind
returns-clause-behind c =
    each_behind (λ e. c.args.page ≤ e.0) c.args.entries.now.items c.loop-low.low (λ k d le lt. c.loop-low.invariant.3 k d (omega (arith, le, c.loop-low-test.false)) lt)
