use Rattle.std.proofs.Common.{◌≡◌, ◌≤◌, ◌+◌, ◌∙◌, ℕ, List, ap, arith, length, rules}
use Rattle.std.specs.List.{remove}
use Rattle.hg_pages.specs.Gaps.{ShownBuffer, without_gap}
use Rattle.hg_pages.proofs.Gaps.{length_without, removed, whole}
use Rattle.hg_pages.proofs.gap_buffer.GapBuffer.remove.Goals as goal

pub returns-clause-items : goal.returns-clause-items
returns-clause-items c =
    let places = c.self.inside.places in
    let width = c.self.inside.width in
    let moved = c.move_gap.new.places in
    let same : length moved ≡ length places.items = search rules in
    let len : length places.items ≡ places.len = search rules in
    let shown : length (without_gap c.self.inside.from width places.items) ≡ length c.args.self.now.items = ap (λ (s : ShownBuffer). length s.items) c.self.view_is in
    let within : c.args.index + width ≤ length moved = omega (arith, same, shown, c.requires, length_without c.self.inside.from width places.items c.self.invariant) in
    ap (λ (l : List (ℕ × ℕ)). without_gap c.args.index (width + 1) l) (whole places.len moved places.items same len)
    ∙ removed c.args.index width moved within
    ∙ ap (λ (l : List (ℕ × ℕ)). remove l c.args.index) c.move_gap.ensures.same
    ∙ ap (λ (l : List (ℕ × ℕ)). remove (without_gap c.self.inside.from width l) c.args.index) c.deref_mut.ensures.value
    ∙ ap (λ (s : ShownBuffer). remove s.items c.args.index) c.self.view_is
