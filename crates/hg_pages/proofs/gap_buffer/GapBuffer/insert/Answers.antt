use Rattle.std.proofs.Common.{◌≡◌, ◌<◌, ◌≤◌, ◌+◌, ◌-◌, ◌∙◌, ℕ, List, ap, arith, length, replicate, rules, set, sym}
use Rattle.std.specs.List.{insert}
use Rattle.std.proofs.lemmas.List.{length-append, length-replicate}
use Rattle.hg_pages.specs.Gaps.{ShownBuffer, without_gap}
use Rattle.hg_pages.proofs.Gaps.{inserted, length_without, no_gap, whole, widened}
use Rattle.hg_pages.proofs.gap_buffer.GapBuffer.insert.Goals.{then-self-eq0+in_ok-width, else-self-eq0}
use Rattle.hg_pages.proofs.gap_buffer.GapBuffer.insert.Goals as goal

pub returns-clause-items : goal.returns-clause-items
returns-clause-items c =
    let inside = c.if-self-eq0.self-inside in
    let moved = c.move_gap.new.places in
    let same : length moved ≡ length inside.places.items = c.move_gap.ensures.length ∙ ap length c.deref_mut.ensures.value in
    let len : length inside.places.items ≡ inside.places.len = ap length (sym c.deref_mut.ensures.value) ∙ c.deref_mut.ensures.len in
    let some : 0 < inside.width = elim c.if-self-eq0.branch [
      | then-self-eq0+in_ok-width w ↦ omega (arith, ap (λ b. b.width) w.self-inside-is, w.in_ok-width.ensures.some)
      | else-self-eq0 w ↦ omega (arith, ap (λ b. b.width) w.self-inside-is, w.if-self-eq0.false)
    ] in
    let shown : without_gap inside.from inside.width inside.places.items ≡ c.args.self.now.items = elim c.if-self-eq0.branch [
      | then-self-eq0+in_ok-width w ↦
          let old = c.self.inside.places.items in
          let width = w.in_ok-width.width in
          let n : w.len-len.result ≡ length old = search rules in
          let fill : List (ℕ × ℕ) = replicate width (0, 0) in
          ap (λ b. without_gap b.from b.width b.places.items) w.self-inside-is
          ∙ ap (λ (l : List (ℕ × ℕ)). without_gap w.len-len.result width l) w.in_ok-width.ensures.ok
          ∙ widened w.len-len.result width old fill n (length-replicate {A = ℕ × ℕ} width (0, 0))
          ∙ sym (no_gap c.self.inside.from old)
          ∙ ap (λ (n : ℕ). without_gap c.self.inside.from n old) (sym w.if-self-eq0.true)
          ∙ ap (λ (s : ShownBuffer). s.items) c.self.view_is
      | else-self-eq0 w ↦ ap (λ b. without_gap b.from b.width b.places.items) w.self-inside-is ∙ ap (λ (s : ShownBuffer). s.items) c.self.view_is
    ] in
    let bound : inside.from + inside.width ≤ length inside.places.items = elim c.if-self-eq0.branch [
      | then-self-eq0+in_ok-width w ↦
          let old = c.self.inside.places.items in
          let width = w.in_ok-width.width in
          let n : w.len-len.result ≡ length old = search rules in
          let fill : List (ℕ × ℕ) = replicate width (0, 0) in
          omega (
            arith,
            n,
            ap (λ b. b.from) w.self-inside-is,
            ap (λ b. b.width) w.self-inside-is,
            ap (λ b. length b.places.items) w.self-inside-is,
            ap length w.in_ok-width.ensures.ok,
            length-append old fill,
            length-replicate {A = ℕ × ℕ} width (0, 0),
          )
      | else-self-eq0 w ↦ omega (arith, ap (λ b. b.from) w.self-inside-is, ap (λ b. b.width) w.self-inside-is, ap (λ b. length b.places.items) w.self-inside-is, c.self.invariant)
    ] in
    let within : c.args.index + inside.width ≤ length moved = omega (arith, same, ap length shown, c.requires, length_without inside.from inside.width inside.places.items bound) in
    ap (λ (l : List (ℕ × ℕ)). without_gap (c.args.index + 1) (inside.width - 1) (set l c.args.index c.args.entry)) (whole inside.places.len moved inside.places.items same len)
    ∙ inserted c.args.index inside.width moved c.args.entry some within
    ∙ ap (λ (l : List (ℕ × ℕ)). insert l c.args.index c.args.entry) c.move_gap.ensures.same
    ∙ ap (λ (l : List (ℕ × ℕ)). insert (without_gap inside.from inside.width l) c.args.index c.args.entry) c.deref_mut.ensures.value
    ∙ ap (λ (l : List (ℕ × ℕ)). insert l c.args.index c.args.entry) shown
