use Rattle.std.proofs.Common.{◌≡◌, ◌+◌, ◌-◌, ◌<◌, ◌==◌, ◌∙◌, ℕ, suc, Bool, List, Some, drop, length, option_map, slice_get, if◌then◌else◌, sym, ap, subst, arith}
use Rattle.std.proofs.lemmas.Option.{slice_get_within}
use Rattle.hg_pages.specs.Tables.{slot_in}
use Rattle.hg_cache.specs.declared.frame.Frame.{Frame}
use Rattle.hg_pool.proofs.Collecting.{IsCollecting, all_collected, begun, collected, frame_of_got, got_page, next_page, no_page, none_from, rest_from}
use Rattle.hg_pool.proofs.changed.changed_pages.Goals as goal

pub loop-next-init : goal.loop-next-init
loop-next-init c =
    let all = c.args.frames.now.entries in
    (subst (λ (t : List (ℕ × ℕ)). IsCollecting all all t 0) (sym c.new-table.ensures) (begun all c.len-count.ensures.valid.0), c.newest-next.ensures)

pub loop-next-smaller : goal.loop-next-smaller
loop-next-smaller c =
    let all = c.args.frames.now.entries in
    let place = c.loop-next.place in
    let found = got_page (slice_get all place) c.in-Some.page (sym c.loop-next.invariant.1 ∙ c.in-Some.is) in
    let within = slice_get_within all place (c.in-Some.page, found.0) found.1 in
    let less : length all - (place + 1) < length all - place = omega (arith, within) in
    less

pub loop-next-preserved : goal.loop-next-preserved
loop-next-preserved c =
    let all = c.args.frames.now.entries in
    let l = c.loop-next in
    let page = c.in-Some.page in
    let distinct = c.len-count.ensures.valid.0 in
    let found = got_page (slice_get all l.place) page (sym l.invariant.1 ∙ c.in-Some.is) in
    let frame = found.0 in
    let more : suc l.place ≡ l.place + 1 = omega arith in
    let has = subst (λ (left : List (ℕ × Frame)). IsCollecting all left l.table.entries l.place) (rest_from all l.place (page, frame) found.1) l.invariant.0 in
    let dirty = c.is_changed-is_dirty.ensures frame (frame_of_got all l.place page frame distinct found.1) in
    let looks = subst (λ (b : Bool). (q : ℕ) → slot_in c.note.new.table.entries q ≡ (if b then (if page == q then Some l.place else slot_in l.table.entries q) else slot_in l.table.entries q)) dirty c.in_ok-note.ensures.looks in
    let taken = collected all (drop (suc l.place) all) page l.place frame l.table.entries c.note.new.table.entries has looks c.in_ok-note.ensures.few in (
      subst (λ (n : ℕ). IsCollecting all (drop n all) c.note.new.table.entries (l.place + 1)) more taken,
      c.older-next.ensures ∙ next_page all l.place page frame distinct found.1 ∙ ap (λ (n : ℕ). option_map (λ e. e.0) (slice_get all n)) more,
    )

pub returns-clause-pages : goal.returns-clause-pages
returns-clause-pages c =
    let all = c.args.frames.now.entries in
    let l = c.loop-next in
    let none = none_from all l.place (sym l.invariant.1 ∙ no_page l.next c.in_default.not-Some) in
    all_collected all l.table.entries l.place (subst (λ (left : List (ℕ × Frame)). IsCollecting all left l.table.entries l.place) none l.invariant.0)
