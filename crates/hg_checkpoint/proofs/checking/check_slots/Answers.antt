use Rattle.std.proofs.Common.{◌≡◌, ◌<◌, ◌+◌, ◌-◌, ◌∙◌, ℕ, All, Err, List, length, take, drop, sym, ap, subst, arith, rules, length-drop}
use Rattle.std.proofs.lemmas.List.{take_rest}
use Rattle.hg_pages.specs.Files.{known}
use Rattle.hg_pages.specs.declared.fault.SlotFault.TheVariants.{Damaged}
use Rattle.hg_root.proofs.Each.{each_all}
use Rattle.hg_root.specs.Roots.{parts_of}
use Rattle.hg_root.specs.declared.parts.PageSlot.{PageSlot}
use Rattle.hg_checkpoint.specs.NamedPages.{HasSomePage}
use Rattle.hg_checkpoint.specs.Runs.{IsLongestRun}
use Rattle.hg_checkpoint.proofs.Pages.{each_stands, standing}
use Rattle.hg_checkpoint.proofs.Calling.{at_most, read_on}
use Rattle.hg_checkpoint.proofs.Runs.{by_more, enough, part_more, part_of}
use Rattle.hg_checkpoint.proofs.checking.check_slots.Goals as goal

-- what is left of the pages
rest_is : (pages xs : List PageSlot) (at : ℕ) → xs ≡ pages → take (length xs - at) (drop at xs) ≡ drop at pages
rest_is pages xs at is = take_rest xs at ∙ ap (λ (l : List PageSlot). drop at l) is

pub returns-in_err-check_run-clause-damaged : goal.returns-in_err-check_run-clause-damaged
returns-in_err-check_run-clause-damaged g c honest told has =
    let root = c.args.root.now in
    let pages = root.pages.items in
    let count = c.run_length-count.result in
    let P = HasSomePage (length root.segments.items) root.sets.sets (known g.D.Disk c.args.file.now) in
    let rest = rest_is pages c.deref.result.now c.loop-at.at c.deref.ensures.value in
    let segments : c.len-segments.result ≡ length root.segments.items = search rules in
    let same : c.in_err-check_run.field-0.0 ≡ Damaged = grind arith in
    let part = take count (take (length c.deref.result.now - c.loop-at.at) (drop c.loop-at.at c.deref.result.now)) in
    let here : All P part = subst (λ (l : List PageSlot). All P (take count l)) (sym rest) (part_of P pages c.loop-at.at count (each_stands (parts_of root) (known g.D.Disk c.args.file.now) has)) in
    c.in_err-check_run.ensures.damaged honest (λ i. Err (same i))
    (subst (λ (n : ℕ). All (HasSomePage n root.sets.sets (known g.D.Disk c.loop-at.file)) part) (sym segments)
    (subst (λ (l : List ℕ). All (HasSomePage (length root.segments.items) root.sets.sets l) part) (sym c.loop-at.invariant.read.known) here))

pub returns-in_err-check_run-clause-read : goal.returns-in_err-check_run-clause-read
returns-in_err-check_run-clause-read g c =
    let size : c.len.result ≡ length c.args.root.now.pages.items = search rules in
    at_most g.D.Disk (c.loop-at.at + 1) (length c.args.root.now.pages.items) c.args.file.now c.check_run.new.file (omega (arith, c.loop-at-test.true, size))
    (read_on g.D.Disk c.loop-at.at 1 c.args.file.now c.loop-at.file c.check_run.new.file c.loop-at.invariant.read c.check_run.ensures.read)

pub returns-in_err-check_run-clause-runs : goal.returns-in_err-check_run-clause-runs
returns-in_err-check_run-clause-runs g c side n le =
    let pages = c.args.root.now.pages.items in
    let size : c.len.result ≡ length pages = search rules in
    let so_far = c.loop-at.invariant.runs side in
    at_most g.D.Disk (so_far.calls + 1) n c.args.file.now c.check_run.new.file (enough g.D.Disk c.args.file.now c.loop-at.file pages c.loop-at.at n so_far (omega (arith, c.loop-at-test.true, size)) le)
    (read_on g.D.Disk so_far.calls 1 c.args.file.now c.loop-at.file c.check_run.new.file so_far.read c.check_run.ensures.read)

pub loop-at-preserved : goal.loop-at-preserved
loop-at-preserved g c =
    let root = c.args.root.now in
    let pages = root.pages.items in
    let at = c.loop-at.at in
    let count = c.run_length-count.result in
    let P = HasSomePage (length root.segments.items) root.sets.sets (known g.D.Disk c.args.file.now) in
    let rest = rest_is pages c.deref.result.now at c.deref.ensures.value in
    let run : IsLongestRun (drop at pages) count = subst (λ (l : List PageSlot). IsLongestRun l count) rest c.run_length-count.ensures in
    let size : c.len.result ≡ length pages = search rules in
    let inside : at < length pages = omega (arith, c.loop-at-test.true, size) in
    record {
      within = omega (arith, inside, run.within, length-drop at pages);
      stands = λ honest.
          let segments : c.len-segments.result ≡ length root.segments.items = search rules in
          let part = take count (take (length c.deref.result.now - at) (drop at c.deref.result.now)) in
          let here : All P part =
          subst (λ (l : List ℕ). All (HasSomePage (length root.segments.items) root.sets.sets l) part) c.loop-at.invariant.read.known
          (subst (λ (n : ℕ). All (HasSomePage n root.sets.sets (known g.D.Disk c.loop-at.file)) part) segments (c.in_ok-check_run.ensures.stands honest)) in
          part_more P pages at count (c.loop-at.invariant.stands (c.check_run.ensures.read.any_moment.kept honest)) (subst (λ (l : List PageSlot). All P (take count l)) rest here);
      read = at_most g.D.Disk (at + 1) (at + count) c.args.file.now c.check_run.new.file (omega (arith, run.some))
          (read_on g.D.Disk at 1 c.args.file.now c.loop-at.file c.check_run.new.file c.loop-at.invariant.read c.check_run.ensures.read);
      runs = λ side. by_more g.D.Disk c.args.file.now c.loop-at.file c.check_run.new.file pages at count side inside run (c.loop-at.invariant.runs side) c.check_run.ensures.read;
      failures = c.in_ok-check_run.ensures.device ∙ c.loop-at.invariant.failures;
    }

pub returns-clause-stands : goal.returns-clause-stands
returns-clause-stands g c honest =
    let root = parts_of c.args.root.now in
    let slots = known g.D.Disk c.args.file.now in
    let size : c.len.result ≡ length c.args.root.now.pages.items = search rules in
    standing root slots c.requires.pages (each_all (HasSomePage (length root.segments) root.sets slots) root.pages c.loop-at.at (omega (arith, c.loop-at-test.false, size)) (c.loop-at.invariant.stands honest))

pub returns-clause-runs : goal.returns-clause-runs
returns-clause-runs g c side n le =
    let so_far = c.loop-at.invariant.runs side in
    at_most g.D.Disk so_far.calls n c.args.file.now c.loop-at.file (so_far.few n le) so_far.read
