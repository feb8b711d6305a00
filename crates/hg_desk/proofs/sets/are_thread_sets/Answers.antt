use Rattle.std.proofs.Common.{◌∙◌, ◌+◌, drop, get_or, sym, subst}
use Rattle.std.proofs.lemmas.Bool.{false≢true}
use Rattle.std.proofs.lemmas.List.{drop_all, drop_more}
use Rattle.hg_model.specs.declared.report.Report.{Report}
use Rattle.hg_model.specs.ThreadSets.{IsThreadSet}
use Rattle.std.specs.List.{AllByRecursion}
use Rattle.hg_desk.proofs.Rising.{all_done, all_not, all_on}
use Rattle.hg_desk.proofs.sets.are_thread_sets.Goals as goal

abbrev HasSet : Report → Type 0
HasSet r = IsThreadSet r.threads

pub loop-report-preserved : goal.loop-report-preserved
loop-report-preserved c =
    let xs = c.args.reports.now in
    let i = c.loop-report.report-index in
    let item = c.report-item.result in
    let has : IsThreadSet item.threads = subst IsThreadSet c.as_slice.ensures (c.is_thread_set.ensures.0 c.if-not-is_thread_set.false) in
    all_on HasSet (AllByRecursion HasSet xs) (drop i xs) c.loop-report.invariant (get_or xs i item) (drop (i + 1) xs) (drop_more xs i item c.loop-report-test.true) (subst HasSet c.report-item.is has)

pub returns-then-not-is_thread_set : goal.returns-then-not-is_thread_set
returns-then-not-is_thread_set c =
    let xs = c.args.reports.now in
    let i = c.loop-report.report-index in
    let item = c.report-item.result in
    all_not HasSet (AllByRecursion HasSet xs) (drop i xs) c.loop-report.invariant (get_or xs i item) (drop (i + 1) xs) (drop_more xs i item c.loop-report-test.true)
    (λ has. let set : IsThreadSet item.threads = subst HasSet (sym c.report-item.is) has in
    false≢true (sym c.if-not-is_thread_set.true ∙ c.is_thread_set.ensures.1 (subst IsThreadSet (sym c.as_slice.ensures) set)))

pub returns : goal.returns
returns c =
    let xs = c.args.reports.now in
    let i = c.loop-report.report-index in
    all_done HasSet (AllByRecursion HasSet xs) (drop i xs) c.loop-report.invariant (drop_all i xs c.loop-report-test.false)
