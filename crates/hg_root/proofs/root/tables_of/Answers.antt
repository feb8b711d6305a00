use Rattle.std.proofs.Common.{◌≡◌, ℕ, List, length, rules, subst}
use Rattle.hg_sets.specs.Interning.{AreSets}
use Rattle.hg_root.specs.Checking.{AreCounts}
use Rattle.hg_root.specs.Lawful.{AreInOrder, HaveSent, HaveSlots}
use Rattle.hg_root.specs.declared.parts.SourceCount.{SourceCount}
use Rattle.hg_root.proofs.Refusing.{of_memory, passed_on, refuted}
use Rattle.hg_root.proofs.root.tables_of.Goals as goal

pub returns-then-not-are_counts-clause-damaged : goal.returns-then-not-are_counts-clause-damaged
returns-then-not-are_counts-clause-damaged c _ p = refuted c.if-not-are_counts.true c.are_counts.ensures.1 (search rules)

pub returns-in_err-are_lists-clause-damaged : goal.returns-in_err-are_lists-clause-damaged
returns-in_err-are_lists-clause-damaged c = of_memory c.from_residual.result c.from_residual.ensures.1

pub returns-then-not-branch-clause-damaged : goal.returns-then-not-branch-clause-damaged
returns-then-not-branch-clause-damaged c _ p = refuted c.if-not-branch.true c.in_ok-are_lists.ensures.1 (rw (c.deref.ensures.value, c.deref-2.ensures.value, c.deref-3.ensures.value) (p.sources, p.order, p.pages))

pub returns-in_err-are_named-clause-damaged : goal.returns-in_err-are_named-clause-damaged
returns-in_err-are_named-clause-damaged c = of_memory c.from_residual-in_err-are_named.result c.from_residual-in_err-are_named.ensures.1

pub returns-then-not-branch-2-clause-damaged : goal.returns-then-not-branch-2-clause-damaged
returns-then-not-branch-2-clause-damaged c _ p = refuted c.if-not-branch-2.true (c.in_ok-are_named.ensures c.args.front.now.1.1.items c.requires.table).1 p.named

pub returns-in_err-sets-clause-damaged : goal.returns-in_err-sets-clause-damaged
returns-in_err-sets-clause-damaged c damaged p =
    c.in_err-sets.ensures.damaged (passed_on c.from_residual-in_err-sets.result c.in_err-sets.field-0.0 c.from_residual-in_err-sets.ensures.1 damaged) (rw c.deref-4.ensures.value p.sets) (rw (c.deref-4.ensures.value, c.deref-5.ensures.value) p.reports)

pub returns-in_err-state-clause-damaged : goal.returns-in_err-state-clause-damaged
returns-in_err-state-clause-damaged c damaged p = c.in_err-state.ensures.damaged (passed_on c.from_residual-in_err-state.result c.in_err-state.field-0.0 c.from_residual-in_err-state.ensures.1 damaged) p.threads

pub returns-clause-checked : goal.returns-clause-checked
returns-clause-checked c =
    let lists = c.in_ok-are_lists.ensures.0 c.if-not-branch.false in
    let kept : c.len.result ≡ length c.args.back.now.reports.items = search rules in
    record {
      counts = subst (λ (n : ℕ). AreCounts c.args.front.now.0 c.args.front.now.1.0 c.args.back.now.total n) kept (c.are_counts.ensures.0 c.if-not-are_counts.false);
      threads = c.in_ok-state.ensures.lawful;
      named = (c.in_ok-are_named.ensures c.args.front.now.1.1.items c.requires.table).0 c.if-not-branch-2.false;
      sets = rw c.deref-4.ensures.value at (subst AreSets c.in_ok-sets.ensures.table c.in_ok-sets.ensures.sets);
      reports = rw (c.deref-4.ensures.value, c.deref-5.ensures.value) at c.in_ok-sets.ensures.reports;
      order = subst AreInOrder c.deref-2.ensures.value lists.1;
      sources = subst (λ (sources : List SourceCount). HaveSent c.args.front.now.1.0 sources) c.deref.ensures.value lists.0;
      pages = subst HaveSlots c.deref-3.ensures.value lists.2;
    }

pub returns-clause-last : goal.returns-clause-last
returns-clause-last c = rw c.deref-6.ensures.value at c.in_ok-state.ensures.last
