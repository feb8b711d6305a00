use Rattle.std.proofs.Common.{inl, inr, sym, ◌∙◌}
use Rattle.std.proofs.lemmas.Bool.{true≢false}
use Rattle.hg_migration.proofs.Emptied.{emptied_on, only_read, uncalled}
use Rattle.hg_migration.proofs.emptying.empty_files.Goals as goal

pub returns-in_err-is_open-clause-any_moment : goal.returns-in_err-is_open-clause-any_moment
returns-in_err-is_open-clause-any_moment g c = (only_read g.D.Disk 1 c.args.journal0.now c.is_open.new.disk c.is_open.ensures.reads, uncalled g.D.Disk c.args.journal1.now)

pub returns-then-branch-clause-any_moment : goal.returns-then-branch-clause-any_moment
returns-then-branch-clause-any_moment g c = (only_read g.D.Disk 1 c.args.journal0.now c.is_open.new.disk c.is_open.ensures.reads, uncalled g.D.Disk c.args.journal1.now)

pub returns-in_err-is_open-2-clause-any_moment : goal.returns-in_err-is_open-2-clause-any_moment
returns-in_err-is_open-2-clause-any_moment g c = (
  only_read g.D.Disk 1 c.args.journal0.now c.is_open.new.disk c.is_open.ensures.reads,
  only_read g.D.Disk 1 c.args.journal1.now c.is_open-2.new.disk c.is_open-2.ensures.reads,
)

pub returns-then-branch-2-clause-any_moment : goal.returns-then-branch-2-clause-any_moment
returns-then-branch-2-clause-any_moment g c = (
  only_read g.D.Disk 1 c.args.journal0.now c.is_open.new.disk c.is_open.ensures.reads,
  only_read g.D.Disk 1 c.args.journal1.now c.is_open-2.new.disk c.is_open-2.ensures.reads,
)

pub returns-in_err-empty-clause-any_moment : goal.returns-in_err-empty-clause-any_moment
returns-in_err-empty-clause-any_moment g c = (
  emptied_on g.D.Disk 1 c.args.journal0.now c.is_open.new.disk c.empty.new.disk c.is_open.ensures.reads c.empty.ensures.any_moment,
  only_read g.D.Disk 1 c.args.journal1.now c.is_open-2.new.disk c.is_open-2.ensures.reads,
)

pub returns-in_err-empty-2-clause-any_moment : goal.returns-in_err-empty-2-clause-any_moment
returns-in_err-empty-2-clause-any_moment g c = (
  emptied_on g.D.Disk 1 c.args.journal0.now c.is_open.new.disk c.empty.new.disk c.is_open.ensures.reads c.empty.ensures.any_moment,
  emptied_on g.D.Disk 1 c.args.journal1.now c.is_open-2.new.disk c.empty-2.new.disk c.is_open-2.ensures.reads c.empty-2.ensures.any_moment,
)

pub returns-clause-any_moment : goal.returns-clause-any_moment
returns-clause-any_moment g c = (
  emptied_on g.D.Disk 1 c.args.journal0.now c.is_open.new.disk c.empty.new.disk c.is_open.ensures.reads c.empty.ensures.any_moment,
  emptied_on g.D.Disk 1 c.args.journal1.now c.is_open-2.new.disk c.empty-2.new.disk c.is_open-2.ensures.reads c.empty-2.ensures.any_moment,
)

pub returns-then-branch-clause-not_empty : goal.returns-then-branch-clause-not_empty
returns-then-branch-clause-not_empty g c honest told = inl ((c.in_ok-is_open.ensures.open (g.met.D.Disk.honest_reads honest c.is_open.new.disk)).0 c.if-branch.true)

pub returns-then-branch-2-clause-not_empty : goal.returns-then-branch-2-clause-not_empty
returns-then-branch-2-clause-not_empty g c honest told = inr ((c.in_ok-is_open-2.ensures.open (g.met.D.Disk.honest_reads honest c.is_open-2.new.disk)).0 c.if-branch-2.true)

pub returns-clause-not_open : goal.returns-clause-not_open
returns-clause-not_open g c honest = (
  λ is. true≢false (sym ((c.in_ok-is_open.ensures.open (g.met.D.Disk.honest_reads honest c.is_open.new.disk)).1 is) ∙ c.if-branch.false),
  λ is. true≢false (sym ((c.in_ok-is_open-2.ensures.open (g.met.D.Disk.honest_reads honest c.is_open-2.new.disk)).1 is) ∙ c.if-branch-2.false),
)
