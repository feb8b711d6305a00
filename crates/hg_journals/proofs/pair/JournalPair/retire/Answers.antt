use Rattle.std.proofs.Common.{[], refl, sym, ◌∙◌, arith}
use Rattle.hg_journal.specs.Reading.{disk_of}
use Rattle.hg_journals.proofs.Imaging.{small_base}
use Rattle.hg_journals.proofs.Stepping.{closing, ends_behind, keeps_former, kept_or_behind, left_behind}
use Rattle.hg_journals.proofs.pair.JournalPair.retire.Goals as goal

pub returns-then-self-clause-any_moment : goal.returns-then-self-clause-any_moment
returns-then-self-clause-any_moment g c base events k = kept_or_behind g.D.Disk c.args.self.now base events k c.args.count

pub returns-then-not-is_retirable-clause-any_moment :
    goal.returns-then-not-is_retirable-clause-any_moment
returns-then-not-is_retirable-clause-any_moment g c base events k = kept_or_behind g.D.Disk c.args.self.now base events k c.args.count

pub returns-in_err-close-clause-any_moment : goal.returns-in_err-close-clause-any_moment
returns-in_err-close-clause-any_moment g c base events k =
    let p = c.args.self.now in
    let due = sym c.is_retirable.ensures ∙ c.if-not-is_retirable.false in
    let former = keeps_former g.D.Disk p base events k c.args.count due in
    closing g.D.Disk p base events k c.args.count due (disk_of c.close.new.self) (c.close.ensures.any_moment base k.former (small_base g.D.Disk p base events k) former)

pub returns-clause-any_moment : goal.returns-clause-any_moment
returns-clause-any_moment g c base events k =
    let p = c.args.self.now in
    let due = sym c.is_retirable.ensures ∙ c.if-not-is_retirable.false in
    let former = keeps_former g.D.Disk p base events k c.args.count due in
    closing g.D.Disk p base events k c.args.count due (disk_of c.close.new.self) (c.close.ensures.any_moment base k.former (small_base g.D.Disk p base events k) former)

pub returns-clause-keeps : goal.returns-clause-keeps
returns-clause-keeps g c base events k =
    let p = c.args.self.now in
    let due = sym c.is_retirable.ensures ∙ c.if-not-is_retirable.false in
    record {
      former = [];
      current = k.current;
      older = (c.in_ok-close.ensures.closed base k.former (keeps_former g.D.Disk p base events k c.args.count due), refl);
      newer = k.newer;
      whole = left_behind g.D.Disk p base events k c.args.count due;
      works = refl;
      begins = refl;
      turned_at = omega arith;
      ends = ends_behind g.D.Disk p base events k c.args.count due;
    }
