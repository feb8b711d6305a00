use Rattle.std.proofs.Common.{[], refl, sym, ◌∙◌, subst, append-nil}
use Rattle.hg_gate.specs.Batches.{base_front}
use Rattle.hg_journal.specs.Reading.{KeepsBehind, disk_of}
use Rattle.hg_journals.proofs.Imaging.{stays}
use Rattle.hg_journals.proofs.Stepping.{keeps_all, opening, some, spare, turned}
use Rattle.hg_journals.proofs.pair.JournalPair.turn.Goals as goal

pub returns-then-self-clause-any_moment : goal.returns-then-self-clause-any_moment
returns-then-self-clause-any_moment g c base events k = stays g.D.Disk c.args.self.now base events k

pub returns-then-not-is_turn_due-clause-any_moment :
    goal.returns-then-not-is_turn_due-clause-any_moment
returns-then-not-is_turn_due-clause-any_moment g c base events k = stays g.D.Disk c.args.self.now base events k

pub returns-in_err-open-clause-any_moment : goal.returns-in_err-open-clause-any_moment
returns-in_err-open-clause-any_moment g c base events k =
    let p = c.args.self.now in
    let due = sym c.is_turn_due.ensures ∙ c.if-not-is_turn_due.false in
    opening g.D.Disk p base events k due (disk_of c.open.new.self) (c.open.ensures.any_moment (spare g.D.Disk p base events k due))

pub returns-clause-any_moment : goal.returns-clause-any_moment
returns-clause-any_moment g c base events k =
    let p = c.args.self.now in
    let due = sym c.is_turn_due.ensures ∙ c.if-not-is_turn_due.false in
    turned g.D.Disk p base events k due c.swap.new.x c.swap.new.y c.open.new.self c.swap.ensures.x_after c.swap.ensures.y_after (c.open.ensures.any_moment (spare g.D.Disk p base events k due))

pub returns-clause-keeps : goal.returns-clause-keeps
returns-clause-keeps g c base events k =
    let p = c.args.self.now in
    let due = sym c.is_turn_due.ensures ∙ c.if-not-is_turn_due.false in
    record {
      former = events;
      current = [];
      older = (subst (λ j. KeepsBehind (base_front base) j events) (sym c.swap.ensures.x_after) (keeps_all g.D.Disk p base events k due), some g.D.Disk p base events k due);
      newer = subst (λ j. KeepsBehind (base_front p.last) j []) (sym c.swap.ensures.y_after) (c.in_ok-open.ensures.opened (spare g.D.Disk p base events k due)).0;
      whole = sym (append-nil events);
      works = refl;
      begins = k.begins;
      turned_at = k.ends;
      ends = k.ends;
    }
