use Rattle.std.proofs.Common.{[], refl, subst}
use Rattle.hg_shards.specs.Judging.{NextReport}
use Rattle.hg_streams.specs.Texts.{reports_text}
use Rattle.hg_parts.proofs.Taking.{front_now, is_next, printed_all, prints_next}
use Rattle.hg_parts.proofs.checking.PartsChecking.print_next.Goals as goal

pub returns-in-Err-clause-prints : goal.returns-in-Err-clause-prints
returns-in-Err-clause-prints g c d reports first h = (tt, front_now first c.args.self.now c.args.output.now.calls d h)

pub returns-in-Ok-None-clause-prints : goal.returns-in-Ok-None-clause-prints
returns-in-Ok-None-clause-prints g c d reports first h =
    let next = subst (λ x. NextReport c.args.self.now.judge c.args.self.now.cursor x c.next_report.new.cursor) c.in-Ok-None.field-0-is c.in-Ok-None.ensures.next in
    (printed_all first c.args.self.now _ c.args.output.now.calls d reports next refl refl refl h, tt)

pub returns-in-Ok-Some-clause-prints : goal.returns-in-Ok-Some-clause-prints
returns-in-Ok-Some-clause-prints g c d reports first h =
    let next = subst (λ x. NextReport c.args.self.now.judge c.args.self.now.cursor x c.next_report.new.cursor) c.in-Ok-Some.field-0-is c.in-Ok-Some.ensures.next in
    let it = is_next first c.args.self.now c.args.output.now.calls c.in-Ok-Some.report c.next_report.new.cursor d reports next h in
    prints_next c.hold_next.result first c.args.self.now _ c.args.output.now.calls c.hold_next.new.output.calls c.in-Ok-Some.report c.next_report.new.cursor d it c.hold_next.ensures.more
    (c.hold_next.ensures.printed first [] (reports_text 1 it.front) it.due) (c.hold_next.ensures.front first [] (reports_text 1 it.front) it.due) refl refl refl
