use Rattle.std.proofs.Common.{[], ◌++◌, subst}
use Rattle.std.proofs.lemmas.Result.{err_from_is_err_and}
use Rattle.hg_detect.specs.Memory.{content_of}
use Rattle.hg_streams.specs.Holding.{IsDue}
use Rattle.hg_check.specs.Printing.{last_line}
use Rattle.hg_streams.specs.Texts.{line_text}
use Rattle.hg_streams.specs.Written.{Took, TookFront}
use Rattle.hg_streams.proofs.Printed.{always_err, cause_by_flush, cause_by_write, due_flushed, due_line, front_by_flush, front_due, front_more, took_by_flush}
use Rattle.hg_check.specs.Explaining.{WroteFrontFrom}
use Rattle.hg_check.specs.Life.{more_text}
use Rattle.hg_check.specs.LifeTaking.{due_text}
use Rattle.hg_check.proofs.Running.{due_held, whole_life, wrote_settled}
use Rattle.hg_check.proofs.Whole.{cause_by_memory}
use Rattle.hg_check.proofs.explain.commands.tell_on.Goals as goal

pub returns-in_err-end-clause-front : goal.returns-in_err-end-clause-front
returns-in_err-end-clause-front g c =
    let s = c.args.explaining.now in
    always_err {P = WroteFrontFrom s.detector.sets (content_of s.detector) (due_text s) c.args.input.now.calls c.run.new.input.calls c.args.output.now.calls c.run.new.output.calls} _ c.in_err-end.ensures.front

pub returns-in_err-hold_end-clause-front : goal.returns-in_err-hold_end-clause-front
returns-in_err-hold_end-clause-front g c =
    let old = c.args.output.now.calls in
    let mid = c.run.new.output.calls in
    let head = c.args.explaining.now.held.items in
    let start : IsDue old old head [] head = due_held old head in
    let last = content_of c.run.new.explaining.detector in
    let ran = c.in_ok-end.ensures.ends in
    let due : IsDue old mid c.run.new.explaining.held.items [] (head ++ ran.told) = ran.due old head start in
    let rest = more_text c.run.new.explaining.more ++ line_text (last_line last c.in_ok-end.end) in
    let goal_text = (head ++ ran.told) ++ rest in
    always_err _ (wrote_settled c.args.explaining.now.detector.sets (content_of c.args.explaining.now.detector) (due_text c.args.explaining.now) c.args.input.now.calls c.run.new.input.calls old mid last c.in_ok-end.end ran.leads.leads
    (λ input m. front_more old mid (head ++ ran.told) rest (due_text c.args.explaining.now input last c.in_ok-end.end) (whole_life head c.args.explaining.now.asked.word c.args.explaining.now.asked.form (content_of c.args.explaining.now.detector) last c.in_ok-end.end ran.told c.run.new.explaining.more input (ran.leads.text input m)) (front_due old mid c.run.new.explaining.held.items [] (head ++ ran.told) due)))

pub returns-in_err-write_out-clause-front : goal.returns-in_err-write_out-clause-front
returns-in_err-write_out-clause-front g c =
    let old = c.args.output.now.calls in
    let mid = c.run.new.output.calls in
    let head = c.args.explaining.now.held.items in
    let start : IsDue old old head [] head = due_held old head in
    let last = content_of c.run.new.explaining.detector in
    let ran = c.in_ok-end.ensures.ends in
    let due : IsDue old mid c.run.new.explaining.held.items [] (head ++ ran.told) = ran.due old head start in
    let rest = more_text c.run.new.explaining.more ++ line_text (last_line last c.in_ok-end.end) in
    let goal_text = (head ++ ran.told) ++ rest in
    let all_due : IsDue old mid c.hold_end.new.held.items [] goal_text = due_line old mid c.run.new.explaining.held.items c.hold_end.new.held.items rest (head ++ ran.told) c.in_ok-hold_end.ensures.ok due in
    always_err _ (wrote_settled c.args.explaining.now.detector.sets (content_of c.args.explaining.now.detector) (due_text c.args.explaining.now) c.args.input.now.calls c.run.new.input.calls old c.write_out.new.output.calls last c.in_ok-end.end ran.leads.leads
    (λ input m. subst (λ x. TookFront old c.write_out.new.output.calls x) (whole_life head c.args.explaining.now.asked.word c.args.explaining.now.asked.form (content_of c.args.explaining.now.detector) last c.in_ok-end.end ran.told c.run.new.explaining.more input (ran.leads.text input m)) (c.in_err-write_out.ensures.front old [] goal_text all_due)))

pub returns-in_err-write_out-clause-cause : goal.returns-in_err-write_out-clause-cause
returns-in_err-write_out-clause-cause g c =
    let old = c.args.output.now.calls in
    let mid = c.run.new.output.calls in
    let head = c.args.explaining.now.held.items in
    let start : IsDue old old head [] head = due_held old head in
    let last = content_of c.run.new.explaining.detector in
    let ran = c.in_ok-end.ensures.ends in
    let due : IsDue old mid c.run.new.explaining.held.items [] (head ++ ran.told) = ran.due old head start in
    let rest = more_text c.run.new.explaining.more ++ line_text (last_line last c.in_ok-end.end) in
    let goal_text = (head ++ ran.told) ++ rest in
    let all_due : IsDue old mid c.hold_end.new.held.items [] goal_text = due_line old mid c.run.new.explaining.held.items c.hold_end.new.held.items rest (head ++ ran.told) c.in_ok-hold_end.ensures.ok due in
    let q = err_from_is_err_and c.from_residual-in_err-write_out.result c.from_residual-in_err-write_out.ensures.1 in
    rw (q.1, q.2)
    (cause_by_write c.args.input.now.calls c.run.new.input.calls old mid c.write_out.new.output.calls c.hold_end.new.held.items [] goal_text c.in_err-write_out.field-0.0 c.in_ok-end.ensures.memory
    all_due c.in_err-write_out.ensures.cause c.in_err-write_out.ensures.fault)

pub returns-in_err-flush-clause-front : goal.returns-in_err-flush-clause-front
returns-in_err-flush-clause-front g c =
    let old = c.args.output.now.calls in
    let mid = c.run.new.output.calls in
    let head = c.args.explaining.now.held.items in
    let start : IsDue old old head [] head = due_held old head in
    let last = content_of c.run.new.explaining.detector in
    let ran = c.in_ok-end.ensures.ends in
    let due : IsDue old mid c.run.new.explaining.held.items [] (head ++ ran.told) = ran.due old head start in
    let rest = more_text c.run.new.explaining.more ++ line_text (last_line last c.in_ok-end.end) in
    let goal_text = (head ++ ran.told) ++ rest in
    let all_due : IsDue old mid c.hold_end.new.held.items [] goal_text = due_line old mid c.run.new.explaining.held.items c.hold_end.new.held.items rest (head ++ ran.told) c.in_ok-hold_end.ensures.ok due in
    always_err _ (wrote_settled c.args.explaining.now.detector.sets (content_of c.args.explaining.now.detector) (due_text c.args.explaining.now) c.args.input.now.calls c.run.new.input.calls old c.flush.new.self.calls last c.in_ok-end.end ran.leads.leads
    (λ input m. subst (λ x. TookFront old c.flush.new.self.calls x) (whole_life head c.args.explaining.now.asked.word c.args.explaining.now.asked.form (content_of c.args.explaining.now.detector) last c.in_ok-end.end ran.told c.run.new.explaining.more input (ran.leads.text input m))
    (front_by_flush old c.write_out.new.output.calls c.flush.new.self.calls c.write_out.new.held.items [] goal_text c.in_err-flush.ensures.calls (c.in_ok-write_out.ensures.printed old [] goal_text all_due))))

pub returns-in_err-hold_end-clause-cause : goal.returns-in_err-hold_end-clause-cause
returns-in_err-hold_end-clause-cause g c =
    let old = c.args.output.now.calls in
    let mid = c.run.new.output.calls in
    let head = c.args.explaining.now.held.items in
    let start : IsDue old old head [] head = due_held old head in
    let ran = c.in_ok-end.ensures.ends in
    let due : IsDue old mid c.run.new.explaining.held.items [] (head ++ ran.told) = ran.due old head start in
    let q = err_from_is_err_and c.from_residual-in_err-hold_end.result c.from_residual-in_err-hold_end.ensures.1 in
    rw (q.1, q.2)
    (cause_by_memory c.args.input.now.calls c.run.new.input.calls old mid c.run.new.explaining.held.items [] (head ++ ran.told) c.in_err-hold_end.field-0.0 c.in_ok-end.ensures.memory due c.in_err-hold_end.ensures.cause)

pub returns-in_err-flush-clause-cause : goal.returns-in_err-flush-clause-cause
returns-in_err-flush-clause-cause g c =
    let old = c.args.output.now.calls in
    let mid = c.run.new.output.calls in
    let head = c.args.explaining.now.held.items in
    let start : IsDue old old head [] head = due_held old head in
    let last = content_of c.run.new.explaining.detector in
    let ran = c.in_ok-end.ensures.ends in
    let due : IsDue old mid c.run.new.explaining.held.items [] (head ++ ran.told) = ran.due old head start in
    let rest = more_text c.run.new.explaining.more ++ line_text (last_line last c.in_ok-end.end) in
    let goal_text = (head ++ ran.told) ++ rest in
    let all_due : IsDue old mid c.hold_end.new.held.items [] goal_text = due_line old mid c.run.new.explaining.held.items c.hold_end.new.held.items rest (head ++ ran.told) c.in_ok-hold_end.ensures.ok due in
    let q = err_from_is_err_and c.from_residual-in_err-flush.result c.from_residual-in_err-flush.ensures.1 in
    rw (q.1, q.2)
    (cause_by_flush c.args.input.now.calls c.run.new.input.calls old c.write_out.new.output.calls c.flush.new.self.calls c.write_out.new.held.items [] goal_text c.in_err-flush.field-0.0 c.in_ok-end.ensures.memory
    (c.in_ok-write_out.ensures.printed old [] goal_text all_due) c.in_err-flush.ensures.cause c.in_err-flush.ensures.calls)

pub returns-clause-prints : goal.returns-clause-prints
returns-clause-prints g c =
    let old = c.args.output.now.calls in
    let mid = c.run.new.output.calls in
    let head = c.args.explaining.now.held.items in
    let start : IsDue old old head [] head = due_held old head in
    let last = content_of c.run.new.explaining.detector in
    let ran = c.in_ok-end.ensures.ends in
    let due : IsDue old mid c.run.new.explaining.held.items [] (head ++ ran.told) = ran.due old head start in
    let rest = more_text c.run.new.explaining.more ++ line_text (last_line last c.in_ok-end.end) in
    let goal_text = (head ++ ran.told) ++ rest in
    let all_due : IsDue old mid c.hold_end.new.held.items [] goal_text = due_line old mid c.run.new.explaining.held.items c.hold_end.new.held.items rest (head ++ ran.told) c.in_ok-hold_end.ensures.ok due in
    record {
      last = last;
      leads = ran.leads.leads;
      printed = λ input m. subst (λ x. Took old c.flush.new.self.calls x) (whole_life head c.args.explaining.now.asked.word c.args.explaining.now.asked.form (content_of c.args.explaining.now.detector) last c.in_ok-end.end ran.told c.run.new.explaining.more input (ran.leads.text input m))
          (due_flushed old c.write_out.new.output.calls c.flush.new.self.calls c.write_out.new.held.items goal_text c.in_ok-write_out.ensures.none
          (c.in_ok-write_out.ensures.printed old [] goal_text all_due) (took_by_flush c.write_out.new.output.calls c.flush.new.self.calls c.in_ok-flush.ensures.calls));
      written = c.write_out.new.output.calls;
      flushed = c.in_ok-flush.ensures.calls;
    }
