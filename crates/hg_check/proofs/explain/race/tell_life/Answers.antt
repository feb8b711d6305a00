use Rattle.std.proofs.Common.{[], ◌++◌, inl, refl, subst}
use Rattle.std.proofs.lemmas.Result.{err_from_is_err_and}
use Rattle.hg_detect.specs.Memory.{content_of}
use Rattle.hg_streams.specs.Holding.{IsDue}
use Rattle.hg_streams.specs.Texts.{line_text}
use Rattle.hg_streams.specs.Written.{Took, TookFront}
use Rattle.hg_streams.proofs.Printed.{always_err, cause_by_flush, cause_by_write, due_at_first, due_failed, due_flushed, due_line, front_by_flush, front_due, front_more, took_by_flush}
use Rattle.hg_check.specs.Explaining.{explain_text, word_line}
use Rattle.hg_check.specs.Life.{more_text}
use Rattle.hg_check.specs.Printing.{last_line}
use Rattle.hg_check.proofs.RaceText.{life_settled, write_cause}
use Rattle.hg_check.proofs.Running.{whole_text}
use Rattle.hg_check.proofs.explain.race.tell_life.Goals as goal

pub returns-in_err-end-clause-front : goal.returns-in_err-end-clause-front
returns-in_err-end-clause-front g c =
    let a = c.args.explaining.now.asked in
    let old = c.args.output.now.calls in
    let mid = c.run_text.new.output.calls in
    let head = line_text (word_line a.word) in
    let start : IsDue old old c.hold_word.new.held.items [] head = due_line old old c.args.explaining.now.held.items c.hold_word.new.held.items head [] c.in_ok-hold_word.ensures.ok (due_at_first old c.args.explaining.now.held.items c.requires.none) in
    always_err _ (c.in_err-end.ensures.front old start)

pub returns-in_err-hold_end-clause-front : goal.returns-in_err-hold_end-clause-front
returns-in_err-hold_end-clause-front g c =
    let a = c.args.explaining.now.asked in
    let old = c.args.output.now.calls in
    let mid = c.run_text.new.output.calls in
    let head = line_text (word_line a.word) in
    let start : IsDue old old c.hold_word.new.held.items [] head = due_line old old c.args.explaining.now.held.items c.hold_word.new.held.items head [] c.in_ok-hold_word.ensures.ok (due_at_first old c.args.explaining.now.held.items c.requires.none) in
    let last = content_of c.run_text.new.explaining.detector in
    let ran = c.in_ok-end.ensures.ends in
    let due : IsDue old mid c.run_text.new.explaining.held.items [] (head ++ ran.told) = ran.due old head start in
    let rest = more_text c.run_text.new.explaining.more ++ line_text (last_line last c.in_ok-end.end) in
    let goal_text = (head ++ ran.told) ++ rest in
    let whole = whole_text a.word a.form last c.in_ok-end.end ran.told c.run_text.new.explaining.more c.args.text.now ran.text in
    always_err _ (life_settled c.args.text.now a old mid last c.in_ok-end.end ran.leads
    (front_more old mid (head ++ ran.told) rest (explain_text a.word a.form c.args.text.now last c.in_ok-end.end) whole (front_due old mid c.run_text.new.explaining.held.items [] (head ++ ran.told) due)))

pub returns-in_err-hold_end-clause-cause : goal.returns-in_err-hold_end-clause-cause
returns-in_err-hold_end-clause-cause g c =
    let old = c.args.output.now.calls in
    let mid = c.run_text.new.output.calls in
    let head = line_text (word_line c.args.explaining.now.asked.word) in
    let start : IsDue old old c.hold_word.new.held.items [] head = due_line old old c.args.explaining.now.held.items c.hold_word.new.held.items head [] c.in_ok-hold_word.ensures.ok (due_at_first old c.args.explaining.now.held.items c.requires.none) in
    let ran = c.in_ok-end.ensures.ends in
    let due : IsDue old mid c.run_text.new.explaining.held.items [] (head ++ ran.told) = ran.due old head start in
    let q = err_from_is_err_and c.from_residual-in_err-hold_end.result c.from_residual-in_err-hold_end.ensures.1 in
    rw (q.1, q.2)
    (inl (c.in_err-hold_end.ensures.cause, due_failed old mid c.run_text.new.explaining.held.items [] (head ++ ran.told) due))

pub returns-in_err-write_out-clause-front : goal.returns-in_err-write_out-clause-front
returns-in_err-write_out-clause-front g c =
    let a = c.args.explaining.now.asked in
    let old = c.args.output.now.calls in
    let mid = c.run_text.new.output.calls in
    let head = line_text (word_line a.word) in
    let start : IsDue old old c.hold_word.new.held.items [] head = due_line old old c.args.explaining.now.held.items c.hold_word.new.held.items head [] c.in_ok-hold_word.ensures.ok (due_at_first old c.args.explaining.now.held.items c.requires.none) in
    let last = content_of c.run_text.new.explaining.detector in
    let ran = c.in_ok-end.ensures.ends in
    let due : IsDue old mid c.run_text.new.explaining.held.items [] (head ++ ran.told) = ran.due old head start in
    let rest = more_text c.run_text.new.explaining.more ++ line_text (last_line last c.in_ok-end.end) in
    let goal_text = (head ++ ran.told) ++ rest in
    let whole = whole_text a.word a.form last c.in_ok-end.end ran.told c.run_text.new.explaining.more c.args.text.now ran.text in
    let all_due : IsDue old mid c.hold_end.new.held.items [] goal_text = due_line old mid c.run_text.new.explaining.held.items c.hold_end.new.held.items rest (head ++ ran.told) c.in_ok-hold_end.ensures.ok due in
    always_err _ (life_settled c.args.text.now a old c.write_out.new.output.calls last c.in_ok-end.end ran.leads
    (subst (λ x. TookFront old c.write_out.new.output.calls x) whole (c.in_err-write_out.ensures.front old [] goal_text all_due)))

pub returns-in_err-write_out-clause-cause : goal.returns-in_err-write_out-clause-cause
returns-in_err-write_out-clause-cause g c =
    let a = c.args.explaining.now.asked in
    let old = c.args.output.now.calls in
    let mid = c.run_text.new.output.calls in
    let head = line_text (word_line a.word) in
    let start : IsDue old old c.hold_word.new.held.items [] head = due_line old old c.args.explaining.now.held.items c.hold_word.new.held.items head [] c.in_ok-hold_word.ensures.ok (due_at_first old c.args.explaining.now.held.items c.requires.none) in
    let last = content_of c.run_text.new.explaining.detector in
    let ran = c.in_ok-end.ensures.ends in
    let due : IsDue old mid c.run_text.new.explaining.held.items [] (head ++ ran.told) = ran.due old head start in
    let rest = more_text c.run_text.new.explaining.more ++ line_text (last_line last c.in_ok-end.end) in
    let goal_text = (head ++ ran.told) ++ rest in
    let whole = whole_text a.word a.form last c.in_ok-end.end ran.told c.run_text.new.explaining.more c.args.text.now ran.text in
    let all_due : IsDue old mid c.hold_end.new.held.items [] goal_text = due_line old mid c.run_text.new.explaining.held.items c.hold_end.new.held.items rest (head ++ ran.told) c.in_ok-hold_end.ensures.ok due in
    let q = err_from_is_err_and c.from_residual-in_err-write_out.result c.from_residual-in_err-write_out.ensures.1 in
    rw (q.1, q.2)
    (write_cause old c.write_out.new.output.calls c.in_err-write_out.field-0.0
    (cause_by_write [] [] old mid c.write_out.new.output.calls c.hold_end.new.held.items [] goal_text c.in_err-write_out.field-0.0 (refl, refl)
    all_due c.in_err-write_out.ensures.cause c.in_err-write_out.ensures.fault))

pub returns-in_err-flush-clause-front : goal.returns-in_err-flush-clause-front
returns-in_err-flush-clause-front g c =
    let a = c.args.explaining.now.asked in
    let old = c.args.output.now.calls in
    let mid = c.run_text.new.output.calls in
    let head = line_text (word_line a.word) in
    let start : IsDue old old c.hold_word.new.held.items [] head = due_line old old c.args.explaining.now.held.items c.hold_word.new.held.items head [] c.in_ok-hold_word.ensures.ok (due_at_first old c.args.explaining.now.held.items c.requires.none) in
    let last = content_of c.run_text.new.explaining.detector in
    let ran = c.in_ok-end.ensures.ends in
    let due : IsDue old mid c.run_text.new.explaining.held.items [] (head ++ ran.told) = ran.due old head start in
    let rest = more_text c.run_text.new.explaining.more ++ line_text (last_line last c.in_ok-end.end) in
    let goal_text = (head ++ ran.told) ++ rest in
    let whole = whole_text a.word a.form last c.in_ok-end.end ran.told c.run_text.new.explaining.more c.args.text.now ran.text in
    let all_due : IsDue old mid c.hold_end.new.held.items [] goal_text = due_line old mid c.run_text.new.explaining.held.items c.hold_end.new.held.items rest (head ++ ran.told) c.in_ok-hold_end.ensures.ok due in
    always_err _ (life_settled c.args.text.now a old c.flush.new.self.calls last c.in_ok-end.end ran.leads
    (subst (λ x. TookFront old c.flush.new.self.calls x) whole
    (front_by_flush old c.write_out.new.output.calls c.flush.new.self.calls c.write_out.new.held.items [] goal_text c.in_err-flush.ensures.calls (c.in_ok-write_out.ensures.printed old [] goal_text all_due))))

pub returns-in_err-flush-clause-cause : goal.returns-in_err-flush-clause-cause
returns-in_err-flush-clause-cause g c =
    let a = c.args.explaining.now.asked in
    let old = c.args.output.now.calls in
    let mid = c.run_text.new.output.calls in
    let head = line_text (word_line a.word) in
    let start : IsDue old old c.hold_word.new.held.items [] head = due_line old old c.args.explaining.now.held.items c.hold_word.new.held.items head [] c.in_ok-hold_word.ensures.ok (due_at_first old c.args.explaining.now.held.items c.requires.none) in
    let last = content_of c.run_text.new.explaining.detector in
    let ran = c.in_ok-end.ensures.ends in
    let due : IsDue old mid c.run_text.new.explaining.held.items [] (head ++ ran.told) = ran.due old head start in
    let rest = more_text c.run_text.new.explaining.more ++ line_text (last_line last c.in_ok-end.end) in
    let goal_text = (head ++ ran.told) ++ rest in
    let whole = whole_text a.word a.form last c.in_ok-end.end ran.told c.run_text.new.explaining.more c.args.text.now ran.text in
    let all_due : IsDue old mid c.hold_end.new.held.items [] goal_text = due_line old mid c.run_text.new.explaining.held.items c.hold_end.new.held.items rest (head ++ ran.told) c.in_ok-hold_end.ensures.ok due in
    let q = err_from_is_err_and c.from_residual-in_err-flush.result c.from_residual-in_err-flush.ensures.1 in
    rw (q.1, q.2)
    (write_cause old c.flush.new.self.calls c.in_err-flush.field-0.0
    (cause_by_flush [] [] old c.write_out.new.output.calls c.flush.new.self.calls c.write_out.new.held.items [] goal_text c.in_err-flush.field-0.0 (refl, refl)
    (c.in_ok-write_out.ensures.printed old [] goal_text all_due) c.in_err-flush.ensures.cause c.in_err-flush.ensures.calls))

pub returns-clause-prints : goal.returns-clause-prints
returns-clause-prints g c =
    let a = c.args.explaining.now.asked in
    let old = c.args.output.now.calls in
    let mid = c.run_text.new.output.calls in
    let head = line_text (word_line a.word) in
    let start : IsDue old old c.hold_word.new.held.items [] head = due_line old old c.args.explaining.now.held.items c.hold_word.new.held.items head [] c.in_ok-hold_word.ensures.ok (due_at_first old c.args.explaining.now.held.items c.requires.none) in
    let last = content_of c.run_text.new.explaining.detector in
    let ran = c.in_ok-end.ensures.ends in
    let due : IsDue old mid c.run_text.new.explaining.held.items [] (head ++ ran.told) = ran.due old head start in
    let rest = more_text c.run_text.new.explaining.more ++ line_text (last_line last c.in_ok-end.end) in
    let goal_text = (head ++ ran.told) ++ rest in
    let whole = whole_text a.word a.form last c.in_ok-end.end ran.told c.run_text.new.explaining.more c.args.text.now ran.text in
    let all_due : IsDue old mid c.hold_end.new.held.items [] goal_text = due_line old mid c.run_text.new.explaining.held.items c.hold_end.new.held.items rest (head ++ ran.told) c.in_ok-hold_end.ensures.ok due in
    record {
      last = last;
      leads = ran.leads;
      printed = subst (λ x. Took old c.flush.new.self.calls x) whole
          (due_flushed old c.write_out.new.output.calls c.flush.new.self.calls c.write_out.new.held.items goal_text c.in_ok-write_out.ensures.none
          (c.in_ok-write_out.ensures.printed old [] goal_text all_due) (took_by_flush c.write_out.new.output.calls c.flush.new.self.calls c.in_ok-flush.ensures.calls));
      written = c.write_out.new.output.calls;
      flushed = c.in_ok-flush.ensures.calls;
    }
