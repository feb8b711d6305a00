use Rattle.std.proofs.Common.{ap, arith}
use Rattle.std.proofs.lemmas.Result.{IfOk-weaker, on_err_weaker}
use Rattle.hg_model.specs.Contents.{Content}
use Rattle.hg_model.specs.Change.{empty_content}
use Rattle.hg_sets.specs.Interning.{first_table}
use Rattle.hg_detect.specs.Memory.{content_of}
use Rattle.hg_streams.specs.Texts.{line_text}
use Rattle.hg_streams.proofs.Printed.{always_err}
use Rattle.hg_check.specs.Explaining.{Explains, TellsFrom, explain_text, life_text, word_line}
use Rattle.hg_check.proofs.Running.{front_of_all, one_held, told_of_all, wrote_none}
use Rattle.hg_check.proofs.explain.commands.run_explain.Goals as goal

pub returns-in_err-hold_word-clause-front : goal.returns-in_err-hold_word-clause-front
returns-in_err-hold_word-clause-front g c =
    always_err _ (wrote_none (first_table 262144) empty_content (explain_text c.args.explaining.now.asked.word c.args.explaining.now.asked.form) c.args.input.now.calls c.args.output.now.calls)

pub tell_on-requires-clause-room : goal.tell_on-requires-clause-room
tell_on-requires-clause-room g c = omega (arith, ap (λ (x : Content). x.last 0) c.requires.start.content)

pub returns-clause-prints : goal.returns-clause-prints
returns-clause-prints g c =
    let s = c.args.explaining.now in
    let head = c.hold_word.new.held.items in
    IfOk-weaker c.tell_on.result
    (λ end. TellsFrom s.detector.sets (content_of s.detector) (life_text head s.asked.word s.asked.form (content_of s.detector)) c.args.input.now.calls c.tell_on.new.input.calls c.args.output.now.calls c.tell_on.new.output.calls end)
    (λ end. Explains s.asked.word s.asked.form c.args.input.now.calls c.tell_on.new.input.calls c.args.output.now.calls c.tell_on.new.output.calls end)
    (λ end told. told_of_all s.detector head s.asked.word s.asked.form c.args.input.now.calls c.tell_on.new.input.calls c.args.output.now.calls c.tell_on.new.output.calls end c.requires.start
    (one_held s.held.items head (line_text (word_line s.asked.word)) c.requires.none c.in_ok-hold_word.ensures.ok) told)
    c.tell_on.ensures.prints

pub returns-clause-front : goal.returns-clause-front
returns-clause-front g c =
    let s = c.args.explaining.now in
    let head = c.hold_word.new.held.items in
    on_err_weaker c.tell_on.result
    (λ wrote. front_of_all s.detector head s.asked.word s.asked.form c.args.input.now.calls c.tell_on.new.input.calls c.args.output.now.calls c.tell_on.new.output.calls c.requires.start
    (one_held s.held.items head (line_text (word_line s.asked.word)) c.requires.none c.in_ok-hold_word.ensures.ok) wrote)
    c.tell_on.ensures.front
