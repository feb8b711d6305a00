use Rattle.std.proofs.Common.{◌≡◌, ◌++◌, subst}
use Rattle.std.proofs.lemmas.Result.{IfOk-weaker, on_err_weaker}
use Rattle.hg_detect.specs.Memory.{content_of}
use Rattle.hg_streams.specs.Texts.{line_text}
use Rattle.hg_streams.proofs.Printed.{always_err}
use Rattle.hg_check.specs.Behind.{behind_text, gone_text}
use Rattle.hg_check.specs.Explaining.{TellsFrom, WroteFrontFrom, life_text, word_line}
use Rattle.hg_check.proofs.Running.{two_held, wrote_none}
use Rattle.hg_check.proofs.explain.behind.run_behind.Goals as goal

pub returns-in_err-hold_word-clause-front : goal.returns-in_err-hold_word-clause-front
returns-in_err-hold_word-clause-front g c =
    let s = c.args.explaining.now in
    always_err _ (wrote_none s.detector.sets (content_of s.detector) (behind_text s.asked.word s.asked.form (content_of s.detector)) c.args.input.now.calls c.args.output.now.calls)

pub returns-in_err-hold_gone-clause-front : goal.returns-in_err-hold_gone-clause-front
returns-in_err-hold_gone-clause-front g c =
    let s = c.args.explaining.now in
    always_err _ (wrote_none s.detector.sets (content_of s.detector) (behind_text s.asked.word s.asked.form (content_of s.detector)) c.args.input.now.calls c.args.output.now.calls)

pub returns-clause-prints : goal.returns-clause-prints
returns-clause-prints g c =
    let s = c.args.explaining.now in
    let d = s.detector in
    let head = c.hold_gone.new.held.items in
    let word = line_text (word_line s.asked.word) in
    let is : head ≡ word ++ gone_text s.asked.word (content_of d) =
    two_held s.held.items c.hold_word.new.held.items head word (gone_text s.asked.word (content_of d)) c.requires.none c.in_ok-hold_word.ensures.ok c.in_ok-hold_gone.ensures.ok in
    IfOk-weaker c.tell_on.result
    (λ end. TellsFrom d.sets (content_of d) (life_text head s.asked.word s.asked.form (content_of d)) c.args.input.now.calls c.tell_on.new.input.calls c.args.output.now.calls c.tell_on.new.output.calls end)
    (λ end. TellsFrom d.sets (content_of d) (behind_text s.asked.word s.asked.form (content_of d)) c.args.input.now.calls c.tell_on.new.input.calls c.args.output.now.calls c.tell_on.new.output.calls end)
    (λ end told. subst (λ xs. TellsFrom d.sets (content_of d) (life_text xs s.asked.word s.asked.form (content_of d)) c.args.input.now.calls c.tell_on.new.input.calls c.args.output.now.calls c.tell_on.new.output.calls end) is told)
    c.tell_on.ensures.prints

pub returns-clause-front : goal.returns-clause-front
returns-clause-front g c =
    let s = c.args.explaining.now in
    let d = s.detector in
    let head = c.hold_gone.new.held.items in
    let word = line_text (word_line s.asked.word) in
    let is : head ≡ word ++ gone_text s.asked.word (content_of d) =
    two_held s.held.items c.hold_word.new.held.items head word (gone_text s.asked.word (content_of d)) c.requires.none c.in_ok-hold_word.ensures.ok c.in_ok-hold_gone.ensures.ok in
    on_err_weaker c.tell_on.result
    (λ wrote. subst (λ xs. WroteFrontFrom d.sets (content_of d) (life_text xs s.asked.word s.asked.form (content_of d)) c.args.input.now.calls c.tell_on.new.input.calls c.args.output.now.calls c.tell_on.new.output.calls) is wrote)
    c.tell_on.ensures.front
