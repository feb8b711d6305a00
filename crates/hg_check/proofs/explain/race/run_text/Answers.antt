use Rattle.std.proofs.Common.{length, ◌+◌, ◌<◌, ◌^◌, arith, ap, sym, subst}
use Rattle.hg_model.specs.Contents.{Content}
use Rattle.hg_detect.specs.Memory.{content_of}
use Rattle.hg_streams.proofs.Printed.{always_err}
use Rattle.hg_check.specs.Telling.{HasRunText}
use Rattle.hg_check.proofs.LifeWhole.{front_of_text, front_of_word, has_run_text}
use Rattle.hg_check.proofs.explain.race.run_text.Goals as goal

pub returns-in_err-reader-clause-front : goal.returns-in_err-reader-clause-front
returns-in_err-reader-clause-front g c first due = always_err _ (front_of_word c.args.text.now c.args.explaining.now c.args.output.now.calls first due)

pub offer_text-requires-clause-room : goal.offer_text-requires-clause-room
offer_text-requires-clause-room g c =
    let len : length c.args.text.now + 1 < 2 ^ 64 = grind arith in
    (c.requires.fresh.ready, omega (arith, ap (λ (x : Content). x.last 0) c.requires.start.content, len))

pub returns-in_err-stop-clause-front : goal.returns-in_err-stop-clause-front
returns-in_err-stop-clause-front g c first due =
    always_err _ (front_of_text c.args.text.now c.args.explaining.now c.offer_text.new.sink c.args.output.now.calls c.offer_text.new.output.calls first c.in_err-stop.field-0.0 c.requires.fresh c.requires.start c.in_err-stop.ensures due)

pub returns-clause-ends : goal.returns-clause-ends
returns-clause-ends g c =
    subst (λ end. HasRunText c.args.explaining.now.asked.word c.args.explaining.now.asked.form c.args.text.now c.args.output.now.calls c.offer_text.new.output.calls c.args.explaining.now.held.items
    c.offer_text.new.sink.held.items (content_of c.offer_text.new.sink.detector) c.offer_text.new.sink.more end) (sym c.ended.ensures)
    (has_run_text c.args.text.now c.args.explaining.now c.offer_text.new.sink c.args.output.now.calls c.offer_text.new.output.calls c.in_ok-stop.stop c.requires.fresh c.requires.start c.in_ok-stop.ensures)
