use Rattle.std.proofs.Common.{ℕ, [], Option, subst}
use Rattle.hg_streams.proofs.Printed.{always_err, due_flushed, front_by_flush, took_by_flush}
use Rattle.hg_check.specs.RaceLife.{IsFound}
use Rattle.hg_check.proofs.Running.{due_held}
use Rattle.hg_check.proofs.RaceText.{race_front, race_none, race_none_front, race_told}
use Rattle.hg_check.proofs.explain.race.tell_race.Goals as goal

pub returns-in_err-end-in-Some-clause-front : goal.returns-in_err-end-in-Some-clause-front
returns-in_err-end-in-Some-clause-front g c =
    let held = c.find_word.new.held.items in
    let old = c.args.output.now.calls in
    let found = subst (λ (x : Option ℕ). IsFound c.args.number c.args.text.now x held) c.in-Some.is c.in_ok-word.ensures.found in
    always_err _ (race_front c.args.number c.args.form c.args.text.now held c.in-Some.word old c.explain_text.new.output.calls found c.in_err-end-in-Some.ensures.front)

pub returns-in-Some-clause-prints : goal.returns-in-Some-clause-prints
returns-in-Some-clause-prints g c =
    let held = c.find_word.new.held.items in
    let old = c.args.output.now.calls in
    let found = subst (λ (x : Option ℕ). IsFound c.args.number c.args.text.now x held) c.in-Some.is c.in_ok-word.ensures.found in
    race_told c.args.number c.args.form c.args.text.now held c.in-Some.word old c.explain_text.new.output.calls c.in_ok-end-in-Some.end c.status_of_end.result found c.in_ok-end-in-Some.ensures.prints c.status_of_end.ensures

pub returns-in_err-write_out-in-None-clause-front : goal.returns-in_err-write_out-in-None-clause-front
returns-in_err-write_out-in-None-clause-front g c =
    let held = c.find_word.new.held.items in
    let old = c.args.output.now.calls in
    let found = subst (λ (x : Option ℕ). IsFound c.args.number c.args.text.now x held) c.in-None.is c.in_ok-word.ensures.found in
    always_err _ (race_none_front c.args.number c.args.form c.args.text.now held old c.write_out.new.output.calls found (c.in_err-write_out-in-None.ensures.front old [] held (due_held old held)))

pub returns-in_err-flush-in-None-clause-front : goal.returns-in_err-flush-in-None-clause-front
returns-in_err-flush-in-None-clause-front g c =
    let held = c.find_word.new.held.items in
    let old = c.args.output.now.calls in
    let found = subst (λ (x : Option ℕ). IsFound c.args.number c.args.text.now x held) c.in-None.is c.in_ok-word.ensures.found in
    always_err _ (race_none_front c.args.number c.args.form c.args.text.now held old c.flush.new.self.calls found
    (front_by_flush old c.write_out.new.output.calls c.flush.new.self.calls c.write_out.new.held.items [] held c.in_err-flush-in-None.ensures.calls (c.in_ok-write_out-in-None.ensures.printed old [] held (due_held old held))))

pub returns-clause-prints : goal.returns-clause-prints
returns-clause-prints g c =
    let held = c.find_word.new.held.items in
    let old = c.args.output.now.calls in
    let found = subst (λ (x : Option ℕ). IsFound c.args.number c.args.text.now x held) c.in-None.is c.in_ok-word.ensures.found in
    race_none c.args.number c.args.form c.args.text.now held old c.flush.new.self.calls c.write_out.new.output.calls found
    (due_flushed old c.write_out.new.output.calls c.flush.new.self.calls c.write_out.new.held.items held c.in_ok-write_out-in-None.ensures.none
    (c.in_ok-write_out-in-None.ensures.printed old [] held (due_held old held)) (took_by_flush c.write_out.new.output.calls c.flush.new.self.calls c.in_ok-flush-in-None.ensures.calls))
    c.in_ok-flush-in-None.ensures.calls
