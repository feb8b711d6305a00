use Rattle.std.proofs.Common.{Ok, Err, refl, subst, ap, ◌∙◌}
use Rattle.hg_detect.specs.declared.detector.Answer.{Answer}
use Rattle.hg_detect.specs.declared.detector.Answer.TheVariants.{Duplicate}
use Rattle.hg_commands.specs.FeedRunning.{WasSent}
use Rattle.hg_commands.specs.Offering.{event_of, reading_of}
use Rattle.hg_commands.proofs.FeedSteps.{breaks_accepted, breaks_still, ends_refused, fault_counted, fault_is_told, passes_accepted, passes_duplicate, way_accepted, way_refused}
use Rattle.hg_commands.specs.TakingLaws.{keeps_then}
use Rattle.hg_streams.proofs.Printed.{always_err}
use Rattle.hg_commands.proofs.lines.Feeding.feed_event.Goals as goal

pub returns-in_ok-count_accepted-in-Ok-Accepted-clause-passes : goal.returns-in_ok-count_accepted-in-Ok-Accepted-clause-passes
returns-in_ok-count_accepted-in-Ok-Accepted-clause-passes g c = λ _.
    passes_accepted g.D.Disk c.args.self.now.store c.send.new.self.store c.count_accepted.new.self.store c.args.self.now.fed c.send.new.self.fed c.count_accepted.new.self.fed (event_of c.args.parts)
    c.args.output.now.calls c.count_accepted.new.output.calls (reading_of c.args.line c.args.parts) refl c.requires.ready
    (subst (λ r. WasSent g.D.Disk c.args.self.now.store c.send.new.self.store c.args.self.now.fed c.send.new.self.fed (event_of c.args.parts) r) (c.in-Ok-Accepted.is ∙ ap (λ (a : Answer). Ok a) c.in-Ok-Accepted.field-0-is) c.send.ensures.sent)
    c.in_ok-count_accepted-in-Ok-Accepted.ensures.counted

pub returns-in-Ok-Duplicate-clause-passes : goal.returns-in-Ok-Duplicate-clause-passes
returns-in-Ok-Duplicate-clause-passes g c = λ _.
    passes_duplicate g.D.Disk c.args.self.now.store c.send.new.self.store c.args.self.now.fed c.send.new.self.fed (event_of c.args.parts) c.in-Ok-Duplicate.field-0-0
    c.args.output.now.calls (reading_of c.args.line c.args.parts) refl c.requires.ready
    (subst (λ r. WasSent g.D.Disk c.args.self.now.store c.send.new.self.store c.args.self.now.fed c.send.new.self.fed (event_of c.args.parts) r) (c.in-Ok-Duplicate.is ∙ ap (λ (a : Answer). Ok a) c.in-Ok-Duplicate.field-0-is) c.send.ensures.sent)

pub returns-in-Err-clause-ends : goal.returns-in-Err-clause-ends
returns-in-Err-clause-ends g c end given =
    ends_refused g.D.Disk c.args.self.now.store c.send.new.self.store c.args.self.now.fed c.send.new.self.fed (event_of c.args.parts) c.in-Err.refusal
    c.args.output.now.calls (reading_of c.args.line c.args.parts) c.end_line.result end refl c.requires.ready
    (subst (λ r. WasSent g.D.Disk c.args.self.now.store c.send.new.self.store c.args.self.now.fed c.send.new.self.fed (event_of c.args.parts) r) c.in-Err.is c.send.ensures.sent)
    c.end_line.ensures given

pub returns-in_err-count_accepted-in-Ok-Accepted-clause-kept : goal.returns-in_err-count_accepted-in-Ok-Accepted-clause-kept
returns-in_err-count_accepted-in-Ok-Accepted-clause-kept g c =
    keeps_then g.D.Disk c.args.self.now.store c.send.new.self.store c.count_accepted.new.self.store c.args.output.now.calls c.args.output.now.calls c.count_accepted.new.output.calls c.args.self.now.moments c.send.new.self.moments c.count_accepted.new.self.moments
    c.send.ensures.kept c.count_accepted.ensures.kept

pub returns-in_ok-count_accepted-in-Ok-Accepted-clause-kept : goal.returns-in_ok-count_accepted-in-Ok-Accepted-clause-kept
returns-in_ok-count_accepted-in-Ok-Accepted-clause-kept g c =
    keeps_then g.D.Disk c.args.self.now.store c.send.new.self.store c.count_accepted.new.self.store c.args.output.now.calls c.args.output.now.calls c.count_accepted.new.output.calls c.args.self.now.moments c.send.new.self.moments c.count_accepted.new.self.moments
    c.send.ensures.kept c.count_accepted.ensures.kept

pub returns-in_err-count_accepted-in-Ok-Accepted-clause-front : goal.returns-in_err-count_accepted-in-Ok-Accepted-clause-front
returns-in_err-count_accepted-in-Ok-Accepted-clause-front g c =
    always_err _ (breaks_accepted g.D.Disk c.args.self.now.store c.send.new.self.store c.args.self.now.fed c.send.new.self.fed (event_of c.args.parts)
    c.args.output.now.calls c.count_accepted.new.output.calls (reading_of c.args.line c.args.parts) refl c.requires.ready
    (subst (λ r. WasSent g.D.Disk c.args.self.now.store c.send.new.self.store c.args.self.now.fed c.send.new.self.fed (event_of c.args.parts) r) (c.in-Ok-Accepted.is ∙ ap (λ (a : Answer). Ok a) c.in-Ok-Accepted.field-0-is) c.send.ensures.sent)
    c.count_accepted.ensures.calls)

pub returns-in-Err-clause-front : goal.returns-in-Err-clause-front
returns-in-Err-clause-front g c = always_err _ (breaks_still g.D.Disk c.args.self.now.store c.args.self.now.fed c.args.output.now.calls (reading_of c.args.line c.args.parts))

pub returns-in-Err-clause-cause : goal.returns-in-Err-clause-cause
returns-in-Err-clause-cause g c =
    fault_is_told g.D.Disk c.args.self.now.store c.send.new.self.store c.args.self.now.fed c.send.new.self.fed (event_of c.args.parts) c.args.line c.in-Err.refusal c.end_line.result c.requires.ready
    (subst (λ r. WasSent g.D.Disk c.args.self.now.store c.send.new.self.store c.args.self.now.fed c.send.new.self.fed (event_of c.args.parts) r) c.in-Err.is c.send.ensures.sent)
    c.end_line.ensures

pub returns-in-Err-clause-fault : goal.returns-in-Err-clause-fault
returns-in-Err-clause-fault g c =
    fault_counted g.D.Disk c.args.self.now.store c.send.new.self.store c.args.self.now.fed c.send.new.self.fed (event_of c.args.parts) c.args.output.now.calls c.args.line c.in-Err.refusal c.end_line.result
    (subst (λ r. WasSent g.D.Disk c.args.self.now.store c.send.new.self.store c.args.self.now.fed c.send.new.self.fed (event_of c.args.parts) r) c.in-Err.is c.send.ensures.sent)
    c.end_line.ensures

pub returns-in_err-count_accepted-in-Ok-Accepted-clause-way : goal.returns-in_err-count_accepted-in-Ok-Accepted-clause-way
returns-in_err-count_accepted-in-Ok-Accepted-clause-way g c =
    way_accepted g.D.Disk c.args.self.now.store c.send.new.self.store c.count_accepted.new.self.store c.args.self.now.fed c.send.new.self.fed c.count_accepted.new.self.fed (event_of c.args.parts)
    c.args.output.now.calls c.count_accepted.new.output.calls (reading_of c.args.line c.args.parts) refl c.requires.ready
    (subst (λ r. WasSent g.D.Disk c.args.self.now.store c.send.new.self.store c.args.self.now.fed c.send.new.self.fed (event_of c.args.parts) r) (c.in-Ok-Accepted.is ∙ ap (λ (a : Answer). Ok a) c.in-Ok-Accepted.field-0-is) c.send.ensures.sent)
    c.count_accepted.ensures.detector

pub returns-in_ok-count_accepted-in-Ok-Accepted-clause-way : goal.returns-in_ok-count_accepted-in-Ok-Accepted-clause-way
returns-in_ok-count_accepted-in-Ok-Accepted-clause-way g c =
    way_accepted g.D.Disk c.args.self.now.store c.send.new.self.store c.count_accepted.new.self.store c.args.self.now.fed c.send.new.self.fed c.count_accepted.new.self.fed (event_of c.args.parts)
    c.args.output.now.calls c.count_accepted.new.output.calls (reading_of c.args.line c.args.parts) refl c.requires.ready
    (subst (λ r. WasSent g.D.Disk c.args.self.now.store c.send.new.self.store c.args.self.now.fed c.send.new.self.fed (event_of c.args.parts) r) (c.in-Ok-Accepted.is ∙ ap (λ (a : Answer). Ok a) c.in-Ok-Accepted.field-0-is) c.send.ensures.sent)
    c.count_accepted.ensures.detector

pub returns-in-Ok-Duplicate-clause-way : goal.returns-in-Ok-Duplicate-clause-way
returns-in-Ok-Duplicate-clause-way g c =
    way_refused g.D.Disk c.args.self.now.store c.send.new.self.store c.args.self.now.fed c.send.new.self.fed (event_of c.args.parts) (Ok (Duplicate c.in-Ok-Duplicate.field-0-0))
    c.args.output.now.calls c.args.output.now.calls (reading_of c.args.line c.args.parts) refl
    (subst (λ r. WasSent g.D.Disk c.args.self.now.store c.send.new.self.store c.args.self.now.fed c.send.new.self.fed (event_of c.args.parts) r) (c.in-Ok-Duplicate.is ∙ ap (λ (a : Answer). Ok a) c.in-Ok-Duplicate.field-0-is) c.send.ensures.sent)

pub returns-in-Err-clause-way : goal.returns-in-Err-clause-way
returns-in-Err-clause-way g c =
    way_refused g.D.Disk c.args.self.now.store c.send.new.self.store c.args.self.now.fed c.send.new.self.fed (event_of c.args.parts) (Err c.in-Err.refusal)
    c.args.output.now.calls c.args.output.now.calls (reading_of c.args.line c.args.parts) refl
    (subst (λ r. WasSent g.D.Disk c.args.self.now.store c.send.new.self.store c.args.self.now.fed c.send.new.self.fed (event_of c.args.parts) r) c.in-Err.is c.send.ensures.sent)
