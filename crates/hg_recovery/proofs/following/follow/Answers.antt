use Rattle.std.proofs.Common.{◌≡◌, ◌<◌, ◌^◌, OnOk, Result, Ok, Err, refl, sym, ◌∙◌}
use Rattle.std.proofs.lemmas.Bool.{leb-false}
use Rattle.hg_model.specs.declared.event.Named.{Named}
use Rattle.hg_model.specs.declared.verdict.Refusal.TheVariants as refusal
use Rattle.hg_model.specs.declared.verdict.Verdict.TheVariants.{Accept}
use Rattle.hg_model.specs.Verdicts.{Standing, standing_of, verdict}
use Rattle.hg_model.proofs.Accepted.{no_cause}
use Rattle.hg_detect.specs.Engine.{LacksRoom}
use Rattle.hg_detect.specs.Making.{sets_asked}
use Rattle.hg_pool.specs.Answers.{IsTrueCause}
use Rattle.hg_recovery.proofs.Replaying.{asked_in_vain, asked_on_ok, content_in, full_of, of_following, reads_true, told_of, works_or_fault}
use Rattle.hg_recovery.proofs.Telling.{words_counted}
use Rattle.hg_recovery.proofs.following.follow.Goals as goal

-- before an event that is accepted there are fewer than 2^58
few_events : (s : Standing) (n : Named) → verdict s n ≡ Accept → s.events < 2 ^ 58
few_events s n accepts = leb-false (2 ^ 58) s.events (no_cause s n accepts).1.1.1.1.1.1.1.1.1.1.1.1.1.1.1.1.0

always : {T E P : Type 0} (result : Result T E) → P → OnOk result P
always (Ok value) holds = holds
always (Err error) holds = tt

pub returns-clause-accepted : goal.returns-clause-accepted
returns-clause-accepted g c = always c.accept.result (sym c.verdict.ensures ∙ c.in-Accept.is)

pub returns-clause-content : goal.returns-clause-content
returns-clause-content g c faithful = c.accept.ensures.content faithful

pub returns-clause-asked : goal.returns-clause-asked
returns-clause-asked g c faithful =
    asked_on_ok c.accept.result c.args.detector.now.sets c.accept.new.self.sets (sets_asked (content_in g.D.Disk c.args.detector.now) c.args.named.now.event) (c.accept.ensures.sets faithful)

pub returns-clause-few : goal.returns-clause-few
returns-clause-few g c = always c.accept.result (few_events (standing_of (content_in g.D.Disk c.args.detector.now)) c.args.named.now (sym c.verdict.ensures ∙ c.in-Accept.is))

pub returns-clause-damaged : goal.returns-clause-damaged
returns-clause-damaged g c faithful state told =
    absurd (told_of (λ r. r ≡ refusal.Damaged → ⊥) c.accept.result refusal.Damaged (c.accept.ensures.undamaged (reads_true g.D.Disk c.args.detector.now faithful state)) told refl)

pub returns-clause-full : goal.returns-clause-full
returns-clause-full g c faithful told = (
  sym c.verdict.ensures ∙ c.in-Accept.is,
  asked_in_vain c.accept.result c.args.detector.now.sets c.accept.new.self.sets (sets_asked (content_in g.D.Disk c.args.detector.now) c.args.named.now.event) (c.accept.ensures.sets faithful) told,
)

pub returns-clause-slots : goal.returns-clause-slots
returns-clause-slots g c told = full_of g.D.Disk c.accept.new.self.words (told_of (LacksRoom (IsTrueCause c.accept.new.self.words)) c.accept.result refusal.FullSlots c.accept.ensures.cause told)

pub returns-clause-unbroken : goal.returns-clause-unbroken
returns-clause-unbroken g c =
    works_or_fault g.D.Disk c.args.detector.now.words c.accept.new.self.words c.accept.result c.accept.ensures.went.breaks c.requires.unbroken c.accept.ensures.failures

pub returns-clause-refusal : goal.returns-clause-refusal
returns-clause-refusal g c =
    of_following g.D.Disk c.accept.new.self.words c.accept.result c.accept.ensures.cause
    (works_or_fault g.D.Disk c.args.detector.now.words c.accept.new.self.words c.accept.result c.accept.ensures.went.breaks c.requires.unbroken c.accept.ensures.failures)

pub returns-clause-device : goal.returns-clause-device
returns-clause-device g c = words_counted c.accept.result _ _ c.accept.ensures.failures
