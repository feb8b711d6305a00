use Rattle.std.proofs.Common.{rules, ◌≡◌, ◌+◌, ◌-◌, ◌^◌, ℕ, List, length, inr, Result, Err, Ok, refl, sym, ◌∙◌, ap, subst, ⊎_elim, arith}
use Rattle.std.specs.Prelude.{IfErr}
use Rattle.std.proofs.lemmas.Bool.{cases_lt, true≢false}
use Rattle.hg_model.specs.declared.event.Named.{Named}
use Rattle.hg_model.specs.declared.verdict.Refusal.{Refusal}
use Rattle.hg_model.specs.Parts.{Parts}
use Rattle.hg_journals.specs.Collecting.{HasOutside}
use Rattle.hg_journals.specs.Pairs.{base_of, failures, last_of}
use Rattle.hg_journals.proofs.Walking.{front_read, true_between, true_of}
use Rattle.hg_pool.specs.Maps as pools
use Rattle.hg_pool.specs.OfWords.{went_nowhere}
use Rattle.hg_recovery.specs.Answers.{CountsFailures, IsOfRecovery, failed_in}
use Rattle.hg_recovery.specs.Filling.{Fills}
use Rattle.hg_recovery.specs.Replaying.{CountsReplay, failures_in, most_calls}
use Rattle.hg_recovery.proofs.Replaying.{all_led, call_on, called, content_in, few_then, no_call, no_lead, now_ready, on_ok, read_on, rest_is, was_read}
use Rattle.hg_recovery.proofs.Filling.{fills_limit}
use Rattle.hg_recovery.proofs.Telling.{of_next, of_reading, reading_asks_none, reading_takes_none, reading_failed}
use Rattle.hg_recovery.proofs.following.replay.Goals as goal

pub returns-in_err-reader-clause-damaged : goal.returns-in_err-reader-clause-damaged
returns-in_err-reader-clause-damaged g c base events honest k faithful told lawful d lead =
    let count : c.events.result ≡ (content_in g.D.Disk c.args.detector.now).events = c.events.ensures ∙ ap (λ (p : Parts). p.events) c.state.ensures in
    let out = c.in_err-reader.ensures.damaged base events (true_of g.D.Disk g.met.D.Disk.honest_reads honest c.events_behind.new.self) k (search rules) in
    no_lead g.D.Disk c.args.journals.now base events k (content_in g.D.Disk c.args.detector.now) d (subst (λ (n : ℕ). HasOutside n c.args.journals.now) count out) lead

pub returns-in_err-reader-clause-outside : goal.returns-in_err-reader-clause-outside
returns-in_err-reader-clause-outside g c out =
    let count : c.events.result ≡ (content_in g.D.Disk c.args.detector.now).events = c.events.ensures ∙ ap (λ (p : Parts). p.events) c.state.ensures in
    let refused = c.in_err-reader.ensures.outside c.requires.works (subst (λ (n : ℕ). HasOutside n c.args.journals.now) (sym count) out) in
    (search rules, refused.1, refl)

pub returns-clause-replayed : goal.returns-clause-replayed
returns-clause-replayed g c base events honest k faithful =
    let count : c.events.result ≡ (content_in g.D.Disk c.args.detector.now).events = c.events.ensures ∙ ap (λ (p : Parts). p.events) c.state.ensures in
    let first = content_in g.D.Disk c.args.detector.now in
    let last = content_in g.D.Disk c.follow_rest.new.detector in
    let begun = c.in_ok-reader.ensures.first base events (true_of g.D.Disk g.met.D.Disk.honest_reads honest c.events_behind.new.self) k in
    let kept = c.events_behind.ensures.keeps base events (true_of g.D.Disk g.met.D.Disk.honest_reads honest c.events_behind.new.self) k in
    on_ok c.follow_rest.result (λ rest. all_led base begun.0 rest.0 events first last (begun.1 ∙ count) rest.1 rest.2) (c.follow_rest.ensures.followed base events begun.0 honest kept begun.2 faithful)

pub returns-clause-sets : goal.returns-clause-sets
returns-clause-sets g c base events honest k faithful =
    let count : c.events.result ≡ (content_in g.D.Disk c.args.detector.now).events = c.events.ensures ∙ ap (λ (p : Parts). p.events) c.state.ensures in
    let first = content_in g.D.Disk c.args.detector.now in
    let last = content_in g.D.Disk c.follow_rest.new.detector in
    let begun = c.in_ok-reader.ensures.first base events (true_of g.D.Disk g.met.D.Disk.honest_reads honest c.events_behind.new.self) k in
    let kept = c.events_behind.ensures.keeps base events (true_of g.D.Disk g.met.D.Disk.honest_reads honest c.events_behind.new.self) k in
    on_ok c.follow_rest.result
    (λ rest. subst (λ (l : List Named). Fills l first c.args.detector.now.sets last c.follow_rest.new.detector.sets) (sym (rest_is base first.events begun.0 rest.0 events (begun.1 ∙ count) rest.1)) rest.3)
    (c.follow_rest.ensures.followed base events begun.0 honest kept begun.2 faithful)

pub returns-clause-damaged : goal.returns-clause-damaged
returns-clause-damaged g c base events honest k faithful told =
    let count : c.events.result ≡ (content_in g.D.Disk c.args.detector.now).events = c.events.ensures ∙ ap (λ (p : Parts). p.events) c.state.ensures in
    let begun = c.in_ok-reader.ensures.first base events (true_of g.D.Disk g.met.D.Disk.honest_reads honest c.events_behind.new.self) k in
    c.follow_rest.ensures.damaged base events begun.0 honest (c.events_behind.ensures.keeps base events (true_of g.D.Disk g.met.D.Disk.honest_reads honest c.events_behind.new.self) k) begun.2 faithful told (begun.1 ∙ count)

pub returns-clause-full : goal.returns-clause-full
returns-clause-full g c base events honest k faithful told =
    let count : c.events.result ≡ (content_in g.D.Disk c.args.detector.now).events = c.events.ensures ∙ ap (λ (p : Parts). p.events) c.state.ensures in
    let begun = c.in_ok-reader.ensures.first base events (true_of g.D.Disk g.met.D.Disk.honest_reads honest c.events_behind.new.self) k in
    c.follow_rest.ensures.full base events begun.0 honest (c.events_behind.ensures.keeps base events (true_of g.D.Disk g.met.D.Disk.honest_reads honest c.events_behind.new.self) k) begun.2 faithful told (begun.1 ∙ count)

pub returns-clause-keeps : goal.returns-clause-keeps
returns-clause-keeps g c base events were k =
    let files = c.follow_rest.ensures.files in
    let before = true_between g.D.Disk c.events_behind.new.self c.follow_rest.new.journals files.same.turn files.first.any_moment.kept files.second.any_moment.kept were in
    c.follow_rest.ensures.keeps base events (c.events_behind.ensures.keeps base events before k)

pub returns-clause-ready : goal.returns-clause-ready
returns-clause-ready g c base events honest k faithful ready =
    let count : c.events.result ≡ (content_in g.D.Disk c.args.detector.now).events = c.events.ensures ∙ ap (λ (p : Parts). p.events) c.state.ensures in
    let old = c.args.detector.now in
    let new = c.follow_rest.new.detector in
    let first = content_in g.D.Disk old in
    let begun = c.in_ok-reader.ensures.first base events (true_of g.D.Disk g.met.D.Disk.honest_reads honest c.events_behind.new.self) k in
    let kept = c.events_behind.ensures.keeps base events (true_of g.D.Disk g.met.D.Disk.honest_reads honest c.events_behind.new.self) k in
    on_ok c.follow_rest.result
    (λ rest. now_ready g.D.Disk c.args.journals.now base events k old new (all_led base begun.0 rest.0 events first (content_in g.D.Disk new) (begun.1 ∙ count) rest.1 rest.2)
    (subst (λ (l : List Named). Fills l first old.sets (content_in g.D.Disk new) new.sets) (sym (rest_is base first.events begun.0 rest.0 events (begun.1 ∙ count) rest.1)) rest.3)
    (c.follow_rest.ensures.faithful faithful) ready)
    (c.follow_rest.ensures.followed base events begun.0 honest kept begun.2 faithful)

pub returns-clause-limit : goal.returns-clause-limit
returns-clause-limit g c base events honest k faithful =
    let begun = c.in_ok-reader.ensures.first base events (true_of g.D.Disk g.met.D.Disk.honest_reads honest c.events_behind.new.self) k in
    on_ok c.follow_rest.result
    (λ rest. fills_limit rest.0 (content_in g.D.Disk c.args.detector.now) c.args.detector.now.sets (content_in g.D.Disk c.follow_rest.new.detector) c.follow_rest.new.detector.sets rest.3)
    (c.follow_rest.ensures.followed base events begun.0 honest (c.events_behind.ensures.keeps base events (true_of g.D.Disk g.met.D.Disk.honest_reads honest c.events_behind.new.self) k) begun.2 faithful)

pub returns-in_err-reader-clause-files : goal.returns-in_err-reader-clause-files
returns-in_err-reader-clause-files g c =
    let count : c.events.result ≡ (content_in g.D.Disk c.args.detector.now).events = c.events.ensures ∙ ap (λ (p : Parts). p.events) c.state.ensures in
    let n = c.events.result - base_of c.args.journals.now in
    was_read g.D.Disk n (most_calls c.args.journals.now c.args.detector.now) c.args.journals.now c.events_behind.new.self (Err c.in_err-reader.field-0.0) (omega (arith, count)) c.in_err-reader.ensures.reads

pub returns-clause-files : goal.returns-clause-files
returns-clause-files g c =
    let count : c.events.result ≡ (content_in g.D.Disk c.args.detector.now).events = c.events.ensures ∙ ap (λ (p : Parts). p.events) c.state.ensures in
    let n = c.events.result - base_of c.args.journals.now in
    read_on g.D.Disk n (2 ^ 58 + 1) (most_calls c.args.journals.now c.args.detector.now) c.args.journals.now c.events_behind.new.self c.follow_rest.new.journals (omega (arith, count))
    (was_read g.D.Disk n n c.args.journals.now c.events_behind.new.self (Ok c.in_ok-reader.reader) (omega arith) c.in_ok-reader.ensures.reads) c.follow_rest.ensures.files

pub returns-in_err-reader-clause-calls : goal.returns-in_err-reader-clause-calls
returns-in_err-reader-clause-calls g c base events honest k faithful =
    let n = c.events.result - base_of c.args.journals.now in
    let old = c.args.journals.now in
    let new = c.events_behind.new.self in
    ⊎_elim
    (λ out. no_call g.D.Disk _ old new (c.in_err-reader.ensures.outside c.requires.works (inr out)).1)
    (λ within. called g.D.Disk n _ old new (omega (arith, within, k.begins, k.ends)) (was_read g.D.Disk n n old new (Err c.in_err-reader.field-0.0) (omega arith) c.in_err-reader.ensures.reads))
    (cases_lt (last_of old) c.events.result)

pub returns-clause-calls : goal.returns-clause-calls
returns-clause-calls g c base events honest k faithful =
    let n = c.events.result - base_of c.args.journals.now in
    let old = c.args.journals.now in
    let mid = c.events_behind.new.self in
    let begun = c.in_ok-reader.ensures.first base events (true_of g.D.Disk g.met.D.Disk.honest_reads honest c.events_behind.new.self) k in
    let kept = c.events_behind.ensures.keeps base events (true_of g.D.Disk g.met.D.Disk.honest_reads honest c.events_behind.new.self) k in
    let reader = c.in_ok-reader.reader in
    let left = front_read g.D.Disk mid base events kept reader.in_newer reader.reader begun.0 begun.2 in
    let few = few_then base begun.0 left.0 events c.events.result begun.1 left.1 in
    call_on g.D.Disk n ((length events - length begun.0) + 1) _ old mid c.follow_rest.new.journals (omega (arith, few, k.begins))
    (called g.D.Disk n n old mid (omega arith) (was_read g.D.Disk n n old mid (Ok reader) (omega arith) c.in_ok-reader.ensures.reads))
    (c.follow_rest.ensures.calls base events begun.0 honest kept begun.2 faithful)

pub returns-in_err-reader-clause-went : goal.returns-in_err-reader-clause-went
returns-in_err-reader-clause-went g c = went_nowhere g.D.Disk c.args.detector.now.words

pub returns-clause-device : goal.returns-clause-device
returns-clause-device g c =
    let slots = g.D.Disk.failures (pools.disk_of c.args.detector.now.words) in
    let same : failures c.events_behind.new.self ≡ failures c.args.journals.now = c.in_ok-reader.ensures.reads.device in
    subst (λ (n : ℕ). CountsFailures c.follow_rest.result (n + slots) (failures_in c.follow_rest.new.journals c.follow_rest.new.detector)) same c.follow_rest.ensures.device

pub returns-in_err-reader-clause-refusal : goal.returns-in_err-reader-clause-refusal
returns-in_err-reader-clause-refusal g c =
    let e = c.in_err-reader.field-0.0 in
    let same : c.from_residual.result ≡ Err e = grind arith in
    let reading = of_next e c.in_err-reader.ensures.reads.fault (λ broken. true≢false (sym (c.in_err-reader.ensures.reads.broken broken) ∙ c.requires.works)) in
    subst (λ (r : Result _ Refusal). IfErr r IsOfRecovery) (sym same) (of_reading e reading)

pub returns-in_err-reader-clause-slots : goal.returns-in_err-reader-clause-slots
returns-in_err-reader-clause-slots g c told =
    let e = c.in_err-reader.field-0.0 in
    let reading = of_next e c.in_err-reader.ensures.reads.fault (λ broken. true≢false (sym (c.in_err-reader.ensures.reads.broken broken) ∙ c.requires.works)) in
    reading_takes_none e reading (search rules)

pub returns-in_err-reader-clause-full : goal.returns-in_err-reader-clause-full
returns-in_err-reader-clause-full g c base events honest k faithful told =
    let e = c.in_err-reader.field-0.0 in
    let reading = of_next e c.in_err-reader.ensures.reads.fault (λ broken. true≢false (sym (c.in_err-reader.ensures.reads.broken broken) ∙ c.requires.works)) in
    reading_asks_none e reading (search rules)

pub returns-in_err-reader-clause-device : goal.returns-in_err-reader-clause-device
returns-in_err-reader-clause-device g c =
    let e = c.in_err-reader.field-0.0 in
    let old = c.args.journals.now in
    let new = c.events_behind.new.self in
    let d = c.args.detector.now in
    let same : c.from_residual.result ≡ Err e = grind arith in
    let told = reading_failed e (failures old) in
    let now = c.in_err-reader.ensures.reads.device in
    let is : failures_in new d ≡ failed_in e + failures_in old d = omega (arith, told, now) in
    subst (λ (r : Result _ Refusal). CountsReplay old d new d r) (sym same) is

pub returns-in_err-reader-clause-unbroken : goal.returns-in_err-reader-clause-unbroken
returns-in_err-reader-clause-unbroken g c other = c.requires.unbroken

pub returns-in_err-reader-clause-works : goal.returns-in_err-reader-clause-works
returns-in_err-reader-clause-works g c = c.in_err-reader.ensures.reads.same.broken ∙ c.requires.works

pub follow_rest-requires-clause-works : goal.follow_rest-requires-clause-works
follow_rest-requires-clause-works g c = c.in_ok-reader.ensures.reads.same.broken ∙ c.requires.works

pub returns-clause-works : goal.returns-clause-works
returns-clause-works g c = c.follow_rest.ensures.files.same.broken ∙ (c.in_ok-reader.ensures.reads.same.broken ∙ c.requires.works)

pub returns-clause-outside : goal.returns-clause-outside
returns-clause-outside g c out =
    let count : c.events.result ≡ (content_in g.D.Disk c.args.detector.now).events = c.events.ensures ∙ ap (λ (p : Parts). p.events) c.state.ensures in
    let refused = c.in_ok-reader.ensures.outside c.requires.works (subst (λ (n : ℕ). HasOutside n c.args.journals.now) (sym count) out) in
    absurd (cc refused.0)
