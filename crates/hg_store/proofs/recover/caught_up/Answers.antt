use Rattle.std.proofs.Common.{◌≡◌, ◌∙◌, ℕ, Err, refl, sym, ap, subst, rules}
use Rattle.hg_model.specs.Contents.{Content}
use Rattle.hg_model.specs.Parts as model
use Rattle.hg_model.specs.declared.verdict.Refusal.{Refusal}
use Rattle.hg_model.specs.declared.verdict.Refusal.TheVariants.{FullSlots}
use Rattle.hg_detect.specs.Shown as detect
use Rattle.hg_images.specs.Images.{LeadFrom}
use Rattle.hg_images.specs.Steps.{resting}
use Rattle.hg_journals.proofs.Walking.{true_of}
use Rattle.hg_pool.specs.Maps as pools
use Rattle.hg_pool.specs.Shown as pool
use Rattle.hg_recovery.specs.Filling.{HasSets}
use Rattle.hg_recovery.proofs.Replaying.{content_in}
use Rattle.hg_store.specs.Recovering.{HasFullSlots}
use Rattle.hg_root.specs.Pairs.{first_of, second_of}
use Rattle.hg_root.specs.declared.pair.RootPair.{RootPair}
use Rattle.hg_store.proofs.Making.{based}
use Rattle.hg_store.proofs.FullSlots.{at_rest, full_slots}
use Rattle.hg_store.proofs.recover.caught_up.Goals as goal

pub made-requires-clause-stands : goal.made-requires-clause-stands
made-requires-clause-stands g c honest =
    let start = c.requires.started honest in
    let base = start.0 in
    let events = start.1 in
    let now = start.2 in
    let keeps = start.3 in
    let started = start.4 in
    let faithful = started.ready.faithful in
    let led = c.in-Ok.ensures.replayed base events honest keeps faithful in
    let stand = c.new-checkpointer.ensures.stands _ now.former started.stands in (
      resting base events now,
      based g.D.Disk g.met.D.Disk.has_its_bytes c.args.detector c.args.roots c.args.number now started c.replay.new.detector c.replay.ensures.went c.replay.new.journals base events c.new-checkpointer.result
          c.events-counted.result (c.replay.ensures.keeps base events (true_of g.D.Disk g.met.D.Disk.honest_reads honest c.replay.new.journals) keeps) led stand c.new-checkpointer.ensures.number (c.events-counted.ensures ∙ ap (λ (p : model.Parts). p.events) c.state.ensures),
      c.in-Ok.ensures.ready base events honest keeps faithful started.ready,
    )

pub returns-clause-content : goal.returns-clause-content
returns-clause-content g c now base events honest started keeps =
    let led = c.in-Ok.ensures.replayed base events honest keeps started.ready.faithful in
    let stand = c.new-checkpointer.ensures.stands _ now.former started.stands in
    let is = based g.D.Disk g.met.D.Disk.has_its_bytes c.args.detector c.args.roots c.args.number now started c.replay.new.detector c.replay.ensures.went c.replay.new.journals base events c.new-checkpointer.result
    c.events-counted.result (c.replay.ensures.keeps base events (true_of g.D.Disk g.met.D.Disk.honest_reads honest c.replay.new.journals) keeps) led stand c.new-checkpointer.ensures.number (c.events-counted.ensures ∙ ap (λ (p : model.Parts). p.events) c.state.ensures) in
    (_, is.gives, c.made.ensures.fresh (resting base events now) is)

pub returns-in-Err-clause-damaged : goal.returns-in-Err-clause-damaged
returns-in-Err-clause-damaged g c now base events honest started keeps told d gives =
    c.in-Err.ensures.damaged base events honest keeps started.ready.faithful (ap (λ (r : Refusal). Err r) told) started.ready.state d (subst (λ (s : Content). LeadFrom s base events d) (sym started.content) gives)

pub returns-clause-sets : goal.returns-clause-sets
returns-clause-sets g c now base events honest started keeps =
    subst (λ (d : detect.ShownDetector (pool.ShownPool g.row.D.Denot)). HasSets (content_in g.D.Disk c.args.detector) c.args.detector.sets base events (content_in g.D.Disk d) d.sets) (sym c.made.ensures.detector)
    (c.in-Ok.ensures.sets base events honest keeps started.ready.faithful)

pub returns-in-Err-clause-full : goal.returns-in-Err-clause-full
returns-in-Err-clause-full g c now base events honest started keeps told =
    c.in-Err.ensures.full base events honest keeps started.ready.faithful (ap (λ (r : Refusal). Err r) told)

pub returns-clause-device : goal.returns-clause-device
returns-clause-device g c = rw (c.made.ensures.devices, c.made.ensures.detector) c.in-Ok.ensures.device

pub returns-clause-journal0 : goal.returns-clause-journal0
returns-clause-journal0 g c = rw c.made.ensures.devices (record { state = c.replay.ensures.files.first.state; images = c.replay.ensures.files.first.any_moment })

pub returns-clause-journal1 : goal.returns-clause-journal1
returns-clause-journal1 g c = rw c.made.ensures.devices (record { state = c.replay.ensures.files.second.state; images = c.replay.ensures.files.second.any_moment })

pub returns-in-Err-clause-journal0 : goal.returns-in-Err-clause-journal0
returns-in-Err-clause-journal0 g c = record { state = c.replay.ensures.files.first.state; images = c.replay.ensures.files.first.any_moment }

pub returns-in-Err-clause-journal1 : goal.returns-in-Err-clause-journal1
returns-in-Err-clause-journal1 g c = record { state = c.replay.ensures.files.second.state; images = c.replay.ensures.files.second.any_moment }

pub returns-clause-went : goal.returns-clause-went
returns-clause-went g c = rw c.made.ensures.detector c.replay.ensures.went

pub returns-clause-slots : goal.returns-clause-slots
returns-clause-slots g c = rw (c.made.ensures.devices, c.made.ensures.detector) refl

pub returns-clause-first : goal.returns-clause-first
returns-clause-first g c = rw c.made.ensures.devices (ap (λ (r : RootPair g.row.D.Denot). first_of r) c.new-checkpointer.ensures.roots)

pub returns-clause-second : goal.returns-clause-second
returns-clause-second g c = rw c.made.ensures.devices (ap (λ (r : RootPair g.row.D.Denot). second_of r) c.new-checkpointer.ensures.roots)

pub made-requires-clause-words : goal.made-requires-clause-words
made-requires-clause-words g c = c.replay.ensures.unbroken (λ fault. absurd (search rules))

pub returns-in-Err-clause-full_slots : goal.returns-in-Err-clause-full_slots
returns-in-Err-clause-full_slots g c honest told =
    let start = c.requires.started honest in
    let old = c.args.detector.words in
    let new = c.replay.new.detector.words in
    let went = c.replay.ensures.went in
    let is : c.replay.result ≡ Err FullSlots = c.in-Err.is ∙ ap (λ (r : Refusal). Err r) told in
    subst (λ (n : ℕ). HasFullSlots g.D.Disk n (pools.disk_of new)) went.limits.1
    (full_slots g.D.Disk new (at_rest g.D.Disk old new went c.requires.rests) (went.whole start.4.ready.faithful.whole) (c.replay.ensures.unbroken (λ fault. absurd (cc (sym is ∙ fault)))) (c.replay.ensures.slots is))
