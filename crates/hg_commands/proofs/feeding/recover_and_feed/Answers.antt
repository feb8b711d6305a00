use Rattle.std.proofs.lemmas.Result.{IfErr-weaker, IfOk-weaker}
use Rattle.std.proofs.lemmas.List.Elements.{All-nil}
use Rattle.std.proofs.Common.{ℕ, List, All, IsTrue, inl, inr, refl, sym, subst}
use Rattle.hg_reading.specs.declared.ending.Ending.{Ending}
use Rattle.hg_images.specs.Images.{HasContent}
use Rattle.hg_store.specs.declared.devices.Devices.{Devices}
use Rattle.hg_store.specs.Images.{read_of}
use Rattle.hg_store.specs.Recovering.{HasTable}
use Rattle.hg_store.specs.Shown.{live}
use Rattle.hg_sets.specs.declared.table.TheConstants.{MOST_SETS}
use Rattle.hg_store.specs.Limits.{greatest_with}
use Rattle.hg_store.proofs.Refusals.{is_not_opened, opened_with}
use Rattle.hg_commands.specs.Instants.{HasLimits, Instant}
use Rattle.hg_commands.specs.FeedRunning.{FeedDone, WasFed}
use Rattle.hg_commands.specs.FeedFaults.{FeedFails, HasFeedCause}
use Rattle.hg_commands.proofs.FeedDone.{feed_done}
use Rattle.hg_streams.proofs.Fronts.{on_err_given}
use Rattle.hg_commands.proofs.Kept.{fed_had_limits, fed_is_driven, fed_is_kept, none_is_kept}
use Rattle.hg_commands.proofs.feeding.recover_and_feed.Goals as goal

pub returns-in-Ok-clause-fed : goal.returns-in-Ok-clause-fed
returns-in-Ok-clause-fed g c =
    let reads = c.args.input.now.calls in
    let later = c.feed_store-end.new.input.calls in
    let before = c.args.output.now.calls in
    let after = c.feed_store-end.new.output.calls in
    let has_sets : IsTrue g.D.Disk.is_honest → HasTable MOST_SETS (read_of g.D.Disk c.args.devices) (live g.D.Disk c.in-Ok.store) c.in-Ok.store.detector.sets =
    λ honest. subst (λ (n : ℕ). HasTable n (read_of g.D.Disk c.args.devices) (live g.D.Disk c.in-Ok.store) c.in-Ok.store.detector.sets) c.profile.ensures.0 (c.in-Ok.ensures.sets honest) in
    IfOk-weaker c.feed_store-end.result
    (λ (end : Ending). WasFed g.D.Disk reads later c.args.settings.source c.args.settings.checkpoint c.in-Ok.store c.feed_store-end.new.self.store before after end)
    (λ (end : Ending). FeedDone g.D.Disk reads later c.args.settings.source c.args.settings.checkpoint c.args.devices c.into_devices.result before after end)
    (λ end was. feed_done g.D.Disk g.met.D.Disk.has_its_bytes reads later c.args.settings.source c.args.settings.checkpoint c.args.devices c.into_devices.result c.in-Ok.store c.feed_store-end.new.self.store
    before after end c.in-Ok.ensures.content has_sets c.in-Ok.ensures.device c.in-Ok.ensures.calls c.in-Ok.ensures.bytes c.stands.ensures.kept was c.into_devices.ensures)
    c.feed_store-end.ensures.fed

pub returns-in-Ok-clause-kept : goal.returns-in-Ok-clause-kept
returns-in-Ok-clause-kept g c honest =
    let s = c.in-Ok.store in
    let u = c.feed_store-end.new.self.store in
    let before = c.args.output.now.calls in
    let after = c.feed_store-end.new.output.calls in
    let sets = subst (λ (n : ℕ). HasTable n (read_of g.D.Disk c.args.devices) (live g.D.Disk s) s.detector.sets) c.profile.ensures.0 (c.in-Ok.ensures.sets honest) in
    fed_is_kept g.D.Disk c.args.settings.source c.args.input.now.calls c.feed_store-end.new.input.calls c.args.devices c.into_devices.result s u before after c.new-moments.result c.push.new.self c.feed_store-end.new.self.moments c.of.result
    (c.in-Ok.ensures.images honest) (c.in-Ok.ensures.content honest) sets (c.feed_store-end.ensures.way honest) honest c.feed_store-end.ensures.kept c.push.ensures c.of.ensures c.new-moments.ensures c.into_devices.ensures

pub returns-in-Err-clause-kept : goal.returns-in-Err-clause-kept
returns-in-Err-clause-kept g c honest =
    none_is_kept g.D.Disk c.args.settings.source c.args.input.now.calls c.args.input.now.calls c.args.devices c.in-Err.devices c.args.output.now.calls c.new.result c.new.ensures (c.in-Err.ensures.images honest)

pub returns-in-Ok-clause-front : goal.returns-in-Ok-clause-front
returns-in-Ok-clause-front g c =
    on_err_given c.feed_store-end.result
    (λ w. inr (λ honest.
    let began = c.in-Ok.ensures.content honest in (
      c.in-Ok.store.detector.sets,
      (
        live g.D.Disk c.in-Ok.store,
        (
          subst (λ x. HasContent (read_of g.D.Disk c.args.devices) x) (sym began.2.has) began.1,
          (
            subst (λ (n : ℕ). HasTable n (read_of g.D.Disk c.args.devices) (live g.D.Disk c.in-Ok.store) c.in-Ok.store.detector.sets) c.profile.ensures.0 (c.in-Ok.ensures.sets honest),
            w honest,
          ),
        ),
      ),
    )))
    c.feed_store-end.ensures.front

pub returns-in-Ok-clause-cause : goal.returns-in-Ok-clause-cause
returns-in-Ok-clause-cause g c =
    let reads = c.args.input.now.calls in
    let later = c.feed_store-end.new.input.calls in
    let before = c.args.output.now.calls in
    let after = c.feed_store-end.new.output.calls in
    IfErr-weaker c.feed_store-end.result
    (λ r. FeedFails g.D.Disk c.args.settings.checkpoint c.in-Ok.store.devices c.feed_store-end.new.self.store.devices reads later before after r)
    (λ r. HasFeedCause g.D.Disk c.args.settings.checkpoint c.args.devices c.into_devices.result reads later before after r)
    (λ r fails. inr (c.in-Ok.store.devices, (c.in-Ok.ensures.device, subst (λ (d : Devices g.row.D.Denot). FeedFails g.D.Disk c.args.settings.checkpoint c.in-Ok.store.devices d reads later before after r) (sym c.into_devices.ensures) fails)))
    c.feed_store-end.ensures.cause

pub returns-in-Err-clause-cause : goal.returns-in-Err-clause-cause
returns-in-Err-clause-cause g c =
    inl (record {
      refused = is_not_opened g.D.Disk c.args.devices c.in-Err.devices c.in-Err.refusal c.profile.result c.profile.ensures c.in-Err.ensures.refusal
          c.in-Err.ensures.damaged c.in-Err.ensures.full c.in-Err.ensures.full_slots c.in-Err.ensures.device c.in-Err.ensures.files;
      unread = refl;
      unwritten = refl;
    })

pub returns-in-Ok-clause-limits : goal.returns-in-Ok-clause-limits
returns-in-Ok-clause-limits g c honest =
    let s = c.in-Ok.store in
    let u = c.feed_store-end.new.self.store in
    let before = c.args.output.now.calls in
    let after = c.feed_store-end.new.output.calls in
    fed_had_limits g.D.Disk (greatest_with c.args.settings.frames) c.args.devices s u before after c.new-moments.result c.push.new.self c.feed_store-end.new.self.moments c.of.result
    (opened_with g.D.Disk s c.args.settings.frames c.profile.result c.profile.ensures c.in-Ok.ensures.limits)
    (c.in-Ok.ensures.images honest) (c.in-Ok.ensures.content honest) honest c.feed_store-end.ensures.kept c.push.ensures c.of.ensures c.new-moments.ensures

pub returns-in-Err-clause-limits : goal.returns-in-Err-clause-limits
returns-in-Err-clause-limits g c honest =
    subst (λ (t : List (Instant g.row.D.Denot)). All (HasLimits (greatest_with c.args.settings.frames)) t) (sym c.new.ensures) (All-nil (HasLimits (greatest_with c.args.settings.frames)))

pub returns-in-Ok-clause-driven : goal.returns-in-Ok-clause-driven
returns-in-Ok-clause-driven g c =
    fed_is_driven g.D.Disk c.args.devices c.into_devices.result c.in-Ok.store c.feed_store-end.new.self.store c.args.output.now.calls c.feed_store-end.new.output.calls c.new-moments.result c.push.new.self c.feed_store-end.new.self.moments c.of.result
    c.in-Ok.ensures.idle c.in-Ok.ensures.files c.in-Ok.ensures.content c.feed_store-end.ensures.kept c.push.ensures c.of.ensures c.new-moments.ensures c.into_devices.ensures

pub returns-in-Err-clause-driven : goal.returns-in-Err-clause-driven
returns-in-Err-clause-driven g c = inl (c.new.ensures, refl, c.in-Err.ensures.files)
