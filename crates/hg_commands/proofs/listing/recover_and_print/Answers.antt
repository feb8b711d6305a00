use Rattle.std.proofs.Common.{Result, Ok, Err, IfOk, OnOk, ◌∙◌, inl, inr, sym, subst, refl, ap}
use Rattle.hg_images.specs.Images.{HasContent}
use Rattle.hg_store.specs.Images.{KeepsFiles, Recovers, failures_of, read_of}
use Rattle.hg_store.specs.Shown.{live}
use Rattle.hg_store.proofs.Refusals.{is_not_opened, opened_with}
use Rattle.hg_streams.proofs.Fronts.{on_err_weaker}
use Rattle.hg_commands.proofs.Openings.{listing_breaks, was_opened}
use Rattle.hg_commands.proofs.listing.recover_and_print.Goals as goal

listed_too : {X E : Type 0} {P F : Type 0} {Q R : X → Type 0} (r : Result X E) → ((x : X) → P → F → Q x → R x) → OnOk r P → OnOk r F → IfOk r Q → IfOk r R
listed_too (Ok x) h p f q = h x p f q
listed_too (Err e) h p f q = tt

pub returns-in-Ok-clause-prints : goal.returns-in-Ok-clause-prints
returns-in-Ok-clause-prints g c =
    listed_too c.print_store-printed.result
    (λ races printed flushed counted. record {
      prints = λ honest.
          let began = c.in-Ok.ensures.content honest in
          (live g.D.Disk c.in-Ok.store, subst (λ x. HasContent (read_of g.D.Disk c.args.devices) x) (sym began.2.has) began.1, printed, counted);
      flushed = flushed;
      opened = was_opened c.in-Ok.store c.args.frames c.args.output.now.calls c.new-moments.result c.push.new.self c.of.result c.into_devices.result
          (opened_with g.D.Disk c.in-Ok.store c.args.frames c.profile.result c.profile.ensures c.in-Ok.ensures.limits) c.new-moments.ensures c.push.ensures c.of.ensures c.into_devices.ensures;
      device = ap (failures_of g.D.Disk) c.into_devices.ensures ∙ c.in-Ok.ensures.device;
    })
    c.print_store-printed.ensures.printed c.print_store-printed.ensures.flushed c.print_store-printed.ensures.races

pub returns-in-Ok-clause-cause : goal.returns-in-Ok-clause-cause
returns-in-Ok-clause-cause g c =
    listing_breaks g.D.Disk c.args.frames c.args.devices c.into_devices.result c.push.new.self c.args.output.now c.print_store-printed.new.output c.print_store-printed.result
    (was_opened c.in-Ok.store c.args.frames c.args.output.now.calls c.new-moments.result c.push.new.self c.of.result c.into_devices.result
    (opened_with g.D.Disk c.in-Ok.store c.args.frames c.profile.result c.profile.ensures c.in-Ok.ensures.limits) c.new-moments.ensures c.push.ensures c.of.ensures c.into_devices.ensures)
    (ap (failures_of g.D.Disk) c.into_devices.ensures ∙ c.in-Ok.ensures.device) c.print_store-printed.ensures.cause c.print_store-printed.ensures.fault

pub returns-in-Ok-clause-front : goal.returns-in-Ok-clause-front
returns-in-Ok-clause-front g c =
    on_err_weaker c.print_store-printed.result
    (λ f. inr (
      live g.D.Disk c.in-Ok.store,
      (λ honest. let began = c.in-Ok.ensures.content honest in subst (λ x. HasContent (read_of g.D.Disk c.args.devices) x) (sym began.2.has) began.1, f),
    ))
    c.print_store-printed.ensures.front

pub returns-in-Ok-clause-images : goal.returns-in-Ok-clause-images
returns-in-Ok-clause-images g c honest = subst (λ d. Recovers g.D.Disk c.args.devices d) (sym c.into_devices.ensures) (c.in-Ok.ensures.images honest)

pub returns-in-Ok-clause-files : goal.returns-in-Ok-clause-files
returns-in-Ok-clause-files g c = subst (λ d. KeepsFiles g.D.Disk c.args.devices d) (sym c.into_devices.ensures) c.in-Ok.ensures.files

pub returns-in-Err-clause-cause : goal.returns-in-Err-clause-cause
returns-in-Err-clause-cause g c =
    inl (
      is_not_opened g.D.Disk c.args.devices c.in-Err.devices c.in-Err.refusal c.profile.result c.profile.ensures c.in-Err.ensures.refusal
          c.in-Err.ensures.damaged c.in-Err.ensures.full c.in-Err.ensures.full_slots c.in-Err.ensures.device c.in-Err.ensures.files,
      refl,
      c.new.ensures,
    )
