use Rattle.std.proofs.Common.{◌≡◌, ◌⊎◌, ◌+◌, inl, inr, ⊎_elim, ap, sym, ◌∙◌, arith, codes}
use Rattle.hg_model.specs.declared.verdict.Refusal.{Refusal}
use Rattle.hg_model.specs.declared.verdict.Refusal.TheVariants as refusal
use Rattle.hg_model.specs.Change.{empty_content}
use Rattle.hg_store.specs.Images.{failures_of}
use Rattle.hg_store.specs.Recovering.{after_create_fault}
use Rattle.hg_store.specs.declared.create.CreateFault.{CreateFault}
use Rattle.hg_store.specs.declared.create.CreateFault.TheVariants.{NotEmpty, Refused}
use Rattle.hg_streams.specs.Told.{told_refusal}
use Rattle.hg_commands.proofs.Causes.{refusal_is_counted}
use Rattle.hg_streams.proofs.Fronts.{printed_front}
use Rattle.hg_streams.proofs.Printed.{front_none}
use Rattle.hg_commands.proofs.Made.{fresh_is_left, none_is_made, one_is_made, one_is_there}
use Rattle.hg_commands.proofs.creating.make_and_print.Goals as goal

pub returns-in-Ok-printed-clause-durable : goal.returns-in-Ok-printed-clause-durable
returns-in-Ok-printed-clause-durable g c _ image left = fresh_is_left g.D.Disk c.in-Ok.store empty_content c.into_devices.result image c.in-Ok.ensures.fresh c.into_devices.ensures left

pub returns-in-Ok-printed-clause-kept : goal.returns-in-Ok-printed-clause-kept
returns-in-Ok-printed-clause-kept g c =
    one_is_made g.D.Disk c.args.devices c.into_devices.result c.in-Ok.store c.args.output.now.calls c.print_now-printed.new.output.calls c.args.moments.now c.push.new.self c.push-in-Ok.new.self
    c.of.result c.of-in-Ok.result c.in-Ok.ensures.fresh c.requires.none c.push.ensures c.of.ensures c.push-in-Ok.ensures c.of-in-Ok.ensures (inr c.into_devices.ensures)

pub returns-in-Err-clause-kept : goal.returns-in-Err-clause-kept
returns-in-Err-clause-kept g c =
    one_is_made g.D.Disk c.args.devices c.cleared.result c.in-Ok.store c.args.output.now.calls c.print_now-printed.new.output.calls c.args.moments.now c.push.new.self c.push-in-Ok.new.self
    c.of.result c.of-in-Ok.result c.in-Ok.ensures.fresh c.requires.none c.push.ensures c.of.ensures c.push-in-Ok.ensures c.of-in-Ok.ensures
    (inl (omega (arith, c.in-Err.ensures.fault, ap (λ (r : Refusal). told_refusal r) c.in-Err.ensures.cause)))

pub returns-in-Ok-print_now-clause-kept : goal.returns-in-Ok-print_now-clause-kept
returns-in-Ok-print_now-clause-kept g c =
    one_is_there g.D.Disk c.args.devices c.in-Err-NotEmpty-default.devices c.args.output.now.calls c.print_now.new.output.calls c.args.moments.now c.requires.none c.print_now.ensures.calls

pub returns-in-Err-print_now-clause-kept : goal.returns-in-Err-print_now-clause-kept
returns-in-Err-print_now-clause-kept g c =
    one_is_there g.D.Disk c.args.devices c.in-Err-NotEmpty-default.devices c.args.output.now.calls c.print_now.new.output.calls c.args.moments.now c.requires.none c.print_now.ensures.calls

pub returns-in-Err-Refused-default-clause-kept : goal.returns-in-Err-Refused-default-clause-kept
returns-in-Err-Refused-default-clause-kept g c =
    none_is_made g.D.Disk c.args.devices c.cleared-in-Err-Refused-default.result c.args.output.now.calls c.args.moments.now c.requires.none

pub returns-in-Err-clause-cause : goal.returns-in-Err-clause-cause
returns-in-Err-clause-cause g c = record {
  is = inl c.in-Err.ensures.cause;
  mid = c.into_devices-in-Err.result;
  failed = omega (arith, c.in-Err.ensures.fault, c.in-Ok.ensures.device, ap (failures_of g.D.Disk) c.into_devices-in-Err.ensures);
  left = inr (c.in-Ok.ensures.empty, c.cleared.ensures);
}

pub returns-in-Err-print_now-clause-cause : goal.returns-in-Err-print_now-clause-cause
returns-in-Err-print_now-clause-cause g c =
    let h = c.in-Err-NotEmpty-default.ensures.not_empty c.in-Err-NotEmpty-default.field-0-0-is in
    record {
      is = inl c.in-Err-print_now.ensures.cause;
      mid = c.in-Err-NotEmpty-default.devices;
      failed = omega (arith, c.in-Err-print_now.ensures.fault, ap (failures_of g.D.Disk) h.1);
      left = inl h;
    }

-- what a refusal of a making is
made_fault : (x : CreateFault) (r : Refusal) → x ≡ Refused r → (x ≡ NotEmpty) ⊎ ((x ≡ Refused refusal.DeviceFault) ⊎ (x ≡ Refused refusal.OutOfMemory)) → (r ≡ refusal.DeviceFault) ⊎ (r ≡ refusal.OutOfMemory)
made_fault x r is h =
    ⊎_elim (λ a. absurd (never (sym a ∙ is)))
    (λ more. ⊎_elim (λ a. inl (same (sym is ∙ a))) (λ a. inr (same (sym is ∙ a))) more) h
  where
    never : NotEmpty ≡ Refused r → ⊥
    never e = absurd (cc)

    same : {s : Refusal} → Refused r ≡ Refused s → r ≡ s
    same e = cc

none : (x : CreateFault) (r : Refusal) → Refused r ≡ NotEmpty → ⊥
none x r e = absurd (cc)

pub returns-in-Err-Refused-default-clause-cause : goal.returns-in-Err-Refused-default-clause-cause
returns-in-Err-Refused-default-clause-cause g c =
    let x = c.in-Err-Refused-default.field-0-0 in
    let r = c.in-Err-Refused-default.refusal in
    let old = failures_of g.D.Disk c.args.devices in
    let is = c.in-Err-Refused-default.field-0-0-is in
    let counted : failures_of g.D.Disk c.in-Err-Refused-default.devices ≡ told_refusal r + old =
    c.in-Err-Refused-default.ensures.device ∙ (ap (λ (y : CreateFault). after_create_fault y old) is ∙ refusal_is_counted r old) in
    record {
      is = made_fault x r is c.in-Err-Refused-default.ensures.refusal;
      mid = c.in-Err-Refused-default.devices;
      failed = omega (arith, counted);
      left = inr (c.in-Err-Refused-default.ensures.else_empty (λ n. none x r (sym is ∙ n)), c.cleared-in-Err-Refused-default.ensures);
    }

pub returns-in-Err-clause-front : goal.returns-in-Err-clause-front
returns-in-Err-clause-front g c =
    inl (c.in-Ok.ensures.empty, printed_front c.args.output.now.calls c.print_now-printed.new.output.calls (codes "created\n") c.print_now-printed.ensures.calls)

pub returns-in-Err-print_now-clause-front : goal.returns-in-Err-print_now-clause-front
returns-in-Err-print_now-clause-front g c =
    let h = c.in-Err-NotEmpty-default.ensures.not_empty c.in-Err-NotEmpty-default.field-0-0-is in
    inr (h.0, printed_front c.args.output.now.calls c.print_now.new.output.calls (codes "not empty\n") c.print_now.ensures.calls)

pub returns-in-Err-Refused-default-clause-front : goal.returns-in-Err-Refused-default-clause-front
returns-in-Err-Refused-default-clause-front g c =
    inl (
      c.in-Err-Refused-default.ensures.else_empty (λ n. none c.in-Err-Refused-default.field-0-0 c.in-Err-Refused-default.refusal (sym c.in-Err-Refused-default.field-0-0-is ∙ n)),
      front_none c.args.output.now.calls (codes "created\n"),
    )
