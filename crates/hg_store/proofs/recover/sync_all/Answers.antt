use Rattle.std.proofs.Common.{◌≡◌, ◌∷◌, ◌+◌, inl, inr, Result, Ok, Err, OnOk, OnErr, refl, ap, arith}
use Rattle.hg_disk.specs.declared.disk.Disk as disk
use Rattle.hg_disk.specs.State.{DiskState, SameImages, after_sync, counted}
use Rattle.hg_disk.proofs.Moments.{sync_leaves}
use Rattle.hg_disk.proofs.Staying.{same}
use Rattle.hg_store.specs.Images.{FailuresGrowBy, ReadsOrFailed}
use Rattle.hg_store.specs.declared.devices.Devices.{Devices}
use Rattle.hg_store.proofs.recover.sync_all.Goals as goal

-- a sync that answered Ok, or the one call that failed
last_sync : {D T E : Type 0} (g : disk.Ghosts D) (old new : Devices D) (before after : D) (result : Result T E) → OnOk result (g.state after ≡ after_sync (g.state before)) → OnErr result (SameImages (g.state before) (g.state after))
    → g.past after ≡ (g.state before ∷ g.past before) → g.failures after ≡ counted result (g.failures before) → (g.failures after ≡ g.failures before + 1 → FailuresGrowBy g old new 1) → ReadsOrFailed g old new before after
last_sync g old new before after (Ok value) ok err clock count grows = inl (ap (λ (s : DiskState). s.contents) ok)
last_sync g old new before after (Err error) ok err clock count grows = inr (record { images = err; once = clock; failures = grows count })

pub returns-in_err-sync-clause-stay : goal.returns-in_err-sync-clause-stay
returns-in_err-sync-clause-stay g c = record {
  journal0 = sync_leaves g.D.Disk c.args.devices.now.journal0 _ c.sync.result g.met.D.Disk.has_its_bytes c.sync.ensures.ok c.sync.ensures.err c.sync.ensures.clock c.sync.ensures.kept;
  journal1 = same g.D.Disk c.args.devices.now.journal1;
  slots = same g.D.Disk c.args.devices.now.slots;
  root0 = same g.D.Disk c.args.devices.now.root0;
  root1 = same g.D.Disk c.args.devices.now.root1;
}

pub returns-in_err-sync-2-clause-stay : goal.returns-in_err-sync-2-clause-stay
returns-in_err-sync-2-clause-stay g c = record {
  journal0 = sync_leaves g.D.Disk c.args.devices.now.journal0 _ c.sync.result g.met.D.Disk.has_its_bytes c.sync.ensures.ok c.sync.ensures.err c.sync.ensures.clock c.sync.ensures.kept;
  journal1 = sync_leaves g.D.Disk c.args.devices.now.journal1 _ c.sync-2.result g.met.D.Disk.has_its_bytes c.sync-2.ensures.ok c.sync-2.ensures.err c.sync-2.ensures.clock c.sync-2.ensures.kept;
  slots = same g.D.Disk c.args.devices.now.slots;
  root0 = same g.D.Disk c.args.devices.now.root0;
  root1 = same g.D.Disk c.args.devices.now.root1;
}

pub returns-in_err-sync-3-clause-stay : goal.returns-in_err-sync-3-clause-stay
returns-in_err-sync-3-clause-stay g c = record {
  journal0 = sync_leaves g.D.Disk c.args.devices.now.journal0 _ c.sync.result g.met.D.Disk.has_its_bytes c.sync.ensures.ok c.sync.ensures.err c.sync.ensures.clock c.sync.ensures.kept;
  journal1 = sync_leaves g.D.Disk c.args.devices.now.journal1 _ c.sync-2.result g.met.D.Disk.has_its_bytes c.sync-2.ensures.ok c.sync-2.ensures.err c.sync-2.ensures.clock c.sync-2.ensures.kept;
  slots = sync_leaves g.D.Disk c.args.devices.now.slots _ c.sync-3.result g.met.D.Disk.has_its_bytes c.sync-3.ensures.ok c.sync-3.ensures.err c.sync-3.ensures.clock c.sync-3.ensures.kept;
  root0 = same g.D.Disk c.args.devices.now.root0;
  root1 = same g.D.Disk c.args.devices.now.root1;
}

pub returns-in_err-sync-4-clause-stay : goal.returns-in_err-sync-4-clause-stay
returns-in_err-sync-4-clause-stay g c = record {
  journal0 = sync_leaves g.D.Disk c.args.devices.now.journal0 _ c.sync.result g.met.D.Disk.has_its_bytes c.sync.ensures.ok c.sync.ensures.err c.sync.ensures.clock c.sync.ensures.kept;
  journal1 = sync_leaves g.D.Disk c.args.devices.now.journal1 _ c.sync-2.result g.met.D.Disk.has_its_bytes c.sync-2.ensures.ok c.sync-2.ensures.err c.sync-2.ensures.clock c.sync-2.ensures.kept;
  slots = sync_leaves g.D.Disk c.args.devices.now.slots _ c.sync-3.result g.met.D.Disk.has_its_bytes c.sync-3.ensures.ok c.sync-3.ensures.err c.sync-3.ensures.clock c.sync-3.ensures.kept;
  root0 = sync_leaves g.D.Disk c.args.devices.now.root0 _ c.sync-4.result g.met.D.Disk.has_its_bytes c.sync-4.ensures.ok c.sync-4.ensures.err c.sync-4.ensures.clock c.sync-4.ensures.kept;
  root1 = same g.D.Disk c.args.devices.now.root1;
}

pub returns-clause-stay : goal.returns-clause-stay
returns-clause-stay g c = record {
  journal0 = sync_leaves g.D.Disk c.args.devices.now.journal0 _ c.sync.result g.met.D.Disk.has_its_bytes c.sync.ensures.ok c.sync.ensures.err c.sync.ensures.clock c.sync.ensures.kept;
  journal1 = sync_leaves g.D.Disk c.args.devices.now.journal1 _ c.sync-2.result g.met.D.Disk.has_its_bytes c.sync-2.ensures.ok c.sync-2.ensures.err c.sync-2.ensures.clock c.sync-2.ensures.kept;
  slots = sync_leaves g.D.Disk c.args.devices.now.slots _ c.sync-3.result g.met.D.Disk.has_its_bytes c.sync-3.ensures.ok c.sync-3.ensures.err c.sync-3.ensures.clock c.sync-3.ensures.kept;
  root0 = sync_leaves g.D.Disk c.args.devices.now.root0 _ c.sync-4.result g.met.D.Disk.has_its_bytes c.sync-4.ensures.ok c.sync-4.ensures.err c.sync-4.ensures.clock c.sync-4.ensures.kept;
  root1 = sync_leaves g.D.Disk c.args.devices.now.root1 _ c.sync-5.result g.met.D.Disk.has_its_bytes c.sync-5.ensures.ok c.sync-5.ensures.err c.sync-5.ensures.clock c.sync-5.ensures.kept;
}

pub returns-in_err-sync-clause-bytes : goal.returns-in_err-sync-clause-bytes
returns-in_err-sync-clause-bytes g c =
    let failed = c.in_err-sync.ensures in
    let one = failed.failures in
    record {
      journal0 = inr (record { images = failed.err; once = failed.clock; failures = omega (arith, one) });
      journal1 = inl refl;
      slots = inl refl;
      root0 = inl refl;
      root1 = inl refl;
    }

pub returns-in_err-sync-2-clause-bytes : goal.returns-in_err-sync-2-clause-bytes
returns-in_err-sync-2-clause-bytes g c =
    let failed = c.in_err-sync-2.ensures in
    let none = c.in_ok-sync.ensures.failures in
    let one = failed.failures in
    record {
      journal0 = inl (ap (λ (s : DiskState). s.contents) c.in_ok-sync.ensures.ok);
      journal1 = inr (record { images = failed.err; once = failed.clock; failures = omega (arith, none, one) });
      slots = inl refl;
      root0 = inl refl;
      root1 = inl refl;
    }

pub returns-in_err-sync-3-clause-bytes : goal.returns-in_err-sync-3-clause-bytes
returns-in_err-sync-3-clause-bytes g c =
    let failed = c.in_err-sync-3.ensures in
    let none = c.in_ok-sync.ensures.failures in
    let none_2 = c.in_ok-sync-2.ensures.failures in
    let one = failed.failures in
    record {
      journal0 = inl (ap (λ (s : DiskState). s.contents) c.in_ok-sync.ensures.ok);
      journal1 = inl (ap (λ (s : DiskState). s.contents) c.in_ok-sync-2.ensures.ok);
      slots = inr (record { images = failed.err; once = failed.clock; failures = omega (arith, none, none_2, one) });
      root0 = inl refl;
      root1 = inl refl;
    }

pub returns-in_err-sync-4-clause-bytes : goal.returns-in_err-sync-4-clause-bytes
returns-in_err-sync-4-clause-bytes g c =
    let failed = c.in_err-sync-4.ensures in
    let none = c.in_ok-sync.ensures.failures in
    let none_2 = c.in_ok-sync-2.ensures.failures in
    let none_3 = c.in_ok-sync-3.ensures.failures in
    let one = failed.failures in
    record {
      journal0 = inl (ap (λ (s : DiskState). s.contents) c.in_ok-sync.ensures.ok);
      journal1 = inl (ap (λ (s : DiskState). s.contents) c.in_ok-sync-2.ensures.ok);
      slots = inl (ap (λ (s : DiskState). s.contents) c.in_ok-sync-3.ensures.ok);
      root0 = inr (record { images = failed.err; once = failed.clock; failures = omega (arith, none, none_2, none_3, one) });
      root1 = inl refl;
    }

pub returns-clause-bytes : goal.returns-clause-bytes
returns-clause-bytes g c =
    let none = c.in_ok-sync.ensures.failures in
    let none_2 = c.in_ok-sync-2.ensures.failures in
    let none_3 = c.in_ok-sync-3.ensures.failures in
    let none_4 = c.in_ok-sync-4.ensures.failures in
    record {
      journal0 = inl (ap (λ (s : DiskState). s.contents) c.in_ok-sync.ensures.ok);
      journal1 = inl (ap (λ (s : DiskState). s.contents) c.in_ok-sync-2.ensures.ok);
      slots = inl (ap (λ (s : DiskState). s.contents) c.in_ok-sync-3.ensures.ok);
      root0 = inl (ap (λ (s : DiskState). s.contents) c.in_ok-sync-4.ensures.ok);
      root1 = last_sync g.D.Disk _ _ _ _ c.sync-5.result c.sync-5.ensures.ok c.sync-5.ensures.err c.sync-5.ensures.clock c.sync-5.ensures.failures (λ one. omega (arith, none, none_2, none_3, none_4, one));
    }
