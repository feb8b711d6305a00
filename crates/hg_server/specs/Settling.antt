-- What is left of a store when the connections are served, and why serving it ends early.
use Rattle.std.specs.Prelude.{◌≡◌, ◌⊎◌, ◌<◌, List, [], ◌∷◌, IsTrue, false, true}
use Rattle.hg_model.specs.declared.verdict.Refusal.{Refusal}
use Rattle.hg_model.specs.declared.verdict.Refusal.TheVariants.{Broken, DeviceFault}
use Rattle.hg_disk.specs.declared.disk.Disk as disk
use Rattle.hg_store.specs.declared.devices.Devices.{Devices}
use Rattle.hg_store.specs.Images.{failures_of}
use Rattle.hg_store.specs.Runs.{Made}
use Rattle.hg_store.specs.Shown.{ShownStore, live, saved}
use Rattle.hg_store.specs.Store.{Backs}
use Rattle.hg_streams.specs.Calls.{failed_writes}
use Rattle.hg_streams.specs.Faults.{HasWriteCause}
use Rattle.hg_streams.specs.declared.call.WriteCall.{WriteCall}
use Rattle.hg_desk.specs.Going.{Began, LeadsTo, RanFrom, WentOn}
use Rattle.hg_server.specs.declared.fault.ServingFault.{ServingFault}
use Rattle.hg_server.specs.declared.fault.ServingFault.TheVariants as fault
use Rattle.hg_server.specs.declared.handing.Taken.{Taken}
use Rattle.hg_server.specs.Recording.{NoneLacks, WasCut, refusal_of}

-- the newest of some moments, or `now` where there was none
abbrev pub newest : {X : Type 0} → X → List X → X
newest now [] = now
newest now (moment ∷ earlier) = moment

module _ {D : Type 0} (g : disk.Ghosts D) where
  -- If the store `s` went on from its opening, so did the store `t` after it.
  abbrev pub StillWentOn : List (Devices D) → ShownStore D → List (Devices D) → ShownStore D → Type 0
  StillWentOn moments s later t = (start : Began) → WentOn g start moments s → WentOn g start later t

  -- If these steps led to the store `s` from its opening, so did the later ones to the store `t` after it.
  abbrev pub StillRan : List (Made D) → ShownStore D → List (Made D) → ShownStore D → Type 0
  StillRan steps s later t = (start : Began) → RanFrom g start steps s → RanFrom g start later t

  -- Over honest devices what was durable stays so: accepted events lead from the durable content to that of the store `t` after it.
  abbrev pub KeepsDurable : (s t : ShownStore D) → Type 0
  KeepsDurable s t = IsTrue g.is_honest → LeadsTo (saved g s) (saved g t)

  -- A store works, and no accepted event waits for a commit. Over honest devices each is durable, and each image has the content with all.
  pub record IsSettled (s : ShownStore D) : Type 0 where
    pub works : s.is_broken ≡ false
    pub pending : s.pending ≡ []
    pub durable : IsTrue g.is_honest → saved g s ≡ live g s
    pub backs : IsTrue g.is_honest → Backs g s

  -- No call of the devices failed.
  abbrev pub NoneFailed : (old new : Devices D) → Type 0
  NoneFailed old new = failures_of g new ≡ failures_of g old

  -- A call of the devices failed.
  abbrev pub OneFailed : (old new : Devices D) → Type 0
  OneFailed old new = failures_of g old < failures_of g new

  -- A commit was refused by a store that was broken before it, or a device failed in it.
  abbrev pub IsCommitFault : (old new : ShownStore D) → ServingFault → Type 0
  IsCommitFault old new told =
      (new.is_broken ≡ true)
      × (((told ≡ fault.Broken) × (old.is_broken ≡ true) × NoneFailed old.devices new.devices)
      ⊎ ((told ≡ fault.DeviceFault) × OneFailed old.devices new.devices))

  -- The commit at the end was refused; or it settled the store, and this is told of what cut the connections short.
  abbrev pub SettlesOrBreaks : (old new : ShownStore D) → Taken → ServingFault → Type 0
  SettlesOrBreaks old new taken told = IsCommitFault old new told ⊎ (IsSettled new × WasCut taken told)

  -- A store is broken by a call that failed before the last commit, which began at the newest moment.
  abbrev pub BrokeBefore : Devices D → List (Devices D) → ShownStore D → Type 0
  BrokeBefore old moments s = (s.is_broken ≡ true) × OneFailed old s.devices × NoneFailed (newest s.devices moments) s.devices

  -- A store is broken by a call of the last commit.
  abbrev pub CommitFailed : List (Devices D) → ShownStore D → Type 0
  CommitFailed moments s = (s.is_broken ≡ true) × OneFailed (newest s.devices moments) s.devices

  -- Why serving a store ends early. The store was broken before the last commit, or by it; or it is settled, and the connections were cut
  -- short.
  abbrev pub StopsFor : Devices D → List (Devices D) → ShownStore D → Taken → ServingFault → Type 0
  StopsFor old moments s taken told =
      ((told ≡ fault.Broken) × BrokeBefore old moments s)
      ⊎ (((told ≡ fault.DeviceFault) × CommitFailed moments s) ⊎ (IsSettled s × WasCut taken told))

  -- The connections were cut short, which is told, and no write failed.
  abbrev pub CutIsTold : Taken → (calls_old calls_new : List WriteCall) → Refusal → Type 0
  CutIsTold taken calls_old calls_new r = (told : ServingFault) × WasCut taken told × (r ≡ refusal_of told) × (failed_writes calls_new ≡ failed_writes calls_old)

  -- The same with what is printed. Where the store is settled, the connections were cut short; or they were not, and a write of the output
  -- failed, or memory was refused and no write failed.
  abbrev pub IsServingFault : Devices D → List (Devices D) → ShownStore D → Taken → (calls_old calls_new : List WriteCall) → Refusal → Type 0
  IsServingFault old moments s taken calls_old calls_new r =
      ((r ≡ Broken) × BrokeBefore old moments s)
      ⊎ (((r ≡ DeviceFault) × CommitFailed moments s)
      ⊎ (IsSettled s × (CutIsTold taken calls_old calls_new r ⊎ (NoneLacks taken × HasWriteCause calls_old calls_new r))))
