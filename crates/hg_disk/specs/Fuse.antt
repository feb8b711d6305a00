-- What a `FuseDisk` shows.
use Rattle.std.specs.Prelude.{◌≡◌, ℕ, zero, suc, ◌+◌, min, Bool, true, false, if◌then◌else◌, Option, Some, None, List, [], ◌∷◌, length, Result, IsErr}
use Rattle.hg_disk.specs.State.{DiskState, Change, Fills, SameImages, after_cut, after_write, counted}
use Rattle.hg_disk.specs.State.Change.{Written, CutTo}
use Rattle.hg_disk.specs.Event.{Event}
use Rattle.hg_disk.specs.declared.call.Call.{Call}
use Rattle.hg_disk.specs.declared.call.Call.TheVariants.{Read, Write, Cut, Sync}
use Rattle.hg_disk.specs.declared.call.Answer.{Answer}
use Rattle.hg_disk.specs.declared.call.Answer.TheVariants.{Done, Failed, Refused}
use Rattle.hg_disk.specs.declared.disk.Disk as disk
use Rattle.hg_disk.specs.declared.fuse.FuseDisk.{FuseDisk}

-- whether a call was refused
abbrev pub is_refusal : Answer → Bool
is_refusal Refused = true
is_refusal Done = false
is_refusal Failed = false

-- whether the next call fails
abbrev pub is_next : Option ℕ → Bool
is_next None = false
is_next (Some zero) = true
is_next (Some (suc n)) = false

-- how many calls still pass after a call
abbrev pub left_after : Bool → Option ℕ → Option ℕ
left_after stops None = None
left_after stops (Some zero) = if stops then Some zero else None
left_after stops (Some (suc n)) = Some n

-- the length of the inner disk; its states come the newest first
abbrev pub size_now : List DiskState → ℕ
size_now [] = 0
size_now (s ∷ past) = length s.contents

-- its states before its last call
abbrev pub before : List DiskState → List DiskState
before [] = []
before (s ∷ past) = past

-- a change that the inner disk made, on top of those before it
abbrev pub on_top : List Change → (List Change → List Change) → List Change
on_top [] earlier = earlier []
on_top (change ∷ changes) earlier = change ∷ earlier changes

-- The changes after a call. `inner` are the changes of the inner disk. The changes before the call are computed by `stayed`
-- if the call was refused, and by `earlier` if it was passed on.
abbrev pub with_call : Call → Answer → ℕ → (List Change → List Change) → (List Change → List Change) → List Change → List Change
with_call (Read at) Refused size stayed earlier inner = stayed inner
with_call (Read at) Done size stayed earlier inner = earlier inner
with_call (Read at) Failed size stayed earlier inner = earlier inner
with_call (Write at len) Refused size stayed earlier inner = Written (min at size) (at + len) ∷ stayed inner
with_call (Write at len) Done size stayed earlier inner = on_top inner earlier
with_call (Write at len) Failed size stayed earlier inner = on_top inner earlier
with_call (Cut to) Refused size stayed earlier inner = CutTo to ∷ stayed inner
with_call (Cut to) Done size stayed earlier inner = on_top inner earlier
with_call (Cut to) Failed size stayed earlier inner = on_top inner earlier
with_call Sync Refused size stayed earlier inner = stayed inner
with_call Sync Done size stayed earlier inner = inner
with_call Sync Failed size stayed earlier inner = earlier inner

-- The changes since the sync: those of the inner disk, with those of the refused calls in between. The states and the calls
-- come the newest first.
abbrev pub with_refused : List Event → List DiskState → List Change → List Change
with_refused [] states inner = inner
with_refused (e ∷ calls) states inner = with_call e.told.call e.told.answer (size_now states) (with_refused calls states) (with_refused calls (before states)) inner

-- The state after the calls: the inner disk's state, but each refused call counts as a failed one.
abbrev pub shown : List Event → DiskState → List DiskState → DiskState
shown calls s past = record { contents = s.contents; synced = s.synced; since = with_refused calls (s ∷ past) s.since }

-- the states before a call: `stayed` if it was refused, `earlier` if it was passed on
abbrev pub past_by : Answer → List DiskState → List DiskState → List DiskState
past_by Refused stayed earlier = stayed
past_by Done stayed earlier = earlier
past_by Failed stayed earlier = earlier

-- the inner disk's state at a time, and those before it, as `show` shows them
abbrev pub at_time : (DiskState → List DiskState → List DiskState) → List DiskState → List DiskState
at_time show [] = []
at_time show (s ∷ past) = show s past

-- the states before each call, the newest first; only a call that was passed on changed the inner disk's states
abbrev pub shown_past : List Event → DiskState → List DiskState → List DiskState
shown_past [] s past = past
shown_past (e ∷ calls) s past = past_by e.told.answer (shown calls s past ∷ shown_past calls s past) (at_time (λ (t : DiskState) (earlier : List DiskState). shown calls t earlier ∷ shown_past calls t earlier) past)

-- how many calls were refused
abbrev pub refusals_in : List Event → ℕ
refusals_in [] = 0
refusals_in (e ∷ calls) = if is_refusal e.told.answer then refusals_in calls + 1 else refusals_in calls

module _ {D : Type 0} where
  abbrev pub inner_of : FuseDisk D → D
  inner_of f = f.inner

  abbrev pub calls_left : FuseDisk D → Option ℕ
  calls_left f = f.calls_left

  abbrev pub stops : FuseDisk D → Bool
  stops f = f.stops

module _ {D : Type 0} (g : disk.Ghosts D) where
  abbrev pub fuse_state : FuseDisk D → DiskState
  fuse_state f = shown f.history.events (g.state f.inner) (g.past f.inner)

  abbrev pub fuse_past : FuseDisk D → List DiskState
  fuse_past f = shown_past f.history.events (g.state f.inner) (g.past f.inner)

  abbrev pub fuse_failures : FuseDisk D → ℕ
  fuse_failures f = g.failures f.inner + refusals_in f.history.events

  -- Each read that it passed on was true.
  abbrev pub fuse_reads_were_true : FuseDisk D → Bool
  fuse_reads_were_true f = g.reads_were_true f.inner

  -- It refused the call, or it passed the call on and gave the inner disk's answer.
  pub record Burns {T E : Type 0} (old new : FuseDisk D) (result : Result T E) : Type 0 where
    pub refused : is_next (calls_left old) ≡ true → IsErr result × (inner_of new ≡ inner_of old)
    pub passed : is_next (calls_left old) ≡ false → g.failures (inner_of new) ≡ counted result (g.failures (inner_of old))
    pub left : calls_left new ≡ left_after (stops old) (calls_left old)
    pub stops_still : stops new ≡ stops old

  -- The buffer was filled with what a read gives from the offset on.
  abbrev pub ReadsInto : FuseDisk D → (at : ℕ) → (old new : List ℕ) → Type 0
  ReadsInto f at old new = Fills (fuse_state f) at old new

  -- Its clock moved on by one call.
  abbrev pub Ticks : (old new : FuseDisk D) → Type 0
  Ticks old new = fuse_past new ≡ fuse_state old ∷ fuse_past old

  -- Its failures are one more where the call failed.
  abbrev pub CountsFailure : {T E : Type 0} → (old new : FuseDisk D) → Result T E → Type 0
  CountsFailure old new result = fuse_failures new ≡ counted result (fuse_failures old)

  -- It has the bytes written,
  abbrev pub HasWritten : (at : ℕ) → (bytes : List ℕ) → (old new : FuseDisk D) → Type 0
  HasWritten at bytes old new = fuse_state new ≡ after_write at bytes (fuse_state old)

  -- or the images of a write that failed.
  abbrev pub MayHaveWritten : (at : ℕ) → (bytes : List ℕ) → (old new : FuseDisk D) → Type 0
  MayHaveWritten at bytes old new = SameImages (after_write at bytes (fuse_state old)) (fuse_state new)

  -- It is cut to this length,
  abbrev pub IsCut : (to : ℕ) → (old new : FuseDisk D) → Type 0
  IsCut to old new = fuse_state new ≡ after_cut to (fuse_state old)

  -- or has the images of a cut that failed.
  abbrev pub MayBeCut : (to : ℕ) → (old new : FuseDisk D) → Type 0
  MayBeCut to old new = SameImages (after_cut to (fuse_state old)) (fuse_state new)

  -- Its images stay the same.
  abbrev pub KeepsImages : (old new : FuseDisk D) → Type 0
  KeepsImages old new = SameImages (fuse_state old) (fuse_state new)
