-- What a server prints, what it leaves of its devices, and how it may fail.
use Rattle.std.specs.Prelude.{◌≡◌, ◌⊎◌, ◌++◌, ℕ, List, [], ◌∷◌, Result, Ok, Err, IfErr, IfOk, IsTrue, OnErr, OnOk, codes}
use Rattle.hg_model.specs.Contents.{Content}
use Rattle.hg_model.specs.declared.verdict.Refusal.{Refusal}
use Rattle.hg_disk.specs.declared.disk.Disk as disk
use Rattle.hg_streams.specs.Shown.{Outgoing}
use Rattle.hg_streams.specs.declared.call.WriteCall.{WriteCall}
use Rattle.hg_images.specs.Images.{HasContent}
use Rattle.hg_store.specs.declared.devices.Devices.{Devices}
use Rattle.hg_store.specs.Images.{EachImageAlong, IsOn, Recovers, read_of}
use Rattle.hg_store.specs.Shown.{ShownStore, live}
use Rattle.hg_desk.specs.Going.{IsRun, LeadsTo, began, moments_of, oldest, points_of}
use Rattle.hg_streams.specs.Written.{Took, TookFront}
use Rattle.hg_streams.specs.Texts.{line_text, number_text, counts_line}
use Rattle.hg_streams.specs.Faults.{IsTold}
use Rattle.hg_streams.specs.declared.output.Outputs.{Outputs}
use Rattle.hg_store.specs.Limits.{greatest_with, limits_of}
use Rattle.hg_store.specs.Refusals.{IsNotOpened}
use Rattle.hg_server.specs.declared.fault.ServingFault.{ServingFault}
use Rattle.hg_server.specs.declared.course.Course.{Course}
use Rattle.hg_server.specs.declared.serving.Outcome.{Outcome}
use Rattle.hg_server.specs.declared.serving.Service.{Service}
use Rattle.hg_server.specs.declared.settings.Place.{Place}
use Rattle.hg_server.specs.declared.settings.Place.TheVariants as place
use Rattle.hg_server.specs.declared.settings.Settings.{Settings}
use Rattle.hg_server.specs.Acknowledged.{LeavesAcksDurable, LeavesEventsRecorded}
use Rattle.hg_server.specs.Recording.{Accounts, held_in}
use Rattle.hg_server.specs.Settling.{IsServingFault, IsSettled, StopsFor}

-- how many connections were served, and the end line of a store with this content
abbrev pub served_text : ℕ → Content → List ℕ
served_text connections c = number_text (codes "served ") connections ++ line_text (counts_line c)

-- that it listens, and on what
abbrev pub place_text : Place → List ℕ
place_text (place.Port port) = number_text (codes "ready ") port
place_text place.Socket = line_text (codes "ready unix")

abbrev pub ready_text : Settings → List ℕ
ready_text settings = place_text settings.place

-- all that a server prints if its store ends with this content
abbrev pub serving_text : Settings → Content → List ℕ
serving_text settings c = ready_text settings ++ served_text settings.connections c

-- On success the text was written.
abbrev pub AddsOnOk : {W T E : Type 0} → (old new : Outgoing W) → List ℕ → Result T E → Type 0
AddsOnOk old new text result = OnOk result (Took old.calls new.calls text)

-- On an error a front of the text was written, behind what was written before.
abbrev pub AddsFrontOnErr : {W T E : Type 0} → (old new : Outgoing W) → List ℕ → Result T E → Type 0
AddsFrontOnErr old new text result =
    (first : List WriteCall) (before : List ℕ) → Took first old.calls before → OnErr result (TookFront first new.calls (before ++ text))

-- what recovering a store and serving it answers: the store, or why there is none, with the devices; and how it went
abbrev pub Recovered : Type 0 → Type 0
Recovered D = Result (ShownStore D) (Refusal × Devices D) × Course D

-- 0 with a store that works, 3 without
abbrev pub IsStatusOf : {S E : Type 0} → Result S E → ℕ → Type 0
IsStatusOf (Ok store) status = status ≡ 0
IsStatusOf (Err devices) status = status ≡ 3

module _ {D : Type 0} (g : disk.Ghosts D) where
  -- the end line of this store, with its line feed
  abbrev pub end_text : ShownStore D → List ℕ
  end_text s = line_text (counts_line (live g s))

  -- how many connections were served, and the end line of this store
  abbrev pub served_by : Settings → ShownStore D → List ℕ
  served_by settings s = served_text settings.connections (live g s)

  -- all that a server prints if its store ends as this one
  abbrev pub serving_by : Settings → ShownStore D → List ℕ
  serving_by settings s = serving_text settings (live g s)

  -- On success all of `serving_by` was written, and on an error a front of it.
  abbrev pub PrintsAllOnOk : {W T E : Type 0} → Settings → ShownStore D → (old new : Outgoing W) → Result T E → Type 0
  PrintsAllOnOk settings s old new ended = OnOk ended (Took old.calls new.calls (serving_by settings s))

  abbrev pub PrintsFrontOnErr : {W T E : Type 0} → Settings → ShownStore D → (old new : Outgoing W) → Result T E → Type 0
  PrintsFrontOnErr settings s old new ended = OnErr ended (TookFront old.calls new.calls (serving_by settings s))

  -- Why serving a store that had these devices ended early.
  abbrev pub EndsFor : {E : Type 0} → Devices D → Service D E → ServingFault → Type 0
  EndsFor devices service told = StopsFor g devices (moments_of service.steps) service.store service.taken told

  -- The same with what was printed.
  abbrev pub EndsByFault : {W E : Type 0} → Devices D → (old new : Outgoing W) → Service D E → Refusal → Type 0
  EndsByFault devices old new service r = IsServingFault g devices (moments_of service.steps) service.store service.taken old.calls new.calls r

  -- What is on record of the conversations, and how many connections workers took, by what cut that short.
  abbrev pub AccountsFor : {E : Type 0} → Settings → Service D E → Type 0
  AccountsFor settings service = Accounts settings.connections (held_in service.talks) service.taken.count service.taken.cut

  -- The same of a server that went so.
  abbrev pub IsAccounted : Settings → Course D → Type 0
  IsAccounted settings course = Accounts settings.connections (held_in course.talks) course.taken.count course.taken.cut

  -- A store was opened, once, with so many frames and the greatest caps. The devices of the oldest moment are as they were then.
  pub record WasOpened (frames : ℕ) (course : Course D) (new : Devices D) : Type 0 where
    pub store : ShownStore D
    pub once : course.opened ≡ store ∷ []
    pub limits : limits_of store ≡ greatest_with frames
    pub is_oldest : points_of g (oldest new (moments_of course.steps)) ≡ points_of g store.devices

  -- What a server leaves that went through these moments, the newest first, and whose store ends with the content `last`. The store was
  -- opened with the content that the devices had; looking for it left each image the content of an image before. The events of clients lead
  -- from that content to `last`. Since then each image between two neighbouring moments has a front of these events behind that content.
  pub record Served (old : Devices D) (moments : List (Devices D)) (new : Devices D) (last : Content) : Type 0 where
    pub first : Content
    pub had : HasContent (read_of g old) first
    pub follows : LeadsTo first last
    pub opened : Devices D
    pub is_oldest : oldest new moments ≡ opened
    pub looked : Recovers g old opened
    pub kept : EachImageAlong g opened moments new (IsOn first last)

  -- What was done to the store from its opening to the end is a run of its steps, which the course has.
  abbrev pub LeavesRun : Course D → (left : ShownStore D) → Type 0
  LeavesRun course left = (start : ShownStore D) → course.opened ≡ start ∷ [] → IsRun g (began g start) course.steps left

  -- A server that came to its end: workers took as many connections as they should, the course has as many conversations, all was printed,
  -- each accepted event is durable, and each was accepted in a conversation of the course.
  pub record EndsWell (settings : Settings) (old : Devices D) (course : Course D) (store : ShownStore D) (calls_old calls_new : List WriteCall) : Type 0 where
    pub all_taken : course.taken.count ≡ settings.connections
    pub all_held : held_in course.talks ≡ settings.connections
    pub printed : Took calls_old calls_new (serving_by settings store)
    pub began : WasOpened settings.frames course store.devices
    pub served : IsTrue g.is_honest → Served old (moments_of course.steps) store.devices (live g store)
    pub driven : LeavesRun course store
    pub settled : IsSettled g store
    pub acked : LeavesAcksDurable g course store
    pub recorded : LeavesEventsRecorded g course store

  -- No store was opened: this is why. Nothing was written, and the devices were only looked at.
  pub record NoneOpened (old : Devices D) (course : Course D) (new : Devices D) (calls_old calls_new : List WriteCall) (r : Refusal) : Type 0 where
    pub cause : IsNotOpened g old new r
    pub none : course.opened ≡ []
    pub quiet : calls_new ≡ calls_old
    pub looked : IsTrue g.is_honest → Recovers g old new

  -- A store was opened, and its server ended early for this cause. A front of what is due for the store that was left was written. The course
  -- has the conversation of each connection that workers took, unless memory was refused to take them in, or the threads' counts differ.
  pub record StoppedEarly (settings : Settings) (old : Devices D) (course : Course D) (new : Devices D) (calls_old calls_new : List WriteCall) (r : Refusal) : Type 0 where
    pub store : ShownStore D
    pub left : course.left ≡ store ∷ []
    pub devices : new ≡ store.devices
    pub began : WasOpened settings.frames course new
    pub cause : IsServingFault g old (moments_of course.steps) store course.taken calls_old calls_new r
    pub accounts : IsAccounted settings course
    pub served : IsTrue g.is_honest → Served old (moments_of course.steps) new (live g store)
    pub driven : LeavesRun course store
    pub wrote : TookFront calls_old calls_new (serving_by settings store)
    pub acked : LeavesAcksDurable g course store

  -- Why a server ends early, and what stands and was written then.
  abbrev pub EndsEarlyFor : Settings → Devices D → Course D → Devices D → (calls_old calls_new : List WriteCall) → Refusal → Type 0
  EndsEarlyFor settings old course new calls_old calls_new r =
      NoneOpened old course new calls_old calls_new r ⊎ StoppedEarly settings old course new calls_old calls_new r

  -- A server ended early. There was a cause, and it was told, or telling it failed.
  abbrev pub EndsEarly : Settings → Devices D → Course D → Devices D → (calls_old calls_new faults_old faults_new : List WriteCall) → Type 0
  EndsEarly settings old course new calls_old calls_new faults_old faults_new =
      (r : Refusal) × (EndsEarlyFor settings old course new calls_old calls_new r × IsTold faults_old faults_new r)

  -- With a store the server came to its end.
  abbrev pub EndsWellOnOk : {W E : Type 0} → Settings → Devices D → Course D → (old new : Outgoing W) → Result (ShownStore D) E → Type 0
  EndsWellOnOk settings devices course old new ended = IfOk ended (λ s. EndsWell settings devices course s old.calls new.calls)

  -- With a store that was recovered and served the server came to its end.
  abbrev pub EndsWellWhere : {W : Type 0} → Settings → Devices D → (old new : Outgoing W) → Recovered D → Type 0
  EndsWellWhere settings devices old new result = EndsWellOnOk settings devices result.1 old new result.0

  -- Without one it ended early.
  abbrev pub EndsEarlyWhere : {W : Type 0} → Settings → Devices D → (old new : Outgoing W) → Recovered D → Type 0
  EndsEarlyWhere settings devices old new result = IfErr result.0 (λ e. EndsEarlyFor settings devices result.1 e.1 old.calls new.calls e.0)

-- For the command, which prints to one output and tells its faults on another.
module _ {D W V : Type 0} (g : disk.Ghosts D) where
  -- With a store the server came to its end.
  abbrev pub ServesWell : Settings → Devices D → (before after : Outputs W V) → Outcome D → Type 0
  ServesWell settings devices before after outcome = EndsWellOnOk g settings devices outcome.course before.output after.output outcome.ended

  -- Without one it ended early.
  abbrev pub StopsEarly : Settings → Devices D → (before after : Outputs W V) → Outcome D → Type 0
  StopsEarly settings devices before after outcome =
      IfErr outcome.ended (λ left. EndsEarly g settings devices outcome.course left before.output.calls after.output.calls before.faults.calls after.faults.calls)
