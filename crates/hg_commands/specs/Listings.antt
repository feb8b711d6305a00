-- What is printed of what a store holds, and how that ends.
use Rattle.std.specs.Prelude.{◌≡◌, ◌⊎◌, ℕ, Bool, nat_lt, List, [], ◌++◌, Vec, Result, IfErr, IfOk, IsTrue}
use Rattle.hg_model.specs.declared.report.Report.{Report}
use Rattle.hg_model.specs.declared.verdict.Refusal.{Refusal}
use Rattle.hg_model.specs.Contents.{Content}
use Rattle.hg_disk.specs.declared.disk.Disk as disk
use Rattle.hg_images.specs.Images.{HasContent}
use Rattle.hg_store.specs.declared.devices.Devices.{Devices}
use Rattle.hg_store.specs.Images.{read_of}
use Rattle.hg_store.specs.Shown.{ShownStore, live}
use Rattle.hg_streams.specs.Shown.{Outgoing}
use Rattle.hg_streams.specs.Holding.{HoldsOrWrites, WritesFront, IsDue}
use Rattle.hg_streams.specs.Texts.{line_text, reports_text, segments_text, counts_line}
use Rattle.hg_streams.specs.Calls.{failed_writes}
use Rattle.hg_streams.specs.Faults.{IsStreamFault, IsTold}
use Rattle.hg_streams.specs.Written.{Took, TookFront}
use Rattle.hg_streams.specs.declared.listing.Listing.{Listing}
use Rattle.hg_streams.specs.declared.listing.Listing.TheVariants.{Reports, Segments}
use Rattle.hg_streams.specs.declared.output.Outputs.{Outputs}
use Rattle.hg_commands.specs.Storing.{EndsFlushed, IsCounted, NoCallFailed}
use Rattle.hg_commands.specs.Instants.{Instant, WasOpened}
use Rattle.hg_commands.specs.declared.listing.Listed.{Listed}
use Rattle.hg_store.specs.Refusals.{IsNotOpened}

-- What is printed of a store's content.
abbrev pub listing_text : Listing → Content → List ℕ
listing_text Reports c = reports_text 1 c.reports ++ line_text (counts_line c)
listing_text Segments c = segments_text 0 c.segments

module _ {V Z T E : Type 0} where
  -- Where a call succeeded, the lines of the reports were written behind what was held, or are held.
  abbrev pub HoldsReports : List Report → Outgoing V → Vec ℕ Z → Result T E → Outgoing V → Vec ℕ Z → Type 0
  HoldsReports reports before old result after new = HoldsOrWrites (reports_text 1 reports) before.calls old.items result after.calls new.items

  -- Where it failed, a front of the due text was written.
  abbrev pub BreaksReports : List Report → Outgoing V → Vec ℕ Z → Result T E → Outgoing V → Type 0
  BreaksReports reports before old result after = WritesFront (reports_text 1 reports) before.calls old.items result after.calls

module _ {D : Type 0} (g : disk.Ghosts D) where
  -- There were races, kept or not, exactly where a store counts some.
  abbrev pub CountsRaces : ShownStore D → Bool → Type 0
  CountsRaces s races = races ≡ nat_lt 0 (live g s).total

module _ {D V : Type 0} (g : disk.Ghosts D) where
  -- The listing of a store was printed.
  abbrev pub ListsStore : Listing → ShownStore D → Outgoing V → Outgoing V → Type 0
  ListsStore listing s before after = Took before.calls after.calls (listing_text listing (live g s))

  -- It was printed, except the held text.
  abbrev pub ListsButHeld : {Z : Type 0} → Listing → ShownStore D → Outgoing V → Outgoing V → Vec ℕ Z → Type 0
  ListsButHeld listing s before after held = IsDue before.calls after.calls held.items [] (listing_text listing (live g s))

  -- A front of it was printed.
  abbrev pub ListsFront : Listing → ShownStore D → Outgoing V → Outgoing V → Type 0
  ListsFront listing s before after = TookFront before.calls after.calls (listing_text listing (live g s))

  -- Honest devices have a content, and its listing was printed; and there were races, kept or not, exactly where it counts some.
  abbrev pub ListsContent : Listing → Devices D → Outgoing V → Outgoing V → Bool → Type 0
  ListsContent listing devices before after races =
      IsTrue g.is_honest
      → (c : Content) × HasContent (read_of g devices) c × Took before.calls after.calls (listing_text listing c) × (races ≡ nat_lt 0 c.total)

  -- A front of the listing of a content was written, or nothing. Honest devices have that content.
  abbrev pub WroteListing : Listing → Devices D → Outgoing V → Outgoing V → Type 0
  WroteListing listing old before after =
      (after.calls ≡ before.calls)
      ⊎ ((c : Content) × ((IsTrue g.is_honest → HasContent (read_of g old) c) × TookFront before.calls after.calls (listing_text listing c)))

  -- Why the listing of an open store ended by a fault: a call of the output failed, where that is told, or memory was refused. The store was
  -- opened with so many frames, and no call of a device failed.
  pub record ListingBreaks (frames : ℕ) (old new : Devices D) (moments : List (Instant D)) (before after : Outgoing V) (r : Refusal) : Type 0 where
    pub opened : WasOpened frames before.calls moments new
    pub is : IsStreamFault r
    pub failed : IsCounted r (failed_writes before.calls) (failed_writes after.calls)
    pub device : NoCallFailed g old new

  -- Why a listing ended by a fault: the store was not opened, and nothing was written; or its listing was broken off.
  abbrev pub HasListingCause : ℕ → Devices D → Devices D → List (Instant D) → Outgoing V → Outgoing V → Refusal → Type 0
  HasListingCause frames old new moments before after r =
      (IsNotOpened g old new r × (after.calls ≡ before.calls) × (moments ≡ [])) ⊎ ListingBreaks frames old new moments before after r

  -- A store was opened with so many frames, and listed; no call of a device failed. What was printed is the listing of what honest devices
  -- have, and was flushed; and whether there were races is what they count.
  pub record WasListed (listing : Listing) (frames : ℕ) (old new : Devices D) (moments : List (Instant D)) (before after : Outgoing V) (races : Bool) : Type 0 where
    pub prints : ListsContent listing old before after races
    pub flushed : EndsFlushed after.calls
    pub opened : WasOpened frames before.calls moments new
    pub device : NoCallFailed g old new

-- what recovering a store and printing it answers: whether it was printed and has races, the devices, and the moments since its opening
abbrev pub Printed : Type 0 → Type 0
Printed D = Result Bool Refusal × Devices D × List (Instant D)

module _ {D V : Type 0} (g : disk.Ghosts D) where
  -- Where the store was listed.
  abbrev pub ListedWhere : Listing → ℕ → Devices D → Outgoing V → Outgoing V → Printed D → Type 0
  ListedWhere listing frames devices before after result =
      IfOk result.0 (WasListed g listing frames devices result.1 result.2 before after)

  -- Where it was not, why.
  abbrev pub FailedFor : ℕ → Devices D → Outgoing V → Outgoing V → Printed D → Type 0
  FailedFor frames devices before after result =
      IfErr result.0 (HasListingCause g frames devices result.1 result.2 before after)

-- For the command, which prints to one output and tells its faults on another.
module _ {D W V : Type 0} (g : disk.Ghosts D) where
  -- A store was opened with so many frames, and what honest devices have was printed and counted.
  abbrev pub IsListed : Listing → ℕ → Devices D → Outputs W V → Outputs W V → Listed D W → Type 0
  IsListed listing frames old before after listed =
      listed.outcome.status ≡ 0
      → WasListed g listing frames old listed.outcome.devices listed.outcome.moments before.output after.output listed.has_races

  -- A listing ended by a fault. The fault had a cause; it was told, or telling it failed; and before it a front of the due text was written.
  abbrev pub CantList : Listing → ℕ → Devices D → Outputs W V → Outputs W V → Listed D W → Type 0
  CantList listing frames old before after listed =
      listed.outcome.status ≡ 3
      → (r : Refusal) × (HasListingCause g frames old listed.outcome.devices listed.outcome.moments before.output after.output r
      × (IsTold before.faults.calls after.faults.calls r × WroteListing g listing old before.output after.output))
