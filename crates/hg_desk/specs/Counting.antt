-- What the shares were told in all, and what the books have.
use Rattle.std.specs.Prelude.{◌≡◌, ◌≢◌, ◌⊎◌, ◌+◌, ◌≤◌, ℕ, All, List, length, map, sum}
use Rattle.hg_disk.specs.declared.disk.Disk as disk
use Rattle.hg_model.specs.Contents.{Content}
use Rattle.hg_images.specs.Images.{HasContent, Image}
use Rattle.hg_images.specs.Stores.{IsLeft}
use Rattle.hg_store.specs.Images.{states_of}
use Rattle.hg_store.specs.Shown.{ShownStore, live, saved}
use Rattle.hg_desk.specs.declared.locked.Counts.{Counts}
use Rattle.hg_desk.specs.declared.shared.TakenIn.{TakenIn}
use Rattle.hg_desk.specs.declared.shared.Tally.{Tally}
use Rattle.hg_desk.specs.Told.{HasAcked, Told}

-- how many events these shares were told were accepted
abbrev pub accepted_in : List Told → ℕ
accepted_in shares = sum (map (λ s. s.accepted) shares)

-- how many events the commits of these shares made durable
abbrev pub durable_in : List Told → ℕ
durable_in shares = sum (map (λ s. s.durable) shares)

-- A content has the events of each acknowledgement that these shares were told.
abbrev pub AreAcked : Content → List Told → Type 0
AreAcked c shares = All (λ s. HasAcked c s.acks) shares

-- P holds where these are all of so many shares.
abbrev pub WhereAll : List Told → ℕ → Type 0 → Type 0
WhereAll shares parts P = 1 ≤ length shares → length shares ≡ parts → P

-- All shares are given back, and the books differ from what they were told.
abbrev pub AreDisputed : List Told → List Told → Tally → Type 0
AreDisputed shares back tally =
    (back ≡ shares) × (tally.accepted_told ≡ accepted_in shares) × (tally.durable_told ≡ durable_in shares)
    × ((tally.accepted_told ≢ tally.accepted_book) ⊎ (tally.durable_told ≢ tally.durable_book))

-- The share stays as it was, and the counts are at least what it was told.
abbrev pub FindsAtLeast : Told → Told → Counts → Type 0
FindsAtLeast share share_after counts = (share_after ≡ share) × (share.accepted ≤ counts.accepted) × (share.durable ≤ counts.durable)

module _ {D : Type 0} (g : disk.Ghosts D) where
  -- how many events a store has accepted
  abbrev pub events_of : ShownStore D → ℕ
  events_of s = (live g s).events

  -- The store has the events of its opening, accepted and durable, and as many more as were counted.
  abbrev pub AreSince : (opening_events opening_durable : ℕ) → ShownStore D → Counts → Type 0
  AreSince opening_events opening_durable s counts = (events_of s ≡ opening_events + counts.accepted) × (s.durable ≡ opening_durable + counts.durable)

  -- The store that was taken in has its events of the opening, and as many more as the shares were told.
  abbrev pub HasTheirEvents : ℕ → List Told → TakenIn D → Type 0
  HasTheirEvents opening shares taken_in = events_of taken_in.store ≡ opening + accepted_in shares

  -- Durable are the events that were durable at the opening, and as many more as the shares were told.
  abbrev pub HasTheirDurable : ℕ → List Told → TakenIn D → Type 0
  HasTheirDurable opening shares taken_in = taken_in.store.durable ≡ opening + durable_in shares

  -- The durable content of the store that was taken in has what the shares were told is acknowledged.
  abbrev pub HasTheirAcks : List Told → TakenIn D → Type 0
  HasTheirAcks shares taken_in = AreAcked (saved g taken_in.store) shares

  -- Each image of the store's devices has a content of so many events at least.
  abbrev pub EachImageHas : ShownStore D → ℕ → Type 0
  EachImageHas s n = (image : Image) → IsLeft (states_of g s.devices) image → (k : Content) × HasContent image k × (n ≤ k.events)

  -- Each image of the devices of the store that was taken in has at least these durable events.
  abbrev pub ImagesHaveThem : ℕ → List Told → TakenIn D → Type 0
  ImagesHaveThem opening shares taken_in = EachImageHas taken_in.store (opening + durable_in shares)
