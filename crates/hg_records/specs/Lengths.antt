-- How long records are.
use Rattle.std.specs.Prelude.{◌≡◌, ℕ, ◌≤◌, List, length, drop, ◌==◌, if◌then◌else◌}
use Rattle.hg_model.specs.declared.event.Event.{Event}
use Rattle.hg_model.specs.declared.event.Named.{Named}
use Rattle.hg_records.specs.Records.{BeginsWith, BeginsWithEvent, event_text, record_text}

-- The bytes begin with a record, and these stand behind it.
abbrev pub HasRecord : List ℕ → List ℕ → Type 0
HasRecord bytes rest = (n : Named) × BeginsWith bytes n rest

-- The bytes begin with no record.
abbrev pub HasNoRecord : List ℕ → Type 0
HasNoRecord bytes = (n : Named) (rest : List ℕ) → BeginsWith bytes n rest → ⊥

-- The record of this event, so many bytes long, stands at the front of the bytes.
abbrev pub TakesRecord : List ℕ → Named → ℕ → Type 0
TakesRecord bytes n len = (len ≡ length (record_text n)) × BeginsWith bytes n (drop len bytes)

-- The event, without its name, stands at the front of the bytes, and takes so many of them.
abbrev pub TakesEvent : List ℕ → Event → ℕ → Type 0
TakesEvent bytes e len = (len ≡ length (event_text e)) × BeginsWithEvent bytes e (drop len bytes)

-- A record, so many bytes long, stands at the front of the bytes.
abbrev pub IsRecordLength : List ℕ → ℕ → Type 0
IsRecordLength bytes len = (1 ≤ len) × (len ≤ length bytes) × HasRecord bytes (drop len bytes)

-- the length of a record by the number of its kind, 0 where there is no such kind
unfoldable pub length_by_kind : ℕ → ℕ
length_by_kind kind =
    if kind == 1 then 15 else
    if kind == 2 then 15 else
    if kind == 3 then 15 else
    if kind == 4 then 15 else
    if kind == 5 then 15 else
    if kind == 6 then 22 else
    if kind == 7 then 22 else
    if kind == 8 then 23 else
    if kind == 9 then 23 else
    if kind == 10 then 17 else
    if kind == 11 then 17 else
    if kind == 12 then 25 else
    if kind == 13 then 25 else
    0
