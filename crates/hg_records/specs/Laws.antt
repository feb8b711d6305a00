-- The laws of records, which empty public functions promise.
use Rattle.std.specs.Prelude.{◌≡◌, ℕ, List}
use Rattle.std.specs.List.{flat_map, AllByRecursion}
use Rattle.hg_model.specs.declared.event.Named.{Named}
use Rattle.hg_records.specs.Records.{BeginsWith, RecordFits, record_text}

-- Bytes begin with one record at most, and with one rest behind it.
abbrev pub RecordsAreUnique : Type 0
RecordsAreUnique = (bytes : List ℕ) (a b : Named) (x y : List ℕ) → BeginsWith bytes a x → BeginsWith bytes b y → (a ≡ b) × (x ≡ y)

-- Different lists of events have different records.
abbrev pub RecordListsAreUnique : Type 0
RecordListsAreUnique = (xs ys : List Named) → AllByRecursion RecordFits xs → AllByRecursion RecordFits ys → flat_map record_text xs ≡ flat_map record_text ys → xs ≡ ys
