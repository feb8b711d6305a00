-- Journal files.
use Rattle.std.proofs.Common.{◌≡◌, inl, inr, ◌≤◌, ℕ, List, [], map, refl, sym, subst}
use Rattle.hg_model.specs.declared.event.Named.{Named}
use Rattle.hg_disk.specs.declared.disk.Disk as disk
use Rattle.hg_disk.specs.Moments.{LeavesOnly}
use Rattle.hg_disk.proofs.Moments.{weaker}
use Rattle.hg_gate.specs.Batches.{IsNoLogFile, IsSpareOrHas, base_front}
use Rattle.hg_gate.specs.Log.{Has}
use Rattle.hg_gate.specs.declared.based.TheConstants.{MAX_BASE}
use Rattle.hg_gate.proofs.Basing.{based_is_open, same_base}
use Rattle.hg_gate.proofs.Opening.{not_closed}
use Rattle.hg_journal.specs.declared.journal.Journal.{Journal}
use Rattle.hg_journal.specs.File.{IsEitherFile, IsJournalFile, IsNoJournalFile, JournalFile, Open, Spare}
use Rattle.hg_journal.specs.Journal.{IsJournalBehind, batch_text}
use Rattle.hg_journal.specs.Reading.{KeepsBehind}
use Rattle.hg_journal.proofs.Journals as journals

-- A file has one reading.
pub one_file : (bytes : List ℕ) (first second : JournalFile) → IsJournalFile bytes first → IsJournalFile bytes second → first ≡ second
one_file bytes Spare Spare a b = refl
one_file bytes Spare (Open other others) a b = absurd (not_closed bytes (based_is_open other bytes (map batch_text b.1.batches) b.1.log) a)
one_file bytes (Open base events) Spare a b = absurd (not_closed bytes (based_is_open base bytes (map batch_text a.1.batches) a.1.log) b)
one_file bytes (Open base events) (Open other others) a b =
    let same : base ≡ other = same_base base other bytes (map batch_text a.1.batches) (map batch_text b.1.batches) (a.0, a.1.log) (b.0, b.1.log) in
    let again = subst (λ (n : ℕ). IsJournalBehind (base_front n) bytes others) (sym same) b.1 in
    let all = journals.one_reading (base_front base) bytes events others a.1 again in
    λ i. Open (same i) (all i)

-- neither spare nor a log with a base
pub no_file : (bytes : List ℕ) → IsNoLogFile bytes → IsNoJournalFile bytes
no_file bytes none Spare is = none.0 is
no_file bytes none (Open base events) is = none.1 base (map batch_text is.1.batches) (is.0, is.1.log)

-- a journal without events
pub no_events : (base : ℕ) (bytes : List ℕ) → IsSpareOrHas base [] bytes → base ≤ MAX_BASE → IsEitherFile Spare (Open base []) bytes
no_events base bytes is fits = elim is [
  | inl shut ↦ inl shut
  | inr has ↦ inr (fits, record { batches = []; log = has; fits = tt; whole = refl })
]

-- ---- the calls

module _ {D : Type 0} (g : disk.Ghosts D) where
  pub keeps_none : (base : ℕ) (j : Journal D g) → Has (base_front base) j.log [] → KeepsBehind (base_front base) j []
  keeps_none base j has = record { batches = []; has = has; fits = tt; whole = refl }

  pub spare_or_new : (base : ℕ) (old new : D) → base ≤ MAX_BASE → LeavesOnly g old new (IsSpareOrHas base []) → LeavesOnly g old new (IsEitherFile Spare (Open base []))
  spare_or_new base old new fits leaves = weaker g old new (IsSpareOrHas base []) (IsEitherFile Spare (Open base [])) leaves (λ image is. no_events base image is fits)

  pub spare_or_kept : (base : ℕ) (events : List Named) (j : Journal D g) (k : KeepsBehind (base_front base) j events) (old new : D) → base ≤ MAX_BASE → LeavesOnly g old new (IsSpareOrHas base (map batch_text k.batches))
      → LeavesOnly g old new (IsEitherFile Spare (Open base events))
  spare_or_kept base events j k old new fits leaves =
      weaker g old new (IsSpareOrHas base (map batch_text k.batches)) (IsEitherFile Spare (Open base events)) leaves (λ image is. elim is [
        | inl shut ↦ inl shut
        | inr has ↦ inr (fits, record { batches = k.batches; log = has; fits = k.fits; whole = k.whole })
      ])
