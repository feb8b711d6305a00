-- How far a pair was read.
use Rattle.std.proofs.Common.{◌≡◌, ◌≢◌, ◌⊎◌, inl, inr, ◌≤◌, ◌+◌, ℕ, zero, suc, Bool, true, false, IsTrue, List, [], ◌∷◌, ◌++◌, length, map, Option, Some, None, MatchOption, Result, Ok, Err, IfOk, IfErr, OnErr, IsErrOf, refl, sym, ◌∙◌, ap, subst, arith, append_assoc, if◌then◌else◌}
use Rattle.hg_model.specs.declared.event.Named.{Named}
use Rattle.hg_model.specs.declared.verdict.Refusal.{Refusal}
use Rattle.hg_model.specs.declared.verdict.Refusal.TheVariants.{Broken, Damaged}
use Rattle.std.proofs.lemmas.Bool.{true≢false}
use Rattle.hg_disk.specs.declared.disk.Disk as disk
use Rattle.hg_disk.specs.State.{DiskState, IsImage, settled}
use Rattle.hg_disk.specs.Moments.{WereTrueBefore}
use Rattle.hg_disk.proofs.Moments.{started}
use Rattle.hg_gate.specs.Batches.{IsClosed, IsLog, base_front}
use Rattle.hg_gate.specs.Log.{Has}
use Rattle.hg_gate.specs.Reading.{WasRead}
use Rattle.hg_gate.proofs.Grammar as grammar
use Rattle.hg_journal.specs.declared.journal.Journal.{Journal}
use Rattle.hg_journal.specs.declared.journal.JournalReader.{JournalReader}
use Rattle.hg_journal.specs.Journal.{IsJournalBehind, IsNoJournalBehind, IsOfReading, after_refusal, batch_text, failed_after}
use Rattle.hg_journal.specs.Reading.{IsAtBehind, KeepsBehind, disk_of}
use Rattle.hg_journal.specs.Reading as journal
use Rattle.hg_journal.proofs.Journaling.{bytes_now, more}
use Rattle.hg_journal.proofs.Journals.{one_reading}
use Rattle.hg_journals.specs.Pairs.{Keeps, KeepsFormer, ReadsWereTrue, first_of, newer, older, second_of}
use Rattle.hg_journals.specs.Reading.{HasRead, IsSameButFiles, Reads, ReadsNewer}
use Rattle.hg_journals.specs.declared.pair.JournalPair.{JournalPair}

after_more : (e : Refusal) (a n : ℕ) → IsOfReading e → a + after_refusal e n ≡ after_refusal e (a + n)
after_more e a n (inl is) = subst (λ (r : Refusal). a + after_refusal r n ≡ after_refusal r (a + n)) (sym is) refl
after_more e a n (inr (inl is)) = subst (λ (r : Refusal). a + after_refusal r n ≡ after_refusal r (a + n)) (sym is) (omega arith)
after_more e a n (inr (inr is)) = subst (λ (r : Refusal). a + after_refusal r n ≡ after_refusal r (a + n)) (sym is) refl

-- how the failures of one disk count in those of two
pub failed_more : {T : Type 0} (result : Result T Refusal) (a n : ℕ) → IfErr result IsOfReading → a + failed_after result n ≡ failed_after result (a + n)
failed_more (Ok value) a n is = refl
failed_more (Err e) a n is = after_more e a n is

not_broken : (e : Refusal) → IsOfReading e → e ≡ Broken → ⊥
not_broken e (inl is) told = absurd cc
not_broken e (inr (inl is)) told = absurd cc
not_broken e (inr (inr is)) told = absurd cc

pub never_broken : {T : Type 0} (P : Type 0) (result : Result T Refusal) → IfErr result IsOfReading → IfErr result (λ e. e ≡ Broken → P)
never_broken P (Ok value) is = tt
never_broken P (Err e) is = λ told. absurd (not_broken e is told)

pub or_broken : {T : Type 0} (result : Result T Refusal) → IfErr result IsOfReading → IfErr result (λ e. IsOfReading e ⊎ (e ≡ Broken))
or_broken (Ok value) is = tt
or_broken (Err e) is = inl is

module _ {D : Type 0} (g : disk.Ghosts D) where
  before : (turned : Bool) (a b c d : D) → WereTrueBefore g (if turned then c else a) (if turned then d else b) → WereTrueBefore g (if turned then a else c) (if turned then b else d)
      → IsTrue (g.reads_were_true b) × IsTrue (g.reads_were_true d) → IsTrue (g.reads_were_true a) × IsTrue (g.reads_were_true c)
  before true a b c d first second were = (second were.0, first were.1)
  before false a b c d first second were = (first were.0, second were.1)

  -- if the reads were true after a call that reads both files, so were those before it
  pub true_between : (old new : JournalPair D g) → new.is_turned ≡ old.is_turned → WereTrueBefore g (first_of old) (first_of new) → WereTrueBefore g (second_of old) (second_of new) → ReadsWereTrue new → ReadsWereTrue old
  true_between old new turn first second were =
      before old.is_turned (older old) (older new) (newer old) (newer new)
      (subst (λ (turned : Bool). WereTrueBefore g (first_of old) (if turned then newer new else older new)) turn first)
      (subst (λ (turned : Bool). WereTrueBefore g (second_of old) (if turned then older new else newer new)) turn second) were

  pub true_before : {T : Type 0} (most : ℕ) (old new : JournalPair D g) (result : Result T Refusal) → Reads most old new result → ReadsWereTrue new → ReadsWereTrue old
  true_before most old new result r were = true_between old new r.same.turn r.first.any_moment.kept r.second.any_moment.kept were

  -- the reads of a pair over honest disks were true
  pub true_of : (IsTrue g.is_honest → (d : D) → IsTrue (g.reads_were_true d)) → IsTrue g.is_honest → (p : JournalPair D g) → ReadsWereTrue p
  true_of law honest p = (law honest (older p), law honest (newer p))

  -- those of the file that is not the current one, where that was not called
  pub older_true : (j : Journal D g) (new : JournalPair D g) → new.older ≡ j → ReadsWereTrue new → IsTrue (g.reads_were_true (disk_of j))
  older_true j new same were = subst (λ (k : Journal D g). IsTrue (g.reads_were_true (disk_of k))) same were.0

  -- a file that was only read keeps what it kept
  pub former_stays : (spare : Bool) (j k : Journal D g) (base : ℕ) (former : List Named) → g.state (disk_of k) ≡ g.state (disk_of j) → journal.is_broken k ≡ journal.is_broken j → journal.StaysKept j k
      → KeepsFormer spare j base former → KeepsFormer spare k base former
  former_stays true j k base former state broken stays h = (
    record {
      reads = record { works = broken ∙ h.0.reads.works; closed = subst (λ (s : DiskState). IsClosed s.contents) (sym state) h.0.reads.closed };
      durable = subst (λ (s : DiskState). s ≡ settled s.contents) (sym state) h.0.durable;
    },
    h.1,
  )
  former_stays false j k base former state broken stays h = (stays (base_front base) former h.0, h.1)

  -- what it keeps is one list
  pub one_list : (front : List ℕ) (j k : Journal D g) (xs ys : List Named) → g.state (disk_of k) ≡ g.state (disk_of j) → KeepsBehind front j xs → KeepsBehind front k ys → xs ≡ ys
  one_list front j k xs ys state one other =
      one_reading front (g.state (disk_of j)).contents xs ys (bytes_now g front j xs one) (subst (λ (s : DiskState). IsJournalBehind front s.contents ys) state (bytes_now g front k ys other))

  pub one_former : (spare : Bool) (j : Journal D g) (base : ℕ) (xs ys : List Named) → KeepsFormer spare j base xs → KeepsFormer spare j base ys → xs ≡ ys
  one_former true j base xs ys one other = one.1 ∙ sym other.1
  one_former false j base xs ys one other = one_list (base_front base) j j xs ys refl one.0 other.0

  -- A journal whose events are being read keeps what it kept,
  pub keeps_at : (front : List ℕ) (j k : Journal D g) (events seen : List Named) (r : JournalReader) → g.state (disk_of k) ≡ g.state (disk_of j) → KeepsBehind front j events → IsAtBehind front k r seen → KeepsBehind front k events
  keeps_at front j k events seen r state h at =
      let bodies : map batch_text h.batches ≡ (map batch_text at.past ++ at.present) ++ at.later =
      grammar.one_reading front (g.state (disk_of k)).contents (map batch_text h.batches) ((map batch_text at.past ++ at.present) ++ at.later)
      (subst (λ (s : DiskState). IsLog front s.contents (map batch_text h.batches)) (sym state) h.has.reads.has) at.has.reads.has in
      record { batches = h.batches; has = subst (λ (l : List (List ℕ)). Has front k.log l) (sym bodies) at.has; fits = h.fits; whole = h.whole }

  -- and so does one whose events were all read.
  keeps_end : (front : List ℕ) (j k : Journal D g) (events seen : List Named) → g.state (disk_of k) ≡ g.state (disk_of j) → KeepsBehind front j events → KeepsBehind front k seen → KeepsBehind front k events
  keeps_end front j k events seen state h end = subst (λ (l : List Named). KeepsBehind front k l) (sym (one_list front j k events seen state h end)) end

  -- after it was passed on
  pub keeps_passed : {E : Type 0} (front : List ℕ) (j k : Journal D g) (events seen : List Named) (r : JournalReader) (result : Result ℕ E) → g.state (disk_of k) ≡ g.state (disk_of j) → KeepsBehind front j events
      → IfOk result (λ count. 1 ≤ count → (more : List Named) × (length more ≡ count) × IsAtBehind front k r (seen ++ more)) → IfOk result (λ count. count ≡ 0 → KeepsBehind front k seen) → OnErr result (IsAtBehind front k r seen)
      → KeepsBehind front k events
  keeps_passed front j k events seen r (Ok zero) state h passed end again = keeps_end front j k events seen state h (end refl)
  keeps_passed front j k events seen r (Ok (suc n)) state h passed end again =
      let more = passed (omega arith) in keeps_at front j k events (seen ++ more.0) r state h more.2
  keeps_passed front j k events seen r (Err e) state h passed end again = keeps_at front j k events seen r state h again

  unread : (n : ℕ) (d : D) → WasRead g n d d
  unread n d = record { state = refl; any_moment = started g d (IsImage (g.state d)) (λ image is. is); calls = omega arith }

  -- in the order of the files
  first_read : (turned : Bool) (a b c d : D) → WasRead g 1 a b → WasRead g 1 c d → WasRead g 1 (if turned then c else a) (if turned then d else b)
  first_read true a b c d one other = other
  first_read false a b c d one other = one

  sum : (turned : Bool) (a b : D) → g.failures (if turned then b else a) + g.failures (if turned then a else b) ≡ g.failures a + g.failures b
  sum true a b = omega arith
  sum false a b = refl

  -- What a call that reads promises, of what it did to the two files.
  pub reads_by : {T : Type 0} (p q : JournalPair D g) (result : Result T Refusal) → IsSameButFiles p q → WasRead g 1 (older p) (older q) → WasRead g 1 (newer p) (newer q) → IfErr result IsOfReading
      → g.failures (older q) + g.failures (newer q) ≡ failed_after result (g.failures (older p) + g.failures (newer p)) → p.is_broken ≡ false → Reads 1 p q result
  reads_by p q result same one other fault device works = record {
    same = same;
    first = subst (λ (t : Bool). WasRead g 1 (first_of p) (if t then newer q else older q)) (sym same.turn) (first_read p.is_turned (older p) (older q) (newer p) (newer q) one other);
    second = subst (λ (t : Bool). WasRead g 1 (second_of p) (if t then older q else newer q)) (sym same.turn) (first_read p.is_turned (newer p) (newer q) (older p) (older q) other one);
    fault = or_broken result fault;
    device = sum q.is_turned (older q) (newer q) ∙ device ∙ ap (λ (n : ℕ). failed_after result n) (sym (sum p.is_turned (older p) (newer p)));
    refuses = λ is. absurd (true≢false (sym is ∙ works));
    broken = never_broken (IsTrue p.is_broken) result fault;
  }

  -- the current file alone was read
  pub reads_newer : {T : Type 0} (p q : JournalPair D g) (result : Result T Refusal) → ReadsNewer p q result → p.is_broken ≡ false → Reads 1 p q result
  reads_newer p q result h works =
      reads_by p q result h.same (subst (λ (j : Journal D g). WasRead g 1 (older p) (disk_of j)) (sym h.other) (unread 1 (older p))) h.read h.fault
      (ap (λ (n : ℕ). g.failures (older q) + n) h.device ∙ ap (λ (j : Journal D g). g.failures (disk_of j) + failed_after result (g.failures (newer p))) h.other
      ∙ failed_more result (g.failures (older p)) (g.failures (newer p)) h.fault)
      works

  -- as it was, and then as it was
  pub still_same : (p q r : JournalPair D g) → IsSameButFiles p q → IsSameButFiles q r → IsSameButFiles p r
  still_same p q r one two = record {
    base = two.base ∙ one.base;
    newer_base = two.newer_base ∙ one.newer_base;
    last = two.last ∙ one.last;
    spare = two.spare ∙ one.spare;
    turn = two.turn ∙ one.turn;
    broken = two.broken ∙ one.broken;
  }

  -- the file that is not the current one was read to its end, and then the current one
  pub reads_both : {T : Type 0} (p q r : JournalPair D g) (result : Result T Refusal) → IsSameButFiles p q → q.newer ≡ p.newer → WasRead g 1 (older p) (older q) → g.failures (older q) ≡ g.failures (older p) → ReadsNewer q r result → p.is_broken ≡ false
      → Reads 1 p r result
  reads_both p q r result before same_newer one unfailed h works =
      reads_by p r result
      (still_same p q r before h.same)
      (subst (λ (j : Journal D g). WasRead g 1 (older p) (disk_of j)) (sym h.other) one)
      (subst (λ (j : Journal D g). WasRead g 1 (disk_of j) (newer r)) same_newer h.read)
      h.fault
      (ap (λ (n : ℕ). g.failures (older r) + n) h.device ∙ ap (λ (j : Journal D g). g.failures (disk_of j) + failed_after result (g.failures (newer q))) h.other
      ∙ failed_more result (g.failures (older q)) (g.failures (newer q)) h.fault
      ∙ ap (λ (n : ℕ). failed_after result n) (ap (λ (n : ℕ). n + g.failures (newer q)) unfailed ∙ ap (λ (j : Journal D g). g.failures (older p) + g.failures (disk_of j)) same_newer))
      works

  -- the file that is read
  pub was_older : (in_newer : Bool) → in_newer ≡ false → (p : JournalPair D g) (r : JournalReader) (seen : List Named) → HasRead in_newer p r seen → (p.has_spare ≡ false) × IsAtBehind (base_front p.base) p.older r seen
  was_older in_newer is p r seen h = subst (λ (b : Bool). HasRead b p r seen) is h

  pub in_older : (in_newer : Bool) → in_newer ≡ false → (p : JournalPair D g) (r : JournalReader) (seen : List Named) → p.has_spare ≡ false → IsAtBehind (base_front p.base) p.older r seen → HasRead in_newer p r seen
  in_older in_newer is p r seen open_is at = subst (λ (b : Bool). HasRead b p r seen) (sym is) (open_is, at)

  -- a reader after an append to the current file
  pub readers_stay : (in_newer : Bool) (p q : JournalPair D g) (r : JournalReader) (seen : List Named) → q.older ≡ p.older → q.has_spare ≡ p.has_spare → q.base ≡ p.base → q.newer_base ≡ p.newer_base
      → ((read : List Named) → IsAtBehind (base_front p.newer_base) p.newer r read → IsAtBehind (base_front p.newer_base) q.newer r read) → HasRead in_newer p r seen → HasRead in_newer q r seen
  readers_stay false p q r seen other spare base newer_base stays h =
      (spare ∙ h.0, subst (λ (n : ℕ). IsAtBehind (base_front n) q.older r seen) (sym base) (subst (λ (j : Journal D g). IsAtBehind (base_front p.base) j r seen) (sym other) h.1))
  readers_stay true p q r seen other spare base newer_base stays h = (
    h.0,
    h.1,
    subst (λ (s : Bool). KeepsFormer s q.older q.base h.0) (sym spare) (subst (λ (n : ℕ). KeepsFormer p.has_spare q.older n h.0) (sym base) (subst (λ (j : Journal D g). KeepsFormer p.has_spare j p.base h.0) (sym other) h.2)),
    subst (λ (n : ℕ). IsAtBehind (base_front n) q.newer r h.1) (sym newer_base) (stays h.1 h.3),
    h.4,
  )

  -- ---- a pair that keeps events

  module _ (p : JournalPair D g) (base : ℕ) (events : List Named) (k : Keeps p base events) where
    -- nothing is read of a spare file
    pub none_read : p.has_spare ≡ true → KeepsFormer p.has_spare p.older p.base []
    none_read is = subst (λ (s : Bool). KeepsFormer s p.older p.base []) (sym is) ((subst (λ (s : Bool). KeepsFormer s p.older base k.former) is k.older).0, refl)

    -- the other file, if it is open
    pub former_kept : p.has_spare ≡ false → KeepsBehind (base_front p.base) p.older k.former
    former_kept is = subst (λ (n : ℕ). KeepsBehind (base_front n) p.older k.former) (sym k.begins) (subst (λ (s : Bool). KeepsFormer s p.older base k.former) is k.older).0

    pub some_former : p.has_spare ≡ false → 1 ≤ length k.former
    some_former is = (subst (λ (s : Bool). KeepsFormer s p.older base k.former) is k.older).1

    former_is : (former : List Named) → KeepsFormer p.has_spare p.older p.base former → former ≡ k.former
    former_is former h = one_former p.has_spare p.older base former k.former (subst (λ (n : ℕ). KeepsFormer p.has_spare p.older n former) k.begins h) k.older

    module _ (seen former read : List Named) (kf : KeepsFormer p.has_spare p.older p.base former) (is : seen ≡ former ++ read) (j : Journal D g) (state : g.state (disk_of j) ≡ g.state (newer p)) (r : JournalReader) where
      abbrev pub ReadsTo : List Named → Type 0
      ReadsTo all =
          (former : List Named) × (read : List Named) × KeepsFormer p.has_spare p.older p.base former
          × IsAtBehind (base_front p.newer_base) j r read × (all ≡ former ++ read)

      one_more : (named : Named) → IsAtBehind (base_front p.newer_base) j r (read ++ named ∷ []) → ReadsTo (seen ++ named ∷ [])
      one_more named at = (former, read ++ named ∷ [], kf, at, ap (λ (l : List Named). l ++ named ∷ []) is ∙ append_assoc former read (named ∷ []))

      pub all_read : KeepsBehind (base_front p.newer_base) j read → seen ≡ events
      all_read h =
          is ∙ ap (λ (l : List Named). l ++ read) (former_is former kf) ∙ ap (λ (l : List Named). k.former ++ l) (sym (one_list (base_front p.newer_base) p.newer j k.current read state k.newer h)) ∙ sym k.whole

      found_one : (found : Option Named) → MatchOption found (KeepsBehind (base_front p.newer_base) j read) (λ named. IsAtBehind (base_front p.newer_base) j r (read ++ named ∷ []))
          → MatchOption found (seen ≡ events) (λ named. ReadsTo (seen ++ named ∷ []))
      found_one None h = all_read h
      found_one (Some named) h = one_more named h

      pub next_newer : {E : Type 0} (result : Result (Option Named) E) → IfOk result (λ found. MatchOption found (KeepsBehind (base_front p.newer_base) j read) (λ named. IsAtBehind (base_front p.newer_base) j r (read ++ named ∷ [])))
          → IfOk result (λ found. MatchOption found (seen ≡ events) (λ named. ReadsTo (seen ++ named ∷ [])))
      next_newer (Ok found) h = found_one found h
      next_newer (Err e) h = tt

      some_more : (count : ℕ) → (1 ≤ count → (more : List Named) × (length more ≡ count) × IsAtBehind (base_front p.newer_base) j r (read ++ more)) → (count ≡ 0 → KeepsBehind (base_front p.newer_base) j read)
          → ((count ≡ 0) × (seen ≡ events)) ⊎ ((1 ≤ count) × (more : List Named) × (length more ≡ count) × ReadsTo (seen ++ more))
      some_more zero passed end = inl (refl, all_read (end refl))
      some_more (suc n) passed end =
          let some : 1 ≤ suc n = omega arith in
          let more = passed some in
          inr (some, more.0, more.1, (former, read ++ more.0, kf, more.2, ap (λ (l : List Named). l ++ more.0) is ∙ append_assoc former read more.0))

      pub more_newer : {E : Type 0} (result : Result ℕ E) → IfOk result (λ count. 1 ≤ count → (more : List Named) × (length more ≡ count) × IsAtBehind (base_front p.newer_base) j r (read ++ more))
          → IfOk result (λ count. count ≡ 0 → KeepsBehind (base_front p.newer_base) j read) → IfOk result (λ count. ((count ≡ 0) × (seen ≡ events)) ⊎ ((1 ≤ count) × (more : List Named) × (length more ≡ count) × ReadsTo (seen ++ more)))
      more_newer (Ok count) passed end = some_more count passed end
      more_newer (Err e) passed end = tt

      pub stays_newer : {T : Type 0} (result : Result T Refusal) → (IsErrOf result Damaged → IsNoJournalBehind (base_front p.newer_base) (g.state (newer p)).contents) → OnErr result (IsAtBehind (base_front p.newer_base) j r read)
          → IfErr result (λ e. (e ≢ Damaged) × ReadsTo seen)
      stays_newer (Ok value) damaged at = tt
      stays_newer (Err e) damaged at = (λ told. damaged (ap (λ (x : Refusal). Err x) told) k.current (bytes_now g (base_front p.newer_base) p.newer k.current k.newer), (former, read, kf, at, is))

    -- ---- the other file

    -- its bytes are a journal's
    pub no_damage : p.has_spare ≡ false → IsNoJournalBehind (base_front p.base) (g.state (older p)).contents → ⊥
    no_damage open_is none = none k.former (bytes_now g (base_front p.base) p.older k.former (former_kept open_is))

    -- it was read to its end
    pub read_whole : (j : Journal D g) (seen : List Named) → p.has_spare ≡ false → g.state (disk_of j) ≡ g.state (older p) → KeepsBehind (base_front p.base) j seen → KeepsFormer p.has_spare j p.base seen
    read_whole j seen open_is state h =
        let same : k.former ≡ seen = one_list (base_front p.base) p.older j k.former seen state (former_kept open_is) h in
        subst (λ (s : Bool). KeepsFormer s j p.base seen) (sym open_is) (h, subst (λ (l : List Named). 1 ≤ length l) same (some_former open_is))

    -- what was read is the front of what is kept
    pub front_read : (in_newer : Bool) (r : JournalReader) (seen : List Named) → HasRead in_newer p r seen → (left : List Named) × (events ≡ seen ++ left)
    front_read false r seen h =
        let rest = more g (base_front p.base) p.older r seen h.1 k.former (bytes_now g (base_front p.base) p.older k.former (former_kept h.0)) in
        (rest.0 ++ k.current, k.whole ∙ ap (λ (l : List Named). l ++ k.current) rest.1 ∙ append_assoc seen rest.0 k.current)
    front_read true r seen h =
        let rest = more g (base_front p.newer_base) p.newer r h.1 h.3 k.current (bytes_now g (base_front p.newer_base) p.newer k.current k.newer) in (
          rest.0,
          k.whole ∙ ap (λ (l : List Named). l ++ k.current) (sym (former_is h.0 h.2)) ∙ ap (λ (l : List Named). h.0 ++ l) rest.1
              ∙ sym (append_assoc h.0 h.1 rest.0) ∙ ap (λ (l : List Named). l ++ rest.0) (sym h.4),
        )

    -- what the other file kept it keeps, after it was passed on
    pub former_passed : {E : Type 0} (j : Journal D g) (result : Result ℕ E) (r : JournalReader) (seen : List Named) → p.has_spare ≡ false → g.state (disk_of j) ≡ g.state (older p)
        → IfOk result (λ count. 1 ≤ count → (more : List Named) × (length more ≡ count) × IsAtBehind (base_front p.base) j r (seen ++ more)) → IfOk result (λ count. count ≡ 0 → KeepsBehind (base_front p.base) j seen)
        → OnErr result (IsAtBehind (base_front p.base) j r seen) → KeepsFormer p.has_spare j base k.former
    former_passed j result r seen open_is state passed end again =
        let kept : KeepsBehind (base_front p.base) j k.former = keeps_passed (base_front p.base) p.older j k.former seen r result state (former_kept open_is) passed end again in
        subst (λ (s : Bool). KeepsFormer s j base k.former) (sym open_is) (subst (λ (n : ℕ). KeepsBehind (base_front n) j k.former) k.begins kept, some_former open_is)
