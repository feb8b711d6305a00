-- What each step leaves of the two files of a pair.
use Rattle.std.proofs.Common.{◌≡◌, inl, inr, ◌≤◌, ◌<◌, ◌+◌, ◌-◌, ℕ, Bool, true, false, ◌&&◌, not, nat_lt, nat_le, List, [], ◌++◌, length, drop, refl, sym, ◌∙◌, ap, subst, arith, length-append, append-nil, append_assoc, if◌then◌else◌}
use Rattle.std.proofs.lemmas.List.{drop_at}
use Rattle.hg_model.specs.declared.event.Named.{Named}
use Rattle.hg_disk.specs.declared.disk.Disk as disk
use Rattle.hg_disk.specs.Moments.{LeavesOnly}
use Rattle.hg_gate.specs.Batches.{base_front}
use Rattle.hg_gate.specs.declared.based.TheConstants.{MAX_BASE}
use Rattle.hg_journal.specs.declared.journal.Journal.{Journal}
use Rattle.hg_journal.specs.File.{IsEitherFile, IsJournalFile, IsSpare, Open, Spare}
use Rattle.hg_journal.specs.Journal.{IsAllOrNoneBehind, IsJournalBehind}
use Rattle.hg_journal.specs.Reading.{KeepsBehind, disk_of}
use Rattle.hg_journals.specs.Journals.{HaveAllOrBehind, HaveAllOrNone, HaveJournals, behind}
use Rattle.hg_journals.specs.Pairs.{EachImage, Keeps, KeepsFormer, first_of, newer, older, second_of}
use Rattle.hg_journals.specs.declared.pair.JournalPair.{JournalPair}
use Rattle.hg_journals.proofs.Keeping.{file_of, have, swapped}
use Rattle.hg_journals.proofs.Imaging.{either_way, in_order, in_turn, newer_stays, older_stays, small, small_base, stays}

not_true : (b : Bool) → not b ≡ true → b ≡ false
not_true true is = absurd cc
not_true false is = refl

both_true : (a b : Bool) → a && b ≡ true → (a ≡ true) × (b ≡ true)
both_true true true is = (refl, refl)
both_true true false is = absurd cc
both_true false b is = absurd cc

module _ {D : Type 0} (g : disk.Ghosts D) where
  weaker : (a b c d : D) (P Q : List ℕ → List ℕ → Type 0) → EachImage g a b c d P → ((one other : List ℕ) → P one other → Q one other) → EachImage g a b c d Q
  weaker a b c d P Q h implies = record {
    first_goes = h.first_goes;
    second_goes = h.second_goes;
    each = λ one other may_one may_other. implies one other (h.each one other may_one may_other);
  }

  module _ (p : JournalPair D g) (base : ℕ) (events : List Named) (k : Keeps p base events) where
    -- ---- events are appended to the current file

    module _ (new : List Named) (fits : p.last + length new ≤ MAX_BASE) where
      few : base + length (events ++ new) ≤ MAX_BASE
      few = omega (arith, fits, k.ends, length-append events new)

      pub whole_with : events ++ new ≡ k.former ++ (k.current ++ new)
      whole_with = ap (λ (l : List Named). l ++ new) k.whole ∙ append_assoc k.former k.current new

      all_or_none : (one other : List ℕ) → IsJournalFile one (file_of p.has_spare base k.former) → IsAllOrNoneBehind (base_front p.newer_base) k.current new other
          → HaveAllOrNone base events new one other × HaveAllOrNone base events new other one
      all_or_none one other is (inl before) = let h = either_way g p base events k k.current events one other k.whole (small g p base events k) is before in (inl h.0, inl h.1)
      all_or_none one other is (inr after) = let h = either_way g p base events k (k.current ++ new) (events ++ new) one other whole_with few is after in (inr h.0, inr h.1)

      pub appending : (d : D) → LeavesOnly g (newer p) d (IsAllOrNoneBehind (base_front p.newer_base) k.current new)
          → EachImage g (first_of p) (if p.is_turned then d else older p) (second_of p) (if p.is_turned then older p else d) (HaveAllOrNone base events new)
      appending d leaves =
          in_order g p.is_turned (older p) (older p) (newer p) d (λ image. IsJournalFile image (file_of p.has_spare base k.former)) (IsAllOrNoneBehind (base_front p.newer_base) k.current new) (HaveAllOrNone base events new)
          (older_stays g p base events k) leaves all_or_none

      pub ends_with : p.last + length new ≡ base + length (events ++ new)
      ends_with = omega (arith, k.ends, length-append events new)

    -- ---- the spare file is opened

    module _ (due : p.has_spare && nat_lt p.newer_base p.last ≡ true) where
      spare_is : p.has_spare ≡ true
      spare_is = (both_true p.has_spare (nat_lt p.newer_base p.last) due).0

      grows : p.newer_base < p.last
      grows = let is = (both_true p.has_spare (nat_lt p.newer_base p.last) due).1 in grind arith

      pub spare : IsSpare p.older
      spare = (subst (λ (s : Bool). KeepsFormer s p.older base k.former) spare_is k.older).0

      none_former : k.former ≡ []
      none_former = (subst (λ (s : Bool). KeepsFormer s p.older base k.former) spare_is k.older).1

      pub at_base : p.newer_base ≡ base
      at_base = omega (arith, k.turned_at, ap (λ (l : List Named). length l) none_former)

      pub all_current : k.current ≡ events
      all_current = sym (k.whole ∙ ap (λ (l : List Named). l ++ k.current) none_former)

      pub some : 1 ≤ length events
      some = omega (arith, grows, at_base, k.ends)

      -- the current file has all events
      pub keeps_all : KeepsBehind (base_front base) p.newer events
      keeps_all = subst (λ (l : List Named). KeepsBehind (base_front base) p.newer l) all_current (subst (λ (n : ℕ). KeepsBehind (base_front n) p.newer k.current) at_base k.newer)

      same_or_new : (one other : List ℕ) → IsEitherFile Spare (Open p.last []) one → IsJournalBehind (base_front p.newer_base) other k.current → HaveJournals base events one other × HaveJournals base events other one
      same_or_new one other (inl closed) is = either_way g p base events k k.current events one other k.whole (small g p base events k) (subst (λ (s : Bool). IsJournalFile one (file_of s base k.former)) (sym spare_is) closed) is
      same_or_new one other (inr opened) is =
          let all : IsJournalBehind (base_front base) other events = subst (λ (l : List Named). IsJournalBehind (base_front base) other l) all_current (subst (λ (n : ℕ). IsJournalBehind (base_front n) other k.current) at_base is) in
          let h = have false base p.last events [] events other one some k.ends (sym (append-nil events)) (small g p base events k) (small_base g p base events k, all) opened.1 in
          (swapped base events other one h, h)

      pub opening : (d : D) → LeavesOnly g (older p) d (IsEitherFile Spare (Open p.last [])) → EachImage g (first_of p) (if p.is_turned then newer p else d) (second_of p) (if p.is_turned then d else newer p) (HaveJournals base events)
      opening d leaves =
          in_order g p.is_turned (older p) d (newer p) (newer p) (IsEitherFile Spare (Open p.last [])) (λ image. IsJournalBehind (base_front p.newer_base) image k.current) (HaveJournals base events)
          leaves (newer_stays g p base events k) same_or_new

      opened : (d : D) → LeavesOnly g (older p) d (IsEitherFile Spare (Open p.last []))
          → EachImage g (first_of p) (if not p.is_turned then d else newer p) (second_of p) (if not p.is_turned then newer p else d) (HaveJournals base events)
      opened d leaves =
          in_turn g p.is_turned (older p) d (newer p) (newer p) (IsEitherFile Spare (Open p.last [])) (λ image. IsJournalBehind (base_front p.newer_base) image k.current) (HaveJournals base events)
          leaves (newer_stays g p base events k) same_or_new

      -- x and y are the two journals behind the turn, and o is the spare file, opened
      pub turned : (x y o : Journal D g) → x ≡ p.newer → y ≡ o → LeavesOnly g (older p) (disk_of o) (IsEitherFile Spare (Open p.last []))
          → EachImage g (first_of p) (if not p.is_turned then disk_of y else disk_of x) (second_of p) (if not p.is_turned then disk_of x else disk_of y) (HaveJournals base events)
      turned x y o is_x is_y leaves =
          subst (λ (j : Journal D g). EachImage g (first_of p) (if not p.is_turned then disk_of y else disk_of j) (second_of p) (if not p.is_turned then disk_of j else disk_of y) (HaveJournals base events)) (sym is_x)
          (subst (λ (j : Journal D g). EachImage g (first_of p) (if not p.is_turned then disk_of j else newer p) (second_of p) (if not p.is_turned then newer p else disk_of j) (HaveJournals base events)) (sym is_y)
          (opened (disk_of o) leaves))

    -- ---- the other file is closed

    pub kept_or_behind : (count : ℕ) → EachImage g (first_of p) (first_of p) (second_of p) (second_of p) (HaveAllOrBehind count base p.newer_base events)
    kept_or_behind count =
        weaker (first_of p) (first_of p) (second_of p) (second_of p) (HaveJournals base events) (HaveAllOrBehind count base p.newer_base events) (stays g p base events k) (λ one other h. inl h)

    module _ (count : ℕ) (due : not p.has_spare && nat_le p.newer_base count ≡ true) where
      open_is : p.has_spare ≡ false
      open_is = not_true p.has_spare (both_true (not p.has_spare) (nat_le p.newer_base count) due).0

      reached : p.newer_base ≤ count
      reached = let is = (both_true (not p.has_spare) (nat_le p.newer_base count) due).1 in grind arith

      pub keeps_former : KeepsBehind (base_front base) p.older k.former
      keeps_former = (subst (λ (s : Bool). KeepsFormer s p.older base k.former) open_is k.older).0

      pub left_behind : behind base p.newer_base events ≡ k.current
      left_behind =
          let place : length k.former ≡ p.newer_base - base = omega (arith, k.turned_at) in
          ap (λ (l : List Named). drop (p.newer_base - base) l) k.whole ∙ drop_at k.former k.current (p.newer_base - base) place

      lengths : length events ≡ length k.former + length k.current
      lengths = ap (λ (l : List Named). length l) k.whole ∙ length-append k.former k.current

      pub ends_behind : p.last ≡ p.newer_base + length (behind base p.newer_base events)
      ends_behind = omega (arith, k.ends, k.turned_at, lengths, ap (λ (l : List Named). length l) left_behind)

      all_or_behind : (one other : List ℕ) → IsEitherFile Spare (Open base k.former) one → IsJournalBehind (base_front p.newer_base) other k.current
          → HaveAllOrBehind count base p.newer_base events one other × HaveAllOrBehind count base p.newer_base events other one
      all_or_behind one other (inl closed) is =
          let fits : p.newer_base + length (behind base p.newer_base events) ≤ MAX_BASE = omega (arith, ends_behind, p.fits) in
          let h = have true p.newer_base p.newer_base [] k.current (behind base p.newer_base events) one other refl (omega arith) left_behind fits closed is in
          (inr (reached, h), inr (reached, swapped p.newer_base (behind base p.newer_base events) one other h))
      all_or_behind one other (inr kept) is =
          let h = either_way g p base events k k.current events one other k.whole (small g p base events k) (subst (λ (s : Bool). IsJournalFile one (file_of s base k.former)) (sym open_is) kept) is in
          (inl h.0, inl h.1)

      pub closing : (d : D) → LeavesOnly g (older p) d (IsEitherFile Spare (Open base k.former))
          → EachImage g (first_of p) (if p.is_turned then newer p else d) (second_of p) (if p.is_turned then d else newer p) (HaveAllOrBehind count base p.newer_base events)
      closing d leaves =
          in_order g p.is_turned (older p) d (newer p) (newer p) (IsEitherFile Spare (Open base k.former)) (λ image. IsJournalBehind (base_front p.newer_base) image k.current) (HaveAllOrBehind count base p.newer_base events)
          leaves (newer_stays g p base events k) all_or_behind
