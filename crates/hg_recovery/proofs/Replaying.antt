-- How far the events of a pair were followed.
use Rattle.std.proofs.Common.{◌≡◌, inl, inr, false, Bool, true, IsTrue, ℕ, ◌+◌, ◌-◌, ◌≤◌, List, [], ◌∷◌, ◌++◌, length, drop, Some, None, if◌then◌else◌, OnOk, Result, Ok, Err, refl, sym, ap, ◌∙◌, subst, arith, append_assoc}
use Rattle.std.specs.Prelude.{IfErr}
use Rattle.std.specs.List.{AllByRecursion}
use Rattle.std.proofs.lemmas.Bool.{false≢true}
use Rattle.std.proofs.lemmas.List.Elements.{All-drop, All-from_recursion, recursion_from_All}
use Rattle.std.proofs.lemmas.List.{append-nil, drop_at, length-append}
use Rattle.std.specs.Option.{option_and_then}
use Rattle.hg_records.specs.Records.{RecordFits}
use Rattle.hg_model.specs.declared.event.Named.{Named}
use Rattle.hg_model.specs.declared.verdict.Refusal.{Refusal}
use Rattle.hg_model.specs.declared.verdict.Refusal.TheVariants as refusal
use Rattle.hg_model.specs.declared.verdict.Verdict.{Verdict}
use Rattle.hg_model.specs.declared.verdict.Verdict.TheVariants.{Accept, Duplicate, Refuse}
use Rattle.hg_model.specs.Contents.{Content}
use Rattle.hg_model.specs.Verdicts.{verdict, standing_of}
use Rattle.hg_model.specs.Change.{after, followed, is_accept}
use Rattle.hg_sets.specs.Interning.{Table}
use Rattle.hg_sets.specs.declared.fault.SetFault.TheVariants.{Full}
use Rattle.hg_detect.specs.Engine.{AtPresent, LacksRoom}
use Rattle.hg_detect.specs.Making.{Asks, AsksBy, sets_asked}
use Rattle.hg_detect.specs.Shown as detect
use Rattle.hg_cells.specs.Words as words
use Rattle.hg_disk.specs.declared.disk.Disk as disk
use Rattle.hg_gate.proofs.Walking.{at_most, read_again, unread}
use Rattle.hg_journal.specs.declared.journal.Journal.{Journal}
use Rattle.hg_journals.specs.Collecting.{HasOutside}
use Rattle.hg_journals.specs.Journals.{behind}
use Rattle.hg_journals.specs.Pairs.{Keeps, KeepsFormer, first_of, second_of}
use Rattle.hg_journals.specs.Reading.{IsAt, Reads}
use Rattle.hg_journals.specs.declared.pair.JournalPair.{JournalPair}
use Rattle.hg_journals.specs.declared.reader.PairReader.{PairReader}
use Rattle.hg_journals.proofs.Walking.{front_read, still_same}
use Rattle.hg_pool.specs.Answers.{IsFull, IsTrueCause}
use Rattle.hg_pool.specs.Kept.{BreaksByFailure, IsFaithful}
use Rattle.hg_pool.specs.Maps.{is_broken, live}
use Rattle.hg_pool.specs.Maps as pools
use Rattle.hg_pool.specs.OfWords.{ReadsTrue}
use Rattle.hg_pool.specs.Shown as pool
use Rattle.hg_contents.specs.States.{IsLawfulState}
use Rattle.hg_contents.proofs.Following.{followed_append, followed_events}
use Rattle.hg_contents.proofs.lawful.Sharing.{live_known}
use Rattle.hg_contents.proofs.lawful.Staying.{followed_stay, one_stays}
use Rattle.hg_images.specs.Images.{LeadFrom}
use Rattle.hg_recovery.specs.Answers.{IsOfRecovery, WorksOrFault}
use Rattle.hg_recovery.specs.Filling.{Fills, HasSets, IsAccepted, IsTooSmall}
use Rattle.hg_recovery.specs.Detectors.{IsReady}
use Rattle.hg_recovery.specs.Replaying.{CallEach, PairWasRead}
use Rattle.hg_recovery.proofs.Filling.{fills_spelled}
use Rattle.hg_recovery.proofs.Telling.{none_more}

-- an accepted event leads to what is after it
pub followed_one : (c : Content) (n : Named) → IsAccepted c n → followed c (n ∷ []) ≡ Some (after c n)
followed_one c n accepted = ap (λ (v : Verdict). option_and_then (λ (d : Content). Some d) (if is_accept v then Some (after c n) else None)) accepted

one_by : (c d : Content) (n : Named) (rest : List Named) (v : Verdict) → option_and_then (λ (e : Content). followed e rest) (if is_accept v then Some (after c n) else None) ≡ Some d → v ≡ Accept
one_by c d n rest Accept is = refl
one_by c d n rest (Duplicate last) is = absurd (cc)
one_by c d n rest (Refuse r) is = absurd (cc)

-- the first of events that lead on is accepted
pub first_accepted : (c d : Content) (n : Named) (rest : List Named) → followed c (n ∷ rest) ≡ Some d → IsAccepted c n
first_accepted c d n rest is = one_by c d n rest (verdict (standing_of c) n) is

fills_more : (seen : List Named) (c : Content) (t : Table) (d : Content) (u : Table) (n : Named) (v : Table) → Fills seen c t d u → IsAccepted d n → Asks u (sets_asked d n.event) None v → Fills (seen ++ n ∷ []) c t (after d n) v
fills_more [] c t d u n v (same, filled) accepted asks =
    subst (λ (e : Content). Fills (n ∷ []) e t (after d n) v) same
    (subst (λ (x : Table). Fills (n ∷ []) d x (after d n) v) filled (accepted, v, asks, (refl, refl)))
fills_more (x ∷ seen) c t d u n v (first, mid, asked, rest) accepted asks = (first, mid, asked, fills_more seen (after c x) mid d u n v rest accepted asks)

-- one more event
pub counted : (c d : Content) (n : Named) (start i : ℕ) → c.events ≡ start + i → IsAccepted c n → d ≡ after c n → d.events ≡ start + (i + 1)
counted c d n start i count accepted is =
    let one = followed_events (n ∷ []) c (after c n) (followed_one c n accepted) in
    let same = ap (λ (e : Content). e.events) is in
    omega (arith, count, one, same)

pub on_ok : {T E P Q : Type 0} (result : Result T E) → (P → Q) → OnOk result P → OnOk result Q
on_ok (Ok value) from holds = from holds
on_ok (Err error) from holds = tt

-- behind those that were counted
pub behind_seen : (seen rest : List Named) (n : ℕ) → length seen ≡ n → drop n (seen ++ rest) ≡ rest
behind_seen seen rest n is = drop_at seen rest n is

-- those of a journal behind some have records too
pub fits_behind : (n : ℕ) (events : List Named) → AllByRecursion RecordFits events → AllByRecursion RecordFits (drop n events)
fits_behind n events fits = recursion_from_All RecordFits (drop n events) (All-drop RecordFits n events (All-from_recursion RecordFits events fits))

-- and so has the one at their head
fits_first : (front rest : List Named) (n : Named) → AllByRecursion RecordFits (front ++ n ∷ rest) → RecordFits n
fits_first front rest n fits =
    let last = fits_behind (length front) (front ++ n ∷ rest) fits in
    (subst (λ (l : List Named). AllByRecursion RecordFits l) (behind_seen front (n ∷ rest) (length front) refl) last).0

fits_both : (xs ys : List Named) → AllByRecursion RecordFits xs → AllByRecursion RecordFits ys → AllByRecursion RecordFits (xs ++ ys)
fits_both [] ys first second = second
fits_both (x ∷ xs) ys first second = (first.0, fits_both xs ys first.1 second)

module _ {D : Type 0} (g : disk.Ghosts D) where
  fits_former : (spare : Bool) (j : Journal D g) (base : ℕ) (former : List Named) → KeepsFormer spare j base former → AllByRecursion RecordFits former
  fits_former true j base former k = subst (λ (l : List Named). AllByRecursion RecordFits l) (sym k.1) tt
  fits_former false j base former k = k.0.fits

  -- the events that a pair keeps have records
  pub kept_fit : (p : JournalPair D g) (base : ℕ) (events : List Named) → Keeps p base events → AllByRecursion RecordFits events
  kept_fit p base events k =
      subst (λ (l : List Named). AllByRecursion RecordFits l) (sym k.whole) (fits_both k.former k.current (fits_former p.has_spare p.older base k.former k.older) k.newer.fits)

  -- ---- how the files were called

  pub unread_pair : (p : JournalPair D g) → PairWasRead 0 p p
  unread_pair p = record {
    same = record { base = refl; newer_base = refl; last = refl; spare = refl; turn = refl; broken = refl };
    first = unread g 0 (first_of p);
    second = unread g 0 (second_of p);
  }

  pub was_read : {T : Type 0} (n most : ℕ) (p q : JournalPair D g) (result : Result T Refusal) → n ≤ most → Reads n p q result → PairWasRead most p q
  was_read n most p q result few h = record {
    same = h.same;
    first = at_most g n most (first_of p) (first_of q) few h.first;
    second = at_most g n most (second_of p) (second_of q) few h.second;
  }

  pub read_on : (n m most : ℕ) (p q r : JournalPair D g) → n + m ≤ most → PairWasRead n p q → PairWasRead m q r → PairWasRead most p r
  read_on n m most p q r few one two = record {
    same = still_same g p q r one.same two.same;
    first = read_again g n m most (first_of p) (first_of q) (first_of r) few one.first two.first;
    second = read_again g n m most (second_of p) (second_of q) (second_of r) few one.second two.second;
  }

  pub called : (n most : ℕ) (p q : JournalPair D g) → n ≤ most → PairWasRead n p q → CallEach most p q
  called n most p q few h = (omega (arith, few, h.first.calls), omega (arith, few, h.second.calls))

  pub call_on : (n m most : ℕ) (p q r : JournalPair D g) → n + m ≤ most → CallEach n p q → CallEach m q r → CallEach most p r
  call_on n m most p q r few one two = (omega (arith, few, one.0, two.0), omega (arith, few, one.1, two.1))

  pub no_call : (most : ℕ) (p q : JournalPair D g) → q ≡ p → CallEach most p q
  no_call most p q same = subst (λ (r : JournalPair D g). CallEach most p r) (sym same) (omega arith, omega arith)

  -- ---- how far they were followed

  abbrev pub content_in : detect.ShownDetector (pool.ShownPool D) → Content
  content_in d = detect.content (live g) d

  -- The detector followed the events that were read behind those that it counted.
  pub record HasFollowed (p : JournalPair D g) (r : PairReader) (seen : List Named) (first now : detect.ShownDetector (pool.ShownPool D)) : Type 0 where
    pub since : List Named
    pub at : IsAt p r (seen ++ since)
    pub gives : followed (content_in first) since ≡ Some (content_in now)
    pub fills : Fills since (content_in first) first.sets (content_in now) now.sets
    pub faithful : AtPresent (IsFaithful g) now
    pub lawful : IsLawfulState (content_in first) → IsLawfulState (content_in now)

  pub read_none : (p : JournalPair D g) (r : PairReader) (seen : List Named) (d : detect.ShownDetector (pool.ShownPool D)) → IsAt p r seen → AtPresent (IsFaithful g) d → HasFollowed p r seen d d
  read_none p r seen d at faithful = record {
    since = [];
    at = subst (λ (events : List Named). IsAt p r events) (sym (append-nil seen)) at;
    gives = refl;
    fills = (refl, refl);
    faithful = faithful;
    lawful = λ is. is;
  }

  -- so many were followed, and no more are kept behind those that it counted
  pub no_more_than : (p : JournalPair D g) (r : PairReader) (seen : List Named) (first now : detect.ShownDetector (pool.ShownPool D)) → (read : HasFollowed p r seen first now) → (base : ℕ) (events : List Named) → Keeps p base events → (n : ℕ)
      → (content_in now).events ≡ (content_in first).events + n → n ≤ length events - length seen
  no_more_than p r seen first now read base events k n count =
      let left = front_read g p base events k r.in_newer r.reader (seen ++ read.since) read.at in
      let since = followed_events read.since (content_in first) (content_in now) read.gives in
      omega (arith, count, since, ap (λ (l : List Named). length l) left.1, length-append (seen ++ read.since) left.0, length-append seen read.since)

  -- one more event was read
  module _ (old : JournalPair D g) (r : PairReader) (seen : List Named) (first was : detect.ShownDetector (pool.ShownPool D)) (read : HasFollowed old r seen first was) (new : JournalPair D g) (s : PairReader) (base : ℕ) (events : List Named)
      (k : Keeps new base events) (n : Named) (at : IsAt new s ((seen ++ read.since) ++ n ∷ [])) where
    begins : (rest : List Named) × (events ≡ (seen ++ read.since) ++ n ∷ rest)
    begins =
        let left = front_read g new base events k s.in_newer s.reader ((seen ++ read.since) ++ n ∷ []) at in
        (left.0, left.1 ∙ append_assoc (seen ++ read.since) (n ∷ []) left.0)

    pub read_more : (now : detect.ShownDetector (pool.ShownPool D)) → IsAccepted (content_in was) n → content_in now ≡ after (content_in was) n → Asks was.sets (sets_asked (content_in was) n.event) None now.sets → AtPresent (IsFaithful g) now
        → HasFollowed new s seen first now
    read_more now accepted is asks faithful = record {
      since = read.since ++ n ∷ [];
      at = subst (λ (events : List Named). IsAt new s events) (append_assoc seen read.since (n ∷ [])) at;
      gives = followed_append read.since (n ∷ []) (content_in first) (content_in was) read.gives ∙ followed_one (content_in was) n accepted ∙ ap (λ (c : Content). Some c) (sym is);
      fills = subst (λ (c : Content). Fills (read.since ++ n ∷ []) (content_in first) first.sets c now.sets) (sym is)
          (fills_more read.since (content_in first) first.sets (content_in was) was.sets n now.sets read.fills accepted asks);
      faithful = faithful;
      lawful = λ was_lawful.
          let fits : AllByRecursion RecordFits ((seen ++ read.since) ++ n ∷ begins.0) = subst (λ (l : List Named). AllByRecursion RecordFits l) begins.1 (kept_fit new base events k) in
          subst IsLawfulState (sym is) (one_stays (content_in was) n (read.lawful was_lawful) (fits_first (seen ++ read.since) begins.0 n fits) accepted);
    }

    module _ (count : base + length seen ≡ (content_in first).events) where
      left_is : behind base (content_in first).events events ≡ read.since ++ n ∷ begins.0
      left_is =
          ap (λ (l : List Named). behind base (content_in first).events l) (begins.1 ∙ append_assoc seen read.since (n ∷ begins.0))
          ∙ behind_seen seen (read.since ++ n ∷ begins.0) ((content_in first).events - base) (omega (arith, count))

      -- an event that is not accepted
      pub no_content : ¬ IsAccepted (content_in was) n → (c : Content) → ¬ LeadFrom (content_in first) base events c
      no_content refused c lead =
          let from : followed (content_in was) (n ∷ begins.0) ≡ Some c =
          sym (followed_append read.since (n ∷ begins.0) (content_in first) (content_in was) read.gives) ∙ ap (λ (es : List Named). followed (content_in first) es) (sym left_is) ∙ lead.leads in
          refused (first_accepted (content_in was) c n begins.0 from)

      -- a table that has no room
      pub too_small : (left : Table) → IsAccepted (content_in was) n → Asks was.sets (sets_asked (content_in was) n.event) (Some Full) left → IsTooSmall (content_in first) first.sets base events
      too_small left accepted full = record {
        front = read.since;
        next = n;
        rest = begins.0;
        begins = left_is;
        c = content_in was;
        table = was.sets;
        fills = read.fills;
        accepted = accepted;
        left = left;
        full = full;
      }

  -- a detector that followed all of them can go on
  pub now_ready : (p : JournalPair D g) (base : ℕ) (events : List Named) → Keeps p base events → (old new : detect.ShownDetector (pool.ShownPool D)) → LeadFrom (content_in old) base events (content_in new)
      → HasSets (content_in old) old.sets base events (content_in new) new.sets → AtPresent (IsFaithful g) new → IsReady g old → IsReady g new
  now_ready p base events k old new lead fills faithful ready =
      let fits : AllByRecursion RecordFits (behind base (content_in old).events events) = fits_behind ((content_in old).events - base) events (kept_fit p base events k) in
      record {
        faithful = faithful;
        state = followed_stay (content_in old) (content_in new) (behind base (content_in old).events events) ready.state fits lead.leads;
        spelled = fills_spelled (behind base (content_in old).events events) (content_in old) old.sets (content_in new) new.sets ready.state fits ready.spelled fills;
      }

  -- a count that has no place among the events
  pub no_lead : (p : JournalPair D g) (base : ℕ) (events : List Named) → Keeps p base events → (start c : Content) → HasOutside start.events p → ¬ LeadFrom start base events c
  no_lead p base events k start c (inl less) lead = omega (arith, less, k.begins, lead.reaches)
  no_lead p base events k start c (inr more) lead = omega (arith, more, k.ends, lead.enough)

-- the events behind those that were read
pub rest_is : (base next : ℕ) (seen more events : List Named) → base + length seen ≡ next → seen ++ more ≡ events → behind base next events ≡ more
rest_is base next seen more events count whole =
    ap (λ (l : List Named). behind base next l) (sym whole) ∙ behind_seen seen more (next - base) (omega (arith, count))

-- all of them were followed
pub all_led : (base : ℕ) (seen more events : List Named) (start last : Content) → base + length seen ≡ start.events → seen ++ more ≡ events → followed start more ≡ Some last → LeadFrom start base events last
all_led base seen more events start last count whole gives = record {
  reaches = omega (arith, count);
  enough = omega (arith, count, length-append seen more, ap (λ (l : List Named). length l) whole);
  leads = ap (λ (l : List Named). followed start l) (rest_is base start.events seen more events count whole) ∙ gives;
}

-- those that were passed over, and those that are left
pub few_then : (base : ℕ) (seen left events : List Named) (next : ℕ) → base + length seen ≡ next → events ≡ seen ++ left → (next - base) + ((length events - length seen) + 1) ≤ length events + 1
few_then base seen left events next count whole = omega (arith, count, ap (λ (l : List Named). length l) whole, length-append seen left)

-- the table of sets behind an event that was accepted, and behind one that it had no room for
pub asked_on_ok : (result : Result (Unit {0}) Refusal) (t u : Table) (sets : List (List ℕ)) → AsksBy t sets result u → OnOk result (Asks t sets None u)
asked_on_ok (Ok value) t u sets asks = asks
asked_on_ok (Err r) t u sets asks = tt

pub asked_in_vain : (result : Result (Unit {0}) Refusal) (t u : Table) (sets : List (List ℕ)) → AsksBy t sets result u → result ≡ Err refusal.FullSets → Asks t sets (Some Full) u
asked_in_vain result t u sets asks told = subst (λ (r : Result (Unit {0}) Refusal). AsksBy t sets r u) told asks

pub told_of : (P : Refusal → Type 0) (result : Result (Unit {0}) Refusal) (r : Refusal) → IfErr result P → result ≡ Err r → P r
told_of P result r holds told = subst (λ (x : Result (Unit {0}) Refusal). IfErr x P) told holds

of_pool : {D : Type 0} (p : pool.ShownPool D) (r : Refusal) → (r ≡ refusal.Broken → ⊥) → IsTrueCause p r → IsOfRecovery r
of_pool p refusal.Damaged works cause = inl refl
of_pool p refusal.FullSlots works cause = inr (inr (inl refl))
of_pool p refusal.DeviceFault works cause = inr (inr (inr (inl refl)))
of_pool p refusal.OutOfMemory works cause = inr (inr (inr (inr refl)))
of_pool p refusal.Broken works cause = absurd (works refl)
of_pool p _ works cause = absurd cause

module _ {D : Type 0} (g : disk.Ghosts D) where
  -- a pool at which no call failed works as before
  works_still : (old new : pool.ShownPool D) → BreaksByFailure g old new → is_broken old ≡ false → g.failures (pools.disk_of new) ≡ g.failures (pools.disk_of old) → is_broken new ≡ false
  works_still old new (more, inl is) works same = is ∙ works
  works_still old new (more, inr less) works same = absurd (omega (arith, less, same))

  pub works_or_fault : (old new : pool.ShownPool D) (result : Result (Unit {0}) Refusal) → BreaksByFailure g old new → is_broken old ≡ false
      → g.failures (pools.disk_of new) ≡ words.failed_after result (g.failures (pools.disk_of old)) → WorksOrFault result new
  works_or_fault old new result breaks works count other = works_still old new breaks works (count ∙ none_more result (g.failures (pools.disk_of old)) other)

  -- a pool that works tells no other refusal
  pub of_following : (p : pool.ShownPool D) (result : Result (Unit {0}) Refusal) → IfErr result (LacksRoom (IsTrueCause p)) → WorksOrFault result p → IfErr result IsOfRecovery
  of_following p (Ok value) cause works = tt
  of_following p (Err r) (inl sets) works = inr (inl sets)
  of_following p (Err r) (inr (inl memory)) works = inr (inr (inr (inr memory)))
  of_following p (Err r) (inr (inr cause)) works =
      of_pool p r (λ broken. is_not_broken (works (λ told. absurd (cc (sym told ∙ ap (λ (x : Refusal). Err x) broken)))) (subst (λ (x : Refusal). IsTrueCause p x) broken cause)) cause
    where
      is_not_broken : is_broken p ≡ false → IsTrue (is_broken p) → ⊥
      is_not_broken works_now breaks_now = false≢true (sym works_now ∙ breaks_now)

  pub full_of : (p : pool.ShownPool D) → LacksRoom (IsTrueCause p) refusal.FullSlots → IsFull p
  full_of p (inl sets) = absurd (cc sets)
  full_of p (inr (inl memory)) = absurd (cc memory)
  full_of p (inr (inr full)) = full

  -- the words of a lawful state can be read back
  pub reads_true : (d : detect.ShownDetector (pool.ShownPool D)) → AtPresent (IsFaithful g) d → IsLawfulState (content_in g d) → ReadsTrue g d.words (length d.segments) d.sets.sets
  reads_true d faithful state =
      (faithful.whole, λ w. live_known (content_in g d) (length d.segments) d.sets.sets (live g d.words w) w state refl (faithful.within w))
