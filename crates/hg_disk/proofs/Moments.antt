-- What a crash may leave over several calls.
use Rattle.std.proofs.Common.{◌≡◌, ◌⊎◌, inl, inr, ℕ, Result, Ok, Err, OnOk, OnErr, List, [], ◌∷◌, ◌++◌, refl, sym, ◌∙◌, ap, subst}
use Rattle.std.proofs.lemmas.List.{append_assoc, append_cancel_right}
use Rattle.hg_disk.specs.State.{DiskState, IsImage, SameImages, after_write, after_cut, after_sync}
use Rattle.hg_disk.specs.Kept.{image_of_write, image_of_cut}
use Rattle.hg_disk.specs.Moments.{EachLeaves, GoesOn, HasGone, IsAmong, Leaves, LeavesOnly, MayLeave, WereTrueBefore, history}
use Rattle.hg_disk.specs.declared.disk.Disk as disk

-- the images of a state with the same bytes at the sync and the same changes since
pub same_images : (s t : DiskState) (image : List ℕ) → SameImages s t → IsImage t image → IsImage s image
same_images s t image same is = record { clean = moved.clean; long = moved.long; kept = moved.kept }
  where
    unread : t ≡ record s { contents = t.contents }
    unread = λ i. record { contents = t.contents; synced = same.synced i; since = same.since i }

    moved : IsImage (record s { contents = t.contents }) image
    moved = subst (λ (u : DiskState). IsImage u image) unread is

-- what a call counts as, whether it answered Ok or failed
pub as_counted : {T E : Type 0} (result : Result T E) (s t : DiskState) → OnOk result (t ≡ s) → OnErr result (SameImages s t) → SameImages s t
as_counted (Ok value) s t ok err = record { synced = ap (λ (u : DiskState). u.synced) ok; since = ap (λ (u : DiskState). u.since) ok }
as_counted (Err error) s t ok err = err

-- what a sync that answered Ok leaves was an image before it
pub synced_image : (s t : DiskState) → IsImage s s.contents → t ≡ after_sync s → Leaves (IsImage s) t
synced_image s t bytes is image leaves =
    let settled : IsImage (after_sync s) image = subst (λ (u : DiskState). IsImage u image) is leaves in
    subst (IsImage s) (sym (settled.clean refl)) bytes

after_a_sync : {T E : Type 0} (result : Result T E) (s t : DiskState) → IsImage s s.contents → OnOk result (t ≡ after_sync s) → OnErr result (SameImages s t) → Leaves (IsImage s) t
after_a_sync (Ok value) s t bytes ok err = synced_image s t bytes ok
after_a_sync (Err error) s t bytes ok err = λ image. same_images s t image err

each-append : (P : List ℕ → Type 0) (later earlier : List DiskState) → EachLeaves P later → EachLeaves P earlier → EachLeaves P (later ++ earlier)
each-append P [] earlier new old = old
each-append P (s ∷ later) earlier new old = (new.0, each-append P later earlier new.1 old)

each_weaker : (P Q : List ℕ → Type 0) (states : List DiskState) → ((image : List ℕ) → P image → Q image) → EachLeaves P states → EachLeaves Q states
each_weaker P Q [] implies has = tt
each_weaker P Q (s ∷ earlier) implies has = (λ image is. implies image (has.0 image is), each_weaker P Q earlier implies has.1)

each_leaves : (P : List ℕ → Type 0) (states : List DiskState) (bytes : List ℕ) → EachLeaves P states → IsAmong states bytes → P bytes
each_leaves P [] bytes each among = absurd among
each_leaves P (s ∷ earlier) bytes each (inl is) = each.0 bytes is
each_leaves P (s ∷ earlier) bytes each (inr among) = each_leaves P earlier bytes each.1 among

newest : DiskState → List DiskState → DiskState
newest s [] = s
newest s (t ∷ earlier) = t

newest_leaves : (P : List ℕ → Type 0) (old : DiskState) (earlier later : List DiskState) → Leaves P old → EachLeaves P later → Leaves P (newest old (later ++ (old ∷ earlier)))
unfolding newest
newest_leaves P old earlier [] first each = first
newest_leaves P old earlier (s ∷ later) first each = each.0

module _ {D : Type 0} (g : disk.Ghosts D) where
  -- before the first call
  pub started : (d : D) (P : List ℕ → Type 0) → Leaves P (g.state d) → LeavesOnly g d d P
  started d P now = record { later = []; has_gone = refl; first = now; each = tt; kept = λ were. were }

  -- one call
  pub one_call : (old new : D) (P : List ℕ → Type 0) → g.past new ≡ (g.state old ∷ g.past old) → WereTrueBefore g old new → Leaves P (g.state old) → Leaves P (g.state new) → LeavesOnly g old new P
  one_call old new P clock kept before after = record {
    later = g.state new ∷ [];
    has_gone = ap (λ (past : List DiskState). g.state new ∷ past) clock;
    first = before;
    each = (after, tt);
    kept = kept;
  }

  -- two runs of calls, one after the other
  pub joined : (old mid new : D) (P : List ℕ → Type 0) → LeavesOnly g old mid P → LeavesOnly g mid new P → LeavesOnly g old new P
  joined old mid new P one two = record {
    later = two.later ++ one.later;
    has_gone = two.has_gone ∙ ap (λ (past : List DiskState). two.later ++ past) one.has_gone ∙ sym (append_assoc two.later one.later (history g old));
    first = one.first;
    each = each-append P two.later one.later two.each one.each;
    kept = λ were. one.kept (two.kept were);
  }

  pub weaker : (old new : D) (P Q : List ℕ → Type 0) → LeavesOnly g old new P → ((image : List ℕ) → P image → Q image) → LeavesOnly g old new Q
  weaker old new P Q has implies = record {
    later = has.later;
    has_gone = has.has_gone;
    first = λ image is. implies image (has.first image is);
    each = each_weaker P Q has.later implies has.each;
    kept = has.kept;
  }

  -- what a crash may leave after the last call
  pub at_end : (old new : D) (P : List ℕ → Type 0) → LeavesOnly g old new P → Leaves P (g.state new)
  unfolding newest
  at_end old new P has =
      let now : g.state new ≡ newest (g.state old) (has.later ++ history g old) = ap (newest (g.state old)) has.has_gone in
      subst (Leaves P) (sym now) (newest_leaves P (g.state old) (g.past old) has.later has.first has.each)

  -- a write: what it may leave torn
  pub write_leaves : {T E : Type 0} (old new : D) (at : ℕ) (bytes : List ℕ) (result : Result T E) → OnOk result (g.state new ≡ after_write at bytes (g.state old))
      → OnErr result (SameImages (after_write at bytes (g.state old)) (g.state new)) → g.past new ≡ (g.state old ∷ g.past old) → WereTrueBefore g old new → LeavesOnly g old new (IsImage (after_write at bytes (g.state old)))
  write_leaves old new at bytes result ok err clock kept =
      one_call old new (IsImage (after_write at bytes (g.state old))) clock kept (image_of_write at bytes (g.state old))
      (λ image. same_images (after_write at bytes (g.state old)) (g.state new) image (as_counted result _ _ ok err))

  -- a cut
  pub cut_leaves : {T E : Type 0} (old new : D) (to : ℕ) (result : Result T E) → OnOk result (g.state new ≡ after_cut to (g.state old))
      → OnErr result (SameImages (after_cut to (g.state old)) (g.state new)) → g.past new ≡ (g.state old ∷ g.past old) → WereTrueBefore g old new → LeavesOnly g old new (IsImage (after_cut to (g.state old)))
  cut_leaves old new to result ok err clock kept =
      one_call old new (IsImage (after_cut to (g.state old))) clock kept (image_of_cut to (g.state old))
      (λ image. same_images (after_cut to (g.state old)) (g.state new) image (as_counted result _ _ ok err))

  -- a sync: it adds no image
  pub sync_leaves : {T E : Type 0} (old new : D) (result : Result T E) → ((d : D) → IsImage (g.state d) (g.state d).contents) → OnOk result (g.state new ≡ after_sync (g.state old))
      → OnErr result (SameImages (g.state old) (g.state new)) → g.past new ≡ (g.state old ∷ g.past old) → WereTrueBefore g old new → LeavesOnly g old new (IsImage (g.state old))
  sync_leaves old new result has_its_bytes ok err clock kept =
      one_call old new (IsImage (g.state old)) clock kept (λ image is. is) (after_a_sync result (g.state old) (g.state new) (has_its_bytes old) ok err)

  -- a read
  pub read_leaves : (old new : D) → g.state new ≡ g.state old → g.past new ≡ (g.state old ∷ g.past old) → WereTrueBefore g old new → LeavesOnly g old new (IsImage (g.state old))
  read_leaves old new same clock kept = one_call old new (IsImage (g.state old)) clock kept (λ image is. is) (λ image is. subst (λ (s : DiskState). IsImage s image) same is)

  -- the states that a disk went through are settled by its clock
  gone_once : (old new : D) (first second : List DiskState) → HasGone g old new first → HasGone g old new second → first ≡ second
  gone_once old new first second a b = append_cancel_right first second (history g old) (sym a ∙ b)

  -- what each image meanwhile has
  pub may_leave : (old new : D) (P : List ℕ → Type 0) (bytes : List ℕ) → LeavesOnly g old new P → MayLeave g old new bytes → P bytes
  may_leave old new P bytes only may = leaves may.among where
    leaves : IsImage (g.state old) bytes ⊎ IsAmong may.later bytes → P bytes
    leaves (inl is) = only.first bytes is
    leaves (inr among) = each_leaves P only.later bytes only.each (subst (λ (states : List DiskState). IsAmong states bytes) (gone_once old new may.later only.later may.has_gone only.has_gone) among)

  -- a disk that was not called
  pub stays : (d : D) → GoesOn g d d
  stays d = ([], refl, λ were. were)

  pub still : (d : D) (bytes : List ℕ) → MayLeave g d d bytes → IsImage (g.state d) bytes
  still d bytes may = leaves may.among where
    leaves : IsImage (g.state d) bytes ⊎ IsAmong may.later bytes → IsImage (g.state d) bytes
    leaves (inl is) = is
    leaves (inr among) = absurd (subst (λ (states : List DiskState). IsAmong states bytes) (gone_once d d may.later [] may.has_gone refl) among)

  -- what is left at the end is left meanwhile
  pub left_at_end : (old new : D) (bytes : List ℕ) → GoesOn g old new → IsImage (g.state new) bytes → MayLeave g old new bytes
  left_at_end old new bytes ([], gone, kept) is =
      let same : g.state new ≡ g.state old = cc in
      record { later = []; has_gone = gone; among = inl (subst (λ (s : DiskState). IsImage s bytes) same is) }
  left_at_end old new bytes (s ∷ earlier, gone, kept) is =
      let same : g.state new ≡ s = cc in
      record { later = s ∷ earlier; has_gone = gone; among = inr (inl (subst (λ (t : DiskState). IsImage t bytes) same is)) }
