-- Images whose two roots are closed.
use Rattle.std.proofs.Common.{◌≡◌, inl, ⊎_elim, ℕ, List, Option, Some, None, get_or, refl, ap, subst, arith}
use Rattle.hg_model.specs.declared.event.Named.{Named}
use Rattle.hg_model.specs.Contents.{Content}
use Rattle.hg_gate.specs.Batches.{IsClosed}
use Rattle.hg_gate.proofs.Opening.{not_closed}
use Rattle.hg_root.specs.Checkpoints.{Checkpoint, root_of}
use Rattle.hg_root.specs.Newest.{IsNewest, IsRootFile}
use Rattle.hg_root.specs.Parts.{Parts}
use Rattle.hg_images.specs.Images.{Gives, HasContent, HasJournals, HasNewest, Image}
use Rattle.hg_images.specs.Laws.{ClosedRootsAreAsBefore, ClosedRootsNeedAllEvents, HasClosedRoots, HasEventsAlone}
use Rattle.hg_images.proofs.Contents.{gives_over}

-- a closed file has no root
no_root : (bytes : List ℕ) (root : Option Parts) → IsClosed bytes → IsRootFile bytes root → root ≡ None
no_root bytes None closed has = refl
no_root bytes (Some p) closed has = absurd (not_closed bytes (ap (λ (l : List ℕ). get_or l 0 0) has.1.spelling) closed)

no_newest : (root former : Option Parts) (one other : List ℕ) → IsClosed one → IsClosed other → IsNewest root former one other → root ≡ None
no_newest root former one other closed other_closed is = ⊎_elim (λ h. no_root other root other_closed h.1) (λ h. no_root one root closed h.0) is.either

no_checkpoint : (c : Option Checkpoint) → root_of c ≡ None → c ≡ None
no_checkpoint None is = refl
no_checkpoint (Some c) is = absurd cc

none_open : (image : Image) (checkpoint : Option Checkpoint) → HasClosedRoots image → HasNewest checkpoint image → checkpoint ≡ None
none_open image checkpoint closed newest = no_checkpoint checkpoint (no_newest (root_of checkpoint) newest.former image.root0 image.root1 closed.0 closed.1 newest.newest)

-- the journals alone give the content
alone : (image : Image) (c : Content) (base : ℕ) (events : List Named) → HasClosedRoots image → HasJournals base events image → HasContent image c → Gives None base events c
alone image c base events closed keeps has =
    subst (λ (x : Option Checkpoint). Gives x base events c) (none_open image has.checkpoint closed has.stands) (gives_over image c base events has keeps)

pub no_base : ClosedRootsNeedAllEvents
no_base image base events closed keeps some c has = omega (arith, some, (alone image c base events closed keeps has).reaches)

pub closed_newest : (image : Image) → HasClosedRoots image → HasNewest None image
closed_newest image closed = record {
  former = None;
  newest = record { lesser = None; among = tt; below = tt; either = inl (closed.0, closed.1) };
  stand = (tt, tt);
}

pub as_before : ClosedRootsAreAsBefore
as_before image c closed = (forth, back) where
  forth : HasContent image c → HasEventsAlone image c
  forth has =
      let gives = alone image c has.base has.events closed has.journals has in
      let first : has.base ≡ 0 = omega (arith, gives.reaches) in
      let keeps : HasJournals 0 has.events image = subst (λ (n : ℕ). HasJournals n has.events image) first has.journals in
      (has.events, keeps, (alone image c 0 has.events closed keeps has).leads)

  back : HasEventsAlone image c → HasContent image c
  back (events, keeps, leads) = record {
    checkpoint = None;
    stands = closed_newest image closed;
    base = 0;
    events = events;
    journals = keeps;
    gives = record { reaches = omega arith; enough = omega arith; leads = leads };
  }
