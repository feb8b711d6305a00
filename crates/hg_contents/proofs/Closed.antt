-- Images whose two roots are closed.
use Rattle.std.proofs.Common.{◌≡◌, inl, ⊎_elim, ℕ, List, Option, Some, None, get_or, refl, ap, subst, arith}
use Rattle.hg_model.specs.declared.event.Named.{Named}
use Rattle.hg_model.specs.Contents.{Content}
use Rattle.hg_gate.specs.Batches.{IsClosed}
use Rattle.hg_gate.proofs.Opening.{not_closed}
use Rattle.hg_journal.specs.Journal.{IsJournal}
use Rattle.hg_root.specs.Checkpoints.{Checkpoint, root_of}
use Rattle.hg_root.specs.Newest.{IsNewest, IsRootFile}
use Rattle.hg_root.specs.Parts.{Parts}
use Rattle.hg_contents.specs.Images.{Gives, Image}
use Rattle.hg_contents.specs.Laws.{ClosedRootsAreAsBefore, HasEventsAlone}

-- a closed file has no root
no_root : (bytes : List ℕ) (root : Option Parts) → IsClosed bytes → IsRootFile bytes root → root ≡ None
no_root bytes None closed has = refl
no_root bytes (Some p) closed has = absurd (not_closed bytes (ap (λ (l : List ℕ). get_or l 0 0) has.1.spelling) closed)

no_newest : (root former : Option Parts) (one other : List ℕ) → IsClosed one → IsClosed other → IsNewest root former one other → root ≡ None
no_newest root former one other closed other_closed is = ⊎_elim (λ h. no_root other root other_closed h.1) (λ h. no_root one root closed h.0) is.either

no_checkpoint : (c : Option Checkpoint) → root_of c ≡ None → c ≡ None
no_checkpoint None is = refl
no_checkpoint (Some c) is = absurd cc

without : (image : Image) (c : Content) (checkpoint : Option Checkpoint) (events : List Named) → checkpoint ≡ None → IsJournal image.journal events → Gives checkpoint events c → HasEventsAlone image c
without image c checkpoint events none journal gives =
    let none_gives : Gives None events c = subst (λ (x : Option Checkpoint). Gives x events c) none gives in
    (events, journal, none_gives.leads)

pub closed : ClosedRootsAreAsBefore
closed image c one other = (
  λ has.
      let none = no_checkpoint has.checkpoint (no_newest (root_of has.checkpoint) has.stands.former image.root0 image.root1 one other has.stands.newest) in
      without image c has.checkpoint has.events none has.journal has.gives,
  λ alone. record {
    checkpoint = None;
    stands = record {
      former = None;
      newest = record { lesser = None; among = tt; below = tt; either = inl (one, other) };
      stand = (tt, tt);
    };
    events = alone.0;
    journal = alone.1;
    gives = record { enough = omega arith; leads = alone.2 };
  },
)
