-- The content of an image, by what its journals keep and by its newest checkpoint.
use Rattle.std.proofs.Common.{◌≡◌, ◌∙◌, inl, inr, ◌≤◌, ℕ, List, Option, Some, sym, ap, subst, arith}
use Rattle.hg_model.specs.declared.event.Named.{Named}
use Rattle.hg_model.specs.Contents.{Content}
use Rattle.hg_model.specs.Change.{followed}
use Rattle.hg_journals.specs.Journals.{HaveJournals, behind}
use Rattle.hg_journals.proofs.Keeping.{once}
use Rattle.hg_root.specs.Checkpoints.{Checkpoint, root_of}
use Rattle.hg_root.proofs.Choosing.{one_newest}
use Rattle.hg_contents.specs.Images.{start_of}
use Rattle.hg_contents.proofs.Contents.{one_start}
use Rattle.hg_images.specs.Images.{Gives, HasContent, HasJournals, HasNewest, Image, count_of, with_journals}
use Rattle.hg_images.specs.Laws.{BasesAboveTheRootHaveNoContent, ContentIsUnique, ContentsCountTheirEvents, GivingUpKeepsContent, HasShortRoots, TurnsChangeNothing}
use Rattle.hg_images.proofs.Following.{counted}
use Rattle.hg_images.proofs.GivingUp.{as_before, given_up}

some_is : (c d : Content) → Some c ≡ Some d → c ≡ d
some_is c d is = cc

-- what the journals keep, and the image's own checkpoint, give its content
pub gives_over : (image : Image) (c : Content) (base : ℕ) (events : List Named) → (has : HasContent image c) → HasJournals base events image → Gives has.checkpoint base events c
gives_over image c base events has keeps =
    let same = once image.journal0 image.journal1 has.base base has.events events has.journals keeps in
    subst (λ (es : List Named). Gives has.checkpoint base es c) same.1 (subst (λ (n : ℕ). Gives has.checkpoint n has.events c) same.0 has.gives)

-- its checkpoint has the content of the newest one
one_begin : (image : Image) (checkpoint other : Option Checkpoint) → HasShortRoots image → HasNewest checkpoint image → HasNewest other image → start_of checkpoint ≡ start_of other
one_begin image checkpoint other short a b =
    one_start checkpoint other image.slots (one_newest (root_of checkpoint) a.former (root_of other) b.former image.root0 image.root1 short.0 short.1 a.newest b.newest) a.stand.0 b.stand.0

one_count : (image : Image) (checkpoint other : Option Checkpoint) → HasShortRoots image → HasNewest checkpoint image → HasNewest other image → count_of checkpoint ≡ count_of other
one_count image checkpoint other short a b = ap (λ (c : Content). c.events) (one_begin image checkpoint other short a b)

pub content_is_unique : ContentIsUnique
content_is_unique image c d short a b =
    let start = one_begin image a.checkpoint b.checkpoint short a.stands b.stands in
    let gives = gives_over image c b.base b.events a b.journals in
    some_is c d (sym gives.leads ∙ ap (λ (s : Content). followed s (behind b.base s.events b.events)) start ∙ b.gives.leads)

pub count_their_events : ContentsCountTheirEvents
count_their_events image base events c keeps has = counted (start_of has.checkpoint) c base events (gives_over image c base events has keeps)

pub none_above : BasesAboveTheRootHaveNoContent
none_above image checkpoint base events short newest keeps above c has =
    omega (arith, above, (gives_over image c base events has keeps).reaches, one_count image checkpoint has.checkpoint short newest has.stands)

-- ---- other journals

over : (image : Image) (c : Content) (one other : List ℕ) (base : ℕ) (events : List Named) → (has : HasContent image c) → HaveJournals base events one other → Gives has.checkpoint base events c
    → HasContent (with_journals image one other) c
over image c one other base events has keep gives = record { checkpoint = has.checkpoint; stands = has.stands; base = base; events = events; journals = keep; gives = gives }

turned_to : (image : Image) (c : Content) (one other : List ℕ) (base : ℕ) (events : List Named) → HasJournals base events image → HaveJournals base events one other → HasContent image c
    → HasContent (with_journals image one other) c
turned_to image c one other base events before after has = over image c one other base events has after (gives_over image c base events has before)

pub turned : TurnsChangeNothing
turned image one other base events before after c = (
  turned_to image c one other base events before after,
  turned_to (with_journals image one other) c image.journal0 image.journal1 base events after before,
)

pub keeps_content : GivingUpKeepsContent
keeps_content image one other checkpoint base next events short newest keeps number (inl all) c = turned image one other base events keeps all c
keeps_content image one other checkpoint base next events short newest keeps number (inr (le, rest)) c = (forth, back) where
  forth : HasContent image c → HasContent (with_journals image one other) c
  forth has =
      let counts : next ≤ count_of has.checkpoint = omega (arith, le, one_count image checkpoint has.checkpoint short newest has.stands) in
      over image c one other next (behind base next events) has rest
      (given_up (start_of has.checkpoint) c base next events number.0 counts (gives_over image c base events has keeps))

  back : HasContent (with_journals image one other) c → HasContent image c
  back has =
      let changed = with_journals image one other in
      let counts : next ≤ count_of has.checkpoint = omega (arith, le, one_count image checkpoint has.checkpoint short newest has.stands) in
      over changed c image.journal0 image.journal1 base events has keeps
      (as_before (start_of has.checkpoint) c base next events number.0 counts number.1 (gives_over changed c next (behind base next events) has rest))
