-- One image of each kind of device makes an image of all.
use Rattle.std.proofs.Common.{◌≡◌, inl, inr, ⊎_elim, ◌≤◌, ℕ, List, ◌++◌, Bool, Some}
use Rattle.hg_model.specs.declared.event.Named.{Named}
use Rattle.hg_model.specs.Contents.{Content}
use Rattle.hg_model.specs.Change.{followed}
use Rattle.hg_journals.specs.Journals.{HaveJournals, behind}
use Rattle.hg_contents.specs.Choices.{Choice, HasRoots, HasSlots}
use Rattle.hg_contents.specs.Images.{start_of}
use Rattle.hg_images.specs.Images.{Gives, HasContent, Image, count_of}
use Rattle.hg_images.specs.Choices.{Basis, HaveEvents, JointImages, Stands}
use Rattle.hg_images.specs.Stores.{FactsBack}
use Rattle.hg_images.proofs.Following.{lead_on}
use Rattle.hg_images.proofs.GivingUp.{given_up}

module _ (image : Image) (choice : Choice) (roots : HasRoots choice image.root0 image.root1) (slots : HasSlots choice image.slots) where
  one_choice : (base : ℕ) (events : List Named) (c : Content) → HaveJournals base events image.journal0 image.journal1 → Gives choice.checkpoint base events c → HasContent image c
  one_choice base events c journals gives = record {
    checkpoint = choice.checkpoint;
    stands = record { former = choice.former; newest = roots; stand = slots };
    base = base;
    events = events;
    journals = journals;
    gives = gives;
  }

  with_choice : (basis : Basis) (pending : List Named) (in_doubt : Bool) (d live : Content) → Gives choice.checkpoint basis.base basis.events d → basis.base ≤ basis.next_base
      → basis.next_base ≤ count_of choice.checkpoint → HaveEvents basis pending in_doubt image.journal0 image.journal1 → followed d pending ≡ Some live → Stands d live in_doubt image
  with_choice basis pending in_doubt d live gives order counted (inl (inl all)) leads = inl (one_choice basis.base basis.events d all gives)
  with_choice basis pending in_doubt d live gives order counted (inl (inr rest)) leads =
      inl (one_choice basis.next_base (behind basis.base basis.next_base basis.events) d rest (given_up (start_of choice.checkpoint) d basis.base basis.next_base basis.events order counted gives))
  with_choice basis pending in_doubt d live gives order counted (inr doubt) leads =
      inr (doubt.0, one_choice basis.base (basis.events ++ pending) live doubt.1 (lead_on (start_of choice.checkpoint) d basis.base basis.events gives pending live leads))

pub joint_images : JointImages
joint_images basis pending in_doubt durable live image gives leads parts =
    ⊎_elim
    (λ is. with_choice image basis.now is parts.slots.0 basis pending in_doubt durable live gives.now gives.order gives.counted_now parts.journals leads)
    (λ is. with_choice image basis.next is parts.slots.1 basis pending in_doubt durable live gives.next gives.order gives.counted_next parts.journals leads)
    parts.roots

pub facts_back : FactsBack
facts_back basis s d keeps = record {
  live = keeps.live;
  count = keeps.count;
  stands = λ image left. joint_images basis s.pending s.in_doubt d s.live image keeps.gives keeps.live (record {
    journals = keeps.journals image.journal0 image.journal1 left.journal0 left.journal1;
    roots = keeps.roots image.root0 image.root1 left.root0 left.root1;
    slots = keeps.slots image.slots left.slots;
  });
}
