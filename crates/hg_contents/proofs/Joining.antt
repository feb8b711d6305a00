-- One image of each device makes an image of all.
use Rattle.std.proofs.Common.{◌≡◌, inl, inr, ⊎_elim, List, ◌++◌, Bool, Some}
use Rattle.hg_model.specs.declared.event.Named.{Named}
use Rattle.hg_model.specs.Contents.{Content}
use Rattle.hg_model.specs.Change.{followed}
use Rattle.hg_journal.specs.Journal.{IsJournal}
use Rattle.hg_contents.specs.Images.{Gives, HasContent, Image, start_of}
use Rattle.hg_contents.specs.Choices.{Choice, HasEvents, HasRoots, HasSlots, JointImages, Stands}
use Rattle.hg_contents.specs.Stores.{FactsBack}
use Rattle.hg_contents.proofs.Following.{lead_on}

one_choice : (image : Image) (choice : Choice) (events : List Named) (c : Content) → HasRoots choice image.root0 image.root1 → HasSlots choice image.slots → IsJournal image.journal events
    → Gives choice.checkpoint events c → HasContent image c
one_choice image choice events c roots slots journal gives = record {
  checkpoint = choice.checkpoint;
  stands = record { former = choice.former; newest = roots; stand = slots };
  events = events;
  journal = journal;
  gives = gives;
}

with_choice : (image : Image) (choice : Choice) (events pending : List Named) (in_doubt : Bool) (d live : Content) → HasRoots choice image.root0 image.root1 → HasSlots choice image.slots
    → HasEvents events pending in_doubt image.journal → Gives choice.checkpoint events d → followed d pending ≡ Some live → Stands d live in_doubt image
with_choice image choice events pending in_doubt d live roots slots (inl journal) gives leads = inl (one_choice image choice events d roots slots journal gives)
with_choice image choice events pending in_doubt d live roots slots (inr doubt) gives leads =
    inr (doubt.0, one_choice image choice (events ++ pending) live roots slots doubt.1 (lead_on (start_of choice.checkpoint) d events gives pending live leads))

pub joint_images : JointImages
joint_images basis pending in_doubt durable live image gives leads parts =
    ⊎_elim
    (λ is. with_choice image basis.now basis.events pending in_doubt durable live is parts.slots.0 parts.journal gives.now leads)
    (λ is. with_choice image basis.next basis.events pending in_doubt durable live is parts.slots.1 parts.journal gives.next leads)
    parts.roots

pub facts_back : FactsBack
facts_back basis s d keeps = record {
  live = keeps.live;
  count = keeps.count;
  stands = λ image left. joint_images basis s.pending s.in_doubt d s.live image keeps.gives keeps.live (record {
    journal = keeps.journal image.journal left.journal;
    roots = keeps.roots image.root0 image.root1 left.root0 left.root1;
    slots = keeps.slots image.slots left.slots;
  });
}
