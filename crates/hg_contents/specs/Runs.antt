-- Runs of a store, and the content of an image during a run.
use Rattle.std.specs.Prelude.{◌≡◌, ◌⊎◌, ◌++◌, List, [], ◌∷◌, reverse, Bool, true, Some}
use Rattle.hg_model.specs.declared.event.Named.{Named}
use Rattle.hg_model.specs.declared.verdict.Verdict.TheVariants.{Accept}
use Rattle.hg_model.specs.Contents.{Content, summary}
use Rattle.hg_model.specs.Verdicts.{IsAccepted, verdict, standing_of}
use Rattle.hg_model.specs.Change.{after, empty_content, followed}
use Rattle.hg_contents.specs.Images.{HasContent, Image}

-- The accepted events: those before the last acknowledged commit, and those since. `in_doubt`: a device fault ended a
-- commit.
pub record Run : Type 0 where
  pub acknowledged : List Named
  pub pending : List Named
  pub in_doubt : Bool

abbrev pub accepted : Run → List Named
accepted run = run.acknowledged ++ run.pending

-- The image has the content of the acknowledged events or, in doubt, that of all accepted ones.
abbrev pub StandsFor : Content → Run → Bool → Image → Type 0
StandsFor start run in_doubt image =
    (c : Content) × HasContent image c × ((followed start run.acknowledged ≡ Some c) ⊎ ((in_doubt ≡ true) × (followed start (accepted run) ≡ Some c)))

-- each event is accepted after those before it
abbrev pub AreAccepted : Content → List Named → Type 0
AreAccepted c [] = Unit {0}
AreAccepted c (n ∷ rest) = (verdict (standing_of c) n ≡ Accept) × AreAccepted (after c n) rest

-- A prefix of the accepted events that has each acknowledged one, and the rest.
pub record Split (run : Run) (front rest : List Named) : Type 0 where
  pub whole : front ++ rest ≡ accepted run
  pub more : List Named
  pub acknowledged : run.acknowledged ++ more ≡ front

-- From the content of an image on, the rules accept the remaining events of a stopped run, and these give the content of
-- the run that was never stopped.
abbrev pub RemainingGiveTheSame : Type 0
RemainingGiveTheSame = (start live : Content) (run : Run) (in_doubt : Bool) (image : Image) → StandsFor start run in_doubt image → followed start (accepted run) ≡ Some live
    → (c : Content) × (front : List Named) × (rest : List Named)
    × HasContent image c × Split run front rest × (followed start front ≡ Some c) × (followed c rest ≡ Some live) × AreAccepted c rest

-- If a run starts from the empty content, an image has the summary of a prefix of the accepted events, and this prefix has
-- each acknowledged event.
abbrev pub PrefixIsSummed : Type 0
PrefixIsSummed = (run : Run) (in_doubt : Bool) (image : Image) → StandsFor empty_content run in_doubt image
    → (front : List Named) × (rest : List Named) × Split run front rest × IsAccepted (reverse front) × HasContent image (summary (reverse front))
