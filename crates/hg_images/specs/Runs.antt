-- Runs of a store, and the content of an image during a run. The events of a run are counted from 1 on.
use Rattle.std.specs.Prelude.{◌≡◌, ◌⊎◌, ◌+◌, ℕ, List, length, reverse, Bool, true, Some}
use Rattle.hg_model.specs.declared.event.Named.{Named}
use Rattle.hg_model.specs.Contents.{Content, summary}
use Rattle.hg_model.specs.Verdicts.{IsAccepted}
use Rattle.hg_model.specs.Change.{empty_content, followed}
use Rattle.hg_contents.specs.Runs.{AreAccepted, Run, Split, accepted}
use Rattle.hg_images.specs.Images.{HasContent, HasJournals, Image}

-- The image has the content of the acknowledged events or, in doubt, that of all accepted ones.
abbrev pub StandsFor : Content → Run → Bool → Image → Type 0
StandsFor start run in_doubt image =
    (c : Content) × HasContent image c × ((followed start run.acknowledged ≡ Some c) ⊎ ((in_doubt ≡ true) × (followed start (accepted run) ≡ Some c)))

-- The last event that the journals of the image keep has this number, whatever their base is.
abbrev pub EndsWith : (number : ℕ) → Image → Type 0
EndsWith number image = (base : ℕ) (events : List Named) → HasJournals base events image → base + length events ≡ number

-- From the content of an image on, the rules accept the remaining events of a stopped run, and these give the content of
-- the run that was never stopped.
abbrev pub RemainingGiveTheSame : Type 0
RemainingGiveTheSame = (start live : Content) (run : Run) (in_doubt : Bool) (image : Image) → StandsFor start run in_doubt image → followed start (accepted run) ≡ Some live
    → (c : Content) × (front : List Named) × (rest : List Named)
    × HasContent image c × Split run front rest × (followed start front ≡ Some c) × (followed c rest ≡ Some live) × AreAccepted c rest

-- If a run starts from the empty content, an image has the summary of a prefix of the accepted events, and this prefix has
-- each acknowledged event. The journals end with its last event; those before their base are not read any more.
abbrev pub PrefixIsSummed : Type 0
PrefixIsSummed = (run : Run) (in_doubt : Bool) (image : Image) → StandsFor empty_content run in_doubt image
    → (front : List Named) × (rest : List Named)
    × Split run front rest × IsAccepted (reverse front) × HasContent image (summary (reverse front)) × EndsWith (length front) image
