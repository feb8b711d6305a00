-- A worked trace, computed by the definitions: at one event two words race that lie in two pages.
use Rattle.std.proofs.Common.{◌≡◌, ℕ, ◌%◌, true, List, [], ◌∷◌, refl}
use Rattle.hg_model.specs.declared.event.Event.{Event}
use Rattle.hg_model.specs.declared.event.Event.TheVariants.{Fork, Read, Write}
use Rattle.hg_model.specs.declared.report.Report.{Report}
use Rattle.hg_model.specs.Reporting.{all_reports}
use Rattle.hg_shards.specs.Merging.{merged}
use Rattle.hg_shards.specs.Parts.{by_page, reports_by_part, words_of_part}
use Rattle.hg_shards.specs.Asking.{anywhere, asked, size_with}

-- the newest event first: both threads write the last word of page 0 and the first word of page 1, and thread 0 reads another
abbrev trace : List Event
trace = Write (record { t = 1; at = 1020; len = 8 }) ∷ Read (record { t = 0; at = 4096; len = 4 }) ∷ Write (record { t = 0; at = 1020; len = 8 }) ∷ Fork 0 1 ∷ []

-- the same, as part 0 sees it: what is written is cut to page 0, and the read is of another word of page 1
abbrev own : List Event
own = Write (record { t = 1; at = 1020; len = 4 }) ∷ Read (record { t = 0; at = 1024; len = 1 }) ∷ Write (record { t = 0; at = 1020; len = 4 }) ∷ Fork 0 1 ∷ []

-- pages go to the parts in turn
abbrev in_turn : ℕ → ℕ
in_turn = by_page (λ page. page % 2)

abbrev told : ℕ → Report
told word = record { event = 4; write = true; thread = 1; word = word; threads = 0 ∷ 1 ∷ [] }

whole : all_reports trace ≡ told 1020 ∷ told 1024 ∷ []
whole = refl

parts : reports_by_part 2 in_turn (λ k. all_reports trace) ≡ (told 1020 ∷ []) ∷ (told 1024 ∷ []) ∷ []
parts = refl

cut : all_reports own ≡ told 1020 ∷ []
cut = refl

-- lists are merged by event and then by word, whichever comes first
in_order : merged ((told 1024 ∷ []) ∷ (told 1020 ∷ []) ∷ []) ≡ told 1020 ∷ told 1024 ∷ []
in_order = refl

-- both words ask for the set of both threads, and the empty set of locks
sets : asked anywhere trace ≡ (0 ∷ 1 ∷ []) ∷ [] ∷ (0 ∷ 1 ∷ []) ∷ [] ∷ []
sets = refl

sets_of_the_first_part : asked (words_of_part in_turn 0) own ≡ (0 ∷ 1 ∷ []) ∷ [] ∷ []
sets_of_the_first_part = refl

-- a table has two: that set and the empty one
size : size_with (asked anywhere trace) ≡ 2
size = refl
