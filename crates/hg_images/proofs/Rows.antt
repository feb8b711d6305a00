-- A worked run of 201 events, computed by the definitions: a turn at event 100, a root that counts 100, a retirement, a turn at
-- event 200, a root that counts 200, and a retirement. The rows say what two journal files and the newest open root give.
use Rattle.std.proofs.Common.{◌≡◌, ◌∙◌, inl, inr, ◌+◌, ◌-◌, ◌≤◌, ◌%◌, ◌==◌, ℕ, true, List, [], ◌++◌, length, map, is_some, Option, Some, None, refl, sym, ap, subst, arith, if◌then◌else◌}
use Rattle.std.specs.List.{range_with_len}
use Rattle.hg_model.specs.declared.event.Event.TheVariants.{Lock, Unlock}
use Rattle.hg_model.specs.declared.event.Named.{Named}
use Rattle.hg_model.specs.Contents.{Content}
use Rattle.hg_model.specs.Change.{empty_content, followed}
use Rattle.hg_gate.specs.declared.based.TheConstants.{MAX_BASE}
use Rattle.hg_journal.specs.File.{IsJournalFile, JournalFile, Open, Spare}
use Rattle.hg_journals.specs.Journals.{AreJournals, behind}
use Rattle.hg_root.specs.Checkpoints.{Checkpoint}
use Rattle.hg_contents.specs.Images.{start_of}
use Rattle.hg_contents.proofs.Following.{followed_append, followed_events}
use Rattle.hg_images.specs.Images.{HasContent, HasNewest, Image, LeadFrom}

-- thread 0 takes lock 7 by each odd event, and lets it go by each even one
abbrev event : ℕ → Named
event k = record { source = 0; number = k; event = if k % 2 == 1 then Lock 0 7 else Unlock 0 7 }

-- the events behind number `from` up to number `to`
abbrev numbered : (from to : ℕ) → List Named
numbered from to = map event (range_with_len (from + 1) (to - from))

abbrev content_in : Option Content → Content
content_in None = empty_content
content_in (Some c) = c

-- the content after the first n events
at : ℕ → Content
at n = content_in (followed empty_content (numbered 0 n))

is_in : (o : Option Content) → is_some o ≡ true → o ≡ Some (content_in o)
is_in None is = absurd cc
is_in (Some c) is = refl

-- the rules accept all of them
accepted_100 : is_some (followed empty_content (numbered 0 100)) ≡ true
accepted_100 = refl

accepted_200 : is_some (followed empty_content (numbered 0 200)) ≡ true
accepted_200 = refl

accepted_201 : is_some (followed empty_content (numbered 0 201)) ≡ true
accepted_201 = refl

run : (n : ℕ) → is_some (followed empty_content (numbered 0 n)) ≡ true → followed empty_content (numbered 0 n) ≡ Some (at n)
unfolding at
run n is = is_in (followed empty_content (numbered 0 n)) is

none_yet : at 0 ≡ empty_content
unfolding at
none_yet = refl

counts : (n : ℕ) → is_some (followed empty_content (numbered 0 n)) ≡ true → (at n).events ≡ length (numbered 0 n)
counts n is = omega (arith, followed_events (numbered 0 n) empty_content (at n) (run n is))

-- the events from one number to another lead from the content after the one to that after the other
leads : (from to : ℕ) → is_some (followed empty_content (numbered 0 from)) ≡ true → is_some (followed empty_content (numbered 0 to)) ≡ true → numbered 0 from ++ numbered from to ≡ numbered 0 to
    → followed (at from) (numbered from to) ≡ Some (at to)
leads from to is_from is_to whole =
    sym (followed_append (numbered 0 from) (numbered from to) empty_content (at from) (run from is_from)) ∙ ap (λ (es : List Named). followed empty_content es) whole ∙ run to is_to

gives_of : (root base last : ℕ) → (at root).events ≡ root → base ≤ root → root ≤ base + length (numbered base last) → behind base root (numbered base last) ≡ numbered root last
    → followed (at root) (numbered root last) ≡ Some (at last) → LeadFrom (at root) base (numbered base last) (at last)
gives_of root base last count reach enough rest leads_on = record {
  reaches = omega (arith, count, reach);
  enough = omega (arith, count, enough);
  leads = ap (λ (n : ℕ). followed (at root) (behind base n (numbered base last))) count ∙ ap (λ (es : List Named). followed (at root) es) rest ∙ leads_on;
}

-- Two journal files keep the events behind `base` up to number `last`. With a newest open root that counts `root` events,
-- or with none open where that is 0, they give the content after event `last`.
record IsRow (one other : JournalFile) (root base last : ℕ) : Type 0 where
  keep : AreJournals one other base (numbered base last)
  gives : LeadFrom (at root) base (numbered base last) (at last)

-- They keep these events, and give no content.
record IsLost (one other : JournalFile) (root base last : ℕ) : Type 0 where
  keep : AreJournals one other base (numbered base last)
  gives_none : (c : Content) → ¬ LeadFrom (at root) base (numbered base last) c

-- An image of these files, whose newest checkpoint has the content after `root` events, has the content after event `last`.
image_gives : (image : Image) (checkpoint : Option Checkpoint) (one other : JournalFile) (root base last : ℕ) → start_of checkpoint ≡ at root → HasNewest checkpoint image
    → IsJournalFile image.journal0 one → IsJournalFile image.journal1 other → base + length (numbered base last) ≤ MAX_BASE → IsRow one other root base last → HasContent image (at last)
image_gives image checkpoint one other root base last starts newest is_one is_other fits row = record {
  checkpoint = checkpoint;
  stands = newest;
  base = base;
  events = numbered base last;
  journals = record { one = one; other = other; one_is = is_one; other_is = is_other; are = row.keep; fits = fits };
  gives = subst (λ (c : Content). LeadFrom c base (numbered base last) (at last)) (sym starts) row.gives;
}

-- ---- the rows, in the order of the run

count_0 : (at 0).events ≡ 0
count_0 = counts 0 refl

count_100 : (at 100).events ≡ 100
count_100 = counts 100 accepted_100

count_200 : (at 200).events ≡ 200
count_200 = counts 200 accepted_200

-- 100 events were committed
committed_100 : IsRow (Open 0 (numbered 0 100)) Spare 0 0 100
committed_100 = record { keep = (refl, refl); gives = gives_of 0 0 100 count_0 (omega arith) (omega arith) refl (leads 0 100 refl accepted_100 refl) }

-- the files took turns: with no root, and with one that counts 100
turned_100 : IsRow (Open 0 (numbered 0 100)) (Open 100 []) 0 0 100
turned_100 = record { keep = inl (refl, omega arith, refl, refl); gives = committed_100.gives }

rooted_100 : IsRow (Open 0 (numbered 0 100)) (Open 100 []) 100 0 100
rooted_100 = record { keep = turned_100.keep; gives = gives_of 100 0 100 count_100 (omega arith) (omega arith) refl (leads 100 100 accepted_100 accepted_100 refl) }

-- the first file was closed: no event is kept, and the next one has number 101
retired_100 : IsRow Spare (Open 100 []) 100 100 100
retired_100 = record { keep = (refl, refl); gives = gives_of 100 100 100 count_100 (omega arith) (omega arith) refl (leads 100 100 accepted_100 accepted_100 refl) }

-- without the root nothing is left
retired_too_early : IsLost Spare (Open 100 []) 0 100 100
retired_too_early = record { keep = (refl, refl); gives_none = λ c is. omega (arith, is.reaches, count_0) }

-- 200 events were committed, and the files took turns again
committed_200 : IsRow Spare (Open 100 (numbered 100 200)) 100 100 200
committed_200 = record { keep = (refl, refl); gives = gives_of 100 100 200 count_100 (omega arith) (omega arith) refl (leads 100 200 accepted_100 accepted_200 refl) }

turned_200 : IsRow (Open 200 []) (Open 100 (numbered 100 200)) 100 100 200
turned_200 = record { keep = inr (refl, omega arith, refl, refl); gives = committed_200.gives }

-- event 201 came before the next root was opened: with the former root, and with the next
committed_201 : IsRow (Open 200 (numbered 200 201)) (Open 100 (numbered 100 200)) 100 100 201
committed_201 = record {
  keep = inr (refl, omega arith, refl, refl);
  gives = gives_of 100 100 201 count_100 (omega arith) (omega arith) refl (leads 100 201 accepted_100 accepted_201 refl);
}

rooted_200 : IsRow (Open 200 (numbered 200 201)) (Open 100 (numbered 100 200)) 200 100 201
rooted_200 = record { keep = committed_201.keep; gives = gives_of 200 100 201 count_200 (omega arith) (omega arith) refl (leads 200 201 accepted_200 accepted_201 refl) }

-- the second file was closed
retired_200 : IsRow (Open 200 (numbered 200 201)) Spare 200 200 201
retired_200 = record { keep = (refl, refl); gives = gives_of 200 200 201 count_200 (omega arith) (omega arith) refl (leads 200 201 accepted_200 accepted_201 refl) }

-- with the former root nothing is left
retired_too_early_again : IsLost (Open 200 (numbered 200 201)) Spare 100 200 201
retired_too_early_again = record { keep = (refl, refl); gives_none = λ c is. omega (arith, is.reaches, count_100) }
