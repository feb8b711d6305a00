-- The parts of a trace, each of them some of its words.
use Rattle.std.specs.Prelude.{◌≡◌, ℕ, ◌/◌, ◌<◌, Bool, ◌==◌, List, [], map, take, length, slice_index_or, Contains}
use Rattle.std.specs.List.{range_with_len, sum_by}
use Rattle.hg_model.specs.declared.event.Event.{Event}
use Rattle.hg_model.specs.declared.report.Report.{Report}
use Rattle.hg_shards.specs.Alike.{AgreeWithin, reports_within}
use Rattle.hg_shards.specs.Merging.{merged}

-- the words of part k, where each word is given to a part
abbrev pub words_of_part : (ℕ → ℕ) → ℕ → ℕ → Bool
words_of_part part_of k w = part_of w == k

-- the part of a word where each page is given to a part: a page has 256 words, which are 1,024 bytes
abbrev pub by_page : (ℕ → ℕ) → ℕ → ℕ
by_page part_of w = part_of (w / 256)

-- Each word is given to one of `count` parts, numbered from 0. Part k has a trace of its own, which agrees with the whole one
-- within the words of the part.
pub record AreParts (count : ℕ) (part_of : ℕ → ℕ) (trace : List Event) (trace_of : ℕ → List Event) : Type 0 where
  pub some : (w : ℕ) → part_of w < count
  pub agree : (k : ℕ) → k < count → AgreeWithin (words_of_part part_of k) trace (trace_of k)

-- for each part its own among some reports, those of its words
abbrev pub reports_by_part : ℕ → (ℕ → ℕ) → (ℕ → List Report) → List (List Report)
reports_by_part count part_of reports_of = map (λ k. reports_within (words_of_part part_of k) (reports_of k)) (range_with_len 0 count)

-- No report is in two of the lists.
abbrev pub AreApart : List (List Report) → Type 0
AreApart lists = (j k : ℕ) (r : Report) → Contains (slice_index_or lists j []) r → Contains (slice_index_or lists k []) r → j ≡ k

-- Lists of reports make a whole one: merged, they are that one. No report is in two of them, and their lengths add up to its
-- length. Where no more than `most` are kept of each, what is merged of these begins with what is kept of the whole.
pub record MakeTheWhole (lists : List (List Report)) (whole : List Report) : Type 0 where
  pub all : merged lists ≡ whole
  pub apart : AreApart lists
  pub total : sum_by length lists ≡ length whole
  pub kept : (most : ℕ) → take most (merged (map (take most) lists)) ≡ take most whole
