use Rattle.std.proofs.Common.{◌≡◌, ◌⊎◌, ◌+◌, ◌-◌, ◌*◌, ◌/◌, ◌%◌, ◌<◌, ◌≤◌, ℕ, true, is_some}
use Rattle.hg_cells.specs.declared.cell.Cell.TheVariants.{New}
use Rattle.hg_pool.specs.Kept.{IsFaithful, Went}
use Rattle.hg_pool.specs.Maps.{frame_in, live}
use Rattle.hg_pool.specs.OfWords.{MayBring}
use Rattle.hg_pool.proofs.words.PoolWords.clear.Given as goal

-- The words before this one are new. It begins a page, or is the first one or the end.
abbrev pub invariant-loop-word : goal.invariant-loop-word
invariant-loop-word g l = record {
  low : l.at / 4 ≤ l.word;
  high : l.word ≤ l.end;
  begins : (l.word ≡ l.at / 4) ⊎ ((l.word % 256 ≡ 0) ⊎ (l.word ≡ l.end));
  cleared : (w : ℕ) → l.at / 4 ≤ w → w < l.word → live g.D.Disk l.self w ≡ New;
  others : (w : ℕ) → (w < l.at / 4) ⊎ (l.word ≤ w) → live g.D.Disk l.self w ≡ live g.D.Disk l.fn.self w;
  rest : l.self ≡ record l.fn.self { live = l.self.live; frames = l.self.frames };
  present : (q : ℕ) → l.word ≤ 256 * q + 255 → is_some (frame_in l.fn.self.frames q) ≡ true → is_some (frame_in l.self.frames q) ≡ true;
  lawful : (n m : ℕ) → MayBring l.fn.self n m → MayBring l.self n m;
  faithful : (n m : ℕ) → IsFaithful g.D.Disk l.fn.self n m → IsFaithful g.D.Disk l.self n m;
  went : Went g.D.Disk l.fn.self l.self;
}

abbrev pub decreases-loop-word : goal.decreases-loop-word
decreases-loop-word g l = l.end - l.word
