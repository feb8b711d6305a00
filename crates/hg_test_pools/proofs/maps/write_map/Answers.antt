use Rattle.std.proofs.Common.{◌≡◌, ℕ, sym, subst}
use Rattle.hg_pool.specs.Kept.{AreWithin}
use Rattle.hg_pool.specs.Shown.{ShownPool}
use Rattle.hg_test_pools.proofs.maps.write_map.Goals as goal

-- a pool that is another name of the one before
keeps : {D : Type 0} (old lent new : ShownPool D) (n m : ℕ) → lent ≡ old → ((n m : ℕ) → AreWithin lent.frames n m → AreWithin new.frames n m) → AreWithin old.frames n m → AreWithin new.frames n m
keeps {D} old lent new n m same kept within = kept n m (subst (λ (p : ShownPool D). AreWithin p.frames n m) (sym same) within)

pub returns : goal.returns
returns c = record { lawful = keeps c.args.detector.now.words c.words_mut.result.now c.checkpoint.new.pool _ _ c.words_mut.ensures.value c.checkpoint.ensures c.requires.lawful }
