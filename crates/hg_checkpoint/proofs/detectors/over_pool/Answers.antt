use Rattle.std.proofs.Common.{ℕ, List, subst, sym}
use Rattle.hg_pool.specs.Tables.{AreBelow}
use Rattle.hg_checkpoint.proofs.Entries.{are_below}
use Rattle.hg_checkpoint.proofs.detectors.over_pool.Goals as goal

pub new-requires-clause-table : goal.new-requires-clause-table
new-requires-clause-table g c =
    let below = are_below c.args.caps.slots c.args.root.pages.items c.requires.lawful.pages c.requires.fits.slots in
    subst (λ (es : List (ℕ × ℕ)). AreBelow c.args.caps.slots es) (sym c.requires.table) below
