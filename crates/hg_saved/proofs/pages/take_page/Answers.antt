use Rattle.std.proofs.Common.{length}
use Rattle.hg_pool.proofs.FromSlots.{cells_within}
use Rattle.hg_recovery.proofs.Replaying.{on_ok}
use Rattle.hg_saved.proofs.Putting.{stays_within}
use Rattle.hg_saved.proofs.pages.take_page.Goals as goal

pub returns-clause-within : goal.returns-clause-within
returns-clause-within g c =
    let segments = c.args.segments in
    let sets = c.args.sets.now.sets in
    let cells = c.read_page.new.cells in
    on_ok c.put_page.result
    (λ puts. stays_within c.args.named.page cells c.args.words.now c.put_page.new.words segments (length sets) (cells_within segments sets cells c.in_ok-read_page.ensures.named) puts)
    c.put_page.ensures.put
