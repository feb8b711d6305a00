use Rattle.std.proofs.Common.{◌==◌, ◌∙◌, ℕ, List, Some, if◌then◌else◌, ap}
use Rattle.lru.specs.LruCache.{LruCache}
use Rattle.hg_cells.specs.declared.cell.Cell.{Cell}
use Rattle.hg_pool.specs.Maps.{copy_in}
use Rattle.hg_cache.proofs.Lookups.{looked_new, put_new}
use Rattle.hg_pool.proofs.copies.add_copy.Goals as goal

pub returns-clause-looks : goal.returns-clause-looks
returns-clause-looks c q =
    let es = c.args.copies.now.entries in
    ap (λ (x : LruCache ℕ (List Cell)). copy_in x.entries q) c.in_ok-put.ensures.entries
    ∙ ap (λ (x : List (ℕ × List Cell)). copy_in x q) (put_new c.args.copies.now c.args.page c.copy.result c.requires.absent c.requires.room)
    ∙ looked_new c.args.page q c.copy.result es
    ∙ ap (λ (x : List Cell). if c.args.page == q then Some x else copy_in es q) c.copy.ensures.cells
