use Rattle.std.proofs.lemmas.Result.{err_from_is_err_and}
use Rattle.hg_checkpoint.proofs.restoring.checked_table.Goals as goal

pub returns-in_err-read_pages-clause-refusal : goal.returns-in_err-read_pages-clause-refusal
returns-in_err-read_pages-clause-refusal g c =
    let p = err_from_is_err_and c.from_residual.result c.from_residual.ensures.1 in
    rw (p.1, p.2) (c.in_err-read_pages.ensures.refusal c.args.caps)
