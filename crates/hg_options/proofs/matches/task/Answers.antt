use Rattle.std.proofs.Common.{◌∙◌, sym, codes}
use Rattle.std.proofs.lemmas.Bool.{false≢true}
use Rattle.std.proofs.lemmas.Result.{err_from_is_err_and}
use Rattle.std.proofs.lemmas.Slice.Eq.{bytes_eq-Decides}
use Rattle.clap.specs.Words.{found_of, rows_of}
use Rattle.clap.proofs.WalkLemmas.{first_value-rows}
use Rattle.hg_options.proofs.Unasked.{of_directory}
use Rattle.hg_options.proofs.matches.task.Goals as goal

pub returns-in_ok-task-in-Some : goal.returns-in_ok-task-in-Some
returns-in_ok-task-in-Some c =
    (sym (first_value-rows (found_of c.args.given.now) (codes "DIR")) ∙ sym c.in-Some.ensures, c.in_ok-task-in-Some.ensures)

pub stream_task-requires : goal.stream_task-requires
stream_task-requires c =
    let decides = bytes_eq-Decides c.args.name.now (codes "explain") in
    record {
      other = λ e. absurd (false≢true (sym c.if-eq.false ∙ (c.eq.ensures ∙ decides.1 e)));
      alone = sym (first_value-rows (found_of c.args.given.now) (codes "DIR")) ∙ sym c.in-None.ensures;
    }

pub returns-in_err-task-in-Some : goal.returns-in_err-task-in-Some
returns-in_err-task-in-Some c =
    let p = err_from_is_err_and c.from_residual.result c.from_residual.ensures.1 in
    rw (p.1, p.2) (of_directory c.args.name.now (rows_of (found_of c.args.given.now)) c.in-Some.directory.now c.in_err-task-in-Some.field-0.0 (sym (first_value-rows (found_of c.args.given.now) (codes "DIR")) ∙ sym c.in-Some.ensures) c.in_err-task-in-Some.ensures)
