use Rattle.std.proofs.Common.{◌∙◌, ap, ◌++◌}
use Rattle.std.proofs.lemmas.Result.{on_ok_weaker}
use Rattle.hg_wire.proofs.PieceLemmas.{four_pieces}
use Rattle.hg_wire.proofs.lines.put_refused_line.Goals as goal

pub returns-clause-ok : goal.returns-clause-ok
returns-clause-ok c =
    on_ok_weaker c.put_all.result (λ e. e ∙ ap (λ t. c.args.out.now.items ++ t)
    (four_pieces _ _ _ _ _ _ _ _ c.as_slice.ensures (c.as_bytes.ensures.value ∙ c.format.ensures.text) c.as_slice-2.ensures
    (c.as_bytes-2.ensures.value ∙ c.format-2.ensures.text))) c.put_all.ensures.ok
