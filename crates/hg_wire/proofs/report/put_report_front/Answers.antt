use Rattle.std.proofs.Common.{◌∙◌, ap, ◌++◌}
use Rattle.std.proofs.lemmas.Result.{on_ok_weaker}
use Rattle.hg_wire.proofs.PieceLemmas.{ten_pieces}
use Rattle.hg_wire.proofs.report.put_report_front.Goals as goal

pub returns-clause-ok : goal.returns-clause-ok
returns-clause-ok c =
    on_ok_weaker c.put_all.result (λ e. e ∙ ap (λ t. c.args.out.now.items ++ t)
    (ten_pieces _ _ _ _ _ _ _ _ _ _ _ _ _ _ _ _ _ _ _ _ c.as_slice.ensures (c.as_bytes.ensures.value ∙ c.format.ensures.text) c.as_slice-2.ensures
    (c.as_bytes-2.ensures.value ∙ c.format-2.ensures.text) c.name_of_access.ensures c.as_slice-3.ensures (c.as_bytes-3.ensures.value ∙ c.format-3.ensures.text)
    c.as_slice-4.ensures (c.as_slice-5.ensures ∙ c.digits_of_address-digits.ensures) c.as_slice-6.ensures)) c.put_all.ensures.ok
