use Rattle.std.proofs.Common.{◌≡◌, false, true, sym, ◌∙◌}
use Rattle.std.proofs.lemmas.Bool.{false≢true}
use Rattle.hg_root.proofs.Opened.{opened, possible}
use Rattle.hg_root.proofs.root_test.may_begin.Goals as goal

pub returns-in-Ok : goal.returns-in-Ok
returns-in-Ok c refused body begins root =
    let is = possible c.args.front.now c.in-Ok.header c.in-Ok.number c.in-Ok.events c.in-Ok.segments c.in-Ok._rest.now c.in-Ok.ensures (opened c.args.front.now body root.0 begins root.1) in
    false≢true (sym refused ∙ c.is_opening.ensures is)
