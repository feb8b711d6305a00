use Rattle.std.proofs.Common.{ℕ, Some, None, ap, sym}
use Rattle.hg_pages.proofs.Parting.{looked, parts_missing, parts_standing}
use Rattle.hg_pages.proofs.entries.find.Goals as goal

pub returns-in-Ok : goal.returns-in-Ok
returns-in-Ok c =
    sym (looked c.args.page (Some c.at.result.1) c.args.entries.now.items
    (parts_standing c.args.page c.at.result.1 c.in-Ok.place c.args.entries.now.items c.at.result c.in-Ok.ensures (ap (λ (e : ℕ × ℕ). e.1) (sym c.at.ensures))))

pub returns-in-Err : goal.returns-in-Err
returns-in-Err c = sym (looked c.args.page None c.args.entries.now.items (parts_missing c.args.page c.in-Err.field-0 c.args.entries.now.items c.in-Err.ensures))
