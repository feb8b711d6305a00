use Rattle.std.proofs.Common.{◌≡◌, ℕ, Ok, Err, List, [], Some, ap, sym, ◌∙◌, subst}
use Rattle.hg_sets.specs.Interning.{Interns, Table, set_at}
use Rattle.hg_sets.specs.declared.fault.SetFault.{SetFault}
use Rattle.hg_cells.specs.declared.paged.PagedWords.{PagedWords}
use Rattle.hg_detect.specs.declared.detector.Detector.{Detector}
use Rattle.hg_shards.proofs.Tables.{interned, refused_full, refused_stays}
use Rattle.hg_shards.proofs.full.put.Goals as goal

pub returns-in-Ok-clause-puts : goal.returns-in-Ok-clause-puts
returns-in-Ok-clause-puts c =
    let one : c.members.result.now ≡ set_at c.args.part.now.detector.sets.sets c.args.set =
    c.members.ensures.members
    ∙ ap (λ (t : Table). set_at t.sets c.args.set) (c.sets-sets.ensures ∙ ap (λ (d : Detector PagedWords). d.sets) c.detector.ensures) in
    λ limit sets h.
    interned limit sets _ c.in-Ok.field-0 c.args.table.now c.intern.new.self h
    (subst (λ (set : List ℕ). Interns c.args.table.now set (Ok c.in-Ok.field-0) c.intern.new.self) one c.in-Ok.ensures.exact)

pub returns-in-Err-Full-clause-puts : goal.returns-in-Err-Full-clause-puts
returns-in-Err-Full-clause-puts c =
    let one : c.members.result.now ≡ set_at c.args.part.now.detector.sets.sets c.args.set =
    c.members.ensures.members
    ∙ ap (λ (t : Table). set_at t.sets c.args.set) (c.sets-sets.ensures ∙ ap (λ (d : Detector PagedWords). d.sets) c.detector.ensures) in
    let given = subst (λ (set : List ℕ). Interns c.args.table.now set (Err c.in-Err-Full.field-0) c.intern.new.self) one c.in-Err-Full.ensures.exact in (
      refused_stays _ c.args.table.now c.intern.new.self c.in-Err-Full.field-0 given,
      λ limit sets h. refused_full limit sets [] _ c.args.table.now c.intern.new.self c.in-Err-Full.field-0 h given (ap (λ (f : SetFault). Some f) (sym c.in-Err-Full.field-0-is)),
    )
