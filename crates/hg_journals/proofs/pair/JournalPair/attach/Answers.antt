use Rattle.std.proofs.Common.{IsTrue, ◌≡◌, subst}
use Rattle.hg_model.specs.declared.verdict.Refusal.TheVariants.{Damaged}
use Rattle.hg_journals.specs.Attaching.{disk_in}
use Rattle.hg_journals.proofs.Finding.{none_before}
use Rattle.hg_journals.proofs.pair.JournalPair.attach.Goals as goal

pub returns-in-Ok-read_file-clause-damaged : goal.returns-in-Ok-read_file-clause-damaged
returns-in-Ok-read_file-clause-damaged g c honest durable =
    let first = subst (λ d. IsTrue (g.D.Disk.reads_were_true d)) c.join.ensures.first honest.0 in
    let second = subst (λ d. IsTrue (g.D.Disk.reads_were_true d)) c.join.ensures.second honest.1 in
    none_before c.join.result (g.D.Disk.state (disk_in c.in-Ok.first)) (g.D.Disk.state (disk_in c.in-Ok-read_file.second)) (g.D.Disk.state c.args.journal0) (g.D.Disk.state c.args.journal1) (λ refused. refused.0 ≡ Damaged)
    c.in-Ok.ensures.disk.state c.in-Ok-read_file.ensures.disk.state (c.join.ensures.none (c.in-Ok.ensures.read first durable.0) (c.in-Ok-read_file.ensures.read second durable.1))
