use Rattle.std.proofs.Common.{[], refl, map}
use Rattle.hg_gate.specs.Batches.{base_front}
use Rattle.hg_journal.specs.Journal.{batch_text}
use Rattle.hg_journals.proofs.Walking.{former_kept, none_read}
use Rattle.hg_journals.proofs.pair.JournalPair.events.Goals as goal

pub returns-then-self-2-clause-first : goal.returns-then-self-2-clause-first
returns-then-self-2-clause-first g c base events k =
    let p = c.args.self.now in
    ([], [], none_read g.D.Disk p base events k c.if-self-2.true, c.in_ok-reader.ensures.first_behind (base_front p.newer_base) (map batch_text k.newer.batches) k.newer.has, refl)

pub returns-clause-first : goal.returns-clause-first
returns-clause-first g c base events k =
    let p = c.args.self.now in
    let former = former_kept g.D.Disk p base events k c.if-self-2.false in
    (c.if-self-2.false, c.in_ok-reader-2.ensures.first_behind (base_front p.base) (map batch_text former.batches) former.has)
