use Rattle.std.proofs.Common.{[], sym, append-nil, map}
use Rattle.hg_gate.specs.Batches.{base_front}
use Rattle.hg_journal.specs.Journal.{batch_text}
use Rattle.hg_journals.proofs.pair.JournalPair.next_behind.Goals as goal

pub returns-clause-next : goal.returns-clause-next
returns-clause-next g c base events former honest k h =
    let p = c.args.self.now in
    let first = c.in_ok-reader.ensures.first_behind (base_front p.newer_base) (map batch_text k.newer.batches) k.newer.has in
    c.next_in_newer.ensures.next base events former honest k (former, [], h, first, sym (append-nil former))

pub returns-clause-stays : goal.returns-clause-stays
returns-clause-stays g c base events former honest k h =
    let p = c.args.self.now in
    let first = c.in_ok-reader.ensures.first_behind (base_front p.newer_base) (map batch_text k.newer.batches) k.newer.has in
    c.next_in_newer.ensures.stays base events former honest k (former, [], h, first, sym (append-nil former))
