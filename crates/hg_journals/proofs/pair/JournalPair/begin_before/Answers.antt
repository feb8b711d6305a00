use Rattle.std.proofs.Common.{ℕ, [], map, sym, append-nil, subst, arith}
use Rattle.hg_gate.specs.Batches.{base_front}
use Rattle.hg_journal.specs.Journal.{batch_text}
use Rattle.hg_journals.specs.Pairs.{KeepsFormer}
use Rattle.hg_journals.proofs.pair.JournalPair.begin_before.Goals as goal

pub returns-then-count-self-clause-first : goal.returns-then-count-self-clause-first
returns-then-count-self-clause-first g c base events k = ([], omega (arith, k.begins, c.requires.base), c.in_ok-reader.ensures.first base events k)

pub returns-clause-first : goal.returns-clause-first
returns-clause-first g c base events k =
    let p = c.args.self.now in
    let former = subst (λ (n : ℕ). KeepsFormer p.has_spare p.older n k.former) (sym k.begins) k.older in
    let first = c.in_ok-reader-2.ensures.first_behind (base_front p.newer_base) (map batch_text k.newer.batches) k.newer.has in
    (k.former, omega (arith, k.turned_at, c.if-count-self.false), (k.former, [], former, first, sym (append-nil k.former)))
