use Rattle.std.proofs.Common.{◌≡◌, ◌++◌, ◌∷◌, ◌∙◌, ℕ, List, [], ap, map, subst}
use Rattle.std.specs.Global.{Vec}
use Rattle.hg_disk.specs.Moments.{LeavesOnly}
use Rattle.hg_gate.specs.Batch.{body_of}
use Rattle.hg_gate.specs.Batches.{IsBeforeOrAfter, IsLog, header}
use Rattle.hg_gate.specs.Log.{Has}
use Rattle.hg_journal.specs.Journal.{batch_text}
use Rattle.hg_journal.proofs.Filling.{is_body}
use Rattle.hg_journal.proofs.Journaling.{added, keeps_pushed, moments}
use Rattle.hg_journal.proofs.Journals.{pushed}
use Rattle.hg_journal.proofs.journal.Journal.append.Goals as goal

pub batch_of-batch-requires : goal.batch_of-batch-requires
batch_of-batch-requires g c =
    is_body c.args.events.now c.replace-body.result.items (ap (λ (v : Vec ℕ). v.items) c.replace-body.ensures.value ∙ c.put_records.ensures.items) c.requires.some c.requires.few

pub returns-in-Ok-clause-added_behind : goal.returns-in-Ok-clause-added_behind
returns-in-Ok-clause-added_behind g c lead past k =
    let bodies = map batch_text k.batches in
    let text : body_of c.batch_of-batch.result ≡ batch_text c.args.events.now =
    ap (λ (v : Vec ℕ). v.items) (c.batch_of-batch.ensures ∙ c.replace-body.ensures.value) ∙ c.put_records.ensures.items in
    keeps_pushed g.D.Disk lead past c.args.events.now k.batches k.whole k.fits c.put_records.ensures.fits _
    (subst (λ (l : List ℕ). Has lead c.append-appended.new.self (bodies ++ l ∷ [])) text (c.in-Ok.ensures.added lead bodies k.has))

pub returns-in-Ok-clause-added : goal.returns-in-Ok-clause-added
returns-in-Ok-clause-added g c = returns-in-Ok-clause-added_behind g c header

pub returns-in-Ok-clause-durable_behind : goal.returns-in-Ok-clause-durable_behind
returns-in-Ok-clause-durable_behind g c lead past k image is =
    let bodies = map batch_text k.batches in
    let text : body_of c.batch_of-batch.result ≡ batch_text c.args.events.now =
    ap (λ (v : Vec ℕ). v.items) (c.batch_of-batch.ensures ∙ c.replace-body.ensures.value) ∙ c.put_records.ensures.items in
    pushed lead image past c.args.events.now k.batches k.whole k.fits c.put_records.ensures.fits
    (subst (λ (l : List ℕ). IsLog lead image (bodies ++ l ∷ [])) text (c.in-Ok.ensures.durable lead bodies k.has image is))

pub returns-in-Ok-clause-durable : goal.returns-in-Ok-clause-durable
returns-in-Ok-clause-durable g c = returns-in-Ok-clause-durable_behind g c header

pub returns-in-Ok-clause-readers_behind : goal.returns-in-Ok-clause-readers_behind
returns-in-Ok-clause-readers_behind g c lead reader seen h =
    added g.D.Disk lead c.args.self.now reader seen h _ (body_of c.batch_of-batch.result ∷ []) (c.in-Ok.ensures.added lead ((map batch_text h.past ++ h.present) ++ h.later) h.has)

pub returns-in-Ok-clause-readers : goal.returns-in-Ok-clause-readers
returns-in-Ok-clause-readers g c = returns-in-Ok-clause-readers_behind g c header

pub returns-in-Ok-clause-any_moment_behind : goal.returns-in-Ok-clause-any_moment_behind
returns-in-Ok-clause-any_moment_behind g c lead past k =
    let bodies = map batch_text k.batches in
    let text : body_of c.batch_of-batch.result ≡ batch_text c.args.events.now =
    ap (λ (v : Vec ℕ). v.items) (c.batch_of-batch.ensures ∙ c.replace-body.ensures.value) ∙ c.put_records.ensures.items in
    moments g.D.Disk lead past c.args.events.now k.batches k.whole k.fits c.put_records.ensures.fits c.args.self.now.log.disk c.append-appended.new.self.disk
    (subst (λ (l : List ℕ). LeavesOnly g.D.Disk c.args.self.now.log.disk c.append-appended.new.self.disk (IsBeforeOrAfter lead bodies l)) text (c.append-appended.ensures.any_moment lead bodies k.has))

pub returns-in-Ok-clause-any_moment : goal.returns-in-Ok-clause-any_moment
returns-in-Ok-clause-any_moment g c = returns-in-Ok-clause-any_moment_behind g c header

pub returns-in-Err-clause-any_moment_behind : goal.returns-in-Err-clause-any_moment_behind
returns-in-Err-clause-any_moment_behind g c lead past k =
    let bodies = map batch_text k.batches in
    let text : body_of c.batch_of-batch.result ≡ batch_text c.args.events.now =
    ap (λ (v : Vec ℕ). v.items) (c.batch_of-batch.ensures ∙ c.replace-body.ensures.value) ∙ c.put_records.ensures.items in
    moments g.D.Disk lead past c.args.events.now k.batches k.whole k.fits c.put_records.ensures.fits c.args.self.now.log.disk c.append-appended.new.self.disk
    (subst (λ (l : List ℕ). LeavesOnly g.D.Disk c.args.self.now.log.disk c.append-appended.new.self.disk (IsBeforeOrAfter lead bodies l)) text (c.append-appended.ensures.any_moment lead bodies k.has))

pub returns-in-Err-clause-any_moment : goal.returns-in-Err-clause-any_moment
returns-in-Err-clause-any_moment g c = returns-in-Err-clause-any_moment_behind g c header
