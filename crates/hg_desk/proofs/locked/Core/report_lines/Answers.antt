use Rattle.std.proofs.Common.{◌≡◌, ◌∙◌, inl, inr, ℕ, Bool, cond, length, Result, Ok, Err, arith, ap, sym, subst}
use Rattle.std.proofs.lemmas.Bool.{false≢true}
use Rattle.std.specs.List.{AllByRecursion}
use Rattle.hg_model.specs.ThreadSets.{IsThreadSet}
use Rattle.hg_model.specs.declared.report.Report.{Report}
use Rattle.hg_model.specs.declared.verdict.Refusal.{Refusal}
use Rattle.hg_model.specs.declared.verdict.Refusal.TheVariants.{Broken}
use Rattle.hg_protocol.specs.declared.reply.Reply.{Reply}
use Rattle.hg_protocol.specs.declared.reply.Reply.TheVariants.{Lines}
use Rattle.hg_store.specs.Shown.{ShownStore, live}
use Rattle.hg_desk.specs.Conversation.{ReportsAnswer, lines_of}
use Rattle.hg_desk.proofs.locked.Core.report_lines.Goals as goal

abbrev HasSet : Report → Type 0
HasSet r = IsThreadSet r.threads

pub returns-clause-answer : goal.returns-clause-answer
returns-clause-answer g c =
    let last = live g.D.Disk c.self.inside.store in
    let works = c.in-Ok.ensures.works in
    let e : c.events.result ≡ Ok last.events = c.events.ensures ∙ ap (λ (b : Bool). cond {A = Result ℕ Refusal} b (Err Broken) (Ok last.events)) works in
    let t : c.total.result ≡ Ok last.total = c.total.ensures ∙ ap (λ (b : Bool). cond {A = Result ℕ Refusal} b (Err Broken) (Ok last.total)) works in
    let events : c.unwrap_or-events.result ≡ last.events = grind arith in
    let races : c.unwrap_or-races.result ≡ last.total = grind arith in
    let reports : c.from_vec.result ≡ last.reports = c.from_vec.ensures ∙ c.in-Ok-reports.ensures.reports in
    let reply : Reply = Lines (record { reports = c.from_vec.result; events = c.unwrap_or-events.result; races = c.unwrap_or-races.result; segments = length c.in-Ok.segments.now }) in
    let said : reply ≡ Lines (lines_of last) = λ i. Lines (record { reports = reports i; events = events i; races = races i; segments = length (c.in-Ok.ensures.segments i) }) in
    subst (λ (s : ShownStore g.row.D.Denot). ReportsAnswer g.D.Disk.is_honest s.is_broken (live g.D.Disk s) reply) c.self.view_is
    (subst (λ (b : Bool). ReportsAnswer g.D.Disk.is_honest b last reply) (sym works) (inl said))

pub returns-then-not-are_thread_sets-clause-answer : goal.returns-then-not-are_thread_sets-clause-answer
returns-then-not-are_thread_sets-clause-answer g c =
    let last = live g.D.Disk c.self.inside.store in
    let reply = c.refused-then-not-are_thread_sets.result in
    subst (λ (s : ShownStore g.row.D.Denot). ReportsAnswer g.D.Disk.is_honest s.is_broken (live g.D.Disk s) reply) c.self.view_is
    (subst (λ (b : Bool). ReportsAnswer g.D.Disk.is_honest b last reply) (sym c.in-Ok.ensures.works)
    (inr (inr (
      c.refused-then-not-are_thread_sets.ensures.answer,
      λ honest. false≢true (sym c.if-not-are_thread_sets.true ∙ c.are_thread_sets.ensures.1 (subst (AllByRecursion HasSet) (sym (c.as_slice.ensures.value ∙ c.in-Ok-reports.ensures.reports)) (c.stands.ensures.sets honest).reports)),
    ))))

pub returns-clause-fits : goal.returns-clause-fits
returns-clause-fits g c =
    subst (AllByRecursion HasSet) (c.as_slice.ensures.value ∙ sym c.from_vec.ensures) (c.are_thread_sets.ensures.0 c.if-not-are_thread_sets.false)
