use Rattle.std.specs.Global.{Vec}
use Rattle.std.proofs.Common.{◌≡◌, ◌≢◌, ◌+◌, ◌-◌, ℕ, List, length, min, take, drop, Result, Err, IfOk, IfErr, sym, ◌∙◌, ap, subst, arith}
use Rattle.hg_model.specs.declared.event.Named.{Named}
use Rattle.hg_model.specs.declared.verdict.Refusal.{Refusal}
use Rattle.hg_model.specs.declared.verdict.Refusal.TheVariants.{Damaged}
use Rattle.hg_journals.proofs.Collecting.{found_wanted, inside, reads_on}
use Rattle.hg_journals.proofs.Walking.{true_before}
use Rattle.hg_journals.proofs.pair.JournalPair.collect.Goals as goal

pub returns-in_err-reader-clause-whole : goal.returns-in_err-reader-clause-whole
returns-in_err-reader-clause-whole g c base events honest k =
    let p = c.args.self.now in
    let same : c.from_residual.result ≡ Err c.in_err-reader.field-0.0 = grind arith in
    let wanted : c.min-wanted.result ≡ min c.args.max ((p.last - p.base) - c.saturating_sub-passed.result) = grind arith in
    subst (λ (r : Result (Vec Named) Refusal). IfErr r (λ e. e ≢ Damaged)) (sym same)
    (λ told. inside (p.base + c.saturating_sub-passed.result) p.base p.last (omega arith) (omega (arith, wanted, c.if-wanted-eq0.false, p.order, p.order_of_last)) (c.in_err-reader.ensures.damaged base events honest k (ap (λ (x : Refusal). Err x) told)))

pub returns-clause-found : goal.returns-clause-found
returns-clause-found g c base events honest k =
    let p = c.args.self.now in
    let passed : c.saturating_sub-passed.result ≡ (c.args.from - 1) - p.base = grind arith in
    let wanted : c.min-wanted.result ≡ min c.args.max ((p.last - p.base) - ((c.args.from - 1) - p.base)) = grind arith in
    let at = c.in_ok-reader.ensures.first base events (true_before g.D.Disk c.min-wanted.result c.events_behind.new.self c.take.new.self c.take.result c.take.ensures.reads honest) k in
    let got = c.take.ensures.found base events at.0 honest (c.in_ok-reader.ensures.keeps base events (true_before g.D.Disk c.min-wanted.result c.events_behind.new.self c.take.new.self c.take.result c.take.ensures.reads honest) k) at.2 in
    let place : length at.0 ≡ (c.args.from - 1) - base = omega (arith, at.1, k.begins, passed) in
    let size : length events ≡ p.last - p.base = omega (arith, k.begins, k.ends) in
    subst (λ (xs : List Named). IfOk c.take.result (λ found. found.items ≡ xs))
    (ap (λ (n : ℕ). take c.min-wanted.result (drop n events)) place
    ∙ found_wanted events ((c.args.from - 1) - base) c.min-wanted.result c.args.max (p.last - p.base) size (wanted ∙ ap (λ (b : ℕ). min c.args.max ((p.last - p.base) - ((c.args.from - 1) - b))) k.begins)) got

pub returns-clause-whole : goal.returns-clause-whole
returns-clause-whole g c base events honest k =
    let at = c.in_ok-reader.ensures.first base events (true_before g.D.Disk c.min-wanted.result c.events_behind.new.self c.take.new.self c.take.result c.take.ensures.reads honest) k in
    c.take.ensures.whole base events at.0 honest (c.in_ok-reader.ensures.keeps base events (true_before g.D.Disk c.min-wanted.result c.events_behind.new.self c.take.new.self c.take.result c.take.ensures.reads honest) k) at.2

pub returns-clause-keeps : goal.returns-clause-keeps
returns-clause-keeps g c base events honest k = c.take.ensures.keeps base events (c.in_ok-reader.ensures.keeps base events (true_before g.D.Disk c.min-wanted.result c.events_behind.new.self c.take.new.self c.take.result c.take.ensures.reads honest) k)

pub returns-clause-reads : goal.returns-clause-reads
returns-clause-reads g c =
    let p = c.args.self.now in
    let passed : c.saturating_sub-passed.result ≡ (c.args.from - 1) - p.base = grind arith in
    let wanted : c.min-wanted.result ≡ min c.args.max ((p.last - p.base) - ((c.args.from - 1) - p.base)) = grind arith in
    reads_on g.D.Disk _ c.min-wanted.result _ p c.events_behind.new.self c.take.new.self c.in_ok-reader.reader c.take.result (omega (arith, passed, wanted)) c.in_ok-reader.ensures.reads c.take.ensures.reads c.if-self.false
