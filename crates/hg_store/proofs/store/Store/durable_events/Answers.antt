use Rattle.std.proofs.Common.{rules, ◌≡◌, ◌-◌, ℕ, List, take, IfOk, sym, subst}
use Rattle.hg_model.specs.declared.event.Named.{Named}
use Rattle.hg_journals.specs.Journals.{HaveJournals, behind}
use Rattle.hg_journals.specs.Pairs.{first_of, second_of}
use Rattle.hg_journals.proofs.Imaging.{reads}
use Rattle.hg_journals.proofs.Keeping.{once}
use Rattle.hg_journals.proofs.Walking.{true_of}
use Rattle.hg_store.specs.Shown.{ShownStore}
use Rattle.hg_store.proofs.Reading.{images_left, images_same, read_on}
use Rattle.hg_store.proofs.store.Store.durable_events.Goals as goal

pub returns-then-self-clause-images : goal.returns-then-self-clause-images
returns-then-self-clause-images g c = images_same g.D.Disk c.args.self.now.devices

pub returns-clause-images : goal.returns-clause-images
returns-clause-images g c =
    rw (← c.self.view_is) (images_left g.D.Disk _ (first_of c.collect.new.self) (second_of c.collect.new.self) c.collect.ensures.reads.first.any_moment c.collect.ensures.reads.second.any_moment)

pub invariant_of-self : goal.invariant_of-self
invariant_of-self g c = record {
  lawful = c.self.invariant.lawful;
  few = c.self.invariant.few;
  room = c.self.invariant.room;
  journals = search rules;
  fits = search rules;
  counting = c.self.invariant.counting;
  words = c.self.invariant.words;
  checkpointer = c.self.invariant.checkpointer;
  sealed = c.self.invariant.sealed;
  stands = λ honest.
      let k = c.self.invariant.stands honest in
      (k.0, read_on g.D.Disk _ k.0 k.1 c.collect.new.self c.collect.ensures.reads.first.state c.collect.ensures.reads.second.state (λ keeps. c.collect.ensures.keeps k.0.base k.0.events (true_of g.D.Disk g.met.D.Disk.honest_reads honest c.collect.new.self) keeps));
}

pub returns-clause-events : goal.returns-clause-events
returns-clause-events g c base events honest is =
    let i = c.self.inside in
    let k = c.self.invariant.stands honest in
    let keeps = (k.1.works (search rules)).journals in
    let here = subst (λ (v : ShownStore g.row.D.Denot). HaveJournals base events (g.D.Disk.state v.devices.journal0).contents (g.D.Disk.state v.devices.journal1).contents) (sym c.self.view_is) is in
    let same = once (g.D.Disk.state (first_of i.journals)).contents (g.D.Disk.state (second_of i.journals)).contents base k.0.base events k.0.events here (reads g.D.Disk i.journals k.0.base k.0.events keeps) in
    subst (λ (n : ℕ). IfOk c.collect.result (λ found. found.items ≡ take c.args.max (behind n (c.args.from - 1) events))) (sym same.0)
    (subst (λ (es : List Named). IfOk c.collect.result (λ found. found.items ≡ take c.args.max (behind k.0.base (c.args.from - 1) es))) (sym same.1) (c.collect.ensures.found k.0.base k.0.events (true_of g.D.Disk g.met.D.Disk.honest_reads honest c.collect.new.self) keeps))

pub returns-clause-whole : goal.returns-clause-whole
returns-clause-whole g c honest =
    let k = c.self.invariant.stands honest in
    c.collect.ensures.whole k.0.base k.0.events (true_of g.D.Disk g.met.D.Disk.honest_reads honest c.collect.new.self) (k.1.works (search rules)).journals
