use Rattle.std.proofs.Common.{◌++◌, refl}
use Rattle.hg_gate.specs.Batches.{base_front}
use Rattle.hg_journal.specs.Reading.{disk_of}
use Rattle.hg_journals.proofs.Stepping.{appending, ends_with, whole_with}
use Rattle.hg_journals.proofs.Walking.{readers_stay}
use Rattle.hg_journals.proofs.pair.JournalPair.append.Goals as goal

pub returns-in_err-append-clause-any_moment : goal.returns-in_err-append-clause-any_moment
returns-in_err-append-clause-any_moment g c base past k =
    let p = c.args.self.now in
    appending g.D.Disk p base past k c.args.events.now c.requires.fits (disk_of c.append.new.self) (c.append.ensures.any_moment_behind (base_front p.newer_base) k.current k.newer)

pub returns-clause-any_moment : goal.returns-clause-any_moment
returns-clause-any_moment g c base past k =
    let p = c.args.self.now in
    appending g.D.Disk p base past k c.args.events.now c.requires.fits (disk_of c.append.new.self) (c.append.ensures.any_moment_behind (base_front p.newer_base) k.current k.newer)

pub returns-clause-added : goal.returns-clause-added
returns-clause-added g c base past k =
    let p = c.args.self.now in
    record {
      former = k.former;
      current = k.current ++ c.args.events.now;
      older = k.older;
      newer = c.in_ok-append.ensures.added_behind (base_front p.newer_base) k.current k.newer;
      whole = whole_with g.D.Disk p base past k c.args.events.now c.requires.fits;
      works = refl;
      begins = k.begins;
      turned_at = k.turned_at;
      ends = ends_with g.D.Disk p base past k c.args.events.now c.requires.fits;
    }

pub returns-clause-readers : goal.returns-clause-readers
returns-clause-readers g c reader seen h =
    let p = c.args.self.now in
    readers_stay g.D.Disk reader.in_newer p _ reader.reader seen refl refl refl refl (λ read at. c.in_ok-append.ensures.readers_behind (base_front p.newer_base) reader.reader read at) h
