use Rattle.std.proofs.Common.{◌≡◌, ◌≤◌, ◌<◌, ◌^◌, cond, false, length, sym, subst, arith}
use Rattle.hg_gate.specs.Gated.{Rests}
use Rattle.hg_root.specs.Finding.{number_in, root_in}
use Rattle.hg_root.specs.Pairs.{Stands}
use Rattle.hg_root.specs.declared.fault.RootFault.TheVariants.{Damaged}
use Rattle.hg_root.proofs.Choosing.{both_true, both_true_in, durable_in, file_is, first_read, if_ok, in_err, no_newest, none_newest, not_read, not_so, of_first, on_err, only_roots, second_read, stands_still, swapped, to_first}
use Rattle.hg_root.proofs.Refusing.{newer_failed, ok_is_no_err, passed_on}
use Rattle.hg_root.proofs.pair.RootPair.newest.Goals as goal

pub returns-in_err-older-clause-damaged : goal.returns-in_err-older-clause-damaged
returns-in_err-older-clause-damaged g c honest is root former newest =
    let one = (g.D.Disk.state c.args.self.now.older.disk).contents in
    let other = (g.D.Disk.state c.args.self.now.newer.disk).contents in
    no_newest one other (c.in_err-older.ensures.damaged (both_true g.D.Disk c.args.self.now.is_turned c.root_of.new.file.disk c.args.self.now.newer.disk honest).0 (passed_on c.from_residual.result c.in_err-older.field-0.0 c.from_residual.ensures.1 is)) root former (of_first g.D.Disk c.args.self.now root former newest)

pub returns-in_err-older-clause-stays : goal.returns-in_err-older-clause-stays
returns-in_err-older-clause-stays g c root former stands =
    in_err c.from_residual.result (stands_still g.D.Disk c.args.self.now c.root_of.new.file c.args.self.now.newer c.root_of.ensures.rests (λ _ rests. rests) root former stands)

pub returns-in_err-older-clause-first : goal.returns-in_err-older-clause-first
returns-in_err-older-clause-first g c = first_read g.D.Disk c.args.self.now c.root_of.new.file.disk c.args.self.now.newer.disk c.root_of.ensures.read (not_read g.D.Disk c.args.self.now.newer.disk)

pub returns-in_err-older-clause-second : goal.returns-in_err-older-clause-second
returns-in_err-older-clause-second g c = second_read g.D.Disk c.args.self.now c.root_of.new.file.disk c.args.self.now.newer.disk c.root_of.ensures.read (not_read g.D.Disk c.args.self.now.newer.disk)

pub returns-in_err-newer-clause-damaged : goal.returns-in_err-newer-clause-damaged
returns-in_err-newer-clause-damaged g c honest is root former newest =
    let one = (g.D.Disk.state c.args.self.now.older.disk).contents in
    let other = (g.D.Disk.state c.args.self.now.newer.disk).contents in
    no_newest other one (c.in_err-newer.ensures.damaged (both_true g.D.Disk c.args.self.now.is_turned c.root_of.new.file.disk c.root_of-2.new.file.disk honest).1 (passed_on c.from_residual-in_err-newer.result c.in_err-newer.field-0.0 c.from_residual-in_err-newer.ensures.1 is)) root former
    (swapped root former one other (of_first g.D.Disk c.args.self.now root former newest))

pub returns-in_err-newer-clause-stays : goal.returns-in_err-newer-clause-stays
returns-in_err-newer-clause-stays g c root former stands =
    in_err c.from_residual-in_err-newer.result (stands_still g.D.Disk c.args.self.now c.root_of.new.file c.root_of-2.new.file c.root_of.ensures.rests c.root_of-2.ensures.rests root former stands)

pub returns-in_err-newer-clause-first : goal.returns-in_err-newer-clause-first
returns-in_err-newer-clause-first g c = first_read g.D.Disk c.args.self.now c.root_of.new.file.disk c.root_of-2.new.file.disk c.root_of.ensures.read c.root_of-2.ensures.read

pub returns-in_err-newer-clause-second : goal.returns-in_err-newer-clause-second
returns-in_err-newer-clause-second g c = second_read g.D.Disk c.args.self.now c.root_of.new.file.disk c.root_of-2.new.file.disk c.root_of.ensures.read c.root_of-2.ensures.read

pub returns-clause-found : goal.returns-clause-found
returns-clause-found g c honest =
    let were = both_true_in g.D.Disk c.args.self.now.is_turned c.root_of.new.file.disk c.root_of-2.new.file.disk c.choose.new.self c.choose.ensures.first c.choose.ensures.second honest in
    let one = (g.D.Disk.state c.args.self.now.older.disk).contents in
    let other = (g.D.Disk.state c.args.self.now.newer.disk).contents in
    if_ok c.choose.result (λ found h. to_first g.D.Disk c.args.self.now found h) (c.choose.ensures.found one other (c.in_ok-older.ensures.found were.0) (c.in_ok-newer.ensures.found were.1))

pub returns-clause-only : goal.returns-clause-only
returns-clause-only g c honest =
    let were = both_true_in g.D.Disk c.args.self.now.is_turned c.root_of.new.file.disk c.root_of-2.new.file.disk c.choose.new.self c.choose.ensures.first c.choose.ensures.second honest in
    let one = (g.D.Disk.state c.args.self.now.older.disk).contents in
    let other = (g.D.Disk.state c.args.self.now.newer.disk).contents in
    let small : length one < 2 ^ 64 = let fits = c.in_ok-older.ensures.fits in omega (arith, fits) in
    let short : length other < 2 ^ 64 = let fits = c.in_ok-newer.ensures.fits in omega (arith, fits) in
    if_ok c.choose.result (λ found h root former newest. only_roots found root former one other small short (of_first g.D.Disk c.args.self.now root former newest) h)
    (c.choose.ensures.found one other (c.in_ok-older.ensures.found were.0) (c.in_ok-newer.ensures.found were.1))

pub returns-clause-stands : goal.returns-clause-stands
returns-clause-stands g c honest one other first second =
    let were = both_true_in g.D.Disk c.args.self.now.is_turned c.root_of.new.file.disk c.root_of-2.new.file.disk c.choose.new.self c.choose.ensures.first c.choose.ensures.second honest in
    let p = c.args.self.now in
    let older_file = cond p.is_turned other one in
    let newer_file = cond p.is_turned one other in
    let durable = durable_in g.D.Disk p one other first second in
    let works : p.older.is_broken ≡ false = not_so p.older.is_broken (λ t. ok_is_no_err (c.in_ok-older.ensures.refuses t)) in
    let other_works : p.newer.is_broken ≡ false = not_so p.newer.is_broken (λ t. ok_is_no_err (c.in_ok-newer.ensures.refuses t)) in
    let rests : Rests g.D.Disk p.older older_file = record { works = works; durable = durable.0 } in
    let rests_other : Rests g.D.Disk p.newer newer_file = record { works = other_works; durable = durable.1 } in
    c.choose.ensures.stands older_file newer_file (c.root_of.ensures.rests older_file rests) (c.root_of-2.ensures.rests newer_file rests_other)
    (file_is g.D.Disk p.older.disk older_file (root_in c.in_ok-older.older) durable.0 (c.in_ok-older.ensures.found were.0))
    (file_is g.D.Disk p.newer.disk newer_file (root_in c.in_ok-newer.newer) durable.1 (c.in_ok-newer.ensures.found were.1))

pub returns-clause-damaged : goal.returns-clause-damaged
returns-clause-damaged g c honest is root former newest =
    let were = both_true_in g.D.Disk c.args.self.now.is_turned c.root_of.new.file.disk c.root_of-2.new.file.disk c.choose.new.self c.choose.ensures.first c.choose.ensures.second honest in
    let one = (g.D.Disk.state c.args.self.now.older.disk).contents in
    let other = (g.D.Disk.state c.args.self.now.newer.disk).contents in
    let x = root_in c.in_ok-older.older in
    let y = root_in c.in_ok-newer.newer in
    let level : (Damaged ≡ Damaged) × (1 ≤ number_in x) × (number_in x ≡ number_in y) = rw is at (c.choose.ensures.damaged) in
    let small : length one < 2 ^ 64 = let fits = c.in_ok-older.ensures.fits in omega (arith, fits) in
    let short : length other < 2 ^ 64 = let fits = c.in_ok-newer.ensures.fits in omega (arith, fits) in
    none_newest x y one other small short (c.in_ok-older.ensures.found were.0) (c.in_ok-newer.ensures.found were.1) level.1 level.2 root former (of_first g.D.Disk c.args.self.now root former newest)

pub returns-clause-stays : goal.returns-clause-stays
returns-clause-stays g c root former stands =
    let still = stands_still g.D.Disk c.args.self.now c.root_of.new.file c.root_of-2.new.file c.root_of.ensures.rests c.root_of-2.ensures.rests root former stands in
    on_err c.choose.result (λ same. subst (λ p. Stands g.D.Disk p root former) (sym same) still) c.choose.ensures.same

pub returns-in_err-newer-clause-device : goal.returns-in_err-newer-clause-device
returns-in_err-newer-clause-device g c =
    newer_failed g.D.Disk.failures c.args.self.now.is_turned c.from_residual-in_err-newer.result c.in_err-newer.field-0.0 c.args.self.now.older.disk c.root_of.new.file.disk c.args.self.now.newer.disk c.root_of-2.new.file.disk
    c.from_residual-in_err-newer.ensures.1 c.in_ok-older.ensures.device c.in_err-newer.ensures.device
