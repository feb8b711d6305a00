use Rattle.std.proofs.Common.{◌≡◌, ◌<◌, ◌≤◌, ◌+◌, ◌-◌, ◌/◌, ◌∙◌, ℕ, length, take, drop, refl, ap, subst, arith, length-append, length-drop}
use Rattle.std.proofs.lemmas.List.{length-take-le}
use Rattle.hg_disk.specs.State.{DiskState, IsImage}
use Rattle.hg_disk.proofs.Moments.{started}
use Rattle.hg_gate.proofs.Walking.{read_on}
use Rattle.hg_migration.specs.Copying.{Appends}
use Rattle.hg_migration.proofs.Copied.{as_many, closed_now, closed_on, no_more, one_more, pieces_grow, piece_more}
use Rattle.hg_migration.proofs.copying.append_rest.Goals as goal

pub loop-next-init : goal.loop-next-init
loop-next-init g c =
    let file = (g.D.Disk.state c.args.from.now).contents in
    let old = (g.D.Disk.state c.args.to.now).contents in
    record {
      behind = omega arith;
      within = c.requires.within;
      buffer = c.requires.buffer;
      state = refl;
      any_moment = started g.D.Disk c.args.from.now (IsImage (g.D.Disk.state c.args.from.now)) (λ image is. is);
      appended = as_many g.D.Disk file old old c.args.at 0 (c.args.at - c.args.at) (omega arith) (no_more g.D.Disk file old c.args.at);
      gate = λ gate kept. kept;
      closed = closed_now g.D.Disk c.args.to.now;
      read = omega arith;
      written = omega arith;
      full_reads = λ more. omega arith;
      full_writes = λ more. omega arith;
      failures = refl;
    }

pub returns-in_err-append_piece-clause-any_moment : goal.returns-in_err-append_piece-clause-any_moment
returns-in_err-append_piece-clause-any_moment g c =
    closed_on g.D.Disk c.args.to.now c.loop-next.to c.append_piece.new.to c.loop-next.invariant.closed c.loop-next.invariant.gate c.append_piece.ensures.any_moment

pub returns-in_err-append_piece-clause-read : goal.returns-in_err-append_piece-clause-read
returns-in_err-append_piece-clause-read g c =
    let size = length (g.D.Disk.state c.args.from.now).contents in
    let more : c.loop-next.next < size = omega (arith, c.loop-next-test.true, c.len-len.ensures.value) in
    record {
      state = c.append_piece.ensures.read.state ∙ c.loop-next.invariant.state;
      any_moment = read_on g.D.Disk c.args.from.now c.loop-next.from c.append_piece.new.from c.loop-next.invariant.any_moment c.loop-next.invariant.state c.append_piece.ensures.read.any_moment;
      calls = omega (arith, c.append_piece.ensures.read.calls, c.loop-next.invariant.full_reads more, pieces_grow (c.loop-next.next - c.args.at) (size - c.args.at) (omega (arith, c.loop-next.invariant.within)));
    }

pub loop-next-preserved : goal.loop-next-preserved
loop-next-preserved g c =
    let disk = g.D.Disk in
    let file = (disk.state c.args.from.now).contents in
    let old = (disk.state c.args.to.now).contents in
    let mid = (disk.state c.loop-next.to).contents in
    let new = (disk.state c.append_piece.new.to).contents in
    let at = c.args.at in
    let next = c.loop-next.next in
    let count = c.min-count.result in
    let before = c.loop-next.invariant in
    let one = c.in_ok-append_piece.ensures in
    let size = c.len-len.ensures.value in
    let fits : count ≤ 65536 = omega (arith, c.min-count.ensures) in
    let within : next + count ≤ length file = omega (arith, c.min-count.ensures, before.within, size) in
    let more : next < length file = omega (arith, c.loop-next-test.true, size) in
    let whole : next + count < length file → count ≡ 65536 = λ (left : next + count < length file). omega (arith, c.min-count.ensures, left, size) in
    let taken : length (take count c.loop-next.buffer) ≡ count = length-take-le count c.loop-next.buffer (omega (arith, fits, before.buffer)) in
    let grow = pieces_grow (next - at) (next + count - at) (omega arith) in
    let read = one.read.calls in
    let written = one.calls in
    let reads = before.full_reads more in
    let writes = before.full_writes more in
    record {
      behind = omega (arith, before.behind);
      within = within;
      buffer = omega (arith, length-append c.append_piece.new.buffer (drop count c.loop-next.buffer), one.size, taken, length-drop count c.loop-next.buffer, before.buffer, fits);
      state = one.read.state ∙ before.state;
      any_moment = read_on disk c.args.from.now c.loop-next.from c.append_piece.new.from before.any_moment before.state one.read.any_moment;
      appended =
          let piece = subst (λ (s : DiskState). Appends disk s.contents next (length (take count c.loop-next.buffer)) mid new) before.state one.appended in
          as_many disk file old new at ((next - at) + count) (next + count - at) (omega (arith, before.behind))
          (one_more disk file old mid new at next (next - at) count (omega (arith, before.behind)) before.appended (as_many disk file mid new next (length (take count c.loop-next.buffer)) count taken piece));
      gate = λ gate kept. one.gate gate (before.gate gate kept);
      closed = closed_on disk c.args.to.now c.loop-next.to c.append_piece.new.to before.closed before.gate one.any_moment;
      read = omega (arith, read, reads, grow);
      written = omega (arith, written, writes, grow);
      full_reads = λ left.
          let same : next + count - at ≡ (next - at) + 65536 = omega (arith, whole left, before.behind) in
          omega (arith, read, reads, ap (λ (n : ℕ). n / 65536) same, piece_more (next - at));
      full_writes = λ left.
          let same : next + count - at ≡ (next - at) + 65536 = omega (arith, whole left, before.behind) in
          omega (arith, written, writes, ap (λ (n : ℕ). n / 65536) same, piece_more (next - at));
      failures = one.failures ∙ before.failures;
    }
