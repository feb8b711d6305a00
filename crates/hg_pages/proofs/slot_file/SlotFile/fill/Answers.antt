use Rattle.std.proofs.Common.{◌*◌, ℕ, length, take, drop, refl, ap, ◌∙◌, arith, rules}
use Rattle.hg_disk.proofs.Moments.{read_leaves}
use Rattle.hg_pages.specs.Runs.{HasRun}
use Rattle.hg_pages.proofs.Keeping.{as_known}
use Rattle.hg_pages.proofs.Runs.{read_slots}
use Rattle.hg_pages.proofs.slot_file.SlotFile.fill.Goals as goal

pub returns-in_err-read_at-clause-stays : goal.returns-in_err-read_at-clause-stays
returns-in_err-read_at-clause-stays g c = record {
  known = search rules;
  state = c.read_at.ensures.state;
  any_moment = read_leaves g.D.Disk c.args.self.now.disk c.read_at.new.self c.read_at.ensures.state c.read_at.ensures.clock c.read_at.ensures.kept;
  calls = omega (arith, ap length c.read_at.ensures.clock);
  works = refl;
}

pub returns-clause-stays : goal.returns-clause-stays
returns-clause-stays g c = record {
  known = search rules;
  state = c.read_at.ensures.state;
  any_moment = read_leaves g.D.Disk c.args.self.now.disk c.read_at.new.self c.read_at.ensures.state c.read_at.ensures.clock c.read_at.ensures.kept;
  calls = omega (arith, ap length c.read_at.ensures.clock);
  works = refl;
}

pub returns-clause-read : goal.returns-clause-read
returns-clause-read g c honest =
    let file = (g.D.Disk.state c.args.self.now.disk).contents in
    as_known (HasRun c.args.first c.args.count c.read_at.new.buf) c.args.self.now.is_broken (g.D.Disk.state c.args.self.now.before.value).contents file c.if-self.false
    (read_slots file c.args.first c.args.count (c.args.first * 3080) c.read_at.new.buf (omega arith) (omega (arith, c.len.ensures.value, c.if-end-len.false))
    (c.in_ok-read_at.ensures.bytes honest ∙ ap (λ (n : ℕ). take n (drop (c.args.first * 3080) file)) c.requires.length))
