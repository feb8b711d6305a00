use Rattle.std.proofs.Common.{◌≡◌, ◌+◌, [], ◌∷◌, ◌++◌, length, refl, sym, ◌∙◌, ap, subst, arith}
use Rattle.hg_disk.specs.State.{DiskState, settled}
use Rattle.hg_disk.proofs.Moments.{joined}
use Rattle.hg_gate.specs.Batches.{closed_gate, IsBody, IsBeforeOrAfter, spelled}
use Rattle.hg_gate.proofs.Appending.{settled_log, behind, staged, mid_state, opens, new_state}
use Rattle.hg_gate.proofs.Crash.{frame_of, each_push, new_end}
use Rattle.hg_gate.proofs.log.Log.append.Goals as goal

pub returns-in_err-write_through-clause-any_moment : goal.returns-in_err-write_through-clause-any_moment
returns-in_err-write_through-clause-any_moment g c front bodies h =
    staged g.D.Disk front c.args.self.now bodies h c.args.batch.now.body.items c.write_through.new.disk (c.args.self.now.end + 1) c.deref.result.now refl c.write_through.ensures.any_moment

pub returns-in_err-write_through-2-clause-any_moment : goal.returns-in_err-write_through-2-clause-any_moment
returns-in_err-write_through-2-clause-any_moment g c front bodies h =
    let log = c.args.self.now in
    let body = c.args.batch.now.body.items in
    let mid = c.write_through.new.disk in
    let framed : c.deref.result.now ≡ frame_of body = c.deref.ensures.value ∙ c.fill.ensures.items ∙ ap frame_of c.body.ensures.same in
    let fits : IsBody body = subst IsBody c.body.ensures.same c.body.ensures.fits in
    let stands = mid_state g.D.Disk front log bodies h body mid (log.end + 1) c.deref.result.now refl framed c.in_ok-write_through.ensures.durable in
    joined g.D.Disk log.disk mid c.write_through-2.new.disk (IsBeforeOrAfter front bodies body)
    (staged g.D.Disk front log bodies h body mid (log.end + 1) c.deref.result.now refl c.write_through.ensures.any_moment)
    (opens g.D.Disk front log bodies h body mid c.write_through-2.new.disk fits stands c.write_through-2.ensures.any_moment)

pub returns-clause-any_moment : goal.returns-clause-any_moment
returns-clause-any_moment g c front bodies h =
    let log = c.args.self.now in
    let body = c.args.batch.now.body.items in
    let mid = c.write_through.new.disk in
    let framed : c.deref.result.now ≡ frame_of body = c.deref.ensures.value ∙ c.fill.ensures.items ∙ ap frame_of c.body.ensures.same in
    let fits : IsBody body = subst IsBody c.body.ensures.same c.body.ensures.fits in
    let stands = mid_state g.D.Disk front log bodies h body mid (log.end + 1) c.deref.result.now refl framed c.in_ok-write_through.ensures.durable in
    joined g.D.Disk log.disk mid c.write_through-2.new.disk (IsBeforeOrAfter front bodies body)
    (staged g.D.Disk front log bodies h body mid (log.end + 1) c.deref.result.now refl c.write_through.ensures.any_moment)
    (opens g.D.Disk front log bodies h body mid c.write_through-2.new.disk fits stands c.write_through-2.ensures.any_moment)

pub returns-clause-durable : goal.returns-clause-durable
returns-clause-durable g c front bodies h =
    let log = c.args.self.now in
    let body = c.args.batch.now.body.items in
    let mid = c.write_through.new.disk in
    let framed : c.deref.result.now ≡ frame_of body = c.deref.ensures.value ∙ c.fill.ensures.items ∙ ap frame_of c.body.ensures.same in
    let fits : IsBody body = subst IsBody c.body.ensures.same c.body.ensures.fits in
    let stands = mid_state g.D.Disk front log bodies h body mid (log.end + 1) c.deref.result.now refl framed c.in_ok-write_through.ensures.durable in
    let new = new_state g.D.Disk front log bodies h body mid c.write_through-2.new.disk stands c.in_ok-write_through-2.ensures.durable in
    λ image is.
    settled_log front (g.D.Disk.state c.write_through-2.new.disk) (bodies ++ body ∷ []) image (spelled front (bodies ++ body ∷ []) ++ closed_gate ∷ behind g.D.Disk front log bodies h body) new
    (record { gate = closed_gate; rest = behind g.D.Disk front log bodies h body; spelling = refl; closed = omega arith; each = each_push bodies body h.reads.has.each fits }) is

pub returns-clause-added : goal.returns-clause-added
returns-clause-added g c front bodies h =
    let log = c.args.self.now in
    let body = c.args.batch.now.body.items in
    let mid = c.write_through.new.disk in
    let framed : c.deref.result.now ≡ frame_of body = c.deref.ensures.value ∙ c.fill.ensures.items ∙ ap frame_of c.body.ensures.same in
    let fits : IsBody body = subst IsBody c.body.ensures.same c.body.ensures.fits in
    let stands = mid_state g.D.Disk front log bodies h body mid (log.end + 1) c.deref.result.now refl framed c.in_ok-write_through.ensures.durable in
    let new = new_state g.D.Disk front log bodies h body mid c.write_through-2.new.disk stands c.in_ok-write_through-2.ensures.durable in
    let size : c.len.result ≡ length (frame_of body) = omega (arith, c.len.ensures, ap length (c.fill.ensures.items ∙ ap frame_of c.body.ensures.same)) in
    let file = spelled front (bodies ++ body ∷ []) ++ closed_gate ∷ behind g.D.Disk front log bodies h body in
    let bytes : (g.D.Disk.state c.write_through-2.new.disk).contents ≡ file = ap (λ (s : DiskState). s.contents) new in
    record {
      reads = record {
        works = refl;
        begins = h.reads.begins;
        has = record { gate = closed_gate; rest = behind g.D.Disk front log bodies h body; spelling = bytes; closed = omega arith; each = each_push bodies body h.reads.has.each fits };
        end = omega (arith, h.reads.end, size, new_end front bodies h.reads.has.gate h.reads.has.rest h.reads.has.closed h.reads.has.each body);
      };
      durable = new ∙ ap settled (sym bytes);
    }
