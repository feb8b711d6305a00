use Rattle.std.proofs.Common.{refl, arith, ◌≡◌, ◌-◌, length, take, true}
use Rattle.std.proofs.lemmas.Slice.{pushed}
use Rattle.hg_wire.proofs.StoredLemmas.{pushed_fits, pushed_cut}
use Rattle.hg_wire.proofs.begun.BegunLine.push.Goals as goal

pub returns-then-bytes-room : goal.returns-then-bytes-room
returns-then-bytes-room c =
    let inside = c.self.inside in
    let now = pushed c.args.bytes.now refl c.unwrap.ensures c.extend_from_slice.ensures.items in
    let full : inside.is_cut ≡ true → length inside.bytes.items ≡ 257 = λ cut. omega (arith, inside.bytes.ok.0, c.self.invariant.2 cut) in
    rw (← c.self.view_is) (pushed_fits inside.bytes.items c.args.bytes.now _ inside.is_cut (omega (arith, inside.bytes.ok.0)) full (omega (arith, inside.bytes.ok.0)) now)

pub returns-else-bytes-room : goal.returns-else-bytes-room
returns-else-bytes-room c =
    let inside = c.self.inside in
    let room : c.len-room.result ≡ length inside.bytes.items = omega (arith, inside.bytes.ok.0) in
    let pushed_part = pushed (take (257 - c.len-room.result) c.args.bytes.now) refl c.unwrap-else-bytes-room.ensures c.extend_from_slice-else-bytes-room.ensures.items in
    let now = rw room at pushed_part in
    let full : inside.is_cut ≡ true → length inside.bytes.items ≡ 257 = λ cut. omega (arith, inside.bytes.ok.0, c.self.invariant.2 cut) in
    rw (← c.self.view_is) (pushed_cut inside.bytes.items c.args.bytes.now _ inside.is_cut (omega (arith, inside.bytes.ok.0)) full (omega arith) now)
