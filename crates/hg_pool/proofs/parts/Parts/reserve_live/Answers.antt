use Rattle.std.proofs.Common.{arith}
use Rattle.hg_pool.proofs.Stepping.{sound_room}
use Rattle.hg_pool.proofs.parts.Parts.reserve_live.Goals as goal

pub overflow_add-len : goal.overflow_add-len
overflow_add-len g c = omega (arith, c.len.ensures.value, c.requires.sound.few, c.requires.sound.most_frames)

pub returns-in_err-reserve-clause-sound : goal.returns-in_err-reserve-clause-sound
returns-in_err-reserve-clause-sound g c =
    let p = c.args.self.now in
    let e = c.reserve.ensures in
    sound_room p.root p.frozen p.live c.reserve.new.self p.waiting p.copies p.frames p.slots p.is_sealed c.requires.sound e.entries e.no_less.0 e.no_less.1

pub returns-clause-sound : goal.returns-clause-sound
returns-clause-sound g c =
    let p = c.args.self.now in
    let e = c.reserve.ensures in
    sound_room p.root p.frozen p.live c.reserve.new.self p.waiting p.copies p.frames p.slots p.is_sealed c.requires.sound e.entries e.no_less.0 e.no_less.1
