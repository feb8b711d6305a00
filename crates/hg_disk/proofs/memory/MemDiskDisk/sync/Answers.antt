use Rattle.std.proofs.Common.{◌+◌, arith, rules}
use Rattle.hg_disk.proofs.Rooming.{less_room}
use Rattle.hg_disk.proofs.memory.MemDiskDisk.sync.Goals as goal

pub returns-clause-room : goal.returns-clause-room
returns-clause-room c n b had =
    let tape = c.makes_room.ensures.stays n b had.tape in
    (search rules, record { sound = c.replace-is_sound.ensures.after; tape = c.keep.ensures.stays n b (less_room _ (n + 1) b _ (omega arith) tape); bytes_fit = had.bytes_fit })
