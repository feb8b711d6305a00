use Rattle.std.proofs.Common.{◌≡◌, ◌≤◌, ◌+◌, length, ap, arith, rules}
use Rattle.std.specs.Vec.{vec_capacity}
use Rattle.hg_disk.specs.Memory.{state_of}
use Rattle.hg_disk.specs.State.{overwritten}
use Rattle.hg_disk.proofs.Rooming.{less_room, length-overwritten_le}
use Rattle.hg_disk.proofs.memory.MemDiskDisk.write_at.Goals as goal

pub returns-clause-room : goal.returns-clause-room
returns-clause-room c n b had fits =
    let bytes = c.args.bytes.now in
    let file = c.args.self.now.bytes in
    let shown : length file.items ≡ length (state_of c.args.self.now).contents = ap length c.args.self.now.shows in
    let beyond : c.args.at + length bytes ≤ vec_capacity file = omega (arith, had.bytes_fit, shown) in
    let tape = c.makes_room.ensures.stays n _ (less_room _ (n + 1) _ (length bytes + b) (omega arith) had.tape) in
    let done = c.writes-is_done.ensures.room n b (search rules) tape fits beyond in
    let is : c.writes-is_done.new.file.items ≡ overwritten file.items c.args.at bytes = search rules in (
      search rules,
      record {
        sound = c.replace-is_sound.ensures.after;
        tape = c.keep.ensures.stays n b (c.writes-is_done.ensures.stays n b tape);
        bytes_fit = omega (arith, had.bytes_fit, shown, ap length is, length-overwritten_le file.items c.args.at bytes, c.writes-is_done.ensures.capacity);
      },
    )
