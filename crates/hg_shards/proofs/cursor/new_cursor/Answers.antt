use Rattle.std.proofs.Common.{◌≡◌, replicate, refl, rules}
use Rattle.hg_shards.proofs.Reading.{first_read}
use Rattle.hg_shards.proofs.cursor.new_cursor.Goals as goal

pub returns : goal.returns
returns c =
    let zeros : c.in_ok-vec.field-0.items ≡ replicate c.args.parts 0 = search rules in
    record { count = refl; given = first_read c.args.parts c.in_ok-vec.field-0.items zeros }
