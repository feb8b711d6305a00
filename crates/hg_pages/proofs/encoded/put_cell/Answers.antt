use Rattle.std.proofs.Common.{◌+◌, ◌*◌, ◌∙◌, ℕ, List, ap, arith}
use Rattle.hg_disk.specs.State.{replaced}
use Rattle.hg_pages.proofs.Putting.{put_three}
use Rattle.hg_pages.proofs.encoded.put_cell.Goals as goal

pub returns-clause-bytes : goal.returns-clause-bytes
returns-clause-bytes c =
    let at : ℕ = 8 + 12 * c.args.word in
    let numbers = c.numbers_of-head.result in
    put_three c.args.bytes.now c.put_number.new.bytes c.put_number-2.new.bytes c.put_number-3.new.bytes at numbers.0 numbers.1 numbers.2 (omega (arith, c.requires.word, c.requires.length)) c.put_number.ensures.bytes c.put_number-2.ensures.bytes c.put_number-3.ensures.bytes
    ∙ ap (λ (l : List ℕ). replaced c.args.bytes.now at l) c.numbers_of-head.ensures.spelled
