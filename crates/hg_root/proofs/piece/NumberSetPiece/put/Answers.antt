use Rattle.std.proofs.Common.{arith}
use Rattle.std.proofs.lemmas.List.{get_or_default}
use Rattle.hg_root.proofs.piece.NumberSetPiece.put.Goals as goal

pub put_each-requires : goal.put_each-requires
put_each-requires c = λ k d lt. let fits = c.type_inv.members k in let same = get_or_default c.as_slice-members.result.now k d 0 lt in omega arith
