use Rattle.hg_root.proofs.Appending.{put_twice}
use Rattle.hg_root.proofs.piece.PageSlotPiece.put.Goals as goal

pub returns : goal.returns
returns c = put_twice c.extend_from_slice-2.result _ _ _ _ _ _ _ c.in_ok-extend_from_slice.ensures.items c.extend_from_slice-2.ensures.items c.to_be_bytes.ensures c.to_be_bytes-2.ensures
