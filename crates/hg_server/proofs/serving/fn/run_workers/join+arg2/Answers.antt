use denote.Builtin.{unit}
use denote.Param.{param}
use denote.Param.Send.{IsSend, IsSync, arg_sync, param_sync, sendable, shr_sync}
use denote.Exit.{no}
use Rattle.std.proofs.Common.{[], ◌∷◌}
use Rattle.std.proofs.Crossing.{crosses}
use Rattle.std.below.std_heap.proofs.GlobalAllocator.TheSendSync as allocator
use Rattle.std.proofs.alloc.Global.TheSendSync as heap
use Rattle.hg_server.proofs.listening.Connection.TheSendSync as stream
use Rattle.crossbeam_channel.proofs.channel.Receiver.TheSendSync as receiver
use Rattle.crossbeam_channel.proofs.channel.Sender.TheSendSync as sender
use Rattle.hg_server.proofs.Crossing.{guest_send, shared_sync, closure_sync}
use Rattle.hg_server.proofs.health.Terms.TheSendSync as terms
use Rattle.hg_server.proofs.serving.fn.run_workers.join+arg2.Goals as goal

pub map_vec-requires-sync-F : goal.map_vec-requires-sync-F
map_vec-requires-sync-F g c κs within =
    let device : IsSend (param 0 g.row.D) = c.requires.0 in
    let clock : IsSync (param 4 g.row.R) = c.requires.1 in
    let gate : IsSync (param 3 g.row.G) = c.requires.2 in
    let shared = shared_sync (param 0 g.row.D) (param 1 g.row.A) (param 2 g.row.B) g.D.Disk g.A.Opening g.A.Column g.A.Ledger g.A.Room g.B.Column g.B.Ledger device in
    let queue = receiver.the_sync _ _ _ (guest_send _ stream.the_send) heap.the_send heap.the_sync allocator.the_frees in
    let nothing : IsSend unit = search (sendable, crosses) depth 20 in
    let nudges = sender.the_sync _ _ _ nothing heap.the_send heap.the_sync allocator.the_frees in
    param_sync 4 _ (arg_sync _ no _ (closure_sync _ (_ ∷ (_ ∷ (_ ∷ (_ ∷ (_ ∷ (_ ∷ (_ ∷ []))))))) (
      shr_sync _ κs.1.1.1.1.1.1.1.0 (param 4 g.row.R) clock,
      (
        shr_sync _ κs.1.1.1.1.1.1.1.1.0 _ heap.the_sync,
        (
          shr_sync _ κs.1.1.1.1.1.1.1.1.1.0 _ shared,
          (shr_sync _ κs.1.1.1.1.1.1.1.1.1.1.0 (param 3 g.row.G) gate, (shr_sync _ κs.1.1.1.1.1.1.1.1.1.1.1.0 _ terms.the_sync, (shr_sync _ κs.1.1.1.1.1.1.1.1.1.1.1.1.0 _ queue, (shr_sync _ κs.1.1.1.1.1.1.1.1.1.1.1.1.1.0 _ nudges, tt)))),
        ),
      ),
    )))
