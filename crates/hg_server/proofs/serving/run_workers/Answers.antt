use denote.Builtin.{unit}
use denote.Exit.{no}
use denote.Param.{param}
use denote.Param.Send.{IsSend, IsSync, arg_send, param_send, param_sync, sendable, shr_send}
use Rattle.std.proofs.Common.{rules, [], ◌∷◌}
use Rattle.std.proofs.Crossing.{crosses}
use Rattle.std.below.std_heap.proofs.GlobalAllocator.TheSendSync as allocator
use Rattle.std.proofs.alloc.Global.TheSendSync as heap
use Rattle.hg_server.proofs.listening.Connection.TheSendSync as stream
use Rattle.std.proofs.vec.Vec.TheSendSync as vec
use Rattle.crossbeam_channel.proofs.channel.Receiver.TheSendSync as receiver
use Rattle.crossbeam_channel.proofs.channel.Sender.TheSendSync as sender
use Rattle.hg_server.proofs.Crossing.{guest_send, shared_sync, station_send, closure_send}
use Rattle.hg_server.proofs.health.Terms.TheSendSync as terms
use Rattle.hg_server.proofs.serving.run_workers.Goals as goal

pub join-requires-send-F : goal.join-requires-send-F
join-requires-send-F g c κs within =
    let clock : IsSync g.row.R = search (rules, c.type_bounds) parts 8 in
    let gate : IsSync g.row.G = search (rules, c.type_bounds) parts 8 in
    let shared = shared_sync (param 0 g.row.D) (param 1 g.row.A) (param 2 g.row.B) g.D.Disk g.A.Opening g.A.Column g.A.Ledger g.A.Room g.B.Column g.B.Ledger c.type_bounds.send-D in
    let stations = vec.the_send _ _ _ (station_send (param 1 g.row.A) (param 2 g.row.B) g.A.Opening g.A.Column g.A.Ledger g.A.Room g.B.Column g.B.Ledger) heap.the_send allocator.the_frees in
    let from = receiver.the_send _ _ _ (guest_send _ stream.the_send) heap.the_send heap.the_sync allocator.the_frees in
    let nothing : IsSend unit = search (sendable, crosses) depth 20 in
    let nudges = sender.the_sync _ _ _ nothing heap.the_send heap.the_sync allocator.the_frees in
    param_send 1 _ (arg_send _ no _ (closure_send _ (_ ∷ (_ ∷ (_ ∷ (_ ∷ (_ ∷ (_ ∷ (_ ∷ (_ ∷ [])))))))) (
      from,
      (
        shr_send _ κs.1.1.1.1.1.1.0 (param 4 g.row.R) (param_sync 4 g.row.R clock),
        (
          stations,
          (heap.the_send, (shr_send _ κs.1.1.1.1.1.1.1.0 _ shared, (shr_send _ κs.1.1.1.1.1.1.1.1.0 (param 3 g.row.G) (param_sync 3 g.row.G gate), (shr_send _ κs.1.1.1.1.1.1.1.1.1.0 _ terms.the_sync, (shr_send _ κs.1.1.1.1.1.1.1.1.1.1.0 _ nudges, tt))))),
        ),
      ),
    )))
