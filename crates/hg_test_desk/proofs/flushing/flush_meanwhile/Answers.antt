use denote.Builtin.{unit}
use denote.Exit.{no}
use denote.Param.{param}
use denote.Param.Send.{IsSend, IsSync, arg_send, param_send, param_sync, sendable, shr_send}
use Rattle.std.proofs.Common.{rules, [], ◌∷◌}
use Rattle.std.proofs.Crossing.{crosses}
use Rattle.std.below.std_heap.proofs.GlobalAllocator.TheSendSync as allocator
use Rattle.std.proofs.alloc.Global.TheSendSync as heap
use Rattle.crossbeam_channel.proofs.channel.Receiver.TheSendSync as receiver
use Rattle.hg_server.proofs.Crossing.{share_send, shared_sync, closure_send}
use Rattle.hg_server.proofs.flusher.Due.TheSendSync as due
use Rattle.hg_server.proofs.health.Terms.TheSendSync as terms
use Rattle.hg_test_desk.proofs.meeting.Meeting.TheSendSync as meeting
use Rattle.hg_test_desk.proofs.flushing.flush_meanwhile.Goals as goal

pub join-first-requires-send-F : goal.join-first-requires-send-F
join-first-requires-send-F g c κs within =
    let clock : IsSync g.row.R = search (rules, c.type_bounds) parts 8 in
    let clock_there = param_sync 3 g.row.R clock in
    let shared = shared_sync (param 0 g.row.D) (param 1 g.row.A) (param 2 g.row.B) g.D.Disk g.A.Opening g.A.Column g.A.Ledger g.A.Room g.B.Column g.B.Ledger c.type_bounds.send-D in
    let own = share_send (param 1 g.row.A) (param 2 g.row.B) g.A.Opening g.A.Column g.A.Ledger g.A.Room g.B.Column g.B.Ledger in
    let nothing : IsSend unit = search (sendable, crosses) depth 20 in
    let nudges = receiver.the_send _ _ _ nothing heap.the_send heap.the_sync allocator.the_frees in
    param_send 1 _ (arg_send _ no _ (closure_send _ (_ ∷ (_ ∷ (_ ∷ (_ ∷ (_ ∷ (_ ∷ (_ ∷ (_ ∷ [])))))))) (
      shr_send _ κs.1.1.1.1.1.1.0 (param 3 g.row.R) clock_there,
      (
        heap.the_send,
        (
          shr_send _ κs.1.1.1.1.1.1.1.0 _ shared,
          (own, (shr_send _ κs.1.1.1.1.1.1.1.1.0 _ (meeting.the_sync _ (param 3 g.row.R) clock_there), (shr_send _ κs.1.1.1.1.1.1.1.1.1.1.0 _ terms.the_sync, (nudges, (due.the_send, tt))))),
        ),
      ),
    )))
