use denote.Builtin.{unit}
use denote.Exit.{no}
use denote.Param.{param}
use denote.Param.Send.{IsSend, IsSync, arg_send, param_send, param_sync, sendable, shr_send}
use Rattle.std.proofs.Common.{rules, ◌≡◌, ◌∙◌, [], ◌∷◌, Some, ap, subst}
use Rattle.std.proofs.lemmas.List.Elements.{All-pop}
use Rattle.std.proofs.Crossing.{crosses}
use Rattle.std.below.std_heap.proofs.GlobalAllocator.TheSendSync as allocator
use Rattle.std.proofs.alloc.Global.TheSendSync as heap
use Rattle.crossbeam_channel.proofs.channel.Receiver.TheSendSync as receiver
use Rattle.hg_desk.specs.Told.{Told, nothing_told}
use Rattle.hg_server.specs.Acknowledged.{EachLedFromNothing}
use Rattle.hg_server.specs.Flushing.{IsToldOfNone}
use Rattle.hg_server.proofs.Acknowledged.{back_recorded, back_told, led_told}
use Rattle.hg_server.proofs.Crossing.{share_send, shared_sync, closure_send}
use Rattle.hg_server.proofs.flusher.Due.TheSendSync as due
use Rattle.hg_server.proofs.health.Terms.TheSendSync as terms
use Rattle.hg_server.proofs.serving.run_all.Goals as goal

pub join-share-requires-send-F : goal.join-share-requires-send-F
join-share-requires-send-F g c κs within =
    let clock : IsSync g.row.R = search (rules, c.type_bounds) parts 8 in
    let gate : IsSync g.row.G = search (rules, c.type_bounds) parts 8 in
    let shared = shared_sync (param 0 g.row.D) (param 1 g.row.A) (param 2 g.row.B) g.D.Disk g.A.Opening g.A.Column g.A.Ledger g.A.Room g.B.Column g.B.Ledger c.type_bounds.send-D in
    let own = share_send (param 1 g.row.A) (param 2 g.row.B) g.A.Opening g.A.Column g.A.Ledger g.A.Room g.B.Column g.B.Ledger in
    let nothing : IsSend unit = search (sendable, crosses) depth 20 in
    let nudges = receiver.the_send _ _ _ nothing heap.the_send heap.the_sync allocator.the_frees in
    param_send 1 _ (arg_send _ no _ (closure_send _ (_ ∷ (_ ∷ (_ ∷ (_ ∷ (_ ∷ (_ ∷ (_ ∷ (_ ∷ [])))))))) (
      shr_send _ κs.1.1.1.1.1.1.0 (param 4 g.row.R) (param_sync 4 g.row.R clock),
      (
        heap.the_send,
        (
          shr_send _ κs.1.1.1.1.1.1.1.0 _ shared,
          (own, (shr_send _ κs.1.1.1.1.1.1.1.1.0 (param 3 g.row.G) (param_sync 3 g.row.G gate), (shr_send _ κs.1.1.1.1.1.1.1.1.1.0 _ terms.the_sync, (nudges, (due.the_send, tt))))),
        ),
      ),
    )))

pub returns-clause-told : goal.returns-clause-told
returns-clause-told g c =
    let start = g.A.Opening.start in
    let worked = c.in-Ok-worked.worked.items in
    let led : EachLedFromNothing g.D.Disk start c.join-share.result.1.0 = search rules in
    back_told g.D.Disk start c.join-share.result.0 worked c.part.result c.part.ensures.shares c.part.ensures.talks
    (led_told g.D.Disk start worked (subst (λ r. EachLedFromNothing g.D.Disk start r) c.in-Ok-worked.is led))

pub returns-clause-recorded : goal.returns-clause-recorded
returns-clause-recorded g c =
    let start = g.A.Opening.start in
    let led : EachLedFromNothing g.D.Disk start c.join-share.result.1.0 = search rules in
    let one = c.in-Some.share in
    let fresh : one ≡ nothing_told = (All-pop (λ s. s ≡ nothing_told) c.args.shares.items c.pop.new.self.items (Some one) c.in-Some.ensures.items c.requires.new).1 in
    let told : IsToldOfNone one c.join-share.result.0 = search rules in
    let none : c.join-share.result.0.accepted ≡ 0 = told.0 ∙ ap (λ (s : Told). s.accepted) fresh in
    back_recorded g.D.Disk start c.join-share.result.0 c.in-Ok-worked.worked.items c.part.result c.part.ensures.shares c.part.ensures.talks none
    (subst (λ r. EachLedFromNothing g.D.Disk start r) c.in-Ok-worked.is led)
