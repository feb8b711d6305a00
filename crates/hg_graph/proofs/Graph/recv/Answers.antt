use Rattle.std.proofs.Common.{ℕ, true, ◌+◌, ◌++◌, sym, subst, set, max, cond, nat_eq, ◌<◌, ◌≡◌, get_or, ◌∷◌, [], ap, ◌∙◌, arith, length, List}
use Rattle.std.specs.Prelude.{IfSome}
use Rattle.hg_model.specs.declared.segment.Mark.TheVariants.{Got}
use Rattle.hg_model.specs.declared.segment.Segment.{Segment}
use Rattle.hg_model.specs.Messages.{sent_in, was_received, was_sent}
use Rattle.hg_model.specs.Segments.{present, rising, of_message}
use Rattle.hg_model.proofs.Graph.{each_rising, sent_in_lt}
use Rattle.hg_graph.specs.Clocks.{AreClocks, IsClock, IsGreater}
use Rattle.hg_graph.specs.Kept.{IsKept}
use Rattle.hg_graph.specs.Graph.{names}
use Rattle.hg_graph.specs.Pending.{ArePending}
use Rattle.hg_graph.proofs.Opening.{opened_one, present_in, rising_has, table_read, kept_at}
use Rattle.hg_graph.proofs.Clocking.{meeting_clocks, own_place, row_read}
use Rattle.hg_graph.proofs.Keeping.{recv_pending}
use Rattle.hg_graph.proofs.Graph.recv.Goals as goal

pub invariant_of-self-2 : goal.invariant_of-self-2
invariant_of-self-2 c =
    let segments = c.self.inside.segments.items in
    let table = c.self.inside.present.items in
    let k = c.self.invariant.0 in
    let some = k.some in
    let threads = k.threads in
    let g = present segments c.args.t in
    let h = sent_in segments c.args.k in
    let was : was_sent segments c.args.k ≡ true = ap (λ (s : List Segment). was_sent s c.args.k) c.self.view_is ∙ c.requires.sent in
    let kept = c.self.invariant.2.each c.args.k was (ap (λ (s : List Segment). was_received s c.args.k) c.self.view_is ∙ c.requires.untaken) in
    let segment : c.segment.result ≡ kept.0.segment = subst (λ o. IfSome o (λ m. c.segment.result ≡ m.segment)) kept.1 c.segment.ensures in
    let raised = subst (λ o. IfSome o (λ m. IsGreater c.index_mut-own.result.now m.clock c.from-3.result (c.len-number.result + 1) c.receive.new.clock)) kept.1 c.receive.ensures.clock in
    let a = table_read table c.from.result c.args.t c.index-present.result.now g c.from.ensures (omega (arith, c.requires.receiver)) c.index-present.ensures (k.present c.args.t c.requires.receiver) in
    let b : c.segment.result ≡ h = segment ∙ kept.2.segment in
    let before = c.pair-before.ensures ∙ (λ i. rising (a i) (b i)) in
    let h_in = sent_in_lt segments c.args.k some k.rising in
    let below = each_rising g h (length segments) (present_in segments c.args.t some) h_in in
    let new : c.open-next.new.segments.items ≡ segments ++ of_message (Got c.args.k) c.args.t (rising g h) ∷ [] = c.open-next.ensures.segments ∙ (λ i. c.in_ok-make_room.ensures.same i ++ of_message (Got c.args.k) c.args.t (before i) ∷ []) in
    let few : length segments < 1048576 = let room = c.requires.room in omega (arith, ap length c.self.view_is) in
    let clocks = c.self.inside.clocks.items in
    let rows = c.self.invariant.1.rows in
    let own : c.index_mut-own.result.now ≡ get_or clocks c.args.t (1 ∷ []) = row_read clocks c.from-2.result c.args.t c.index_mut-own.result.now c.from-2.ensures (omega (arith, c.requires.receiver)) c.index_mut-own.ensures.value in
    let n : c.len-number.result ≡ length segments = omega (arith, c.len-number.ensures) in
    let known : IsClock segments h kept.0.clock = subst (λ i. IsClock segments i kept.0.clock) kept.2.segment kept.2.clock in
    let opens = meeting_clocks (Got c.args.k) segments c.args.t h clocks kept.0.clock c.receive.new.clock some k.rising k.in_line c.requires.receiver h_in c.self.invariant.1 known
    (λ u. raised u ∙ (λ i. cond (nat_eq u (c.from-3.ensures i)) (n i + 1) (max (get_or (own i) u 0) (get_or kept.0.clock u 0)))) in (
      kept_at (Got c.args.k) segments table c.self.inside.visited.items _ _ _ _ _ _ c.args.t (rising g h) (λ s u m. IsKept s u m c.self.inside.recent.from c.self.inside.recent.to c.self.inside.recent.reaches)
          c.in_ok-make_room.ensures.same c.in_ok-make_room.ensures.visited_same before c.open-next.ensures.segments c.open-next.ensures.present c.open-next.ensures.visited
          (opened_one segments table c.self.inside.visited.items _ _ _ (of_message (Got c.args.k) c.args.t (rising g h)) k c.requires.receiver few below (λ _. rising_has g h)),
      subst (λ s. AreClocks s (set clocks c.from-2.result c.receive.new.clock)) (sym new)
          (subst (AreClocks (segments ++ of_message (Got c.args.k) c.args.t (rising g h) ∷ [])) (sym (λ i. set clocks (c.from-2.ensures i) c.receive.new.clock)) opens),
      subst (λ s. ArePending s c.receive.new.self) (sym new)
          (recv_pending segments c.args.t c.args.k (rising g h) c.self.inside.pending c.receive.new.self some k.rising below was c.self.invariant.2 c.receive.ensures.taken),
    )

pub receive-requires-clause-thread : goal.receive-requires-clause-thread
receive-requires-clause-thread c =
    let segments = c.self.inside.segments.items in
    let clocks = c.self.inside.clocks.items in
    let rows = c.self.invariant.1.rows in
    let own : c.index_mut-own.result.now ≡ get_or clocks c.args.t (1 ∷ []) = row_read clocks c.from-2.result c.args.t c.index_mut-own.result.now c.from-2.ensures (omega (arith, c.requires.receiver)) c.index_mut-own.ensures.value in
    let named = ap (λ (s : List Segment). names s c.args.t) c.self.view_is ∙ c.requires.named in
    subst (λ n. n < length c.index_mut-own.result.now) (sym c.from-3.ensures)
    (subst (λ (r : List ℕ). c.args.t < length r) (sym own) (own_place segments c.args.t (get_or clocks c.args.t (1 ∷ [])) c.self.invariant.0.some named (c.self.invariant.1.each c.args.t c.requires.receiver)))
