use Rattle.std.proofs.Common.{ℕ, ◌+◌, ◌++◌, sym, subst, set, max, cond, nat_eq, ◌<◌, ◌≡◌, get_or, ◌∷◌, [], ap, ◌∙◌, refl, arith, length, List, Some}
use Rattle.hg_model.specs.declared.segment.Mark.TheVariants.{Sent}
use Rattle.hg_model.specs.declared.segment.Segment.{Segment}
use Rattle.hg_model.specs.Messages.{was_sent}
use Rattle.hg_model.specs.Segments.{present, of_message}
use Rattle.hg_graph.specs.Clocks.{AreClocks}
use Rattle.hg_graph.specs.Graph.{names}
use Rattle.hg_graph.specs.Kept.{IsKept}
use Rattle.hg_graph.specs.Pending.{ArePending, kept_of}
use Rattle.hg_graph.proofs.Opening.{opened_one, present_in, table_read, kept_at}
use Rattle.hg_graph.proofs.Clocking.{next_clocks, own_place, row_read}
use Rattle.hg_graph.proofs.Keeping.{send_pending}
use Rattle.hg_graph.proofs.Graph.send.Goals as goal

pub invariant_of-self-2 : goal.invariant_of-self-2
invariant_of-self-2 c =
    let segments = c.self.inside.segments.items in
    let table = c.self.inside.present.items in
    let k = c.self.invariant.0 in
    let some = k.some in
    let threads = k.threads in
    let g = present segments c.args.t in
    let g_in = present_in segments c.args.t some in
    let a : c.index-segment.result.now ≡ g = table_read table c.from.result c.args.t c.index-segment.result.now g c.from.ensures (omega (arith, c.requires.sender)) c.index-segment.ensures (k.present c.args.t c.requires.sender) in
    let before = c.one.ensures ∙ ap (λ n. n ∷ []) a in
    let new : c.open-next.new.segments.items ≡ segments ++ of_message (Sent c.args.k) c.args.t (g ∷ []) ∷ [] = c.open-next.ensures.segments ∙ (λ i. c.in_ok-make_room.ensures.same i ++ of_message (Sent c.args.k) c.args.t (before i) ∷ []) in
    let few : length segments < 1048576 = let room = c.requires.room in omega (arith, ap length c.self.view_is) in
    let fresh = ap (λ (s : List Segment). was_sent s c.args.k) c.self.view_is ∙ c.requires.fresh in
    let clocks = c.self.inside.clocks.items in
    let rows = c.self.invariant.1.rows in
    let row : c.index.result.now ≡ get_or clocks c.args.t (1 ∷ []) = row_read clocks c.from-2.result c.args.t c.index.result.now c.from-2.ensures (omega (arith, c.requires.sender)) c.index.ensures in
    let own : c.index_mut.result.now ≡ get_or clocks c.args.t (1 ∷ []) = row_read clocks c.from-3.result c.args.t c.index_mut.result.now c.from-3.ensures (omega (arith, c.requires.sender)) c.index_mut.ensures.value in
    let n : c.len-number.result ≡ length segments = omega (arith, c.len-number.ensures) in
    let opens = next_clocks (Sent c.args.k) segments c.args.t clocks c.advance.new.self some k.rising k.in_line c.requires.sender c.self.invariant.1
    (λ u. c.advance.ensures u ∙ (λ i. cond (nat_eq u (c.from-4.ensures i)) (n i + 1) (max (get_or (own i) u 0) (get_or (own i) u 0)))) in (
      kept_at (Sent c.args.k) segments table c.self.inside.visited.items _ _ _ _ _ _ c.args.t (g ∷ []) (λ s u m. IsKept s u m c.self.inside.recent.from c.self.inside.recent.to c.self.inside.recent.reaches)
          c.in_ok-make_room.ensures.same c.in_ok-make_room.ensures.visited_same before c.open-next.ensures.segments c.open-next.ensures.present c.open-next.ensures.visited
          (opened_one segments table c.self.inside.visited.items _ _ _ (of_message (Sent c.args.k) c.args.t (g ∷ [])) k c.requires.sender few (g_in, tt) (λ _. (0, omega arith, refl))),
      subst (λ s. AreClocks s (set clocks c.from-3.result c.advance.new.self)) (sym new)
          (subst (AreClocks (segments ++ of_message (Sent c.args.k) c.args.t (g ∷ []) ∷ [])) (sym (λ i. set clocks (c.from-3.ensures i) c.advance.new.self)) opens),
      subst (λ s. ArePending s c.add.new.self) (sym new)
          (send_pending segments c.args.t c.args.k g (get_or clocks c.args.t (1 ∷ [])) c.self.inside.pending c.add.new.self some k.rising g_in fresh (c.self.invariant.1.each c.args.t c.requires.sender) c.self.invariant.2
          (λ j. c.in_ok-add.ensures.kept j ∙ (λ i. cond (nat_eq c.args.k j) (Some (record { segment = a i; clock = row i })) (kept_of c.self.inside.pending j)))),
    )

pub advance-requires : goal.advance-requires
advance-requires c =
    let segments = c.self.inside.segments.items in
    let clocks = c.self.inside.clocks.items in
    let rows = c.self.invariant.1.rows in
    let own : c.index_mut.result.now ≡ get_or clocks c.args.t (1 ∷ []) = row_read clocks c.from-3.result c.args.t c.index_mut.result.now c.from-3.ensures (omega (arith, c.requires.sender)) c.index_mut.ensures.value in
    let named = ap (λ (s : List Segment). names s c.args.t) c.self.view_is ∙ c.requires.named in
    subst (λ n. n < length c.index_mut.result.now) (sym c.from-4.ensures)
    (subst (λ (r : List ℕ). c.args.t < length r) (sym own) (own_place segments c.args.t (get_or clocks c.args.t (1 ∷ [])) c.self.invariant.0.some named (c.self.invariant.1.each c.args.t c.requires.sender)))
