use Rattle.std.proofs.Common.{◌≡◌, ◌∷◌, All, List, subst, sym}
use Rattle.std.proofs.lemmas.List.Elements.{All-head, All-push, All-tail}
use Rattle.hg_desk.specs.Told.{Told, nothing_told}
use Rattle.hg_server.specs.declared.piece.Station.{Station}
use Rattle.hg_server.proofs.piece.stations.Goals as goal

pub loop-share-preserved : goal.loop-share-preserved
loop-share-preserved g c =
    let now = c.next.new.self.rest.items in
    let one = c.in-Some.share in
    let all : All (λ s. s ≡ nothing_told) (one ∷ now) = subst (λ (l : List Told). All (λ s. s ≡ nothing_told) l) c.in-Some.ensures.steps.0 c.loop-share.invariant.0 in (
      All-tail (λ (s : Told). s ≡ nothing_told) one now all,
      subst (λ (l : List (Station _ _)). All (λ s. s.share ≡ nothing_told) l) (sym c.in_ok-push.ensures.items)
          (All-push (λ (s : Station _ _). s.share ≡ nothing_told) c.loop-share.all.items (record { share = one; piece = c.in-Some-pop.piece }) c.loop-share.invariant.1
          (All-head (λ (s : Told). s ≡ nothing_told) one now all)),
    )
