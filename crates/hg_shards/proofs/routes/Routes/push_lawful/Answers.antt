use Rattle.std.proofs.Common.{◌+◌, ◌-◌, ◌/◌, ◌<◌, inr, refl, sym, ap, ◌∙◌, subst}
use Rattle.hg_model.specs.Accessing.{access_event}
use Rattle.hg_shards.specs.Pushing.{parts_in}
use Rattle.hg_shards.specs.Sharding.{page_part}
use Rattle.hg_shards.proofs.Routing.{access_item, first_own, last_own, no_room_at, others_own, pushed_one, pushed_two, room_at, two_puts}
use Rattle.hg_shards.proofs.routes.Routes.push_lawful.Goals as goal

pub returns-then-first-last-clause-pushes : goal.returns-then-first-last-clause-pushes
returns-then-first-last-clause-pushes c =
    let r = c.args.self.now in
    let a = c.args.access in
    let first = c.part_of_page-first in
    let last = c.part_of_page-last in
    let at_first = first.ensures.value ∙ ap (λ n. page_part n (a.at / 1024)) c.count_parts-count.ensures in
    let at_last = last.ensures.value ∙ ap (λ n. page_part n ((a.at + (c.from-more.result - 1)) / 1024)) c.count_parts-count.ensures ∙ ap (λ n. page_part (parts_in r) ((a.at + (n - 1)) / 1024)) c.from-more.ensures in
    pushed_one r _ (access_event c.args.write a) first.result c.requires (subst (λ n. first.result < n) c.count_parts-count.ensures first.ensures.within)
    (first_own (parts_in r) c.args.write a first.result last.result c.requires at_first at_last)
    (λ j differ. others_own (parts_in r) c.args.write a first.result last.result c.requires at_first at_last j differ (λ same. differ (same ∙ sym c.if-first-last.true)))
    _ (sym (access_item r.count c.args.write a)) c.put.ensures.puts refl refl

pub returns-then-not-has_room-2-clause-pushes : goal.returns-then-not-has_room-2-clause-pushes
returns-then-not-has_room-2-clause-pushes c =
    let r = c.args.self.now in
    let a = c.args.access in
    let first = c.part_of_page-first in
    let last = c.part_of_page-last in
    let at_first = first.ensures.value ∙ ap (λ n. page_part n (a.at / 1024)) c.count_parts-count.ensures in
    let at_last = last.ensures.value ∙ ap (λ n. page_part n ((a.at + (c.from-more.result - 1)) / 1024)) c.count_parts-count.ensures ∙ ap (λ n. page_part (parts_in r) ((a.at + (n - 1)) / 1024)) c.from-more.ensures in (
      refl,
      inr (inr (
        last.result,
        last_own (parts_in r) c.args.write a first.result last.result c.requires at_first at_last,
        no_room_at r.lists.items last.result c.index-2.result.now c.index-2.ensures (sym c.has_room-2.ensures ∙ c.if-not-has_room-2.true) (subst (λ n. last.result < n) c.count_parts-count.ensures last.ensures.within),
      )),
    )

pub put-requires-2-clause-room : goal.put-requires-2-clause-room
put-requires-2-clause-room c = room_at c.args.self.now.lists.items c.part_of_page-first.result c.index.result.now c.index.ensures (sym c.has_room.ensures ∙ c.if-not-has_room.false)

pub put-requires-3-clause-room : goal.put-requires-3-clause-room
put-requires-3-clause-room c =
    c.put-2.ensures.others c.part_of_page-last.result (λ same. c.if-first-last.false (sym same))
    (room_at c.args.self.now.lists.items c.part_of_page-last.result c.index-2.result.now c.index-2.ensures (sym c.has_room-2.ensures ∙ c.if-not-has_room-2.false))

pub returns-clause-pushes : goal.returns-clause-pushes
returns-clause-pushes c =
    let r = c.args.self.now in
    let a = c.args.access in
    let first = c.part_of_page-first in
    let last = c.part_of_page-last in
    let at_first = first.ensures.value ∙ ap (λ n. page_part n (a.at / 1024)) c.count_parts-count.ensures in
    let at_last = last.ensures.value ∙ ap (λ n. page_part n ((a.at + (c.from-more.result - 1)) / 1024)) c.count_parts-count.ensures ∙ ap (λ n. page_part (parts_in r) ((a.at + (n - 1)) / 1024)) c.from-more.ensures in
    pushed_two r _ (access_event c.args.write a) first.result last.result c.requires (subst (λ n. first.result < n) c.count_parts-count.ensures first.ensures.within)
    (subst (λ n. last.result < n) c.count_parts-count.ensures last.ensures.within) (λ same. c.if-first-last.false (sym same))
    (first_own (parts_in r) c.args.write a first.result last.result c.requires at_first at_last)
    (last_own (parts_in r) c.args.write a first.result last.result c.requires at_first at_last)
    (others_own (parts_in r) c.args.write a first.result last.result c.requires at_first at_last)
    _ (sym (access_item r.count c.args.write a)) (c.put-3.ensures.puts ∙ two_puts _ _ _ _ c.put-2.ensures.puts) refl refl
