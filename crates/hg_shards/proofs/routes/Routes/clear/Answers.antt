use Rattle.std.proofs.Common.{◌≡◌, ◌≤◌, List, [], get_or, length, length-set, refl, sym, ◌∙◌, subst, arith}
use Rattle.std.proofs.lemmas.List.{length-map}
use Rattle.hg_shards.specs.declared.routes.OwnAccess.{OwnAccess}
use Rattle.hg_shards.specs.Routing.{items_of}
use Rattle.hg_shards.proofs.Routing.{cleared_all, cleared_more, clears_one, keeps_rooms}
use Rattle.hg_shards.proofs.routes.Routes.clear.Goals as goal

pub loop-k-preserved : goal.loop-k-preserved
loop-k-preserved c =
    let lists = c.loop-k.self.lists.items in
    let k = c.loop-k.k in
    let same = c.loop-k.invariant.0 in
    let many = length-map lists (λ list. list.items) in
    let lt = c.loop-k-test.true in
    let end = c.count_parts-k-end.ensures in (
      length-set lists k c.clear.new.self ∙ same,
      λ j below.
          subst (λ (xs : List (List OwnAccess)). get_or xs j [] ≡ []) (sym (clears_one lists k c.index_mut.result.now c.index_mut.ensures.value c.clear.new.self c.clear.ensures.items))
          (cleared_more (items_of lists) k (omega (arith, many, same, lt, end)) c.loop-k.invariant.1 j below),
      keeps_rooms lists k c.index_mut.result.now c.index_mut.ensures.value c.clear.new.self c.clear.ensures.capacity ∙ c.loop-k.invariant.2,
    )

pub returns-clause-none : goal.returns-clause-none
returns-clause-none c =
    let le : length c.loop-k.self.lists.items ≤ c.loop-k.k = (let same = c.loop-k.invariant.0 in let ge = c.loop-k-test.false in let end = c.count_parts-k-end.ensures in omega (arith, same, ge, end)) in
    cleared_all _ c.loop-k.k refl c.clear-2.ensures.items le c.loop-k.invariant.1
