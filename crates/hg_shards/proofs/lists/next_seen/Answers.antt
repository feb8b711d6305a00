use Rattle.std.proofs.Common.{length, sym, ◌∙◌, eqb-true}
use Rattle.std.proofs.lemmas.Bool.{eqb-false}
use Rattle.hg_shards.proofs.Seeing.{begins_behind, first_of, none_before}
use Rattle.hg_shards.proofs.lists.next_seen.Goals as goal

pub returns-then-is_empty : goal.returns-then-is_empty
returns-then-is_empty c =
    let some = first_of c.args.common.now _ (eqb-false (length c.args.common.now) 0 (sym c.is_empty-then-is_empty.ensures ∙ c.if-is_empty-2.false)) in
    (some.0, some.1, begins_behind _ c.args.own.now (eqb-true (length c.args.own.now) 0 (sym c.is_empty.ensures ∙ c.if-is_empty.true)))

pub returns-then-is_empty-3 : goal.returns-then-is_empty-3
returns-then-is_empty-3 c =
    let some = first_of c.args.own.now _ (eqb-false (length c.args.own.now) 0 (sym c.is_empty.ensures ∙ c.if-is_empty.false)) in
    (some.0, some.1, none_before _ c.args.common.now (eqb-true (length c.args.common.now) 0 (sym c.is_empty-2.ensures ∙ c.if-is_empty-3.true)))
