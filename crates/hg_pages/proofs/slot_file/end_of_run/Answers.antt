use Rattle.std.proofs.Common.{◌≡◌, ◌<◌, ℕ, Some, map, slice_get, sym, ⊎_elim, subst, arith}
use Rattle.std.proofs.lemmas.Option.{slice_get_within}
use Rattle.hg_pages.specs.Tables.{IsNamed, ShownTable}
use Rattle.hg_pages.proofs.Searching.{less_or_last, mapped, mapped_len, stands}
use Rattle.hg_pages.proofs.slot_file.end_of_run.Goals as goal

pub returns-then-end-from-clause-named : goal.returns-then-end-from-clause-named
returns-then-end-from-clause-named c slot le lt = (
  c.loop-table.table-index,
  c.table-item.result.now,
  stands (λ t. t.now) c.args.tables.now c.loop-table.table-index c.table-item.result c.loop-table-test.true c.table-item.is,
  c.end_of_named-end.ensures.named slot le lt,
)

pub loop-table-preserved : goal.loop-table-preserved
loop-table-preserved c below i table lt found named =
    ⊎_elim (λ (before : i < c.loop-table.table-index). c.loop-table.invariant below i table before found named)
    (λ (here : i ≡ c.loop-table.table-index).
    let same : c.table-item.result.now ≡ table = mapped (λ t. t.now) c.args.tables.now c.loop-table.table-index c.table-item.result table c.loop-table-test.true c.table-item.is
    (subst (λ (n : ℕ). slice_get (map (λ t. t.now) c.args.tables.now) n ≡ Some table) here found) in
    let end : c.end_of_named-end.result ≡ c.args.from = omega (arith, c.end_of_named-end.ensures.within.0, c.if-end-from.false) in
    c.end_of_named-end.ensures.end (subst (λ (n : ℕ). n < 1048576) (sym end) below)
    (subst (λ (n : ℕ). IsNamed c.table-item.result.now.entries n) (sym end) (subst (λ (t : ShownTable). IsNamed t.entries c.args.from) (sym same) named)))
    (less_or_last i c.loop-table.table-index lt)

pub returns-clause-free : goal.returns-clause-free
returns-clause-free c is below named =
    c.loop-table.invariant below named.0 named.1
    (omega (arith, c.loop-table-test.false, slice_get_within (map (λ t. t.now) c.args.tables.now) named.0 named.1 named.2, mapped_len (λ t. t.now) c.args.tables.now)) named.2 named.3
