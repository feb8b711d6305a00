use Rattle.std.proofs.Common.{◌≡◌, ◌+◌, ◌∙◌, ℕ, List, Option, Some, None, ap, subst, arith, length, length-set}
use Rattle.hg_shards.specs.declared.full.Next.{Next}
use Rattle.hg_shards.specs.declared.shard.Shard.{Shard}
use Rattle.hg_shards.specs.Filling.{IsNextMade, heads_of}
use Rattle.hg_shards.proofs.Filling.{first_full_lem}
use Rattle.hg_shards.proofs.Together.{HasLog, each, fewer_left, full_put, full_stays, none_is_next, none_left, taken_put, within_table}
use Rattle.hg_shards.proofs.full.Taking.take_rest.Goals as goal

-- what comes next, by what was taken as it was lent
lent : (parts : List Shard) (taken now : List ℕ) (next : Option Next) → now ≡ taken → IsNextMade parts now next → IsNextMade parts taken next
lent parts taken now next is h = subst (λ (ns : List ℕ). IsNextMade parts ns next) is h

pub put-requires : goal.put-requires
put-requires c =
    let parts = c.args.parts.now in
    let taken = c.loop-next.self.taken.items in
    within_table parts taken c.in-Some.next (lent parts taken c.deref.result.now (Some c.in-Some.next) c.deref.ensures.value c.in-Some.ensures) c.index-parts-next.result c.index-parts-next.is c.requires.logs

pub returns-then-not-branch-clause-first : goal.returns-then-not-branch-clause-first
returns-then-not-branch-clause-first c = λ limit h.
    let parts = c.args.parts.now in
    let taken = c.loop-next.self.taken.items in
    first_full_lem limit parts (Some c.in-Some.next.event)
    (full_put limit parts (each HasLog parts c.requires.logs) taken c.loop-next.self.table (c.loop-next.invariant.1 limit h) c.in-Some.next
    (lent parts taken c.deref.result.now (Some c.in-Some.next) c.deref.ensures.value c.in-Some.ensures) c.index-parts-next.result c.index-parts-next.is
    c.in_ok-put.field-0 c.put.new.table c.if-not-branch.true c.in_ok-put.ensures.puts)

pub returns-then-not-branch-clause-goes_on : goal.returns-then-not-branch-clause-goes_on
returns-then-not-branch-clause-goes_on c = λ limit h.
    let parts = c.args.parts.now in
    let taken = c.loop-next.self.taken.items in
    full_stays limit parts (each HasLog parts c.requires.logs) taken c.loop-next.self.table (c.loop-next.invariant.1 limit h) c.in-Some.next
    (lent parts taken c.deref.result.now (Some c.in-Some.next) c.deref.ensures.value c.in-Some.ensures) c.index-parts-next.result c.index-parts-next.is
    c.in_ok-put.field-0 c.put.new.table c.if-not-branch.true c.in_ok-put.ensures.puts

pub overflow_add-next : goal.overflow_add-next
overflow_add-next c = let lt = c.put.ensures.number in omega (arith, lt)

pub index_mut-requires : goal.index_mut-requires
index_mut-requires c =
    let parts = c.args.parts.now in
    let taken = c.loop-next.self.taken.items in
    let first = lent parts taken c.deref.result.now (Some c.in-Some.next) c.deref.ensures.value c.in-Some.ensures in
    let lt = first.0 in
    let same = c.loop-next.invariant.0 in
    let counts = c.requires.counts in
    let value = ap (λ (ns : List ℕ). length ns) c.deref.ensures.value in
    let len = c.deref.ensures.len in
    omega (arith, lt, same, counts, value, len)

pub loop-next-smaller : goal.loop-next-smaller
loop-next-smaller c =
    let parts = c.args.parts.now in
    let taken = c.loop-next.self.taken.items in
    fewer_left parts taken c.in-Some.next (lent parts taken c.deref.result.now (Some c.in-Some.next) c.deref.ensures.value c.in-Some.ensures) c.index-parts-next.result

pub loop-next-preserved : goal.loop-next-preserved
loop-next-preserved c =
    let parts = c.args.parts.now in
    let taken = c.loop-next.self.taken.items in (
      length-set taken c.in-Some.next.part (c.in-Some.next.set + 1) ∙ c.loop-next.invariant.0,
      λ limit h.
          taken_put limit parts (each HasLog parts c.requires.logs) taken c.loop-next.self.table (c.loop-next.invariant.1 limit h) c.in-Some.next
          (lent parts taken c.deref.result.now (Some c.in-Some.next) c.deref.ensures.value c.in-Some.ensures) c.index-parts-next.result c.index-parts-next.is
          c.in_ok-put.field-0 c.put.new.table c.if-not-branch.false c.in_ok-put.ensures.puts,
    )

pub returns-clause-first : goal.returns-clause-first
returns-clause-first c = λ limit h.
    let parts = c.args.parts.now in
    let taken = c.loop-next.self.taken.items in
    first_full_lem limit parts None
    (none_left limit parts (each HasLog parts c.requires.logs) taken c.loop-next.self.table (c.loop-next.invariant.1 limit h)
    (none_is_next (length parts) (heads_of parts taken) taken c.next_made.result c.in_default.not-Some (lent parts taken c.deref.result.now c.next_made.result c.deref.ensures.value c.next_made.ensures)))
