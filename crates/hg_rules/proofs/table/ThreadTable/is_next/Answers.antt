use Rattle.std.proofs.Common.{◌&&◌, nat_lt, drop, sym, ap, ◌∙◌, arith}
use Rattle.std.proofs.lemmas.Bool.{lt-ltb}
use Rattle.std.specs.List.{list_all}
use Rattle.hg_rules.proofs.Restoring.{free, free_behind, rest}
use Rattle.hg_rules.proofs.table.ThreadTable.is_next.Goals as goal

pub returns-then-place-lt-THREAD_NUMBERS : goal.returns-then-place-lt-THREAD_NUMBERS
returns-then-place-lt-THREAD_NUMBERS c =
    let t = c.args.t in
    let place = c.from-place.ensures in
    let slots = c.self.inside.slots.items in
    c.are_empty.ensures
    ∙ ap (λ xs. list_all free xs) (rest c.from-place.result c.deref.result.now ∙ ap (λ xs. drop c.from-place.result xs) c.deref.ensures.value)
    ∙ free_behind 0 c.from-place.result t slots (omega (arith, place)) c.self.invariant.numbered
    ∙ ap (λ xs. list_all (λ x. nat_lt x.number t) xs) c.self.view_is
    ∙ ap (λ b. b && list_all (λ x. nat_lt x.number t) c.args.self.now) (sym (lt-ltb t 1024 (let small = c.if-place-lt-THREAD_NUMBERS.true in omega arith)))
