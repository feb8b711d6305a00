use Rattle.std.proofs.Common.{◌≡◌, ◌∙◌, ◌+◌, ◌≤◌, ◌++◌, inl, inr, ℕ, List, append-nil, ap, drop, length, map, subst, sum, sym, take, arith}
use Rattle.std.proofs.lemmas.List.{drop_all, take_all}
use Rattle.hg_contents.proofs.Following.{followed_events}
use Rattle.hg_store.specs.Shown.{ShownStore, live, saved}
use Rattle.hg_desk.specs.Counting.{AreAcked}
use Rattle.hg_desk.specs.Told.{Told}
use Rattle.hg_desk.proofs.Standing.{stood}
use Rattle.hg_desk.proofs.shared.gather.Goals as goal
use Rattle.hg_desk.proofs.shared.gather.Goals.{then-tally-via-then-tally, then-tally-via-else-tally+then-tally-2}

pub returns-then-tally-clause-whole : goal.returns-then-tally-clause-whole
returns-then-tally-clause-whole g c some all_accepted all_durable =
    let len = c.as_mut_slice.ensures.len in
    let one : 1 ≤ length c.as_mut_slice.result.now = omega (arith, len, some) in
    elim c.then-tally.branch [
      | then-tally-via-then-tally w ↦ w.if-tally.true (c.tally-tally.ensures.accepted one (len ∙ all_accepted))
      | then-tally-via-else-tally+then-tally-2 w ↦ w.if-tally-2.true (c.tally-tally.ensures.durable one (len ∙ all_durable))
    ]

pub returns-then-tally-clause-err : goal.returns-then-tally-clause-err
returns-then-tally-clause-err g c =
    let items = c.args.shares.items in
    let n : length items ≡ c.args.shares.len = sym (ap length c.as_mut_slice.ensures.value) ∙ c.as_mut_slice.ensures.len in
    let is : c.tally-tally.new.shares ≡ items = c.tally-tally.ensures.shares ∙ c.as_mut_slice.ensures.value in
    let given_back : take c.args.shares.len (c.tally-tally.new.shares ++ drop (length c.tally-tally.new.shares) items) ≡ items =
    (λ i. take c.args.shares.len (is i ++ drop (length (is i)) items))
    ∙ ap (λ l. take c.args.shares.len (items ++ l)) (drop_all (length items) items (omega arith))
    ∙ ap (take c.args.shares.len) (append-nil items) ∙ take_all c.args.shares.len items (omega arith) in (
      given_back,
      c.tally-tally.ensures.accepted_told ∙ ap (λ l. sum (map (λ s. s.accepted) l)) c.as_mut_slice.ensures.value,
      c.tally-tally.ensures.durable_told ∙ ap (λ l. sum (map (λ s. s.durable) l)) c.as_mut_slice.ensures.value,
      elim c.then-tally.branch [
        | then-tally-via-then-tally w ↦ inl w.if-tally.true
        | then-tally-via-else-tally+then-tally-2 w ↦ inr w.if-tally-2.true
      ],
    )

pub returns-clause-events : goal.returns-clause-events
returns-clause-events g c honest =
    let same : c.into_store-taken_in.result.store ≡ c.into_inner-core.result = c.into_store-taken_in.ensures.store ∙ c.tally-tally.ensures.same in
    ap (λ (s : ShownStore g.row.D.Denot). (live g.D.Disk s).events) same ∙ c.tally-tally.ensures.accepted_book honest
    ∙ ap (λ (n : ℕ). g.A.Column.opening + n) (sym c.if-tally.false ∙ c.tally-tally.ensures.accepted_told ∙ ap (λ l. sum (map (λ s. s.accepted) l)) c.as_mut_slice.ensures.value)

pub returns-clause-durable : goal.returns-clause-durable
returns-clause-durable g c honest =
    let same : c.into_store-taken_in.result.store ≡ c.into_inner-core.result = c.into_store-taken_in.ensures.store ∙ c.tally-tally.ensures.same in
    ap (λ (s : ShownStore g.row.D.Denot). s.durable) same ∙ c.tally-tally.ensures.durable_book honest
    ∙ ap (λ (n : ℕ). g.B.Column.opening + n) (sym c.if-tally-2.false ∙ c.tally-tally.ensures.durable_told ∙ ap (λ l. sum (map (λ s. s.durable) l)) c.as_mut_slice.ensures.value)

pub returns-clause-acked : goal.returns-clause-acked
returns-clause-acked g c honest =
    let same : c.into_store-taken_in.result.store ≡ c.into_inner-core.result = c.into_store-taken_in.ensures.store ∙ c.tally-tally.ensures.same in
    subst (λ (l : List Told). AreAcked (saved g.D.Disk c.into_store-taken_in.result.store) l) c.as_mut_slice.ensures.value
    (subst (λ (s : ShownStore g.row.D.Denot). AreAcked (saved g.D.Disk s) c.as_mut_slice.result.now) (sym same) (c.tally-tally.ensures.acked honest))

pub returns-clause-images : goal.returns-clause-images
returns-clause-images g c honest image left =
    let s = c.into_store-taken_in.result.store in
    let backs = c.stands.ensures.backs honest in
    let told : s.durable ≡ g.B.Column.opening + sum (map (λ s. s.durable) c.args.shares.items) = returns-clause-durable g c honest in
    let count = backs.count in
    stood (saved g.D.Disk s) (live g.D.Disk s) s.in_doubt image (g.B.Column.opening + sum (map (λ s. s.durable) c.args.shares.items))
    (omega (arith, told, count)) (omega (arith, followed_events s.pending (saved g.D.Disk s) (live g.D.Disk s) backs.live)) (backs.stands image left)
