use Rattle.std.proofs.Common.{◌≡◌, ◌≤◌, ◌+◌, [], All, vec_len, vec_capacity}
use Rattle.hg_desk.specs.Told.{nothing_told}
use Rattle.hg_desk.proofs.locked.Core.open.Given as goal

abbrev pub invariant-loop-i : goal.invariant-loop-i
invariant-loop-i g l = record {
  accepted : (l.accepted_rest.parts + l._i ≡ l.shares) × (l.accepted_rest.amount ≡ 0);
  durable : (l.durable_rest.parts + l._i ≡ l.shares) × (l.durable_rest.amount ≡ 0);
  count : vec_len l.all ≡ l._i;
  room : l.shares ≤ vec_capacity l.all;
  none : All (λ s. s ≡ nothing_told) l.all.items;
  books : (l.accepted.total ≡ 0) × (l.durable.total ≡ 0);
  acks : l.acks ≡ [];
}
