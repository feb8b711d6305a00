use Rattle.std.proofs.Common.{◌≡◌, ℕ, refl, sym, ap, ◌∙◌, subst, length}
use Rattle.hg_shards.specs.declared.shards.Shards.{Shards}
use Rattle.hg_shards.specs.Together.{parts_taken}
use Rattle.hg_shards.proofs.Batches.{as_many}
use Rattle.hg_shards.proofs.Routed.{if_ok_on, judges_batch}
use Rattle.hg_shards.proofs.judge.Judge.offer_all.Goals as goal

pub invariant_of-self : goal.invariant_of-self
invariant_of-self g c =
    let old = c.args.self.now in
    record {
      least = old.least;
      greatest = old.greatest;
      counts = subst (λ (n : ℕ). parts_taken n old.taking ≡ n)
          (sym (as_many old.shards.shards.items c.args.events.now c.offer_all-first.result c.offer_all-first.new.self.shards.items c.offer_all-first.ensures)) old.counts;
    }

pub returns-clause-parts : goal.returns-clause-parts
returns-clause-parts g c =
    ap (λ (s : Shards). length s.shards.items) c.conclude.ensures.shards
    ∙ as_many c.args.self.now.shards.shards.items c.args.events.now c.offer_all-first.result c.offer_all-first.new.self.shards.items c.offer_all-first.ensures

pub returns-clause-judged : goal.returns-clause-judged
returns-clause-judged g c =
    if_ok_on c.conclude.result
    (λ stop end. judges_batch c.args.self.now _ c.conclude.new.self c.args.events.now c.offer_all-first.result stop c.offer_all-first.ensures refl refl refl c.conclude.ensures.limit c.conclude.ensures.shards end)
    c.conclude.ensures.stop
