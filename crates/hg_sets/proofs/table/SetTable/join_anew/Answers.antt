use Rattle.std.proofs.Common.{sym, length, ◌<◌, subst}
use Rattle.hg_sets.specs.Interning.{Table}
use Rattle.hg_sets.specs.Soundness.{table_of}
use Rattle.hg_sets.proofs.Remembering.{keeps, joins_kept, meets_kept, joins_more, new_join}
use Rattle.hg_sets.proofs.table.SetTable.join_anew.Goals as goal

pub invariant_of-self-2 : goal.invariant_of-self-2
invariant_of-self-2 c =
    let old = table_of c.self.inside.interner in
    let new = table_of c.join.new.self in
    let kept = keeps old new _ _ c.in_ok-answer.ensures.exact in
    let known = subst (λ (t : Table). c.args.a < length t.sets) (sym c.self.view_is) c.requires.known in
    record {
      sound = c.in_ok-answer.ensures.sound;
      joins = joins_more new.sets c.self.inside.joins.items c.args.place _ (joins_kept old new c.self.inside.joins.items kept c.self.invariant.joins)
          (new_join old new c.args.a c.args.member c.in_ok-answer.answer known c.in_ok-answer.ensures.exact);
      meets = meets_kept old new c.self.inside.meets.items kept c.self.invariant.meets;
    }
