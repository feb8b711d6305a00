use Rattle.std.proofs.Common.{refl, arith}
use Rattle.hg_check.proofs.explain.explaining.Explaining.behind.Goals as goal

pub returns-clause-fresh : goal.returns-clause-fresh
returns-clause-fresh c = record {
  ready = record {
    whole = c.requires.whole;
    word = c.requires.word;
    few = omega arith;
    looks = c.look_at-look.ensures.value;
  };
  none = refl;
}
