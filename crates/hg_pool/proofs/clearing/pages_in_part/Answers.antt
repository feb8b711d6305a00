use Rattle.std.proofs.Common.{◌-◌, ◌+◌, ◌/◌, inl, inr, ⊎_elim, refl, arith, rules}
use Rattle.hg_pool.proofs.Overlapping.{between, from_the_front, overlapped}
use Rattle.hg_pool.proofs.clearing.pages_in_part.Goals as goal

pub returns-in-true-true : goal.returns-in-true-true
returns-in-true-true c =
    let at = c.args.at in
    let len = c.args.len in
    let end = (at + (len - 1)) / 4 in
    record {
      pages = record {
        low = (at / 4, overlapped at len (at / 4) (omega arith) (omega (arith, c.requires.some)), omega arith);
        high = (end, overlapped at len end (omega (arith, c.requires.some)) (omega (arith, c.requires.some)), omega (arith, c.from.ensures));
        others = λ w is. between at len (at / 1024) ((at + c.from.result) / 1024) w refl (omega (arith, c.from.ensures)) is;
        numbers = (omega (arith, c.requires.within, c.requires.some), omega (arith, c.from.ensures, c.requires.within, c.requires.some));
      };
    }

pub returns-in-false-true : goal.returns-in-false-true
returns-in-false-true c =
    let at = c.args.at in
    let len = c.args.len in
    let end = (at + (len - 1)) / 4 in
    record {
      pages = record {
        low = (end, overlapped at len end (omega (arith, c.requires.some)) (omega (arith, c.requires.some)), omega (arith, c.from.ensures));
        high = (end, overlapped at len end (omega (arith, c.requires.some)) (omega (arith, c.requires.some)), omega (arith, c.from.ensures));
        others = λ w is. ⊎_elim (λ last. inl last) (λ covered. inr (inr covered)) (from_the_front at len ((at + c.from.result) / 1024) w (search rules) (omega (arith, c.from.ensures)) is);
        numbers = (omega (arith, c.from.ensures, c.requires.within, c.requires.some), omega (arith, c.from.ensures, c.requires.within, c.requires.some));
      };
    }
