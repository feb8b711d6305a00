use Rattle.std.proofs.Common.{◌≡◌, ◌∙◌, ◌+◌, ◌-◌, ◌<◌, List, ℕ, length, set, get_or, drop, sym, ap, subst, arith, length-set, replicate, rules}
use Rattle.std.proofs.lemmas.List.{length-replicate}
use Rattle.hg_root.specs.Checking.{HaveLast, last_number}
use Rattle.hg_root.specs.declared.parts.SourceCount.{SourceCount}
use Rattle.hg_root.proofs.Naming.{last_more, nothing_done, zeros}
use Rattle.hg_root.proofs.root.last_numbers.Goals as goal

abbrev none : SourceCount
none = record { source = 0; last = 0 }

pub loop-left-init : goal.loop-left-init
loop-left-init c =
    let items : c.in_ok-last.last.items ≡ replicate 1024 0 = search rules in
    record {
      len = ap (λ (xs : List ℕ). length xs) items ∙ length-replicate 1024 (let z : ℕ = 0 in z);
      within = omega arith;
      each = λ source. ap (λ (xs : List ℕ). get_or xs source 0) items ∙ zeros 1024 source ∙ sym (ap (λ (xs : List SourceCount). last_number xs source) (nothing_done c.args.sources.now));
    }

pub loop-left-preserved : goal.loop-left-preserved
loop-left-preserved c =
    let i = c.loop-left.left - 1 in
    let len = c.loop-left.invariant.len in
    let le = c.loop-left.invariant.within in
    let within : i < length c.args.sources.now = omega (arith, c.loop-left-test.true, le) in
    let back : i + 1 ≡ c.loop-left.left = omega (arith, c.loop-left-test.true) in
    let small = c.requires i none within in
    record {
      len = length-set c.loop-left.last.items c.from.result _ ∙ len;
      within = omega (arith, le);
      each = subst (λ (n : ℕ). HaveLast (drop i c.args.sources.now) (set c.loop-left.last.items n (get_or c.args.sources.now i none).last)) (sym c.from.ensures)
          (last_more c.args.sources.now i none c.loop-left.last.items within (omega (arith, small, len)) (subst (λ (n : ℕ). HaveLast (drop n c.args.sources.now) c.loop-left.last.items) (sym back) c.loop-left.invariant.each));
    }

pub returns-clause-each : goal.returns-clause-each
returns-clause-each c = subst (λ (n : ℕ). HaveLast (drop n c.args.sources.now) c.loop-left.last.items) (let zero : c.loop-left.left ≡ 0 = omega (arith, c.loop-left-test.false) in zero) c.loop-left.invariant.each
