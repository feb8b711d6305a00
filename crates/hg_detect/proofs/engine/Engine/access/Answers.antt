use Rattle.std.proofs.Common.{ℕ, length, Option, Some, None, IfSome, refl, arith}
use Rattle.hg_model.specs.Verdicts.{standing}
use Rattle.hg_cells.specs.declared.cell.Cell.{Cell}
use Rattle.hg_cells.specs.Cells.{IsWithin}
use Rattle.hg_detect.specs.Engine.{named_of}
use Rattle.hg_detect.proofs.Accesses.{last_word}
use Rattle.hg_detect.proofs.Answering.{answers_from}
use Rattle.hg_detect.proofs.Passing.{access_passes}
use Rattle.hg_detect.proofs.engine.Engine.access.Goals as goal

pub access_found-requires-clause-count : goal.access_found-requires-clause-count
access_found-requires-clause-count g c =
    let a = c.args.named.access in
    let passed = access_passes (standing c.args.self.now.state) (named_of c.args.named) c.args.named.write a refl c.requires.accepted in
    let ends = last_word a c.from.result c.from.ensures passed.some in
    omega (arith, ends)

pub access_found-requires-clause-within : goal.access_found-requires-clause-within
access_found-requires-clause-within g c =
    let old = c.args.self.now in
    let lawful = c.same-found.ensures.lawful (length old.graph) (length old.sets.sets) c.requires.lawful in
    at_counts g.W.Words.may_bring c.same-found.new.self (length old.graph) (length old.sets.sets) c.same-found.result c.same-found.ensures.named lawful
  where
    at_counts : {W : Type 0} (may_bring : W → ℕ → ℕ → Type 0) (words : W) (n m : ℕ) (o : Option Cell) → IfSome o (λ cell. (segments sets : ℕ) → may_bring words segments sets → IsWithin segments sets cell) → may_bring words n m → IfSome o (IsWithin n m)
    at_counts may_bring words n m None named lawful = named
    at_counts may_bring words n m (Some cell) named lawful = named n m lawful

pub returns-clause-answers : goal.returns-clause-answers
returns-clause-answers g c =
    let words = g.W.Words in
    answers_from words c.args.self.now c.access_found.new.self c.same-found.new.self (named_of c.args.named) c.access_found.result c.same-found.ensures.unchanged c.same-found.ensures.faithful c.same-found.ensures.true_still c.same-found.ensures.brought c.same-found.ensures.kept c.access_found.ensures.answers
