use Rattle.std.proofs.Common.{◌≡◌, ◌+◌, ◌-◌, ◌++◌, ◌∙◌, ℕ, List, sym, ap, arith}
use Rattle.std.specs.Prelude.{slice_index}
use Rattle.std.proofs.lemmas.List.{append-nil, append_assoc}
use Rattle.hg_root.specs.declared.parts.SourceCount.{SourceCount}
use Rattle.hg_checkpoint.specs.Capturing.{if_sent}
use Rattle.hg_checkpoint.proofs.Sent.{all_sent, next_sent, none_sent, sent_from}
use Rattle.hg_checkpoint.proofs.capturing.sources_of.Goals as goal

pub loop-source-init : goal.loop-source-init
loop-source-init c =
    let last = slice_index c.args.state.now.last in
    ap (λ (xs : List SourceCount). xs ++ sent_from last 0 1024) c.new-counts.ensures.items ∙ all_sent last

pub loop-source-preserved : goal.loop-source-preserved
loop-source-preserved c =
    let last = slice_index c.args.state.now.last in
    let source = c.loop-source.source in
    let before = c.loop-source.counts.items in
    let rest = sent_from last (source + 1) (1024 - (source + 1)) in
    ap (λ (xs : List SourceCount). xs ++ rest) (c.in_ok-push_sent.ensures ∙ ap (λ (n : ℕ). before ++ if_sent source n) c.last.ensures)
    ∙ append_assoc before (if_sent source (last source)) rest
    ∙ ap (λ (xs : List SourceCount). before ++ xs) (sym (next_sent last source 1024 c.loop-source-test.true))
    ∙ c.loop-source.invariant

pub returns : goal.returns
returns c =
    let last = slice_index c.args.state.now.last in
    let source = c.loop-source.source in
    let before = c.loop-source.counts.items in
    let none : 1024 - source ≡ 0 = omega (arith, c.loop-source-test.false) in
    sym (append-nil before)
    ∙ ap (λ (xs : List SourceCount). before ++ xs) (sym (ap (λ (n : ℕ). sent_from last source n) none ∙ none_sent last source))
    ∙ c.loop-source.invariant
