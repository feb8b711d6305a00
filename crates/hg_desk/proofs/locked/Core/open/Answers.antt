use Rattle.std.proofs.Common.{rules, ◌≡◌, List, [], ◌∷◌, Option, IfSome, refl, sym, subst, arith}
use Rattle.std.proofs.lemmas.List.Elements.{All-append, All-cons}
use Rattle.hg_receipts.specs.Receipts.{Has}
use Rattle.hg_receipts.specs.declared.view.Acked.{Acked}
use Rattle.hg_store.specs.Runs.{MadeAlong}
use Rattle.hg_desk.specs.Told.{Told, nothing_told}
use Rattle.hg_desk.specs.Going.{Began, WentOn, began, moments_of}
use Rattle.hg_desk.proofs.Going.{went_nowhere}
use Rattle.hg_desk.proofs.locked.Core.open.Goals as goal

abbrev IsNone : Told → Type 0
IsNone s = s ≡ nothing_told

pub loop-i-preserved : goal.loop-i-preserved
loop-i-preserved g c = record {
  accepted = search rules;
  durable = search rules;
  count = search rules;
  room = search rules;
  none = rw c.push_reserved.ensures.items
      (All-append IsNone c.loop-i.all.items (c.none-share.result ∷ []) c.loop-i.invariant.none (All-cons IsNone c.none-share.result [] c.none-share.ensures (λ k d lt. absurd (omega arith))));
  books = search rules;
  acks = search rules;
}

pub invariant_of-core : goal.invariant_of-core
invariant_of-core g c = record {
  events = λ honest. let is = c.requires.opening.0 in let none = c.loop-i.invariant.books.0 in omega (arith, is, none);
  durable_is = λ honest. let is = c.requires.opening.1 in let none = c.loop-i.invariant.books.1 in omega (arith, is, none);
  accepted_counted = sym c.loop-i.invariant.books.0;
  durable_counted = sym c.loop-i.invariant.books.1;
  since = λ start is.
      let same : start ≡ began g.D.Disk c.args.store = subst (λ (o : Option Began). IfSome o (λ s. s ≡ began g.D.Disk c.args.store)) is c.requires.start in
      let here : WentOn g.D.Disk (began g.D.Disk c.args.store) [] c.args.store = went_nowhere g.D.Disk c.args.store c.stands.ensures.backs in
      subst (λ s. WentOn g.D.Disk s (moments_of c.new.result) c.args.store) (sym same)
      (subst (λ list. WentOn g.D.Disk (began g.D.Disk c.args.store) (moments_of list) c.args.store) (sym c.new.ensures) here);
  ran = λ start is. record {
    first = c.args.store;
    is_start = sym (subst (λ (o : Option Began). IfSome o (λ s. s ≡ began g.D.Disk c.args.store)) is c.requires.start);
    backs = c.stands.ensures.backs;
    along = subst (λ list. MadeAlong g.D.Disk c.args.store list c.args.store) (sym c.new.ensures) refl;
  };
  acked = λ honest entry has. absurd (subst (λ (l : List Acked). Has l entry) c.loop-i.invariant.acks has);
}
