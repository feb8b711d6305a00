-- Events that a first content counts are given up.
use Rattle.std.proofs.Common.{◌≡◌, ◌+◌, ◌-◌, ◌≤◌, ◌∙◌, ℕ, List, length, drop, sym, ap, arith}
use Rattle.std.proofs.lemmas.List.{drop-drop, length-drop}
use Rattle.hg_model.specs.declared.event.Named.{Named}
use Rattle.hg_model.specs.Contents.{Content}
use Rattle.hg_model.specs.Change.{followed}
use Rattle.hg_journals.specs.Journals.{behind}
use Rattle.hg_images.specs.Images.{LeadFrom}

module _ (start c : Content) (base next : ℕ) (events : List Named) (after : base ≤ next) (counts : next ≤ start.events) where
  -- the events behind the count are the same
  same_events : behind next start.events (behind base next events) ≡ behind base start.events events
  same_events =
      let sum : (next - base) + (start.events - next) ≡ start.events - base = omega (arith, after, counts) in
      drop-drop (start.events - next) (next - base) events ∙ ap (λ (n : ℕ). drop n events) sum

  pub given_up : LeadFrom start base events c → LeadFrom start next (behind base next events) c
  given_up all = record {
    reaches = counts;
    enough = omega (arith, all.enough, after, counts, length-drop (next - base) events);
    leads = ap (λ (l : List Named). followed start l) same_events ∙ all.leads;
  }

  pub as_before : next ≤ base + length events → LeadFrom start next (behind base next events) c → LeadFrom start base events c
  as_before within rest = record {
    reaches = omega (arith, after, counts);
    enough = omega (arith, rest.enough, after, within, length-drop (next - base) events);
    leads = ap (λ (l : List Named). followed start l) (sym same_events) ∙ rest.leads;
  }
