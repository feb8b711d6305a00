-- Events behind a base, followed one after another.
use Rattle.std.proofs.Common.{◌≡◌, ◌+◌, ◌-◌, ◌≤◌, ◌∙◌, ◌↔◌, ℕ, List, ◌++◌, length, Some, sym, ap, arith}
use Rattle.std.proofs.lemmas.List.{drop-append-le, drop_at, length-append, length-drop}
use Rattle.hg_model.specs.declared.event.Named.{Named}
use Rattle.hg_model.specs.Contents.{Content}
use Rattle.hg_model.specs.Change.{followed}
use Rattle.hg_journals.specs.Journals.{behind}
use Rattle.hg_contents.proofs.Following.{followed_append, followed_events}
use Rattle.hg_images.specs.Images.{LeadFrom}

module _ (start mid : Content) (base : ℕ) (events : List Named) (to_mid : LeadFrom start base events mid) where
  -- the middle counts the events up to the last one
  pub counted : mid.events ≡ base + length events
  counted =
      omega (arith, followed_events (behind base start.events events) start mid to_mid.leads, length-drop (start.events - base) events, to_mid.reaches, to_mid.enough)

  module _ (more : List Named) where
    -- what more events lead to, from the start and from the middle
    from_start : followed start (behind base start.events (events ++ more)) ≡ followed mid more
    from_start =
        let within : start.events - base ≤ length events = omega (arith, to_mid.reaches, to_mid.enough) in
        ap (λ (l : List Named). followed start l) (drop-append-le (start.events - base) events more within)
        ∙ followed_append (behind base start.events events) more start mid to_mid.leads

    from_mid : followed mid (behind base mid.events (events ++ more)) ≡ followed mid more
    from_mid =
        let at : length events ≡ mid.events - base = omega (arith, counted) in
        ap (λ (l : List Named). followed mid l) (drop_at events more (mid.events - base) at)

    pub lead_on : (last : Content) → followed mid more ≡ Some last → LeadFrom start base (events ++ more) last
    lead_on last is = record { reaches = to_mid.reaches; enough = omega (arith, to_mid.enough, length-append events more); leads = from_start ∙ is }

    pub same_from : (last : Content) → LeadFrom start base (events ++ more) last ↔ LeadFrom mid base (events ++ more) last
    same_from last = (
      λ all. record { reaches = omega (arith, counted); enough = omega (arith, counted, length-append events more); leads = from_mid ∙ sym from_start ∙ all.leads },
      λ rest. lead_on last (sym from_mid ∙ rest.leads),
    )
