-- Events followed one after another.
use Rattle.std.proofs.Common.{◌≡◌, ◌+◌, ◌∙◌, ◌↔◌, List, [], ◌∷◌, ◌++◌, length, drop, Option, Some, None, if◌then◌else◌, sym, ap, arith}
use Rattle.std.proofs.lemmas.List.{drop-append-le, drop_at, length-append, length-drop}
use Rattle.std.specs.Option.{option_and_then}
use Rattle.hg_model.specs.declared.event.Named.{Named}
use Rattle.hg_model.specs.declared.verdict.Verdict.{Verdict}
use Rattle.hg_model.specs.declared.verdict.Verdict.TheVariants.{Accept, Duplicate, Refuse}
use Rattle.hg_model.specs.Contents.{Content}
use Rattle.hg_model.specs.Verdicts.{verdict, standing_of}
use Rattle.hg_model.specs.Change.{after, followed, is_accept, offered}
use Rattle.hg_contents.specs.Images.{LeadFrom}

behind : (xs ys : List Named) (d : Content) → ((e : Content) → followed e xs ≡ Some d → followed e (xs ++ ys) ≡ followed d ys)
    → (o : Option Content) → option_and_then (λ e. followed e xs) o ≡ Some d → option_and_then (λ e. followed e (xs ++ ys)) o ≡ followed d ys
behind xs ys d more None is = absurd (cc)
behind xs ys d more (Some e) is = more e is

-- events behind events
pub followed_append : (xs ys : List Named) (c d : Content) → followed c xs ≡ Some d → followed c (xs ++ ys) ≡ followed d ys
followed_append [] ys c d is = let same : c ≡ d = cc in ap (λ (e : Content). followed e ys) same
followed_append (x ∷ xs) ys c d is = behind xs ys d (λ e. followed_append xs ys e d) (offered x c) is

counts_behind : (xs : List Named) (c d : Content) (n : Named) → ((e : Content) → followed e xs ≡ Some d → d.events ≡ e.events + length xs)
    → (v : Verdict) → option_and_then (λ (e : Content). followed e xs) (if is_accept v then Some (after c n) else None) ≡ Some d → d.events ≡ c.events + length (n ∷ xs)
counts_behind xs c d n more Accept is = omega (arith, more (after c n) is)
counts_behind xs c d n more (Duplicate last) is = absurd (cc)
counts_behind xs c d n more (Refuse refusal) is = absurd (cc)

-- each event counts one
pub followed_events : (xs : List Named) (c d : Content) → followed c xs ≡ Some d → d.events ≡ c.events + length xs
followed_events [] c d is = let same : c ≡ d = cc in omega (arith, ap (λ (e : Content). e.events) same)
followed_events (n ∷ xs) c d is = counts_behind xs c d n (λ e. followed_events xs e d) (verdict (standing_of c) n) is

module _ (start mid : Content) (events : List Named) (to_mid : LeadFrom start events mid) (more : List Named) where
  -- what more events lead to, from the start and from the middle
  from_start : followed start (drop start.events (events ++ more)) ≡ followed mid more
  from_start =
      ap (λ (l : List Named). followed start l) (drop-append-le start.events events more to_mid.enough) ∙ followed_append (drop start.events events) more start mid to_mid.leads

  -- the middle has as many events as there are
  pub counted : length events ≡ mid.events
  counted = omega (arith, followed_events (drop start.events events) start mid to_mid.leads, length-drop start.events events, to_mid.enough)

  from_mid : followed mid (drop mid.events (events ++ more)) ≡ followed mid more
  from_mid = ap (λ (l : List Named). followed mid l) (drop_at events more mid.events counted)

  pub lead_on : (last : Content) → followed mid more ≡ Some last → LeadFrom start (events ++ more) last
  lead_on last is = record { enough = omega (arith, to_mid.enough, length-append events more); leads = from_start ∙ is }

  pub same_from : (last : Content) → LeadFrom start (events ++ more) last ↔ LeadFrom mid (events ++ more) last
  same_from last = (
    λ all. record { enough = omega (arith, counted, length-append events more); leads = from_mid ∙ sym from_start ∙ all.leads },
    λ rest. lead_on last (sym from_mid ∙ rest.leads),
  )
