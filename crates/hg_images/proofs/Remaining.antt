-- What remains of a run that was stopped.
use Rattle.std.proofs.Common.{◌≡◌, inl, inr, List, [], ◌∷◌, length, Some, None, refl, sym, ◌∙◌, subst, arith, if◌then◌else◌}
use Rattle.std.proofs.lemmas.List.{append-nil}
use Rattle.std.specs.Option.{option_and_then}
use Rattle.hg_model.specs.declared.event.Named.{Named}
use Rattle.hg_model.specs.declared.verdict.Verdict.{Verdict}
use Rattle.hg_model.specs.declared.verdict.Verdict.TheVariants.{Accept, Duplicate, Refuse}
use Rattle.hg_model.specs.Contents.{Content}
use Rattle.hg_model.specs.Verdicts.{verdict, standing_of}
use Rattle.hg_model.specs.Change.{after, empty_content, followed, is_accept}
use Rattle.hg_model.specs.Laws.{FollowingIsTheSummary}
use Rattle.hg_contents.specs.Runs.{AreAccepted, accepted}
use Rattle.hg_contents.proofs.Following.{followed_append, followed_events}
use Rattle.hg_images.specs.Images.{HasContent, Image}
use Rattle.hg_images.specs.Runs.{EndsWith, PrefixIsSummed, RemainingGiveTheSame}
use Rattle.hg_images.proofs.Contents.{count_their_events}

one : (c live : Content) (n : Named) (rest : List Named) (v : Verdict) → option_and_then (λ (d : Content). followed d rest) (if is_accept v then Some (after c n) else None) ≡ Some live
    → (v ≡ Accept) × (followed (after c n) rest ≡ Some live)
one c live n rest Accept is = (refl, is)
one c live n rest (Duplicate last) is = absurd (cc)
one c live n rest (Refuse refusal) is = absurd (cc)

are_accepted : (rest : List Named) (c live : Content) → followed c rest ≡ Some live → AreAccepted c rest
are_accepted [] c live is = tt
are_accepted (n ∷ rest) c live is =
    let first = one c live n rest (verdict (standing_of c) n) is in
    (first.0, are_accepted rest (after c n) live first.1)

pub remaining : RemainingGiveTheSame
remaining start live run in_doubt image (c, is, inl acked) all =
    let rest : followed c run.pending ≡ Some live = sym (followed_append run.acknowledged run.pending start c acked) ∙ all in
    (c, run.acknowledged, run.pending, is, record { whole = refl; more = []; acknowledged = append-nil run.acknowledged }, acked, rest, are_accepted run.pending c live rest)
remaining start live run in_doubt image (c, is, inr told) all =
    let rest : followed c [] ≡ Some live = sym told.1 ∙ all in
    (c, accepted run, [], is, record { whole = append-nil (accepted run); more = run.pending; acknowledged = refl }, told.1, rest, tt)

-- the journals end with the last of the events that lead to the content
ends : (image : Image) (c : Content) (front : List Named) → HasContent image c → followed empty_content front ≡ Some c → EndsWith (length front) image
ends image c front has leads base events keeps = omega (arith, count_their_events image base events c keeps has, followed_events front empty_content c leads)

pub summed : FollowingIsTheSummary → PrefixIsSummed
summed law run in_doubt image (c, is, inl acked) =
    let both = (law run.acknowledged c).0 acked in (
      run.acknowledged,
      run.pending,
      record { whole = refl; more = []; acknowledged = append-nil run.acknowledged },
      both.0,
      subst (λ (d : Content). HasContent image d) both.1 is,
      ends image c run.acknowledged is acked,
    )
summed law run in_doubt image (c, is, inr told) =
    let both = (law (accepted run) c).0 told.1 in (
      accepted run,
      [],
      record { whole = append-nil (accepted run); more = run.pending; acknowledged = refl },
      both.0,
      subst (λ (d : Content). HasContent image d) both.1 is,
      ends image c (accepted run) is told.1,
    )
