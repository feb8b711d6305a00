use Rattle.std.proofs.Common.{◌≡◌, Some, None, codes, ◌∙◌, sym, ap}
use Rattle.clap.specs.Words.{first_of, found_of, rows_of}
use Rattle.clap.proofs.WalkLemmas.{first_value-rows}
use Rattle.std.proofs.lemmas.Slice.Eq.{bytes_eq-Decides}
use Rattle.std.proofs.lemmas.Bool.{false≢true}
use Rattle.hg_options.proofs.matches.is_socket.Goals as goal

-- no text is none of them
no_text : {X : Type 0} (text : X) → None ≡ Some text → ⊥
no_text text e = cc

pub returns-in-Some : goal.returns-in-Some
returns-in-Some c =
    let is : Some c.in-Some.text.now ≡ first_of (codes "PORT") (rows_of (found_of c.args.given.now)) = c.in-Some.ensures ∙ first_value-rows (found_of c.args.given.now) (codes "PORT") in
    let decides = bytes_eq-Decides c.in-Some.text.now (codes "unix") in (
      λ e. sym is ∙ ap Some (decides.0 (sym c.eq.ensures ∙ e)),
      λ e. let both : Some c.in-Some.text.now ≡ Some (codes "unix") = is ∙ e in let same : c.in-Some.text.now ≡ codes "unix" = cc both in c.eq.ensures ∙ decides.1 same,
    )

pub returns-in-None : goal.returns-in-None
returns-in-None c =
    let is : None ≡ first_of (codes "PORT") (rows_of (found_of c.args.given.now)) = c.in-None.ensures ∙ first_value-rows (found_of c.args.given.now) (codes "PORT") in
    (λ e. absurd (false≢true e), λ e. absurd (no_text _ (is ∙ e)))
