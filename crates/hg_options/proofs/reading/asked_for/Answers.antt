use Rattle.std.proofs.Common.{◌≡◌, Option, Some, None, option_map, ap, sym, ◌∙◌}
use Rattle.clap.specs.Words.{found_of, rows_of, subcommand_rows_of}
use Rattle.hg_options.proofs.Unasked.{reads_command}
use Rattle.hg_options.proofs.reading.asked_for.Goals as goal

-- what maps to two things by halves maps to both
both : {X A B : Type 0} (o : Option X) (f : X → A) (h : X → B) (a : A) (b : B) → Some a ≡ option_map f o → Some b ≡ option_map (λ (p : A × B). p.1) (option_map {U = A × B} (λ x. (f x, h x)) o) → option_map {U = A × B} (λ x. (f x, h x)) o ≡ Some (a, b)
both {A = A} {B = B} None f h a b first second = absurd (cc first)
both {A = A} {B = B} (Some x) f h a b first second =
    let one : f x ≡ a = sym (cc first) in
    let two : h x ≡ b = sym (cc second) in
    ap (λ (y : A). Some (y, h x)) one ∙ ap (λ (y : B). Some (a, y)) two

pub returns-in-Some : goal.returns-in-Some
returns-in-Some c =
    let there : subcommand_rows_of c.args.matches.now ≡ Some (c.in-Some.name.now, rows_of (found_of c.in-Some.given.now)) = both _ _ _ c.in-Some.name.now (rows_of (found_of c.in-Some.given.now)) c.in-Some.ensures.name c.in-Some.ensures.rows in
    reads_command (subcommand_rows_of c.args.matches.now) c.in-Some.name.now (rows_of (found_of c.in-Some.given.now)) c.task.result there c.task.ensures
