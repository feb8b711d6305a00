use Rattle.std.proofs.Common.{rules, Option, Some, ℕ, sym, subst}
use Rattle.hg_server.specs.Recording.{Accounts, Lacks, held_in}
use Rattle.hg_server.specs.declared.handing.Cut.{Cut}
use Rattle.hg_server.proofs.handing.Taken.compared.Goals as goal

pub returns-in-Some-clause-accounts : goal.returns-in-Some-clause-accounts
returns-in-Some-clause-accounts c =
    let connections = c.args.connections in
    let held = held_in c.args.talks.now in
    let lacks : Lacks connections held c.args.self.count = search rules in
    let short = c.cut_short-in-Some in
    subst (λ (o : Option Cut). Accounts connections held short.result.count o) (sym short.ensures.cut)
    (subst (λ (n : ℕ). Accounts connections held n (Some c.in-Some.why)) (sym short.ensures.count) (c.in-Some.ensures connections held c.args.self.count lacks))
