use Rattle.std.proofs.Common.{◌≡◌, ◌<◌, ◌^◌, List, ℕ, Err, length, subst, sym, arith}
use Rattle.hg_gate.specs.Gated.{IsOpenWith}
use Rattle.hg_root.specs.Fault.{of_gate}
use Rattle.hg_root.specs.Lawful.{IsRoot}
use Rattle.hg_root.specs.Roots.{parts_of}
use Rattle.hg_root.specs.declared.fault.RootFault.TheVariants.{Damaged}
use Rattle.hg_root.proofs.Choosing.{no_root, no_such_root, of_damaged}
use Rattle.hg_root.proofs.found.root_of.Goals as goal

pub returns-in_err-body-clause-damaged : goal.returns-in_err-body-clause-damaged
returns-in_err-body-clause-damaged g c honest is =
    let file = (g.D.Disk.state c.args.file.now.disk).contents in
    let told : of_gate c.in_err-body.field-0.0 ≡ Damaged = grind arith in
    let same = of_damaged c.in_err-body.field-0.0 told in
    let none = c.in_err-body.ensures.damaged honest (λ i. Err (same i)) in
    no_such_root file none.0 none.1

pub returns-in_err-decode-in-Some-clause-damaged :
    goal.returns-in_err-decode-in-Some-clause-damaged
returns-in_err-decode-in-Some-clause-damaged g c honest is =
    let file = (g.D.Disk.state c.args.file.now.disk).contents in
    let body = c.in-Some.body.items in
    let same : c.in_err-decode-in-Some.field-0.0 ≡ Damaged = grind arith in
    let opened : IsOpenWith body file = rw c.in-Some.is at (c.in_ok-body.ensures.read honest) in
    let small : length file < 2 ^ 64 = let fits = c.in_ok-body.ensures.fits in omega (arith, fits) in
    no_root file body small opened (λ p root. c.in_err-decode-in-Some.ensures.damaged (λ i. Err (same i)) p (subst (λ (l : List ℕ). IsRoot l p) (sym c.deref.ensures.value) root))

pub returns-in_ok-decode-in-Some-clause-found : goal.returns-in_ok-decode-in-Some-clause-found
returns-in_ok-decode-in-Some-clause-found g c honest =
    let file = (g.D.Disk.state c.args.file.now.disk).contents in
    let body = c.in-Some.body.items in
    let opened : IsOpenWith body file = rw c.in-Some.is at (c.in_ok-body.ensures.read honest) in
    (body, opened, subst (λ (l : List ℕ). IsRoot l (parts_of c.in_ok-decode-in-Some.field-0)) c.deref.ensures.value c.in_ok-decode-in-Some.ensures.found)
