use Rattle.std.proofs.lemmas.List.Elements.{All-from_recursion}
use Rattle.hg_root.specs.Grammar.{LockFits}
use Rattle.hg_root.proofs.head.put_thread.Goals as goal

pub put_each-requires : goal.put_each-requires
put_each-requires c = rw c.as_slice-held.ensures.value (All-from_recursion LockFits c.args.thread.now.held c.requires.fits.1.1)
