-- What stands goes on to stand, whatever calls of the pool come between.
use Rattle.std.proofs.Common.{◌∙◌, ◌++◌, ℕ, List, get_or, Some, sym, subst}
use Rattle.hg_disk.specs.State.{IsImage}
use Rattle.hg_disk.specs.declared.disk.Disk as disk
use Rattle.hg_disk.proofs.Moments.{at_end}
use Rattle.hg_pool.specs.Maps.{disk_of}
use Rattle.hg_root.specs.Checkpoints.{HasSlotsOf, root_of}
use Rattle.hg_checkpoint.specs.Standing.{CallsBetweenKeep}
use Rattle.hg_root.specs.Grammar.{pages_text}
use Rattle.hg_root.specs.Lawful.{IsWritten}
use Rattle.hg_checkpoint.specs.Tables.{NamesOf, pages_of}
use Rattle.hg_checkpoint.proofs.Staying.{frozen_slots_stay, slots_stay}

module _ {D : Type 0} (g : disk.Ghosts D) (bytes : (d : D) → IsImage (g.state d) (g.state d).contents) where
  pub calls_between : CallsBetweenKeep g
  calls_between c old new went = record {
    stands = λ now former is. record {
      roots = is.roots;
      slots = at_end g (disk_of old) (disk_of new) (HasSlotsOf now former) (slots_stay g bytes old new now former went is.names is.slots);
      names = subst (λ (table : List (ℕ × ℕ)). NamesOf table now) (sym went.root) is.names;
    };
    draft = λ now parts cells is. record {
      head = is.head;
      whole = went.whole is.whole;
      words = λ w. went.frozen_is is.whole w ∙ is.words w;
      known = is.known;
    };
    next = λ now next is. record {
      head = (is.head.0, is.head.1, subst (λ (table : List (ℕ × ℕ)). IsWritten (is.head.0 ++ pages_text (pages_of table)) next.root) (sym (went.sealed_table is.sealed)) is.head.2);
      sealed = went.sealed is.sealed;
      body = is.body;
      below = is.below;
      number = is.number;
      slots = at_end g (disk_of old) (disk_of new) (HasSlotsOf (Some next) (root_of now)) (frozen_slots_stay g bytes old new (Some next) (root_of now) went is.names is.slots);
      names = λ i d lt. let p = get_or next.root.pages i d in went.frozen_table p.page p.slot (is.names i d lt);
    };
  }
