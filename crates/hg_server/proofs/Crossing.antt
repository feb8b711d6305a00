-- A store may go to another thread where its device may, and threads may share the lock over it: the search for a proof wants the parts one by one.
use mathlib.Core.List.{List}
use mir.Syntax.{Sym}
use denote.Param.Send.{AllSend, AllSync, IsSend, IsSync, sendable, view_send, struct_send, struct_sync, recorded_send, recorded_sync}
use denote.Struct.Tuple.{TupleAt, type_at}
use denote.Struct.Declared.{shape}
use denote.RattleType.{RattleType}
use Rattle.std.proofs.Crossing.{crosses}
use Rattle.hg_pool.specs.contracts.pool.Pool as pool
use Rattle.hg_pool.specs.contracts.pool.Pool.TheInside as inside
use Rattle.hg_pool.specs.contracts.parts.Parts as parts
use Rattle.hg_cache.proofs.frames.Frames.TheSendSync as frames
use Rattle.hg_pages.proofs.table.Table.TheSendSync as table
use Rattle.hg_disk.specs.declared.disk.Disk as disk
use Rattle.hg_cells.proofs.page.Page.TheSendSync as page
use Rattle.std.proofs.hash.BuildHasherDefault.TheSendSync as builder
use Rattle.std.proofs.hash.FoldHasher.TheSendSync as hasher
use Rattle.std.proofs.alloc.Global.TheSendSync as heap
use Rattle.std.proofs.Crossing as general
use Rattle.lru.proofs.cache.LruCache.TheSendSync as lru
use Rattle.hg_detect.proofs.detector.Detector.TheSendSync as detector
use Rattle.hg_journal.specs.contracts.journal.Journal as journals
use Rattle.hg_journals.specs.contracts.pair.JournalPair as turns
use Rattle.hg_gate.specs.contracts.log.Log as log
use Rattle.hg_gate.specs.contracts.gated.Gated as gated
use Rattle.hg_root.specs.contracts.pair.RootPair as roots
use Rattle.hg_store.specs.contracts.store.Store as store
use Rattle.hg_store.specs.contracts.store.Store.TheInside as within
use Rattle.hg_checkpoint.specs.contracts.checkpointer.Checkpointer as checkpointer
use Rattle.std.specs.declared.sync.ledger.Ledger as ledger
use Rattle.std.proofs.sync.ledger.Book.TheSendSync as book
use Rattle.hg_trail.proofs.trail.Trail.TheLaws.TheKnot as knot
use Rattle.hg_desk.specs.declared.share.Column as column
use Rattle.hg_desk.specs.declared.share.Opening as opening
use Rattle.hg_receipts.specs.declared.view.Room as room
use Rattle.std.proofs.sync.ledger.Share.TheSendSync as part
use Rattle.hg_receipts.proofs.register.Receipts.TheSendSync as receipts
use Rattle.hg_receipts.proofs.register.Register.TheSendSync as register
use Rattle.hg_desk.specs.contracts.share.Share as share
use Rattle.hg_desk.specs.contracts.share.Share.TheInside as told
use Rattle.hg_desk.specs.contracts.locked.Core as core
use Rattle.hg_desk.specs.contracts.locked.Core.TheInside as locked
use Rattle.hg_desk.specs.contracts.shared.Shared as shared
use Rattle.hg_server.specs.contracts.piece.Station as station
use Rattle.hg_server.specs.contracts.wire.Guest as guest
use Rattle.hg_server.specs.contracts.wire.Wire as wire

parts_send : (D : RattleType) → IsSend D → IsSend (parts.the_field D).row
parts_send D d = struct_send (shape (parts.the_type D)) (
  search (sendable, crosses) depth 20,
  (
    search (sendable, crosses, d) depth 20,
    (
      table.the_send,
      (
        search (sendable, crosses, table.the_send) depth 20,
        (
          table.the_send,
          (
            table.the_send,
            (
              search (lru.the_send, page.the_send, builder.the_send, hasher.the_send, heap.the_send, general.frees, sendable, crosses) depth 20,
              (
                frames.the_send,
                (
                  search (sendable, crosses) depth 20,
                  (
                    search (sendable, crosses) depth 20,
                    (
                      search (sendable, crosses) depth 20,
                      tt,
                    ),
                  ),
                ),
              ),
            ),
          ),
        ),
      ),
    ),
  ),
)

pub pool_send : (D : RattleType) (g : disk.Ghosts D.Denot) → IsSend D → IsSend (pool.the_row D g)
pool_send D g d = view_send _ _ _ _ _ (recorded_send _ _ _ (inside.the_type D g).to_one (struct_send (shape (inside.the_type D g)) (parts_send D d, tt)))

log_field : (D : RattleType) (g : disk.Ghosts D.Denot) → IsSend D → IsSend (log.the_field D g).row
log_field D g d = struct_send (shape (log.the_type D g)) (
  search (sendable, crosses, d) depth 20,
  (
    search (sendable, crosses) depth 20,
    (search (sendable, crosses) depth 20, (search (sendable, crosses) depth 20, (search (sendable, crosses) depth 60 fits 20000, tt))),
  ),
)

journal_field : (D : RattleType) (g : disk.Ghosts D.Denot) → IsSend D → IsSend (journals.the_field D g).row
journal_field D g d = struct_send (shape (journals.the_type D g)) (log_field D g d, (search (sendable, crosses) depth 60 fits 20000, tt))

pair_field : (D : RattleType) (g : disk.Ghosts D.Denot) → IsSend D → IsSend (turns.the_field D g).row
pair_field D g d = struct_send (shape (turns.the_type D g)) (
  journal_field D g d,
  (
    journal_field D g d,
    (
      search (sendable, crosses) depth 20,
      (
        search (sendable, crosses) depth 20,
        (
          search (sendable, crosses) depth 20,
          (
            search (sendable, crosses) depth 20,
            (
              search (sendable, crosses) depth 20,
              (
                search (sendable, crosses) depth 20,
                tt,
              ),
            ),
          ),
        ),
      ),
    ),
  ),
)

gated_field : (D : RattleType) → IsSend D → IsSend (gated.the_field D).row
gated_field D d = search (sendable, crosses, d) depth 60 fits 20000

roots_field : (D : RattleType) → IsSend D → IsSend (roots.the_field D).row
roots_field D d = struct_send (shape (roots.the_type D)) (gated_field D d, (gated_field D d, (search (sendable, crosses) depth 20, (search (sendable, crosses) depth 20, (search (sendable, crosses) depth 20, tt)))))

checkpointer_field : (D : RattleType) (g : disk.Ghosts D.Denot) → IsSend D → IsSend (checkpointer.the_field D g).row
checkpointer_field D g d = struct_send (shape (checkpointer.the_type D g)) (
  roots_field D d,
  (
    search (sendable, crosses) depth 60 fits 20000,
    (
      search (sendable, crosses) depth 20,
      (
        search (sendable, crosses) depth 20,
        (
          search (sendable, crosses) depth 60 fits 20000,
          (
            search (sendable, crosses) depth 60 fits 20000,
            (
              search (sendable, crosses) depth 20,
              tt,
            ),
          ),
        ),
      ),
    ),
  ),
)

store_parts : (D : RattleType) (g : disk.Ghosts D.Denot) → IsSend D → AllSend (shape (within.the_type D g)).fields
store_parts D g d = (
  pair_field D g d,
  (
    detector.the_send (pool.the_row D g) (pool_send D g d),
    (
      checkpointer_field D g d,
      (
        search (sendable, crosses) depth 20,
        (
          search (sendable, crosses) depth 20,
          (
            search (sendable, crosses) depth 60 fits 20000,
            (
              search (sendable, crosses) depth 20,
              (
                search (sendable, crosses) depth 20,
                (
                  search (sendable, crosses) depth 20,
                  (
                    search (sendable, crosses) depth 20,
                    (
                      search (sendable, crosses) depth 20,
                      tt,
                    ),
                  ),
                ),
              ),
            ),
          ),
        ),
      ),
    ),
  ),
)

pub store_send : (D : RattleType) (g : disk.Ghosts D.Denot) → IsSend D → IsSend (store.the_row D g)
store_send D g d = view_send _ _ _ _ _ (recorded_send _ _ _ (within.the_type D g).to_one (struct_send (shape (within.the_type D g)) (store_parts D g d)))

module _ (D A B : RattleType) (g : disk.Ghosts D.Denot) (o : opening.Ghosts A.Denot) (c : column.Ghosts A.Denot)
    (l : ledger.Ghosts A.Denot) (r : room.Ghosts A.Denot) (c' : column.Ghosts B.Denot) (l' : ledger.Ghosts B.Denot) where
  core_parts : IsSend D → AllSend (shape (locked.the_type D A B g o c l r c' l')).fields
  core_parts d = (
    store_send D g d,
    (
      book.the_send A l,
      (
        book.the_send B l',
        (
          search (sendable, crosses) depth 20,
          (search (sendable, crosses) depth 20, (search (sendable, crosses, knot.crosses) depth 20, (register.the_send A r, tt))),
        ),
      ),
    ),
  )

  core_send : IsSend D → IsSend (core.the_row D A B g o c l r c' l')
  core_send d =
      view_send _ _ _ _ _ (recorded_send _ _ _ (locked.the_type D A B g o c l r c' l').to_one (struct_send (shape (locked.the_type D A B g o c l r c' l')) (core_parts d)))

  pub shared_sync : IsSend D → IsSync (shared.the_row D A B g o c l r c' l')
  shared_sync d = let value = core_send d in search (value, sendable, crosses) depth 60 fits 20000

-- A share crosses threads, and what a worker begins with.
module _ (A B : RattleType) (o : opening.Ghosts A.Denot) (c : column.Ghosts A.Denot) (l : ledger.Ghosts A.Denot) (r : room.Ghosts A.Denot)
    (c' : column.Ghosts B.Denot) (l' : ledger.Ghosts B.Denot) where
  share_parts : AllSend (shape (told.the_type A B o c l r c' l')).fields
  share_parts = (
    search (sendable, crosses) depth 20,
    (
      search (sendable, crosses) depth 20,
      (part.the_send A l, (part.the_send B l', (receipts.the_send A r, (search (sendable, crosses, knot.crosses) depth 20, tt)))),
    ),
  )

  pub share_send : IsSend (share.the_row A B o c l r c' l')
  share_send =
      view_send _ _ _ _ _ (recorded_send _ _ _ (told.the_type A B o c l r c' l').to_one (struct_send (shape (told.the_type A B o c l r c' l')) share_parts))

  pub station_send : IsSend (station.the_row A B o c l r c' l')
  station_send =
      recorded_send _ _ _ (station.the_type A B o c l r c' l').to_one
      (struct_send (shape (station.the_type A B o c l r c' l')) (share_send, (search (sendable, crosses) depth 60 fits 20000, tt)))

-- A connection that waits for its conversation crosses threads where the connection does.
wire_field : (S : RattleType) → IsSend S → IsSend (wire.the_field S).row
wire_field S s = struct_send (shape (wire.the_type S)) (
  search (sendable, crosses, s) depth 20,
  (search (sendable, crosses, knot.crosses) depth 20, (search (sendable, crosses, knot.crosses) depth 20, tt)),
)

pub guest_send : (S : RattleType) → IsSend S → IsSend (guest.the_row S)
guest_send S s = recorded_send _ _ _ (guest.the_type S).to_one (struct_send (shape (guest.the_type S)) (wire_field S s, tt))

-- A closure crosses threads where all that it captures does.
module _ (name : Sym) (captured : List RattleType) where
  pub closure_send : AllSend (shape (type_at name captured)).fields → IsSend (TupleAt name captured)
  closure_send all = recorded_send _ _ _ (type_at name captured).to_one (struct_send (shape (type_at name captured)) all)

  pub closure_sync : AllSync (shape (type_at name captured)).fields → IsSync (TupleAt name captured)
  closure_sync all = recorded_sync _ _ _ (type_at name captured).to_one (struct_sync (shape (type_at name captured)) all)
