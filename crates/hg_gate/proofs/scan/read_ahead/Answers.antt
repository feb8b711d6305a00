use Rattle.std.proofs.Common.{◌≡◌, ◌<◌, ◌≤◌, ◌+◌, ◌-◌, ◌∙◌, ℕ, Option, List, length, take, drop, sym, ap, subst, arith, length-drop}
use Rattle.std.proofs.lemmas.List.{drop-drop}
use Rattle.hg_gate.specs.Batches.{IsBodyLength, IsClosed}
use Rattle.hg_gate.specs.Scan.{HasBodyLength, IsHead, IsOpen, batch_len}
use Rattle.hg_gate.specs.Turning.{ShowsFirst, ahead_of}
use Rattle.hg_gate.proofs.Reading.{none_left, tail_at}
use Rattle.hg_gate.proofs.Turning.{front_is, front_shows, open_in_front, open_len, passes}
use Rattle.hg_gate.proofs.scan.read_ahead.Goals as goal

pub returns-in_default-clause-next : goal.returns-in_default-clause-next
returns-in_default-clause-next g c honest seen left has at =
    let file = (g.D.Disk.state c.args.disk.now).contents in
    let bytes = drop c.args.begins file in
    let tail = drop c.args.reader.now.next bytes in
    let room : (c.len.result - c.args.begins) - c.args.reader.now.next ≡ length tail = omega (arith, length-drop c.args.reader.now.next bytes, length-drop c.args.begins file, c.len.ensures.value) in
    let front = ap (λ (l : List ℕ). take c.min.result l) c.deref.ensures.value ∙ front_is tail c.in_ok-piece.piece.items ((c.len.result - c.args.begins) - c.args.reader.now.next) c.min-count.result c.min.result room c.min-count.ensures (c.in_ok-piece.ensures.bytes honest ∙ ap (λ (l : List ℕ). take c.min-count.result l) (sym (drop-drop c.args.reader.now.next c.args.begins file))) c.min.ensures in
    let closed : IsClosed tail = subst (IsHead tail) c.in_default.is (c.in_ok-len.ensures.head tail front room) in
    none_left tail left (tail_at bytes c.args.reader.now.next seen left at.place has) closed

pub returns-clause-next : goal.returns-clause-next
returns-clause-next g c honest seen left has at =
    let file = (g.D.Disk.state c.args.disk.now).contents in
    let bytes = drop c.args.begins file in
    let tail = drop c.args.reader.now.next bytes in
    let piece = c.in_ok-piece.piece.items in
    let room : (c.len.result - c.args.begins) - c.args.reader.now.next ≡ length tail = omega (arith, length-drop c.args.reader.now.next bytes, length-drop c.args.begins file, c.len.ensures.value) in
    let read = c.in_ok-piece.ensures.bytes honest ∙ ap (λ (l : List ℕ). take c.min-count.result l) (sym (drop-drop c.args.reader.now.next c.args.begins file)) in
    let front = ap (λ (l : List ℕ). take c.min.result l) c.deref.ensures.value ∙ front_is tail piece ((c.len.result - c.args.begins) - c.args.reader.now.next) c.min-count.result c.min.result room c.min-count.ensures read c.min.ensures in
    let begins : IsOpen tail c.in-Some.len = subst (IsHead tail) c.in-Some.is (c.in_ok-len.ensures.head tail front room) in
    let longer : 5 + c.in-Some.len < c.min-count.result = omega (arith, open_len c.in-Some.len tail begins, begins.is_length.1, room, c.min-count.ensures) in
    c.turn.ensures.turned seen left
    (record { place = at.place; ahead = subst (λ (bytes : List ℕ). ShowsFirst bytes left) (sym read) (front_shows c.min-count.result tail left (tail_at bytes c.args.reader.now.next seen left at.place has)) })
    (subst (λ (bytes : List ℕ). IsOpen bytes c.in-Some.len) (sym read) (open_in_front c.min-count.result c.in-Some.len tail longer begins))

pub returns-in_err-len-clause-whole : goal.returns-in_err-len-clause-whole
returns-in_err-len-clause-whole g c honest is =
    let file = (g.D.Disk.state c.args.disk.now).contents in
    let bytes = drop c.args.begins file in
    let tail = drop c.args.reader.now.next bytes in
    let room : (c.len.result - c.args.begins) - c.args.reader.now.next ≡ length tail = omega (arith, length-drop c.args.reader.now.next bytes, length-drop c.args.begins file, c.len.ensures.value) in
    c.in_err-len.ensures.damaged tail
    (ap (λ (l : List ℕ). take c.min.result l) c.deref.ensures.value ∙ front_is tail c.in_ok-piece.piece.items ((c.len.result - c.args.begins) - c.args.reader.now.next) c.min-count.result c.min.result room c.min-count.ensures (c.in_ok-piece.ensures.bytes honest ∙ ap (λ (l : List ℕ). take c.min-count.result l) (sym (drop-drop c.args.reader.now.next c.args.begins file))) c.min.ensures) room

pub returns-in_default-clause-walks : goal.returns-in_default-clause-walks
returns-in_default-clause-walks g c honest at =
    let file = (g.D.Disk.state c.args.disk.now).contents in
    let bytes = drop c.args.begins file in
    let tail = drop c.args.reader.now.next bytes in
    let room : (c.len.result - c.args.begins) - c.args.reader.now.next ≡ length tail = omega (arith, length-drop c.args.reader.now.next bytes, length-drop c.args.begins file, c.len.ensures.value) in
    let front = ap (λ (l : List ℕ). take c.min.result l) c.deref.ensures.value ∙ front_is tail c.in_ok-piece.piece.items ((c.len.result - c.args.begins) - c.args.reader.now.next) c.min-count.result c.min.result room c.min-count.ensures (c.in_ok-piece.ensures.bytes honest ∙ ap (λ (l : List ℕ). take c.min-count.result l) (sym (drop-drop c.args.reader.now.next c.args.begins file))) c.min.ensures in
    subst (IsHead tail) c.in_default.is (c.in_ok-len.ensures.head tail front room)

pub returns-clause-walks : goal.returns-clause-walks
returns-clause-walks g c honest at =
    let file = (g.D.Disk.state c.args.disk.now).contents in
    let bytes = drop c.args.begins file in
    let tail = drop c.args.reader.now.next bytes in
    let piece = c.in_ok-piece.piece.items in
    let room : (c.len.result - c.args.begins) - c.args.reader.now.next ≡ length tail = omega (arith, length-drop c.args.reader.now.next bytes, length-drop c.args.begins file, c.len.ensures.value) in
    let read = c.in_ok-piece.ensures.bytes honest ∙ ap (λ (l : List ℕ). take c.min-count.result l) (sym (drop-drop c.args.reader.now.next c.args.begins file)) in
    let front = ap (λ (l : List ℕ). take c.min.result l) c.deref.ensures.value ∙ front_is tail piece ((c.len.result - c.args.begins) - c.args.reader.now.next) c.min-count.result c.min.result room c.min-count.ensures read c.min.ensures in
    let begins : IsOpen tail c.in-Some.len = subst (IsHead tail) c.in-Some.is (c.in_ok-len.ensures.head tail front room) in
    let longer : 5 + c.in-Some.len < c.min-count.result = omega (arith, open_len c.in-Some.len tail begins, begins.is_length.1, room, c.min-count.ensures) in
    let passed = passes bytes _ c.turn.new.self c.in-Some.len
    (read ∙ ap (λ (n : ℕ). take n tail) (sym c.in_ok-piece.ensures.len))
    (subst (λ (bytes : List ℕ). IsOpen bytes c.in-Some.len) (sym read) (open_in_front c.min-count.result c.in-Some.len tail longer begins)) c.turn.ensures.over in
    record { len = passed.len; begins = passed.begins; place = passed.place; ahead = passed.ahead }

pub returns-clause-within : goal.returns-clause-within
returns-clause-within g c within is =
    let went = c.turn.ensures.over in
    let fits : 5 + c.in-Some.len ≤ (c.len.result - c.args.begins) - c.args.reader.now.next = subst (λ (o : Option ℕ). batch_len o ≤ (c.len.result - c.args.begins) - c.args.reader.now.next) c.in-Some.is c.in_ok-len.ensures.within in
    let short : IsBodyLength c.in-Some.len = subst HasBodyLength c.in-Some.is c.in_ok-len.ensures.length in
    let less : length (ahead_of c.turn.new.self) ≡ length c.in_ok-piece.piece.items - (5 + c.in-Some.len) = ap length went.ahead ∙ length-drop (5 + c.in-Some.len) c.in_ok-piece.piece.items in (
      omega (arith, went.place),
      omega (arith, went.place, less, fits, short.1, c.in_ok-piece.ensures.len, c.min-count.ensures, c.len.ensures.value, c.requires),
    )
