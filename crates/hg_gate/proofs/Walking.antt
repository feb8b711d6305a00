-- A walk over the batches of a log.
use Rattle.std.proofs.Common.{◌≡◌, ◌≢◌, ◌≤◌, ◌+◌, ℕ, Result, IsErrOf, IfErr, List, [], ◌∷◌, ◌++◌, length, take, drop, refl, sym, ◌∙◌, ap, subst, arith, append_assoc, length-append, take-append-drop}
use Rattle.std.proofs.lemmas.List.{drop_at, length-take-le}
use Rattle.std.specs.List.{flat_map, AllByRecursion}
use Rattle.std.specs.Int.{w32, to_be_bytes}
use Rattle.hg_disk.specs.declared.disk.Disk as disk
use Rattle.hg_disk.specs.State.{DiskState, IsImage}
use Rattle.hg_disk.specs.Moments.{LeavesOnly}
use Rattle.hg_disk.proofs.Moments.{joined}
use Rattle.hg_gate.specs.Batches.{open_gate, IsBody, IsBodyLength, IsClosed, sized, batch}
use Rattle.hg_gate.specs.Reading.{WasRead}
use Rattle.hg_gate.specs.Scan.{EndsAt, IsTail, IsOpen, Walked}
use Rattle.hg_gate.proofs.Crash.{spelled_push, each_push}
use Rattle.hg_gate.proofs.Grammar.{sized_apart}
use Rattle.hg_gate.proofs.Reading.{push_length}

-- reads, one after the other
pub read_on : {D : Type 0} (g : disk.Ghosts D) (old mid new : D) → LeavesOnly g old mid (IsImage (g.state old)) → g.state mid ≡ g.state old → LeavesOnly g mid new (IsImage (g.state mid)) → LeavesOnly g old new (IsImage (g.state old))
read_on {D} g old mid new one same two = joined g old mid new (IsImage (g.state old)) one (subst (λ (s : DiskState). LeavesOnly g mid new (IsImage s)) same two)

module _ {D : Type 0} (g : disk.Ghosts D) where
  -- a disk that was not called
  pub unread : (n : ℕ) (d : D) → WasRead g n d d
  unread n d = record {
    state = refl;
    any_moment = record { later = []; has_gone = refl; first = λ image left. left; each = tt; kept = λ were. were };
    calls = omega arith;
  }

  pub at_most : (n k : ℕ) (old new : D) → n ≤ k → WasRead g n old new → WasRead g k old new
  at_most n k old new few read = record { state = read.state; any_moment = read.any_moment; calls = omega (arith, few, read.calls) }

  pub read_again : (n m k : ℕ) (old mid new : D) → n + m ≤ k → WasRead g n old mid → WasRead g m mid new → WasRead g k old new
  read_again n m k old mid new few one two = record {
    state = two.state ∙ one.state;
    any_moment = read_on g old mid new one.any_moment one.state two.any_moment;
    calls = omega (arith, few, one.calls, two.calls);
  }

-- the batch that stands there, and what is behind it
pub record First (bytes : List ℕ) (n : ℕ) : Type 0 where
  pub body : List ℕ
  pub more : List ℕ
  pub spelling : bytes ≡ batch body ++ more
  pub size : length body ≡ n
  pub is_body : IsBody body

pub first_of : (bytes : List ℕ) (n : ℕ) → IsOpen bytes n → First bytes n
first_of bytes n o =
    let body = take n o.rest in
    let more = drop n o.rest in
    let size : length (take n o.rest) ≡ n = length-take-le n o.rest (omega (arith, o.long)) in
    record {
      body = body;
      more = more;
      spelling = o.spelling ∙ ap (λ (l : List ℕ). open_gate ∷ (to_be_bytes w32 n ++ l)) (sym (take-append-drop n o.rest)) ∙ ap (λ (k : ℕ). open_gate ∷ (to_be_bytes w32 k ++ (body ++ more))) (sym size)
          ∙ ap (λ (l : List ℕ). open_gate ∷ l) (sym (append_assoc (to_be_bytes w32 (length body)) body more));
      size = size;
      is_body = subst IsBodyLength (sym size) o.is_length;
    }

module _ (bytes : List ℕ) (at n : ℕ) (w : Walked bytes at) (o : IsOpen (drop at bytes) n) where
  first : First (drop at bytes) n
  first = first_of (drop at bytes) n o

  one_more : bytes ≡ flat_map batch (w.bodies ++ first.body ∷ []) ++ first.more
  one_more = w.first ∙ ap (λ (l : List ℕ). flat_map batch w.bodies ++ l) first.spelling ∙ sym (spelled_push [] w.bodies first.body first.more)

  new_place : at + (5 + n) ≡ length (flat_map batch (w.bodies ++ first.body ∷ []))
  new_place = omega (arith, w.place, first.size, push_length w.bodies first.body)

  -- one batch more
  pub walk_on : Walked bytes (at + (5 + n))
  walk_on = record {
    bodies = w.bodies ++ first.body ∷ [];
    place = new_place;
    first = one_more ∙ ap (λ (l : List ℕ). flat_map batch (w.bodies ++ first.body ∷ []) ++ l) (sym (ap (λ (l : List ℕ). drop (at + (5 + n)) l) one_more ∙ drop_at (flat_map batch (w.bodies ++ first.body ∷ [])) first.more (at + (5 + n)) (sym new_place)));
    each = each_push w.bodies first.body w.each first.is_body;
  }

  -- and no more
  pub walk_counts : length walk_on.bodies ≡ length w.bodies + 1
  unfolding walk_on
  walk_counts = length-append w.bodies (first.body ∷ [])

-- what is left of the batches
pub record Left (seen bodies : List (List ℕ)) (tail : List ℕ) : Type 0 where
  pub more : List (List ℕ)
  pub all : bodies ≡ seen ++ more
  pub is_tail : IsTail tail more

pub strip : (seen bodies : List (List ℕ)) (tail : List ℕ) (gate : ℕ) (rest : List ℕ) → AllByRecursion IsBody seen → AllByRecursion IsBody bodies → gate ≢ open_gate
    → flat_map batch bodies ++ gate ∷ rest ≡ flat_map batch seen ++ tail → Left seen bodies tail
strip [] bodies tail gate rest each_seen each closed is = record {
  more = bodies;
  all = refl;
  is_tail = record { gate = gate; rest = rest; spelling = sym is; closed = closed; each = each };
}
strip (s ∷ seen) [] tail gate rest each_seen each closed is = let same : gate ≡ open_gate = cc is in absurd (closed same)
strip (s ∷ seen) (b ∷ bodies) tail gate rest each_seen each closed is =
    let split_b : flat_map batch (b ∷ bodies) ++ gate ∷ rest ≡ batch b ++ (flat_map batch bodies ++ gate ∷ rest) = append_assoc (batch b) (flat_map batch bodies) (gate ∷ rest) in
    let split_s : flat_map batch (s ∷ seen) ++ tail ≡ batch s ++ (flat_map batch seen ++ tail) = append_assoc (batch s) (flat_map batch seen) tail in
    let tails : sized b ++ (flat_map batch bodies ++ gate ∷ rest) ≡ sized s ++ (flat_map batch seen ++ tail) = ap (λ (l : List ℕ). drop 1 l) (sym split_b ∙ is ∙ split_s) in
    let both = sized_apart b s (flat_map batch bodies ++ gate ∷ rest) (flat_map batch seen ++ tail) (omega (arith, each.0.1)) (omega (arith, each_seen.0.1)) tails in
    let left = strip seen bodies tail gate rest each_seen.1 each.1 closed both.rest in
    record { more = left.more; all = λ i. both.front i ∷ left.all i; is_tail = left.is_tail }

-- what stands behind the walk
pub left_of : (bytes : List ℕ) (at : ℕ) (bodies : List (List ℕ)) (w : Walked bytes at) → IsTail bytes bodies → Left w.bodies bodies (drop at bytes)
left_of bytes at bodies w has = strip w.bodies bodies (drop at bytes) has.gate has.rest w.each has.each has.closed (sym has.spelling ∙ w.first)

-- a walk has passed no more batches than there are
pub few_walked : (bytes : List ℕ) (at : ℕ) (bodies : List (List ℕ)) (w : Walked bytes at) → IsTail bytes bodies → length w.bodies ≤ length bodies
few_walked bytes at bodies w has =
    let left = left_of bytes at bodies w has in
    omega (arith, ap (λ (l : List (List ℕ)). length l) left.all, length-append w.bodies left.more)

pub no_tail : (bytes : List ℕ) (at : ℕ) → Walked bytes at → ((bodies : List (List ℕ)) → IsTail (drop at bytes) bodies → ⊥) → (bodies : List (List ℕ)) → IsTail bytes bodies → ⊥
no_tail bytes at w none bodies has = let left = left_of bytes at bodies w has in none left.more left.is_tail

-- a walk up to a closed gate
pub ends : (bytes : List ℕ) (at : ℕ) → Walked bytes at → IsClosed (drop at bytes) → EndsAt bytes at
ends bytes at w closed = record {
  bodies = w.bodies;
  has = record { gate = closed.gate; rest = closed.rest; spelling = w.first ∙ ap (λ (l : List ℕ). flat_map batch w.bodies ++ l) closed.spelling; closed = closed.closed; each = w.each };
  place = w.place;
}

-- what is known of an answer that is this fault
pub told : {T E A : Type 0} (result : Result T E) (fault : E) → IsErrOf result fault → IfErr result (λ _. A) → A
told {T} {E} {A} result fault is known = subst (λ (r : Result T E). IfErr r (λ (e : E). A)) is known
