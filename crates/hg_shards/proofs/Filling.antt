-- The event that a full table refuses, by what the shards of all parts have made.
use Rattle.std.proofs.Common.{◌≡◌, ℕ, suc, ◌+◌, ◌<◌, ◌≤◌, Bool, true, false, cond, ◌||◌, nat_eq, nat_le, nat_lt, List, [], ◌∷◌, length, map, Option, None, refl, sym, ap, ◌∙◌, arith}
use Rattle.std.proofs.lemmas.Bool.{le-ltb}
use Rattle.std.proofs.lemmas.List.Sums.{sum_by-cons}
use Rattle.std.proofs.lemmas.Map.Made.{distinct_count-le}
use Rattle.std.proofs.lemmas.Nat.{mod_below}
use Rattle.std.specs.Cmp.Lexicographic.{pointwise}
use Rattle.std.specs.List.{flat_map, range_with_len, sum_by}
use Rattle.std.specs.Set.{distinct_count}
use Rattle.hg_model.specs.declared.event.Named.{Named}
use Rattle.hg_model.specs.Contents.{events_of}
use Rattle.hg_shards.specs.declared.shard.Shard.{Shard}
use Rattle.hg_shards.specs.Asking.{anywhere, asked, has_set, size_with}
use Rattle.hg_shards.specs.Filling.{AreShardsFrom, AreShardsOf, IsFirstFull, IsShardOf, logged}
use Rattle.hg_shards.specs.Logging.{made_by}
use Rattle.hg_shards.specs.Parts.{AreParts, by_page}
use Rattle.hg_shards.specs.Sharding.{HasMade, LogsOwnSets, made_in, page_part, words_of}
use Rattle.hg_shards.proofs.Agreement.{itself}
use Rattle.hg_shards.proofs.Asking.{parts_ask}
use Rattle.hg_shards.proofs.Counting.{has_both, same_count}
use Rattle.hg_shards.proofs.Together.{FillsAt, all_made}

-- ---- what the shards know of a shorter trace

older : (count k : ℕ) (n : Named) (past : List Named) (shards : List Shard) → AreShardsFrom count k (n ∷ past) shards → AreShardsFrom count k past shards
older count k n past [] h = h
older count k n past (s ∷ shards) h = (record { count_is = h.0.count_is; part_is = h.0.part_is; log = h.0.log.1 }, older count (k + 1) n past shards h.1)

made_now : (trace : List Named) (s : Shard) → LogsOwnSets trace s → HasMade s trace
made_now [] s h = h
made_now (n ∷ past) s h = h.0

-- ---- what all shards have made

-- the sets that the trace asks for, for words of part k
abbrev own : ℕ → List Named → ℕ → List (List ℕ)
own count trace k = asked (words_of count k) (events_of trace)

own_made : (count k : ℕ) (trace : List Named) (s : Shard) → IsShardOf count k trace s → (q : List ℕ) → has_set (made_in (length trace) s) q ≡ has_set ([] ∷ own count trace k) q
own_made count k trace s h q =
    made_now trace s h.log q ∙ (λ i. has_set ([] ∷ asked (words_of (h.count_is i) (h.part_is i)) (events_of trace)) q)

join : (b a r x y : Bool) → x ≡ (b || a) → (b || r) ≡ (b || y) → (b || (x || r)) ≡ (b || (a || y))
join true a r x y is same = refl
join false a r x y is same = λ i. is i || same i

made_asked : (count k : ℕ) (trace : List Named) (shards : List Shard) → AreShardsFrom count k trace shards → (q : List ℕ)
    → has_set ([] ∷ all_made (length trace) shards) q ≡ has_set ([] ∷ flat_map (λ (sets : List (List ℕ)). sets) (map (own count trace) (range_with_len k (length shards)))) q
made_asked count k trace [] h q = refl
made_asked count k trace (s ∷ shards) h q =
    ap (λ b. pointwise nat_eq q [] || b) (has_both (made_in (length trace) s) (all_made (length trace) shards) q)
    ∙ join (pointwise nat_eq q []) (has_set (own count trace k) q) (has_set (all_made (length trace) shards) q) (has_set (made_in (length trace) s) q) (has_set rest q)
    (own_made count k trace s h.0 q) (made_asked count (k + 1) trace shards h.1 q)
    ∙ ap (λ b. pointwise nat_eq q [] || b) (sym (has_both (own count trace k) rest q))
  where
    rest : List (List ℕ)
    rest = flat_map (λ (sets : List (List ℕ)). sets) (map (own count trace) (range_with_len (k + 1) (length shards)))

all_parts : (count : ℕ) (trace : List Named) → 0 < count → AreParts count (by_page (page_part count)) (events_of trace) (λ k. events_of trace)
all_parts count trace some = record { some = λ w. mod_below _ count some; agree = λ k lt. itself _ (events_of trace) }

-- the shards of all parts have made the sets that the trace asks for
size_made : (trace : List Named) (shards : List Shard) → AreShardsOf trace shards → size_with (all_made (length trace) shards) ≡ size_with (asked anywhere (events_of trace))
size_made trace shards h =
    let asks = parts_ask (length shards) (by_page (page_part (length shards))) (events_of trace) (λ k. events_of trace) (all_parts (length shards) trace h.0) in
    same_count ([] ∷ all_made (length trace) shards) ([] ∷ asked anywhere (events_of trace))
    (λ q. made_asked (length shards) 0 trace shards h.1 q ∙ ap (λ b. pointwise nat_eq q [] || b) (sym (asks.members q)))

pub first_full_lem : (limit : ℕ) (shards : List Shard) (found : Option ℕ) → FillsAt limit shards found → IsFirstFull limit shards found
first_full_lem limit shards found fills [] h = ap (λ (size : ℕ). nat_lt limit size) (sym (size_made [] shards h)) ∙ fills 0
first_full_lem limit shards found fills (n ∷ past) h = (
  ap (λ (size : ℕ). nat_lt limit size) (sym (size_made (n ∷ past) shards h)) ∙ fills (length (n ∷ past)),
  first_full_lem limit shards found fills past (h.0, older (length shards) 0 n past shards h.1),
)

-- ---- where all shards together have no more than the limit

made_length : (k : ℕ) (sets : List (List ℕ)) (events : List ℕ) → length (made_by k sets events) ≤ length events
made_length k [] events = omega arith
made_length k (set ∷ sets) [] = omega arith
made_length k (set ∷ sets) (e ∷ events) =
    let le = made_length k sets events in
    elim (nat_le e k) as (λ b. length (cond b (set ∷ made_by k sets events) (made_by k sets events)) ≤ suc (length events)) [
      | true ↦ omega (arith, le)
      | false ↦ omega (arith, le)
    ]

own_size : (count k : ℕ) (trace : List Named) (s : Shard) → IsShardOf count k trace s → size_with (own count trace k) ≤ length s.log.events
own_size count k trace s h =
    let made = made_in (length trace) s in
    let same : distinct_count (pointwise nat_eq) made ≡ size_with (own count trace k) = same_count made ([] ∷ own count trace k) (own_made count k trace s h) in
    let few = distinct_count-le (pointwise nat_eq) made in
    let short = made_length (length trace) s.detector.sets.sets s.log.events in
    omega (arith, same, few, short)

sizes : (count k : ℕ) (trace : List Named) (shards : List Shard) → AreShardsFrom count k trace shards → sum_by size_with (map (own count trace) (range_with_len k (length shards))) ≤ logged shards
sizes count k trace [] h = omega arith
sizes count k trace (s ∷ shards) h =
    let one = own_size count k trace s h.0 in
    let rest = sizes count (k + 1) trace shards h.1 in
    let left = sum_by-cons size_with (own count trace k) (map (own count trace) (range_with_len (k + 1) (length shards))) in
    let right = sum_by-cons (λ (x : Shard). length x.log.events) s shards in
    omega (arith, one, rest, left, right)

few_made : (limit : ℕ) (trace : List Named) (shards : List Shard) → logged shards ≤ limit → AreShardsOf trace shards → nat_lt limit (size_with (asked anywhere (events_of trace))) ≡ false
few_made limit trace shards le h =
    let asks = parts_ask (length shards) (by_page (page_part (length shards))) (events_of trace) (λ k. events_of trace) (all_parts (length shards) trace h.0) in
    let few = asks.few in
    let sum = sizes (length shards) 0 trace shards h.1 in
    le-ltb limit (size_with (asked anywhere (events_of trace))) (omega (arith, le, few, sum))

pub few_lem : (limit : ℕ) (shards : List Shard) → logged shards ≤ limit → IsFirstFull limit shards None
few_lem limit shards le [] h = few_made limit [] shards le h
few_lem limit shards le (n ∷ past) h = (few_made limit (n ∷ past) shards le h, few_lem limit shards le past (h.0, older (length shards) 0 n past shards h.1))
