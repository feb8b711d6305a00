-- Which line each place of a batch stands in.
use Rattle.std.proofs.Common.{◌≡◌, ℕ, ◌+◌, ◌-◌, ◌<◌, ◌≤◌, cond, nat_le, List, [], ◌∷◌, ◌++◌, length, take, get_or, map, Ok, refl, sym, ap, ◌∙◌, subst, ⊎_elim, arith}
use Rattle.std.proofs.lemmas.Bool.{cases_lt, le-leb, lt-leb}
use Rattle.std.proofs.lemmas.List.{append_assoc, take_all, take_more, length_push, map-append}
use Rattle.hg_parts.specs.declared.line.EventLine.{EventLine}
use Rattle.hg_parts.specs.declared.runs.Run.{Run}
use Rattle.hg_model.specs.declared.event.Event.{Event}
use Rattle.hg_shards.specs.declared.routes.Routes.{Routes}
use Rattle.hg_shards.specs.Pushing.{IsRouted}
use Rattle.hg_parts.specs.Batches.{AreNumbered, events_in, readings_in, reading_of}
use Rattle.hg_parts.specs.Numbers.{Notes, number_at, number_from}
use Rattle.hg_wire.specs.declared.reader.Reading.{Reading}
use Rattle.hg_wire.specs.Streams.{numbered_on}

-- one run more
pub number_more : (known : ℕ) (runs : List Run) (run : Run) (place : ℕ) → number_from known (runs ++ run ∷ []) place ≡ cond (nat_le run.place place) (run.line + (place - run.place)) (number_from known runs place)
number_more known [] run place = refl
number_more known (r ∷ runs) run place = number_more (cond (nat_le r.place place) (r.line + (place - r.place)) known) runs run place

pub number_here : (runs : List Run) (run : Run) (place : ℕ) → run.place ≤ place → number_at (runs ++ run ∷ []) place ≡ run.line + (place - run.place)
number_here runs run place le = number_more 0 runs run place ∙ ap (λ b. cond b (run.line + (place - run.place)) (number_at runs place)) (le-leb run.place place le)

pub number_before : (runs : List Run) (run : Run) (place : ℕ) → place < run.place → number_at (runs ++ run ∷ []) place ≡ number_at runs place
number_before runs run place lt = number_more 0 runs run place ∙ ap (λ b. cond b (run.line + (place - run.place)) (number_at runs place)) (lt-leb run.place place lt)

-- a run that begins here
pub noted_new : (runs news : List Run) (place line : ℕ) → news ≡ runs ++ record { place = place; line = line } ∷ [] → Notes runs place line news
noted_new runs news place line is = record {
  here = ap (λ rs. number_at rs place) is ∙ number_here runs (record { place = place; line = line }) place (omega arith) ∙ add_none;
  before = λ i lt. ap (λ rs. number_at rs i) is ∙ number_before runs (record { place = place; line = line }) i lt;
}
  where
    add_none : line + (place - place) ≡ line
    add_none = omega arith

-- the last run comes to the line
pub noted_on : (runs : List Run) (last : Run) (n place line : ℕ) → length runs ≡ n + 1 → last ≡ get_or runs n last → last.place ≤ place → last.line + (place - last.place) ≡ line → Notes runs place line runs
noted_on runs last n place line many is le comes = record {
  here = ap (λ rs. number_at rs place) (whole runs last n many is) ∙ number_here (take n runs) last place le ∙ comes;
  before = λ i lt. refl;
}
  where
    whole : (xs : List Run) (x : Run) (m : ℕ) → length xs ≡ m + 1 → x ≡ get_or xs m x → xs ≡ take m xs ++ x ∷ []
    whole xs x m size at =
        sym (take_all (m + 1) xs (omega (arith, size))) ∙ take_more xs m x (omega (arith, size)) ∙ ap (λ y. take m xs ++ y ∷ []) (sym at)

-- the last of the runs that were not passed
pub found_here : (runs : List Run) (d : Run) (m n place : ℕ) → m ≡ n + 1 → n < length runs → (get_or runs n d).place ≤ place → number_at (take m runs) place ≡ (get_or runs n d).line + (place - (get_or runs n d).place)
found_here runs d m n place is lt le =
    ap (λ (k : ℕ). number_at (take k runs) place) is ∙ ap (λ rs. number_at rs place) (take_more runs n d lt) ∙ number_here (take n runs) (get_or runs n d) place le

pub passed_over : (runs : List Run) (d : Run) (m n place : ℕ) → m ≡ n + 1 → n < length runs → place < (get_or runs n d).place → number_at (take m runs) place ≡ number_at (take n runs) place
passed_over runs d m n place is lt before =
    ap (λ (k : ℕ). number_at (take k runs) place) is ∙ ap (λ rs. number_at rs place) (take_more runs n d lt) ∙ number_before (take n runs) (get_or runs n d) place before

-- ---- the lines of a batch

-- runs that tell the same of places in front of this one
pub numbered_still : (old new : List Run) (greatest more n : ℕ) (lines : List EventLine) → ((i : ℕ) → i < n → number_at new i ≡ number_at old i) → length lines ≤ n → greatest ≤ more
    → AreNumbered old greatest lines → AreNumbered new more lines
numbered_still old new greatest more n [] same few le h = tt
numbered_still old new greatest more n (l ∷ earlier) same few le h = (
  same (length earlier) (omega (arith, few)) ∙ h.0,
  omega (arith, le, h.1),
  numbered_still old new greatest more n earlier same (omega (arith, few)) le h.2,
)

-- one line more
pub numbered_more : (old new : List Run) (greatest more place line : ℕ) (l : EventLine) (lines : List EventLine) → Notes old place line new → place ≡ length lines → l.line ≡ line → greatest ≤ more → line ≤ more
    → AreNumbered old greatest lines → AreNumbered new more (l ∷ lines)
numbered_more old new greatest more place line l lines noted is same le fits h = (
  subst (λ (n : ℕ). number_at new n ≡ l.line) is (noted.here ∙ sym same),
  omega (arith, same, fits),
  numbered_still old new greatest more place lines noted.before (omega (arith, is)) le h,
)

-- the lines, the oldest first
abbrev pub oldest : List EventLine → List EventLine
oldest [] = []
oldest (l ∷ earlier) = oldest earlier ++ l ∷ []

pub length_oldest : (lines : List EventLine) → length (oldest lines) ≡ length lines
length_oldest [] = refl
length_oldest (l ∷ earlier) = length_push (oldest earlier) l ∙ (let same = length_oldest earlier in omega (arith, same))

pub events_oldest : (lines : List EventLine) → events_in lines ≡ map (λ l. l.event) (oldest lines)
events_oldest [] = refl
events_oldest (l ∷ earlier) = ap (λ es. es ++ l.event ∷ []) (events_oldest earlier) ∙ sym (map-append (λ l. l.event) (oldest earlier) (l ∷ []))

-- what is read of the line of an event, behind n lines
abbrev pub behind : ℕ → EventLine → Reading
behind n l = record { line = n + l.line; event = Ok l.event }

pub readings_oldest : (n : ℕ) (lines : List EventLine) → map (numbered_on n) (readings_in lines) ≡ map (behind n) (oldest lines)
readings_oldest n [] = refl
readings_oldest n (l ∷ earlier) =
    map-append (numbered_on n) (readings_in earlier) (reading_of l ∷ [])
    ∙ ap (λ rs. rs ++ behind n l ∷ []) (readings_oldest n earlier)
    ∙ sym (map-append (behind n) (oldest earlier) (l ∷ []))

-- The line at a place: those in front of it and those behind it, and its number.
pub record IsLineAt (runs : List Run) (greatest place : ℕ) (lines : List EventLine) : Type 0 where
  pub front : List EventLine
  pub line : EventLine
  pub later : List EventLine
  pub joined : oldest lines ≡ front ++ line ∷ later
  pub count : length front ≡ place
  pub number : number_at runs place ≡ line.line
  pub below : line.line ≤ greatest

pub line_at_place : (runs : List Run) (greatest place : ℕ) (lines : List EventLine) → place < length lines → AreNumbered runs greatest lines → IsLineAt runs greatest place lines
line_at_place runs greatest place [] lt h = absurd (omega (arith, lt))
line_at_place runs greatest place (l ∷ earlier) lt h =
    ⊎_elim
    (λ in_front. let rest = line_at_place runs greatest place earlier in_front h.2 in
    record {
      front = rest.front;
      line = rest.line;
      later = rest.later ++ l ∷ [];
      joined = ap (λ xs. xs ++ l ∷ []) rest.joined ∙ append_assoc rest.front (rest.line ∷ rest.later) (l ∷ []);
      count = rest.count;
      number = rest.number;
      below = rest.below;
    })
    (λ last. let same : length earlier ≡ place = omega (arith, lt, last) in
    record {
      front = oldest earlier;
      line = l;
      later = [];
      joined = refl;
      count = length_oldest earlier ∙ same;
      number = subst (λ (n : ℕ). number_at runs n ≡ l.line) same h.0;
      below = h.1;
    })
    (cases_lt place (length earlier))

-- ---- one line more in a batch

length_events : (lines : List EventLine) → length (events_in lines) ≡ length lines
length_events [] = refl
length_events (l ∷ earlier) = length_push (events_in earlier) l.event ∙ (let same = length_events earlier in omega (arith, same))

pub routed_more : (old new : Routes) (lines news : List EventLine) (l : EventLine) → ((events : List Event) → IsRouted events old → IsRouted (events ++ l.event ∷ []) new) → IsRouted (events_in lines) old → news ≡ l ∷ lines
    → IsRouted (events_in news) new
routed_more old new lines news l more h is = subst (λ (ls : List EventLine). IsRouted (events_in ls) new) (sym is) (more (events_in lines) h)

pub placed_last : (routes : Routes) (lines : List EventLine) → IsRouted (events_in lines) routes → routes.count ≡ length lines
placed_last routes lines h = h.count ∙ length_events lines

pub numbers_more : (old new : List Run) (greatest more place line : ℕ) (l : EventLine) (lines news : List EventLine) → Notes old place line new → place ≡ length lines → l.line ≡ line → greatest ≤ more → line ≤ more
    → AreNumbered old greatest lines → news ≡ l ∷ lines → AreNumbered new more news
numbers_more old new greatest more place line l lines news noted is same le fits h grown =
    subst (λ (ls : List EventLine). AreNumbered new more ls) (sym grown) (numbered_more old new greatest more place line l lines noted is same le fits h)

pub no_readings : (lines : List EventLine) → length lines ≡ 0 → readings_in lines ≡ []
no_readings [] none = refl
no_readings (l ∷ earlier) none = absurd (omega (arith, none))
