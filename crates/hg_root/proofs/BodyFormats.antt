-- The parts of a body: what is read is spelled so, and what is spelled so is read.
use Rattle.std.proofs.Common.{◌≡◌, ◌⊎◌, inl, inr, ℕ, suc, zero, nat_le, ◌^◌, ◌<◌, ◌≤◌, Bool, true, false, cond, eqb, ◌||◌, List, [], ◌∷◌, ◌++◌, length, Some, None, refl, sym, ap, ⊎_elim, ◌∙◌, arith}
use Rattle.std.specs.Int.{w16, w32, w64, to_be_bytes}
use Rattle.std.specs.List.{AllByRecursion}
use Rattle.std.proofs.lemmas.Bool.{eqb-true, and_parts, le-leb, leb-true, ne_eqb, or_cases, false≢true}
use Rattle.hg_model.specs.Segments.{present}
use Rattle.hg_model.specs.declared.segment.Mark.{Mark}
use Rattle.hg_model.specs.declared.segment.Mark.TheVariants.{Plain, Sent, Got}
use Rattle.hg_model.specs.declared.segment.Segment.{Segment}
use Rattle.hg_model.specs.declared.thread.ThreadState.{ThreadState}
use Rattle.hg_graph.specs.Graph.{names}
use Rattle.hg_graph.specs.Restoring.{former}
use Rattle.hg_root.specs.Body.{BackParts, FrontParts, back_at, form_at, front_in, header_number, middle_at}
use Rattle.hg_root.specs.Grammar.{LockFits, MarkFits, PageFits, ReportFits, SetFits, SourceFits, ThreadFits, few_text, lock_text, many_text, mark_text, page_text, report_text, segment_text, set_text, some_text, source_text, thread_text}
use Rattle.hg_root.specs.Lawful.{AreHeld}
use Rattle.hg_root.specs.declared.form.Form.{Form}
use Rattle.hg_root.specs.declared.form.Form.TheVariants.{Former, Written}
use Rattle.hg_root.specs.Reading.{RawThread, alive_at, are_held, chained, given, is_last, is_thread, kind_at, lock_at, mark_at, mark_of, members_at, message_at, number_at, mode_at, page_at, raw_thread_at, report_at, segment_at, source_at, thread_at}
use Rattle.hg_root.proofs.Formats.{IsFormat, as_format, both_format, chained_format, format8, format16, format32, format64, listed_format, given_format, made_format, spelled_format, such_that_format}
use Rattle.hg_root.proofs.ThreadReading.{held_is, is_held, is_its_last, last_is}

-- a message, or none
abbrev message_text : ℕ → ℕ → List ℕ
message_text code k = cond (eqb code 0) [] (to_be_bytes w32 k)

abbrev MessageFits : ℕ → ℕ → Type 0
MessageFits code k = cond (eqb code 0) (k ≡ 0) (k < 2 ^ 32)

message_format : (code : ℕ) → IsFormat (message_text code) (message_at code) (MessageFits code)
message_format code = pick (eqb code 0)
  where
    pick : (b : Bool) → IsFormat (λ k. cond b [] (to_be_bytes w32 k)) (cond b (given 0) (number_at w32)) (λ k. cond b (k ≡ 0) (k < 2 ^ 32))
    pick true = given_format 0
    pick false = format32

abbrev code_of : Mark → ℕ × ℕ
code_of Plain = (0, 0)
code_of (Sent k) = (1, k)
code_of (Got k) = (2, k)

no_code : (n : ℕ) → 3 ≤ n → (eqb n 0 || (eqb n 1 || eqb n 2)) ≡ false
no_code n more = rw (ne_eqb n 0 (λ e. omega (arith, e, more)), ne_eqb n 1 (λ e. omega (arith, e, more)), ne_eqb n 2 (λ e. omega (arith, e, more))) refl

pub mark_format : IsFormat (mark_text Written) (mark_at Written) MarkFits
mark_format =
    spelled_format _ _ _ _ (as_format _ _ _ _
    (made_format _ _ _ mark_of code_of (chained_format _ _ _ message_text message_at MessageFits (such_that_format _ _ _ (λ b. eqb b 0 || (eqb b 1 || eqb b 2)) format8) message_format) there back) to from) text
  where
    there : (a : ℕ × ℕ) → ((a.0 < 2 ^ 8) × ((eqb a.0 0 || (eqb a.0 1 || eqb a.0 2)) ≡ true)) × MessageFits a.0 a.1 → code_of (mark_of a) ≡ a
    there (zero, k) f = ap (λ (n : ℕ). (0, n)) (sym f.1)
    there (suc zero, k) f = refl
    there (suc (suc zero), k) f = refl
    there (suc (suc (suc n)), k) f = absurd (false≢true (sym (no_code (suc (suc (suc n))) (omega arith)) ∙ f.0.1))

    back : (m : Mark) → mark_of (code_of m) ≡ m
    back Plain = refl
    back (Sent k) = refl
    back (Got k) = refl

    to : (m : Mark) → (((code_of m).0 < 2 ^ 8) × ((eqb (code_of m).0 0 || (eqb (code_of m).0 1 || eqb (code_of m).0 2)) ≡ true)) × MessageFits (code_of m).0 (code_of m).1 → MarkFits m
    to Plain f = tt
    to (Sent k) f = f.1
    to (Got k) f = f.1

    from : (m : Mark) → MarkFits m → (((code_of m).0 < 2 ^ 8) × ((eqb (code_of m).0 0 || (eqb (code_of m).0 1 || eqb (code_of m).0 2)) ≡ true)) × MessageFits (code_of m).0 (code_of m).1
    from Plain f = ((omega arith, refl), refl)
    from (Sent k) f = ((omega arith, refl), f)
    from (Got k) f = ((omega arith, refl), f)

    text : (m : Mark) → ((code_of m).0 ∷ message_text (code_of m).0 (code_of m).1) ≡ mark_text Written m
    text Plain = refl
    text (Sent k) = refl
    text (Got k) = refl

-- the former form has plain marks alone
abbrev pub MarkFitsIn : Form → Mark → Type 0
MarkFitsIn Written m = MarkFits m
MarkFitsIn Former m = m ≡ Plain

mark_format_in : (form : Form) → IsFormat (mark_text form) (mark_at form) (MarkFitsIn form)
mark_format_in Written = mark_format
mark_format_in Former = given_format Plain

-- a segment that a form can spell
pub record IsSegmentIn (form : Form) (s : Segment) : Type 0 where
  pub thread : s.thread < 2 ^ 16
  pub few : length s.before ≤ 2
  pub each : AllByRecursion (λ k. k < 2 ^ 32) s.before
  pub mark : MarkFitsIn form s.mark

pub segment_format : (form : Form) → IsFormat (segment_text form) (segment_at form) (IsSegmentIn form)
segment_format form =
    as_format _ _ _ _ (made_format _ _ _ (λ p. record { thread = p.0; before = p.1.0; mark = p.1.1 }) (λ s. (s.thread, (s.before, s.mark)))
    (both_format _ _ _ _ _ _ format16 (both_format _ _ _ _ _ _ (listed_format _ _ _ format32 _ _ _ (such_that_format _ _ _ (λ n. nat_le n 2) format8)) (mark_format_in form))) (λ a f. refl) (λ x. refl))
    (λ s f. record { thread = f.0; few = leb-true (length s.before) 2 f.1.0.0.1; each = f.1.0.1; mark = f.1.1 })
    (λ s is. (is.thread, (((omega (arith, is.few), le-leb (length s.before) 2 is.few), is.each), is.mark)))

-- one of two codes
codes : (one none a : ℕ) → (eqb a one ≡ true) ⊎ (eqb a none ≡ true) → cond (eqb a one) one none ≡ a
codes one none a h = pick (eqb a one) refl
  where
    pick : (b : Bool) → eqb a one ≡ b → cond (eqb a one) one none ≡ a
    pick true e = ap (λ c. cond c one none) e ∙ sym (eqb-true a one e)
    pick false e = ap (λ c. cond c one none) e ∙ sym (eqb-true a none (⊎_elim (λ t. absurd (false≢true (sym e ∙ t))) (λ t. t) h))

turned : {A B : Type 0} → A ⊎ B → B ⊎ A
turned (inl a) = inr a
turned (inr b) = inl b

mode_format : IsFormat (λ (w : Bool). cond w 1 2 ∷ []) mode_at (λ w. Unit {0})
mode_format =
    as_format _ _ _ _ (made_format _ _ _ (λ b. eqb b 1) (λ (w : Bool). cond w 1 2) (such_that_format _ _ _ (λ b. eqb b 1 || eqb b 2) format8)
    (λ a f. codes 1 2 a (or_cases (eqb a 1) (eqb a 2) f.1)) back) (λ x f. tt) fits
  where
    back : (w : Bool) → eqb (cond w 1 2) 1 ≡ w
    back true = refl
    back false = refl

    fits : (w : Bool) → Unit {0} → (cond w 1 2 < 2 ^ 8) × ((eqb (cond w 1 2) 1 || eqb (cond w 1 2) 2) ≡ true)
    fits true f = (omega arith, refl)
    fits false f = (omega arith, refl)

kind_format : IsFormat (λ (w : Bool). cond w 7 6 ∷ []) kind_at (λ w. Unit {0})
kind_format =
    as_format _ _ _ _ (made_format _ _ _ (λ b. eqb b 7) (λ (w : Bool). cond w 7 6) (such_that_format _ _ _ (λ b. eqb b 6 || eqb b 7) format8)
    (λ a f. codes 7 6 a (turned (or_cases (eqb a 6) (eqb a 7) f.1))) back) (λ x f. tt) fits
  where
    back : (w : Bool) → eqb (cond w 7 6) 7 ≡ w
    back true = refl
    back false = refl

    fits : (w : Bool) → Unit {0} → (cond w 7 6 < 2 ^ 8) × ((eqb (cond w 7 6) 6 || eqb (cond w 7 6) 7) ≡ true)
    fits true f = (omega arith, refl)
    fits false f = (omega arith, refl)

alive_format : IsFormat (λ (w : Bool). cond w 1 0 ∷ []) alive_at (λ w. Unit {0})
alive_format =
    as_format _ _ _ _ (made_format _ _ _ (λ b. eqb b 1) (λ (w : Bool). cond w 1 0) (such_that_format _ _ _ (λ b. eqb b 0 || eqb b 1) format8)
    (λ a f. codes 1 0 a (turned (or_cases (eqb a 0) (eqb a 1) f.1))) back) (λ x f. tt) fits
  where
    back : (w : Bool) → eqb (cond w 1 0) 1 ≡ w
    back true = refl
    back false = refl

    fits : (w : Bool) → Unit {0} → (cond w 1 0 < 2 ^ 8) × ((eqb (cond w 1 0) 0 || eqb (cond w 1 0) 1) ≡ true)
    fits true f = (omega arith, refl)
    fits false f = (omega arith, refl)

pub lock_format : IsFormat lock_text lock_at LockFits
lock_format =
    as_format _ _ _ _ (made_format _ _ _ (λ p. record { lock = p.0; write = p.1 }) (λ h. (h.lock, h.write)) (both_format _ _ _ _ _ _ format16 mode_format) (λ a f. refl) (λ x. refl))
    (λ x f. f.0) (λ x f. (f, tt))

pub members_format : IsFormat set_text members_at SetFits
members_format = listed_format _ _ _ format16 _ _ _ format16

pub report_format : IsFormat report_text report_at ReportFits
report_format =
    as_format _ _ _ _ (made_format _ _ _ (λ p. record { event = p.0; word = p.1.0; threads = p.1.1.1.1; thread = p.1.1.0; write = p.1.1.1.0 }) (λ r. (r.event, (r.word, (r.thread, (r.write, r.threads)))))
    (both_format _ _ _ _ _ _ format64 (both_format _ _ _ _ _ _ format64 (both_format _ _ _ _ _ _ format16 (both_format _ _ _ _ _ _ kind_format format32)))) (λ a f. refl) (λ x. refl))
    (λ x f. (f.0, (f.1.0, (f.1.1.0, f.1.1.1.1)))) (λ x f. (f.0, (f.1.0, (f.1.1.0, (tt, f.1.1.1)))))

pub source_format : IsFormat source_text source_at SourceFits
source_format = made_format _ _ _ (λ p. record { source = p.0; last = p.1 }) (λ s. (s.source, s.last)) (both_format _ _ _ _ _ _ format16 format64) (λ a f. refl) (λ x. refl)

pub page_format : IsFormat page_text page_at PageFits
page_format = made_format _ _ _ (λ p. record { page = p.0; slot = p.1 }) (λ s. (s.page, s.slot)) (both_format _ _ _ _ _ _ format64 format32) (λ a f. refl) (λ x. refl)

-- a thread that a segment names, with locks that rise
pub record IsThread (segments : List Segment) (t : ThreadState) : Type 0 where
  pub fits : ThreadFits t
  pub small : t.number < 1024
  pub last : former segments t.number ≡ Some (present segments t.number)
  pub held : AreHeld t.held
  pub few : present segments t.number < 2 ^ 32

former_present : (segments : List Segment) (t last : ℕ) → former segments t ≡ Some last → last ≡ present segments t
former_present segments t last e = pick (names segments t) e
  where
    pick : (b : Bool) → cond b (Some (present segments t)) None ≡ Some last → last ≡ present segments t
    pick true e = cc
    pick false e = absurd cc

raw_format : IsFormat (λ (p : RawThread). to_be_bytes w16 p.0 ++ ((cond p.1.0 1 0 ∷ []) ++ (to_be_bytes w32 p.1.1.0 ++ few_text lock_text p.1.1.1))) raw_thread_at
    (λ p. (p.0 < 2 ^ 16) × (Unit {0} × ((p.1.1.0 < 2 ^ 32) × ((length p.1.1.1 < 2 ^ 8) × AllByRecursion LockFits p.1.1.1))))
raw_format = both_format _ _ _ _ _ _ format16 (both_format _ _ _ _ _ _ alive_format (both_format _ _ _ _ _ _ format32 (listed_format _ _ _ lock_format _ _ _ format8)))

abbrev raw_of : List Segment → ThreadState → RawThread
raw_of segments t = (t.number, (t.alive, (present segments t.number, t.held)))

pub thread_format : (segments : List Segment) → IsFormat (thread_text segments) (thread_at segments) (IsThread segments)
thread_format segments =
    as_format _ _ _ _ (made_format _ _ _ (λ p. record { number = p.0; alive = p.1.0; held = p.1.1.1 }) (raw_of segments) (such_that_format _ _ _ (is_thread segments) raw_format) there (λ x. refl)) to from
  where
    there : (a : RawThread) → ((a.0 < 2 ^ 16) × (Unit {0} × ((a.1.1.0 < 2 ^ 32) × ((length a.1.1.1 < 2 ^ 8) × AllByRecursion LockFits a.1.1.1)))) × (is_thread segments a ≡ true) → (a.0, (a.1.0, (present segments a.0, a.1.1.1))) ≡ a
    there a f =
        let parts = and_parts (is_last segments a.0 a.1.1.0) (are_held a.1.1.1) f.1 in
        ap (λ (l : ℕ). (a.0, (a.1.0, (l, a.1.1.1)))) (sym (former_present segments a.0 a.1.1.0 (is_its_last segments a.0 a.1.1.0 parts.0).1))

    to : (t : ThreadState) → ((t.number < 2 ^ 16) × (Unit {0} × ((present segments t.number < 2 ^ 32) × ((length t.held < 2 ^ 8) × AllByRecursion LockFits t.held)))) × (is_thread segments (raw_of segments t) ≡ true) → IsThread segments t
    to t f =
        let parts = and_parts (is_last segments t.number (present segments t.number)) (are_held t.held) f.1 in
        let last = is_its_last segments t.number (present segments t.number) parts.0 in
        record { fits = (f.0.0, f.0.1.1.1); small = last.0; last = last.1; held = is_held t.held parts.1; few = f.0.1.1.0 }

    from : (t : ThreadState) → IsThread segments t → ((t.number < 2 ^ 16) × (Unit {0} × ((present segments t.number < 2 ^ 32) × ((length t.held < 2 ^ 8) × AllByRecursion LockFits t.held)))) × (is_thread segments (raw_of segments t) ≡ true)
    from t is = ((is.fits.0, (tt, (is.few, is.fits.1))), rw (last_is segments t.number (present segments t.number) is.small is.last, held_is t.held is.held) refl)

abbrev pub front_text : Form → FrontParts → List ℕ
front_text form f = to_be_bytes w64 f.0 ++ (to_be_bytes w64 f.1.0 ++ many_text (segment_text form) f.1.1)

abbrev pub FrontFits : Form → FrontParts → Type 0
FrontFits form f = (f.0 < 2 ^ 64) × ((f.1.0 < 2 ^ 64) × ((length f.1.1 < 2 ^ 32) × AllByRecursion (IsSegmentIn form) f.1.1))

front_format : (form : Form) → IsFormat (front_text form) (front_in form) (FrontFits form)
front_format form = both_format _ _ _ _ _ _ format64 (both_format _ _ _ _ _ _ format64 (listed_format _ _ _ (segment_format form) _ _ _ format32))

abbrev form_of : ℕ → Form
form_of n = cond (eqb n (header_number Written)) Written Former

form_format : IsFormat (λ form. to_be_bytes w64 (header_number form)) form_at (λ form. Unit {0})
form_format =
    as_format _ _ _ _ (made_format _ _ _ form_of header_number (such_that_format _ _ _ (λ n. eqb n (header_number Written) || eqb n (header_number Former)) format64) there back) (λ x f. tt) fits
  where
    there : (n : ℕ) → (n < 2 ^ 64) × ((eqb n (header_number Written) || eqb n (header_number Former)) ≡ true) → header_number (form_of n) ≡ n
    there n f = pick (eqb n (header_number Written)) refl
      where
        pick : (b : Bool) → eqb n (header_number Written) ≡ b → header_number (cond (eqb n (header_number Written)) Written Former) ≡ n
        pick true e = ap (λ c. header_number (cond c Written Former)) e ∙ sym (eqb-true n (header_number Written) e)
        pick false e =
            ap (λ c. header_number (cond c Written Former)) e
            ∙ sym (eqb-true n (header_number Former) (⊎_elim (λ t. absurd (false≢true (sym e ∙ t))) (λ t. t) (or_cases (eqb n (header_number Written)) (eqb n (header_number Former)) f.1)))

    back : (form : Form) → form_of (header_number form) ≡ form
    back Written = refl
    back Former = refl

    fits : (form : Form) → Unit {0} → (header_number form < 2 ^ 64) × ((eqb (header_number form) (header_number Written) || eqb (header_number form) (header_number Former)) ≡ true)
    fits Written f = (omega arith, refl)
    fits Former f = (omega arith, refl)

-- the header, and what stands behind it in this form
pub headed_format : IsFormat (λ (p : Form × FrontParts). to_be_bytes w64 (header_number p.0) ++ front_text p.0 p.1) (chained form_at front_in) (λ p. Unit {0} × FrontFits p.0 p.1)
headed_format = chained_format _ _ _ front_text front_in FrontFits form_format front_format

pub middle_format : (segments : List Segment) → IsFormat (some_text (thread_text segments)) (middle_at segments) (λ ts. (length ts < 2 ^ 16) × AllByRecursion (IsThread segments) ts)
middle_format segments = listed_format _ _ _ (thread_format segments) _ _ _ format16

abbrev pub back_text : BackParts → List ℕ
back_text b = many_text set_text b.0 ++ (to_be_bytes w64 b.1.0 ++ (many_text report_text b.1.1.0 ++ (some_text source_text b.1.1.1.0 ++ many_text page_text b.1.1.1.1)))

abbrev pub BackFits : BackParts → Type 0
BackFits b =
    ((length b.0 < 2 ^ 32) × AllByRecursion SetFits b.0) × ((b.1.0 < 2 ^ 64) × (((length b.1.1.0 < 2 ^ 32) × AllByRecursion ReportFits b.1.1.0)
    × (((length b.1.1.1.0 < 2 ^ 16) × AllByRecursion SourceFits b.1.1.1.0) × ((length b.1.1.1.1 < 2 ^ 32) × AllByRecursion PageFits b.1.1.1.1))))

pub back_format : IsFormat back_text back_at BackFits
back_format =
    both_format _ _ _ _ _ _ (listed_format _ _ _ members_format _ _ _ format32) (both_format _ _ _ _ _ _ format64 (both_format _ _ _ _ _ _ (listed_format _ _ _ report_format _ _ _ format32)
    (both_format _ _ _ _ _ _ (listed_format _ _ _ source_format _ _ _ format16) (listed_format _ _ _ page_format _ _ _ format32))))
