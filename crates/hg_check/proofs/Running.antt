-- What was written of the text of a word.
use Rattle.std.proofs.Common.{◌≡◌, ℕ, ◌-◌, List, [], ◌++◌, refl, sym, ap, subst, ◌∙◌, arith}
use Rattle.std.proofs.lemmas.List.{append-nil, append_assoc}
use Rattle.hg_model.specs.Contents.{Content}
use Rattle.hg_model.specs.Change.{empty_content}
use Rattle.hg_sets.specs.Interning.{Table}
use Rattle.hg_detect.specs.declared.detector.Detector.{Detector}
use Rattle.hg_cells.specs.declared.paged.PagedWords.{PagedWords}
use Rattle.hg_detect.specs.Memory.{content_of}
use Rattle.hg_streams.specs.declared.call.ReadCall.{ReadCall}
use Rattle.hg_streams.specs.declared.call.WriteCall.{WriteCall}
use Rattle.hg_wire.specs.Streams.{readings}
use Rattle.hg_reading.specs.declared.ending.Ending.{Ending}
use Rattle.hg_streams.specs.Calls.{MayBe}
use Rattle.hg_check.specs.Printing.{ReadsFrom, last_line}
use Rattle.hg_check.specs.Running.{IsStart}
use Rattle.hg_streams.specs.Holding.{IsDue}
use Rattle.hg_streams.specs.Texts.{line_text}
use Rattle.hg_streams.specs.Written.{Took, TookFront}
use Rattle.hg_check.proofs.Ends.{at_start}
use Rattle.hg_check.proofs.Fronts.{settled_from}
use Rattle.hg_streams.proofs.Printed.{appends_none, front_none}
use Rattle.hg_check.specs.declared.explain.form.Form.{Form}
use Rattle.hg_check.specs.Life.{life, more_text}
use Rattle.hg_check.specs.Explaining.{Explains, TellsFrom, WroteFrontFrom, WroteFrontOf, explain_text, life_text, word_line}

-- all is held and nothing written
pub due_held : (old : List WriteCall) (held : List ℕ) → IsDue old old held [] held
due_held old held = record { written = []; appended = appends_none old; whole = append-nil held }

pub one_held : (old new text : List ℕ) → old ≡ [] → new ≡ old ++ text → new ≡ text
one_held old new text none p = p ∙ ap (λ xs. xs ++ text) none

-- two texts, one behind the other
pub two_held : (old mid new first second : List ℕ) → old ≡ [] → mid ≡ old ++ first → new ≡ mid ++ second → new ≡ first ++ second
two_held old mid new first second none p q = q ∙ ap (λ xs. xs ++ second) (p ∙ ap (λ xs. xs ++ first) none)

-- ---- the text of an input, from a table and a content on

module _ (table : Table) (start : Content) (text : List ℕ → Content → Ending → List ℕ) where
  -- nothing was written
  pub wrote_none : (reads : List ReadCall) (now : List WriteCall) → WroteFrontFrom table start text reads reads now now
  wrote_none reads now = record { later = []; since = refl; front = λ input c end m l. front_none now (text input c end) }

  -- the run came to its ending, so that its text is settled
  pub wrote_settled : (reads reads_new : List ReadCall) (first now : List WriteCall) (c : Content) (end : Ending) (r : ReadsFrom table start reads reads_new c end)
      → ((input : List ℕ) → MayBe r.later input → TookFront first now (text input c end)) → WroteFrontFrom table start text reads reads_new first now
  wrote_settled reads reads_new first now c end r f = record {
    later = r.later;
    since = r.since;
    front = λ input d stop m l. let same = settled_from table start r.later c d end stop input r.leads m l in
        subst (λ (x : Content). TookFront first now (text input x stop)) same.0 (subst (λ (x : Ending). TookFront first now (text input c x)) same.1 (f input m));
  }

-- ---- what was told, what was not shown and the last line

joined : (head told life_told line : List ℕ) (k : ℕ) → life_told ≡ told ++ more_text k → (head ++ told) ++ (more_text k ++ line) ≡ head ++ (life_told ++ line)
joined head told life_told line k is =
    append_assoc head told (more_text k ++ line) ∙ ap (λ x. head ++ x) (sym (append_assoc told (more_text k) line) ∙ ap (λ x. x ++ line) (sym is))

-- they are the text of the word
pub whole_text : (w : ℕ) (form : Form) (c : Content) (end : Ending) (told : List ℕ) (k : ℕ) (input : List ℕ) → life w form empty_content 0 c.events (readings input) ≡ told ++ more_text k
    → (line_text (word_line w) ++ told) ++ (more_text k ++ line_text (last_line c end)) ≡ explain_text w form input c end
whole_text w form c end told k input is =
    joined (line_text (word_line w)) told (life w form empty_content 0 c.events (readings input)) (line_text (last_line c end)) k is

-- and so they are from any content on
pub whole_life : (head : List ℕ) (w : ℕ) (form : Form) (start c : Content) (end : Ending) (told : List ℕ) (k : ℕ) (input : List ℕ)
    → life w form start 0 (c.events - start.events) (readings input) ≡ told ++ more_text k
    → (head ++ told) ++ (more_text k ++ line_text (last_line c end)) ≡ life_text head w form start input c end
whole_life head w form start c end told k input is =
    joined head told (life w form start 0 (c.events - start.events) (readings input)) (line_text (last_line c end)) k is

-- ---- from the content of an empty trace on

-- the life behind the line of the word is the text of the word
pub life_of_all : (w : ℕ) (form : Form) (input : List ℕ) (c : Content) (end : Ending)
    → life_text (line_text (word_line w)) w form empty_content input c end ≡ explain_text w form input c end
life_of_all w form input c end =
    let all : c.events - 0 ≡ c.events = omega arith in
    ap (λ (n : ℕ). line_text (word_line w) ++ (life w form empty_content 0 n (readings input) ++ line_text (last_line c end))) all

pub told_of_all : (d : Detector PagedWords) (head : List ℕ) (w : ℕ) (form : Form) (reads reads_new : List ReadCall) (old new : List WriteCall) (end : Ending)
    → IsStart d → head ≡ line_text (word_line w)
    → TellsFrom d.sets (content_of d) (life_text head w form (content_of d)) reads reads_new old new end → Explains w form reads reads_new old new end
told_of_all d head w form reads reads_new old new end start is told =
    let first = at_start d (λ t c. TellsFrom t c (life_text (line_text (word_line w)) w form c) reads reads_new old new end) start
    (subst (λ xs. TellsFrom d.sets (content_of d) (life_text xs w form (content_of d)) reads reads_new old new end) is told) in
    record {
      last = first.last;
      leads = first.leads;
      printed = λ input m. subst (λ xs. Took old new xs) (life_of_all w form input first.last end) (first.printed input m);
      written = first.written;
      flushed = first.flushed;
    }

pub front_of_all : (d : Detector PagedWords) (head : List ℕ) (w : ℕ) (form : Form) (reads reads_new : List ReadCall) (old new : List WriteCall)
    → IsStart d → head ≡ line_text (word_line w)
    → WroteFrontFrom d.sets (content_of d) (life_text head w form (content_of d)) reads reads_new old new → WroteFrontOf w form reads reads_new old new
front_of_all d head w form reads reads_new old new start is wrote =
    let first = at_start d (λ t c. WroteFrontFrom t c (life_text (line_text (word_line w)) w form c) reads reads_new old new) start
    (subst (λ xs. WroteFrontFrom d.sets (content_of d) (life_text xs w form (content_of d)) reads reads_new old new) is wrote) in
    record {
      later = first.later;
      since = first.since;
      front = λ input c end m l. subst (λ xs. TookFront old new xs) (life_of_all w form input c end) (first.front input c end m l);
    }
