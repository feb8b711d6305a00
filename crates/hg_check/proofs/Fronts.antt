-- What was written when a run was broken off.
use Rattle.std.proofs.Common.{◌≡◌, ℕ, ◌<◌, List, [], ◌∷◌, ◌++◌, refl, sym, ap, subst, ◌∙◌, ⊎_elim, arith}
use Rattle.std.proofs.lemmas.List.{append-nil}
use Rattle.hg_streams.specs.declared.listing.Listing.{Listing}
use Rattle.hg_streams.specs.declared.listing.Listing.TheVariants.{Reports, Segments}
use Rattle.hg_streams.specs.declared.call.ReadCall.{ReadCall}
use Rattle.hg_streams.specs.declared.call.WriteCall.{WriteCall}
use Rattle.hg_streams.specs.Calls.{ends_met, given, MayBe}
use Rattle.hg_model.specs.Change.{empty_content}
use Rattle.hg_model.specs.Contents.{Content}
use Rattle.hg_sets.specs.Interning.{Table, first_table}
use Rattle.hg_wire.specs.Streams.{readings}
use Rattle.hg_reading.specs.declared.ending.Ending.{Ending}
use Rattle.hg_check.specs.Checking.{ChecksFrom, ChecksTo}
use Rattle.hg_check.specs.Printing.{EndsBy, EndsByFrom, ReadsTo, WroteFront, check_text, graph_text, last_line}
use Rattle.hg_streams.specs.Texts.{line_text}
use Rattle.hg_streams.specs.Written.{TookFront}
use Rattle.hg_check.specs.Running.{live_text, HasReports}
use Rattle.hg_streams.proofs.Printed.{front_more, front_none}
use Rattle.hg_check.proofs.Growing.{live_text_grows}
use Rattle.hg_check.proofs.Unique.{leads_to_one}

-- the reports of a content were written, or a front of them
pub wrote_live : (listing : Listing) (reads reads_new : List ReadCall) (first now : List WriteCall) (c : Content) → HasReports reads reads_new c → TookFront first now (live_text listing c)
    → WroteFront (λ d end. live_text listing d) reads reads_new first now
wrote_live listing reads reads_new first now c h f = record {
  later = h.later;
  since = h.since;
  front = λ input d end m l. let more = live_text_grows listing c d (h.grows input d end m l) in front_more first now (live_text listing c) more.0 (live_text listing d) more.1 f;
}

pub wrote_none : (text : Content → Ending → List ℕ) (reads : List ReadCall) (old : List WriteCall) → WroteFront text reads reads old old
wrote_none text reads old = record { later = []; since = refl; front = λ input d end m l. front_none old (text d end) }

pub wrote_nothing : (text : Content → Ending → List ℕ) (reads : List ReadCall) (first now : List WriteCall) → TookFront first now [] → WroteFront text reads reads first now
wrote_nothing text reads first now f = record { later = []; since = refl; front = λ input d end m l. front_more first now [] (text d end) (text d end) refl f }

-- the reports are the front of what `check` prints
pub wrote_check : (reads reads_new : List ReadCall) (first now : List WriteCall) → WroteFront (λ d end. live_text Reports d) reads reads_new first now → WroteFront check_text reads reads_new first now
wrote_check reads reads_new first now w = record {
  later = w.later;
  since = w.since;
  front = λ input d end m l. front_more first now (live_text Reports d) (line_text (last_line d end)) (check_text d end) refl (w.front input d end m l);
}

-- and nothing is the front of what `graph` prints
pub wrote_graph : (reads reads_new : List ReadCall) (first now : List WriteCall) → WroteFront (λ d end. live_text Segments d) reads reads_new first now → WroteFront graph_text reads reads_new first now
wrote_graph reads reads_new first now w = record {
  later = w.later;
  since = w.since;
  front = λ input d end m l. front_more first now [] (graph_text d end) (graph_text d end) refl (w.front input d end m l);
}

pub checks_to_one : (input : List ℕ) (c d : Content) (first second : Ending) → ChecksTo input c first → ChecksTo input d second → (c ≡ d) × (first ≡ second)
checks_to_one input c d first second h k = leads_to_one (readings input) (first_table 262144) empty_content c d first second h k

met_some : (reads earlier : List ReadCall) → reads ≡ ReadCall.Gave [] ∷ earlier → 0 < ends_met reads
met_some reads earlier is = subst (λ t. 0 < ends_met t) (sym is) (omega arith)

pub settled_from : (table : Table) (start : Content) (reads : List ReadCall) (c d : Content) (end stop : Ending) (input : List ℕ)
    → EndsByFrom table start reads c end → MayBe reads input → ChecksFrom table start input d stop → (c ≡ d) × (end ≡ stop)
settled_from table start reads c d end stop input ends m l =
    ⊎_elim
    (λ met. let none : m.more ≡ [] = m.over (met_some reads met.0 met.1) in
    let is : input ≡ given met.0 = m.joined ∙ (ap (λ t. given reads ++ t) none ∙ (append-nil (given reads) ∙ (ap given met.1 ∙ append-nil (given met.0)))) in
    leads_to_one (readings (given met.0)) table start c d end stop met.2 (subst (λ t. ChecksFrom table start t d stop) is l))
    (λ stopped. leads_to_one (readings (given reads ++ m.more)) table start c d end stop (stopped m.more) (subst (λ t. ChecksFrom table start t d stop) m.joined l))
    ends

settled : (reads : List ReadCall) (c d : Content) (end stop : Ending) (input : List ℕ) → EndsBy reads c end → MayBe reads input → ChecksTo input d stop → (c ≡ d) × (end ≡ stop)
settled reads c d end stop input ends m l = settled_from (first_table 262144) empty_content reads c d end stop input ends m l

-- what the reads led to is settled, and a front of its text was written
pub wrote_settled : (text : Content → Ending → List ℕ) (reads reads_new : List ReadCall) (first now : List WriteCall) (c : Content) (end : Ending) → ReadsTo reads reads_new c end → TookFront first now (text c end)
    → WroteFront text reads reads_new first now
wrote_settled text reads reads_new first now c end r f = record {
  later = r.later;
  since = r.since;
  front = λ input d stop m l. let same = settled r.later c d end stop input r.leads m l in
      subst (λ (x : Content). TookFront first now (text x stop)) same.0 (subst (λ (x : Ending). TookFront first now (text c x)) same.1 f);
}
