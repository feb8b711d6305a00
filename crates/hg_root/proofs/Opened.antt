-- What a root begins with.
use Rattle.std.proofs.Common.{◌≡◌, ◌⊎◌, inl, inr, ⊎_elim, ℕ, ◌<◌, ◌≤◌, ◌^◌, List, [], length, take, Some, refl, sym, ◌∙◌, ap, subst, arith}
use Rattle.std.proofs.lemmas.Nat.{from_be_bytes-to_be_bytes_4, from_be_bytes-to_be_bytes_8}
use Rattle.hg_root.specs.declared.form.Form.{Form}
use Rattle.hg_root.specs.declared.form.Form.TheVariants.{Former, Written}
use Rattle.hg_root.specs.Body.{header_number}
use Rattle.hg_root.specs.Grammar.{text_in}
use Rattle.hg_root.specs.Lawful.{IsLawfulHead, IsRoot}
use Rattle.hg_root.specs.Opening.{IsOpening, opening_at}
use Rattle.hg_root.specs.Parts.{Parts}

-- what is read of the front of a body
abbrev pub opening_of : Form → Parts → ℕ × (ℕ × (ℕ × ℕ))
opening_of form p = (header_number form, (p.number, (p.events, length p.segments)))

read_of : (form : Form) (p : Parts) → IsLawfulHead p → opening_at (take 28 (text_in form p)) ≡ Some (opening_of form p, [])
read_of Written p is = λ i. Some ((header_number Written, (from_be_bytes-to_be_bytes_8 p.number is.fits.number i, (from_be_bytes-to_be_bytes_8 p.events is.fits.events i, from_be_bytes-to_be_bytes_4 (length p.segments) is.fits.segment_count i))), [])
read_of Former p is = λ i. Some ((header_number Former, (from_be_bytes-to_be_bytes_8 p.number is.fits.number i, (from_be_bytes-to_be_bytes_8 p.events is.fits.events i, from_be_bytes-to_be_bytes_4 (length p.segments) is.fits.segment_count i))), [])

-- the form of a root's body, and what its front gives
pub record Opened (front : List ℕ) : Type 0 where
  pub form : Form
  pub parts : Parts
  pub read : opening_at front ≡ Some (opening_of form parts, [])
  pub is : IsOpening (header_number form) parts.number parts.events (length parts.segments)

is_form : (form : Form) → (header_number form ≡ header_number Written) ⊎ (header_number form ≡ header_number Former)
is_form Written = inl refl
is_form Former = inr refl

opened_in : (form : Form) (front body : List ℕ) (p : Parts) → front ≡ take 28 body → body ≡ text_in form p → IsLawfulHead p → Opened front
opened_in form front body p begins text is = record {
  form = form;
  parts = p;
  read = ap opening_at (begins ∙ ap (take 28) text) ∙ read_of form p is;
  is = record { is_header = is_form form; is_number = is.number; few_events = is.events; some_segments = is.segment_count };
}

pub opened : (front body : List ℕ) (p : Parts) → front ≡ take 28 body → IsRoot body p → Opened front
opened front body p begins root =
    ⊎_elim (λ written. opened_in Written front body p begins written root.lawful.head) (λ former. opened_in Former front body p begins former.0 root.lawful.head) root.spelled

-- a root's body is as long as a front, at least
long : (form : Form) (p : Parts) → 28 ≤ length (text_in form p)
long Written p = omega arith
long Former p = omega arith

pub no_short_root : (body : List ℕ) (p : Parts) → IsRoot body p → 28 ≤ length body
no_short_root body p root =
    ⊎_elim (λ written. omega (arith, ap length written, long Written p)) (λ former. omega (arith, ap length former.0, long Former p)) root.spelled

-- what is read of the front of a root's body is what a root may have
pub possible : (front : List ℕ) (header number events segments : ℕ) (rest : List ℕ) → opening_at front ≡ Some ((header, (number, (events, segments))), rest) → Opened front → IsOpening header number events segments
possible front header number events segments rest read o =
    let same : Some ((header, (number, (events, segments))), rest) ≡ Some (opening_of o.form o.parts, []) = sym read ∙ o.read in
    let both : ((header, (number, (events, segments))), rest) ≡ (opening_of o.form o.parts, []) = cc same in
    subst (λ (x : (ℕ × (ℕ × (ℕ × ℕ))) × List ℕ). IsOpening x.0.0 x.0.1.0 x.0.1.1.0 x.0.1.1.1) (sym both) o.is
