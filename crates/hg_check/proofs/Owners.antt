-- How a word goes from one owner to another, in the words of its line.
use Rattle.std.proofs.Common.{◌≡◌, ℕ, ◌<◌, cond, nat_eq, List, [], ◌++◌, length, get_or, codes, true, subst, sym, ap, ◌∙◌}
use Rattle.std.proofs.lemmas.Bool.{eq-eqb, ne_eqb}
use Rattle.std.proofs.lemmas.List.{append-nil, append_assoc, get_or_default}
use Rattle.std.specs.Fmt.{decimal}
use Rattle.hg_model.specs.declared.segment.Mark.{Mark}
use Rattle.hg_model.specs.declared.segment.Segment.{Segment}
use Rattle.hg_model.specs.Segments.{of_thread}
use Rattle.hg_graph.specs.Entering.{entry}
use Rattle.hg_check.specs.Life.{by_text, mark_at, message_text, owner_text}

-- from which segment to which
abbrev pub along : ℕ → ℕ → List ℕ
along s o = codes " ; owner changes along " ++ decimal s ++ codes " -> " ++ decimal o

opened : (segments : List Segment) (s o : ℕ) → (s ≡ o → ⊥) → along s o ++ by_text segments s o ≡ owner_text segments s o
opened segments s o other = sym (ap (λ b. cond b [] (along s o ++ by_text segments s o)) (ne_eqb s o other))

-- by no message
pub by_none : (held now : List ℕ) (segments known : List Segment) (s o h : ℕ) → (s ≡ o → ⊥) → known ≡ segments → h ≡ entry known s o → h ≡ s → now ≡ held ++ along s o → now ≡ held ++ owner_text segments s o
by_none held now segments known s o h other same found itself e =
    let is : nat_eq (entry segments s o) s ≡ true = eq-eqb (entry segments s o) s (sym (found ∙ ap (λ xs. entry xs s o) same) ∙ itself) in
    let none : by_text segments s o ≡ [] = ap (λ b. cond b [] (message_text (mark_at segments (entry segments s o)))) is in
    e ∙ ap (λ x. held ++ x) (sym (append-nil (along s o)) ∙ ap (λ x. along s o ++ x) (sym none) ∙ opened segments s o other)

-- by the mark of the entry
pub by_mark : (held mid now : List ℕ) (segments known read : List Segment) (d : Segment) (mark : Mark) (s o h : ℕ) → (s ≡ o → ⊥) → known ≡ segments → read ≡ segments → h ≡ entry known s o → (h ≡ s → ⊥) → h < length known → mark ≡ (get_or read h d).mark → mid ≡ held ++ along s o
    → now ≡ mid ++ message_text mark → now ≡ held ++ owner_text segments s o
by_mark held mid now segments known read d mark s o h other same also found apart lt given begun e =
    let at : h ≡ entry segments s o = found ∙ ap (λ xs. entry xs s o) same in
    let is = ne_eqb (entry segments s o) s (λ itself. apart (at ∙ itself)) in
    let by : by_text segments s o ≡ message_text (mark_at segments (entry segments s o)) = ap (λ b. cond b [] (message_text (mark_at segments (entry segments s o)))) is in
    let its : mark ≡ mark_at segments (entry segments s o) =
    given ∙ ap (λ xs. (get_or xs h d).mark) also ∙ ap (λ (x : Segment). x.mark) (get_or_default segments h d (of_thread 0 []) (subst (λ xs. h < length xs) same lt)) ∙ ap (mark_at segments) at in
    e ∙ ap (λ x. x ++ message_text mark) begun ∙ append_assoc held (along s o) (message_text mark)
    ∙ ap (λ x. held ++ x) (ap (λ m. along s o ++ message_text m) its ∙ ap (λ x. along s o ++ x) (sym by) ∙ opened segments s o other)
