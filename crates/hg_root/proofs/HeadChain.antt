-- Pieces put one behind the other.
use Rattle.std.proofs.Common.{◌≡◌, ℕ, List, ◌++◌, ap, ◌∙◌, append_assoc}

together : (x h a b c t s o r u : List ℕ) → ((((((((x ++ h) ++ a) ++ b) ++ c) ++ t) ++ s) ++ o) ++ r) ++ u ≡ x ++ (h ++ (a ++ (b ++ (c ++ (t ++ (s ++ (o ++ (r ++ u))))))))
together x h a b c t s o r u = simp append_assoc

pub chain : (x0 x1 x2 x3 x4 x5 x6 x7 x8 x9 h a b c t s o r u : List ℕ) → x1 ≡ x0 ++ h → x2 ≡ x1 ++ a → x3 ≡ x2 ++ b → x4 ≡ x3 ++ c → x5 ≡ x4 ++ t → x6 ≡ x5 ++ s → x7 ≡ x6 ++ o → x8 ≡ x7 ++ r → x9 ≡ x8 ++ u
    → x9 ≡ x0 ++ (h ++ (a ++ (b ++ (c ++ (t ++ (s ++ (o ++ (r ++ u))))))))
chain x0 x1 x2 x3 x4 x5 x6 x7 x8 x9 h a b c t s o r u e1 e2 e3 e4 e5 e6 e7 e8 e9 =
    e9 ∙ ap (λ (x : List ℕ). x ++ u) (e8 ∙ ap (λ (x : List ℕ). x ++ r) (e7 ∙ ap (λ (x : List ℕ). x ++ o) (e6 ∙ ap (λ (x : List ℕ). x ++ s) (e5 ∙ ap (λ (x : List ℕ). x ++ t)
    (e4 ∙ ap (λ (x : List ℕ). x ++ c) (e3 ∙ ap (λ (x : List ℕ). x ++ b) (e2 ∙ ap (λ (x : List ℕ). x ++ a) e1))))))) ∙ together x0 h a b c t s o r u
