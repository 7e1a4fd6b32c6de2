-- Texts joined part by part.
use Rattle.std.proofs.Common.{◌≡◌, ℕ, List, ◌++◌, ap, ◌∙◌, append_assoc}

-- three parts after a text, each added to what stood there
pub three_added : (text a b d x y z : List ℕ) → x ≡ text ++ a → y ≡ x ++ b → z ≡ y ++ d → z ≡ text ++ (a ++ (b ++ d))
three_added text a b d x y z first second third =
    let moved : ((text ++ a) ++ b) ++ d ≡ text ++ (a ++ (b ++ d)) = simp append_assoc in
    third ∙ ap (λ t. t ++ d) (second ∙ ap (λ t. t ++ b) first) ∙ moved

-- two parts after a first
pub two_added : (a b d x y z : List ℕ) → x ≡ a → y ≡ x ++ b → z ≡ y ++ d → z ≡ a ++ (b ++ d)
two_added a b d x y z first second third = third ∙ ap (λ t. t ++ d) (second ∙ ap (λ t. t ++ b) first)
    ∙ append_assoc a b d
