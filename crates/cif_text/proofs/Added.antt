-- Parts of a line, each added to what stood there.
use Rattle.std.proofs.Common.{◌≡◌, ℕ, List, ◌++◌, ap, ◌∙◌, append_assoc}

pub two_added : (text a b x y : List ℕ) → x ≡ text ++ a → y ≡ x ++ b → y ≡ text ++ (a ++ b)
two_added text a b x y first second = second ∙ ap (λ t. t ++ b) first ∙ append_assoc text a b

pub four_added : (text a b d e w x y z : List ℕ) → w ≡ text ++ a → x ≡ w ++ b → y ≡ x ++ d → z ≡ y ++ e
    → z ≡ text ++ (a ++ (b ++ (d ++ e)))
four_added text a b d e w x y z first second third fourth =
    two_added text a (b ++ (d ++ e)) w z first
    (two_added w b (d ++ e) x z second (two_added x d e y z third fourth))

pub five_added : (text a b d e f v w x y z : List ℕ) → v ≡ text ++ a → w ≡ v ++ b → x ≡ w ++ d → y ≡ x ++ e
    → z ≡ y ++ f → z ≡ text ++ (a ++ (b ++ (d ++ (e ++ f))))
five_added text a b d e f v w x y z first second third fourth fifth =
    two_added text a (b ++ (d ++ (e ++ f))) v z first (four_added v b d e f w x y z second third fourth fifth)
