-- What stands after a gap, by its first byte.
use Rattle.std.proofs.Common.{◌≡◌, ℕ, ◌<◌, eqb, Bool, MatchBool, inl, inr, List, [], ◌∷◌, length, get_or, take, drop}
use Rattle.std.proofs.Common.{◌+◌, ◌-◌, ◌≤◌, sym, ap, subst, arith}
use Rattle.std.proofs.lemmas.{Bool.ne_eqb, List.{take_rest, drop-drop, length-drop}}
use Rattle.cif_lex.specs.{Blanks.{opening, IsCutOff, IsFilled}, Words.letter, Reading.{IsStop, IsRead}, Forms.IsLedBy}

pub cut_by_first : (text : List ℕ) → 0 < length text → IsStop text
    → MatchBool (eqb (get_or text 0 0) 40) (IsCutOff text) (IsFilled text)
cut_by_first [] some h = absurd (omega arith)
cut_by_first (b ∷ bs) some (inl (inl ended)) = absurd cc
cut_by_first (b ∷ bs) some (inl (inr unclosed)) =
    let first : b ≡ opening = let e = unclosed.begun in cc in
    subst (λ (t : ℕ). MatchBool (eqb t 40) (IsCutOff (b ∷ bs)) (IsFilled (b ∷ bs))) (sym first) (inr unclosed)
cut_by_first (b ∷ bs) some (inr filled) =
    subst (λ (t : Bool). MatchBool t (IsCutOff (b ∷ bs)) (IsFilled (b ∷ bs)))
    (sym (ne_eqb b 40 (λ e. filled.no_opening (let same = filled.begun in cc)))) filled

-- the letter that a text begins with
pub led_letter : (text rest : List ℕ) (b : ℕ) → IsLedBy b text → IsRead (letter (get_or text 0 0)) text rest
    → IsRead (letter b) text rest
led_letter text rest b led is =
    subst (λ (k : ℕ). IsRead (letter k) text rest) (ap (λ (t : List ℕ). get_or t 0 0) led.begun) is

-- the letter that what is left of a text begins with
pub letter_there : (text : List ℕ) (begin n b : ℕ) → IsLedBy b (drop begin text)
    → IsRead (letter (get_or (take (length text - begin) (drop begin text)) 0 0))
    (take (length text - begin) (drop begin text)) (drop n (take (length text - begin) (drop begin text)))
    → IsRead (letter b) (drop begin text) (drop (begin + n) text)
letter_there text begin n b led is =
    led_letter (drop begin text) (drop (begin + n) text) b led
    (subst (λ (t : List ℕ). IsRead (letter (get_or (drop begin text) 0 0)) (drop begin text) t) (drop-drop n begin text)
    (subst (λ (t : List ℕ). IsRead (letter (get_or t 0 0)) t (drop n t)) (take_rest text begin) is))

pub within_rest : (text : List ℕ) (begin n : ℕ) → begin ≤ length text
    → n ≤ length (take (length text - begin) (drop begin text)) → begin + n ≤ length text
within_rest text begin n le lt = let short =
    subst (λ (t : List ℕ). n ≤ length t) (take_rest text begin) lt in omega (arith, length-drop begin text)
