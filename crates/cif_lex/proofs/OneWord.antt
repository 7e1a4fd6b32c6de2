-- A text begins with one letter, one number or one name only.
use Rattle.std.proofs.Common.{◌≡◌, ℕ, ◌<◌, ℤ, Bool, true, false, eqb, ◌||◌, ◌⊎◌, inl, inr, List, [], ◌∷◌, ◌++◌, length}
use Rattle.std.proofs.Common.{refl, sym, ap, ◌∙◌, subst, arith}
use Rattle.std.proofs.lemmas.{Bool.{false≢true, both_ways}, List.Elements.recursion_from_All}
use Rattle.std.specs.{List.AllByRecursion, Char.{is_ascii_digit, is_ascii_uppercase}}
use Rattle.cif_lex.specs.{Blanks.{is_blank, IsFilled}, Words.{Word, letter, number, name, IsNumeral, capped, signed}}
use Rattle.cif_lex.specs.{Words.{is_name_byte, IsSpelled, StopsAt}, Reading.{IsAfterGap, IsRead, AreRead}, Forms.Ends}
use Rattle.cif_lex.proofs.OneGap.{same_after, filled}

-- the longest run of some bytes is one only
pub longest_same : (p : ℕ → Bool) (a b x y : List ℕ) → AllByRecursion (λ c. p c ≡ true) a
    → AllByRecursion (λ c. p c ≡ true) b → StopsAt p x → StopsAt p y → a ++ x ≡ b ++ y → (a ≡ b) × (x ≡ y)
longest_same p [] [] x y ha hb sx sy e = (refl, e)
longest_same p [] (c ∷ cs) x y ha hb sx sy e = absurd (both_ways (p c) (subst (StopsAt p) e sx) hb.0)
longest_same p (c ∷ cs) [] x y ha hb sx sy e = absurd (both_ways (p c) (subst (StopsAt p) (sym e) sy) ha.0)
longest_same p (c ∷ cs) (d ∷ ds) x y ha hb sx sy e =
    let first : c ≡ d = cc in
    let rest : cs ++ x ≡ ds ++ y = cc in
    let same = longest_same p cs ds x y ha.1 hb.1 sx sy rest in
    (ap (λ (t : ℕ). t ∷ cs) first ∙ ap (λ (t : List ℕ). d ∷ t) same.0, same.1)

-- ---- numbers

pub no_minus : (ds y t : List ℕ) → 0 < length ds → AllByRecursion (λ c. is_ascii_digit c ≡ true) ds → 45 ∷ t ≡ ds ++ y
    → ⊥
no_minus [] y t some h e = omega arith
no_minus (d ∷ ds) y t some h e = let first : d ≡ 45 =
    cc in false≢true (subst (λ (c : ℕ). is_ascii_digit c ≡ true) first h.0)

same_numeral : (a b : Bool) (ds es own it x y : List ℕ) → IsNumeral a ds own → IsNumeral b es it
    → StopsAt is_ascii_digit x → StopsAt is_ascii_digit y → own ++ x ≡ it ++ y
    → (a ≡ b) × (ds ≡ es) × (x ≡ y)
same_numeral true true ds es own it x y n m sx sy e =
    let both : 45 ∷ ds ++ x ≡ 45 ∷ es ++ y = sym (ap (λ (t : List ℕ). t ++ x) n.spelled)
    ∙ (e ∙ ap (λ (t : List ℕ). t ++ y) m.spelled) in
    let rest : ds ++ x ≡ es ++ y = cc in
    let same = longest_same is_ascii_digit ds es x y (recursion_from_All (λ c. is_ascii_digit c ≡ true) ds n.all)
    (recursion_from_All (λ c. is_ascii_digit c ≡ true) es m.all) sx sy rest in
    (refl, same.0, same.1)
same_numeral false false ds es own it x y n m sx sy e =
    let both : ds ++ x ≡ es ++ y = sym (ap (λ (t : List ℕ). t ++ x) n.spelled)
    ∙ (e ∙ ap (λ (t : List ℕ). t ++ y) m.spelled) in
    let same = longest_same is_ascii_digit ds es x y (recursion_from_All (λ c. is_ascii_digit c ≡ true) ds n.all)
    (recursion_from_All (λ c. is_ascii_digit c ≡ true) es m.all) sx sy both in
    (refl, same.0, same.1)
same_numeral true false ds es own it x y n m sx sy e =
    absurd (no_minus es y (ds ++ x) m.some (recursion_from_All (λ c. is_ascii_digit c ≡ true) es m.all)
    (sym (ap (λ (t : List ℕ). t ++ x) n.spelled) ∙ (e ∙ ap (λ (t : List ℕ). t ++ y) m.spelled)))
same_numeral false true ds es own it x y n m sx sy e =
    absurd (no_minus ds x (es ++ y) n.some (recursion_from_All (λ c. is_ascii_digit c ≡ true) ds n.all)
    (sym (ap (λ (t : List ℕ). t ++ y) m.spelled) ∙ (sym e ∙ ap (λ (t : List ℕ). t ++ x) n.spelled)))

pub same_number : (m n : ℤ) (text r s : List ℕ) → IsRead (number m) text r → IsRead (number n) text s
    → (m ≡ n) × (r ≡ s)
same_number m n text r s is it =
    let a = is.is_spelled in let b = it.is_spelled in
    let same = same_numeral a.0 b.0 a.1 b.1 is.own it.own is.after it.after a.2 b.2 is.is_whole it.is_whole
    (sym is.joined ∙ it.joined) in
    let rest = same_after is.after r s is.is_after (subst (λ (t : List ℕ). IsAfterGap t s) (sym same.2) it.is_after) in
    let one : signed a.0 (capped a.1) ≡ signed b.0 (capped b.1) = ap (λ (t : Bool). signed t (capped a.1)) same.0
    ∙ ap (λ (t : List ℕ). signed b.0 (capped t)) same.1 in
    (a.3 ∙ (one ∙ sym b.3), rest)

-- ---- letters

pub same_letter : (b c : ℕ) (text r s : List ℕ) → IsRead (letter b) text r → IsRead (letter c) text s
    → (b ≡ c) × (r ≡ s)
same_letter b c text r s is it =
    let both : b ∷ is.after ≡ c ∷ it.after = sym (ap (λ (t : List ℕ). t ++ is.after) is.is_spelled)
    ∙ (sym is.joined ∙ (it.joined ∙ ap (λ (t : List ℕ). t ++ it.after) it.is_spelled)) in
    let rest : is.after ≡ it.after = cc in
    (cc, same_after is.after r s is.is_after (subst (λ (t : List ℕ). IsAfterGap t s) (sym rest) it.is_after))

-- ---- names

pub same_name : (a b text r s : List ℕ) → IsRead (name a) text r → IsRead (name b) text s → (a ≡ b) × (r ≡ s)
same_name a b text r s is it =
    let p = is.is_spelled in let q = it.is_spelled in
    let both : a ++ is.after ≡ b ++ it.after = sym (ap (λ (t : List ℕ). t ++ is.after) p.0)
    ∙ (sym is.joined ∙ (it.joined ∙ ap (λ (t : List ℕ). t ++ it.after) q.0)) in
    let same = longest_same is_name_byte a b is.after it.after (recursion_from_All (λ c. is_name_byte c ≡ true) a p.2)
    (recursion_from_All (λ c. is_name_byte c ≡ true) b q.2) is.is_whole it.is_whole both in
    (same.0, same_after is.after r s is.is_after (subst (λ (t : List ℕ). IsAfterGap t s) (sym same.1) it.is_after))

-- ---- first bytes

-- a capital letter, or any number or name
abbrev pub IsVisible : Word → Type 0
IsVisible (letter b) = is_ascii_uppercase b ≡ true
IsVisible (number n) = Unit {0}
IsVisible (name bytes) = Unit {0}

-- a capital letter, or any number
abbrev pub IsPlain : Word → Type 0
IsPlain (letter b) = is_ascii_uppercase b ≡ true
IsPlain (number n) = Unit {0}
IsPlain (name bytes) = ⊥

abbrev pub begins_word : ℕ → Bool
begins_word b = is_ascii_uppercase b || (is_ascii_digit b || eqb b 45)

-- the first byte of a word, and what is after it
pub record IsFirst (b : ℕ) (text : List ℕ) : Type 0 where
  pub more : List ℕ
  pub begun : text ≡ b ∷ more
  pub begins : begins_word b ≡ true

capital_begins : (b : ℕ) → is_ascii_uppercase b ≡ true → begins_word b ≡ true
capital_begins b h = grind arith

digit_begins : (b : ℕ) → is_ascii_digit b ≡ true → begins_word b ≡ true
digit_begins b h = grind arith

name_begins : (b : ℕ) → is_name_byte b ≡ true → begins_word b ≡ true
name_begins b h = grind arith

not_blank : (b : ℕ) → begins_word b ≡ true → is_blank b ≡ false
not_blank b h = grind arith

not_ended : (b : ℕ) → begins_word b ≡ true → (b ≡ 59) ⊎ (b ≡ 40) → ⊥
not_ended b h (inl e) = false≢true (subst (λ (c : ℕ). begins_word c ≡ true) e h)
not_ended b h (inr e) = false≢true (subst (λ (c : ℕ). begins_word c ≡ true) e h)

first_of_numeral : (a : Bool) (ds own : List ℕ) → IsNumeral a ds own → (b : ℕ) × IsFirst b own
first_of_numeral true ds own n = (45, record { more = ds; begun = n.spelled; begins = refl })
first_of_numeral false [] own n = absurd (let h = n.some in omega arith)
first_of_numeral false (d ∷ ds) own n =
    (d, record { more = ds; begun = n.spelled; begins = digit_begins d (n.all 0 0 (omega arith)) })

first_of_name : (bytes own : List ℕ) → IsSpelled (name bytes) own → (b : ℕ) × IsFirst b own
first_of_name [] own is = absurd (let h = is.1 in omega arith)
first_of_name (b ∷ bs) own is = (b, record { more = bs; begun = is.0; begins = name_begins b (is.2 0 0 (omega arith)) })

pub first_of : (word : Word) (own : List ℕ) → IsVisible word → IsSpelled word own → (b : ℕ) × IsFirst b own
first_of (letter b) own visible is = (b, record { more = []; begun = is; begins = capital_begins b visible })
first_of (number n) own visible is = first_of_numeral is.0 is.1 own is.2
first_of (name bytes) own visible is = first_of_name bytes own is

-- a text that begins with a word is filled
pub word_fills : (word : Word) (own more : List ℕ) → IsVisible word → IsSpelled word own → IsFilled (own ++ more)
word_fills word own more visible is =
    let first = first_of word own visible is in
    filled (own ++ more) (first.1.more ++ more) first.0 (ap (λ (t : List ℕ). t ++ more) first.1.begun)
    (not_blank first.0 first.1.begins) (λ e. not_ended first.0 first.1.begins (inr e))

-- no word begins where a command may end
pub no_word_ends : (word : Word) (text rest : List ℕ) → IsVisible word → IsRead word text rest → Ends text → ⊥
no_word_ends word text rest visible is ends =
    let first = first_of word is.own visible is.is_spelled in
    ended first.0 (is.joined ∙ ap (λ (t : List ℕ). t ++ is.after) first.1.begun) first.1.begins ends
  where
    ended : {more : List ℕ} (b : ℕ) → text ≡ b ∷ more → begins_word b ≡ true → Ends text → ⊥
    ended b e begins (inl led) = not_ended b begins (inl (let d = led.begun in cc))
    ended b e begins (inr (inl none)) = cc
    ended b e begins (inr (inr unclosed)) = not_ended b begins (inr (let d = unclosed.begun in cc))

letter_or_number : (b : ℕ) (n : ℤ) (text r s : List ℕ) → is_ascii_uppercase b ≡ true → IsRead (letter b) text r
    → IsRead (number n) text s → ⊥
letter_or_number b n text r s capital is it =
    let a = it.is_spelled in
    neither a.0 a.1 it.own it.after a.2 (sym (ap (λ (t : List ℕ). t ++ is.after) is.is_spelled)
    ∙ (sym is.joined ∙ it.joined))
  where
    not_capital : (d : ℕ) → is_ascii_digit d ≡ true → is_ascii_uppercase d ≡ false
    not_capital d h = grind arith

    neither : {more : List ℕ} (a : Bool) (ds own after : List ℕ) → IsNumeral a ds own → b ∷ more ≡ own ++ after → ⊥
    neither {more} true ds own after num e =
        let both : b ∷ more ≡ 45 ∷ ds ++ after = e ∙ ap (λ (t : List ℕ). t ++ after) num.spelled in
        let first : b ≡ 45 = cc in false≢true (subst (λ (c : ℕ). is_ascii_uppercase c ≡ true) first capital)
    neither false [] own after num e = let h = num.some in omega arith
    neither {more} false (d ∷ ds) own after num e =
        let both : b ∷ more ≡ d ∷ ds ++ after = e ∙ ap (λ (t : List ℕ). t ++ after) num.spelled in
        let first : b ≡ d = cc in
        both_ways (is_ascii_uppercase d) (not_capital d (num.all 0 0 (omega arith)))
        (subst (λ (c : ℕ). is_ascii_uppercase c ≡ true) first capital)

-- the first word of a text, if it is a capital letter or a number, and where the next begins
pub same_word : (u v : Word) (text r s : List ℕ) → IsPlain u → IsPlain v → IsRead u text r → IsRead v text s
    → (u ≡ v) × (r ≡ s)
same_word (letter b) (letter c) text r s pu pv is it = let same =
    same_letter b c text r s is it in (ap letter same.0, same.1)
same_word (letter b) (number n) text r s pu pv is it = absurd (letter_or_number b n text r s pu is it)
same_word (number m) (letter c) text r s pu pv is it = absurd (letter_or_number c m text s r pv it is)
same_word (number m) (number n) text r s pu pv is it = let same =
    same_number m n text r s is it in (ap number same.0, same.1)
same_word (name a) v text r s pu pv is it = absurd pu
same_word (letter b) (name a) text r s pu pv is it = absurd pv
same_word (number m) (name a) text r s pu pv is it = absurd pv

pub plain_visible : (word : Word) → IsPlain word → IsVisible word
plain_visible (letter b) h = h
plain_visible (number n) h = tt
plain_visible (name bytes) h = tt

-- Words that are read as far as some are, and then to where a command may end, begin with these.
pub goes_on : (us vs : List Word) (text r s : List ℕ) → AllByRecursion IsPlain us → AllByRecursion IsPlain vs
    → AreRead us text r → AreRead vs text s → Ends s
    → (more : List Word) × (vs ≡ us ++ more) × AllByRecursion IsPlain more × AreRead more r s
goes_on [] vs text r s pu pv is it ends = (vs, refl, pv, subst (λ (t : List ℕ). AreRead vs t s) is it)
goes_on (u ∷ us) [] text r s pu pv is it ends =
    absurd (no_word_ends u text is.0 (plain_visible u pu.0) is.1 (subst Ends (sym it) ends))
goes_on (u ∷ us) (v ∷ vs) text r s pu pv is it ends =
    let same = same_word u v text is.0 it.0 pu.0 pv.0 is.1 it.1 in
    let rest = goes_on us vs is.0 r s pu.1 pv.1 is.2 (subst (λ (t : List ℕ). AreRead vs t s) (sym same.1) it.2) ends in
    (rest.0, ap (λ (w : Word). w ∷ vs) (sym same.0) ∙ ap (λ (ws : List Word). u ∷ ws) rest.1, rest.2, rest.3)

-- so both are the same where both end where a command may end
pub none_more : (vs : List Word) (r s : List ℕ) → AllByRecursion IsPlain vs → AreRead vs r s → Ends r
    → (vs ≡ []) × (r ≡ s)
none_more [] r s pv it ends = (refl, it)
none_more (v ∷ vs) r s pv it ends = absurd (no_word_ends v r it.0 (plain_visible v pv.0) it.1 ends)
