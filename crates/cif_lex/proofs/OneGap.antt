-- Gaps: how they are made, and that a text has one only, up to what stands after it.
use Rattle.std.proofs.Common.{◌≡◌, ℕ, ◌+◌, ◌<◌, ◌≤◌, true, false, inl, inr, List, [], ◌∷◌, ◌++◌, length, get_or, take}
use Rattle.std.proofs.Common.{drop, refl, sym, ap, ◌∙◌, subst, append_assoc, arith, length-append}
use Rattle.std.proofs.lemmas.{Bool.{cases_order, false≢true, both_ways}, List.{append-nil, append_cancel_left, take_at}}
use Rattle.std.proofs.lemmas.List.{take-append-le, take_all, take_more, Concat.flat_map-append, Elements.All-append}
use Rattle.std.proofs.{lemmas.List.Elements.{All-cons, All-nil, recursion_from_All}, Math.Seq.take-add}
use Rattle.std.specs.List.{flat_map, AllByRecursion}
use Rattle.cif_lex.specs.Blanks.{opening, is_blank, opened, closed, StaysOpen, IsComment, IsUnclosed, IsFiller, IsGap}
use Rattle.cif_lex.specs.{Blanks.IsFilled, Reading.{IsStop, IsAfterGap}}

-- ---- how gaps are made

pub no_gap : IsGap []
no_gap = record { fillers = []; joined = refl; each = All-nil IsFiller }

pub gap_of : (text : List ℕ) → IsFiller text → IsGap text
gap_of text is =
    record {
      fillers = text ∷ [];
      joined = sym (append-nil text);
      each = All-cons IsFiller text [] is (All-nil IsFiller);
    }

pub gap_append : (a b : List ℕ) → IsGap a → IsGap b → IsGap (a ++ b)
gap_append a b g h = record {
  fillers = g.fillers ++ h.fillers;
  joined = ap (λ (x : List ℕ). x ++ b) g.joined
      ∙ (ap (λ (x : List ℕ). flat_map (λ (f : List ℕ). f) g.fillers ++ x) h.joined
      ∙ sym (flat_map-append (λ (f : List ℕ). f) g.fillers h.fillers));
  each = All-append IsFiller g.fillers h.fillers g.each h.each;
}

-- ---- comments

-- of two texts that begin alike, the shorter begins the longer
shorter_begins : (f g x y : List ℕ) → f ++ x ≡ g ++ y → length f ≤ length g → take (length f) g ≡ f
shorter_begins f g x y e le = sym (take-append-le (length f) g y le)
    ∙ (ap (λ (t : List ℕ). take (length f) t) (sym e) ∙ take_at f x (length f) refl)

some_comment : (c : List ℕ) → IsComment c → 0 < length c
some_comment c is = let e = ap (λ (t : List ℕ). length t) is.begun in omega (arith, e)

-- no comment begins a text whose parentheses stay open after it
open_after : (c text : List ℕ) → IsComment c → StaysOpen text → take (length c) text ≡ c → length c < length text → ⊥
open_after c text is stays e lt =
    let counts = subst (λ (t : List ℕ). closed t < opened t) e (stays (length c) (some_comment c is) lt) in
    omega (arith, is.balanced, counts)

same_comment : (f g x y : List ℕ) → IsComment f → IsComment g → f ++ x ≡ g ++ y → f ≡ g
same_comment f g x y is it e = elim (cases_order (length f) (length g)) [
  | inl same ↦ sym (shorter_begins f g x y e (omega arith)) ∙ take_all (length f) g (omega arith)
  | inr (inl less) ↦ absurd (open_after f g is it.open_inside (shorter_begins f g x y e (omega arith)) less)
  | inr (inr more) ↦ absurd (open_after g f it is.open_inside (shorter_begins g f y x (sym e) (omega arith)) more)
]

comment_or_unclosed : (text c rest : List ℕ) → IsUnclosed text → IsComment c → text ≡ c ++ rest → ⊥
comment_or_unclosed text c [] is it e = let same = e ∙ append-nil c in let counts =
    subst (λ (t : List ℕ). closed t < opened t) same is.unbalanced in omega (arith, it.balanced, counts)
comment_or_unclosed text c (r ∷ rest) is it e =
    let more : length c < length text = omega (arith, ap (λ (t : List ℕ). length t) e, length-append c (r ∷ rest)) in
    open_after c text it is.open_inside (ap (λ (t : List ℕ). take (length c) t) e
    ∙ take_at c (r ∷ rest) (length c) refl) more

-- ---- where gaps end

-- where a gap ends, nothing stands that would go on with it
stops : (r f more : List ℕ) → IsStop r → IsFiller f → r ≡ f ++ more → ⊥
stops r f more (inl (inl ended)) (inl (b, is, blank)) e = cc (ap (λ (t : List ℕ). t ++ more) is)
stops r f more (inl (inl ended)) (inr it) e = let none = sym ended
    ∙ e in omega (arith, some_comment f it, ap (λ (t : List ℕ). length t) none, length-append f more)
stops r f more (inl (inr unclosed)) (inl (b, is, blank)) e =
    let same : opening ∷ unclosed.inside ≡ b ∷ more = sym unclosed.begun ∙ (e ∙ ap (λ (t : List ℕ). t ++ more) is) in
    let first : opening ≡ b = cc in
    false≢true (subst (λ (c : ℕ). is_blank c ≡ true) (sym first) blank)
stops r f more (inl (inr unclosed)) (inr it) e = comment_or_unclosed r f more unclosed it e
stops r f more (inr filled) (inl (b, is, blank)) e =
    let same : filled.first ∷ filled.more ≡ b ∷ more = sym filled.begun ∙ (e ∙ ap (λ (t : List ℕ). t ++ more) is) in
    let first : filled.first ≡ b = cc in
    filled.no_blank (subst (λ (c : ℕ). is_blank c ≡ true) (sym first) blank)
stops r f more (inr filled) (inr it) e =
    let same : filled.first ∷ filled.more ≡ opening ∷ it.inside ++ more = sym filled.begun
    ∙ (e ∙ ap (λ (t : List ℕ). t ++ more) it.begun) in
    filled.no_opening cc

blank_or_comment : (f g x y : List ℕ) (b : ℕ) → f ≡ b ∷ [] → is_blank b ≡ true → IsComment g → f ++ x ≡ g ++ y → ⊥
blank_or_comment f g x y b is blank it e =
    let same : b ∷ x ≡ opening ∷ it.inside ++ y = sym (ap (λ (t : List ℕ). t ++ x) is)
    ∙ (e ∙ ap (λ (t : List ℕ). t ++ y) it.begun) in
    let first : b ≡ opening = cc in
    false≢true (subst (λ (c : ℕ). is_blank c ≡ true) first blank)

same_filler : (f g x y : List ℕ) → IsFiller f → IsFiller g → f ++ x ≡ g ++ y → f ≡ g
same_filler f g x y (inl (b, is, blank)) (inl (c, it, also)) e =
    let same : b ∷ x ≡ c ∷ y = sym (ap (λ (t : List ℕ). t ++ x) is) ∙ (e ∙ ap (λ (t : List ℕ). t ++ y) it) in
    let first : b ≡ c = cc in
    is ∙ (ap (λ (d : ℕ). d ∷ []) first ∙ sym it)
same_filler f g x y (inl (b, is, blank)) (inr it) e = absurd (blank_or_comment f g x y b is blank it e)
same_filler f g x y (inr is) (inl (c, it, blank)) e = absurd (blank_or_comment g f y x c it blank is (sym e))
same_filler f g x y (inr is) (inr it) e = same_comment f g x y is it e

abbrev joined : List (List ℕ) → List ℕ
joined fs = flat_map (λ (f : List ℕ). f) fs

same_rest : (fs gs : List (List ℕ)) (r s : List ℕ) → AllByRecursion IsFiller fs → AllByRecursion IsFiller gs
    → joined fs ++ r ≡ joined gs ++ s → IsStop r → IsStop s → (joined fs ≡ joined gs) × (r ≡ s)
same_rest [] [] r s hs ks e st su = (refl, e)
same_rest [] (g ∷ gs) r s hs ks e st su = absurd (stops r g (joined gs ++ s) st ks.0 (e ∙ append_assoc g (joined gs) s))
same_rest (f ∷ fs) [] r s hs ks e st su =
    absurd (stops s f (joined fs ++ r) su hs.0 (sym e ∙ append_assoc f (joined fs) r))
same_rest (f ∷ fs) (g ∷ gs) r s hs ks e st su =
    let split : f ++ (joined fs ++ r) ≡ g ++ (joined gs ++ s) = sym (append_assoc f (joined fs) r)
    ∙ (e ∙ append_assoc g (joined gs) s) in
    let same = same_filler f g (joined fs ++ r) (joined gs ++ s) hs.0 ks.0 split in
    let after = append_cancel_left f (joined fs ++ r) (joined gs ++ s)
    (split ∙ ap (λ (t : List ℕ). t ++ (joined gs ++ s)) (sym same)) in
    let rest = same_rest fs gs r s hs.1 ks.1 after st su in
    (ap (λ (t : List ℕ). t ++ joined fs) same ∙ ap (λ (t : List ℕ). g ++ t) rest.0, rest.1)

-- a text has one gap only, up to where it ends
pub same_gap : (text g h r s : List ℕ) → IsGap g → IsGap h → text ≡ g ++ r → text ≡ h ++ s → IsStop r → IsStop s
    → (g ≡ h) × (r ≡ s)
same_gap text g h r s is it e d st su =
    let both : joined is.fillers ++ r ≡ joined it.fillers ++ s = sym (ap (λ (t : List ℕ). t ++ r) is.joined)
    ∙ (sym e ∙ (d ∙ ap (λ (t : List ℕ). t ++ s) it.joined)) in
    let same = same_rest is.fillers it.fillers r s (recursion_from_All IsFiller is.fillers is.each)
    (recursion_from_All IsFiller it.fillers it.each) both st su in
    (is.joined ∙ (same.0 ∙ sym it.joined), same.1)

pub same_after : (text r s : List ℕ) → IsAfterGap text r → IsAfterGap text s → r ≡ s
same_after text r s is it = (same_gap text is.gap it.gap r s is.is_gap it.is_gap is.joined it.joined is.stop it.stop).1

-- ---- what is filled

pub filled : (text more : List ℕ) (b : ℕ) → text ≡ b ∷ more → is_blank b ≡ false → (b ≡ opening → ⊥) → IsFilled text
filled text more b e no_blank no_opening = record {
  first = b;
  more = more;
  begun = e;
  no_blank = λ blank. both_ways (is_blank b) no_blank blank;
  no_opening = no_opening;
}

-- ---- what a gap goes on with

pub gap_with_blank : (text : List ℕ) (i : ℕ) → i < length text → IsGap (take i text)
    → is_blank (get_or text i 0) ≡ true → IsGap (take (i + 1) text)
gap_with_blank text i lt is blank =
    subst IsGap (sym (take_more text i 0 lt))
    (gap_append (take i text) (get_or text i 0 ∷ []) is
    (gap_of (get_or text i 0 ∷ []) (inl (get_or text i 0, refl, blank))))

pub gap_with_comment : (text : List ℕ) (i n : ℕ) → i ≤ length text → IsGap (take i text)
    → IsComment (take n (drop i text)) → IsGap (take (i + n) text)
gap_with_comment text i n le is comment =
    subst IsGap (sym (take-add i n text))
    (gap_append (take i text) (take n (drop i text)) is (gap_of (take n (drop i text)) (inr comment)))
