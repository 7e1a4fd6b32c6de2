-- A box, as the code reads it.
use Rattle.std.proofs.Common.{◌≡◌, ℕ, ◌+◌, ◌≤◌, ℤ, List, [], ◌∷◌, length, drop, refl, sym, ◌∙◌, subst, arith}
use Rattle.std.proofs.lemmas.List.{drop-drop, length-drop}
use Rattle.cif_lex.specs.{declared.{command.Command.{Command, TheVariants.Area}, numbers.Pair.Pair}, Words.Word}
use Rattle.cif_lex.specs.{Words.{letter, number}, Reading.{IsRead, AreRead, IsPairRead}, Forms.{Ends, Takes, IsForm}}
use Rattle.cif_lex.proofs.{OneWord.same_number, CommandWords.{begins, area_words}}

-- two numbers that a text begins with are its only ones
pub same_pair : (m n p q : ℤ) (text r s : List ℕ) → AreRead (number m ∷ number n ∷ []) text r
    → AreRead (number p ∷ number q ∷ []) text s → r ≡ s
same_pair m n p q text r s is it =
    let first = same_number m p text is.0 it.0 is.1 it.1 in
    let second = same_number n q is.0 is.2.0 it.2.0 is.2.1
    (subst (λ (t : List ℕ). IsRead (number q) t it.2.0) (sym first.1) it.2.1) in
    sym is.2.2 ∙ (second.1 ∙ it.2.2)

-- a box after its letter, in two pairs of numbers
record IsArea (c : Command) (mid s : List ℕ) : Type 0 where
  l : ℤ
  w : ℤ
  x : ℤ
  y : ℤ
  between : List ℕ
  size : AreRead (number l ∷ number w ∷ []) mid between
  centre : AreRead (number x ∷ number y ∷ []) between s

area_of : (c : Command) (text mid s : List ℕ) → IsRead (letter 66) text mid → Takes c text s → Ends s → IsArea c mid s
area_of c text mid s is takes ends =
    let b = begins c text mid s 66 refl is takes ends in
    let shape = area_words c b.0 b.1 in
    let read : AreRead (number shape.0 ∷ number shape.1 ∷ number shape.2 ∷ number shape.3 ∷ []) mid s =
    subst (λ (ws : List Word). AreRead ws mid s) shape.5 b.2 in
    record {
      l = shape.0;
      w = shape.1;
      x = shape.2;
      y = shape.3;
      between = read.2.0;
      size = (read.0, read.1, (read.2.0, read.2.1, refl));
      centre = read.2.2;
    }

pub no_size : (text mid : List ℕ) → IsRead (letter 66) text mid
    → ((m n : ℤ) (rest : List ℕ) → AreRead (number m ∷ number n ∷ []) mid rest → ⊥) → (c : Command) (rest : List ℕ)
    → Takes c text rest → Ends rest → ⊥
no_size text mid is none c rest takes ends = let a =
    area_of c text mid rest is takes ends in none a.l a.w a.between a.size

pub no_centre : (text mid between : List ℕ) (l w : ℤ) → IsRead (letter 66) text mid
    → AreRead (number l ∷ number w ∷ []) mid between
    → ((m n : ℤ) (rest : List ℕ) → AreRead (number m ∷ number n ∷ []) between rest → ⊥)
    → (c : Command) (rest : List ℕ) → Takes c text rest → Ends rest → ⊥
no_centre text mid between l w is size none c rest takes ends =
    let a = area_of c text mid rest is takes ends in
    let same = same_pair a.l a.w l w mid a.between between a.size size in
    none a.x a.y rest (subst (λ (t : List ℕ). AreRead (number a.x ∷ number a.y ∷ []) t rest) same a.centre)

pub area_form : (text : List ℕ) (begin : ℕ) (size centre : Pair) → begin ≤ length text
    → IsRead (letter 66) text (drop begin text) → IsPairRead (drop begin text) size
    → IsPairRead (drop (begin + size.length) text) centre
    → IsForm text
    (record {
      command = Area size.first size.second centre.first centre.second;
      length = begin + size.length + centre.length;
    })
area_form text begin size centre le is first second = record {
  within = omega (arith, length-drop begin text, length-drop (begin + size.length) text, first.within, second.within);
  takes = (
    letter 66 ∷ number size.first ∷ number size.second ∷ number centre.first ∷ number centre.second ∷ [],
    refl,
    (
      drop begin text,
      is,
      (
        pair_first.0,
        pair_first.1,
        (
          pair_first.2.0,
          pair_first.2.1,
          subst
              (λ (t : List ℕ). AreRead (number centre.first ∷ number centre.second ∷ []) t
              (drop (begin + size.length + centre.length) text)) (sym pair_first.2.2) pair_second,
        ),
      ),
    ),
  );
  only = λ c rest takes ends.
      let a = area_of c text (drop begin text) rest is takes ends in
      let same = same_pair a.l a.w size.first size.second (drop begin text) a.between
      (drop (begin + size.length) text) a.size pair_first in
      same_pair a.x a.y centre.first centre.second (drop (begin + size.length) text) rest
      (drop (begin + size.length + centre.length) text)
      (subst (λ (t : List ℕ). AreRead (number a.x ∷ number a.y ∷ []) t rest) same a.centre) pair_second;
}
  where
    pair_first : AreRead (number size.first ∷ number size.second ∷ []) (drop begin text)
        (drop (begin + size.length) text)
    pair_first = subst (λ (t : List ℕ). AreRead (number size.first ∷ number size.second ∷ []) (drop begin text) t)
        (drop-drop size.length begin text) first.are_read

    pair_second : AreRead (number centre.first ∷ number centre.second ∷ []) (drop (begin + size.length) text)
        (drop (begin + size.length + centre.length) text)
    pair_second =
        subst (λ (t : List ℕ). AreRead (number centre.first ∷ number centre.second ∷ [])
        (drop (begin + size.length) text) t) (drop-drop centre.length (begin + size.length) text) second.are_read
