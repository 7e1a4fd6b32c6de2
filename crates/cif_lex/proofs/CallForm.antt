-- A call, as the code reads it: transformation by transformation.
use Rattle.std.proofs.Common.{◌≡◌, ℕ, ◌+◌, ◌*◌, ◌<◌, ◌≤◌, ℤ, pos, ◌+ℤ◌, eqb, Bool, true, false, ◌||◌, List, [], ◌∷◌}
use Rattle.std.proofs.{Common.{◌++◌, length, drop, refl, sym, ap, ◌∙◌, subst, arith}, lemmas.{Bool.eqb-false, Int.ints}}
use Rattle.std.{proofs.lemmas.List.{drop-drop, length-drop, Folds.list_any-append}, specs.List.{flat_map, list_any}}
use Rattle.cif_lex.specs.declared.{command.Command.{Command, TheVariants.Call}, numbers.{Number.Number, Pair.Pair}}
use Rattle.cif_lex.specs.declared.placement.{Placement.Placement, Transformation.{Transformation, TheVariants.Shift}}
use Rattle.cif_lex.specs.declared.placement.Transformation.TheVariants.{MirrorX, MirrorY, Turn}
use Rattle.cif_lex.specs.{declared.calls.Transformed.Transformed, Words.{Word, letter, number}, Transformations.Point}
use Rattle.cif_lex.specs.{Transformations.{words_of, applied, placed, shift_of, IsComposedOf, IsNear}, Shifts.is_odd}
use Rattle.cif_lex.specs.{Shifts.{is_odd_shift, IsOddWhere}, Commands.{is_bad, is_turn}, Reading.{IsRead, AreRead}}
use Rattle.cif_lex.specs.{Reading.{IsNumberRead, IsPairRead, IsTransformationRead}, Forms.{IsLedBy, Ends, Takes}}
use Rattle.cif_lex.{specs.Forms.IsForm, proofs.{OneWord.{same_letter, same_number, no_word_ends}, CommandWords.begins}}
use Rattle.cif_lex.proofs.{CommandWords.call_words, AreaForm.same_pair, BracketForm.led_by_letter}
use Rattle.cif_lex.proofs.{Turning.{all_applied_push, nearer, same_point}, Divisors.zero_even}

-- ---- one transformation

-- another letter stands here
pub other_letter : (b c : ℕ) (text r s : List ℕ) → eqb b c ≡ false → IsRead (letter b) text r
    → IsRead (letter c) text s → ⊥
other_letter b c text r s e is it = eqb-false b c e (same_letter b c text r s is it).0

-- after a letter
words_after : (b : ℕ) (words : List Word) (text mid r s : List ℕ) → IsRead (letter b) text r
    → IsRead (letter b) text mid → AreRead words r s → AreRead words mid s
words_after b words text mid r s is it read =
    subst (λ (t : List ℕ). AreRead words t s) (same_letter b b text r mid is it).1 read

pub same_rest : (t u : Transformation) (text r s : List ℕ) → AreRead (words_of t) text r → AreRead (words_of u) text s
    → r ≡ s
same_rest (Shift a b) (Shift c d) text r s is it =
    same_pair a b c d it.0 r s (words_after 84 (number a ∷ number b ∷ []) text it.0 is.0 r is.1 it.1 is.2) it.2
same_rest (Shift a b) MirrorX text r s is it = absurd (other_letter 84 77 text is.0 it.0 refl is.1 it.1)
same_rest (Shift a b) MirrorY text r s is it = absurd (other_letter 84 77 text is.0 it.0 refl is.1 it.1)
same_rest (Shift a b) (Turn c d) text r s is it = absurd (other_letter 84 82 text is.0 it.0 refl is.1 it.1)
same_rest MirrorX (Shift c d) text r s is it = absurd (other_letter 77 84 text is.0 it.0 refl is.1 it.1)
same_rest MirrorX MirrorX text r s is it =
    let more : AreRead (letter 88 ∷ []) it.0 r = words_after 77 (letter 88 ∷ []) text it.0 is.0 r is.1 it.1 is.2 in
    sym more.2 ∙ ((same_letter 88 88 it.0 more.0 it.2.0 more.1 it.2.1).1 ∙ it.2.2)
same_rest MirrorX MirrorY text r s is it =
    let more : AreRead (letter 88 ∷ []) it.0 r = words_after 77 (letter 88 ∷ []) text it.0 is.0 r is.1 it.1 is.2 in
    absurd (other_letter 88 89 it.0 more.0 it.2.0 refl more.1 it.2.1)
same_rest MirrorX (Turn c d) text r s is it = absurd (other_letter 77 82 text is.0 it.0 refl is.1 it.1)
same_rest MirrorY (Shift c d) text r s is it = absurd (other_letter 77 84 text is.0 it.0 refl is.1 it.1)
same_rest MirrorY MirrorX text r s is it =
    let more : AreRead (letter 89 ∷ []) it.0 r = words_after 77 (letter 89 ∷ []) text it.0 is.0 r is.1 it.1 is.2 in
    absurd (other_letter 89 88 it.0 more.0 it.2.0 refl more.1 it.2.1)
same_rest MirrorY MirrorY text r s is it =
    let more : AreRead (letter 89 ∷ []) it.0 r = words_after 77 (letter 89 ∷ []) text it.0 is.0 r is.1 it.1 is.2 in
    sym more.2 ∙ ((same_letter 89 89 it.0 more.0 it.2.0 more.1 it.2.1).1 ∙ it.2.2)
same_rest MirrorY (Turn c d) text r s is it = absurd (other_letter 77 82 text is.0 it.0 refl is.1 it.1)
same_rest (Turn a b) (Shift c d) text r s is it = absurd (other_letter 82 84 text is.0 it.0 refl is.1 it.1)
same_rest (Turn a b) MirrorX text r s is it = absurd (other_letter 82 77 text is.0 it.0 refl is.1 it.1)
same_rest (Turn a b) MirrorY text r s is it = absurd (other_letter 82 77 text is.0 it.0 refl is.1 it.1)
same_rest (Turn a b) (Turn c d) text r s is it =
    same_pair a b c d it.0 r s (words_after 82 (number a ∷ number b ∷ []) text it.0 is.0 r is.1 it.1 is.2) it.2

-- ---- none

pub no_shift : (text mid : List ℕ) → IsRead (letter 84) text mid
    → ((m n : ℤ) (rest : List ℕ) → AreRead (number m ∷ number n ∷ []) mid rest → ⊥)
    → (t : Transformation) (rest : List ℕ) → AreRead (words_of t) text rest → ⊥
no_shift text mid it none (Shift a b) rest is =
    none a b rest (words_after 84 (number a ∷ number b ∷ []) text mid is.0 rest is.1 it is.2)
no_shift text mid it none MirrorX rest is = other_letter 77 84 text is.0 mid refl is.1 it
no_shift text mid it none MirrorY rest is = other_letter 77 84 text is.0 mid refl is.1 it
no_shift text mid it none (Turn a b) rest is = other_letter 82 84 text is.0 mid refl is.1 it

pub no_turn : (text mid : List ℕ) → IsRead (letter 82) text mid
    → ((m n : ℤ) (rest : List ℕ) → AreRead (number m ∷ number n ∷ []) mid rest → ⊥)
    → (t : Transformation) (rest : List ℕ) → AreRead (words_of t) text rest → ⊥
no_turn text mid it none (Shift a b) rest is = other_letter 84 82 text is.0 mid refl is.1 it
no_turn text mid it none MirrorX rest is = other_letter 77 82 text is.0 mid refl is.1 it
no_turn text mid it none MirrorY rest is = other_letter 77 82 text is.0 mid refl is.1 it
no_turn text mid it none (Turn a b) rest is =
    none a b rest (words_after 82 (number a ∷ number b ∷ []) text mid is.0 rest is.1 it is.2)

pub no_mirror : (text mid : List ℕ) → IsRead (letter 77) text mid → (IsLedBy 88 mid → ⊥) → (IsLedBy 89 mid → ⊥)
    → (t : Transformation) (rest : List ℕ) → AreRead (words_of t) text rest → ⊥
no_mirror text mid it no_x no_y (Shift a b) rest is = other_letter 84 77 text is.0 mid refl is.1 it
no_mirror text mid it no_x no_y MirrorX rest is =
    let more : AreRead (letter 88 ∷ []) mid rest = words_after 77 (letter 88 ∷ []) text mid is.0 rest is.1 it is.2 in
    no_x (led_by_letter 88 mid more.0 more.1)
no_mirror text mid it no_x no_y MirrorY rest is =
    let more : AreRead (letter 89 ∷ []) mid rest = words_after 77 (letter 89 ∷ []) text mid is.0 rest is.1 it is.2 in
    no_y (led_by_letter 89 mid more.0 more.1)
no_mirror text mid it no_x no_y (Turn a b) rest is = other_letter 82 77 text is.0 mid refl is.1 it

pub no_letter : (text : List ℕ) → (IsLedBy 84 text → ⊥) → (IsLedBy 77 text → ⊥) → (IsLedBy 82 text → ⊥)
    → (t : Transformation) (rest : List ℕ) → AreRead (words_of t) text rest → ⊥
no_letter text no_t no_m no_r (Shift a b) rest is = no_t (led_by_letter 84 text is.0 is.1)
no_letter text no_t no_m no_r MirrorX rest is = no_m (led_by_letter 77 text is.0 is.1)
no_letter text no_t no_m no_r MirrorY rest is = no_m (led_by_letter 77 text is.0 is.1)
no_letter text no_t no_m no_r (Turn a b) rest is = no_r (led_by_letter 82 text is.0 is.1)

-- ---- one more

any_push : (p : Transformation → Bool) (ts : List Transformation) (t : Transformation)
    → list_any p (ts ++ t ∷ []) ≡ (list_any p ts || p t)
any_push p ts t = list_any-append p ts (t ∷ []) ∙ ap (λ (b : Bool). list_any p ts || b) (or_false (p t))
  where
    or_false : (b : Bool) → (b || false) ≡ b
    or_false true = refl
    or_false false = refl

read_push : (ts : List Transformation) (t : Transformation) (text mid rest : List ℕ)
    → AreRead (flat_map words_of ts) text mid → AreRead (words_of t) mid rest
    → AreRead (flat_map words_of (ts ++ t ∷ [])) text rest
read_push [] (Shift a b) text mid rest is it = subst (λ (t : List ℕ). AreRead (words_of (Shift a b)) t rest) (sym is) it
read_push [] MirrorX text mid rest is it = subst (λ (t : List ℕ). AreRead (words_of MirrorX) t rest) (sym is) it
read_push [] MirrorY text mid rest is it = subst (λ (t : List ℕ). AreRead (words_of MirrorY) t rest) (sym is) it
read_push [] (Turn a b) text mid rest is it = subst (λ (t : List ℕ). AreRead (words_of (Turn a b)) t rest) (sym is) it
read_push (Shift a b ∷ ts) t text mid rest is it =
    (is.0, is.1, (is.2.0, is.2.1, (is.2.2.0, is.2.2.1, read_push ts t is.2.2.0 mid rest is.2.2.2 it)))
read_push (MirrorX ∷ ts) t text mid rest is it =
    (is.0, is.1, (is.2.0, is.2.1, read_push ts t is.2.0 mid rest is.2.2 it))
read_push (MirrorY ∷ ts) t text mid rest is it =
    (is.0, is.1, (is.2.0, is.2.1, read_push ts t is.2.0 mid rest is.2.2 it))
read_push (Turn a b ∷ ts) t text mid rest is it =
    (is.0, is.1, (is.2.0, is.2.1, (is.2.2.0, is.2.2.1, read_push ts t is.2.2.0 mid rest is.2.2.2 it)))

-- the first of those that are left
first_left : (t : Transformation) (ts : List Transformation) (mid rest : List ℕ)
    → AreRead (flat_map words_of (t ∷ ts)) mid rest
    → (between : List ℕ) × AreRead (words_of t) mid between × AreRead (flat_map words_of ts) between rest
first_left (Shift a b) ts mid rest read =
    (read.2.2.0, (read.0, read.1, (read.2.0, read.2.1, (read.2.2.0, read.2.2.1, refl))), read.2.2.2)
first_left MirrorX ts mid rest read = (read.2.0, (read.0, read.1, (read.2.0, read.2.1, refl)), read.2.2)
first_left MirrorY ts mid rest read = (read.2.0, (read.0, read.1, (read.2.0, read.2.1, refl)), read.2.2)
first_left (Turn a b) ts mid rest read =
    (read.2.2.0, (read.0, read.1, (read.2.0, read.2.1, (read.2.2.0, read.2.2.1, refl))), read.2.2.2)

visible_first : (t : Transformation) (text after rest : List ℕ) → AreRead (words_of t) text after → Ends text → ⊥
visible_first (Shift a b) text after rest is ends = no_word_ends (letter 84) text is.0 refl is.1 ends
visible_first MirrorX text after rest is ends = no_word_ends (letter 77) text is.0 refl is.1 ends
visible_first MirrorY text after rest is ends = no_word_ends (letter 77) text is.0 refl is.1 ends
visible_first (Turn a b) text after rest is ends = no_word_ends (letter 82) text is.0 refl is.1 ends

-- ---- so far

-- the text after `C n`, of which some transformations have been read
pub record SoFar (text : List ℕ) (n : ℤ) (at : ℕ) (place : Placement) (bad is_turned : Bool) (divisor : ℕ) : Type
    0 where
  pub within : at ≤ length text
  pub ts : List Transformation
  pub read : AreRead (letter 67 ∷ number n ∷ flat_map words_of ts) text (drop at text)
  pub composed : IsComposedOf ts place
  pub bad_is : bad ≡ list_any is_bad ts
  pub turned_is : is_turned ≡ list_any is_turn ts
  pub divisor_is : IsOddWhere (λ above below. list_any (is_odd_shift above below) ts) divisor
  pub near : IsNear (1073741825 * at) (shift_of place)
  pub only : (c : Command) (rest : List ℕ) → Takes c text rest → Ends rest
      → (left : List Transformation) × AreRead (flat_map words_of left) (drop at text) rest

pub no_called : (text mid : List ℕ) → IsRead (letter 67) text mid
    → ((n : ℤ) (rest : List ℕ) → IsRead (number n) mid rest → ⊥) → (c : Command) (rest : List ℕ) → Takes c text rest
    → Ends rest → ⊥
no_called text mid is none c rest takes ends =
    let b = begins c text mid rest 67 refl is takes ends in
    let shape = call_words c b.0 b.1 in
    let read : AreRead (number shape.0 ∷ flat_map words_of shape.1) mid rest =
    subst (λ (ws : List Word). AreRead ws mid rest) shape.2 b.2 in
    none shape.0 read.0 read.1

pub so_far_none : (text : List ℕ) (begin : ℕ) (symbol : Number) → begin ≤ length text
    → IsRead (letter 67) text (drop begin text) → IsNumberRead (drop begin text) symbol
    → SoFar text symbol.value (begin + symbol.length) (record { turn = 0; x = pos 0; y = pos 0 }) false false 0
so_far_none text begin symbol le is it = record {
  within = omega (arith, length-drop begin text, it.within);
  ts = [];
  read = (drop begin text, is, (drop (begin + symbol.length) text, one, refl));
  composed =
      record {
        turn = omega arith;
        same = λ p. same_point (p.0 +ℤ pos 0, p.1 +ℤ pos 0) p (omega (arith, ints))
            (omega (arith, ints));
      };
  bad_is = refl;
  turned_is = refl;
  divisor_is = λ above below some. zero_even above below;
  near = record {
    left = omega (arith, ints);
    right = omega (arith, ints);
    below = omega (arith, ints);
    above = omega (arith, ints);
  };
  only = λ c rest takes ends.
      let b = begins c text (drop begin text) rest 67 refl is takes ends in
      let shape = call_words c b.0 b.1 in
      let read : AreRead (number shape.0 ∷ flat_map words_of shape.1) (drop begin text) rest =
      subst (λ (ws : List Word). AreRead ws (drop begin text) rest) shape.2 b.2 in
      let same =
      (same_number shape.0 symbol.value (drop begin text) read.0 (drop (begin + symbol.length) text) read.1
      one).1 in
      (shape.1, subst (λ (t : List ℕ). AreRead (flat_map words_of shape.1) t rest) same read.2);
}
  where
    one : IsRead (number symbol.value) (drop begin text) (drop (begin + symbol.length) text)
    one = subst (λ (t : List ℕ). IsRead (number symbol.value) (drop begin text) t)
        (drop-drop symbol.length begin text) it.is_read

words_push : (text : List ℕ) (n : ℤ) (ts : List Transformation) (t : Transformation) (mid rest : List ℕ)
    → AreRead (letter 67 ∷ number n ∷ flat_map words_of ts) text mid → AreRead (words_of t) mid rest
    → AreRead (letter 67 ∷ number n ∷ flat_map words_of (ts ++ t ∷ [])) text rest
words_push text n ts t mid rest is it = (is.0, is.1, (is.2.0, is.2.1, read_push ts t is.2.0 mid rest is.2.2 it))

pub so_far_more : (text : List ℕ) (n : ℤ) (at : ℕ) (place next : Placement) (bad is_turned : Bool) (divisor more : ℕ)
    (one : Transformed) → SoFar text n at place bad is_turned divisor → IsTransformationRead (drop at text) one
    → next.turn < 8 → ((p : Point) → placed next p ≡ applied one.transformation (placed place p))
    → IsNear (1073741825 + 1073741825 * at) (shift_of next)
    → IsOddWhere (λ above below. is_odd above below (pos divisor) || is_odd_shift above below one.transformation) more
    → SoFar text n (at + one.length) next (bad || is_bad one.transformation) (is_turned || is_turn one.transformation)
    more
so_far_more text n at place next bad is_turned divisor more one so it turn same near odd = record {
  within = omega (arith, length-drop at text, it.within, so.within);
  ts = so.ts ++ one.transformation ∷ [];
  read = words_push text n so.ts one.transformation (drop at text) (drop (at + one.length) text) so.read read;
  composed =
      record {
        turn = turn;
        same = λ p. same p
            ∙ (ap (applied one.transformation) (so.composed.same p)
            ∙ sym (all_applied_push so.ts one.transformation p));
      };
  bad_is = ap (λ (b : Bool). b || is_bad one.transformation) so.bad_is ∙ sym (any_push is_bad so.ts one.transformation);
  turned_is = ap (λ (b : Bool). b || is_turn one.transformation) so.turned_is
      ∙ sym (any_push is_turn so.ts one.transformation);
  divisor_is = λ above below some.
      odd above below some
      ∙ (ap (λ (b : Bool). b || is_odd_shift (pos above) (pos below) one.transformation)
      (so.divisor_is above below some)
      ∙ sym (any_push (is_odd_shift (pos above) (pos below)) so.ts one.transformation));
  near = nearer (1073741825 + 1073741825 * at) (1073741825 * (at + one.length)) (shift_of next)
      (omega (arith, it.some)) near;
  only = λ c rest takes ends. let left = so.only c rest takes ends in go rest left.0 left.1 ends;
}
  where
    read : AreRead (words_of one.transformation) (drop at text) (drop (at + one.length) text)
    read = subst (λ (t : List ℕ). AreRead (words_of one.transformation) (drop at text) t)
        (drop-drop one.length at text) it.are_read

    go : (rest : List ℕ) (left : List Transformation) → AreRead (flat_map words_of left) (drop at text) rest
        → Ends rest → (more : List Transformation)
        × AreRead (flat_map words_of more) (drop (at + one.length) text) rest
    go rest [] none ends =
        absurd (visible_first one.transformation (drop at text) (drop (at + one.length) text) rest read
        (subst Ends (sym none) ends))
    go rest (t ∷ left) some ends =
        let first = first_left t left (drop at text) rest some in
        let same : first.0 ≡ drop (at + one.length) text =
        same_rest t one.transformation (drop at text) first.0 (drop (at + one.length) text) first.1 read in
        (left, subst (λ (k : List ℕ). AreRead (flat_map words_of left) k rest) same first.2)

pub call_form : (text : List ℕ) (n : ℤ) (at : ℕ) (place : Placement) (bad is_turned : Bool) (divisor : ℕ)
    → SoFar text n at place bad is_turned divisor
    → ((t : Transformation) (rest : List ℕ) → AreRead (words_of t) (drop at text) rest → ⊥)
    → IsForm text (record { command = Call n place bad is_turned divisor; length = at })
call_form text n at place bad is_turned divisor so no_more = record {
  within = so.within;
  takes = (
    letter 67 ∷ number n ∷ flat_map words_of so.ts,
    (so.ts, refl, so.composed, so.bad_is, so.turned_is, so.divisor_is),
    so.read,
  );
  only = λ c rest takes ends. let left = so.only c rest takes ends in go rest left.0 left.1;
}
  where
    go : (rest : List ℕ) (left : List Transformation) → AreRead (flat_map words_of left) (drop at text) rest
        → rest ≡ drop at text
    go rest [] read = sym read
    go rest (t ∷ left) read = let first =
        first_left t left (drop at text) rest read in absurd (no_more t first.0 first.1)

-- ---- as the code answers

pub shift_read : (text : List ℕ) (begin : ℕ) (pair : Pair) → begin ≤ length text
    → IsRead (letter 84) text (drop begin text) → IsPairRead (drop begin text) pair
    → IsTransformationRead text (record { transformation = Shift pair.first pair.second; length = begin + pair.length })
shift_read text begin pair le is it = record {
  some = omega (arith, it.some);
  within = omega (arith, length-drop begin text, it.within);
  small = (it.first_small, it.second_small);
  are_read = (
    drop begin text,
    is,
    subst
        (λ (t : List ℕ). AreRead (number pair.first ∷ number pair.second ∷ []) (drop begin text) t)
        (drop-drop pair.length begin text) it.are_read,
  );
}

pub turn_read : (text : List ℕ) (begin : ℕ) (pair : Pair) → begin ≤ length text
    → IsRead (letter 82) text (drop begin text) → IsPairRead (drop begin text) pair
    → IsTransformationRead text (record { transformation = Turn pair.first pair.second; length = begin + pair.length })
turn_read text begin pair le is it = record {
  some = omega (arith, it.some);
  within = omega (arith, length-drop begin text, it.within);
  small = (it.first_small, it.second_small);
  are_read = (
    drop begin text,
    is,
    subst
        (λ (t : List ℕ). AreRead (number pair.first ∷ number pair.second ∷ []) (drop begin text) t)
        (drop-drop pair.length begin text) it.are_read,
  );
}

pub mirror_x_read : (text : List ℕ) (begin n : ℕ) → begin + n ≤ length text → 0 < begin
    → IsRead (letter 77) text (drop begin text) → IsRead (letter 88) (drop begin text) (drop (begin + n) text)
    → IsTransformationRead text (record { transformation = MirrorX; length = begin + n })
mirror_x_read text begin n le some is it =
    record {
      some = omega (arith, some);
      within = le;
      small = tt;
      are_read = (drop begin text, is, (drop (begin + n) text, it, refl));
    }

pub mirror_y_read : (text : List ℕ) (begin n : ℕ) → begin + n ≤ length text → 0 < begin
    → IsRead (letter 77) text (drop begin text) → IsRead (letter 89) (drop begin text) (drop (begin + n) text)
    → IsTransformationRead text (record { transformation = MirrorY; length = begin + n })
mirror_y_read text begin n le some is it =
    record {
      some = omega (arith, some);
      within = le;
      small = tt;
      are_read = (drop begin text, is, (drop (begin + n) text, it, refl));
    }
