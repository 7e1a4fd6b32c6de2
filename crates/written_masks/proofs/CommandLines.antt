-- Each line of the text of a picture is a command, its semicolon and a line feed.
use Rattle.std.proofs.Common.{◌≡◌, ◌≢◌, ℕ, ◌^◌, ◌≤◌, ℤ, pos, Bool, true, false, ◌||◌, inl, inr, Some, List, [], ◌∷◌}
use Rattle.std.proofs.Common.{◌++◌, refl, sym, ap, ◌∙◌, subst, append_assoc, append-nil, arith, codes, decimal, IsTrue}
use Rattle.std.proofs.lemmas.{Fmt.decimal_digit, List.Elements.{All-nil, All-cons}}
use Rattle.std.specs.{Fmt.signed_decimal, List.All}
use Rattle.lam_geom.specs.declared.boxes.MaskLayer.{MaskLayer, TheVariants.{ND, NP, NC, NM, NI, NB}}
use Rattle.cif_lex.specs.declared.command.Command.{Command, TheVariants.{Define, Finish, Layer, Area, Call, Extension}}
use Rattle.cif_lex.specs.declared.placement.Transformation.TheVariants.{Shift}
use Rattle.cif_lex.specs.{Blanks.{is_blank, IsFiller, IsGap}, Words.{Word, letter, number, name, is_name_byte}}
use Rattle.cif_lex.specs.{Words.AreSpelled, Commands.{is_far, HasWords, IsBody}, Transformations.IsComposedOf}
use Rattle.cif_lex.proofs.Divisors.{divisor_of_shift, one_shift_odd}
use Rattle.cif_text.specs.{Cif.{box_line, layer_name}, Calls.call_line}
use Rattle.written_masks.specs.TextMeanings.{IsNumber}
use Rattle.written_masks.proofs.{Spelled.{is_spelled, not_far, small_number}, Commands.shift_by}

-- ---- gaps

pub no_gap : IsGap []
no_gap = record { fillers = []; joined = refl; each = All-nil IsFiller }

pub one_blank : (b : ℕ) → is_blank b ≡ true → IsGap (b ∷ [])
one_blank b blank =
    record {
      fillers = (b ∷ []) ∷ [];
      joined = refl;
      each = All-cons IsFiller (b ∷ []) [] (inl (b, refl, blank)) (All-nil IsFiller);
    }

-- ---- words, with the end of their line

record IsWordsLine (words : List Word) (line : List ℕ) : Type 0 where
  body : List ℕ
  spelled : AreSpelled words body
  joined : line ≡ body ++ (59 ∷ 10 ∷ [])

no_words : IsWordsLine [] (59 ∷ 10 ∷ [])
no_words = record { body = []; spelled = refl; joined = refl }

-- a letter, and a letter with a blank
then_letter : {words : List Word} {line : List ℕ} (b : ℕ) → IsWordsLine words line
    → IsWordsLine (letter b ∷ words) (b ∷ line)
then_letter b is =
    record {
      body = b ∷ is.body;
      spelled = (b ∷ [], [], is.body, refl, refl, no_gap, tt, is.spelled);
      joined = ap (λ (t : List ℕ). b ∷ t) is.joined;
    }

then_letter_blank : {words : List Word} {line : List ℕ} (b : ℕ) → IsWordsLine words line
    → IsWordsLine (letter b ∷ words) (b ∷ 32 ∷ line)
then_letter_blank b is = record {
  body = b ∷ 32 ∷ is.body;
  spelled = (b ∷ [], 32 ∷ [], is.body, refl, refl, one_blank 32 refl, tt, is.spelled);
  joined = ap (λ (t : List ℕ). b ∷ 32 ∷ t) is.joined;
}

-- a number with a blank, and the last number
then_number : {words : List Word} {line : List ℕ} (z : ℤ) → IsNumber z → IsWordsLine words line
    → IsWordsLine (number z ∷ words) (signed_decimal z ++ (32 ∷ line))
then_number z h is = record {
  body = signed_decimal z ++ (32 ∷ is.body);
  spelled = (signed_decimal z, 32 ∷ [], is.body, refl, is_spelled z h, one_blank 32 refl, refl, is.spelled);
  joined = ap (λ (t : List ℕ). signed_decimal z ++ (32 ∷ t)) is.joined
      ∙ sym (append_assoc (signed_decimal z) (32 ∷ is.body) (59 ∷ 10 ∷ []));
}

last_number : (z : ℤ) → IsNumber z → IsWordsLine (number z ∷ []) (signed_decimal z ++ (59 ∷ 10 ∷ []))
last_number z h =
    record {
      body = signed_decimal z;
      spelled = (signed_decimal z, [], [], sym (append-nil (signed_decimal z)), is_spelled z h, no_gap, tt, refl);
      joined = refl;
    }

-- the name of two bytes
last_name : (a b : ℕ) → is_name_byte a ≡ true → is_name_byte b ≡ true
    → IsWordsLine (name (a ∷ b ∷ []) ∷ []) (a ∷ b ∷ 59 ∷ 10 ∷ [])
last_name a b first second = record {
  body = a ∷ b ∷ [];
  spelled = (
    a ∷ b ∷ [],
    [],
    [],
    refl,
    (
      refl,
      omega arith,
      All-cons (λ c. IsTrue (is_name_byte c)) a (b ∷ []) first
          (All-cons (λ c. IsTrue (is_name_byte c)) b [] second
          (All-nil (λ c. IsTrue (is_name_byte c)))),
    ),
    no_gap,
    tt,
    refl,
  );
  joined = refl;
}

-- ---- commands, with the end of their line

pub record IsLineOf (command : Command) (line : List ℕ) : Type 0 where
  pub body : List ℕ
  pub is_body : IsBody command body
  pub joined : line ≡ body ++ (59 ∷ 10 ∷ [])

of_words : (command : Command) {words : List Word} {line : List ℕ} → HasWords command words → IsWordsLine words line
    → IsLineOf command line
of_words command {words} has is = record { body = is.body; is_body = inl (words, has, is.spelled); joined = is.joined }

pub box_is_line : (w h x y : ℤ) → IsNumber w → IsNumber h → IsNumber x → IsNumber y
    → IsLineOf (Area w h x y) (box_line w h x y)
box_is_line w h x y nw nh nx ny =
    of_words (Area w h x y) refl
    (then_letter_blank 66 (then_number w nw (then_number h nh (then_number x nx (last_number y ny)))))

neither : (a b : Bool) → a ≡ false → b ≡ false → false ≡ ((a || b) || false)
neither false false h k = refl
neither true b h k = absurd cc
neither false true h k = absurd cc

pub call_is_line : (n : ℕ) (x y : ℤ) → n ≤ 2 ^ 30 → IsNumber x → IsNumber y
    → IsLineOf (Call (pos n) (shift_by x y) false false (divisor_of_shift x y)) (call_line n x y)
call_is_line n x y small nx ny =
    let composed : IsComposedOf (Shift x y ∷ []) (shift_by x y) = record { turn = omega arith; same = λ p. refl } in
    of_words (Call (pos n) (shift_by x y) false false (divisor_of_shift x y)) (
      Shift x y ∷ [],
      refl,
      composed,
      neither (is_far x) (is_far y) (not_far x nx)
          (not_far y ny),
      refl,
      one_shift_odd x y,
    )
    (then_letter_blank 67
    (then_number (pos n) (small_number n small) (then_letter_blank 84 (then_number x nx (last_number y ny)))))

pub layer_is_line : (layer : MaskLayer)
    → IsLineOf (Layer (Some layer)) (codes "L " ++ (layer_name layer ++ codes ";\n"))
layer_is_line ND = of_words (Layer (Some ND)) (codes "ND", refl, omega arith, refl)
    (then_letter_blank 76 (last_name 78 68 refl refl))
layer_is_line NP = of_words (Layer (Some NP)) (codes "NP", refl, omega arith, refl)
    (then_letter_blank 76 (last_name 78 80 refl refl))
layer_is_line NC = of_words (Layer (Some NC)) (codes "NC", refl, omega arith, refl)
    (then_letter_blank 76 (last_name 78 67 refl refl))
layer_is_line NM = of_words (Layer (Some NM)) (codes "NM", refl, omega arith, refl)
    (then_letter_blank 76 (last_name 78 77 refl refl))
layer_is_line NI = of_words (Layer (Some NI)) (codes "NI", refl, omega arith, refl)
    (then_letter_blank 76 (last_name 78 73 refl refl))
layer_is_line NB = of_words (Layer (Some NB)) (codes "NB", refl, omega arith, refl)
    (then_letter_blank 76 (last_name 78 66 refl refl))

one_last : IsWordsLine (number (pos 1) ∷ []) (49 ∷ 59 ∷ 10 ∷ [])
one_last = subst (λ (t : List ℕ). IsWordsLine (number (pos 1) ∷ []) (t ++ (59 ∷ 10 ∷ [])))
    (decimal_digit 1 (omega arith)) (last_number (pos 1) (small_number 1 (omega arith)))

pub define_is_line : (n : ℕ) (half : ℤ) → n ≤ 2 ^ 30 → IsNumber half
    → IsLineOf (Define (pos n) half (pos 1))
    (codes "DS " ++ (decimal n ++ (codes " " ++ (signed_decimal half ++ codes " 1;\n"))))
define_is_line n half small h =
    of_words (Define (pos n) half (pos 1)) (inl refl)
    (then_letter 68
    (then_letter_blank 83 (then_number (pos n) (small_number n small) (then_number half h one_last))))

pub finish_is_line : IsLineOf Finish (codes "DF;\n")
finish_is_line = of_words Finish refl (then_letter 68 (then_letter 70 no_words))

pub extension_is_line : (text : List ℕ) → All (λ b. b ≢ 59) text
    → IsLineOf Extension (codes "9 " ++ (text ++ codes ";\n"))
extension_is_line text named = record {
  body = 57 ∷ 32 ∷ text;
  is_body =
      inr (
        refl,
        record {
          first = 57;
          more = 32 ∷ text;
          begun = refl;
          digit = refl;
          inside = All-cons (λ b. b ≢ 59) 32 text (λ e. absurd (omega (arith, e))) named;
        },
      );
  joined = refl;
}
