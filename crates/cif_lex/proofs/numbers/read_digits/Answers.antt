use Rattle.std.proofs.Common.{◌≡◌, ℕ, ◌+◌, ◌*◌, ◌≤◌, true, All, List, length, take, drop, get_or, sym, ap, ◌∙◌, subst}
use Rattle.std.proofs.{Common.arith, lemmas.List.{take_rest, Elements.{All-more, All-append}}, Math.Seq.take-add}
use Rattle.std.specs.Char.{is_ascii_digit}
use Rattle.cif_lex.proofs.Numerals.{value_more, past_limit}
use Rattle.cif_lex.proofs.numbers.read_digits.Goals as goal

abbrev AllDigits : List ℕ → Type 0
AllDigits text = All (λ b. is_ascii_digit b ≡ true) text

one_more : (text : List ℕ) (i : ℕ) → i + 1 ≤ length text → AllDigits (take i text)
    → is_ascii_digit (get_or text i 0) ≡ true → AllDigits (take (i + 1) text)
one_more text i le all is = All-more (λ (b : ℕ). is_ascii_digit b ≡ true) text i 0 (omega arith) all is

pub returns-then-distance-ge-PAST_LARGEST-clause-digits : goal.returns-then-distance-ge-PAST_LARGEST-clause-digits
returns-then-distance-ge-PAST_LARGEST-clause-digits c =
    let text = c.args.text.now in
    let i = c.loop-i.i in
    let n = c.digits_length.result in
    let first = one_more text i (omega arith) c.loop-i.invariant.digits
    (sym c.is_ascii_digit.ensures.value ∙ c.if-not-is_ascii_digit.false) in
    let others = subst (λ (t : List ℕ). AllDigits (take n t)) (take_rest text (i + 1)) c.digits_length.ensures.digits in
    subst AllDigits (sym (take-add (i + 1) n text))
    (All-append (λ (b : ℕ). is_ascii_digit b ≡ true) (take (i + 1) text) (take n (drop (i + 1) text)) first others)

pub returns-then-distance-ge-PAST_LARGEST-clause-value : goal.returns-then-distance-ge-PAST_LARGEST-clause-value
returns-then-distance-ge-PAST_LARGEST-clause-value c =
    let text = c.args.text.now in
    let i = c.loop-i.i in
    let value = value_more text i c.loop-i.distance
    (sym c.is_ascii_digit.ensures.value ∙ c.if-not-is_ascii_digit.false) (omega arith) c.loop-i.invariant.value in
    past_limit 1073741825 text (i + 1) (i + 1 + c.digits_length.result) (omega arith)
    (omega (arith, c.from.ensures, c.if-distance-ge-PAST_LARGEST.true, value))

pub loop-i-preserved : goal.loop-i-preserved
loop-i-preserved c =
    let text = c.args.text.now in
    let i = c.loop-i.i in
    let is = sym c.is_ascii_digit.ensures.value ∙ c.if-not-is_ascii_digit.false in
    record {
      digits = one_more text i (omega arith) c.loop-i.invariant.digits is;
      value = ap (λ (d : ℕ). c.loop-i.distance * 10 + d) c.from.ensures
          ∙ value_more text i c.loop-i.distance is (omega arith) c.loop-i.invariant.value;
      small = omega (arith, c.if-distance-ge-PAST_LARGEST.false);
    }
