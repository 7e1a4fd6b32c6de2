use mir.Syntax.{w64}
use mir.Val.{to_z}
use Rattle.std.proofs.Common.{◌≡◌, ℕ, Bool, true, ◌+◌, ◌≤◌, List, sym, ap, ◌∙◌, subst, length, take, drop, arith}
use Rattle.std.{proofs.lemmas.List.take_rest, specs.{List.All, Char.is_ascii_digit}}
use Rattle.cif_lex.specs.{Words.{StopsAt, capped, signed}, Reading.IsAfterGap}
use Rattle.cif_lex.proofs.ReadNumbers.{no_digit, number_there, negative_back, positive_back, after_both}
use Rattle.cif_lex.proofs.numbers.read_number.Goals.{then-negative, else-negative}
use Rattle.cif_lex.proofs.numbers.read_number.Goals as goal

pub returns-then-digits-eq0 : goal.returns-then-digits-eq0
returns-then-digits-eq0 c =
    let text = c.args.text.now in
    let begin = c.from-begin.result in
    let stops : StopsAt is_ascii_digit (drop 0 (drop begin text)) =
    subst (λ (k : ℕ). StopsAt is_ascii_digit (drop k (drop begin text))) c.if-digits-eq0.true
    (subst (λ (t : List ℕ). StopsAt is_ascii_digit (drop c.read_digits-digits.result.length t)) (take_rest text begin)
    c.read_digits-digits.ensures.longest) in
    no_digit text c.begins_with-negative.result begin c.begins_with-negative.ensures c.from-begin.ensures stops

pub returns : goal.returns
returns c =
    let text = c.args.text.now in
    let begin = c.from-begin.result in
    let n = c.read_digits-digits.result.length in
    let d = c.read_digits-digits.result.distance in
    let small = c.read_digits-digits.ensures.small in
    let value : to_z w64 c.if-negative.result-bits ≡ signed c.begins_with-negative.result d =
    elim c.if-negative.branch [
      | then-negative w ↦ w.result-is
          ∙ (negative_back d small ∙ ap (λ (b : Bool). signed b d) (sym w.if-negative.true))
      | else-negative w ↦ w.result-is
          ∙ (positive_back d small ∙ ap (λ (b : Bool). signed b d) (sym w.if-negative.false))
    ] in
    let rest = take_rest text begin in
    let last = take_rest text (begin + n) in
    let none = c.if-digits-eq0.false in
    number_there text c.begins_with-negative.result begin n c.gap_length.result d (to_z w64 c.if-negative.result-bits)
    c.begins_with-negative.ensures c.from-begin.ensures (omega arith)
    (subst (λ (t : List ℕ). n ≤ length t) rest c.read_digits-digits.ensures.within)
    (subst (λ (t : List ℕ). All (λ b. is_ascii_digit b ≡ true) (take n t)) rest c.read_digits-digits.ensures.digits)
    (subst (StopsAt is_ascii_digit) (after_both text begin n)
    (subst (λ (t : List ℕ). StopsAt is_ascii_digit (drop n t)) rest c.read_digits-digits.ensures.longest))
    (subst (λ (t : List ℕ). c.gap_length.result ≤ length t) last c.gap_length.ensures.within)
    (subst (λ (t : List ℕ). IsAfterGap t (drop c.gap_length.result t)) last c.gap_length.ensures.gap)
    (c.read_digits-digits.ensures.value ∙ ap (λ (t : List ℕ). capped (take n t)) rest) small value
