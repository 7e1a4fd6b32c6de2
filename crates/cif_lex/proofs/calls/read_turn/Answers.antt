use mir.Syntax.{w64}
use mir.Val.{to_z, of_z}
use Rattle.std.proofs.{Common.{◌≡◌, ℕ, ◌+◌, List, [], ◌∷◌, drop, sym, subst}, lemmas.List.take_rest}
use Rattle.cif_lex.specs.{declared.placement.Transformation.{Transformation, TheVariants.Turn}, Words.number}
use Rattle.cif_lex.specs.Reading.{AreRead, IsPairRead, IsTransformationRead, IsTransformationAnswer}
use Rattle.cif_lex.proofs.{ReadNumbers.small_back, Stops.led_letter, CallForm.{no_turn, turn_read}}
use Rattle.cif_lex.proofs.calls.read_turn.Goals as goal

pub returns-in_err-axis : goal.returns-in_err-axis
returns-in_err-axis c =
    let text = c.args.text.now in
    let begin = c.letter_length-begin.result in
    let is = led_letter text (drop begin text) 82 c.requires c.letter_length-begin.ensures.read in
    subst (IsTransformationAnswer text) (sym c.from_residual.ensures)
    (no_turn text (drop begin text) is
    (λ m n rest read. c.in_err-axis.ensures m n rest
    (subst (λ (t : List ℕ). AreRead (number m ∷ number n ∷ []) t rest) (sym (take_rest text begin)) read)))

pub returns : goal.returns
returns c =
    let text = c.args.text.now in
    let begin = c.letter_length-begin.result in
    let pair = c.in_ok-axis.axis in
    let is = led_letter text (drop begin text) 82 c.requires c.letter_length-begin.ensures.read in
    let it = subst (λ (t : List ℕ). IsPairRead t pair) (take_rest text begin) c.in_ok-axis.ensures in
    let x = small_back pair.first it.first_small in
    let y = small_back pair.second it.second_small in
    let same : Turn pair.first pair.second ≡ Turn (to_z w64 (of_z w64 pair.first)) (to_z w64 (of_z w64 pair.second)) =
    cc in
    subst (λ (t : Transformation). IsTransformationRead text
    (record { transformation = t; length = begin + pair.length })) same
    (turn_read text begin pair c.letter_length-begin.ensures.within is it)
