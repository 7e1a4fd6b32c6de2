use Rattle.std.proofs.{Common.{◌+◌, drop, sym, subst}, lemmas.List.take_rest}
use Rattle.cif_lex.specs.Forms.{IsLedBy}
use Rattle.cif_lex.proofs.{Stops.{led_letter, letter_there, within_rest}, BracketForm.{finish_form, no_bracket}}
use Rattle.cif_lex.proofs.forms.bracket.Goals as goal

pub returns-then-begins_with-2 : goal.returns-then-begins_with-2
returns-then-begins_with-2 c =
    let text = c.args.text.now in
    let begin = c.letter_length-begin.result in
    let is = led_letter text (drop begin text) 68 c.requires c.letter_length-begin.ensures.read in
    let led = subst (IsLedBy 70) (take_rest text begin) c.if-begins_with-2.ensures in
    finish_form text (drop begin text) (begin + c.letter_length.result)
    (within_rest text begin c.letter_length.result c.letter_length-begin.ensures.within
    c.letter_length.ensures.within) is
    (letter_there text begin c.letter_length.result 70 led c.letter_length.ensures.read)

pub returns-else-begins_with-2 : goal.returns-else-begins_with-2
returns-else-begins_with-2 c =
    let text = c.args.text.now in
    let begin = c.letter_length-begin.result in
    let is = led_letter text (drop begin text) 68 c.requires c.letter_length-begin.ensures.read in
    no_bracket text (drop begin text) is
    (λ led. c.if-begins_with.ensures (subst (IsLedBy 83) (sym (take_rest text begin)) led))
    (λ led. c.if-begins_with-2.ensures (subst (IsLedBy 70) (sym (take_rest text begin)) led))
