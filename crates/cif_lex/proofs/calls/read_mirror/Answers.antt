use Rattle.std.proofs.{Common.{drop, sym, subst}, lemmas.List.take_rest}
use Rattle.cif_lex.{specs.Forms.IsLedBy, proofs.{Stops.{led_letter, letter_there, within_rest}, CallForm.no_mirror}}
use Rattle.cif_lex.proofs.CallForm.{mirror_x_read, mirror_y_read}
use Rattle.cif_lex.proofs.calls.read_mirror.Goals as goal

pub returns-then-begins_with : goal.returns-then-begins_with
returns-then-begins_with c =
    let text = c.args.text.now in
    let begin = c.letter_length-begin.result in
    let is = led_letter text (drop begin text) 77 c.requires c.letter_length-begin.ensures.read in
    let led = subst (IsLedBy 88) (take_rest text begin) c.if-begins_with.ensures in
    mirror_x_read text begin c.letter_length.result
    (within_rest text begin c.letter_length.result c.letter_length-begin.ensures.within
    c.letter_length.ensures.within) c.letter_length-begin.ensures.some is
    (letter_there text begin c.letter_length.result 88 led c.letter_length.ensures.read)

pub returns-then-begins_with-2 : goal.returns-then-begins_with-2
returns-then-begins_with-2 c =
    let text = c.args.text.now in
    let begin = c.letter_length-begin.result in
    let is = led_letter text (drop begin text) 77 c.requires c.letter_length-begin.ensures.read in
    let led = subst (IsLedBy 89) (take_rest text begin) c.if-begins_with-2.ensures in
    mirror_y_read text begin c.letter_length-then-begins_with-2.result
    (within_rest text begin c.letter_length-then-begins_with-2.result c.letter_length-begin.ensures.within
    c.letter_length-then-begins_with-2.ensures.within) c.letter_length-begin.ensures.some is
    (letter_there text begin c.letter_length-then-begins_with-2.result 89 led
    c.letter_length-then-begins_with-2.ensures.read)

pub returns-else-begins_with-2 : goal.returns-else-begins_with-2
returns-else-begins_with-2 c =
    let text = c.args.text.now in
    let begin = c.letter_length-begin.result in
    let is = led_letter text (drop begin text) 77 c.requires c.letter_length-begin.ensures.read in
    no_mirror text (drop begin text) is
    (λ led. c.if-begins_with.ensures (subst (IsLedBy 88) (sym (take_rest text begin)) led))
    (λ led. c.if-begins_with-2.ensures (subst (IsLedBy 89) (sym (take_rest text begin)) led))
