use Rattle.std.proofs.Common.{get_or, refl, sym, ◌∙◌, arith}
use Rattle.cif_lex.proofs.AnyForm.{led_at, letter_answer, nothing_form, extension_form, none_begins}
use Rattle.cif_lex.proofs.forms.read_form.Goals as goal

pub returns-in-66 : goal.returns-in-66
returns-in-66 c = let text =
    c.args.text.now in letter_answer text 66 c.area.result (led_at text 66 c.requires.filled c.in-66.is) refl
    c.requires.filled c.area.ensures

pub returns-in-67 : goal.returns-in-67
returns-in-67 c = let text =
    c.args.text.now in letter_answer text 67 c.call.result (led_at text 67 c.requires.filled c.in-67.is) refl
    c.requires.filled c.call.ensures

pub returns-in-68 : goal.returns-in-68
returns-in-68 c = let text =
    c.args.text.now in letter_answer text 68 c.bracket.result (led_at text 68 c.requires.filled c.in-68.is) refl
    c.requires.filled c.bracket.ensures

pub returns-in-76 : goal.returns-in-76
returns-in-76 c = let text =
    c.args.text.now in letter_answer text 76 c.layer.result (led_at text 76 c.requires.filled c.in-76.is) refl
    c.requires.filled c.layer.ensures

pub returns-then-is_ascii_digit : goal.returns-then-is_ascii_digit
returns-then-is_ascii_digit c =
    let text = c.args.text.now in
    extension_form text (get_or text 0 0) c.extension_length.result
    (led_at text (get_or text 0 0) c.requires.filled refl)
    (sym c.is_ascii_digit.ensures.value ∙ c.if-is_ascii_digit.true) c.requires.filled
    c.extension_length.ensures.within c.extension_length.ensures.inside c.extension_length.ensures.longest

pub returns-in-59 : goal.returns-in-59
returns-in-59 c = let text = c.args.text.now in nothing_form text (led_at text 59 c.requires.filled c.in-59.is)

pub returns-in_default : goal.returns-in_default
returns-in_default c =
    let text = c.args.text.now in
    let led = led_at text (get_or text 0 0) c.requires.filled refl in
    none_begins text led.more (get_or text 0 0) led.begun c.requires.filled (λ h. grind arith)
