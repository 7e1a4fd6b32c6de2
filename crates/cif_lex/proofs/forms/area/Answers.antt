use mir.Syntax.{w64}
use mir.Val.{to_z, of_z}
use Rattle.std.proofs.{Common.{◌≡◌, ℕ, ◌+◌, List, [], ◌∷◌, drop, sym, subst}, lemmas.List.{take_rest, drop-drop}}
use Rattle.cif_lex.specs.declared.command.Command.{Command, TheVariants.Area}
use Rattle.cif_lex.specs.{Words.number, Reading.{AreRead, IsPairRead}, Forms.{IsForm, IsFormAnswer}}
use Rattle.cif_lex.proofs.{ReadNumbers.small_back, AreaForm.{no_size, no_centre, area_form}, Stops.led_letter}
use Rattle.cif_lex.proofs.forms.area.Goals as goal

pub returns-in_err-size : goal.returns-in_err-size
returns-in_err-size c =
    let text = c.args.text.now in
    let begin = c.letter_length-begin.result in
    let is = led_letter text (drop begin text) 66 c.requires c.letter_length-begin.ensures.read in
    subst (IsFormAnswer text) (sym c.from_residual.ensures)
    (no_size text (drop begin text) is
    (λ m n rest read. c.in_err-size.ensures m n rest
    (subst (λ (t : List ℕ). AreRead (number m ∷ number n ∷ []) t rest) (sym (take_rest text begin)) read)))

pub returns-in_err-centre : goal.returns-in_err-centre
returns-in_err-centre c =
    let text = c.args.text.now in
    let begin = c.letter_length-begin.result in
    let size = c.in_ok-size.size in
    let is = led_letter text (drop begin text) 66 c.requires c.letter_length-begin.ensures.read in
    let first = subst (λ (t : List ℕ). IsPairRead t size) (take_rest text begin) c.in_ok-size.ensures in
    subst (IsFormAnswer text) (sym c.from_residual-in_err-centre.ensures)
    (no_centre text (drop begin text) (drop (begin + size.length) text) size.first size.second is
    (subst (λ (t : List ℕ). AreRead (number size.first ∷ number size.second ∷ []) (drop begin text) t)
    (drop-drop size.length begin text) first.are_read)
    (λ m n rest read. c.in_err-centre.ensures m n rest
    (subst (λ (t : List ℕ). AreRead (number m ∷ number n ∷ []) t rest)
    (sym (take_rest text (begin + size.length))) read)))

pub returns : goal.returns
returns c =
    let text = c.args.text.now in
    let begin = c.letter_length-begin.result in
    let size = c.in_ok-size.size in
    let centre = c.in_ok-centre.centre in
    let is = led_letter text (drop begin text) 66 c.requires c.letter_length-begin.ensures.read in
    let first = subst (λ (t : List ℕ). IsPairRead t size) (take_rest text begin) c.in_ok-size.ensures in
    let second = subst (λ (t : List ℕ). IsPairRead t centre) (take_rest text (begin + size.length))
    c.in_ok-centre.ensures in
    let l = small_back size.first first.first_small in
    let w = small_back size.second first.second_small in
    let x = small_back centre.first second.first_small in
    let y = small_back centre.second second.second_small in
    let same : Area size.first size.second centre.first centre.second
    ≡ Area (to_z w64 (of_z w64 size.first)) (to_z w64 (of_z w64 size.second)) (to_z w64 (of_z w64 centre.first))
    (to_z w64 (of_z w64 centre.second)) = cc in
    subst (λ (k : Command). IsForm text (record { command = k; length = begin + size.length + centre.length })) same
    (area_form text begin size centre c.letter_length-begin.ensures.within is first second)
