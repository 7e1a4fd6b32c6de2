use mir.Syntax.{w64}
use mir.Val.{to_z, of_z}
use Rattle.std.proofs.{Common.{◌≡◌, ℕ, ◌+◌, ℤ, pos, List, [], ◌∷◌, drop, sym, subst}, lemmas.List.take_rest}
use Rattle.cif_lex.specs.{declared.command.Command.{Command, TheVariants.Define}, Words.number, Reading.IsRead}
use Rattle.cif_lex.specs.{Reading.{AreRead, IsNumberRead, IsPairRead}, Forms.{IsForm, IsFormAnswer}}
use Rattle.cif_lex.proofs.{ReadNumbers.small_back, BracketForm.{no_symbol, definition_scaled, definition_alone}}
use Rattle.cif_lex.proofs.Stops.{letter_there, within_rest}
use Rattle.cif_lex.proofs.forms.definition.Goals as goal

pub returns-in_err-symbol : goal.returns-in_err-symbol
returns-in_err-symbol c =
    let text = c.args.text.now in
    let begin = c.args.begin + c.letter_length.result in
    let it = letter_there text c.args.begin c.letter_length.result 83 c.requires.led c.letter_length.ensures.read in
    subst (IsFormAnswer text) (sym c.from_residual.ensures)
    (no_symbol text (drop c.args.begin text) (drop begin text) c.requires.read it
    (λ n rest read. c.in_err-symbol.ensures n rest
    (subst (λ (t : List ℕ). IsRead (number n) t rest) (sym (take_rest text begin)) read)))

pub returns-in-Some : goal.returns-in-Some
returns-in-Some c =
    let text = c.args.text.now in
    let begin = c.args.begin + c.letter_length.result in
    let symbol = c.in_ok-symbol.symbol in
    let scale = c.in-Some.scale in
    let it = letter_there text c.args.begin c.letter_length.result 83 c.requires.led c.letter_length.ensures.read in
    let first = subst (λ (t : List ℕ). IsNumberRead t symbol) (take_rest text begin) c.in_ok-symbol.ensures in
    let second = subst (λ (t : List ℕ). IsPairRead t scale) (take_rest text (begin + symbol.length))
    c.in-Some.ensures in
    let n = small_back symbol.value first.small in
    let a = small_back scale.first second.first_small in
    let b = small_back scale.second second.second_small in
    let same : Define symbol.value scale.first scale.second ≡ Define (to_z w64 (of_z w64 symbol.value))
    (to_z w64 (of_z w64 scale.first)) (to_z w64 (of_z w64 scale.second)) = cc in
    subst (λ (k : Command). IsForm text (record { command = k; length = begin + symbol.length + scale.length })) same
    (definition_scaled text (drop c.args.begin text) begin symbol scale
    (within_rest text c.args.begin c.letter_length.result c.requires.within c.letter_length.ensures.within)
    c.requires.read it first second)

pub returns-in-None : goal.returns-in-None
returns-in-None c =
    let text = c.args.text.now in
    let begin = c.args.begin + c.letter_length.result in
    let symbol = c.in_ok-symbol.symbol in
    let it = letter_there text c.args.begin c.letter_length.result 83 c.requires.led c.letter_length.ensures.read in
    let first = subst (λ (t : List ℕ). IsNumberRead t symbol) (take_rest text begin) c.in_ok-symbol.ensures in
    subst (λ (k : ℤ). IsForm text (record { command = Define k (pos 1) (pos 1); length = begin + symbol.length }))
    (sym (small_back symbol.value first.small))
    (definition_alone text (drop c.args.begin text) begin symbol
    (within_rest text c.args.begin c.letter_length.result c.requires.within c.letter_length.ensures.within)
    c.requires.read it first
    (λ m n rest read. c.in-None.ensures m n rest
    (subst (λ (t : List ℕ). AreRead (number m ∷ number n ∷ []) t rest)
    (sym (take_rest text (begin + symbol.length))) read)))
