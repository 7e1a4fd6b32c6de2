use Rattle.std.proofs.Common.{◌≡◌, ℕ, ◌+◌, ◌*◌, ◌^◌, ℤ, Bool, false, ◌||◌, List, drop, sym, ap, ◌∙◌, subst, arith}
use Rattle.std.proofs.lemmas.List.{take_rest}
use Rattle.cif_lex.specs.declared.{placement.Placement.Placement, command.Command.TheVariants.Call}
use Rattle.cif_lex.specs.{Transformations.{Point, words_of, applied, placed, shift_of}, Commands.is_bad, Words.number}
use Rattle.cif_lex.specs.{Reading.{IsRead, AreRead, IsNumberRead, IsTransformationRead}, Forms.{IsForm, IsFormAnswer}}
use Rattle.cif_lex.proofs.{Stops.led_letter, ReadNumbers.small_back, Turning.nearer, CallForm.{SoFar, no_called}}
use Rattle.cif_lex.proofs.CallForm.{so_far_none, so_far_more, call_form}
use Rattle.cif_lex.proofs.calls.call.Goals as goal

pub returns-in_err-symbol : goal.returns-in_err-symbol
returns-in_err-symbol c =
    let text = c.args.text.now in
    let begin = c.letter_length-begin.result in
    let is = led_letter text (drop begin text) 67 c.requires.led c.letter_length-begin.ensures.read in
    subst (IsFormAnswer text) (sym c.from_residual.ensures)
    (no_called text (drop begin text) is
    (λ n rest read. c.in_err-symbol.ensures n rest
    (subst (λ (t : List ℕ). IsRead (number n) t rest) (sym (take_rest text begin)) read)))

pub loop-read-init : goal.loop-read-init
loop-read-init c =
    let text = c.args.text.now in
    let begin = c.letter_length-begin.result in
    let symbol = c.in_ok-symbol.symbol in
    let is = led_letter text (drop begin text) 67 c.requires.led c.letter_length-begin.ensures.read in
    subst (λ (p : Placement). SoFar text symbol.value (begin + symbol.length) p false false 0)
    (sym c.still-place.ensures)
    (so_far_none text begin symbol c.letter_length-begin.ensures.within is
    (subst (λ (t : List ℕ). IsNumberRead t symbol) (take_rest text begin) c.in_ok-symbol.ensures))

pub after-place-requires-clause-inner_near : goal.after-place-requires-clause-inner_near
after-place-requires-clause-inner_near c =
    let so = c.loop-read.invariant in
    nearer (1073741825 * c.loop-read.at) (2 ^ 61) (shift_of c.loop-read.place)
    (omega (arith, so.within, c.requires.few)) so.near

pub loop-read-preserved : goal.loop-read-preserved
loop-read-preserved c =
    let text = c.args.text.now in
    let so = c.loop-read.invariant in
    let one = c.in-Some.read in
    let it = subst (λ (t : List ℕ). IsTransformationRead t one) (take_rest text c.loop-read.at) c.in-Some.ensures in
    let near = c.after-place.ensures.near 1073741825 (1073741825 * c.loop-read.at) (c.placement.ensures.near it.small)
    so.near in
    let same : (p : Point) → placed c.after-place.result p ≡ applied one.transformation (placed c.loop-read.place p) =
    λ p. c.after-place.ensures.same p ∙ c.placement.ensures.same (placed c.loop-read.place p) in
    let bad = ap (λ (b : Bool). c.loop-read.bad || b) (sym c.is_bad-bad.ensures) in
    let is_turned = ap (λ (b : Bool). c.loop-read.turned || b) (sym c.is_turn-turned.ensures) in
    let more = so_far_more text c.in_ok-symbol.symbol.value c.loop-read.at c.loop-read.place c.after-place.result
    c.loop-read.bad c.loop-read.turned c.loop-read.divisor c.divisor_with-divisor.result one so it
    c.after-place.ensures.turn same near c.divisor_with-divisor.ensures in
    subst (λ (b : Bool). SoFar text c.in_ok-symbol.symbol.value (c.loop-read.at + one.length) c.after-place.result b
    (c.loop-read.turned || c.is_turn-turned.result) c.divisor_with-divisor.result) bad
    (subst (λ (b : Bool). SoFar text c.in_ok-symbol.symbol.value (c.loop-read.at + one.length) c.after-place.result
    (c.loop-read.bad || is_bad one.transformation) b c.divisor_with-divisor.result) is_turned more)

pub returns : goal.returns
returns c =
    let text = c.args.text.now in
    let begin = c.letter_length-begin.result in
    let symbol = c.in_ok-symbol.symbol in
    let so = c.loop-read.invariant in
    let first = subst (λ (t : List ℕ). IsNumberRead t symbol) (take_rest text begin) c.in_ok-symbol.ensures in
    subst (λ (k : ℤ).
    IsForm text
    (record {
      command = Call k c.loop-read.place c.loop-read.bad c.loop-read.turned c.loop-read.divisor;
      length = c.loop-read.at;
    })) (sym (small_back symbol.value first.small))
    (call_form text symbol.value c.loop-read.at c.loop-read.place c.loop-read.bad c.loop-read.turned
    c.loop-read.divisor so
    (λ t rest read. c.in_default.ensures t rest
    (subst (λ (k : List ℕ). AreRead (words_of t) k rest) (sym (take_rest text c.loop-read.at)) read)))
