use Rattle.std.proofs.Common.{◌≡◌, ℕ, true, ◌+◌, ◌-◌, ◌≤◌, inl, inr, List, length, take, drop, sym, ap, ◌∙◌, subst}
use Rattle.std.{proofs.{Common.arith, lemmas.List.{take_rest, drop-drop}}, specs.List.All}
use Rattle.cif_lex.specs.{declared.command.Command.TheVariants.Layer, Words.{is_name_byte, StopsAt}}
use Rattle.cif_lex.{specs.{Commands.layer_named, Reading.IsAfterGap, Forms.IsForm}, proofs.Stops.led_letter}
use Rattle.cif_lex.proofs.{LayerForm.{no_name, layer_form}, forms.layer.Goals.then-length-eq0-via-then-length-eq0}
use Rattle.cif_lex.proofs.forms.layer.Goals.{then-length-eq0-via-else-length-eq0+then-length-gt-LONGEST_NAME}
use Rattle.cif_lex.proofs.forms.layer.Goals as goal

-- what is known of the name
abbrev Name : List ℕ → ℕ → ℕ → Type 0
Name text begin n = (n ≤ length (drop begin text)) × All (λ b. is_name_byte b ≡ true) (take n (drop begin text))
    × StopsAt is_name_byte (drop n (drop begin text))

the_name : (text rest : List ℕ) (begin n : ℕ) → rest ≡ drop begin text → n ≤ length rest
    → All (λ b. is_name_byte b ≡ true) (take n rest) → StopsAt is_name_byte (drop n rest) → Name text begin n
the_name text rest begin n e le all stops = (
  subst (λ (t : List ℕ). n ≤ length t) e le,
  subst (λ (t : List ℕ). All (λ b. is_name_byte b ≡ true) (take n t)) e all,
  subst (λ (t : List ℕ). StopsAt is_name_byte (drop n t)) e stops,
)

pub returns-then-length-eq0 : goal.returns-then-length-eq0
returns-then-length-eq0 c =
    let text = c.args.text.now in
    let begin = c.letter_length-begin.result in
    let n = c.name_length-length.result in
    let is = led_letter text (drop begin text) 76 c.requires c.letter_length-begin.ensures.read in
    let known = the_name text (take (length text - begin) (drop begin text)) begin n (take_rest text begin)
    c.name_length-length.ensures.within c.name_length-length.ensures.name c.name_length-length.ensures.longest in
    elim c.then-length-eq0.branch [
      | then-length-eq0-via-then-length-eq0 w ↦
          no_name text (drop begin text) n is known.0 known.1 known.2 (inl w.if-length-eq0.true)
      | then-length-eq0-via-else-length-eq0+then-length-gt-LONGEST_NAME w ↦
          no_name text (drop begin text) n is known.0 known.1 known.2 (inr w.if-length-gt-LONGEST_NAME.true)
    ]

pub returns : goal.returns
returns c =
    let text = c.args.text.now in
    let begin = c.letter_length-begin.result in
    let n = c.name_length-length.result in
    let is = led_letter text (drop begin text) 76 c.requires c.letter_length-begin.ensures.read in
    let known = the_name text (take (length text - begin) (drop begin text)) begin n (take_rest text begin)
    c.name_length-length.ensures.within c.name_length-length.ensures.name c.name_length-length.ensures.longest in
    let last = take_rest text (begin + n) in
    let same : begin + n - begin ≡ n = omega arith in
    let none = c.if-length-eq0.false in
    let layer : c.layer_named-layer.result ≡ layer_named (take n (drop begin text)) = c.layer_named-layer.ensures
    ∙ ap (λ (k : ℕ). layer_named (take k (drop begin text))) same in
    subst (λ o. IsForm text (record { command = Layer o; length = begin + n + c.gap_length.result })) (sym layer)
    (layer_form text begin n c.gap_length.result c.letter_length-begin.ensures.within is known.0 known.1
    (subst (StopsAt is_name_byte) (drop-drop n begin text) known.2) (omega arith)
    c.if-length-gt-LONGEST_NAME.false
    (subst (λ (t : List ℕ). c.gap_length.result ≤ length t) last c.gap_length.ensures.within)
    (subst (λ (t : List ℕ). IsAfterGap t (drop c.gap_length.result t)) last c.gap_length.ensures.gap))
