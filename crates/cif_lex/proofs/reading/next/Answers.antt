use Rattle.std.proofs.Common.{ℕ, ◌+◌, ◌-◌, List, ◌∷◌, ◌++◌, length, take, drop, sym, ap, ◌∙◌, subst, arith}
use Rattle.std.proofs.lemmas.List.{take_rest, length-drop}
use Rattle.cif_lex.specs.{Blanks.{IsCutOff, IsFilled}, Reading.IsStop, Forms.{IsLedBy, Reaches, IsBodyForm}}
use Rattle.cif_lex.proofs.Following.{follows_after, none_read, none_ends, cut_read, body_length, whole_read}
use Rattle.cif_lex.proofs.Following.{follows_same}
use Rattle.cif_lex.proofs.reading.next.Goals as goal

pub returns-then-is_cut : goal.returns-then-is_cut
returns-then-is_cut c =
    let bytes = c.args.bytes.now in
    let begin = c.args.read + c.gap_length.result in (
      begin,
      drop begin bytes,
      follows_after bytes _ c.args.read c.gap_length.result (take_rest bytes c.args.read) c.gap_length.ensures.within
          c.gap_length.ensures.gap,
      subst IsCutOff (take_rest bytes begin) c.if-is_cut.ensures,
    )

pub returns-then-begins_with : goal.returns-then-begins_with
returns-then-begins_with c =
    let bytes = c.args.bytes.now in
    let begin = c.args.read + c.gap_length.result in
    let led = subst (IsLedBy 69) (take_rest bytes begin) c.if-begins_with.ensures in (
      led.more,
      follows_same bytes c.args.read begin (drop begin bytes) (69 ∷ led.more)
          (follows_after bytes _ c.args.read c.gap_length.result (take_rest bytes c.args.read)
          c.gap_length.ensures.within c.gap_length.ensures.gap) led.begun,
      omega (arith, ap (λ (t : List ℕ). length t) led.begun, length-drop begin bytes),
    )

pub returns-in_default : goal.returns-in_default
returns-in_default c =
    let bytes = c.args.bytes.now in
    let begin = c.args.read + c.gap_length.result in
    let text = drop begin bytes in
    let e = take_rest bytes begin in (
      text,
      follows_after bytes _ c.args.read c.gap_length.result (take_rest bytes c.args.read) c.gap_length.ensures.within
          c.gap_length.ensures.gap,
      none_read text (subst IsFilled e c.if-is_cut.ensures)
          (λ led. c.if-begins_with.ensures (subst (IsLedBy 69) (sym e) led))
          (λ command rest reaches may. c.in_default.ensures command rest
          (subst (λ (t : List ℕ). Reaches command t rest) (sym e) reaches) may),
    )

pub is_cut-requires-2 : goal.is_cut-requires-2
is_cut-requires-2 c =
    let bytes = c.args.bytes.now in
    let begin = c.args.read + c.gap_length.result in
    let e = take_rest bytes begin in
    let form = c.in-Some.form in
    subst IsStop (sym (take_rest (take (length bytes - begin) (drop begin bytes)) form.length)) c.in-Some.ensures.stop

pub returns-then-is_cut-2 : goal.returns-then-is_cut-2
returns-then-is_cut-2 c =
    let bytes = c.args.bytes.now in
    let begin = c.args.read + c.gap_length.result in
    let text = drop begin bytes in
    let e = take_rest bytes begin in
    let form = c.in-Some.form in
    let rest = take_rest (take (length bytes - begin) text) form.length ∙ ap (λ (t : List ℕ). drop form.length t) e in (
      text,
      follows_after bytes _ c.args.read c.gap_length.result (take_rest bytes c.args.read) c.gap_length.ensures.within
          c.gap_length.ensures.gap,
      cut_read text form (subst IsFilled e c.if-is_cut.ensures)
          (subst (λ (t : List ℕ). IsBodyForm t form) e c.in-Some.ensures) (subst IsCutOff rest c.if-is_cut-2.ensures),
    )

pub returns-then-begins_with-2 : goal.returns-then-begins_with-2
returns-then-begins_with-2 c =
    let bytes = c.args.bytes.now in
    let begin = c.args.read + c.gap_length.result in
    let text = drop begin bytes in
    let e = take_rest bytes begin in
    let form = c.in-Some.form in
    let rest = take_rest (take (length bytes - begin) text) form.length ∙ ap (λ (t : List ℕ). drop form.length t) e in
    let it = subst (λ (t : List ℕ). IsBodyForm t form) e c.in-Some.ensures in
    let led = subst (IsLedBy 59) rest c.if-begins_with-2.ensures in
    let f = follows_after bytes _ c.args.read c.gap_length.result (take_rest bytes c.args.read)
    c.gap_length.ensures.within c.gap_length.ensures.gap in
    let len = body_length text form it in (
      it.reaches.0,
      led.more,
      it.reaches.1,
      follows_same bytes c.args.read begin text (it.reaches.0 ++ (59 ∷ led.more)) f (whole_read text form it led),
      omega (arith, len),
      omega (arith, ap (λ (t : List ℕ). length t) led.begun, length-drop begin bytes, length-drop form.length text),
    )

pub returns-else-begins_with-2 : goal.returns-else-begins_with-2
returns-else-begins_with-2 c =
    let bytes = c.args.bytes.now in
    let begin = c.args.read + c.gap_length.result in
    let text = drop begin bytes in
    let e = take_rest bytes begin in
    let form = c.in-Some.form in
    let rest = take_rest (take (length bytes - begin) text) form.length ∙ ap (λ (t : List ℕ). drop form.length t) e in (
      text,
      follows_after bytes _ c.args.read c.gap_length.result (take_rest bytes c.args.read) c.gap_length.ensures.within
          c.gap_length.ensures.gap,
      none_ends text form (subst IsFilled e c.if-is_cut.ensures)
          (λ led. c.if-begins_with.ensures (subst (IsLedBy 69) (sym e) led))
          (subst (λ (t : List ℕ). IsBodyForm t form) e c.in-Some.ensures)
          (subst IsFilled rest c.if-is_cut-2.ensures)
          (λ led. c.if-begins_with-2.ensures (subst (IsLedBy 59) (sym rest) led)),
    )
