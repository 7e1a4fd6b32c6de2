-- The lines of a cell after an edit.
use Rattle.std.proofs.Common.{◌≡◌, ℕ, ◌+◌, ◌<◌, ◌≤◌, List, [], ◌∷◌, ◌++◌, length, take, drop, sym, ap, ◌∙◌}
use Rattle.std.proofs.{Common.{append_assoc, arith}, lemmas.List.{take_at, drop_at, length-append}}
use Rattle.std.specs.List.{AllByRecursion}
use Rattle.list_facts.proofs.Elements.{all_append, all_parts}
use Rattle.stick_text.specs.{declared.design.{Line.Line, Form.TheVariants.Limit}, Writable.IsLine}
use Rattle.design_edits.{specs.Cells.unnumbered, proofs.Splits.same_split}
use Rattle.edit_lines.specs.{declared.script.EditLine.{EditLine, TheVariants.{Add, Take}}, Scripts.HasText}
use Rattle.limit_edits.specs.{Edits.{is_limit, ChangesTo, IsWithoutLimit}, Building.IsLimitAt}

-- ---- without a limit

-- the lines before it and after it
pub without_limit : (lines : List Line) (k at : ℕ) (new : List Line) → IsLimitAt lines k at
    → new ≡ take at lines ++ drop (at + 1) lines → IsWithoutLimit lines k new
without_limit lines k at new is e =
    let prefixes : take at lines ≡ is.prefix = ap (take at) is.split
    ∙ take_at is.prefix (is.limit ∷ is.back) at is.place in
    let apart : is.prefix ++ is.limit ∷ is.back ≡ (is.prefix ++ is.limit ∷ []) ++ is.back =
    sym (append_assoc is.prefix (is.limit ∷ []) is.back) in
    let backs : drop (at + 1) lines ≡ is.back = ap (drop (at + 1)) (is.split ∙ apart)
    ∙ drop_at (is.prefix ++ is.limit ∷ []) is.back (at + 1)
    (omega (arith, length-append is.prefix (is.limit ∷ []), is.place)) in
    record {
      prefix = is.prefix;
      limit = is.limit;
      back = is.back;
      split = is.split;
      count = is.count;
      of_limit = is.of_limit;
      kept = e ∙ ap (λ (l : List Line). l ++ drop (at + 1) lines) prefixes
          ∙ ap (λ (l : List Line). is.prefix ++ l) backs;
    }

-- ---- after an edit

pub changes_are_determined : (edit : EditLine) (lines new other : List Line) → ChangesTo edit lines new
    → ChangesTo edit lines other → new ≡ other
changes_are_determined (Add cell vertical a b at_most n) lines new other e f = e ∙ sym f
changes_are_determined (Take cell k) lines new other e f =
    let parts = same_split (λ line. is_limit line.form) e.prefix f.prefix e.limit f.limit e.back f.back
    (sym e.split ∙ f.split) (e.count ∙ sym f.count) e.of_limit f.of_limit in
    e.kept ∙ ap (λ (l : List Line). l ++ e.back) parts.prefixes ∙ ap (λ (l : List Line). f.prefix ++ l) parts.backs
    ∙ sym f.kept

-- they have a text
pub changed_have_text : (edit : EditLine) (lines new : List Line) → HasText edit → AllByRecursion IsLine lines
    → ChangesTo edit lines new → AllByRecursion IsLine new
changed_have_text (Add cell vertical a b at_most n) lines new text are e =
    rw e (all_append IsLine lines _ are (text, tt))
changed_have_text (Take cell k) lines new text are e =
    let parts = all_parts IsLine e.prefix (e.limit ∷ e.back) (rw e.split at are) in
    rw e.kept (all_append IsLine e.prefix e.back parts.0 parts.1.1)

-- there is one more, or one less
abbrev pub HasLengthAfter : EditLine → ℕ → ℕ → Type 0
HasLengthAfter (Add cell vertical a b at_most n) old new = new ≡ old + 1
HasLengthAfter (Take cell k) old new = new + 1 ≡ old

pub changed_length : (edit : EditLine) (lines new : List Line) → ChangesTo edit lines new
    → HasLengthAfter edit (length lines) (length new)
changed_length (Add cell vertical a b at_most n) lines new e =
    omega (arith, ap length e, length-append lines (unnumbered (Limit vertical a b at_most n) ∷ []))
changed_length (Take cell k) lines new e =
    omega (
      arith,
      ap length e.kept,
      ap length e.split,
      length-append e.prefix e.back,
      length-append e.prefix
          (e.limit ∷ e.back),
    )
