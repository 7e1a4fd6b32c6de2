use Rattle.std.proofs.Common.{◌≡◌, ℕ, Bool, true, false, List, ◌++◌, Result, Ok, Err, IfOk, Vec, Global, length, take}
use Rattle.std.proofs.{Common.{append_assoc, sym, ap, ◌∙◌}, lemmas.List.{append-nil, take_all}}
use Rattle.std.specs.Prelude.{flat_map}
use Rattle.lam_geom.specs.declared.boxes.MaskBox.{MaskBox}
use Rattle.rule_table.specs.declared.technology.Tech.{Tech}
use Rattle.rule_breaks.specs.declared.rule.Break.{Break}
use Rattle.cif_answers.specs.BreakLines.{count_line, line_of_break, more_line, text_of_breaks}
use Rattle.cif_answers.proofs.break_lines.text_of_breaks.Goals.{then-more+in_ok-extend_from_slice, else-more}
use Rattle.cif_answers.proofs.break_lines.text_of_breaks.Goals as goal

whole_text : (tech : Tech) (boxes : List MaskBox) (list : List Break) (more : Bool) (lines out : List ℕ)
    → lines ≡ count_line (length list) ++ flat_map (line_of_break tech boxes) list → out ≡ lines ++ more_line more
    → out ≡ text_of_breaks tech boxes list more
unfolding text_of_breaks
whole_text tech boxes list more lines out is end =
    end ∙ (ap (λ (z : List ℕ). z ++ more_line more) is
    ∙ append_assoc (count_line (length list)) (flat_map (line_of_break tech boxes) list) (more_line more))

written : {E : Type 0} (r : Result (List ℕ) E) (ys zs : List ℕ) → ys ≡ zs → IfOk r (λ t. t ≡ ys) → IfOk r (λ t. t ≡ zs)
written (Ok text) ys zs e h = h ∙ e
written (Err fault) ys zs e h = tt

pub returns : goal.returns
returns c =
    let tech = c.args.tech.now in let boxes = c.args.boxes.now in let list = c.args.list.now in let lines =
    c.loop-x.out.items in
    let items = λ (v : Vec ℕ Global). v.items in
    let all = take_all c.loop-x.x-index list c.loop-x-test.false in
    let is : lines ≡ count_line (length list) ++ flat_map (line_of_break tech boxes) list = c.loop-x.invariant
    ∙ ap (λ (xs : List Break). count_line (length list) ++ flat_map (line_of_break tech boxes) xs) all in
    let end : c.if-more.out.items ≡ lines ++ more_line c.args.more = elim c.if-more.branch [
      | then-more+in_ok-extend_from_slice w ↦ ap items w.out-is
          ∙ (w.in_ok-extend_from_slice.ensures.items ∙ ap (λ (b : Bool). lines ++ more_line b) (sym w.if-more.true))
      | else-more w ↦ ap items w.out-is
          ∙ (sym (append-nil lines) ∙ ap (λ (b : Bool). lines ++ more_line b) (sym w.if-more.false))
    ] in
    written c.new.result c.deref.result.now _
    (c.deref.ensures.value ∙ whole_text tech boxes list c.args.more lines c.if-more.out.items is end)
    c.new.ensures
