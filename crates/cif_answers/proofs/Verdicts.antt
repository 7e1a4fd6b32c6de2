-- What the list of the breaks of a text tells of the verdict on it.
use Rattle.std.proofs.Common.{◌≡◌, ◌↔◌, ℕ, ◌+◌, ◌^◌, ◌<◌, ◌≤◌, Bool, true, false, List, [], ◌∷◌, ◌++◌, length, refl}
use Rattle.std.proofs.{Common.{sym, subst, ap, ◌∙◌, arith, append_assoc, length-append}, lemmas.Fmt.decimal_nonempty}
use Rattle.std.specs.{Prelude.{codes, decimal, flat_map}, Fmt.digits}
use Rattle.lam_geom.specs.declared.boxes.MaskBox.{MaskBox}
use Rattle.rule_table.specs.declared.technology.Tech.{Tech}
use Rattle.rule_breaks.specs.{declared.rule.Break.Break, Breaks.{IsFirstBreak, KeepRules}, Lists.AreFirstBreaks}
use Rattle.flat_check.proofs.FirstListed.{first_listed, none_listed}
use Rattle.cif_answers.proofs.{OneList.kept_none, Determined.{Premises, boxes_same, breaks_same}}
use Rattle.cif_answers.specs.{BreakLines.{count_line, line_of_break, more_line, text_of_breaks}, Texts.BeginsWith}
use Rattle.cif_answers.specs.Texts.{HasBoxes, HasBreaks, HasVerdict, IsFirstBreakOf, TellsVerdict}

empty_text : (tech : Tech) (boxes : List MaskBox) → text_of_breaks tech boxes [] false ≡ codes "breaks 0\n"
unfolding text_of_breaks digits
empty_text tech boxes = refl

text_with : (tech : Tech) (boxes : List MaskBox) (x : Break) (xs : List Break) (more : Bool)
    → text_of_breaks tech boxes (x ∷ xs) more ≡ count_line (length (x ∷ xs))
    ++ (line_of_break tech boxes x ++ (flat_map (line_of_break tech boxes) xs ++ more_line more))
unfolding text_of_breaks
text_with tech boxes x xs more =
    ap (λ (ys : List ℕ). count_line (length (x ∷ xs)) ++ ys)
    (append_assoc (line_of_break tech boxes x) (flat_map (line_of_break tech boxes) xs) (more_line more))

-- it is longer than that of none
longer : (count : ℕ) (line rest : List ℕ) → count < 2 ^ 64 → 0 < length line
    → 9 < length (count_line count ++ (line ++ rest))
longer count line rest few some =
    let digits = decimal_nonempty count few in
    omega (
      arith,
      digits,
      some,
      length-append (count_line count) (line ++ rest),
      length-append line
          rest,
      length-append (codes "breaks ") (decimal count ++ codes "\n"),
      length-append (decimal count)
          (codes "\n"),
    )

line_there : (tech : Tech) (boxes : List MaskBox) (x : Break) → 0 < length (line_of_break tech boxes x)
line_there tech boxes x = omega arith

module _ (tech : Tech) (most : ℕ) (text output : List ℕ) (g : Premises text) (some : 1 ≤ most) (few : most ≤ 65536)
    (h : HasBreaks tech most text output) where
  none_of : (boxes : List MaskBox) (list : List Break) (more : Bool) → KeepRules tech boxes
      → AreFirstBreaks tech boxes most list more → text_of_breaks tech boxes list more ≡ codes "breaks 0\n"
  none_of boxes list more keep first = go list more first (kept_none tech boxes most list more keep first) where
    go : (list : List Break) (more : Bool) → AreFirstBreaks tech boxes most list more → list ≡ []
        → text_of_breaks tech boxes list more ≡ codes "breaks 0\n"
    go [] false first e = empty_text tech boxes
    go [] true first e = absurd (let full = first.full refl in omega (arith, full, some))
    go (x ∷ xs) more first e = absurd (let long = ap length e in omega (arith, long))

  kept_by : (list : List Break) (more : Bool) → AreFirstBreaks tech h.boxes most list more
      → text_of_breaks tech h.boxes list more ≡ codes "breaks 0\n" → KeepRules tech h.boxes
  kept_by [] more first e = none_listed tech h.boxes most more some first
  kept_by (x ∷ xs) more first e =
      let long = longer (length (x ∷ xs)) (line_of_break tech h.boxes x)
      (flat_map (line_of_break tech h.boxes) xs ++ more_line more) (omega (arith, first.few, few))
      (line_there tech h.boxes x) in
      absurd (omega (arith, long, ap length (sym (text_with tech h.boxes x xs more) ∙ e)))

  begun_by : (first : Break) (list : List Break) (more : Bool) → IsFirstBreak tech h.boxes first
      → AreFirstBreaks tech h.boxes most list more → output ≡ text_of_breaks tech h.boxes list more
      → BeginsWith tech text first output
  begun_by first [] more is are written =
      absurd (none_listed tech h.boxes most more some are is.rule first.a first.b is.broken)
  begun_by first (x ∷ xs) more is are written = record {
    boxes = h.boxes;
    are_boxes = h.are_boxes;
    count = length (x ∷ xs);
    rest = flat_map (line_of_break tech h.boxes) xs ++ more_line more;
    written = written ∙ (text_with tech h.boxes x xs more
        ∙ ap (λ (y : Break). count_line (length (x ∷ xs))
        ++ (line_of_break tech h.boxes y
        ++ (flat_map (line_of_break tech h.boxes) xs ++ more_line
        more))) (breaks_same tech h.boxes x first (first_listed tech h.boxes most x xs more are) is));
  }

  pub tells_verdict : TellsVerdict tech text output
  tells_verdict = record {
    kept = (
      λ e. record {
        boxes = h.boxes;
        are_boxes = h.are_boxes;
        keep = kept_by h.list h.more h.first (sym h.written ∙ e);
        written = refl;
      },
      λ v. let boxes : v.boxes ≡ h.boxes = boxes_same text g v.boxes h.boxes v.are_boxes h.are_boxes in
          h.written ∙ none_of h.boxes h.list h.more (subst (KeepRules tech) boxes v.keep) h.first,
    );
    broken = λ first b.
        let boxes : b.boxes ≡ h.boxes = boxes_same text g b.boxes h.boxes b.are_boxes h.are_boxes in
        begun_by first h.list h.more (subst (λ (bs : List MaskBox). IsFirstBreak tech bs first) boxes b.first_break)
        h.first h.written;
  }
