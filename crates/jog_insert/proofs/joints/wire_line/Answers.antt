use Rattle.std.proofs.Common.{◌+◌, List, ◌∷◌, ◌++◌, take, drop, sym, ap, ◌∙◌, arith}
use Rattle.std.proofs.lemmas.List.{drop_more, take-append-drop, length-take-le}
use Rattle.stick_text.specs.declared.design.Line.{Line}
use Rattle.jog_insert.proofs.joints.wire_line.Goals as goal

pub returns-then-left-eq0 : goal.returns-then-left-eq0
returns-then-left-eq0 c =
    let lines = c.args.lines.now in
    let at = c.loop-at.at in
    let line = c.index-lines-at.result in
    record {
      prefix = take at lines;
      wire = line;
      back = drop (at + 1) lines;
      split = sym (take-append-drop at lines)
          ∙ ap (λ (l : List Line). take at lines ++ l)
          (drop_more lines at line c.loop-at-test.true
          ∙ ap (λ (l : Line). l ∷ drop (at + 1) lines) (sym c.index-lines-at.is));
      place = length-take-le at lines (omega arith);
      count = omega arith;
      of_wire = c.in-Some.ensures;
    }
