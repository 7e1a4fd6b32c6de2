use Rattle.std.proofs.Common.{◌≡◌, ◌+◌, List, ◌∷◌, [], ◌++◌, length, take, Bool, sym, ap, subst, ◌∙◌, arith}
use Rattle.std.proofs.lemmas.List.{take_more, take_all, with_items_is}
use Rattle.stick_text.specs.declared.design.Line.{Line}
use Rattle.jog_insert.{specs.Building.{AreMarked, Marks, marks_in}, proofs.Marking.{marked_before, marked_more}}
use Rattle.jog_insert.proofs.{Marking.first_free, naming.free_number.Goals.{in-Some+in_ok-mark, in_default}}
use Rattle.jog_insert.proofs.naming.free_number.Goals as goal

pub loop-line-preserved : goal.loop-line-preserved
loop-line-preserved c =
    let lines = c.args.lines.now in
    let i = c.loop-line.line-index in
    let line = c.line-item.result in
    let old = c.loop-line.taken.items in
    let now = c.match-name_of.taken.items in
    let more : take (i + 1) lines ≡ take i lines ++ line ∷ [] = take_more lines i line c.loop-line-test.true
    ∙ ap (λ (l : Line). take i lines ++ l ∷ []) (sym c.line-item.is) in
    elim c.match-name_of.branch [
      | in-Some+in_ok-mark w ↦
          let marks : Marks w.in-Some.name.now old w.mark.new.taken =
          subst (λ (l : List Bool). Marks w.in-Some.name.now l w.mark.new.taken) w.deref_mut.ensures.value
          w.in_ok-mark.ensures in
          let same : now ≡ w.mark.new.taken = ap (λ v. v.items) w.taken-is
          ∙ with_items_is c.loop-line.taken w.mark.new.taken
          (omega (arith, marks.size, c.loop-line.taken.ok.0)) in
          let are : AreMarked (take i lines ++ line ∷ []) w.mark.new.taken =
          marked_more (take i lines) line w.in-Some.name.now old w.mark.new.taken w.in-Some.ensures marks
          c.loop-line.invariant.are in
          record {
            size = omega (arith, ap length same, marks.size, c.loop-line.invariant.size);
            are = subst (λ (l : List Line). AreMarked l now) (sym more)
                (subst (AreMarked (take i lines ++ line ∷ [])) (sym same) are);
            few = omega (arith, ap marks_in same, marks.count, c.loop-line.invariant.few);
          }
      | in_default w ↦
          let same : now ≡ old = ap (λ v. v.items) w.taken-is in
          let are : AreMarked (take i lines ++ line ∷ []) old =
          marked_before (take i lines) line old w.in_default.ensures c.loop-line.invariant.are in
          record {
            size = omega (arith, ap length same, c.loop-line.invariant.size);
            are = subst (λ (l : List Line). AreMarked l now) (sym more)
                (subst (AreMarked (take i lines ++ line ∷ [])) (sym same) are);
            few = omega (arith, ap marks_in same, c.loop-line.invariant.few);
          }
    ]

pub returns-clause-number : goal.returns-clause-number
returns-clause-number c =
    let lines = c.args.lines.now in
    let same = c.deref.ensures.value in
    let all : take c.loop-line.line-index lines ≡ lines = take_all c.loop-line.line-index lines (omega arith) in
    let are : AreMarked lines c.deref.result.now =
    subst (AreMarked lines) (sym same)
    (subst (λ (l : List Line). AreMarked l c.loop-line.taken.items) all c.loop-line.invariant.are) in
    first_free lines c.deref.result.now c.first_unmarked.result are c.first_unmarked.ensures.within
    c.first_unmarked.ensures.free c.first_unmarked.ensures.first
