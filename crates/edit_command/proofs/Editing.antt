-- One edit after another.
use Rattle.std.proofs.Common.{◌≡◌, ℕ, suc, ◌+◌, ◌<◌, ◌≤◌, ℤ, Ok, List, [], ◌∷◌, ◌++◌, length, take, get_or, refl, sym}
use Rattle.std.proofs.{Common.{ap, ◌∙◌, subst, arith}, lemmas.List.{append_assoc, append-nil, length-take-le}}
use Rattle.std.proofs.lemmas.{List.{take_more, Concat.flat_map-cons}, Grind.flat_map-append}
use Rattle.std.specs.{Prelude.{codes, flat_map}, Fmt.signed_decimal, List.range_with_len}
use Rattle.design_gen.proofs.Growing.{range_more}
use Rattle.lam_geom.specs.declared.boxes.Axis.{Axis, TheVariants.{X, Y}}
use Rattle.lam_io.specs.Io.{Bytes}
use Rattle.rule_table.specs.declared.technology.Tech.{Tech}
use Rattle.stick_text.specs.declared.design.Design.{Design}
use Rattle.edit_lines.specs.declared.script.EditLine.{EditLine}
use Rattle.limit_edits.{specs.Edits.IsEdited, proofs.Designs.edited_is_determined}
use Rattle.stick_print.specs.Canonical.{canonical}
use Rattle.checked_cells.specs.{CheckedCell.CheckedCell, Grids.resolved_cells}
use Rattle.expand.specs.declared.master.Master.{Master}
use Rattle.plan_model.specs.declared.plan.Plan.{Plan}
use Rattle.pitch_join.specs.Masters.{master_at, master_numbers}
use Rattle.sym_items.specs.{declared.items.Coords.Coords, Layouts.size_in}
use Rattle.edit_command.specs.{declared.edit.Stepped.Stepped, Edits.{AreAnswered, laid_out, without, IsAnswered}}
use Rattle.edit_command.specs.Edits.{done, no_masks, Changes, IsStep, AreSteps, IsNextStep, size_word, step_line}
use Rattle.design_layouts.proofs.Stopping.{no_masks as after_masters}
use Rattle.command_files.specs.Limits.{most_design_bytes}
use Rattle.design_masters.specs.Plans.{AreMastersOf}

-- ---- a word

-- one master more
pub words_more : (f : ℕ → Bytes) (m : ℕ) (head : Bytes)
    → (head ++ flat_map f (range_with_len 0 m)) ++ f m ≡ head ++ flat_map f (range_with_len 0 (m + 1))
words_more f m head =
    let last : flat_map f (range_with_len 0 (m + 1)) ≡ flat_map f (range_with_len 0 m) ++ f m =
    ap (λ (ks : List ℕ). flat_map f ks) (range_more m)
    ∙ (flat_map-append f (range_with_len 0 m) (m ∷ [])
    ∙ ap (λ (z : Bytes). flat_map f (range_with_len 0 m) ++ z) (flat_map-cons f m [] ∙ append-nil (f m))) in
    append_assoc head (flat_map f (range_with_len 0 m)) (f m) ∙ ap (λ (z : Bytes). head ++ z) (sym last)

pub size_more : (masters : List Master) (layouts : List Coords) (m : ℕ) (head old new : Bytes) (one : Master)
    (name : Bytes) (w h : ℤ) → one ≡ master_at masters m → name ≡ one.cell.name
    → w ≡ size_in X layouts m → h ≡ size_in Y layouts m
    → old ≡ head ++ flat_map (size_word masters layouts) (range_with_len 0 m)
    → new ≡ old ++ (codes " " ++ (name ++ (codes " " ++ (signed_decimal w ++ (codes " " ++ signed_decimal h)))))
    → new ≡ head ++ flat_map (size_word masters layouts) (range_with_len 0 (m + 1))
size_more masters layouts m head old new one name w h is named wide high before e =
    let N : Bytes → ℤ → ℤ → Bytes =
    λ n a b. codes " " ++ (n ++ (codes " " ++ (signed_decimal a ++ (codes " " ++ signed_decimal b)))) in
    let message : N name w h ≡ size_word masters layouts m =
    ap (λ (n : Bytes). N n w h) (named ∙ ap (λ (z : Master). z.cell.name) is)
    ∙ (ap (λ (a : ℤ). N (master_at masters m).cell.name a h) wide
    ∙ ap (λ (b : ℤ). N (master_at masters m).cell.name (size_in X layouts m) b) high) in
    e ∙ (ap (λ (z : Bytes). z ++ N name w h) before
    ∙ (ap (λ (z : Bytes). (head ++ flat_map (size_word masters layouts) (range_with_len 0 m)) ++ z) message
    ∙ words_more (size_word masters layouts) m head))

pub size_all : (masters : List Master) (layouts : List Coords) (m : ℕ) (head word : Bytes) → m ≡ length masters
    → word ≡ head ++ flat_map (size_word masters layouts) (range_with_len 0 m)
    → word ≡ head ++ flat_map (size_word masters layouts) (master_numbers masters)
size_all masters layouts m head word all is = is
    ∙ ap (λ (k : ℕ). head ++ flat_map (size_word masters layouts) (range_with_len 0 k)) all

-- ---- one line

-- what is no edit changes nothing
pub not_edited : (tech : Tech) (design : Design) (numbers : List ℕ) (line : EditLine)
    → ((new : Design) → IsEdited design numbers line new → ⊥) → (new : Design) → Changes tech design numbers line new
    → ⊥
not_edited tech design numbers line none new change = none new change.edited

-- nor does an edit whose design has a fault
pub at_fault : (tech : Tech) (design new : Design) (numbers : List ℕ) (line : EditLine)
    → IsEdited design numbers line new → ((cells : List CheckedCell) × (resolved_cells tech new ≡ Ok cells) → ⊥)
    → (other : Design) → Changes tech design numbers line other → ⊥
at_fault tech design new numbers line is none other change =
    let same : other ≡ new = edited_is_determined design numbers line other new change.edited is in
    none (change.cells, ap (λ (d : Design). resolved_cells tech d) (sym same) ∙ change.resolved)

-- what its masters come to is what a design does
pub answered_by : (tech : Tech) (axes : List Axis) (design : Design) (plan : Plan) (masters : List Master)
    (word : Bytes) → length (canonical design) ≤ most_design_bytes
    → AreMastersOf tech design plan masters → AreAnswered tech plan masters axes word → IsAnswered tech axes design word
answered_by tech axes design plan masters word short are (laid_out layouts least e) =
    done short plan masters are layouts least e
answered_by tech axes design plan masters word short are (without status message why has e) =
    no_masks short status message (after_masters tech axes design status message plan masters are why) has e

-- ---- all lines

-- one line after the others
steps_more : (tech : Tech) (axes : List Axis) (numbers : List ℕ) (i : ℕ) (lines : List EditLine) (line : EditLine)
    (design mid last : Design) (output word : Bytes)
    → AreSteps tech axes numbers i lines design mid output → IsStep tech axes numbers line mid last word
    → AreSteps tech axes numbers i (lines ++ line ∷ []) design last (output ++ step_line (i + length lines) word)
steps_more tech axes numbers i [] line design mid last output word none step =
    let here : IsStep tech axes numbers line design last word =
    subst (λ (d : Design). IsStep tech axes numbers line d last word) none.0 step in
    let number : i + 0 ≡ i = omega arith in
    let message : Bytes = step_line i word in (
      last,
      word,
      [],
      here,
      (refl, refl),
      ap (λ (z : Bytes). z ++ step_line (i + 0) word) none.1
          ∙ (ap (λ (k : ℕ). step_line k word) number ∙ sym (append-nil message)),
    )
steps_more tech axes numbers i (first ∷ lines) line design mid last output word (new, its, rest, one, more, e) step =
    let after = steps_more tech axes numbers (suc i) lines line new mid last rest word more step in
    let number : i + length (first ∷ lines) ≡ suc i + length lines = omega arith in (
      new,
      its,
      rest ++ step_line (suc i + length lines) word,
      one,
      after,
      ap (λ (z : Bytes). z ++ step_line (i + length (first ∷ lines)) word) e
          ∙ (append_assoc (step_line i its) rest (step_line (i + length (first ∷ lines)) word)
          ∙ ap (λ (k : ℕ). step_line i its ++ (rest ++ step_line k word)) number),
    )

-- one more of a script
pub steps_next : (tech : Tech) (axes : List Axis) (numbers : List ℕ) (lines : List EditLine) (i : ℕ)
    (d line : EditLine) (design : Design) (old next : Stepped) → i < length lines
    → line ≡ get_or lines i d → AreSteps tech axes numbers 0 (take i lines) design old.design old.text.items
    → IsNextStep tech axes numbers i line old next
    → AreSteps tech axes numbers 0 (take (i + 1) lines) design next.design next.text.items
steps_next tech axes numbers lines i d line design old next lt is before s =
    let count : 0 + length (take i lines) ≡ i = let e =
    length-take-le i lines (omega (arith, lt)) in omega (arith, e) in
    let all = steps_more tech axes numbers 0 (take i lines) line design old.design next.design old.text.items s.word
    before s.step in
    let A : List EditLine → Bytes → Type 0 = λ ls z. AreSteps tech axes numbers 0 ls design next.design z in
    let more : take i lines ++ line ∷ [] ≡ take (i + 1) lines = ap (λ l. take i lines ++ l ∷ []) is
    ∙ sym (take_more lines i d lt) in
    let told : old.text.items ++ step_line (0 + length (take i lines)) s.word ≡ next.text.items =
    ap (λ (k : ℕ). old.text.items ++ step_line k s.word) count ∙ sym s.told in
    subst (λ z. A (take (i + 1) lines) z) told
    (subst (λ ls. A ls (old.text.items ++ step_line (0 + length (take i lines)) s.word)) more all)
