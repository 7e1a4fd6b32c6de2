-- A text has one netlist, one verdict and one list of breaks, or one cause why it has none.
use Rattle.std.proofs.Common.{◌≡◌, ℕ, ◌^◌, ◌<◌, ◌≤◌, ◌⊎◌, Bool, List, length, inl, inr, refl, sym, subst, ap, ◌∙◌}
use Rattle.std.proofs.{Common.arith, lemmas.List.length-map}
use Rattle.lam_geom.specs.declared.boxes.MaskBox.{MaskBox}
use Rattle.rule_table.specs.declared.technology.Tech.{Tech}
use Rattle.cif_read.specs.{declared.fault.CifFault.CifFault, Files.drawn_of, Hierarchies.{Drawn, flattened}}
use Rattle.cif_foreign.specs.Meaning.{IsFirstFault, ForeignReadingsAreDetermined}
use Rattle.crossing_model.specs.Crossings.{AreProper, IsImproper, IsFirstBadPair}
use Rattle.rule_breaks.specs.{declared.rule.{Break.Break, Rule.Rule}, Breaks.{number_of, IsNotAfter, IsFirstBreak}}
use Rattle.rule_breaks.specs.Lists.{AreFirstBreaks}
use Rattle.cif_answers.{proofs.{OneList.one_list, SameBoxes.same_boxes}, specs.declared.fault.TextFault.TextFault}
use Rattle.cif_answers.specs.declared.fault.TextFault.TheVariants.{Cif, TooMany, NotProper, Broken, OutOfMemory}
use Rattle.cif_answers.specs.Texts.{HasBoxes, HasTooManyBoxes, HasBreaks, HasNetlist, HasVerdict, RefusesBreaks}
use Rattle.cif_answers.specs.{Texts.{RefusesNetlist, RefusesVerdict, AnswersAreDetermined}, BreakLines.text_of_breaks}
use Rattle.net_model.{specs.{Extraction.IsExtracted, Laws.IsExtractionDetermined}, proofs.SameExtracted.extracted_same}
use Rattle.net_list.specs.Lines.{text_of_netlist}

-- ---- boxes

-- a text whose readings are determined
pub record Premises (text : List ℕ) : Type 0 where
  pub short : length text ≤ 2 ^ 26
  pub readings : ForeignReadingsAreDetermined

pub boxes_same : (text : List ℕ) → Premises text → (a b : List MaskBox) → HasBoxes text a → HasBoxes text b → a ≡ b
boxes_same text g a b h k =
    let hierarchy : h.hierarchy ≡ k.hierarchy =
    g.readings.one_hierarchy text h.hierarchy k.hierarchy g.short h.means k.means in
    same_boxes a b (h.drawn ∙ (ap flattened hierarchy ∙ sym k.drawn))

not_too_many : (text : List ℕ) → Premises text → (boxes : List MaskBox) → HasBoxes text boxes → HasTooManyBoxes text → ⊥
not_too_many text g boxes h k =
    let hierarchy : h.hierarchy ≡ k.hierarchy =
    g.readings.one_hierarchy text h.hierarchy k.hierarchy g.short h.means k.means in
    let few = h.few in
    let many = k.many in
    omega (
      arith,
      few,
      many,
      length-map boxes drawn_of,
      ap (λ (ds : List Drawn). length ds)
          (h.drawn ∙ ap flattened hierarchy),
    )

-- ---- causes

-- A text has no meaning, or too many boxes, or its boxes have a fault of their own.
data IsRefused (HasFault : List MaskBox → TextFault → Type 0) (text : List ℕ) (fault : TextFault) : Type 0 where
  unread : (f : CifFault) → IsFirstFault text f → fault ≡ Cif f → IsRefused HasFault text fault
  many : HasTooManyBoxes text → fault ≡ TooMany → IsRefused HasFault text fault
  faulty : (boxes : List MaskBox) → HasBoxes text boxes → HasFault boxes fault → IsRefused HasFault text fault

-- boxes have one fault of their own at most
abbrev HaveOneFault : (List MaskBox → TextFault → Type 0) → Type 0
HaveOneFault HasFault = (boxes : List MaskBox) (a b : TextFault) → HasFault boxes a → HasFault boxes b → a ≡ b

refused_once : (HasFault : List MaskBox → TextFault → Type 0) → HaveOneFault HasFault → (text : List ℕ)
    → Premises text → (a b : TextFault) → IsRefused HasFault text a → IsRefused HasFault text b → a ≡ b
refused_once HasFault one text g a b (unread f h e) (unread k i d) = e
    ∙ (ap (λ (fault : CifFault). Cif fault) (g.readings.one_fault text f k g.short h i) ∙ sym d)
refused_once HasFault one text g a b (unread f h e) (many k d) =
    absurd (g.readings.not_both text k.hierarchy f g.short k.means h)
refused_once HasFault one text g a b (unread f h e) (faulty boxes k d) =
    absurd (g.readings.not_both text k.hierarchy f g.short k.means h)
refused_once HasFault one text g a b (many h e) (unread f k d) =
    absurd (g.readings.not_both text h.hierarchy f g.short h.means k)
refused_once HasFault one text g a b (many h e) (many k d) = e ∙ sym d
refused_once HasFault one text g a b (many h e) (faulty boxes k d) = absurd (not_too_many text g boxes k h)
refused_once HasFault one text g a b (faulty boxes h e) (unread f k d) =
    absurd (g.readings.not_both text h.hierarchy f g.short h.means k)
refused_once HasFault one text g a b (faulty boxes h e) (many k d) = absurd (not_too_many text g boxes h k)
refused_once HasFault one text g a b (faulty boxes h e) (faulty others k d) =
    one boxes a b e (subst (λ (bs : List MaskBox). HasFault bs b) (boxes_same text g others boxes k h) d)

-- what has no fault is not refused
not_refused : (HasFault : List MaskBox → TextFault → Type 0) (text : List ℕ) → Premises text → (boxes : List MaskBox)
    → HasBoxes text boxes → ((fault : TextFault) → HasFault boxes fault → ⊥)
    → (fault : TextFault) → IsRefused HasFault text fault → ⊥
not_refused HasFault text g boxes h none fault (unread f k e) = g.readings.not_both text h.hierarchy f g.short h.means k
not_refused HasFault text g boxes h none fault (many k e) = not_too_many text g boxes h k
not_refused HasFault text g boxes h none fault (faulty others k d) =
    none fault (subst (λ (bs : List MaskBox). HasFault bs fault) (boxes_same text g others boxes k h) d)

abbrev IsNamed : TextFault → Type 0
IsNamed fault = fault ≡ OutOfMemory → ⊥

-- ---- netlists

record HasBadPair (tech : Tech) (boxes : List MaskBox) (fault : TextFault) : Type 0 where
  a : ℕ
  b : ℕ
  pair : IsFirstBadPair tech boxes a b
  is : fault ≡ NotProper a b

pairs_same : (tech : Tech) (boxes : List MaskBox) (a b c d : ℕ) → IsFirstBadPair tech boxes a b
    → IsFirstBadPair tech boxes c d → (a ≡ c) × (b ≡ d)
pairs_same tech boxes a b c d h k = go (h.first c d k.bad) (k.first a b h.bad) where
  go : (a < c) ⊎ ((a ≡ c) × (b ≤ d)) → (c < a) ⊎ ((c ≡ a) × (d ≤ b)) → (a ≡ c) × (b ≡ d)
  go (inl less) (inl more) = absurd (omega arith)
  go (inl less) (inr back) = let e = back.0 in absurd (omega (arith, less, e))
  go (inr here) (inl more) = let e = here.0 in absurd (omega (arith, more, e))
  go (inr here) (inr back) = let le = here.1 in let ge = back.1 in (here.0, omega (arith, le, ge))

one_pair : (tech : Tech) → HaveOneFault (HasBadPair tech)
one_pair tech boxes x y h k =
    let same = pairs_same tech boxes h.a h.b k.a k.b h.pair k.pair in
    h.is ∙ (ap (λ (n : ℕ). NotProper n h.b) same.0 ∙ (ap (λ (n : ℕ). NotProper k.a n) same.1 ∙ sym k.is))

proper_has_none : (tech : Tech) (boxes : List MaskBox) → AreProper tech boxes → (fault : TextFault)
    → HasBadPair tech boxes fault → ⊥
proper_has_none tech boxes proper fault h = go h.pair.bad.1 where
  go : IsImproper tech boxes h.a h.b ⊎ IsImproper tech boxes h.b h.a → ⊥
  go (inl bad) = bad.improper (proper h.a h.b bad.meeting)
  go (inr bad) = bad.improper (proper h.b h.a bad.meeting)

netlist_refused : (tech : Tech) (text : List ℕ) (fault : TextFault) → IsNamed fault → RefusesNetlist tech text fault
    → IsRefused (HasBadPair tech) text fault
netlist_refused tech text (Cif f) named h = unread f h refl
netlist_refused tech text TooMany named h = many h refl
netlist_refused tech text (NotProper a b) named h =
    faulty h.boxes h.are_boxes (record { a = a; b = b; pair = h.pair; is = refl })
netlist_refused tech text (Broken first) named h = absurd h
netlist_refused tech text OutOfMemory named h = absurd (named refl)

-- a text whose boxes cross properly has a netlist
pub proper_not_refused : (tech : Tech) (text : List ℕ) → length text ≤ 2 ^ 26 → ForeignReadingsAreDetermined
    → (boxes : List MaskBox) → HasBoxes text boxes → AreProper tech boxes
    → (fault : TextFault) → IsNamed fault → RefusesNetlist tech text fault → ⊥
proper_not_refused tech text short readings boxes h proper fault named k =
    not_refused (HasBadPair tech) text (record { short = short; readings = readings }) boxes h
    (proper_has_none tech boxes proper) fault (netlist_refused tech text fault named k)

one_netlist : (tech : Tech) (text : List ℕ) → Premises text → IsExtractionDetermined → (a b : List ℕ)
    → HasNetlist tech text a → HasNetlist tech text b → a ≡ b
one_netlist tech text g extraction a b h k =
    let boxes : k.boxes ≡ h.boxes = boxes_same text g k.boxes h.boxes k.are_boxes h.are_boxes in
    let list : h.list ≡ k.list =
    extracted_same tech h.boxes extraction h.list k.list h.extracted
    (subst (λ (bs : List MaskBox). IsExtracted tech bs k.list) boxes k.extracted) in
    h.written
    ∙ (ap (text_of_netlist h.boxes) list
    ∙ (ap (λ (bs : List MaskBox). text_of_netlist bs k.list) (sym boxes) ∙ sym k.written))

pub netlists : (tech : Tech) (text : List ℕ) → length text ≤ 2 ^ 26 → ForeignReadingsAreDetermined
    → IsExtractionDetermined → AnswersAreDetermined HasNetlist RefusesNetlist tech text
netlists tech text short readings extraction =
    let g : Premises text = record { short = short; readings = readings } in
    record {
      one_output = one_netlist tech text g extraction;
      one_cause = λ a b na nb h k. refused_once (HasBadPair tech) (one_pair tech) text g a b
          (netlist_refused tech text a na h) (netlist_refused tech text b nb k);
      not_both = λ output fault named h k.
          not_refused (HasBadPair tech) text g h.boxes h.are_boxes (proper_has_none tech h.boxes h.extracted.proper)
          fault (netlist_refused tech text fault named k);
    }

-- ---- verdicts

record HasBreak (tech : Tech) (boxes : List MaskBox) (fault : TextFault) : Type 0 where
  first : Break
  is_first : IsFirstBreak tech boxes first
  is : fault ≡ Broken first

-- neither of two is after the other
ends_same : (first second : Break) (rule other : Rule) → first.rule ≡ number_of rule → second.rule ≡ number_of other
    → IsNotAfter first other second.a second.b → IsNotAfter second rule first.a first.b
    → (first.rule ≡ second.rule) × (first.a ≡ second.a) × (first.b ≡ second.b)
ends_same first second rule other is at (inl less) (inl more) = absurd (omega (arith, is, at, less, more))
ends_same first second rule other is at (inl less) (inr back) = let e =
    back.0 in absurd (omega (arith, is, at, less, e))
ends_same first second rule other is at (inr here) (inl more) = let e =
    here.0 in absurd (omega (arith, is, at, more, e))
ends_same first second rule other is at (inr (e, inl less)) (inr (d, inl more)) = absurd (omega (arith, less, more))
ends_same first second rule other is at (inr (e, inl less)) (inr (d, inr back)) = let same =
    back.0 in absurd (omega (arith, less, same))
ends_same first second rule other is at (inr (e, inr here)) (inr (d, inl more)) = let same =
    here.0 in absurd (omega (arith, more, same))
ends_same first second rule other is at (inr (e, inr here)) (inr (d, inr back)) = let le = here.1 in let ge =
    back.1 in (e ∙ sym at, here.0, omega (arith, le, ge))

pub breaks_same : (tech : Tech) (boxes : List MaskBox) (first second : Break) → IsFirstBreak tech boxes first
    → IsFirstBreak tech boxes second → first ≡ second
breaks_same tech boxes first second h k =
    let same = ends_same first second h.rule k.rule h.numbered k.numbered (h.least k.rule second.a second.b k.broken)
    (k.least h.rule first.a first.b h.broken) in
    ap (λ (n : ℕ). record { rule = n; a = first.a; b = first.b }) same.0
    ∙ (ap (λ (n : ℕ). record { rule = second.rule; a = n; b = first.b }) same.1
    ∙ ap (λ (n : ℕ). record { rule = second.rule; a = second.a; b = n }) same.2)

one_break : (tech : Tech) → HaveOneFault (HasBreak tech)
one_break tech boxes x y h k = h.is
    ∙ (ap (λ (first : Break). Broken first) (breaks_same tech boxes h.first k.first h.is_first k.is_first) ∙ sym k.is)

verdict_refused : (tech : Tech) (text : List ℕ) (fault : TextFault) → IsNamed fault → RefusesVerdict tech text fault
    → IsRefused (HasBreak tech) text fault
verdict_refused tech text (Cif f) named h = unread f h refl
verdict_refused tech text TooMany named h = many h refl
verdict_refused tech text (NotProper a b) named h = absurd h
verdict_refused tech text (Broken first) named h =
    faulty h.boxes h.are_boxes (record { first = first; is_first = h.first_break; is = refl })
verdict_refused tech text OutOfMemory named h = absurd (named refl)

pub verdicts : (tech : Tech) (text : List ℕ) → length text ≤ 2 ^ 26 → ForeignReadingsAreDetermined
    → AnswersAreDetermined HasVerdict RefusesVerdict tech text
verdicts tech text short readings =
    let g : Premises text = record { short = short; readings = readings } in
    record {
      one_output = λ a b h k. h.written ∙ sym k.written;
      one_cause = λ a b na nb h k. refused_once (HasBreak tech) (one_break tech) text g a b
          (verdict_refused tech text a na h) (verdict_refused tech text b nb k);
      not_both = λ output fault named h k.
          not_refused (HasBreak tech) text g h.boxes h.are_boxes
          (λ fault broken. h.keep broken.is_first.rule broken.first.a broken.first.b broken.is_first.broken) fault
          (verdict_refused tech text fault named k);
    }

-- ---- lists of breaks

breaks_refused : (tech : Tech) (text : List ℕ) (fault : TextFault) → IsNamed fault → RefusesBreaks tech text fault
    → IsRefused (λ boxes fault. ⊥) text fault
breaks_refused tech text (Cif f) named h = unread f h refl
breaks_refused tech text TooMany named h = many h refl
breaks_refused tech text (NotProper a b) named h = absurd h
breaks_refused tech text (Broken first) named h = absurd h
breaks_refused tech text OutOfMemory named h = absurd (named refl)

one_text : (tech : Tech) (most : ℕ) (text : List ℕ) → Premises text → (a b : List ℕ) → HasBreaks tech most text a
    → HasBreaks tech most text b → a ≡ b
one_text tech most text g a b h k =
    let boxes : k.boxes ≡ h.boxes = boxes_same text g k.boxes h.boxes k.are_boxes h.are_boxes in
    let same = one_list tech h.boxes most h.list k.list h.more k.more h.first
    (subst (λ (bs : List MaskBox). AreFirstBreaks tech bs most k.list k.more) boxes k.first) in
    h.written ∙ (ap (λ (list : List Break). text_of_breaks tech h.boxes list h.more) same.0
    ∙ (ap (λ (more : Bool). text_of_breaks tech h.boxes k.list more) same.1
    ∙ (ap (λ (bs : List MaskBox). text_of_breaks tech bs k.list k.more) (sym boxes) ∙ sym k.written)))

pub breaks : (tech : Tech) (most : ℕ) (text : List ℕ) → length text ≤ 2 ^ 26 → ForeignReadingsAreDetermined
    → AnswersAreDetermined (λ t. HasBreaks t most) RefusesBreaks tech text
breaks tech most text short readings =
    let g : Premises text = record { short = short; readings = readings } in
    record {
      one_output = one_text tech most text g;
      one_cause = λ a b na nb h k. refused_once (λ boxes fault. ⊥) (λ boxes x y p q. absurd p) text g a b
          (breaks_refused tech text a na h) (breaks_refused tech text b nb k);
      not_both = λ output fault named h k. not_refused (λ boxes fault. ⊥) text g h.boxes h.are_boxes
          (λ fault none. none) fault (breaks_refused tech text fault named k);
    }
