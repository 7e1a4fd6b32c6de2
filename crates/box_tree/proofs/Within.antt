-- What the bounds of a group say of the entries within them.
use Rattle.std.proofs.Common.{◌≡◌, ◌↔◌, ℤ, pos, ◌≤ℤ◌, ◌<ℤ◌, Option, Some, None, Bool, true, false, IsTrue, IsFalse, ℕ}
use Rattle.std.proofs.{Common.{eqb, refl, sym, subst, w64, arith, ◌⊎◌, inl, inr}, lemmas.{Bool.Decides.nat_tests, Int.{ints, clamps}}}
use Rattle.std.{proofs.lemmas.Int.to_z-of_z, specs.{Prelude.not, Int.int_max}}
use Rattle.lam_geom.specs.declared.boxes.{BoxXY.BoxXY, Span.Span}
use Rattle.lam_geom.specs.Gaps.{gap_of, gap_of_boxes, Overlaps, Encloses, EnclosesSpan}
use Rattle.box_tree.specs.declared.query.Question.{Question, TheVariants.{NearOfOther, NearOfOtherTag, NearApart}}
use Rattle.box_tree.specs.declared.{query.Question.TheVariants.{Covers, NearShort, NearOutside}, entries.Ends.Ends}
use Rattle.box_tree.specs.{declared.entries.{Inner.Inner, Entry.Entry}, Queries.{IsNear, IsFar, Answers, IsMargin}}
use Rattle.box_tree.specs.{Queries.reach_of, Tree.{Reaches, ReachesBoth}}
use mir.Val.{to_z, of_z, SFits}

-- a margin that is passed on stays as it is
pub margin_held : (margin : ℤ) → IsMargin margin → to_z w64 (of_z w64 margin) ≡ margin
margin_held margin h = let fits : SFits w64 margin = omega (arith, ints, h.0, h.1) in to_z-of_z w64 margin fits

-- ---- near

span_gap : (a outer inner : Span) → EnclosesSpan outer inner (pos 0) → gap_of a outer ≤ℤ gap_of a inner
span_gap a outer inner h = omega (arith, ints, clamps, h.0, h.1)

most : (a b c d : ℤ) → a ≤ℤ c → b ≤ℤ d → int_max a b ≤ℤ int_max c d
most a b c d h k = omega (arith, ints, clamps)

at_most : (a b c : ℤ) → a ≤ℤ b → b ≤ℤ c → a ≤ℤ c
at_most a b c h k = omega (arith, ints)

-- the gap to an enclosing area is at most the gap to what it encloses
gap_to_outer : (a outer own : BoxXY) → Encloses outer own (pos 0) → gap_of_boxes a outer ≤ℤ gap_of_boxes a own
gap_to_outer a outer own h =
    let x = span_gap a.x outer.x own.x h.0 in let y =
    span_gap a.y outer.y own.y h.1 in most (gap_of a.x outer.x) (gap_of a.y outer.y) (gap_of a.x own.x)
    (gap_of a.y own.y) x y

near_asked : (question : Question) (area : BoxXY) (entry : Entry) (reach : ℤ) → reach_of question ≡ Some reach
    → Answers question area entry → IsNear area reach entry.area
near_asked (NearOfOther r owner) area entry reach e h = let same : r ≡ reach =
    cc in at_most _ r reach h.0 (omega (arith, ints))
near_asked (NearOfOtherTag r owner tag) area entry reach e h = let same : r ≡ reach =
    cc in at_most _ r reach h.0 (omega (arith, ints))
near_asked (NearApart r) area entry reach e h = let same : r ≡ reach = cc in at_most _ r reach h.0 (omega (arith, ints))
near_asked (Covers margin) area entry reach e h = let no : ⊥ = cc in absurd no
near_asked (NearShort r margin) area entry reach e h = let same : r ≡ reach =
    cc in at_most _ r reach h.0 (omega (arith, ints))
near_asked (NearOutside r margin) area entry reach e h = let same : r ≡ reach =
    cc in at_most _ r reach h.0 (omega (arith, ints))

-- in an area that is too far no entry is near
pub too_far : (question : Question) (area outer : BoxXY) (entry : Entry) (asked : Option ℤ)
    → asked ≡ reach_of question → IsFar area asked outer → Encloses outer entry.area (pos 0)
    → Answers question area entry → ⊥
too_far question area outer entry None is far h k = far
too_far question area outer entry (Some reach) is far h k =
    far (at_most (gap_of_boxes area outer) (gap_of_boxes area entry.area) reach (gap_to_outer area outer entry.area h)
    (near_asked question area entry reach (sym is) k))

pub encloses_itself : (area : BoxXY) → Encloses area area (pos 0)
encloses_itself area = omega (arith, ints)

within_or_past : (gap reach : ℤ) → (gap ≤ℤ reach) ⊎ (reach <ℤ gap)
within_or_past gap reach = grind (arith, ints)

not_far : (gap reach : ℤ) → ((gap ≤ℤ reach → ⊥) → ⊥) → gap ≤ℤ reach
not_far gap reach h = elim (within_or_past gap reach) [
  | inl near ↦ near
  | inr past ↦ absurd (h (λ near. omega (arith, ints, near, past)))
]

-- what is not too far is near
pub near_of : (question : Question) (area other : BoxXY) (reach : ℤ) → reach_of question ≡ Some reach
    → (IsFar area (reach_of question) other → ⊥) → IsNear area reach other
near_of question area other reach is h =
    let F : Option ℤ → Type 0 = λ asked. IsFar area asked other → ⊥ in
    not_far (gap_of_boxes area other) reach (subst F is h)

-- ---- margins

span_past : (outer own inner : Span) (margin : ℤ) → EnclosesSpan outer own (pos 0) → EnclosesSpan own inner margin
    → EnclosesSpan outer inner margin
span_past outer own inner margin h k = (omega (arith, ints, h.0, k.0), omega (arith, ints, h.1, k.1))

-- what encloses an area that goes past another goes past that
pub encloses_past : (outer own inner : BoxXY) (margin : ℤ) → Encloses outer own (pos 0) → Encloses own inner margin
    → Encloses outer inner margin
encloses_past outer own inner margin h k =
    (span_past outer.x own.x inner.x margin h.0 k.0, span_past outer.y own.y inner.y margin h.1 k.1)

span_inside : (area outer own : Span) (margin : ℤ) → EnclosesSpan area outer margin → EnclosesSpan outer own (pos 0)
    → EnclosesSpan area own margin
span_inside area outer own margin h k = (omega (arith, ints, h.0, k.0), omega (arith, ints, h.1, k.1))

-- what goes past an area goes past all that it encloses
pub inside_past : (area outer own : BoxXY) (margin : ℤ) → Encloses area outer margin → Encloses outer own (pos 0)
    → Encloses area own margin
inside_past area outer own margin h k =
    (span_inside area.x outer.x own.x margin h.0 k.0, span_inside area.y outer.y own.y margin h.1 k.1)

-- ---- ends

pub meets : (ends : Ends) (span own : Span) → ends.lo <ℤ span.hi → span.lo <ℤ ends.hi → Reaches ends own
    → gap_of span own <ℤ pos 0
meets ends span own h k r = omega (arith, ints, clamps, r.0, r.1)

both_less : (a b : ℤ) → a <ℤ pos 0 → b <ℤ pos 0 → int_max a b <ℤ pos 0
both_less a b h k = omega (arith, ints, clamps)

pub overlap_both : (area own : BoxXY) → gap_of area.x own.x <ℤ pos 0 → gap_of area.y own.y <ℤ pos 0 → Overlaps area own
overlap_both area own h k = both_less (gap_of area.x own.x) (gap_of area.y own.y) h k

-- ---- what is asked of an entry, by tests

pub covers_asked : (question : Question) (area : BoxXY) (entry : Entry) (margin held : ℤ) (r : Bool)
    → question ≡ Covers margin → held ≡ margin → IsTrue r ↔ Encloses entry.area area held
    → IsTrue r ↔ Answers question area entry
covers_asked question area entry margin held r is same h =
    subst (λ (q : Question). IsTrue r ↔ Answers q area entry) (sym is)
    (subst (λ (m : ℤ). IsTrue r ↔ Encloses entry.area area m) same h)

-- near, and no more than that
near_but : (N E : Type 0) (r : Bool) → N → IsTrue r ↔ E → IsTrue (not r) ↔ (N × (E → ⊥))
near_but N E true near h = (λ t. let no : ⊥ = cc in absurd no, λ k. absurd (k.1 (h.0 refl)))
near_but N E false near h = (λ _. (near, λ e. let t : false ≡ true = h.1 e in cc), λ _. refl)

same_number : (a b : ℕ) → IsTrue (eqb a b) ↔ (a ≡ b)
same_number a b = (λ t. grind (arith, nat_tests), λ e. grind (arith, nat_tests))

pub other_asked : (question : Question) (area : BoxXY) (entry : Entry) (reach : ℤ) (owner : ℕ)
    → question ≡ NearOfOther reach owner → IsNear area reach entry.area
    → IsTrue (not (eqb entry.owner owner)) ↔ Answers question area entry
other_asked question area entry reach owner is near =
    subst (λ (q : Question). IsTrue (not (eqb entry.owner owner)) ↔ Answers q area entry) (sym is)
    (near_but (IsNear area reach entry.area) (entry.owner ≡ owner) (eqb entry.owner owner) near
    (same_number entry.owner owner))

pub apart_asked : (question : Question) (area : BoxXY) (entry : Entry) (reach : ℤ) (r : Bool)
    → question ≡ NearApart reach → IsNear area reach entry.area → IsTrue r ↔ Overlaps area entry.area
    → IsTrue (not r) ↔ Answers question area entry
apart_asked question area entry reach r is near h =
    subst (λ (q : Question). IsTrue (not r) ↔ Answers q area entry) (sym is)
    (near_but (IsNear area reach entry.area) (Overlaps area entry.area) r near h)

pub short_asked : (question : Question) (area : BoxXY) (entry : Entry) (reach margin held : ℤ) (r : Bool)
    → question ≡ NearShort reach margin → held ≡ margin → IsNear area reach entry.area
    → IsTrue r ↔ Encloses entry.area area held
    → IsTrue (not r) ↔ Answers question area entry
short_asked question area entry reach margin held r is same near h =
    subst (λ (q : Question). IsTrue (not r) ↔ Answers q area entry) (sym is)
    (near_but (IsNear area reach entry.area) (Encloses entry.area area margin) r near
    (subst (λ (m : ℤ). IsTrue r ↔ Encloses entry.area area m) same h))

pub outside_asked : (question : Question) (area : BoxXY) (entry : Entry) (reach margin held : ℤ) (r : Bool)
    → question ≡ NearOutside reach margin → held ≡ margin → IsNear area reach entry.area
    → IsTrue r ↔ Encloses area entry.area held
    → IsTrue (not r) ↔ Answers question area entry
outside_asked question area entry reach margin held r is same near h =
    subst (λ (q : Question). IsTrue (not r) ↔ Answers q area entry) (sym is)
    (near_but (IsNear area reach entry.area) (Encloses area entry.area margin) r near
    (subst (λ (m : ℤ). IsTrue r ↔ Encloses area entry.area m) same h))

-- ---- what no entry of a group holds, by its bounds

not_true : (r : Bool) → IsFalse r → IsTrue r → ⊥
not_true true f t = cc
not_true false f t = cc

was_true : (r : Bool) → IsFalse (not r) → IsTrue r
was_true true f = refl
was_true false f = absurd cc

pub none_covers : (question : Question) (area outer : BoxXY) (entry : Entry) (margin held : ℤ) (r : Bool)
    → question ≡ Covers margin → held ≡ margin → IsTrue r ↔ Encloses outer area held
    → Encloses outer entry.area (pos 0)
    → IsFalse r → Answers question area entry → ⊥
none_covers question area outer entry margin held r is same h within f holds =
    let asked : Encloses entry.area area margin = subst (λ (q : Question). Answers q area entry) is holds in
    not_true r f
    (h.1 (subst (Encloses outer area) (sym same) (encloses_past outer entry.area area margin within asked)))

pub none_short : (question : Question) (area : BoxXY) (inner : Inner) (entry : Entry) (reach margin held : ℤ)
    (r : Bool) → question ≡ NearShort reach margin → held ≡ margin
    → (IsTrue r → (own : BoxXY) → ReachesBoth inner own → Encloses own area held) → ReachesBoth inner entry.area
    → IsFalse (not r) → Answers question area entry → ⊥
none_short question area inner entry reach margin held r is same h within f holds =
    let asked = subst (λ (q : Question). Answers q area entry) is holds in
    asked.1 (subst (Encloses entry.area area) same (h (was_true r f) entry.area within))

pub none_outside : (question : Question) (area outer : BoxXY) (entry : Entry) (reach margin held : ℤ) (r : Bool)
    → question ≡ NearOutside reach margin → held ≡ margin → IsTrue r ↔ Encloses area outer held
    → Encloses outer entry.area (pos 0)
    → IsFalse (not r) → Answers question area entry → ⊥
none_outside question area outer entry reach margin held r is same h within f holds =
    let asked = subst (λ (q : Question). Answers q area entry) is holds in
    asked.1 (inside_past area outer entry.area margin (subst (Encloses area outer) same (h.0 (was_true r f))) within)
