use Rattle.std.proofs.{Common.{◌≡◌, ◌↔◌, inl, inr, ℤ, ◌<ℤ◌, Bool, false, IsTrue, sym, subst, arith}, lemmas.Int.ints}
use Rattle.lam_geom.specs.Gaps.{gap_of_boxes}
use Rattle.box_tree.specs.declared.{query.Question.{Question, TheVariants.NearOutside}, entries.Group.Group}
use Rattle.box_tree.{specs.Queries.IsQuestion, proofs.Within.margin_held}
use Rattle.flat_check.specs.Clear.{AllPass, LieApart}
use Rattle.flat_check.proofs.pairs.lie_apart.Goals as goal

-- a test of both axes, where the groups lie near enough
outside : (group other : Group) (question : Question) (reach near margin held : ℤ) (r : Bool)
    → question ≡ NearOutside near margin → held ≡ margin → (reach <ℤ gap_of_boxes group.outer other.outer → ⊥)
    → IsTrue r ↔ (AllPass group.inner.x other.outer.x held × AllPass group.inner.y other.outer.y held)
    → IsTrue r ↔ LieApart group other question reach
outside group other question reach near margin held r is same close test =
    subst (λ (q : Question). IsTrue r ↔ LieApart group other q reach) (sym is) (
    subst (λ (m : ℤ). IsTrue r ↔ LieApart group other (NearOutside near m) reach) same
    (λ t. inr (test.0 t), λ h. elim h [ inl far ↦ absurd (close far) | inr both ↦ test.1 both ]))

pub returns-then-all_pass : goal.returns-then-all_pass
returns-then-all_pass c =
    let near = c.in-NearOutside in
    let held = margin_held near.margin (subst IsQuestion near.is c.requires.question) in
    outside c.args.group.now c.args.other.now c.args.question c.args.reach near.reach near.margin _ _ near.is held
    (λ far. omega (arith, ints, far, c.gap_box.ensures, c.if-gap_box-reach.false, c.ranges.reach)) (
      λ t. (c.all_pass.ensures.0 c.if-all_pass.true, c.all_pass-then-all_pass.ensures.0 t),
      λ both. c.all_pass-then-all_pass.ensures.1 both.1,
    )

pub returns-else-all_pass : goal.returns-else-all_pass
returns-else-all_pass c =
    let near = c.in-NearOutside in
    let held = margin_held near.margin (subst IsQuestion near.is c.requires.question) in
    outside c.args.group.now c.args.other.now c.args.question c.args.reach near.reach near.margin _ _ near.is held
    (λ far. omega (arith, ints, far, c.gap_box.ensures, c.if-gap_box-reach.false, c.ranges.reach))
    (λ t. let f : c.all_pass.result ≡ false = c.if-all_pass.false in absurd cc, λ both. c.all_pass.ensures.1 both.0)
