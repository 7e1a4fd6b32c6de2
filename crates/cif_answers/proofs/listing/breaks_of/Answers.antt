use Rattle.std.proofs.Common.{◌≡◌, ℕ, ◌<◌, Bool, All, List, length, get_or, sym, ◌∙◌, subst, arith}
use Rattle.lam_geom.specs.declared.boxes.MaskBox.{MaskBox}
use Rattle.rule_table.specs.declared.technology.Tech.{Tech}
use Rattle.rule_breaks.specs.{declared.rule.Break.Break, Lists.AreFirstBreaks}
use Rattle.flat_check.proofs.Among.{boxes_of_break}
use Rattle.cif_answers.proofs.listing.breaks_of.Goals as goal

abbrev AreAmong : List MaskBox → List Break → Type 0
AreAmong boxes list = All (λ (x : Break). (x.a < length boxes) × (x.b < length boxes)) list

among_boxes : (tech : Tech) (boxes others : List MaskBox) (most : ℕ) (list shown : List Break) (more : Bool)
    → AreFirstBreaks tech boxes most list more → shown ≡ list → boxes ≡ others → AreAmong others shown
among_boxes tech boxes others most list shown more h is same =
    subst (λ (bs : List MaskBox). AreAmong bs shown) same (subst (AreAmong boxes) (sym is) each) where
      each : AreAmong boxes list
      each k d lt =
          let x = h.each k d lt in
          let two = boxes_of_break tech boxes x.rule (get_or list k d).a (get_or list k d).b x.broken in
          (omega (arith, two.0, two.1), two.1)

pub text_of_breaks-requires-clause-among : goal.text_of_breaks-requires-clause-among
text_of_breaks-requires-clause-among g c =
    among_boxes c.args.tech.now c.deref.result.now c.deref-2.result.now c.args.most c.in_ok-found.found.list
    c.as_slice.result.now c.in_ok-found.found.more c.in_ok-found.ensures c.as_slice.ensures
    (c.deref.ensures.value ∙ sym c.deref-2.ensures.value)
