use denote.Enum.Bare.{differs_false, differs_true}
use Rattle.std.proofs.Common.{◌≡◌, sym, ap, ◌∙◌, rules}
use Rattle.lam_geom.specs.{contracts.boxes.MaskLayer.the_type, declared.boxes.MaskBox.MaskBox}
use Rattle.box_tree.proofs.Growth.{gathered_none}
use Rattle.crossing_model.specs.Boxes.{IsOn}
use Rattle.flat_check.proofs.{NearAreas.on_layer, Rows.{query_is, rowed}}
use Rattle.flat_check.proofs.facing.add_beside_box.Goals as goal

pub returns-then-ne : goal.returns-then-ne
returns-then-ne c =
    gathered_none _ c.args.found.now.items (λ b h. differs_true the_type _ _ (sym c.if-ne.ensures)
    (ap (λ (x : MaskBox). x.layer) c.numbered-own.ensures.value ∙ h.0.on))

pub returns : goal.returns
returns c =
    let boxes = c.args.flat.now.boxes.now in let own = c.numbered-own in
    let own_on : own.result.layer ≡ c.args.layer = differs_false the_type (search rules) _ _ (sym c.if-ne.ensures) in
    let on : IsOn boxes c.args.layer c.args.a = on_layer boxes c.args.a own.result c.args.layer c.requires.among
    own.ensures.value own_on in
    rowed c.add_owners.result c.args.tree.now _ _ _ _ _ (query_is _ _ _ _
    (ap (λ (x : MaskBox). x.area) own.ensures.value) c.question-question.ensures.value)
    (λ b. (λ o. (on, o), λ h. h.1)) c.add_owners.ensures
