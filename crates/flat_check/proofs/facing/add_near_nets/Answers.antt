use denote.Enum.Bare.{differs_false, differs_true}
use Rattle.std.proofs.Common.{◌≡◌, get_or, sym, ap, ◌∙◌, arith, rules}
use Rattle.lam_geom.specs.{contracts.boxes.MaskLayer.the_type, declared.boxes.MaskBox.MaskBox}
use Rattle.box_tree.proofs.Growth.{gathered_none}
use Rattle.crossing_model.specs.Boxes.{layer_at}
use Rattle.rule_breaks.specs.Reaches.{spacing_of_rule}
use Rattle.flat_check.proofs.Rows.{all_pieces, no_piece_yet, one_piece_more}
use Rattle.flat_check.proofs.facing.add_near_nets.Goals as goal

pub returns-then-ne : goal.returns-then-ne
returns-then-ne c =
    let flat = c.args.flat.now in
    gathered_none _ c.args.found.now.items
    (λ b h. differs_true the_type _ _ (sym c.if-ne.ensures)
    (ap (λ (x : MaskBox). x.layer) c.numbered.ensures.value ∙ h.1.on_first))

pub loop-i-init : goal.loop-i-init
loop-i-init c =
    let flat = c.args.flat.now in (
      omega arith,
      no_piece_yet flat c.args.layer (spacing_of_rule flat.tech.now c.args.rule)
          (get_or c.as_slice-starts.result.now c.args.a 0) c.args.found.now.items,
    )

pub loop-i-preserved : goal.loop-i-preserved
loop-i-preserved c =
    let flat = c.args.flat.now in (
      omega (arith, c.loop-i-test.true),
      one_piece_more flat c.args.layer (spacing_of_rule flat.tech.now c.args.rule)
          (get_or c.as_slice-starts.result.now c.args.a 0) c.loop-i.i c.args.found.now.items c.loop-i.found.items
          c.add_near_pieces.new.found.items
          c.loop-i.auto.i c.loop-i.invariant.1 c.in_ok-add_near_pieces.ensures,
    )

pub returns : goal.returns
returns c =
    let flat = c.args.flat.now in let a = c.args.a in let starts = c.as_slice-starts.result.now in
    let own_on : c.numbered.result.layer ≡ c.args.layer =
    differs_false the_type (search rules) _ _ (sym c.if-ne.ensures) in
    let on : layer_at flat.boxes.now a ≡ c.args.layer = ap (λ (b : MaskBox). b.layer) (sym c.numbered.ensures.value)
    ∙ own_on in
    all_pieces flat c.args.layer (spacing_of_rule flat.tech.now c.args.rule) starts a c.loop-i.i
    c.args.found.now.items c.loop-i.found.items c.requires.flat c.requires.proper c.requires.among on
    c.as_slice-starts.ensures.value
    c.loop-i-test.false c.loop-i.invariant.0 c.loop-i.invariant.1
