use Rattle.std.{proofs.Common.{◌≡◌, List, [], ◌++◌, ap, ◌∙◌}, specs.List.filter_map}
use Rattle.stick_text.specs.declared.design.Form.{Form}
use Rattle.design_gen.specs.{Draws.points, Made.{wire_at, node_at, forms_of}}
use Rattle.design_gen.proofs.making.forms_of.Goals as goal

joined : (prefix nodes wires now next : List Form) → prefix ≡ [] → now ≡ prefix ++ nodes → next ≡ now ++ wires
    → next ≡ nodes ++ wires
joined prefix nodes wires now next none first second = second ∙ ap (λ xs. xs ++ wires) first
    ∙ ap (λ xs. (xs ++ nodes) ++ wires) none

pub returns : goal.returns
unfolding forms_of
returns c =
    let n = c.args.n in
    joined c.new-forms.result.items (filter_map (node_at n) (points n)) (filter_map (wire_at n) (points n))
    c.push_nodes.new.forms.items c.push_wires.new.forms.items c.new-forms.ensures.items c.in_ok-push_nodes.ensures
    c.in_ok-push_wires.ensures
