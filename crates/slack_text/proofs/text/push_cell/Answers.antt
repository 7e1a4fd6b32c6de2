use Rattle.std.proofs.{Common.{◌≡◌, ◌+◌, ◌++◌, List, length, ap, ◌∙◌}, lemmas.Result.on_ok_weaker}
use Rattle.std.specs.{Prelude.drop, List.{flat_map, range_with_len}}
use Rattle.cons_graph.specs.Solutions.{value_of}
use Rattle.cell_model.specs.declared.cell.Node.{Node}
use Rattle.pitch_join.specs.Names.{cross_name, own_names}
use Rattle.slack_text.{specs.Slack.{size_line, slack_lines}, proofs.{Adding.place_back, Cells.cell_added}}
use Rattle.slack_text.proofs.text.push_cell.Goals as goal

pub returns-clause-text : goal.returns-clause-text
returns-clause-text c =
    let axis = c.args.axis in
    let cell = c.args.cell.now in
    let far = c.args.far in
    let least = c.args.least.now in
    let most = c.args.most.now in
    let start = c.args.text.now.items in
    let before = c.push_nodes.new.text.items in
    let now = c.push_wires.new.text.items in
    let w = far + 1 + length c.as_slice.result.now in
    let count = ap (λ (nodes : List Node). far + 1 + length nodes) c.as_slice.ensures in
    let P : Type 0 =
    now ≡ before ++ slack_lines (flat_map (cross_name axis cell) (range_with_len 0 (length cell.wires))) w least
    most in
    let Q : Type 0 =
    now ≡ start
    ++ (size_line cell.name (value_of least far) ++ slack_lines (drop 1 (own_names axis cell)) (far + 1) least
    most) in
    on_ok_weaker {P = P} {Q = Q} c.push_wires.result
    (λ e. cell_added axis cell far w least most start c.push_size.new.text.items before now count
    (c.in_ok-push_size.ensures
    ∙ ap (λ z. start ++ size_line cell.name z)
    (place_back c.value.result _ c.value.ensures.place c.value.ensures.value)) c.in_ok-push_nodes.ensures e)
    c.push_wires.ensures.lines
