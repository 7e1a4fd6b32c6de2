use Rattle.std.{proofs.Common.{List, ap, sym, subst, ◌∙◌, arith, length}, specs.Prelude.All}
use Rattle.list_facts.proofs.Elements.{all_at}
use Rattle.stick_text.specs.{declared.design.Line.Line, Writable.IsPath}
use Rattle.cell_model.specs.{declared.cell.Node.Node, Sound.no_node}
use Rattle.jog_insert.specs.{Jogs.{IsNearForm, IsJogNumber}, Building.IsWireAt}
use Rattle.jog_insert.proofs.{Bendable.node_here, Bents.{bent_made, bent_have_text}, Determined.bent_is_determined}
use Rattle.jog_insert.proofs.inserting.bent_cell.Goals as goal

pub returns-then-not-are_near-clause-bent : goal.returns-then-not-are_near-clause-bent
returns-then-not-are_near-clause-bent c lines bent near =
    let text = c.args.text.now in
    let content = c.args.content.now in
    let run = c.in-Some.run' in
    let old = c.as_slice-old.ensures in
    let low = node_here content c.as_slice-nodes.result.now run.low c.index-nodes-run.result c.as_slice-nodes.ensures
    c.in-Some.ensures.is_low c.index-nodes-run.is in
    let high = node_here content c.as_slice-nodes.result.now run.high c.index-nodes-run-2.result
    c.as_slice-nodes.ensures c.in-Some.ensures.is_high c.index-nodes-run-2.is in
    let own = bent_made text content c.args.k c.args.r c.in-Some-wire_line.at c.in_ok-number.number c.args.left
    c.in-Some-wire_line.layer run c.bytes.result.now c.bytes-2.result.now c.in_ok-lines.lines.items
    c.in-Some.ensures (subst (λ (l : List Line). IsJogNumber l c.in_ok-number.number) old c.in_ok-number.ensures.number)
    (subst (λ (l : List Line). IsWireAt l c.args.k c.in-Some-wire_line.at c.in-Some-wire_line.layer) old
    c.in-Some-wire_line.ensures)
    (ap (λ (n : Node). n.name) (low ∙ c.index-nodes-run.is) ∙ sym c.bytes.ensures)
    (ap (λ (n : Node). n.name) (high ∙ c.index-nodes-run-2.is) ∙ sym c.bytes-2.ensures)
    (rw old at c.in_ok-lines.ensures) in
    let same = bent_is_determined text content c.args.k c.args.r c.args.left lines c.in_ok-lines.lines.items bent own in
    c.if-not-are_near.ensures
    (subst (All (λ (line : Line). IsNearForm line.form)) (same ∙ sym c.deref.ensures.value) near)

pub returns-clause-bent : goal.returns-clause-bent
returns-clause-bent c =
    let text = c.args.text.now in
    let content = c.args.content.now in
    let run = c.in-Some.run' in
    let old = c.as_slice-old.ensures in
    let low = node_here content c.as_slice-nodes.result.now run.low c.index-nodes-run.result c.as_slice-nodes.ensures
    c.in-Some.ensures.is_low c.index-nodes-run.is in
    let high = node_here content c.as_slice-nodes.result.now run.high c.index-nodes-run-2.result
    c.as_slice-nodes.ensures c.in-Some.ensures.is_high c.index-nodes-run-2.is in
    record {
      bent = bent_made text content c.args.k c.args.r c.in-Some-wire_line.at c.in_ok-number.number c.args.left
          c.in-Some-wire_line.layer run c.bytes.result.now c.bytes-2.result.now c.in_ok-lines.lines.items
          c.in-Some.ensures
          (subst (λ (l : List Line). IsJogNumber l c.in_ok-number.number) old c.in_ok-number.ensures.number)
          (subst (λ (l : List Line). IsWireAt l c.args.k c.in-Some-wire_line.at c.in-Some-wire_line.layer) old
          c.in-Some-wire_line.ensures)
          (ap (λ (n : Node). n.name) (low ∙ c.index-nodes-run.is) ∙ sym c.bytes.ensures)
          (ap (λ (n : Node). n.name) (high ∙ c.index-nodes-run-2.is) ∙ sym c.bytes-2.ensures)
          (rw old at c.in_ok-lines.ensures);
      near = subst (All (λ (line : Line). IsNearForm line.form)) c.deref.ensures.value c.if-not-are_near.ensures;
    }

pub returns-clause-written : goal.returns-clause-written
returns-clause-written c =
    let text = c.args.text.now in
    let content = c.args.content.now in
    let run = c.in-Some.run' in
    let old = c.as_slice-old.ensures in
    let low = node_here content c.as_slice-nodes.result.now run.low c.index-nodes-run.result c.as_slice-nodes.ensures
    c.in-Some.ensures.is_low c.index-nodes-run.is in
    let high = node_here content c.as_slice-nodes.result.now run.high c.index-nodes-run-2.result
    c.as_slice-nodes.ensures c.in-Some.ensures.is_high c.index-nodes-run-2.is in
    let low_path : IsPath c.bytes.result.now =
    subst IsPath (ap (λ (n : Node). n.name) (low ∙ c.index-nodes-run.is) ∙ sym c.bytes.ensures)
    (all_at (λ (n : Node). IsPath n.name) content.nodes no_node run.low c.requires.named
    c.in-Some.ensures.is_low) in
    let high_path : IsPath c.bytes-2.result.now =
    subst IsPath (ap (λ (n : Node). n.name) (high ∙ c.index-nodes-run-2.is) ∙ sym c.bytes-2.ensures)
    (all_at (λ (n : Node). IsPath n.name) content.nodes no_node run.high c.requires.named
    c.in-Some.ensures.is_high) in
    bent_have_text (record { col = run.col; row = c.args.r; left = c.args.left }) c.in_ok-number.number
    c.in-Some-wire_line.layer c.bytes.result.now c.bytes-2.result.now run.width c.in-Some-wire_line.at text.lines
    c.in_ok-lines.lines.items
    (omega (arith, c.in_ok-number.ensures.within, ap length old, c.requires.few)) low_path high_path
    c.in-Some.ensures.small c.requires.written.1 (rw old at c.in_ok-lines.ensures)
    (subst (All (λ (line : Line). IsNearForm line.form)) c.deref.ensures.value c.if-not-are_near.ensures)
