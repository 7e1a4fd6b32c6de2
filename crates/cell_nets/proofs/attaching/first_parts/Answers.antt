use Rattle.std.proofs.Common.{◌≡◌, ◌⊎◌, ℕ, ◌+◌, ◌*◌, ◌<◌, ◌≤◌, List, [], ◌∷◌, ◌++◌, length, get_or, take, sym, ◌∙◌, ap}
use Rattle.std.proofs.{Common.{subst, arith, add-one, inl, inr}, lemmas.List.{length_push, get_or_append_left}}
use Rattle.std.proofs.{lemmas.List.{get_or_push, take-append-le, take_all, Sums.sum_by_push}, Math.Seq.take-suc}
use Rattle.cell_model.specs.{declared.cell.Node.Node, Nets.{kind_parts, node_parts}}
use Rattle.cell_nets.specs.Attaching.{AreFirstParts}
use Rattle.cell_nets.proofs.attaching.first_parts.Goals as goal

cases : (k n : ℕ) → k ≤ n + 1 → (k ≤ n) ⊎ (n + 1 ≡ k)
cases k n le = grind arith

-- one node more
firsts_more : (nodes : List Node) (firsts : List ℕ) (node : Node) (part : ℕ) → AreFirstParts nodes firsts
    → part ≡ node_parts (nodes ++ node ∷ []) → AreFirstParts (nodes ++ node ∷ []) (firsts ++ part ∷ [])
firsts_more nodes firsts node part h e =
    let ln = length_push nodes node in
    let lf = length_push firsts part in
    let counted = h.counted in
    record {
      counted = omega arith;
      each = λ k le. elim (cases k (length nodes) (omega arith)) [
        | inl before ↦ get_or_append_left firsts (part ∷ []) 0 k (omega arith) ∙ h.each k before
            ∙ ap node_parts (sym (take-append-le k nodes (node ∷ []) before))
        | inr last ↦ get_or_push firsts part 0 k (counted ∙ last) ∙ e
            ∙ ap node_parts (sym (take_all k (nodes ++ node ∷ []) (omega arith)))
      ];
    }

take_step : (nodes : List Node) (i : ℕ) (node : Node) → i < length nodes → node ≡ get_or nodes i node
    → take (i + 1) nodes ≡ take i nodes ++ node ∷ []
take_step nodes i node lt e = rw add-one (take-suc nodes i node lt ∙ ap (λ (x : Node). take i nodes ++ x ∷ []) (sym e))

parts_more : (nodes : List Node) (node : Node) (part more : ℕ) → part ≡ node_parts nodes → more ≡ kind_parts node.kind
    → part + more ≡ node_parts (nodes ++ node ∷ [])
parts_more nodes node part more e f =
    ap (λ (x : ℕ). x + more) e ∙ ap (λ (y : ℕ). node_parts nodes + y) f
    ∙ sym (sum_by_push (λ (n : Node). kind_parts n.kind) nodes node)

few_more : (part more i : ℕ) → part ≤ i * 3 → more ≤ 3 → part + more ≤ (i + 1) * 3
few_more part more i few le = omega arith

pub loop-node-preserved : goal.loop-node-preserved
loop-node-preserved c =
    let nodes = c.args.nodes.now in
    let i = c.loop-node.node-index in
    let node = c.node-item.result in
    let part = c.loop-node.part in
    let more = c.kind_parts-part.result in
    let v = c.loop-node.invariant in
    let lt : i < length nodes = omega arith in
    let step = take_step nodes i node lt c.node-item.is in
    let parts = parts_more (take i nodes) node part more v.sum c.kind_parts-part.ensures.value in
    let P : List ℕ → Type 0 = λ fs. AreFirstParts (take i nodes ++ node ∷ []) fs in
    let Q : List Node → Type 0 = λ ns. AreFirstParts ns c.push-in-loop-node.new.self.items in
    record {
      sum = parts ∙ ap node_parts (sym step);
      few = few_more part more i v.few c.kind_parts-part.ensures.few;
      firsts =
          subst Q (sym step)
          (subst P (sym c.in_ok-push-2.ensures.items)
          (firsts_more (take i nodes) c.loop-node.firsts.items node (part + more) v.firsts parts));
    }
