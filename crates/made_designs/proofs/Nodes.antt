-- Each node of the cell is accepted, and its name stands for it from then on.
use Rattle.std.proofs.Common.{◌≡◌, ℕ, zero, suc, ◌+◌, ◌*◌, ◌/◌, ◌%◌, ◌<◌, ◌≤◌, true, false, cond, ◌&&◌, List, [], ◌∷◌}
use Rattle.std.proofs.Common.{◌++◌, length, Some, None, Ok, inl, inr, ◌⊎◌, refl, sym, ap, subst, ◌∙◌, add-zero, arith}
use Rattle.std.proofs.lemmas.{Bool.{le-leb, cases_lt}, List.length-append}
use Rattle.std.specs.{Prelude.{bytes_eq, is_none}, List.{filter_map, cons_option, range_with_len}}
use Rattle.list_facts.proofs.Elements.{all_append}
use Rattle.rule_table.specs.{declared.technology.Tech.Tech, Technology.width_of}
use Rattle.rule_table.specs.declared.classes.Layer.TheVariants as layers
use Rattle.cell_model.specs.declared.cell.{Node.Node, NodeKind.NodeKind}
use Rattle.cell_model.specs.declared.cell.NodeKind.TheVariants as kinds
use Rattle.stick_text.specs.declared.fault.StickKind.TheVariants.{RepeatedName, FarPlace}
use Rattle.stick_text.specs.{declared.design.{Layer.Layer as DrawnLayer, Form.Form}, Reading.◌>>=◌, Order.at_line}
use Rattle.stick_text.specs.declared.design.Layer.TheVariants as drawn
use Rattle.stick_text.specs.declared.design.Form.TheVariants as forms
use Rattle.checked_cells.specs.{declared.names.{Binding.Binding, NodePlace.NodePlace}, CheckedCell.{CheckedCell, begun}}
use Rattle.checked_cells.specs.{CheckedCell.{cell_of, with_node}, Paths.{Names, named}, Checks.{layer_of, is_fresh}}
use Rattle.checked_cells.specs.{Checks.{is_place, sized}, Lines.{after_form, after_joint, after_contact, after_lines}}
use Rattle.checked_cells.specs.declared.names.Binding.TheVariants as bindings
use Rattle.design_gen.specs.{declared.draws.Stand.{Stand, TheVariants.{Nothing, Metal, Poly, Contact}}, Draws.point_at}
use Rattle.design_gen.specs.Made.{name_at, node_of, node_at, is_metal, lines_from}
use Rattle.made_designs.proofs.{Names.{IsPoint, col_below, row_below, other_name, own_name}, Tables.found_before}
use Rattle.made_designs.proofs.{Tables.found_after, Passing.both_pass, Plain.{IsPlainKind, IsPlainNode, IsPlain}}

-- the metal joint at point k, which is node number i of its cell
abbrev pub joint_at : Tech → ℕ → ℕ → ℕ → NodePlace
joint_at tech n k i =
    record { number = i; kind = kinds.Joint layers.Metal (width_of tech layers.Metal); col = k % n; row = k / n }

-- the name of point k stands for a metal joint there
abbrev pub StandsForJoint : Tech → ℕ → Names → ℕ → Type 0
StandsForJoint tech n table k = (i : ℕ) × (named table (name_at n k) ≡ Some (bindings.Node (joint_at tech n k i)))

-- after the nodes of the points below k: no later point has its name yet, each metal joint is there, and the cell has
-- plain nodes and nothing else
pub record IsAfter (tech : Tech) (n k : ℕ) (known : CheckedCell) : Type 0 where
  pub fresh : (j : ℕ) → IsPoint n j → k ≤ j → named known.names (name_at n j) ≡ None
  pub joints : (j : ℕ) → IsPoint n j → j < k → is_metal (point_at n j).stand ≡ true
      → StandsForJoint tech n known.names j
  pub closed : known.plugs ≡ []
  pub plain : IsPlain tech k 0 (cell_of known)

-- ---- a point with a node

-- one more name is none of the later ones
fresh_after : (n j k : ℕ) (table : Names) (binding : Binding) → IsPoint n j → IsPoint n k → (j ≡ k → ⊥)
    → named table (name_at n j) ≡ None → named (table ++ (name_at n k, binding) ∷ []) (name_at n j) ≡ None
fresh_after n j k table binding p q apart none =
    found_after (λ other. bytes_eq (name_at n j) other) table ((name_at n k, binding) ∷ []) none
    ∙ ap (λ b. cond b (Some binding) None) (other_name n j k p q apart)

-- it is found under its own
found_own : (name : List ℕ) (table : Names) (binding : Binding) → named table name ≡ None
    → named (table ++ (name, binding) ∷ []) name ≡ Some binding
found_own name table binding none = found_after (λ other. bytes_eq name other) table ((name, binding) ∷ []) none
    ∙ ap (λ b. cond b (Some binding) None) (own_name name)

-- a point whose node is added
added : (tech : Tech) (n k : ℕ) (known : CheckedCell) (kind : NodeKind) → IsPoint n k → IsAfter tech n k known
    → (is_metal (point_at n k).stand ≡ true → kind ≡ kinds.Joint layers.Metal (width_of tech layers.Metal))
    → IsPlainKind tech kind → IsAfter tech n (k + 1) (with_node known (name_at n k) kind (k % n) (k / n))
added tech n k known kind q after metal_kind plain_kind = record {
  fresh = λ j p le. fresh_after n j k known.names binding p q (λ same. omega (arith, same, le))
      (after.fresh j p (omega (arith, le)));
  joints = λ j p lt metal. elim (cases_lt j k) as (λ _. StandsForJoint tech n next j) [
    | inl before ↦ let at =
        after.joints j p before metal in (
          at.0,
          found_before (λ other. bytes_eq (name_at n j) other) known.names ((name_at n k, binding) ∷ [])
              (bindings.Node (joint_at tech n j at.0)) at.1,
        )
    | inr not_before ↦ let same : k ≡ j =
        omega (arith, not_before, lt) in subst (λ i. is_metal (point_at n i).stand ≡ true
        → StandsForJoint tech n next i) same here metal
  ];
  closed = after.closed;
  plain = record {
    nodes = all_append (IsPlainNode tech) known.nodes (node ∷ []) after.plain.nodes (plain_kind, tt);
    few_nodes = (let few = after.plain.few_nodes in omega (arith, few, length-append known.nodes (node ∷ [])));
    wires = after.plain.wires;
    few_wires = after.plain.few_wires;
    limits = after.plain.limits;
  };
}
  where
    node : Node
    node = record { name = name_at n k; kind = kind; col = k % n; row = k / n }

    binding : Binding
    binding = bindings.Node (record { number = length known.nodes; kind = kind; col = k % n; row = k / n })

    next : Names
    next = known.names
        ++ (
          name_at n k,
          bindings.Node
              (record { number = length known.nodes; kind = kind; col = k % n; row = k / n }),
        ) ∷ []

    here : is_metal (point_at n k).stand ≡ true → StandsForJoint tech n next k
    here metal =
        let own = found_own (name_at n k) known.names binding (after.fresh k q (omega arith)) in (
          length known.nodes,
          own
              ∙ ap (λ x.
              Some (bindings.Node
              (record { number = length known.nodes; kind = x; col = k % n; row = k / n }))) (metal_kind metal),
        )

-- a point without a node
passed : (tech : Tech) (n k : ℕ) (known : CheckedCell) → IsAfter tech n k known
    → is_metal (point_at n k).stand ≡ false → IsAfter tech n (k + 1) known
passed tech n k known after none = record {
  fresh = λ j p le. after.fresh j p (omega (arith, le));
  joints = λ j p lt metal. elim (cases_lt j k) as (λ _. StandsForJoint tech n known.names j) [
    | inl before ↦ after.joints j p before metal
    | inr not_before ↦ let same : j ≡ k = omega (arith, not_before, lt) in let wrong : false ≡ true = sym none
        ∙ ap (λ i. is_metal (point_at n i).stand) (sym same) ∙ metal in absurd cc
  ];
  closed = after.closed;
  plain = record {
    nodes = after.plain.nodes;
    few_nodes = (let few = after.plain.few_nodes in omega (arith, few));
    wires = after.plain.wires;
    few_wires = after.plain.few_wires;
    limits = after.plain.limits;
  };
}

-- ---- the lines of nodes

near : (m : ℕ) → m < 64 → is_place m ≡ true
near m h = le-leb m 4095 (omega (arith, h))

both_near : (n k : ℕ) → IsPoint n k → (is_place (k % n) && is_place (k / n)) ≡ true
both_near n k p = ap (λ b. b && is_place (k / n)) (near (k % n) (omega (arith, col_below n k p, p.few)))
    ∙ near (k / n) (omega (arith, row_below n k p, p.few))

joint_accepted : (tech : Tech) (n k : ℕ) (known : CheckedCell) (layer : DrawnLayer) → IsPoint n k
    → IsAfter tech n k known
    → after_joint tech known (name_at n k) layer (k % n) (k / n) None
    ≡ Ok (with_node known (name_at n k) (kinds.Joint (layer_of layer) (width_of tech (layer_of layer))) (k % n)
    (k / n))
unfolding after_joint sized
joint_accepted tech n k known layer p after =
    both_pass (is_fresh known.names (name_at n k)) (is_place (k % n) && is_place (k / n)) RepeatedName FarPlace _
    (ap is_none (after.fresh k p (omega arith))) (both_near n k p)

contact_accepted : (tech : Tech) (n k : ℕ) (known : CheckedCell) (lower : DrawnLayer) → IsPoint n k
    → IsAfter tech n k known
    → after_contact known (name_at n k) lower (k % n) (k / n)
    ≡ Ok (with_node known (name_at n k) (kinds.Contact (layer_of lower)) (k % n) (k / n))
unfolding after_contact
contact_accepted tech n k known lower p after =
    both_pass (is_fresh known.names (name_at n k)) (is_place (k % n) && is_place (k / n)) RepeatedName FarPlace _
    (ap is_none (after.fresh k p (omega arith))) (both_near n k p)

-- the node at a point is accepted, or there is none
abbrev IsStep : Tech → ℕ → ℕ → CheckedCell → Type 0
IsStep tech n k known = ((node_at n k ≡ None) × IsAfter tech n (k + 1) known)
    ⊎ ((form : Form) × (next : CheckedCell) × (node_at n k ≡ Some form) × (after_form tech [] known form ≡ Ok next)
    × IsAfter tech n (k + 1) next)

step : (tech : Tech) (n k : ℕ) (known : CheckedCell) → IsPoint n k → IsAfter tech n k known → (stand : Stand)
    → (point_at n k).stand ≡ stand → IsStep tech n k known
unfolding node_at
step tech n k known p after Nothing e =
    inl (ap (λ s. node_of s (name_at n k) (k % n) (k / n)) e, passed tech n k known after (ap is_metal e))
step tech n k known p after Metal e = inr (
  forms.Joint (name_at n k) drawn.Metal (k % n) (k / n) None,
  with_node known (name_at n k) (kinds.Joint layers.Metal (width_of tech layers.Metal)) (k % n) (k / n),
  ap (λ s. node_of s (name_at n k) (k % n) (k / n)) e,
  joint_accepted tech n k known drawn.Metal p after,
  added tech n k known (kinds.Joint layers.Metal (width_of tech layers.Metal)) p after (λ metal. refl) refl,
)
step tech n k known p after Poly e = inr (
  forms.Joint (name_at n k) drawn.Poly (k % n) (k / n) None,
  with_node known (name_at n k) (kinds.Joint layers.Poly (width_of tech layers.Poly)) (k % n) (k / n),
  ap (λ s. node_of s (name_at n k) (k % n) (k / n)) e,
  joint_accepted tech n k known drawn.Poly p after,
  added tech n k known (kinds.Joint layers.Poly (width_of tech layers.Poly)) p after
      (λ metal. let wrong : false ≡ true = sym (ap is_metal e) ∙ metal in absurd cc) refl,
)
step tech n k known p after Contact e = inr (
  forms.Contact (name_at n k) drawn.Diffusion (k % n) (k / n),
  with_node known (name_at n k) (kinds.Contact layers.Diffusion) (k % n) (k / n),
  ap (λ s. node_of s (name_at n k) (k % n) (k / n)) e,
  contact_accepted tech n k known drawn.Diffusion p after,
  added tech n k known (kinds.Contact layers.Diffusion) p after
      (λ metal. let wrong : false ≡ true = sym (ap is_metal e) ∙ metal in absurd cc) tt,
)

-- ---- all nodes

-- after the nodes of m points, from point k on, comes what comes
pub record Leads (tech : Tech) (n k m : ℕ) (known : CheckedCell) : Type 0 where
  pub last : CheckedCell
  pub after : IsAfter tech n (k + m) last
  pub on : (more : List Form) (number : ℕ) → (next : ℕ)
      × (after_lines tech [] known (lines_from number (filter_map (node_at n) (range_with_len k m) ++ more))
      ≡ after_lines tech [] last (lines_from next more))

counted : (tech : Tech) (n k m : ℕ) (last : CheckedCell) → IsAfter tech n (k + 1 + m) last
    → IsAfter tech n (k + suc m) last
counted tech n k m last after = let same : k + 1 + m ≡ k + suc m =
    omega arith in subst (λ i. IsAfter tech n i last) same after

one_more : (tech : Tech) (n k m : ℕ) (known : CheckedCell) → IsStep tech n k known
    → ((next : CheckedCell) → IsAfter tech n (k + 1) next → Leads tech n (k + 1) m next)
    → Leads tech n k (suc m) known
one_more tech n k m known (inl s) rest =
    let further = rest known s.1 in
    let later = filter_map (node_at n) (range_with_len (k + 1) m) in
    record {
      last = further.last;
      after = counted tech n k m further.last further.after;
      on = λ more number. let on =
          further.on more number in (
            on.0,
            ap (λ node. after_lines tech [] known (lines_from number (cons_option node later ++ more))) s.0
                ∙ on.1,
          );
    }
one_more tech n k m known (inr s) rest =
    let form = s.0 in
    let next = s.1 in
    let further = rest next s.4 in
    let later = filter_map (node_at n) (range_with_len (k + 1) m) in
    record {
      last = further.last;
      after = counted tech n k m further.last further.after;
      on = λ more number. let on = further.on more (number + 1) in (
        on.0,
        ap (λ node. after_lines tech [] known (lines_from number (cons_option node later ++ more))) s.2
            ∙ ap (λ found. at_line number found >>= λ now.
            after_lines tech [] now (lines_from (number + 1) (later ++ more))) s.3
            ∙ on.1,
      );
    }

pub all_nodes : (tech : Tech) (n m k : ℕ) (known : CheckedCell) → n ≤ 64 → k + m ≤ n * n → IsAfter tech n k known
    → Leads tech n k m known
all_nodes tech n zero k known few within after =
    record {
      last = known;
      after = subst (λ i. IsAfter tech n i known) (sym (add-zero k)) after;
      on = λ more number. (number, refl);
    }
all_nodes tech n (suc m) k known few within after =
    let here : k < n * n = omega (arith, within) in
    let further : k + 1 + m ≤ n * n = omega (arith, within) in
    one_more tech n k m known
    (step tech n k known (record { few = few; within = here }) after (point_at n k).stand refl)
    (λ next after. all_nodes tech n m (k + 1) next few further after)

-- no name is taken before the first line
pub none_before : (tech : Tech) (n : ℕ) (name : List ℕ) → IsAfter tech n 0 (begun name)
none_before tech n name = record {
  fresh = λ j p le. refl;
  joints = λ j p lt metal. absurd (omega (arith, lt));
  closed = refl;
  plain = record { nodes = tt; few_nodes = omega arith; wires = tt; few_wires = omega arith; limits = refl };
}
