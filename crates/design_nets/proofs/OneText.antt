-- A plan has one text of its nets by their names.
use Rattle.std.proofs.Common.{◌≡◌, ℕ, ◌+◌, List, [], ◌∷◌, ◌++◌, length, map, refl, sym, ap, ◌∙◌, subst, arith}
use Rattle.std.{proofs.Common.ext_get_or, specs.List.{AllByRecursion, flat_map, range_with_len}}
use Rattle.list_facts.proofs.Elements.{all_weaker}
use Rattle.rule_table.specs.declared.technology.Tech.{Tech}
use Rattle.cell_model.specs.declared.cell.Nets.{Nets}
use Rattle.expand.specs.declared.master.Master.{Master}
use Rattle.plan_model.specs.{declared.plan.Plan.Plan, Plan.grids_of}
use Rattle.graph_search.specs.Netting.{next_net}
use Rattle.net_model.specs.{declared.netlist.Piece.Piece, Netlists.nets_of}
use Rattle.net_list.specs.Lines.{head_line, words_of_net}
use Rattle.instance_laws.specs.Planned.{AreOfPlan}
use Rattle.design_nets.specs.declared.{fet_nodes.FetAt.FetAt, instances.Instance.Instance}
use Rattle.design_nets.specs.declared.named_parts.{NamedPart.NamedPart, CellPart.TheVariants.{Gate, Low, High}}
use Rattle.design_nets.specs.{declared.owners.OwnNet.OwnNet, Connections.AreNumbersOfPieces, Instances.instances_of}
use Rattle.design_nets.specs.{NamedLaws.HasPiece, NamedNets.{name_of, fet_name, kind_of_fet, spaced, device_line}}
use Rattle.design_nets.specs.NamedNets.{layer_of_box, all_fets, line_of_fet, lines_of_fets, net_lines, named_text}
use Rattle.design_nets.specs.{NamedNets.IsNamedText, NamedParts.{part_of, named_parts, own_net_of}, Nets.no_nets}
use Rattle.design_nets.{specs.Nets.AreNetsOfAll, proofs.FetPieces.{HasPieces, fets_have_pieces}}
use Rattle.design_nets.proofs.{HavePieces.parts_have_pieces, LaidOut.instances_among, Lists.together_same}
use Rattle.design_nets.proofs.{NamedParts.parts_like, OneNumbering.{named_pieces_one, nets_one}}

-- the nets of the masters
pub nets_same : (tech : Tech) (plan : Plan) (masters : List Master) → AreOfPlan tech plan masters
    → (first second : List Nets) → AreNetsOfAll masters first → AreNetsOfAll masters second → first ≡ second
nets_same tech plan masters planned first second one two =
    let counted = one.counted in
    ext_get_or no_nets first second (one.counted ∙ sym two.counted)
    (λ k lt. nets_one tech plan masters planned first second one two k (omega (arith, lt, counted)))

-- ---- texts of numbers that are the same

module _ (grids : List (List ℕ)) (plan : Plan) (masters : List Master) (pieces : List Piece) (f g : NamedPart → ℕ) where
  abbrev Instances : List Instance
  Instances = instances_of (grids_of plan)

  pub record Agree (x : FetAt) : Type 0 where
    pub gate : f (part_of x.instance (Gate x.node)) ≡ g (part_of x.instance (Gate x.node))
    pub low : f (part_of x.instance (Low x.node)) ≡ g (part_of x.instance (Low x.node))
    pub high : f (part_of x.instance (High x.node)) ≡ g (part_of x.instance (High x.node))

  line_like : (j : ℕ) (x : FetAt) → Agree x
      → line_of_fet grids masters Instances f j x ≡ line_of_fet grids masters Instances g j x
  line_like j x h =
      let kind = kind_of_fet masters Instances x in
      let name = fet_name grids masters Instances x in
      let low : ℕ = f (part_of x.instance (Low x.node)) in
      let high : ℕ = f (part_of x.instance (High x.node)) in
      ap (λ (n : ℕ). device_line j kind name n low high) h.gate
      ∙ (ap (λ (n : ℕ). device_line j kind name (g (part_of x.instance (Gate x.node))) n high) h.low
      ∙ ap (λ (n : ℕ). device_line j kind name (g (part_of x.instance (Gate x.node)))
      (g (part_of x.instance (Low x.node))) n) h.high)

  lines_like : (j : ℕ) (fets : List FetAt) → AllByRecursion Agree fets
      → lines_of_fets grids masters Instances f j fets ≡ lines_of_fets grids masters Instances g j fets
  lines_like j [] h = refl
  lines_like j (x ∷ fets) h =
      ap (λ (text : List ℕ). text ++ lines_of_fets grids masters Instances f (j + 1) fets) (line_like j x h.0)
      ∙ ap (λ (text : List ℕ). line_of_fet grids masters Instances g j x ++ text) (lines_like (j + 1) fets h.1)

  net_like : AllByRecursion (λ (p : NamedPart). f p ≡ g p) (named_parts masters Instances) → (net : ℕ)
      → net_lines grids plan masters pieces f net ≡ net_lines grids plan masters pieces g net
  net_like h net =
      ap (λ (ps : List NamedPart). words_of_net (layer_of_box plan masters) pieces net
      ++ (flat_map spaced (map (name_of grids masters Instances) ps) ++ (10 ∷ []))) (parts_like f g net
      (named_parts masters Instances) h)

  pub text_like : AllByRecursion (λ (p : NamedPart). f p ≡ g p) (named_parts masters Instances)
      → AllByRecursion Agree (all_fets masters Instances)
      → named_text grids plan masters pieces f ≡ named_text grids plan masters pieces g
  unfolding named_text
  text_like parts fets =
      let count : ℕ = next_net (nets_of pieces) in
      let all : List FetAt = all_fets masters Instances in
      ap (λ (text : List ℕ). head_line count (length all) ++ (text ++ lines_of_fets grids masters Instances f 0 all))
      (together_same (net_lines grids plan masters pieces f) (net_lines grids plan masters pieces g) count
      (λ net lt. net_like parts net))
      ∙ ap (λ (text : List ℕ). head_line count (length all)
      ++ (flat_map (net_lines grids plan masters pieces g) (range_with_len 0 count) ++ text)) (lines_like 0 all
      fets)

-- ---- one text

module _ (tech : Tech) (plan : Plan) (masters : List Master) (planned : AreOfPlan tech plan masters) where
  abbrev All_instances : List Instance
  All_instances = instances_of (grids_of plan)

  -- numbers of pieces that are the same
  number_one : (nets : List Nets) (pieces : List Piece) (x y : OwnNet → ℕ)
      → AreNumbersOfPieces plan masters nets (instances_of (grids_of plan)) pieces x
      → AreNumbersOfPieces plan masters nets (instances_of (grids_of plan)) pieces y
      → (p : NamedPart) → HasPiece plan masters nets (instances_of (grids_of plan)) p
      → x (own_net_of masters nets (instances_of (grids_of plan)) p)
      ≡ y (own_net_of masters nets (instances_of (grids_of plan)) p)
  number_one nets pieces x y hx hy p has = sym (hx has.i (own_net_of masters nets All_instances p) has.is)
      ∙ hy has.i (own_net_of masters nets All_instances p) has.is

  pub numbers_of : List Nets → (OwnNet → ℕ) → NamedPart → ℕ
  numbers_of nets x p = x (own_net_of masters nets (instances_of (grids_of plan)) p)

  pub text_one : (grids : List (List ℕ)) (nets : List Nets) (pieces : List Piece) (x y : OwnNet → ℕ)
      → AreNetsOfAll masters nets → AreNumbersOfPieces plan masters nets (instances_of (grids_of plan)) pieces x
      → AreNumbersOfPieces plan masters nets (instances_of (grids_of plan)) pieces y
      → named_text grids plan masters pieces
      (λ (p : NamedPart). x (own_net_of masters nets (instances_of (grids_of plan)) p))
      ≡ named_text grids plan masters pieces
      (λ (p : NamedPart). y (own_net_of masters nets (instances_of (grids_of plan)) p))
  text_one grids nets pieces x y all hx hy =
      let f : NamedPart → ℕ = λ p. x (own_net_of masters nets All_instances p) in
      let g : NamedPart → ℕ = λ p. y (own_net_of masters nets All_instances p) in
      let one = number_one nets pieces x y hx hy in
      text_like grids plan masters pieces f g
      (all_weaker (HasPiece plan masters nets All_instances) (λ (p : NamedPart). f p ≡ g p) one
      (named_parts masters All_instances) (parts_have_pieces tech plan masters planned nets all))
      (all_weaker (HasPieces plan masters nets) (Agree grids plan masters pieces f g) (λ z h. record {
        gate = one (part_of z.instance (Gate z.node)) h.gate;
        low = one (part_of z.instance (Low z.node)) h.low;
        high = one (part_of z.instance (High z.node)) h.high;
      }) (all_fets masters All_instances) (fets_have_pieces tech plan masters planned nets all (instances_among tech
      plan masters planned)))

  pub text_determined : (grids : List (List ℕ)) (a b : List ℕ) → IsNamedText grids plan masters a
      → IsNamedText grids plan masters b → a ≡ b
  text_determined grids a b ha hb =
      let same : ha.nets ≡ hb.nets = nets_same tech plan masters planned ha.nets hb.nets ha.are_nets hb.are_nets in
      let pieces : ha.pieces ≡ hb.pieces =
      named_pieces_one tech plan masters planned ha.nets hb.nets ha.pieces hb.pieces ha.are_nets hb.are_nets
      ha.are_pieces hb.are_pieces in
      let P : List Nets → List Piece → Type 0 =
      λ nets ps. AreNumbersOfPieces plan masters nets All_instances ps ha.number in
      let moved : P hb.nets hb.pieces =
      subst (λ (ps : List Piece). P hb.nets ps) pieces
      (subst (λ (nets : List Nets). P nets ha.pieces) same ha.numbered) in
      let text : List Nets → List Piece → List ℕ =
      λ nets ps. named_text grids plan masters ps
      (λ (p : NamedPart). ha.number (own_net_of masters nets All_instances p)) in
      ha.is ∙ (ap (λ (nets : List Nets). text nets ha.pieces) same
      ∙ (ap (λ (ps : List Piece). text hb.nets ps) pieces
      ∙ (text_one grids hb.nets hb.pieces ha.number hb.number hb.are_nets moved hb.numbered ∙ sym hb.is)))
