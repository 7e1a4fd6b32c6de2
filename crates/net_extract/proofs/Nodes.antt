-- Chains over nodes lead from piece to piece exactly where chains of links do.
use Rattle.std.proofs.Common.{◌≡◌, ◌≢◌, ℕ, zero, suc, ◌-◌, ◌<◌, ◌≤◌, List, length, ◌⊎◌, inl, inr, refl, sym, ◌∙◌, subst}
use Rattle.std.proofs.{Common.arith, lemmas.Bool.cases_eq}
use Rattle.lam_geom.specs.{declared.boxes.MaskBox.MaskBox, Gaps.Overlaps}
use Rattle.rule_table.specs.declared.technology.Tech.{Tech}
use Rattle.graph_search.specs.Netting.{Chain, Reaches}
use Rattle.graph_search.proofs.Chains.{reaches_none, reaches_one, reaches_more, reaches_trans}
use Rattle.crossing_model.specs.{declared.crossing.Crossing.Crossing, Boxes.area_at, Crossings.AreInOrder}
use Rattle.box_pieces.specs.{declared.placing.Placed.Placed, Pieces.{box_of, area_of, ArePieces}}
use Rattle.net_model.specs.Extraction.{IsLink}
use Rattle.net_extract.specs.Linking.{AreBeside, IsJoining, IsNode, IsOverBoth, IsOverCut, IsPairWith, cut_node}
use Rattle.net_extract.proofs.{AllLinks.{touch_is_link, cut_is_link, contact_is_link, link_kind}, Geometry.touches_back}

-- ---- nodes beside each other

pub beside_back : (tech : Tech) (boxes : List MaskBox) (pieces : List Placed) (x y : ℕ)
    → AreBeside tech boxes pieces x y → AreBeside tech boxes pieces y x
beside_back tech boxes pieces x y h = elim h [
  | inl t ↦ inl (record {
    apart = record { first = t.apart.second; second = t.apart.first; apart = λ e. t.apart.apart (sym e) };
    one_layer = sym t.one_layer;
    touch = touches_back (area_of pieces x) (area_of pieces y) t.touch;
  })
  | inr (inl o) ↦ inr (inr (inl o))
  | inr (inr (inl o)) ↦ inr (inl o)
  | inr (inr (inr c)) ↦
      (let pair : IsPairWith tech boxes (box_of pieces y) (box_of pieces x) =
      elim c.pair [ inl p ↦ inr p | inr p ↦ inl p ] in
      inr (inr (inr (record { first = c.second; second = c.first; pair = pair }))))
]

pub beside_node : (tech : Tech) (boxes : List MaskBox) (pieces : List Placed) (x y : ℕ)
    → AreBeside tech boxes pieces x y → IsNode boxes pieces y
beside_node tech boxes pieces x y h = elim h [
  | inl t ↦ inl t.apart.second
  | inr (inl o) ↦ inr (o.cut, o.node, o.joins)
  | inr (inr (inl o)) ↦ inl o.is.among
  | inr (inr (inr c)) ↦ inl c.second
]

-- what a piece reaches are nodes
pub chain_node : (tech : Tech) (boxes : List MaskBox) (pieces : List Placed) (n x y : ℕ)
    → Chain (AreBeside tech boxes pieces) n x y → IsNode boxes pieces x → IsNode boxes pieces y
chain_node tech boxes pieces zero x y e node = let P : ℕ → Type 0 = IsNode boxes pieces in subst P e node
chain_node tech boxes pieces (suc n) x y (z, s, ch) node =
    chain_node tech boxes pieces n z y ch (beside_node tech boxes pieces x z s)

-- ---- from nodes to links

over_link : (tech : Tech) (boxes : List MaskBox) (crossings : List Crossing) (pieces : List Placed) (starts : List ℕ)
    (k a b x y : ℕ) → ArePieces boxes crossings pieces starts → IsOverBoth boxes pieces k x y
    → a < length pieces → b < length pieces → Overlaps (area_of pieces a) (area_at boxes k)
    → Overlaps (area_of pieces b) (area_at boxes k) → box_of pieces b ≢ box_of pieces a
    → IsLink tech boxes crossings a b
over_link tech boxes crossings pieces starts k a b x y p both la lb over_a over_b ne =
    cut_is_link tech boxes crossings pieces starts k a b p
    (record {
      is_cut = both.is_cut;
      apart = record { first = la; second = lb; apart = ne };
      first = over_a;
      second = over_b;
    })

-- all pieces over a cut that joins are of one net
over_joined : (tech : Tech) (boxes : List MaskBox) (crossings : List Crossing) (pieces : List Placed)
    (starts : List ℕ) (k a b : ℕ) → ArePieces boxes crossings pieces starts → IsJoining boxes pieces k
    → a < length pieces → b < length pieces → Overlaps (area_of pieces a) (area_at boxes k)
    → Overlaps (area_of pieces b) (area_at boxes k) → Reaches (IsLink tech boxes crossings) a b
over_joined tech boxes crossings pieces starts k a b p (x, y, both) la lb over_a over_b =
    let Link : ℕ → ℕ → Type 0 = IsLink tech boxes crossings in
    let via : (w : ℕ) → w < length pieces → Overlaps (area_of pieces w) (area_at boxes k)
    → box_of pieces b ≡ box_of pieces a → box_of pieces w ≢ box_of pieces a
    → Reaches Link a b = λ w lw over_w same ne.
    reaches_more Link a w b (over_link tech boxes crossings pieces starts k a w x y p both la lw over_a over_w ne)
    (reaches_one Link w b
    (over_link tech boxes crossings pieces starts k w b x y p both lw lb over_w over_b
    (λ e. ne (sym e ∙ same)))) in
    elim (cases_eq (box_of pieces b) (box_of pieces a)) [
      | inr ne ↦
          reaches_one Link a b (over_link tech boxes crossings pieces starts k a b x y p both la lb over_a over_b ne)
      | inl same ↦ elim (cases_eq (box_of pieces x) (box_of pieces a)) [
        | inr ne ↦ via x both.apart.first both.first same ne
        | inl e ↦ via y both.apart.second both.second same (λ f. both.apart.apart (f ∙ sym e))
      ]
    ]

-- a piece stands for its own node, and for a cut that it overlaps
abbrev pub StandsFor : List MaskBox → List Placed → ℕ → ℕ → Type 0
StandsFor boxes pieces x a = ((x < length pieces) × (a ≡ x)) ⊎ IsOverCut boxes pieces a x

step_links : (tech : Tech) (boxes : List MaskBox) (crossings : List Crossing) (pieces : List Placed) (starts : List ℕ)
    (x z a : ℕ) → ArePieces boxes crossings pieces starts
    → AreBeside tech boxes pieces x z → StandsFor boxes pieces x a
    → (c : ℕ) × StandsFor boxes pieces z c × Reaches (IsLink tech boxes crossings) a c
step_links tech boxes crossings pieces starts x z a p h stands =
    let Link : ℕ → ℕ → Type 0 = IsLink tech boxes crossings in
    let From : ℕ → Type 0 = λ w. Reaches Link w z in
    elim stands [
      | inl (lt, e) ↦ elim h [
        | inl t ↦ (
          z,
          inl (t.apart.second, refl),
          subst From (sym e)
              (reaches_one Link x z (touch_is_link tech boxes crossings pieces starts x z p t)),
        )
        | inr (inl o) ↦ (x, inr o, reaches_none Link a x e)
        | inr (inr (inl o)) ↦ (let n = o.node in absurd (omega arith))
        | inr (inr (inr c)) ↦ (
          z,
          inl (c.second, refl),
          subst From (sym e)
              (reaches_one Link x z (contact_is_link tech boxes crossings pieces starts x z p c)),
        )
      ]
      | inr over ↦ (let n = over.node in elim h [
        | inl t ↦ (let l = t.apart.first in absurd (omega arith))
        | inr (inl o) ↦ (let l = o.is.among in absurd (omega arith))
        | inr (inr (inl o)) ↦
            (let m = o.node in
            let same : o.cut ≡ over.cut = omega arith in
            let P : ℕ → Type 0 = λ k. Overlaps (area_of pieces z) (area_at boxes k) in (
              z,
              inl (o.is.among, refl),
              over_joined tech boxes crossings pieces starts over.cut a z p over.joins
                  over.is.among o.is.among over.is.over (subst P same o.is.over),
            ))
        | inr (inr (inr c)) ↦ (let l = c.first in absurd (omega arith))
      ])
    ]

pub chain_links : (tech : Tech) (boxes : List MaskBox) (crossings : List Crossing) (pieces : List Placed)
    (starts : List ℕ) (n x a b : ℕ) → ArePieces boxes crossings pieces starts
    → Chain (AreBeside tech boxes pieces) n x b → StandsFor boxes pieces x a → b < length pieces
    → Reaches (IsLink tech boxes crossings) a b
chain_links tech boxes crossings pieces starts zero x a b p e stands lt = elim stands [
  | inl (l, f) ↦ reaches_none (IsLink tech boxes crossings) a b (f ∙ e)
  | inr over ↦ (let m = over.node in absurd (omega arith))
]
chain_links tech boxes crossings pieces starts (suc n) x a b p (z, s, ch) stands lt =
    let h : (c : ℕ) × StandsFor boxes pieces z c × Reaches (IsLink tech boxes crossings) a c =
    step_links tech boxes crossings pieces starts x z a p s stands in
    reaches_trans (IsLink tech boxes crossings) a h.0 b h.2
    (chain_links tech boxes crossings pieces starts n z h.0 b p ch h.1 lt)

-- ---- from links to nodes

link_nodes : (tech : Tech) (boxes : List MaskBox) (crossings : List Crossing) (pieces : List Placed) (starts : List ℕ)
    (a b : ℕ) → AreInOrder crossings → ArePieces boxes crossings pieces starts
    → IsLink tech boxes crossings a b → Reaches (AreBeside tech boxes pieces) a b
link_nodes tech boxes crossings pieces starts a b ordered p h =
    let Step : ℕ → ℕ → Type 0 = AreBeside tech boxes pieces in
    elim (link_kind tech boxes crossings pieces starts a b ordered p h) [
      | inl t ↦ reaches_one Step a b (inl t)
      | inr (inl (k, both)) ↦
          (let joins : IsJoining boxes pieces k = (a, b, both) in
          let n : ℕ = cut_node pieces k in
          reaches_more Step a n b
          (inr (inl
          (record {
            cut = k;
            node = refl;
            joins = joins;
            is = record { among = both.apart.first; over = both.first };
          })))
          (reaches_one Step n b
          (inr (inr
          (inl (record {
            cut = k;
            node = refl;
            joins = joins;
            is = record { among = both.apart.second; over = both.second };
          }))))))
      | inr (inr c) ↦ reaches_one Step a b (inr (inr (inr c)))
    ]

pub chain_nodes : (tech : Tech) (boxes : List MaskBox) (crossings : List Crossing) (pieces : List Placed)
    (starts : List ℕ) (n a b : ℕ) → AreInOrder crossings → ArePieces boxes crossings pieces starts
    → Chain (IsLink tech boxes crossings) n a b → Reaches (AreBeside tech boxes pieces) a b
chain_nodes tech boxes crossings pieces starts zero a b ordered p e = reaches_none (AreBeside tech boxes pieces) a b e
chain_nodes tech boxes crossings pieces starts (suc n) a b ordered p (c, s, ch) =
    reaches_trans (AreBeside tech boxes pieces) a c b (link_nodes tech boxes crossings pieces starts a c ordered p s)
    (chain_nodes tech boxes crossings pieces starts n c b ordered p ch)

-- the cut of a node that is no piece
pub node_cut : (boxes : List MaskBox) (pieces : List Placed) (node count : ℕ) → count ≡ length pieces → count ≤ node
    → IsNode boxes pieces node → IsJoining boxes pieces (node - count) × (cut_node pieces (node - count) ≡ node)
node_cut boxes pieces node count e le (inl lt) = absurd (omega arith)
node_cut boxes pieces node count e le (inr (k, at, joins)) =
    let same : k ≡ node - count = omega arith in
    let P : ℕ → Type 0 = IsJoining boxes pieces in
    (subst P same joins, omega arith)
