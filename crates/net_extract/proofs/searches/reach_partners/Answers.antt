use Rattle.std.proofs.Common.{◌≡◌, ◌≢◌, ◌⊎◌, ℕ, ◌<◌, inl, inr, length, refl, sym, ◌∙◌, ap, get_or}
use Rattle.std.proofs.lemmas.{List.get_or_read, Result.on_ok_weaker}
use Rattle.box_tree.specs.declared.{query.Query.Query, unvisited_trees.UnvisitedTree.UnvisitedTree}
use Rattle.lam_geom.specs.declared.boxes.{MaskBox.MaskBox, MaskLayer.{MaskLayer, TheVariants.{ND, NP, NC, NM, NI, NB}}}
use Rattle.crossing_model.specs.Boxes.{area_at, layer_at, no_box}
use Rattle.net_extract.specs.declared.{ground.Ground.Ground, searches.Search.Search}
use Rattle.net_extract.specs.{Entries.AreBoxEntries, Grounds.{IsSearchOn, IsStepOn, placed_on}}
use Rattle.net_extract.specs.Spreading.{IsBuriedOf, IsPartner, IsUnvisitedTreeOf, IsUnvisitedTreeReached}
use Rattle.net_extract.proofs.{Beside.{AreFacing, partners_forth, partners_back, no_partner}, Shown.over_query}
use Rattle.net_extract.proofs.Searched.{step_grown, step_none, tags_within}
use Rattle.net_extract.proofs.searches.reach_partners.Goals as goal

neither_of : (layer at : MaskLayer) → (layer ≡ NM) ⊎ ((layer ≡ NC) ⊎ ((layer ≡ NI) ⊎ (layer ≡ NB))) → at ≡ layer
    → (at ≢ NP) × (at ≢ ND)
neither_of layer at (inl e) same = (λ f. (cc), λ f. (cc))
neither_of layer at (inr (inl e)) same = (λ f. (cc), λ f. (cc))
neither_of layer at (inr (inr (inl e))) same = (λ f. (cc), λ f. (cc))
neither_of layer at (inr (inr (inr e))) same = (λ f. (cc), λ f. (cc))

-- the unvisited tree of the layer that makes buried pairs with that of a box has been looked through
reached_from : (g : Ground) (own facing : MaskLayer) (box_no : ℕ) (box : MaskBox) (query : Query) {net : ℕ}
    {search with : Search} {old new : UnvisitedTree} → box_no < length g.boxes.now
    → box ≡ get_or g.boxes.now box_no box → query ≡ over_query box.area box_no → box.layer ≡ own
    → AreFacing own facing → IsSearchOn g search
    → IsUnvisitedTreeOf (AreBoxEntries g.tech.now g.boxes.now (placed_on g) facing) search.frontier old
    → IsUnvisitedTreeReached (IsBuriedOf g.tech.now g.boxes.now (placed_on g) box_no old.parts.entries.items query) net
    old new search.frontier with.frontier
    → (IsSearchOn g (record search { frontier = with.frontier })
    → IsUnvisitedTreeOf (AreBoxEntries g.tech.now g.boxes.now (placed_on g) facing) with.frontier new
    → IsSearchOn g with)
    → IsStepOn g (IsPartner g.tech.now g.boxes.now (placed_on g) box_no) net search with
reached_from g own facing box_no box query {old = old} lt read asked on face s tree r made =
    let tech = g.tech.now in
    let boxes = g.boxes.now in
    let pieces = placed_on g in
    let entries = old.parts.entries.items in
    let is = get_or_read boxes box_no box lt read no_box in
    let at : layer_at boxes box_no ≡ own = sym (ap (λ (m : MaskBox). m.layer) is) ∙ on in
    let q : query ≡ over_query (area_at boxes box_no) box_no =
    asked ∙ ap (λ (m : MaskBox). over_query m.area box_no) is in
    step_grown (partners_forth tech boxes pieces facing box_no entries query tree.shows)
    (partners_back tech boxes pieces own facing box_no entries query face at q tree.shows) s tree r made

pub near-over-requires : goal.near-over-requires
near-over-requires c =
    rw (get_or_read c.args.ground.now.boxes.now c.args.box_no c.index-boxes-box_no.result c.requires.in_range
    c.index-boxes-box_no.is no_box) (c.requires.ground.searchable.placed c.args.box_no no_box c.requires.in_range)

pub reach_buried-requires-clause-tags : goal.reach_buried-requires-clause-tags
reach_buried-requires-clause-tags c =
    tags_within _ _ (λ a lt. lt) c.requires.search.under.shows

pub reach_buried-requires-in-ND-clause-tags : goal.reach_buried-requires-in-ND-clause-tags
reach_buried-requires-in-ND-clause-tags c =
    tags_within _ _ (λ a lt. lt) c.requires.search.over.shows

pub returns-in-NP : goal.returns-in-NP
returns-in-NP c =
    let s = c.requires.search in
    on_ok_weaker c.reach_buried.result
    (λ r. reached_from c.args.ground.now NP ND c.args.box_no _ c.near-over.result c.requires.in_range
    c.index-boxes-box_no.is c.near-over.ensures.is c.in-NP.is (inl (refl, refl)) s s.under r (λ k tree. assumption))
    c.reach_buried.ensures

pub returns-in-ND : goal.returns-in-ND
returns-in-ND c =
    let s = c.requires.search in
    on_ok_weaker c.reach_buried-in-ND.result
    (λ r. reached_from c.args.ground.now ND NP c.args.box_no _ c.near-over.result c.requires.in_range
    c.index-boxes-box_no.is c.near-over.ensures.is c.in-ND.is (inr (refl, refl)) s s.over r (λ k tree. assumption))
    c.reach_buried-in-ND.ensures

pub returns-in-NM : goal.returns-in-NM
returns-in-NM c =
    let g = c.args.ground.now in
    let box_no = c.args.box_no in
    let read = get_or_read g.boxes.now box_no c.index-boxes-box_no.result c.requires.in_range c.index-boxes-box_no.is
    no_box in
    let neither = neither_of c.index-boxes-box_no.result.layer (layer_at g.boxes.now box_no) c.in-NM.is
    (sym (ap (λ (m : MaskBox). m.layer) read)) in
    step_none g.tech.now g.boxes.now (placed_on g) _ c.args.net c.args.search.now
    (no_partner g.tech.now g.boxes.now (placed_on g) box_no neither.0 neither.1) c.requires.search
