use Rattle.std.proofs.Common.{arith, ◌≡◌, ℕ, length, refl, ◌∙◌, ap, subst}
use Rattle.std.proofs.lemmas.Result.{on_ok_weaker}
use Rattle.box_tree.specs.declared.query.Query.{Query}
use Rattle.lam_geom.specs.declared.boxes.{MaskBox.MaskBox, MaskLayer.MaskLayer}
use Rattle.crossing_model.specs.Boxes.{layer_at}
use Rattle.box_pieces.specs.{declared.placing.Placed.Placed, Pieces.{box_of, area_of, no_piece, piece_at}}
use Rattle.net_extract.specs.{Linking.IsTouch, Spreading.{AnswersQuery, IsStep}}
use Rattle.net_extract.proofs.Beside.{touch_forth, touch_back, touch_query}
use Rattle.net_extract.proofs.{Searched.{piece_placed, step_as, step_gathered}, Shown.{piece_read, own_box}}
use Rattle.net_extract.proofs.{Steps.gathered_within, Runs.listed_as}
use Rattle.net_extract.proofs.searches.reach_touching.Goals as goal

pub visit-requires : goal.visit-requires
visit-requires c =
    let boxes = c.args.ground.now.boxes.now in
    let pieces = c.args.ground.now.pieces.now.placed.items in
    let n = c.requires.search.counted in
    let told = c.in-Some.ensures in
    gathered_within (IsTouch boxes pieces c.args.a) (length c.args.search.now.frontier.marks.items)
    c.in-Some.nodes.now c.in-Some.nodes.now refl
    (λ y t. (let lt = t.apart.second in omega arith))
    (listed_as (IsTouch boxes pieces) (length pieces) c.args.a c.args.search.now.touching c.in-Some.nodes.now
    c.requires.search.touching told.0 told.1)

pub returns-in-Some : goal.returns-in-Some
returns-in-Some c =
    let boxes = c.args.ground.now.boxes.now in
    let pieces = c.args.ground.now.pieces.now.placed.items in
    let told = c.in-Some.ensures in
    let nodes = c.in-Some.nodes.now in
    on_ok_weaker c.visit.result
    (step_gathered nodes nodes refl
    (listed_as (IsTouch boxes pieces) (length pieces) c.args.a c.args.search.now.touching nodes
    c.requires.search.touching told.0 told.1)
    c.requires.search)
    c.visit.ensures

pub near-touching-requires : goal.near-touching-requires
near-touching-requires c =
    let pieces = c.args.ground.now.pieces.now in
    rw (piece_read pieces.placed.items c.args.a c.index.result.now c.requires.in_range c.index.ensures)
    (piece_placed c.args.ground.now.boxes.now pieces.crossings.items pieces.placed.items pieces.starts.items c.args.a
    c.requires.ground.searchable c.requires.ground.pieces c.requires.in_range)

pub reach_pieces-requires-clause-conducts : goal.reach_pieces-requires-clause-conducts
reach_pieces-requires-clause-conducts c =
    let boxes = c.args.ground.now.boxes.now in
    let pieces = c.args.ground.now.pieces.now in
    rw (own_box boxes pieces.crossings.items pieces.placed.items pieces.starts.items c.args.a c.index.result.now
    c.index-ground-piece.result c.requires.ground.pieces c.requires.in_range c.index.ensures)
    (c.requires.ground.pieces.each c.args.a no_piece c.requires.in_range).conducts

pub returns : goal.returns
returns c =
    let tech = c.args.ground.now.tech.now in
    let boxes = c.args.ground.now.boxes.now in
    let pieces = c.args.ground.now.pieces.now in
    let placed = pieces.placed.items in
    let a = c.args.a in
    let net = c.args.net in
    let piece : Placed = c.index.result.now in
    let is : piece ≡ piece_at placed a = piece_read placed a piece c.requires.in_range c.index.ensures in
    let own = own_box boxes pieces.crossings.items placed pieces.starts.items a piece c.index-ground-piece.result
    c.requires.ground.pieces c.requires.in_range c.index.ensures in
    let Step : (ℕ → Type 0) → Type 0 = λ Is. IsStep tech boxes placed Is net c.args.search.now
    c.reach_pieces.new.search in
    let L : MaskLayer → Type 0 = λ layer. Step (AnswersQuery boxes placed layer c.near-touching.result) in
    let Q : Query → Type 0 = λ query. Step (AnswersQuery boxes placed (layer_at boxes (box_of placed a)) query) in
    on_ok_weaker c.reach_pieces.result
    (λ s. step_as tech boxes placed (AnswersQuery boxes placed (layer_at boxes (box_of placed a))
    (touch_query (area_of placed a) (box_of placed a))) (IsTouch boxes placed a) net c.args.search.now
    c.reach_pieces.new.search (touch_forth boxes placed a c.requires.in_range) (touch_back boxes placed a)
    (subst Q (c.near-touching.ensures.is ∙ ap (λ (p : Placed). touch_query p.area p.box_no) is)
    (subst L (ap (λ (m : MaskBox). m.layer) own) s)))
    c.reach_pieces.ensures
