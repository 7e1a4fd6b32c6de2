use Rattle.std.proofs.{Common.{◌≡◌, ℕ}, lemmas.Result.on_ok_weaker}
use Rattle.box_tree.specs.{declared.{query.Query.Query, unvisited_trees.UnvisitedTree.UnvisitedTree}, Queries.Holds}
use Rattle.box_tree.specs.UnvisitedTrees.{IsOf}
use Rattle.lam_geom.specs.declared.boxes.MaskLayer.{MaskLayer}
use Rattle.net_extract.specs.declared.{ground.Ground.Ground, searches.Search.Search}
use Rattle.net_extract.specs.{Entries.ArePieceEntries, Grounds.{IsSearchOn, IsStepOn, placed_on}}
use Rattle.net_extract.specs.Spreading.{AnswersQuery, IsUnvisitedTreeOf, IsUnvisitedTreeReached}
use Rattle.net_extract.proofs.{Beside.{answers_forth, answers_back}, Searched.step_grown}
use Rattle.net_extract.proofs.searches.reach_pieces.Goals as goal

-- the unvisited tree of a layer has been looked through
reached_on : (g : Ground) (layer on : MaskLayer) (query : Query) {net : ℕ} {search with : Search}
    {old new : UnvisitedTree} → layer ≡ on → IsSearchOn g search
    → IsUnvisitedTreeOf (ArePieceEntries g.boxes.now (placed_on g) on) search.frontier old
    → IsUnvisitedTreeReached (IsOf old.parts.entries.items (Holds query)) net old new search.frontier with.frontier
    → (IsSearchOn g (record search { frontier = with.frontier })
    → IsUnvisitedTreeOf (ArePieceEntries g.boxes.now (placed_on g) on) with.frontier new → IsSearchOn g with)
    → IsStepOn g (AnswersQuery g.boxes.now (placed_on g) layer query) net search with
reached_on g layer on query {old = old} is s tree r made =
    let entries = old.parts.entries.items in
    rw is
    (step_grown (answers_forth g.boxes.now (placed_on g) on entries query tree.shows)
    (answers_back g.boxes.now (placed_on g) on entries query tree.shows) s tree r made)

pub returns-in-ND : goal.returns-in-ND
returns-in-ND c =
    let s = c.requires.search in
    on_ok_weaker c.reach.result
    (λ r. reached_on c.args.ground.now c.args.layer _ c.args.query.now c.in-ND.is s s.diffusion r (λ k tree. assumption))
    c.reach.ensures

pub returns-in-NP : goal.returns-in-NP
returns-in-NP c =
    let s = c.requires.search in
    on_ok_weaker c.reach-in-NP.result
    (λ r. reached_on c.args.ground.now c.args.layer _ c.args.query.now c.in-NP.is s s.poly r (λ k tree. assumption))
    c.reach-in-NP.ensures

pub returns-in-NM : goal.returns-in-NM
returns-in-NM c =
    let s = c.requires.search in
    on_ok_weaker c.reach-in-NM.result
    (λ r. reached_on c.args.ground.now c.args.layer _ c.args.query.now c.in-NM.is s s.metal r (λ k tree. assumption))
    c.reach-in-NM.ensures
