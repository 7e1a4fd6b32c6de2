use Rattle.std.proofs.Common.{arith, [], ◌≡◌, ◌<◌, length, get_or, refl, ◌∙◌}
use Rattle.std.proofs.{Common.{ap, subst}, lemmas.{List.get_or_default, Result.on_ok_weaker}}
use Rattle.box_tree.specs.declared.query.Query.{Query}
use Rattle.lam_geom.specs.declared.boxes.{BoxXY.BoxXY, MaskBox.MaskBox, MaskLayer.{MaskLayer, TheVariants.{ND, NP, NM}}}
use Rattle.crossing_model.specs.Boxes.{area_at, no_box}
use Rattle.box_tree.proofs.Growth.{gathered_as}
use Rattle.net_extract.specs.{declared.lists.Kind.TheVariants.Over, Lists.IsIn}
use Rattle.net_extract.specs.{declared.searches.Search.Search, Linking.{AreBeside, cut_node}}
use Rattle.net_extract.specs.Spreading.{AnswersQuery, IsStep}
use Rattle.net_extract.proofs.{Beside.{beside_over, over_back, over_beside, over_forth}, Runs.listed_as}
use Rattle.net_extract.proofs.{Steps.gathered_within, Shown.over_query, Searched.{step_gathered, step_three}}
use Rattle.net_extract.proofs.searches.visit_cut.Goals as goal

pub near-over-requires : goal.near-over-requires
near-over-requires c =
    let boxes = c.args.ground.now.boxes.now in
    let cut = c.args.cut in
    let among : cut < length boxes = c.requires.joining.2.is_cut.among in
    rw (get_or_default boxes cut c.index-ground-cut.result no_box among)
    (c.requires.ground.searchable.placed cut no_box among)

pub returns : goal.returns
returns c =
    let boxes = c.args.ground.now.boxes.now in
    let cut = c.args.cut in
    let among : cut < length boxes = c.requires.joining.2.is_cut.among in
    let area : (get_or boxes cut c.index-ground-cut.result).area ≡ area_at boxes cut =
    ap (λ (m : MaskBox). m.area) (get_or_default boxes cut c.index-ground-cut.result no_box among) in
    let tech = c.args.ground.now.tech.now in
    let pieces = c.args.ground.now.pieces.now.placed.items in
    let net = c.args.net in
    let crossings = c.args.ground.now.pieces.now.crossings.items in
    let starts = c.args.ground.now.pieces.now.starts.items in
    let query = over_query (area_at boxes cut) cut in
    let is : c.near-over.result ≡ over_query (area_at boxes cut) cut = c.near-over.ensures.is
    ∙ ap (λ (s : BoxXY). over_query s cut) area in
    let F : MaskLayer → Search → Search → Query → Type 0 =
    λ layer old new q. IsStep tech boxes pieces (AnswersQuery boxes pieces layer q) net old new in
    let first = c.reach_pieces.new.search in
    let second = c.reach_pieces-2.new.search in
    let third = c.reach_pieces-3.new.search in
    step_three tech boxes pieces (AnswersQuery boxes pieces ND query) (AnswersQuery boxes pieces NP query)
    (AnswersQuery boxes pieces NM query) (AreBeside tech boxes pieces (cut_node pieces cut)) net c.args.search.now
    first second third
    (λ y h. over_beside tech boxes pieces cut c.requires.joining y (over_forth boxes pieces cut y h))
    (λ y h. over_back boxes crossings pieces starts cut c.requires.ground.pieces c.requires.joining.2.is_cut.on y
    (beside_over tech boxes pieces cut y h))
    (subst (F ND c.args.search.now first) is c.in_ok-reach_pieces.ensures)
    (subst (F NP first second) is c.in_ok-reach_pieces-2.ensures)
    (subst (F NM second third) is c.in_ok-reach_pieces-3.ensures)

pub visit-requires : goal.visit-requires
visit-requires c =
    let boxes = c.args.ground.now.boxes.now in
    let pieces = c.args.ground.now.pieces.now.placed.items in
    let n = c.requires.search.counted in
    let told = c.in-Some.ensures in
    gathered_within (IsIn Over boxes pieces c.args.cut) (length c.args.search.now.frontier.marks.items)
    c.in-Some.nodes.now c.in-Some.nodes.now refl
    (λ y h. (let lt = h.1.among in omega arith))
    (listed_as (IsIn Over boxes pieces) (length boxes) c.args.cut c.args.search.now.lists.over c.in-Some.nodes.now
    c.requires.search.lists.over told.0 told.1)

pub returns-in-Some : goal.returns-in-Some
returns-in-Some c =
    let tech = c.args.ground.now.tech.now in
    let boxes = c.args.ground.now.boxes.now in
    let pieces = c.args.ground.now.pieces.now.placed.items in
    let cut = c.args.cut in
    let told = c.in-Some.ensures in
    let nodes = c.in-Some.nodes.now in
    on_ok_weaker c.visit.result
    (step_gathered nodes nodes refl
    (gathered_as (IsIn Over boxes pieces cut) (AreBeside tech boxes pieces (cut_node pieces cut)) [] nodes
    (λ y h. over_beside tech boxes pieces cut h.0 y h.1)
    (λ y b. (c.requires.joining, beside_over tech boxes pieces cut y b))
    (listed_as (IsIn Over boxes pieces) (length boxes) cut c.args.search.now.lists.over nodes
    c.requires.search.lists.over told.0 told.1))
    c.requires.search)
    c.visit.ensures
