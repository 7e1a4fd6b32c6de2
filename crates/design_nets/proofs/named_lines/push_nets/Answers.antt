use Rattle.smallvec.specs.SmallVec.{SmallVec}
use Rattle.std.proofs.Common.{ℕ, ◌<◌, List, [], ◌∷◌, ◌++◌, length, map, All, sym, ap, ◌∙◌, ◌≡◌, subst, arith}
use Rattle.std.{proofs.lemmas.List.get_or_default, specs.List.flat_map}
use Rattle.list_facts.proofs.Pieces.{piece_added}
use Rattle.net_list.specs.{declared.counting.PieceCounts.PieceCounts, Counts.{no_pieces, counts_words}}
use Rattle.net_list.proofs.Joined.{three_added}
use Rattle.design_nets.specs.{declared.named_parts.NamedPart.NamedPart, Listing.list_in, NamedLines.line_of_parts}
use Rattle.design_nets.{specs.{NamedNets.{name_of, spaced}, NamedParts.IsNamedPart}, proofs.Listing.list_read}
use Rattle.design_nets.proofs.named_lines.push_nets.Goals as goal

pub push_names-requires : goal.push_names-requires
push_names-requires c =
    let parts = c.args.parts.now in
    let net = c.loop-net.net in
    let lt : net < length parts =
    (let test = c.loop-net-test.true in let counted = c.requires.counted in omega (arith, test, counted)) in
    let read = c.as_slice.ensures
    ∙ (ap (λ (v : SmallVec NamedPart). v.items) c.index-parts-net.is
    ∙ list_read parts net c.index-parts-net.result lt) in
    subst (λ (ps : List NamedPart). All (IsNamedPart c.args.masters.now c.args.instances.now) ps) (sym read)
    (c.requires.named net)

pub loop-net-preserved : goal.loop-net-preserved
loop-net-preserved c =
    let parts = c.args.parts.now in
    let counts = c.args.counts.now in
    let net = c.loop-net.net in
    let name : NamedPart → List ℕ = name_of c.args.grids.now c.args.masters.now c.args.instances.now in
    let lt : net < length parts =
    (let test = c.loop-net-test.true in let counted = c.requires.counted in omega (arith, test, counted)) in
    let read = c.as_slice.ensures
    ∙ (ap (λ (v : SmallVec NamedPart). v.items) c.index-parts-net.is
    ∙ list_read parts net c.index-parts-net.result lt) in
    let line : c.push.new.self.items ≡ c.loop-net.out.items ++ line_of_parts name counts parts net =
    three_added c.loop-net.out.items _ (flat_map spaced (map name (list_in parts net))) (10 ∷ []) _ _ _
    (c.in_ok-push_net.ensures
    ∙ ap (λ (count : PieceCounts). c.loop-net.out.items ++ counts_words net count)
    (get_or_default counts net _ no_pieces c.loop-net-test.true))
    (c.in_ok-push_names.ensures
    ∙ ap (λ (ps : List NamedPart). c.push_net.new.out.items ++ flat_map spaced (map name ps)) read)
    c.in_ok-push.ensures.items in
    piece_added (line_of_parts name counts parts) net c.args.out.now.items c.loop-net.out.items c.push.new.self.items
    c.loop-net.invariant line
