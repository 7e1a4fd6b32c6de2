use Rattle.std.proofs.{Common.{arith, ◌≡◌, ℕ, ◌+◌, ◌<◌, None, Some, sym, ◌∙◌, subst}, lemmas.List.get_or_read}
use Rattle.std.specs.Prelude.{max}
use Rattle.graph_search.{specs.Search.{mark_of, AreWhole}, proofs.Spreading.{whole_more, whole_below}}
use Rattle.net_extract.{proofs.Nodes.beside_back, specs.Grounds.AreBesideOn}
use Rattle.net_extract.proofs.nets.net_of.Goals as goal

pub returns-in-Some : goal.returns-in-Some
returns-in-Some c =
    let marks = c.args.search.now.frontier.marks.items in
    let n = c.requires.search.counted in
    let lt = c.requires.in_range in
    let there : mark_of marks c.args.a ≡ Some c.in-Some.net =
    sym (get_or_read marks c.args.a c.index.result.now (omega arith) c.index.ensures None) ∙ c.in-Some.is in
    let below : c.in-Some.net < c.args.next = c.requires.whole.below c.args.a c.in-Some.net there in
    record {
      search = c.requires.search;
      kept = λ k m e. e;
      net = there;
      whole = whole_below (AreBesideOn c.args.ground.now) c.args.next (max c.args.next (c.in-Some.net + 1)) marks
          (omega arith) c.requires.whole;
      below = omega arith;
    }

pub spread-requires : goal.spread-requires
spread-requires c =
    let marks = c.args.search.now.frontier.marks.items in
    let n = c.requires.search.counted in
    let lt = c.requires.in_range in
    record {
      ground = c.requires.ground;
      search = c.requires.search;
      in_range = c.requires.in_range;
      unmarked = sym (get_or_read marks c.args.a c.index.result.now (omega arith) c.index.ensures None)
          ∙ c.in_default.is;
    }

pub returns : goal.returns
returns c =
    let Beside : ℕ → ℕ → Type 0 = AreBesideOn c.args.ground.now in
    let new = c.spread.new.search.frontier.marks.items in
    let P : ℕ → Type 0 = λ n. AreWhole Beside n new in
    let e : c.args.next + 1 ≡ max c.args.next (c.args.next + 1) = omega arith in
    let s = c.in_ok-spread.ensures.spread in
    record {
      search = c.in_ok-spread.ensures.search;
      kept = s.kept;
      net = s.begun;
      whole = subst P e
          (whole_more Beside c.args.a c.args.next c.args.search.now.frontier.marks.items new
          (beside_back c.args.ground.now.tech.now c.args.ground.now.boxes.now
          c.args.ground.now.pieces.now.placed.items) c.requires.whole s);
      below = omega arith;
    }
