use Rattle.std.proofs.Common.{◌≡◌, ◌<◌, List, length, refl, sym, ap, ◌∙◌, subst, arith}
use Rattle.std.proofs.lemmas.{Option.slice_get_within, List.Elements.{All-same, All-weaker}}
use Rattle.pair_rules.specs.{declared.pairs.Pair.Pair, Candidates.candidates_to}
use Rattle.scan_line.specs.{declared.scan.Near.Near, Scan.{AreFirstOf, order_of, come_to}}
use Rattle.scan_line.proofs.PairRuns.{IsPairTo, all_to}
use Rattle.scan_line.proofs.scan.Scan.advance.Goals as goal

pub take_first-requires : goal.take_first-requires
take_first-requires c =
    let scan = c.args.self.now in
    let t = scan.tech.now in
    let k = scan.coords.now in
    let items = scan.items.now in
    let P : Pair → Type 0 = λ p. p.i < length items in
    All-same P c.as_slice.result.now (candidates_to scan.axis t k items c.in-Some.j)
    (c.as_slice.ensures.value ∙ c.in_ok-candidates.ensures)
    (All-weaker (IsPairTo scan.axis t k items c.in-Some.j) P (λ p h. h.among)
    (candidates_to scan.axis t k items c.in-Some.j) (all_to scan.axis t k items c.in-Some.j))

pub returns-clause-scan : goal.returns-clause-scan
returns-clause-scan c =
    let scan = c.args.self.now in
    let items = scan.items.now in
    let all = candidates_to scan.axis scan.tech.now scan.coords.now items c.in-Some.j in
    let within = slice_get_within (order_of scan) (come_to scan) c.in-Some.j (sym c.in-Some.ensures) in
    let taken : AreFirstOf items all c.take_first.new.near.items =
    subst (λ (ps : List Pair). AreFirstOf items ps c.take_first.new.near.items)
    (c.as_slice.ensures.value ∙ c.in_ok-candidates.ensures) c.in_ok-take_first.ensures in
    let there : c.take_first.new.near.items ≡ c.swap.new.x.items = sym (ap (λ v. v.items) c.swap.ensures.x_after) in
    record {
      few = c.requires.few;
      boxes = c.requires.boxes;
      lanes = c.requires.lanes;
      come = omega (arith, within);
      before = subst (λ (near : List Near). AreFirstOf items all near) there taken;
    }

pub returns-clause-next : goal.returns-clause-next
returns-clause-next c =
    let scan = c.args.self.now in
    let within = slice_get_within (order_of scan) (come_to scan) c.in-Some.j (sym c.in-Some.ensures) in
    record {
      same = record { axis = refl; tech = refl; layout = refl; items = refl; order = refl };
      next = c.in-Some.ensures;
      present = refl;
      come = omega (arith, within);
    }
