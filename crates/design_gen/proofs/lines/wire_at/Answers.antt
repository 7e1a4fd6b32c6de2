use Rattle.std.proofs.Common.{◌≡◌, ◌-◌, ◌<◌, ◌*◌, ℕ, List, map, get_or, Some, None, sym, ap, ◌∙◌, arith}
use Rattle.stick_text.specs.declared.design.Form.TheVariants as forms
use Rattle.stick_text.specs.declared.design.Layer.TheVariants as layers
use Rattle.design_gen.specs.{declared.draws.Point.Point, Draws.{point_at, points}, Made.{name_at, are_joined}}
use Rattle.design_gen.proofs.{Growing.{length_drawn, drawn_at}, Wires.{wire_there, none_first, none_apart}}
use Rattle.design_gen.proofs.lines.wire_at.Goals.{then-k-n-eq0-via-then-k-n-eq0}
use Rattle.design_gen.proofs.lines.wire_at.Goals.{then-k-n-eq0-via-else-k-n-eq0+then-not-are_joined}
use Rattle.design_gen.proofs.lines.wire_at.Goals as goal

-- what the code reads of a point and its left neighbour is what is drawn for them
read : (n k : ℕ) (drawn : List Point) (d e : Point) → drawn ≡ map (point_at n) (points n) → k < n * n
    → are_joined (get_or drawn (k - 1) d) (get_or drawn k e) ≡ are_joined (point_at n (k - 1)) (point_at n k)
read n k drawn d e same lt =
    let before : k - 1 < n * n = omega arith in
    ap (λ p. are_joined p (get_or drawn k e)) (drawn_at n (k - 1) drawn d same before)
    ∙ ap (are_joined (point_at n (k - 1))) (drawn_at n k drawn e same lt)

pub bounds-drawn-k : goal.bounds-drawn-k
bounds-drawn-k c = omega (arith, length_drawn c.args.n c.args.drawn.now c.requires.drawn)

pub bounds-drawn-k-else-k-n-eq0 : goal.bounds-drawn-k-else-k-n-eq0
bounds-drawn-k-else-k-n-eq0 c = omega (arith, length_drawn c.args.n c.args.drawn.now c.requires.drawn)

pub returns-then-k-n-eq0 : goal.returns-then-k-n-eq0
returns-then-k-n-eq0 c = elim c.then-k-n-eq0.branch [
  | then-k-n-eq0-via-then-k-n-eq0 w ↦ sym (none_first c.args.n c.args.k w.if-k-n-eq0.true)
  | then-k-n-eq0-via-else-k-n-eq0+then-not-are_joined w ↦
      sym (none_apart c.args.n c.args.k
      (sym (read c.args.n c.args.k c.args.drawn.now _ _ c.requires.drawn c.requires.within)
      ∙ sym w.are_joined.ensures ∙ w.if-not-are_joined.true))
]

same_wire : (a b c d : List ℕ) → a ≡ c → b ≡ d
    → Some (forms.Wire layers.Metal a b None) ≡ Some (forms.Wire layers.Metal c d None)
same_wire a b c d e f = cc

pub returns : goal.returns
returns c =
    let there = wire_there c.args.n c.args.k c.if-k-n-eq0.false
    (sym (read c.args.n c.args.k c.args.drawn.now _ _ c.requires.drawn c.requires.within)
    ∙ sym c.are_joined.ensures ∙ c.if-not-are_joined.false) in
    same_wire c.in_ok-a.a c.in_ok-b.b (name_at c.args.n (c.args.k - 1)) (name_at c.args.n c.args.k) c.in_ok-a.ensures
    c.in_ok-b.ensures ∙ sym there
