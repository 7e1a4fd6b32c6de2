use Rattle.std.proofs.Common.{◌≡◌, ◌<◌, ◌++◌, ◌∷◌, [], List, ℕ, nat_eq, length, Some, set, sym, subst, rules, arith}
use Rattle.std.{proofs.lemmas.List.Elements.All-push, specs.List.{All, IsDistinct}}
use Rattle.grid_plan.proofs.Placing.{Placed, distinct_more, few_distinct, not_there, placed_more}
use Rattle.grid_plan.proofs.masters.Masters.push.Goals as goal

pub overflow_cast-place : goal.overflow_cast-place
overflow_cast-place c =
    let old = c.args.self.now in
    let few = few_distinct old.cells.items old.apart old.below in
    let many = c.len-place.ensures in
    grind (arith, old.cells.ok.0)

pub invariant_of-self-2 : goal.invariant_of-self-2
invariant_of-self-2 c =
    let old = c.args.self.now in
    let cell = c.args.cell in
    let xs = old.cells.items in
    let e : c.push.new.self.items ≡ xs ++ cell ∷ [] = c.in_ok-push.ensures.items in
    let few = few_distinct xs old.apart old.below in
    let many : c.len-place.result ≡ length xs = omega (arith, c.len-place.ensures, old.cells.ok.0) in
    let D : List ℕ → Type 0 = IsDistinct nat_eq in
    let B : List ℕ → Type 0 = All (λ k. k < 256) in
    let T : List ℕ → Type 0 = Placed (set old.places.items cell (Some c.len-place.result)) in
    let U : ℕ → Type 0 = λ place. Placed (set old.places.items cell (Some place)) (xs ++ cell ∷ []) in
    record {
      room = search rules;
      apart = subst D (sym e) (distinct_more xs cell old.apart (not_there xs cell c.requires.new));
      below = subst B (sym e) (All-push (λ k. k < 256) xs cell old.below c.requires.below);
      told = subst T (sym e)
          (subst U (sym many)
          (placed_more old.places.items xs cell (omega (arith, old.room, old.places.ok.0)) c.requires.below
          c.requires.new old.told));
    }
