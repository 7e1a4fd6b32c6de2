-- What is made before the list of a pass is put together, out of the list in which it was made.
use Rattle.std.proofs.Common.{◌≡◌, ℕ, suc, ◌+◌, ◌-◌, ◌<◌, List, ◌∷◌, length, map, get_or, ap, subst, arith}
use Rattle.std.proofs.lemmas.List.{length-map, get_or-map}
use Rattle.lam_geom.specs.declared.boxes.Axis.{Axis}
use Rattle.rule_table.specs.declared.technology.Tech.{Tech}
use Rattle.sym_items.specs.declared.items.Coords.{Coords}
use Rattle.expand.specs.declared.master.Master.{Master}
use Rattle.pitch_join.specs.Joined.{kept_edges_at}
use Rattle.plan_model.specs.declared.plan.Plan.{Plan}
use Rattle.pass_run.specs.declared.ready.{Ready.{Ready, TheVariants.{Order, Fixed, Kept}}, Prepared.Prepared}
use Rattle.pass_run.specs.{Ready.{IsOfNumber, IsPrepared, IsReady}, Found.IsFound}

module _ (axis : Axis) (tech : Tech) (plan : Plan) (masters : List Master) (layouts : List Coords) where
  abbrev Is : ℕ → Ready → Type 0
  Is = IsReady axis tech plan masters layouts

  pub of_kind : (k : ℕ) (one : Ready) → Is k one → IsOfNumber k one
  of_kind k (Order order) is = is.0
  of_kind k (Fixed joint) is = is.0
  of_kind k (Kept found) is = is.0

  pub all_prepared : (made : List Ready) (all : Prepared) → length made ≡ length masters + 2
      → ((k : ℕ) (d : Ready) → k < length masters + 2 → Is k (get_or made k d))
      → made ≡ Order all.order ∷ (Fixed all.joint ∷ map Kept all.found.items)
      → IsPrepared axis tech plan masters layouts all
  all_prepared made all counted each is =
      let found = all.found.items in
      let list : List Ready = Order all.order ∷ (Fixed all.joint ∷ map Kept found) in
      let each_of : (k : ℕ) (d : Ready) → k < length masters + 2 → Is k (get_or list k d) =
      subst (λ (l : List Ready). (k : ℕ) (d : Ready) → k < length masters + 2 → Is k (get_or l k d)) is each in
      let long = ap (λ (l : List Ready). length l) is in
      let own = length-map found Kept in
      record {
        order = (each_of 0 (Order all.order) (omega arith)).1;
        joint = (each_of 1 (Order all.order) (omega arith)).1;
        found = record {
          one_each = omega (arith, long, own, counted);
          each = λ m d lt.
              let e : suc (suc m) - 2 ≡ m = omega arith in
              subst (λ k. IsFound (kept_edges_at axis tech masters layouts k) (get_or found m d)) e
              (subst (Is (suc (suc m)))
              (get_or-map Kept found m d (Order all.order) (omega (arith, long, own, counted, lt)))
              (each_of (suc (suc m)) (Order all.order) (omega (arith, lt)))).1;
        };
      }
