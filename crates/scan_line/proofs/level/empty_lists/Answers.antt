use Rattle.std.proofs.Common.{◌≡◌, ℕ, zero, suc, ◌+◌, List, [], ◌∷◌, ◌++◌, length, get_or, map, refl, ap, ◌∙◌, Vec}
use Rattle.std.proofs.{Common.Global, lemmas.List.{map_push, length_push}}
use Rattle.scan_line.specs.Levels.{list_at}
use Rattle.scan_line.proofs.level.empty_lists.Goals as goal

-- one empty list more
still_empty : (lists : List (List ℕ)) → ((t : ℕ) → get_or lists t [] ≡ []) → (t : ℕ)
    → get_or (lists ++ [] ∷ []) t [] ≡ []
still_empty [] h zero = refl
still_empty [] h (suc t) = refl
still_empty (x ∷ xs) h zero = h 0
still_empty (x ∷ xs) h (suc t) = still_empty xs (λ u. h (suc u)) t

pub loop-preserved : goal.loop-preserved
loop-preserved c =
    let pushed = c.in_ok-push.ensures.items in
    let items : Vec ℕ Global → List ℕ = λ v. v.items in
    let lists = map items c.loop.lists.items in
    record {
      counted = ap length pushed
          ∙ (length_push c.loop.lists.items c.new.result ∙ ap (λ (n : ℕ). n + 1) c.loop.invariant.counted);
      empty = λ t. ap (λ (ls : List (Vec ℕ Global)). list_at ls t) pushed
          ∙ (ap (λ (ks : List (List ℕ)). get_or ks t []) (map_push items c.loop.lists.items c.new.result)
          ∙ (ap (λ (k : List ℕ). get_or (lists ++ k ∷ []) t []) c.new.ensures.items
          ∙ still_empty lists c.loop.invariant.empty t));
    }
