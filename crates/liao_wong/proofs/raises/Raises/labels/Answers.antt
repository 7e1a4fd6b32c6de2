use Rattle.std.proofs.Common.{◌≡◌, ℕ, ◌+◌, ◌<◌, ℤ, pos, List, [], ◌∷◌, ◌++◌, length, get_or, unwrap_or, of_z, to_z, w64}
use Rattle.std.proofs.Common.{ap, ◌∙◌, arith}
use Rattle.std.proofs.lemmas.{Int.{ints, to_z-of_z}, List.{get_or_push, get_or_append_left, length_push}}
use Rattle.round_log.specs.{declared.log.Entry.Entry, Looks.label}
use Rattle.liao_wong.specs.Held.{Held}
use Rattle.liao_wong.proofs.raises.Raises.labels.Goals as goal
use borrow.Author.Count.{below_more}

-- one more label
label_more : (x y : List ℤ) (rs : List Entry) (v : ℕ) (z : ℤ) → length x ≡ v
    → ((u : ℕ) → u < v → get_or x u (pos 0) ≡ unwrap_or (label rs u) (pos 0)) → y ≡ x ++ z ∷ []
    → z ≡ unwrap_or (label rs v) (pos 0) → (u : ℕ) → u < v + 1 → get_or y u (pos 0) ≡ unwrap_or (label rs u) (pos 0)
label_more x y rs v z len are pushed is =
    below_more (λ u. get_or y u (pos 0) ≡ unwrap_or (label rs u) (pos 0)) v
    (λ u lt. ap (λ l. get_or l u (pos 0)) pushed ∙ get_or_append_left x (z ∷ []) (pos 0) u (omega arith) ∙ are u lt)
    (ap (λ l. get_or l v (pos 0)) pushed ∙ get_or_push x z (pos 0) v len ∙ is)

pub loop-v-preserved : goal.loop-v-preserved
loop-v-preserved c =
    let x = c.loop-v.labels.items in
    let y = c.push.new.self.items in
    let fits = c.unwrap_or.type_inv in
    let same = to_z-of_z w64 c.unwrap_or.result (omega (arith, ints, fits)) in
    let z = to_z w64 (of_z w64 c.unwrap_or.result) in
    let so_far = c.loop-v.invariant.so_far in
    let pushed = c.in_ok-push.ensures.items in
    record {
      so_far = ap length pushed ∙ length_push x z ∙ ap (λ n. n + 1) so_far;
      are = label_more x y c.args.self.now.raises c.loop-v.v z so_far c.loop-v.invariant.are pushed
          (same ∙ c.unwrap_or.ensures ∙ ap (λ o. unwrap_or o (pos 0)) c.label.ensures);
    }

pub returns-clause-labels : goal.returns-clause-labels
returns-clause-labels c = λ v lt.
    let all = ap (λ (h : Held). h.vars) c.self.view_is in
    let end = c.loop-v-test.false in
    let len = c.len-v-end.ensures in
    c.loop-v.invariant.are v (omega (arith, lt, all, end, len))
