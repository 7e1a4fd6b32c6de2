-- The queue of those that wait: what comes and what goes.
use Rattle.std.proofs.Common.{◌≡◌, ℕ, ◌<◌, ◌≤◌, Bool, true, false, List, [], ◌∷◌, ◌++◌, inl, inr, length, get_or, set}
use Rattle.std.proofs.{Common.{refl, sym, subst, ◌∙◌, arith}, lemmas.{Bool.{cases_eq, true≢false}, List.length-set}}
use Rattle.std.proofs.lemmas.List.{get_or-set_same, get_or-set_other, FromFn.length-range_with_len}
use Rattle.std.specs.List.{range_with_len}
use Rattle.round_log.proofs.{Chains.In, Members.{In-append, In-append-left, In-append-right, In-range-from, IsDistinct}}
use Rattle.round_log.proofs.Members.{length_of_distinct}
use Rattle.edit_session.specs.Queues.{IsQueueOf}

-- distinct numbers below n are at most n
few_below : (queue : List ℕ) (n : ℕ) → IsDistinct queue → ((v : ℕ) → In v queue → v < n) → length queue ≤ n
few_below queue n d h =
    let few : length queue ≤ length (range_with_len 0 n) =
    length_of_distinct queue (range_with_len 0 n) d
    (λ v i. In-range-from v 0 n (omega arith) (let lt = h v i in omega (arith, lt))) in
    let all : length (range_with_len 0 n) ≡ n = length-range_with_len 0 n in
    omega (arith, few, all)

-- one that does not wait is not in the queue
not_in : (queue : List ℕ) (marks : List Bool) (room v : ℕ) → IsQueueOf queue marks room → get_or marks v false ≡ false
    → In v queue → ⊥
not_in queue marks room v h idle i = true≢false (sym (h.marked v i) ∙ idle)

-- there is room for one that does not wait
pub room_for : (queue : List ℕ) (marks : List Bool) (room v : ℕ) → IsQueueOf queue marks room → v < length marks
    → get_or marks v false ≡ false → length queue < room
room_for queue marks room v h lt idle =
    let below : (u : ℕ) → In u (v ∷ queue) → u < length marks = λ u i. elim i as (λ _. u < length marks) [
      | inl e ↦ (let P : ℕ → Type 0 = λ w. w < length marks in subst P e lt)
      | inr j ↦ h.in_range u j
    ] in
    let few : length (v ∷ queue) ≤ length marks =
    few_below (v ∷ queue) (length marks) (λ i. not_in queue marks room v h idle i, h.once) below in
    let enough : length marks ≤ room = h.enough in
    omega (arith, few, enough)

distinct_push : (queue : List ℕ) (v : ℕ) → IsDistinct queue → (In v queue → ⊥) → IsDistinct (queue ++ v ∷ [])
distinct_push [] v d n = (λ i. i, tt)
distinct_push (u ∷ queue) v d n = (
  λ i. elim (In-append u queue (v ∷ []) i) as (λ _. ⊥) [
    | inl j ↦ d.0 j
    | inr j ↦ elim j as (λ _. ⊥) [ inl e ↦ n (inl (sym e)) | inr k ↦ k ]
  ],
  distinct_push queue v d.1 (λ i. n (inr i)),
)

-- one comes
pub queue_push : (queue : List ℕ) (marks : List Bool) (room v : ℕ) → IsQueueOf queue marks room → v < length marks
    → get_or marks v false ≡ false → IsQueueOf (queue ++ v ∷ []) (set marks v true) room
queue_push queue marks room v h lt idle =
    let same : length (set marks v true) ≡ length marks = length-set marks v true in
    let here : get_or (set marks v true) v false ≡ true = get_or-set_same marks v true false lt in
    record {
      in_range = λ u i. elim (In-append u queue (v ∷ []) i) as (λ _. u < length (set marks v true)) [
        | inl j ↦ (let l : u < length marks = h.in_range u j in omega (arith, l, same))
        | inr j ↦ elim j as (λ _. u < length (set marks v true)) [
          | inl e ↦ (let P : ℕ → Type 0 = λ w. w < length (set marks v true) in subst P e (omega (arith, lt, same)))
          | inr k ↦ absurd k
        ]
      ];
      marked = λ u i. elim (cases_eq u v) as (λ _. get_or (set marks v true) u false ≡ true) [
        | inl e ↦ (let P : ℕ → Type 0 = λ w. get_or (set marks v true) w false ≡ true in subst P (sym e) here)
        | inr n ↦ get_or-set_other marks v u true false n
            ∙ elim (In-append u queue (v ∷ []) i) as (λ _. get_or marks u false ≡ true) [
              | inl j ↦ h.marked u j
              | inr j ↦ elim j as (λ _. get_or marks u false ≡ true) [ inl e ↦ absurd (n (sym e)) | inr k ↦ absurd k ]
            ]
      ];
      listed = λ u m. elim (cases_eq u v) as (λ _. In u (queue ++ v ∷ [])) [
        | inl e ↦ In-append-right u queue (v ∷ []) (inl (sym e))
        | inr n ↦ In-append-left u queue (v ∷ []) (h.listed u (sym (get_or-set_other marks v u true false n) ∙ m))
      ];
      once = distinct_push queue v h.once (not_in queue marks room v h idle);
      enough = (let e : length marks ≤ room = h.enough in omega (arith, e, same));
    }

-- the first one goes
pub queue_pop : (queue : List ℕ) (marks : List Bool) (room v : ℕ) → IsQueueOf (v ∷ queue) marks room
    → IsQueueOf queue (set marks v false) room
queue_pop queue marks room v h =
    let same : length (set marks v false) ≡ length marks = length-set marks v false in
    let lt : v < length marks = h.in_range v (inl refl) in
    let here : get_or (set marks v false) v false ≡ false = get_or-set_same marks v false false lt in
    let other : (u : ℕ) → In u queue → u ≡ v → ⊥ =
    λ u i e. h.once.0 (let P : ℕ → Type 0 = λ w. In w queue in subst P e i) in
    record {
      in_range = λ u i. (let l : u < length marks = h.in_range u (inr i) in omega (arith, l, same));
      marked = λ u i. get_or-set_other marks v u false false (other u i) ∙ h.marked u (inr i);
      listed = λ u m. elim (cases_eq u v) as (λ _. In u queue) [
        | inl e ↦
            absurd (let P : ℕ → Type 0 = λ w. get_or (set marks v false) w false
            ≡ true in true≢false (sym (subst P e m) ∙ here))
        | inr n ↦ elim (h.listed u (sym (get_or-set_other marks v u false false n) ∙ m)) as (λ _. In u queue)
            [ inl e ↦ absurd (n (sym e)) | inr i ↦ i ]
      ];
      once = h.once.1;
      enough = (let e : length marks ≤ room = h.enough in omega (arith, e, same));
    }
