use Rattle.std.proofs.Common.{ℕ, false, List, ◌∷◌, length, set, sym, ap, subst, ◌<◌, refl, inl, arith}
use Rattle.std.specs.VecDeque.{deque_capacity}
use Rattle.edit_session.{specs.Queues.IsQueueOf, proofs.Queue.queue_pop}
use Rattle.edit_session.proofs.waiting.Waiting.pop.Goals as goal

pub index_mut-requires : goal.index_mut-requires
index_mut-requires c =
    let s = c.self.inside in
    let P : List ℕ → Type 0 = λ q. IsQueueOf q s.waits.items (deque_capacity s.queue) in
    let h : IsQueueOf (c.in_ok-v.v ∷ c.pop_front.new.self.items) s.waits.items (deque_capacity s.queue) =
    subst P c.in_ok-v.ensures.items c.self.invariant in
    let lt : c.in_ok-v.v < length s.waits.items = h.in_range c.in_ok-v.v (inl refl) in
    omega (arith, lt)

pub invariant_of-self-2 : goal.invariant_of-self-2
invariant_of-self-2 c =
    let s = c.self.inside in
    let P : List ℕ → Type 0 = λ q. IsQueueOf q s.waits.items (deque_capacity s.queue) in
    let h : IsQueueOf (c.in_ok-v.v ∷ c.pop_front.new.self.items) s.waits.items (deque_capacity s.queue) =
    subst P c.in_ok-v.ensures.items c.self.invariant in
    let Q : ℕ → Type 0 = λ r. IsQueueOf c.pop_front.new.self.items (set s.waits.items c.in_ok-v.v false) r in
    subst Q (sym c.pop_front.ensures.capacity)
    (queue_pop c.pop_front.new.self.items s.waits.items (deque_capacity s.queue) c.in_ok-v.v h)

pub returns-clause-in_range : goal.returns-clause-in_range
returns-clause-in_range c =
    let s = c.self.inside in
    let n = ap (λ w. length w.marks) c.self.view_is in
    let P : List ℕ → Type 0 = λ q. IsQueueOf q s.waits.items (deque_capacity s.queue) in
    let h : IsQueueOf (c.in_ok-v.v ∷ c.pop_front.new.self.items) s.waits.items (deque_capacity s.queue) =
    subst P c.in_ok-v.ensures.items c.self.invariant in
    let lt : c.in_ok-v.v < length s.waits.items = h.in_range c.in_ok-v.v (inl refl) in
    omega (arith, lt, n)
