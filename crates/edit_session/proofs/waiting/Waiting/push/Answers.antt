use Rattle.std.proofs.Common.{◌≡◌, ℕ, false, true, List, length, get_or, set, sym, ap, subst, ◌∙◌, ◌<◌, arith}
use Rattle.std.{proofs.lemmas.List.get_or_read, specs.VecDeque.deque_capacity}
use Rattle.edit_session.{specs.Queues.IsQueueOf, proofs.Queue.{room_for, queue_push}}
use Rattle.edit_session.proofs.waiting.Waiting.push.Goals as goal

pub push_back_reserved-requires : goal.push_back_reserved-requires
push_back_reserved-requires c =
    let s = c.self.inside in
    let n = ap (λ w. length w.marks) c.self.view_is in
    let inside : c.args.v < length s.waits.items = omega (arith, n, c.requires) in
    let read : c.index.result.now ≡ get_or s.waits.items c.args.v false =
    get_or_read s.waits.items c.args.v c.index.result.now inside c.index.ensures false in
    let room = room_for s.queue.items s.waits.items (deque_capacity s.queue) c.args.v c.self.invariant inside
    (sym read ∙ c.if-index.false) in
    omega (arith, room)

pub invariant_of-self : goal.invariant_of-self
invariant_of-self c =
    let s = c.self.inside in
    let n = ap (λ w. length w.marks) c.self.view_is in
    let inside : c.args.v < length s.waits.items = omega (arith, n, c.requires) in
    let read : c.index.result.now ≡ get_or s.waits.items c.args.v false =
    get_or_read s.waits.items c.args.v c.index.result.now inside c.index.ensures false in
    let now = queue_push s.queue.items s.waits.items (deque_capacity s.queue) c.args.v c.self.invariant inside
    (sym read ∙ c.if-index.false) in
    let P : List ℕ → Type 0 = λ q. IsQueueOf q (set s.waits.items c.args.v true) (deque_capacity s.queue) in
    let Q : ℕ → Type 0 = λ r. IsQueueOf c.push_back_reserved.new.self.items (set s.waits.items c.args.v true) r in
    subst Q (sym c.push_back_reserved.ensures.capacity) (subst P (sym c.push_back_reserved.ensures.items) now)
