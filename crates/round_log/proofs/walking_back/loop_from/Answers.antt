use Rattle.std.proofs.Common.{◌≡◌, ℕ, ◌+◌, ◌-◌, ◌<◌, ◌≤◌, pos, List, [], ◌∷◌, ◌++◌, map, reverse, length, get_or, set}
use Rattle.std.proofs.{Common.{drop, sym, ap, subst, ◌∙◌, arith}, lemmas.List.{length-set, get_or_read}}
use Rattle.std.specs.Result.{IfOk}
use Rattle.round_log.specs.{declared.log.Entry.Entry, Looks.{chain, latest}, WalksBack.loop_back, Logs.raises_of}
use Rattle.round_log.proofs.{Chains.chain-zero, Paths.{IsBack, back_at, marks_more, mark_low, loop_at_mark, loop_past}}
use Rattle.round_log.proofs.walking_back.loop_from.Goals as goal

pub index-place-requires : goal.index-place-requires
index-place-requires c =
    let back =
    (back_at c.args.vars c.args.entries.now c.loop-n.n (record { var = 0; value = pos 0; edge = 0; prev = 0 })
    c.requires.entries_are c.loop-n-test.true c.loop-n.invariant.in_log).var in
    let one = c.loop-n.invariant.one_each in
    omega (arith, back, one)

pub index_mut-requires : goal.index_mut-requires
index_mut-requires c =
    let back =
    (back_at c.args.vars c.args.entries.now c.loop-n.n (record { var = 0; value = pos 0; edge = 0; prev = 0 })
    c.requires.entries_are c.loop-n-test.true c.loop-n.invariant.in_log).var in
    let one = c.loop-n.invariant.one_each in
    omega (arith, back, one)

pub loop-n-smaller : goal.loop-n-smaller
loop-n-smaller c =
    (back_at c.args.vars c.args.entries.now c.loop-n.n (record { var = 0; value = pos 0; edge = 0; prev = 0 })
    c.requires.entries_are c.loop-n-test.true c.loop-n.invariant.in_log).step.older

pub edges_back-requires : goal.edges_back-requires
edges_back-requires c =
    let e : Entry = get_or c.args.entries.now c.loop-n.n (record { var = 0; value = pos 0; edge = 0; prev = 0 }) in
    let back : IsBack c.args.vars (raises_of c.args.entries.now) c.loop-n.n e =
    back_at c.args.vars c.args.entries.now c.loop-n.n (record { var = 0; value = pos 0; edge = 0; prev = 0 })
    c.requires.entries_are c.loop-n-test.true c.loop-n.invariant.in_log in
    let inside : e.var < length c.loop-n.met.items =
    (let b = back.var in let one = c.loop-n.invariant.one_each in omega (arith, b, one)) in
    let mark : c.index-place.result.now ≡ latest (reverse c.loop-n.path.items) e.var =
    get_or_read c.loop-n.met.items e.var c.index-place.result.now inside c.index-place.ensures 0
    ∙ c.loop-n.invariant.placed e.var back.var in
    let same = ap length c.deref.ensures.value in
    omega (arith, same, mark_low c.loop-n.path.items e.var c.index-place.result.now mark)

pub returns-then-place-gt0 : goal.returns-then-place-gt0
returns-then-place-gt0 c =
    let e : Entry = get_or c.args.entries.now c.loop-n.n (record { var = 0; value = pos 0; edge = 0; prev = 0 }) in
    let back : IsBack c.args.vars (raises_of c.args.entries.now) c.loop-n.n e =
    back_at c.args.vars c.args.entries.now c.loop-n.n (record { var = 0; value = pos 0; edge = 0; prev = 0 })
    c.requires.entries_are c.loop-n-test.true c.loop-n.invariant.in_log in
    let inside : e.var < length c.loop-n.met.items =
    (let b = back.var in let one = c.loop-n.invariant.one_each in omega (arith, b, one)) in
    let m : ℕ = c.index-place.result.now in
    let mark : m ≡ latest (reverse c.loop-n.path.items) e.var =
    get_or_read c.loop-n.met.items e.var m inside c.index-place.ensures 0
    ∙ c.loop-n.invariant.placed e.var back.var in
    let loop : reverse (drop (m - 1) c.deref.result.now)
    ≡ loop_back [] (chain (raises_of c.args.entries.now) c.args.entry) =
    ap (λ l. reverse (drop (m - 1) l)) c.deref.ensures.value
    ∙ sym (loop_at_mark (raises_of c.args.entries.now) c.loop-n.path.items c.loop-n.n m e back.step mark
    c.if-place-gt0.true) ∙ c.loop-n.invariant.left in
    let P : List Entry → Type 0 = λ l. IfOk c.edges_back.result (λ w. w.items ≡ map (λ r. r.edge) l) in
    subst P loop c.edges_back.ensures

pub loop-n-preserved : goal.loop-n-preserved
loop-n-preserved c =
    let rs : List Entry = raises_of c.args.entries.now in
    let e : Entry = get_or c.args.entries.now c.loop-n.n (record { var = 0; value = pos 0; edge = 0; prev = 0 }) in
    let back : IsBack c.args.vars rs c.loop-n.n e =
    back_at c.args.vars c.args.entries.now c.loop-n.n (record { var = 0; value = pos 0; edge = 0; prev = 0 })
    c.requires.entries_are c.loop-n-test.true c.loop-n.invariant.in_log in
    let inside : e.var < length c.loop-n.met.items =
    (let b = back.var in let one = c.loop-n.invariant.one_each in omega (arith, b, one)) in
    let m : ℕ = c.index-place.result.now in
    let mark : m ≡ latest (reverse c.loop-n.path.items) e.var =
    get_or_read c.loop-n.met.items e.var m inside c.index-place.ensures 0
    ∙ c.loop-n.invariant.placed e.var back.var in
    let unmarked : latest (reverse c.loop-n.path.items) e.var ≡ 0 =
    (let z = c.if-place-gt0.false in omega (arith, mark, z)) in
    let path : List Entry = c.loop-n.path.items in
    let grown : c.push.new.self.items ≡ path ++ e ∷ [] = c.in_ok-push.ensures.items in
    let len : c.len.result ≡ length path + 1 =
    (let a = c.len.ensures in let b = c.in_ok-push.ensures.len in omega (arith, a, b)) in
    let M : ℕ → List Entry → Type 0 = λ k l. (v : ℕ) → v < c.args.vars
    → get_or (set c.loop-n.met.items e.var k) v 0 ≡ latest (reverse l) v in
    let A : List Entry → Type 0 = λ l. M (length path + 1) l in
    let B : ℕ → Type 0 = λ k. M k c.push.new.self.items in
    let L : List Entry → Type 0 = λ l. loop_back (reverse l) (chain rs e.prev) ≡ loop_back [] (chain rs c.args.entry) in
    record {
      in_log =
          (let o : e.prev < c.loop-n.n = back.step.older in let i : c.loop-n.n ≤ length rs =
          c.loop-n.invariant.in_log in omega arith);
      one_each = length-set c.loop-n.met.items e.var c.len.result ∙ c.loop-n.invariant.one_each;
      placed =
          subst B (sym len)
          (subst A (sym grown)
          (marks_more c.args.vars c.loop-n.met.items path e c.loop-n.invariant.one_each back.var
          c.loop-n.invariant.placed));
      left = subst L (sym grown) (loop_past rs path c.loop-n.n e back.step unmarked ∙ c.loop-n.invariant.left);
    }

pub returns : goal.returns
returns c =
    let none : c.loop-n.n ≡ 0 = (let z = c.loop-n-test.false in omega (arith, z)) in
    let rs : List Entry = raises_of c.args.entries.now in
    c.new.ensures.items
    ∙ ap (map (λ (r : Entry). r.edge))
    (sym (ap (λ k. loop_back (reverse c.loop-n.path.items) (chain rs k)) none
    ∙ ap (loop_back (reverse c.loop-n.path.items)) (chain-zero rs)) ∙ c.loop-n.invariant.left)
