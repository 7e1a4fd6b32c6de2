use Rattle.std.proofs.Common.{◌≡◌, ℕ, ◌<◌, ◌≤◌, Bool, ◌==◌, List, length, get_or, sym, ap, subst, ◌∙◌, arith}
use Rattle.std.specs.List.{list_any}
use Rattle.round_log.specs.{declared.log.Entry.Entry, Looks.chain, Logs.raises_of}
use Rattle.round_log.proofs.{Chains.chain-zero, Entries.IsChainStep}
use Rattle.liao_wong.{specs.Held.{Held, AreArraysOf}, proofs.Arrays.{chain_read, found_in_chain, not_found_yet}}
use Rattle.liao_wong.proofs.raises.Raises.comes_back.Goals as goal

-- the entry that is read is the next one of the chain
step_at : (held : Held) (vars : ℕ) (entries : List Entry) (last : List ℕ) (n : ℕ) (e : Entry)
    → raises_of entries ≡ held.raises → AreArraysOf vars entries last (raises_of entries) → 0 < n
    → n ≤ length held.raises → e ≡ get_or entries n e → IsChainStep held.raises n e
step_at held vars entries last n e same a z le r =
    let P : List Entry → Type 0 = λ rs. IsChainStep rs n e in
    subst P same
    (chain_read vars entries last (raises_of entries) n e a z (let l = ap length same in omega (arith, l)) r)

pub returns-then-entry-raise : goal.returns-then-entry-raise
returns-then-entry-raise c =
    let a = c.self.inside in
    let step : IsChainStep c.args.self.now.raises c.loop-n.n c.index-entry.result.now =
    step_at c.args.self.now (length a.last.items) a.entries.items a.last.items c.loop-n.n c.index-entry.result.now
    (ap (λ h. h.raises) c.self.view_is) c.self.invariant.arrays c.loop-n-test.true c.loop-n.invariant.in_log
    c.index-entry.ensures in
    sym (found_in_chain c.args.self.now.raises c.loop-n.n c.args.raise.now.var c.index-entry.result.now step
    c.if-entry-raise.true) ∙ c.loop-n.invariant.left

pub loop-n-smaller : goal.loop-n-smaller
loop-n-smaller c =
    let a = c.self.inside in
    let step : IsChainStep c.args.self.now.raises c.loop-n.n c.index-entry.result.now =
    step_at c.args.self.now (length a.last.items) a.entries.items a.last.items c.loop-n.n c.index-entry.result.now
    (ap (λ h. h.raises) c.self.view_is) c.self.invariant.arrays c.loop-n-test.true c.loop-n.invariant.in_log
    c.index-entry.ensures in
    step.older

pub loop-n-preserved : goal.loop-n-preserved
loop-n-preserved c =
    let a = c.self.inside in
    let step : IsChainStep c.args.self.now.raises c.loop-n.n c.index-entry.result.now =
    step_at c.args.self.now (length a.last.items) a.entries.items a.last.items c.loop-n.n c.index-entry.result.now
    (ap (λ h. h.raises) c.self.view_is) c.self.invariant.arrays c.loop-n-test.true c.loop-n.invariant.in_log
    c.index-entry.ensures in
    record {
      in_log =
          (let o : c.index-entry.result.now.prev < c.loop-n.n = step.older in let l : c.loop-n.n ≤ length
          c.args.self.now.raises = c.loop-n.invariant.in_log in omega arith);
      left = not_found_yet c.args.self.now.raises c.loop-n.n c.args.raise.now.var c.index-entry.result.now step
          c.if-entry-raise.false ∙ c.loop-n.invariant.left;
    }

pub returns : goal.returns
returns c =
    let none : c.loop-n.n ≡ 0 = (let z = c.loop-n-test.false in omega (arith, z)) in
    let test : Entry → Bool = λ q. q.var == c.args.raise.now.var in
    sym (ap (λ k. list_any test (chain c.args.self.now.raises k)) none
    ∙ ap (list_any test) (chain-zero c.args.self.now.raises)) ∙ c.loop-n.invariant.left
