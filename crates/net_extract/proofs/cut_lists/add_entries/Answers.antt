use Rattle.std.proofs.Common.{arith, ◌≡◌, ℕ, ◌+◌, ◌++◌, ◌∷◌, [], ◌<◌, List, get_or, length, set, take, refl, ap, ◌∙◌}
use Rattle.std.proofs.{Common.{length-set, subst}, lemmas.List.{get_or_read, length_push, take_all}}
use Rattle.net_extract.specs.{CutLists.{AreChains, IsListedBefore}}
use Rattle.net_extract.proofs.Entering.{IsEntered, all_entered, chains_as, chains_push, entered_all, entered_back}
use Rattle.net_extract.proofs.Entering.{entered_more}
use Rattle.net_extract.proofs.cut_lists.add_entries.Goals as goal

pub loop-a-preserved : goal.loop-a-preserved
loop-a-preserved c =
    let cut = c.args.cut in
    let pieces = c.args.pieces.now in
    let i = c.loop-a.a-index in
    let a : ℕ = get_or pieces i 0 in
    let old = c.loop-a.chains in
    let inv = c.loop-a.invariant in
    let lt : i < length pieces = c.loop-a-test.true in
    let below = c.requires.pieces i 0 lt in
    let cuts_are = c.in_ok-push-2.ensures.items in
    let long : length c.push-in-loop-a.new.self.items ≡ length old.cuts.items + 1 =
    ap (λ (xs : List ℕ). length xs) cuts_are ∙ length_push old.cuts.items cut in
    let count_is : c.len.result ≡ length old.cuts.items + 1 =
    omega (arith, c.len.ensures, c.push-in-loop-a.new.self.ok.0, long) in
    let next : c.index-next.result.now ≡ get_or old.heads.items a 0 =
    get_or_read old.heads.items a c.index-next.result.now (omega arith) c.index-next.ensures 0 in
    record {
      heads = length-set old.heads.items a c.len.result ∙ inv.heads;
      long = omega arith;
      chains = λ over count h.
          (let one = h.linked.one_head_each in
          chains_push (IsEntered over cut (take i pieces)) (IsEntered over cut (take (i + 1) pieces)) count cut a old _
          (omega arith) (entered_more over cut pieces i a lt refl) (entered_back over cut pieces i a lt refl)
          (ap (λ (x : ℕ). set old.heads.items a x) count_is)
          (c.in_ok-push.ensures.items ∙ ap (λ (x : ℕ). old.nexts.items ++ x ∷ []) next) cuts_are
          (inv.chains over count h));
    }

pub returns : goal.returns
returns c =
    let cut = c.args.cut in
    let pieces = c.args.pieces.now in
    let i = c.loop-a.a-index in
    let inv = c.loop-a.invariant in
    let past = c.loop-a-test.false in
    let end = c.loop-a.auto.a-index-end in
    record {
      counted = omega arith;
      chains = λ over count g h.
          (let E : List ℕ → Type 0 = λ some. AreChains (IsEntered over cut some) count c.loop-a.chains in
          chains_as (IsEntered over cut pieces) (IsListedBefore over (cut + 1)) count c.loop-a.chains
          (entered_all over cut pieces g) (all_entered over cut pieces g)
          (subst E (take_all i pieces past) (inv.chains over count h)));
    }
