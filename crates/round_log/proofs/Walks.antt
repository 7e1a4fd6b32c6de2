-- A walk read out of a log that the rounds leave when they end.
use Rattle.std.proofs.Common.{◌≡◌, ℕ, ◌<◌, ◌≤◌, Some, List, [], ◌∷◌, ◌++◌, reverse, length, get_or, refl, sym, ap}
use Rattle.std.proofs.Common.{subst, ◌∙◌, arith, append_assoc, append-nil}
use Rattle.round_log.specs.declared.log.{Entry.Entry, Log.Log}
use Rattle.round_log.specs.{Looks.{label, latest, chain}, Logs.{raises_in, IsEndedLog}, WalksBack.walk_of}
use Rattle.round_log.proofs.{Chains.chain-zero, Least.{label_value, labelled}, Ends.{back_of, numbers, walk_is}}
use Rattle.round_log.proofs.{Ends.walk_no_repeat, Outcomes.{IsEnded, ended_from_rounds, ended_least}, Entries.array_of}
use Rattle.round_log.proofs.{Entries.{IsChainStep, chain_step}, Alike.{same_label, same_walk}}
use Rattle.cons_graph.specs.{Constraints.{Constraints, IsConstraintGraph}, SimpleWalks.{heads_of, length_of}}
use Rattle.cons_graph.specs.SimpleWalks.{HasNoRepeat, WalksFromTo}

ended : (g : Constraints) (log : Log) → IsConstraintGraph g → (h : IsEndedLog g log)
    → IsEnded g h.order h.of_rounds.raises
ended g log s h = ended_from_rounds g h.order s h.is_order.names h.rounds h.of_rounds.raises h.of_rounds.ended

-- one entry further back
pub record IsNextBack (log : Log) (var n : ℕ) (walk : List ℕ) (e : Entry) : Type 0 where
  pub older : e.prev < n
  pub left : (walk ++ e.edge ∷ []) ++ numbers (chain (raises_in log) e.prev)
      ≡ numbers (chain (raises_in log) (latest (raises_in log) var))

pub next_back : (g : Constraints) (log : Log) (var n : ℕ) (walk : List ℕ) (d : Entry) → IsConstraintGraph g
    → IsEndedLog g log → 1 ≤ n → n ≤ length (raises_in log)
    → walk ++ numbers (chain (raises_in log) n) ≡ numbers (chain (raises_in log) (latest (raises_in log) var))
    → IsNextBack log var n walk (get_or log.entries n d)
next_back g log var n walk d s h some le left =
    let rs : List Entry = raises_in log in
    let P : Entry → Type 0 = λ x. IsNextBack log var n walk x in
    let e : Entry = get_or (array_of rs) n d in
    let b : IsChainStep rs n e = chain_step g.vars rs n d h.of_rounds.older some le in
    subst P (ap (λ l. get_or l n d) (sym h.of_rounds.holds.entries_are)) (record {
      older = b.older;
      left = append_assoc walk (e.edge ∷ []) (numbers (chain rs e.prev))
          ∙ sym (ap (λ l. walk ++ numbers l) b.chain_is) ∙ left;
    })

-- the walk of a variable after rounds that have ended
pub record IsCriticalWalk (g : Constraints) (log : Log) (var : ℕ) (walk : List ℕ) : Type 0 where
  pub value : walk ≡ walk_of (raises_in log) var
  pub passes : WalksFromTo g.edges 0 walk var
  pub simple : HasNoRepeat (0 ∷ heads_of g.edges walk)
  pub as_long : label (raises_in log) var ≡ Some (length_of g.edges walk)

walk_ends : (g : Constraints) (log : Log) (var : ℕ) → IsConstraintGraph g → IsEndedLog g log → var < g.vars
    → IsCriticalWalk g log var (walk_of (raises_in log) var)
walk_ends g log var s h lt =
    let rs : List Entry = h.of_rounds.raises in
    let end : IsEnded g h.order rs = ended g log s h in
    let has = labelled g (back_of g h.order) rs s end.log end.quiet var lt in
    let w = walk_is g (back_of g h.order) rs end.log var has.0 has.1 in
    let same : walk_of (raises_in log) var ≡ walk_of rs var = same_walk (raises_in log) rs var h.of_rounds.alike in
    let W : List ℕ → Type 0 = λ walk. WalksFromTo g.edges 0 walk var in
    let R : List ℕ → Type 0 = λ walk. HasNoRepeat (0 ∷ heads_of g.edges walk) in
    record {
      value = refl;
      passes = subst W (sym same) w.0;
      simple =
          subst R (sym same)
          (walk_no_repeat g (back_of g h.order) rs s end.log (label_value rs) (ended_least g h.order rs s end).solves
          var has.0 has.1);
      as_long = same_label (raises_in log) rs var (h.of_rounds.alike var) ∙ has.1
          ∙ ap Some (sym w.1 ∙ ap (length_of g.edges) (sym same));
    }

-- the edges met on the way back, in reverse
pub back_at_origin : (g : Constraints) (log : Log) (var n : ℕ) (walk : List ℕ) → IsConstraintGraph g
    → IsEndedLog g log → var < g.vars → n ≤ 0
    → walk ++ numbers (chain (raises_in log) n) ≡ numbers (chain (raises_in log) (latest (raises_in log) var))
    → IsCriticalWalk g log var (reverse walk)
back_at_origin g log var n walk s h lt none left =
    let rs : List Entry = raises_in log in
    let P : List ℕ → Type 0 = λ w. IsCriticalWalk g log var w in
    let start : n ≡ 0 = omega arith in
    let all : walk ≡ numbers (chain rs (latest rs var)) = sym (append-nil walk)
    ∙ ap (λ l. walk ++ numbers l) (sym (ap (chain rs) start ∙ chain-zero rs)) ∙ left in
    subst P (ap reverse (sym all)) (walk_ends g log var s h lt)
