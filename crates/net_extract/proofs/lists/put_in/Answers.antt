use Rattle.std.proofs.Common.{arith, ◌≡◌, ◌+◌, ◌<◌, ℕ, List, length, get_or, ap, ◌∙◌, sym, subst, length-set}
use Rattle.net_extract.specs.{declared.lists.{Lists.Lists, Owned.Owned, Run.Run}, Lists.{AreLists, IsIn, IsListOf}}
use Rattle.net_extract.proofs.Runs.{list_shifted, lists_set}
use Rattle.net_extract.proofs.lists.put_in.Goals.{then-end, else-end}
use Rattle.net_extract.proofs.lists.put_in.Goals as goal

pub loop-list-preserved : goal.loop-list-preserved
loop-list-preserved c =
    let inv = c.loop-list.invariant in
    elim c.if-end.branch [
      | then-end w ↦ (let portion = c.args.portion.now in
          let before = c.args.lists.now.nodes.items in
          let no_list : Owned = record { owner = 0; run = record { start = 0; end = 0 } } in
          let same : c.deref-list-items.result.now ≡ portion.lists.items = c.deref-list-items.ensures.value in
          let i = c.loop-list.list-index in
          let list : Owned = get_or c.deref-list-items.result.now i no_list in
          let read : list ≡ get_or portion.lists.items i no_list =
          ap (λ (xs : List Owned). get_or xs i no_list) same in
          let count = ap (λ (xs : List Owned). length xs) same in
          let lt : i < length portion.lists.items = omega (arith, c.loop-list-test.true, count) in
          let noted = c.requires i no_list lt in
          let below : list.owner < length c.loop-list.lists.runs.items =
          omega (arith, noted.0, inv.counted, ap (λ (o : Owned). o.owner) read) in
          let base : c.len-base.result ≡ length before = omega (arith, c.len-base.ensures, c.args.lists.now.nodes.ok.0) in
          let moved : Run =
          record { start = c.len-base.result + list.run.start; end = c.len-base.result + list.run.end } in
          record {
            nodes = ap (λ (l : Lists). l.nodes.items) w.lists-is ∙ inv.nodes;
            counted = ap (λ (l : Lists). length l.runs.items) w.lists-is
                ∙ (length-set c.loop-list.lists.runs.items list.owner moved ∙ inv.counted);
            lists = λ kind boxes pieces count p h.
                (let Is = IsIn kind boxes pieces in
                let O : Owned → Type 0 = λ o. IsListOf (Is o.owner) portion.nodes.items o.run in
                let N : List ℕ → Type 0 = λ ns. IsListOf (Is list.owner) ns moved in
                lists_set Is count list.owner moved c.loop-list.lists c.if-end.lists below
                (ap (λ (l : Lists). l.runs.items) w.lists-is) (ap (λ (l : Lists). l.nodes.items) w.lists-is)
                (subst N (sym inv.nodes)
                (list_shifted (Is list.owner) before portion.nodes.items list.run moved (omega arith) (omega arith)
                (subst O (sym read) (p i no_list lt))))
                (inv.lists kind boxes pieces count p h));
          })
      | else-end w ↦
          record {
            nodes = ap (λ (l : Lists). l.nodes.items) w.lists-is ∙ inv.nodes;
            counted = ap (λ (l : Lists). length l.runs.items) w.lists-is ∙ inv.counted;
            lists = λ kind boxes pieces count p h.
                subst (AreLists (IsIn kind boxes pieces) count) (sym w.lists-is) (inv.lists kind boxes pieces count p h);
          }
    ]
