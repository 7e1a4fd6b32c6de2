use Rattle.std.proofs.Common.{◌≡◌, ℕ, suc, List, [], ◌∷◌, ◌++◌, length, get_or, set, sym, subst, arith}
use Rattle.std.proofs.lemmas.List.{get_or_read}
use Rattle.edit_session.{specs.Links.AreLinks, proofs.Linked.links_more}
use Rattle.edit_session.proofs.links.Links.add.Goals as goal

pub returns-clause-ok : goal.returns-clause-ok
returns-clause-ok c = λ edges e f h.
    let latest : List ℕ = c.args.self.now.latest.items in
    let before : List ℕ = c.args.self.now.before.items in
    let vars : ℕ = length latest in
    let read : c.index-older.result.now ≡ get_or latest c.args.tail 0 =
    get_or_read latest c.args.tail c.index-older.result.now c.requires.in_range c.index-older.ensures 0 in
    let P : List ℕ → Type 0 = λ bs. AreLinks vars (edges ++ e ∷ []) (set latest c.args.tail c.len.result) bs in
    let count : c.len.result ≡ suc (length before) = omega (arith, c.in_ok-push.ensures.len, c.len.ensures) in
    subst P (sym c.in_ok-push.ensures.items)
    (links_more vars edges e latest before c.args.tail c.index-older.result.now c.len.result c.requires.in_range
    read count f h)
