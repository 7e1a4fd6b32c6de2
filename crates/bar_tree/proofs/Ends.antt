-- Orders of ends, tests, and nodes that cover bars.
use Rattle.std.proofs.{Common.{◌≡◌, ℕ, ◌↔◌, ◌<ℤ◌, ◌≤ℤ◌, ℤ, arith, rules, refl, sym, subst, ◌∙◌}, lemmas.Int.ints}
use Rattle.std.proofs.Common.{IsTrue, Bool, not, true, false, inl, inr}
use Rattle.bar_rows.specs.{declared.bars.Bar.Bar, Contacts.{HasContact, ShareContact}, declared.bars.Contacts.Contacts}
use Rattle.bar_tree.specs.Nodes.{Fits, Covers, EndsWithin, IsNode, IsAlike}
use Rattle.bar_tree.specs.declared.node.{Node.Node, Query.Query}

-- what a test says that is turned round
pub turned : (b : Bool) {P : Type 0} → (IsTrue b ↔ P) → (IsTrue (not b) ↔ (P → ⊥))
turned true e = (λ t. absurd (search (rules, t)), λ n. absurd (n (e.0 refl)))
turned false e = (λ t p. absurd (search (rules, e.1 p)), λ n. refl)

-- three places do not stand in a circle
pub no_circle : (a b c : ℤ) → a ≤ℤ b → b ≤ℤ c → c <ℤ a → ⊥
no_circle a b c p q r = omega (arith, ints)

pub no_circle_late : (a b c : ℤ) → a ≤ℤ b → b <ℤ c → c ≤ℤ a → ⊥
no_circle_late a b c p q r = omega (arith, ints)

-- the bars that a node knows of end at most at the end of the first key
pub within_first : (n : Node) (b : Bar) → IsNode n → EndsWithin n b → b.end ≤ℤ n.first
within_first n b is (inl rest) = let first = is.first in let second = is.second in omega (arith, ints, rest, first, second)
within_first n b is (inr (inl key)) = key.1
within_first n b is (inr (inr key)) = let end = key.1 in let first = is.first in omega (arith, ints, end, first)

-- a node with one bar more covers that bar
pub covers_one : (n m r : Node) (b : Bar) → n.is_empty ≡ false → b.start ≤ℤ n.late
    → ((k : ℕ) → HasContact n.contacts k → HasContact b.contacts k)
    → IsAlike n m → IsAlike m r → EndsWithin r b → Covers r b
covers_one n m r b some start contacts first second end =
    let late : r.late ≡ n.late = second.late ∙ first.late in
    let same : r.contacts ≡ n.contacts = second.contacts ∙ first.contacts in
    record {
      some = λ e. absurd (cc (some, first.some, second.some, e));
      end = end;
      start = subst (λ (l : ℤ). b.start ≤ℤ l) (sym late) start;
      contacts = subst (λ (cs : Contacts). (k : ℕ) → HasContact cs k → HasContact b.contacts k) (sym same) contacts;
    }

-- a bar that one query asks for is asked for by another that leaves out no more
pub fits_more : (a b : Query) → a.above ≤ℤ b.above → a.from ≤ℤ b.from → a.key ≡ b.key → a.other ≡ b.other
    → a.contacts ≡ b.contacts → (x : Bar) → Fits b x → Fits a x
fits_more a b above from key other contacts x f =
    let ends = f.ends in
    let starts = f.starts in
    record {
      ends = omega (arith, ints, above, ends);
      starts = omega (arith, ints, from, starts);
      first = λ e. f.first (sym key ∙ e);
      second = λ e. f.second (sym other ∙ e);
      apart = subst (λ (cs : Contacts). ShareContact cs x.contacts → ⊥) (sym contacts) f.apart;
    }
