-- Which bars a search asks for.
use Rattle.std.proofs.Common.{◌≡◌, ◌≢◌, ℕ, ◌<◌, ◌≤ℤ◌, ◌<ℤ◌, ℤ, pos, neg_ℤ, ◌^◌, Bool, true, false, IsTrue}
use Rattle.std.proofs.Common.{arith, refl, sym, subst, ap, ◌∙◌, Option, Some, None}
use Rattle.std.proofs.lemmas.{Int.{ints}, Option.{none-some, same_Some}}
use Rattle.std.proofs.{Common.{MatchOption, length, w64, FitsSigned}, lemmas.List.Elements.{All-get_or}}
use Rattle.std.specs.{Prelude.{if◌then◌else◌, is_some}, Bool.then_some}
use Rattle.bar_rows.specs.{declared.bars.{Bar.Bar, Contacts.Contacts}, Contacts.ShareContact}
use Rattle.bar_rows.specs.{Facing.{KindsBind, Screens}, Rows.{IsPlacedBar, bar_at, no_bar}}
use Rattle.bar_tree.specs.{Trees.IsAskedFor}
use Rattle.bar_sight.specs.declared.row.Row.{Row}
use Rattle.bar_sight.specs.Sight.{IsRow, AllBegun, IsScreen}
use Rattle.bar_sight.specs.Looks.{free, key_of, contacts_of}
use Rattle.bar_sight.proofs.Widths.{fits_width}
use Rattle.bar_sight.proofs.Laws.{mains_bound, main_bound, other_bound, free_apart, apart_turned}

-- a bar is bound to no main bar of its key
pub first_key : (r m n : Bool) (a k : Bar) → IsTrue n → KindsBind r m n a k → then_some m a.key ≢ Some k.key
first_key r true n a k main h = λ e. (mains_bound r true n a k refl main h).1 (same_Some a.key k.key e)
first_key r false n a k main h = λ e. none-some k.key e

pub second_key : (r m n : Bool) (k b : Bar) → IsTrue m → KindsBind r m n k b → then_some n b.key ≢ Some k.key
second_key r m true k b main h = λ e. (mains_bound r m true k b main refl h).1 (sym (same_Some b.key k.key e))
second_key r m false k b main h = λ e. none-some k.key e

-- and to none with which it shares a contact, unless it is a main bar itself
pub first_apart : (r m n : Bool) (a k : Bar) → IsTrue n → KindsBind r m n a k
    → ShareContact (if m then free else a.contacts) k.contacts → ⊥
first_apart r true n a k main h = free_apart free k.contacts refl refl
first_apart r false n a k main h = other_bound r false n a k refl main h

pub second_apart : (r m n : Bool) (k b : Bar) → IsTrue m → KindsBind r m n k b
    → ShareContact (if n then free else b.contacts) k.contacts → ⊥
second_apart r m true k b main h = free_apart free k.contacts refl refl
second_apart r m false k b main h = apart_turned k.contacts b.contacts (main_bound r m false k b main refl h)

pub above_low : (low : ℤ) (b : Bar) → low ≤ℤ neg_ℤ (pos (2 ^ 62)) → IsPlacedBar b → low ≤ℤ b.start
above_low low b under placed =
    let starts = placed.starts_after in
    omega (arith, ints, under, starts)

pub if_none : {X : Type 0} (o : Option X) (P Q : Type 0) (R : X → Type 0) → (P → Q)
    → MatchOption o P R → MatchOption o Q R
if_none None P Q R f h = f h
if_none (Some x) P Q R f h = h

-- a main bar that screens two others is asked for, in a row where all have begun that start before the first one ends
pub main_asked : (row : Row) (place far k : ℕ) (above low : ℤ) (key other : Option ℕ) (contacts : Contacts) → IsRow row
    → AllBegun row (bar_at row.bars.items place).end → far < length row.bars.items → IsScreen row place far k
    → IsTrue (bar_at row.bars.items k).is_main → above <ℤ (bar_at row.bars.items k).end
    → low ≤ℤ neg_ℤ (pos (2 ^ 62)) → key ≡ key_of (bar_at row.bars.items place)
    → other ≡ key_of (bar_at row.bars.items far)
    → (ShareContact contacts (bar_at row.bars.items k).contacts → ⊥)
    → IsAskedFor row.bars.items row.mains
    (record { above = above; from = low; key = key; other = other; contacts = contacts }) k
main_asked row place far k above low key other contacts is begun among screen main ends under first second apart =
    let before = screen.before in
    let here : k < length row.bars.items = omega (arith, before, among) in
    let b = bar_at row.bars.items k in
    let faces = screen.screens.first.bound.kinds in
    let faced = screen.screens.second.bound.kinds in (
      (begun k here screen.screens.first.meet.1).main main,
      record {
        ends = ends;
        starts = above_low low b under (All-get_or IsPlacedBar row.bars.items k no_bar here is.placed);
        first = λ e. first_key row.self_rule (bar_at row.bars.items place).is_main b.is_main
            (bar_at row.bars.items place) b main faces (sym first ∙ e);
        second = λ e. second_key row.self_rule b.is_main (bar_at row.bars.items far).is_main b
            (bar_at row.bars.items far) main faced (sym second ∙ e);
        apart = apart;
      },
    )

pub other_asked : (row : Row) (place far k : ℕ) (above low : ℤ) → IsRow row
    → AllBegun row (bar_at row.bars.items place).end → far < length row.bars.items → IsScreen row place far k
    → (bar_at row.bars.items k).is_main ≡ false → above <ℤ (bar_at row.bars.items k).end
    → low ≤ℤ neg_ℤ (pos (2 ^ 62))
    → IsAskedFor row.bars.items row.others
    (record { above = above; from = low; key = None; other = None; contacts = free }) k
other_asked row place far k above low is begun among screen other ends under =
    let before = screen.before in
    let here : k < length row.bars.items = omega (arith, before, among) in
    let b = bar_at row.bars.items k in (
      (begun k here screen.screens.first.meet.1).other other,
      record {
        ends = ends;
        starts = above_low low b under (All-get_or IsPlacedBar row.bars.items k no_bar here is.placed);
        first = λ e. none-some b.key e;
        second = λ e. none-some b.key e;
        apart = free_apart free b.contacts refl refl;
      },
    )

-- the contacts that such a bar may not have
pub apart_of_second : (r : Bool) (a b k : Bar) (contacts : Contacts) → IsTrue k.is_main → Screens r a b k
    → contacts ≡ contacts_of b → ShareContact contacts k.contacts → ⊥
apart_of_second r a b k contacts main h is =
    subst (λ (x : Contacts). ShareContact x k.contacts → ⊥) (sym is)
    (second_apart r k.is_main b.is_main k b main h.second.bound.kinds)

pub apart_of_first : (r : Bool) (a b k : Bar) (contacts : Contacts) → a.is_main ≡ false → IsTrue k.is_main
    → Screens r a b k → contacts ≡ a.contacts → ShareContact contacts k.contacts → ⊥
apart_of_first r a b k contacts other main h is =
    subst (λ (x : Contacts). ShareContact x k.contacts → ⊥) (sym is)
    (other_bound r a.is_main k.is_main a k other main h.first.bound.kinds)

pub start_fits : (row : Row) (p : ℕ) → IsRow row → p < length row.bars.items
    → FitsSigned w64 (bar_at row.bars.items p).start
start_fits row p is here =
    let placed = All-get_or IsPlacedBar row.bars.items p no_bar here is.placed in
    fits_width (bar_at row.bars.items p).start placed.starts_after placed.starts_before

pub end_fits : (row : Row) (p : ℕ) → IsRow row → p < length row.bars.items
    → FitsSigned w64 (bar_at row.bars.items p).end
end_fits row p is here =
    let placed = All-get_or IsPlacedBar row.bars.items p no_bar here is.placed in
    fits_width (bar_at row.bars.items p).end placed.ends_after placed.ends_before

pub sees_if_none : {X : Type 0} (o : Option X) (P : Type 0) (Q : X → Type 0) → is_some o ≡ false → MatchOption o P Q → P
sees_if_none None P Q none h = h
sees_if_none (Some x) P Q none h = absurd (cc)

-- a main bar is not asked for by what leaves its key out
pub not_its_key : (b : Bar) (key : Option ℕ) → IsTrue b.is_main → key ≡ key_of b → key ≢ Some b.key → ⊥
not_its_key b key main is out = out (is ∙ ap (λ m. then_some m b.key) main)
