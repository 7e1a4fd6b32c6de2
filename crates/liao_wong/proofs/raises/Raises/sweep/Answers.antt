use Rattle.std.{proofs.Common.{ℕ, ◌<◌, Bool, List, length, refl, sym, ap, subst, ◌∙◌}, specs.List.All}
use Rattle.round_log.specs.{declared.log.Entry.Entry, Logs.raises_of}
use Rattle.liao_wong.specs.{Held.{Held, AreArraysOf}, Sweeping.{AreNewNumbers, IsSwept}}
use Rattle.liao_wong.proofs.Sweeps.{AreLeft, left_by, labels_left, last_numbered}
use Rattle.liao_wong.proofs.raises.Raises.sweep.Goals as goal

pub reached-requires : goal.reached-requires
reached-requires c =
    let a = c.self.inside in
    let E : List Entry → Type 0 =
    λ es. AreArraysOf (length c.deref-2.result.now) es c.deref-2.result.now (raises_of es) in
    let L : List ℕ → Type 0 = λ ns. AreArraysOf (length ns) a.entries.items ns (raises_of a.entries.items) in
    subst E (sym c.deref.ensures.value) (subst L (sym c.deref-2.ensures.value) c.self.invariant.arrays)

pub renumbered-requires : goal.renumbered-requires
renumbered-requires c =
    let a = c.self.inside in
    let F : List Bool → Type 0 = λ fs. AreNewNumbers fs c.in_ok-numbers.numbers.items in
    let N : List ℕ → Type 0 = λ ns. All (λ n. n < length ns) c.deref-4.result.now in
    let L : List ℕ → Type 0 = λ ns. All (λ n. n < length c.in_ok-numbers.numbers.items) ns in
    subst N (sym c.deref-5.ensures.value) (subst L (sym c.deref-4.ensures.value)
    (last_numbered a.entries.items a.last.items c.in_ok-numbers.numbers.items c.in_ok-keeps.keeps.items
    c.self.invariant.arrays (c.in_ok-keeps.ensures.one_each ∙ ap length c.deref.ensures.value)
    (subst F c.deref-3.ensures.value c.in_ok-numbers.ensures)))

pub keep_entries-requires-clause-entries : goal.keep_entries-requires-clause-entries
keep_entries-requires-clause-entries c =
    record {
      entries_are = c.self.invariant.arrays.entries_are;
      vars = length c.self.inside.last.items;
      older = c.self.invariant.arrays.older;
    }

pub keep_entries-requires-clause-numbers : goal.keep_entries-requires-clause-numbers
keep_entries-requires-clause-numbers c =
    let F : List Bool → Type 0 = λ fs. AreNewNumbers fs c.deref-7.result.now in
    let N : List ℕ → Type 0 = λ ns. AreNewNumbers c.deref-3.result.now ns in
    subst F (c.deref-3.ensures.value ∙ sym c.deref-6.ensures.value)
    (subst N (sym c.deref-7.ensures.value) c.in_ok-numbers.ensures)

pub invariant_of-self : goal.invariant_of-self
invariant_of-self c =
    let a = c.self.inside in
    let left : AreLeft (length a.last.items) (raises_of a.entries.items) c.keep_entries.new.entries.items
    c.in_ok-self-inside.field-0.items =
    left_by a.entries.items c.deref.result.now a.entries.items c.keep_entries.new.entries.items a.last.items
    c.deref-4.result.now c.in_ok-self-inside.field-0.items c.in_ok-numbers.numbers.items c.deref-5.result.now
    c.in_ok-keeps.keeps.items c.deref-3.result.now c.deref-6.result.now c.self.invariant.arrays c.deref.ensures.value
    c.in_ok-keeps.ensures.one_each c.in_ok-keeps.ensures.chains c.deref-3.ensures.value c.in_ok-numbers.ensures
    refl c.deref-6.ensures.value c.keep_entries.ensures c.deref-4.ensures.value c.deref-5.ensures.value
    c.in_ok-self-inside.ensures in
    record {
      arrays = left.arrays;
      labels = labels_left (length a.last.items) (raises_of a.entries.items) c.keep_entries.new.entries.items
          c.in_ok-self-inside.field-0.items a.values.items left c.self.invariant.labels;
    }

pub returns-clause-ok : goal.returns-clause-ok
returns-clause-ok c =
    let a = c.self.inside in
    let left : AreLeft (length a.last.items) (raises_of a.entries.items) c.keep_entries.new.entries.items
    c.in_ok-self-inside.field-0.items =
    left_by a.entries.items c.deref.result.now a.entries.items c.keep_entries.new.entries.items a.last.items
    c.deref-4.result.now c.in_ok-self-inside.field-0.items c.in_ok-numbers.numbers.items c.deref-5.result.now
    c.in_ok-keeps.keeps.items c.deref-3.result.now c.deref-6.result.now c.self.invariant.arrays c.deref.ensures.value
    c.in_ok-keeps.ensures.one_each c.in_ok-keeps.ensures.chains c.deref-3.ensures.value c.in_ok-numbers.ensures
    refl c.deref-6.ensures.value c.keep_entries.ensures c.deref-4.ensures.value c.deref-5.ensures.value
    c.in_ok-self-inside.ensures in
    let S : Held → Type 0 =
    λ h. IsSwept h
    (record {
      vars = length c.in_ok-self-inside.field-0.items;
      raises = raises_of c.keep_entries.new.entries.items;
    }) in
    subst S c.self.view_is left.swept
