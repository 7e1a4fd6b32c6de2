-- What the definition says of a table, fault by fault, and of a text by its table.
use Rattle.std.proofs.Common.{◌≡◌, ℕ, List, Some, None, Ok, Err, sym}
use Rattle.toml.specs.Data.{Members}
use Rattle.rule_table.specs.{declared.{keys.Numbers.Numbers, faults.TechFault.TechFault}, Keys.has_buried}
use Rattle.rule_table.specs.Faults.{fault_of}
use Rattle.tech_file.specs.declared.faults.{KeyFault.KeyFault, TechFileFault.TheVariants.{Unknown, Numbers as Unfit}}
use Rattle.tech_file.specs.declared.faults.ReadTechFault.{ReadTechFault, TheVariants.{File, OutOfMemory}}
use Rattle.tech_file.specs.{Numbers.numbers_in, Unknown.{unknown_keys, least}, Technology.{table_of, unless, fault_at}}
use Rattle.tech_file.specs.Technology.{technology_in, technology_of, Refuses}

pub keys_refused : (top : Members) (f : KeyFault) → Err f ≡ numbers_in top → technology_in top ≡ Err (fault_at f)
unfolding technology_in
keys_refused top f e = rw (sym e)

pub unknown_refused : (top : Members) (n : Numbers) (key : List ℕ) → Ok n ≡ numbers_in top
    → Some key ≡ least (unknown_keys (has_buried n) top) → technology_in top ≡ Err (Unknown key)
unfolding technology_in unless
unknown_refused top n key e k = rw (sym e, sym k)

pub unfit_refused : (top : Members) (n : Numbers) (f : TechFault) → Ok n ≡ numbers_in top
    → None ≡ least (unknown_keys (has_buried n) top) → fault_of n ≡ Some f → technology_in top ≡ Err (Unfit f)
unfolding technology_in unless
unfit_refused top n f e k h = rw (sym e, sym k, h)

pub accepted : (top : Members) (n : Numbers) → Ok n ≡ numbers_in top → None ≡ least (unknown_keys (has_buried n) top)
    → fault_of n ≡ None → technology_in top ≡ Ok n
unfolding technology_in unless
accepted top n e k h = rw (sym e, sym k, h)

pub text_refused : (text : List ℕ) (fault : ReadTechFault) → Refuses fault (table_of text)
    → Refuses fault (technology_of text)
unfolding technology_of
text_refused text (File f) h = rw h
text_refused text OutOfMemory h = tt

pub by_table : (text : List ℕ) (top : Members) → table_of text ≡ Ok top → technology_of text ≡ technology_in top
unfolding technology_of
by_table text top h = rw h
