use Rattle.std.proofs.Common.{◌≡◌, None, refl, sym, ◌∙◌}
use Rattle.rule_table.{specs.Faults.fault_of, proofs.{Sound.sound, Complete.complete}}
use Rattle.rule_table.proofs.technology.Tech.new.Goals as goal

pub returns-in-Some-clause-exactly : goal.returns-in-Some-clause-exactly
returns-in-Some-clause-exactly c =
    ((λ e. absurd cc), (λ h. absurd (let none : fault_of c.args.numbers ≡ None = complete _ h in cc)))

pub returns-in-None-clause-exactly : goal.returns-in-None-clause-exactly
returns-in-None-clause-exactly c = ((λ e. sound _ (sym c.fault.ensures ∙ c.in-None.is)), (λ h. refl))
