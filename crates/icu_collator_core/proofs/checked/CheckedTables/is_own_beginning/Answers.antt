use Rattle.icu_collator_core.proofs.checked.CheckedTables.is_own_beginning.Goals as goal

pub returns-in-Some : goal.returns-in-Some
returns-in-Some c = λ yes. c.in-Some.ensures.plain.beginning
