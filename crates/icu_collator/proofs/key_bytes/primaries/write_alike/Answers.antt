use Rattle.std.proofs.Common.{Option, ℕ, subst, sym}
use Rattle.icu_collator.specs.Collators.{source_collation}
use Rattle.icu_collator.specs.KeyBytes.{was_compressible}
use Rattle.icu_collator.specs.KeyCodes.{IsRun, IsWrittenUpTo}
use Rattle.icu_collator.proofs.key_bytes.primaries.write_alike.Goals as goal

pub write_in_run-requires-clause-run : goal.write_in_run-requires-clause-run
write_in_run-requires-clause-run c = subst (IsRun (was_compressible (source_collation c.args.checked.now))) c.in-Some.is c.requires.run

pub returns-in-None : goal.returns-in-None
returns-in-None c =
    subst (λ (run : Option ℕ). IsWrittenUpTo (source_collation c.args.checked.now) c.args.variable_end c.args.elements.now run c.args.from c.args.key.now.items
    c.write_plain.result c.write_plain.new.key.items) (sym c.in-None.is) c.write_plain.ensures

pub returns-in-Some : goal.returns-in-Some
returns-in-Some c =
    subst (λ (run : Option ℕ). IsWrittenUpTo (source_collation c.args.checked.now) c.args.variable_end c.args.elements.now run c.args.from c.args.key.now.items
    c.write_in_run.result c.write_in_run.new.key.items) (sym c.in-Some.is) c.write_in_run.ensures
