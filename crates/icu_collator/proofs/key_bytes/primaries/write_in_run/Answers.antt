use Rattle.std.proofs.Common.{◌≡◌, ◌∙◌, None, Option, Some, ℕ, ap, subst, sym}
use Rattle.icu_collator_core.specs.declared.tables.CollationTables.{CollationTables}
use Rattle.icu_collator.specs.Collators.{source_collation}
use Rattle.icu_collator.specs.KeyBytes.{was_compressible}
use Rattle.icu_collator.specs.KeyCodes.{IsRun, IsWrittenUpTo}
use Rattle.icu_collator.proofs.key_writing.PlainLevelLemmas.{run_up_to}
use Rattle.icu_collator.proofs.key_bytes.primaries.write_in_run.Goals as goal

pub returns-in-None : goal.returns-in-None
returns-in-None c =
    let source = c.args.checked.now in
    let put = c.put_short_primaries.ensures in
    let lead = c.from-own.result in
    let is : Some c.args.lead ≡ Some lead = ap Some (sym c.from-own.ensures) in
    let unmoved : source.tables.reordering ≡ None = ap (λ (t : CollationTables). t.reordering) (sym c.tables.ensures) ∙ c.in-None.is in
    subst (λ (run : Option ℕ). IsWrittenUpTo (source_collation source) c.args.variable_end c.args.elements.now run c.args.from c.args.key.now.items
    c.put_short_primaries.result c.put_short_primaries.new.self.items) (sym is)
    (run_up_to source lead c.args.variable_end c.keep_promise.ensures unmoved (subst (IsRun (was_compressible (source_collation source))) is c.requires.run)
    c.args.elements.now c.args.from c.put_short_primaries.result c.args.key.now.items c.put_short_primaries.new.self.items put.onward put.plain put.put)
