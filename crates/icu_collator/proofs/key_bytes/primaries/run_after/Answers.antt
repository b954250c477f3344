use Rattle.std.proofs.Common.{◌≡◌, ◌∙◌, ◌/◌, ◌^◌, ℕ, Bool, true, false, ap, sym}
use Rattle.icu_normalizer_core.specs.CanonicalMeaning.{meaning}
use Rattle.icu_collator_core.specs.TableSettings.{is_compressible_in}
use Rattle.icu_collator_core.specs.declared.tables.CollationTables.{CollationTables}
use Rattle.icu_collator.proofs.key_writing.PrimaryRunLemmas.{begun_is_run, run_begun, run_ended}
use Rattle.icu_collator.proofs.key_bytes.primaries.run_after.Goals as goal

-- what the tables say of the primary's own lead
told : (tables : CollationTables) (primary lead : ℕ) (answer is : Bool) → lead ≡ primary / 2 ^ 24
    → answer ≡ is_compressible_in tables.special_primaries.last_primaries lead → answer ≡ is
    → is_compressible_in tables.special_primaries.last_primaries (primary / 2 ^ 24) ≡ is
told tables primary lead answer is led says e = ap (is_compressible_in tables.special_primaries.last_primaries) (sym led) ∙ sym says ∙ e

pub returns-then-is_compressible-clause-next : goal.returns-then-is_compressible-clause-next
returns-then-is_compressible-clause-next c = λ run.
    run_begun (meaning c.args.checked.now.canonical) c.args.checked.now.tables c.keep_promise.ensures c.args.primary c.args.in_place c.lead_of-lead.result
    c.ranges.primary.fits c.requires c.lead_of-lead.ensures run
    (told c.args.checked.now.tables c.args.primary c.lead_of-own.result c.is_compressible.result true
    c.lead_of-own.ensures c.is_compressible.ensures c.if-is_compressible.true)

pub returns-then-is_compressible-clause-goes_on : goal.returns-then-is_compressible-clause-goes_on
returns-then-is_compressible-clause-goes_on c =
    begun_is_run (meaning c.args.checked.now.canonical) c.args.checked.now.tables c.keep_promise.ensures c.args.primary c.args.in_place c.lead_of-lead.result
    c.ranges.primary.fits c.requires c.lead_of-lead.ensures
    (told c.args.checked.now.tables c.args.primary c.lead_of-own.result c.is_compressible.result true
    c.lead_of-own.ensures c.is_compressible.ensures c.if-is_compressible.true)

pub returns-else-is_compressible-clause-next : goal.returns-else-is_compressible-clause-next
returns-else-is_compressible-clause-next c = λ run.
    run_ended (meaning c.args.checked.now.canonical) c.args.checked.now.tables c.keep_promise.ensures c.args.primary c.args.in_place c.lead_of-lead.result
    c.ranges.primary.fits c.requires c.lead_of-lead.ensures run
    (told c.args.checked.now.tables c.args.primary c.lead_of-own.result c.is_compressible.result false
    c.lead_of-own.ensures c.is_compressible.ensures c.if-is_compressible.false)
