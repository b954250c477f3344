-- The run after a primary, by the lead that it had before reordering, over checked tables.
use Rattle.std.proofs.Common.{◌≡◌, ℕ, ◌<◌, ◌/◌, ◌^◌, ◌++◌, Bool, List, true, false, cond, Option, Some, None, arith, refl, sym, ◌∙◌, ap}
use Rattle.icu_normalizer_core.specs.Canonical.{Canonical}
use Rattle.icu_normalizer_core.specs.CanonicalMeaning.{meaning}
use Rattle.icu_collator_core.specs.Acceptance.{CollationSource, IsAccepted}
use Rattle.icu_collator_core.specs.TableMeaning.{collation_of}
use Rattle.icu_collator_core.specs.TableSettings.{is_compressible_in, reordered_in}
use Rattle.icu_collator_core.specs.declared.tables.CollationTables.{CollationTables}
use Rattle.icu_collator_core.specs.WeightRules.{primary_bytes, primary_rest}
use Rattle.icu_collator_core.specs.declared.tables.reordering.CollationReordering.{CollationReordering}
use Rattle.icu_collator.specs.Collators.{source_collation}
use Rattle.icu_collator.specs.KeyBytes.{primary_code, primary_run, was_compressible}
use Rattle.icu_collator.specs.KeyCodes.{AddsPrimary, IsRun}
use Rattle.icu_collator.specs.PlainPrimaries.{IsWrittenWhole}
use Rattle.icu_collator.proofs.key_writing.GivenLevelLemmas.{adds_primary}
use Rattle.icu_collator.proofs.key_writing.WeightWrittenLemmas.{inside_run}
use Rattle.icu_collator.proofs.keys.CompressedLemmas.{accepted_alike, lead_before, run_goes_on}

module _ (canonical : Canonical) (tables : CollationTables) (accepted : IsAccepted canonical tables)
    (primary in_place lead : ℕ) (small : primary < 2 ^ 32) (moved : in_place ≡ reordered_in tables.reordering primary) (led : lead ≡ in_place / 2 ^ 24)
  where
    abbrev starts_run : ℕ → Bool
    starts_run = was_compressible (collation_of canonical tables)

    was_asked : starts_run in_place ≡ is_compressible_in tables.special_primaries.last_primaries (primary / 2 ^ 24)
    was_asked = ap starts_run moved ∙ lead_before (collation_of canonical tables) (accepted_alike canonical tables accepted) primary small

    -- the run goes on where it has the lead
    pub run_kept : (run : Option ℕ) → IsRun starts_run run → run ≡ Some lead → run ≡ primary_run starts_run run in_place
    run_kept run is e =
        run_goes_on (collation_of canonical tables) (accepted_alike canonical tables accepted) run primary small is
        (e ∙ ap Some (led ∙ ap (λ (p : ℕ). p / 2 ^ 24) moved))
        ∙ ap (primary_run starts_run run) (sym moved)

    -- one begins where the primary's own lead is compressible, and else none does
    pub run_begun : (run : Option ℕ) → is_compressible_in tables.special_primaries.last_primaries (primary / 2 ^ 24) ≡ true
        → Some lead ≡ primary_run starts_run run in_place
    run_begun run is = ap Some led ∙ sym (ap (λ (b : Bool). cond b (Some (in_place / 2 ^ 24)) None) (was_asked ∙ is))

    pub begun_is_run : is_compressible_in tables.special_primaries.last_primaries (primary / 2 ^ 24) ≡ true → IsRun starts_run (Some lead)
    begun_is_run is = (in_place, was_asked ∙ is, sym led)

    pub run_ended : (run : Option ℕ) → is_compressible_in tables.special_primaries.last_primaries (primary / 2 ^ 24) ≡ false
        → None ≡ primary_run starts_run run in_place
    run_ended run is_none = sym (ap (λ (b : Bool). cond b (Some (in_place / 2 ^ 24)) None) (was_asked ∙ is_none))

-- a primary with a lead that is written whole is written after no run, and begins none
pub adds_plain :
    (source : CollationSource) (p plain : ℕ) (before after : List ℕ) → IsAccepted (meaning source.canonical) source.tables
    → plain ≡ p / 2 ^ 24 → plain < 256 → IsWrittenWhole source plain → after ≡ before ++ primary_bytes p
    → AddsPrimary (was_compressible (source_collation source)) (Some ((source_collation source).reordered p)) None before None after
unfolding primary_code
adds_plain source p plain before after accepted led low is written =
    let collation = source_collation source in
    let small : p < 2 ^ 32 = omega (arith, led, low) in
    let ends : is_compressible_in source.tables.special_primaries.last_primaries (p / 2 ^ 24) ≡ false =
    ap (is_compressible_in source.tables.special_primaries.last_primaries) (sym led) ∙ is.0 in
    let moved : p ≡ reordered_in source.tables.reordering p = sym (ap (λ (r : Option CollationReordering). reordered_in r p) is.1) in
    adds_primary (was_compressible collation) (Some (collation.reordered p)) p None None before after (ap Some (sym moved)) written
    (run_ended (meaning source.canonical) source.tables accepted p p (p / 2 ^ 24) small moved refl None ends) tt

-- a primary with the lead of a run is written without it, and the run goes on, where nothing is reordered
pub adds_in_run :
    (source : CollationSource) (p lead : ℕ) (before after : List ℕ) → IsAccepted (meaning source.canonical) source.tables
    → lead ≡ p / 2 ^ 24 → lead < 256 → source.tables.reordering ≡ None → IsRun (was_compressible (source_collation source)) (Some lead)
    → after ≡ before ++ primary_rest p
    → AddsPrimary (was_compressible (source_collation source)) (Some ((source_collation source).reordered p)) (Some lead) before (Some lead) after
adds_in_run source p lead before after accepted led low unmoved is written =
    let collation = source_collation source in
    let small : p < 2 ^ 32 = omega (arith, led, low) in
    let moved : p ≡ reordered_in source.tables.reordering p = sym (ap (λ (r : Option CollationReordering). reordered_in r p) unmoved) in
    adds_primary (was_compressible collation) (Some (collation.reordered p)) p (Some lead) (Some lead) before after (ap Some (sym moved))
    (written ∙ sym (ap (λ l. before ++ l) (inside_run lead p (sym led))))
    (run_kept (meaning source.canonical) source.tables accepted p p lead small moved led (Some lead) is refl) is
