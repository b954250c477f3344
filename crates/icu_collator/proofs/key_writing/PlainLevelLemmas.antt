-- What elements with plain primaries add to the primary level, where leads like theirs are written whole, and in a run of their lead.
use Rattle.std.proofs.Common.{◌≡◌, ◌≢◌, ℕ, suc, ◌<◌, ◌≤◌, ◌+◌, ◌-◌, ◌/◌, ◌^◌, Bool, true, false, Some, None, List, [], ◌∷◌, ◌++◌, drop, refl, sym, ◌∙◌, ap, subst, append_assoc, arith}
use Rattle.std.specs.Prelude.{◌==◌, ◌&&◌, cond, flat_map, ltb, All, Option}
use Rattle.std.proofs.lemmas.Bool.{cond_both, eqb-true}
use Rattle.std.proofs.lemmas.Bool.Decides.{nat_tests}
use Rattle.std.proofs.lemmas.List.{append-nil, drop-drop, take-append-drop}
use Rattle.icu_normalizer_core.specs.CanonicalMeaning.{meaning}
use Rattle.icu_collator_core.specs.Acceptance.{CollationSource, IsAccepted}
use Rattle.icu_collator_core.specs.Collation.{Collation}
use Rattle.icu_collator_core.specs.Pools.{element_of}
use Rattle.icu_collator_core.specs.WeightRules.{primary_bytes, primary_rest}
use Rattle.icu_collator.specs.Collators.{source_collation}
use Rattle.icu_collator.specs.KeyBytes.{codes_from, primary_code, primary_run, was_compressible}
use Rattle.icu_collator.specs.KeyCodes.{AddsPrimary, IsRun, IsWrittenUpTo}
use Rattle.icu_collator.specs.LevelLists.{counted_by, counted_list, primaries_by}
use Rattle.icu_collator.specs.Levels.{primary_at}
use Rattle.icu_collator.specs.PlainPrimaries.{GivesPlain, IsPlain, IsWrittenWhole, between, own_bytes}
use Rattle.icu_collator.specs.Shifted.{Counted, whole, variable}
use Rattle.icu_collator.proofs.key_writing.GivenLevelLemmas.{adds_no_primary}
use Rattle.icu_collator.proofs.key_writing.PrimaryRunLemmas.{adds_in_run, adds_plain}

-- an element without a primary gives none, and one with a primary after all variable ones gives it
gives_none : (collation : Collation) (end bits : ℕ) → bits / 2 ^ 32 ≡ 0 → primary_at collation (counted_by end bits) ≡ None
unfolding counted_by
gives_none collation end bits none =
    cond_both (ltb 0x02000000 (bits / 2 ^ 32) && ltb (bits / 2 ^ 32) end) (variable (bits / 2 ^ 32)) (whole (element_of bits))
    (λ (e : Counted). primary_at collation e ≡ None) (λ _. refl) (λ _. rw none refl)

gives_primary :
    (collation : Collation) (end bits : ℕ) → bits / 2 ^ 32 ≢ 0 → end ≤ bits / 2 ^ 32
    → primary_at collation (counted_by end bits) ≡ Some (collation.reordered (bits / 2 ^ 32))
unfolding counted_by
gives_primary collation end bits some counts =
    let test : (ltb 0x02000000 (bits / 2 ^ 32) && ltb (bits / 2 ^ 32) end) ≡ false = grind (arith, nat_tests) in
    let one : (bits / 2 ^ 32 == 0) ≡ false = grind (arith, nat_tests) in
    rw (test, one) refl

-- where each primary adds its bytes after so many, and leaves the run as it is
module _ (source : CollationSource) (lead end : ℕ) (run : Option ℕ) (left_out : ℕ) (is_run : IsRun (was_compressible (source_collation source)) run)
    (adds : (p : ℕ) (before : List ℕ) → IsPlain lead end p
    → AddsPrimary (was_compressible (source_collation source)) (Some ((source_collation source).reordered p)) run before run (before ++ drop left_out (primary_bytes p)))
  where
    abbrev codes : List ℕ → List ℕ
    codes es =
        codes_from primary_code (primary_run (was_compressible (source_collation source))) run (primaries_by (source_collation source) (counted_list end es))

    abbrev Adds : ℕ → List ℕ → Type 0
    Adds bits before =
        AddsPrimary (was_compressible (source_collation source)) (primary_at (source_collation source) (counted_by end bits)) run before run (before ++ own_bytes left_out bits)

    -- one element
    without_primary : (bits : ℕ) (before : List ℕ) → bits / 2 ^ 32 ≡ 0 → Adds bits before
    unfolding own_bytes
    without_primary bits before none =
        let test : (bits / 2 ^ 32 == 0) ≡ true = grind (arith, nat_tests) in
        let bytes : before ≡ before ++ own_bytes left_out bits =
        sym (append-nil before) ∙ sym (ap (λ (b : Bool). before ++ cond b [] (drop left_out (primary_bytes (bits / 2 ^ 32)))) test) in
        subst
        (λ (after : List ℕ). AddsPrimary (was_compressible (source_collation source)) (primary_at (source_collation source) (counted_by end bits)) run before run after)
        bytes
        (adds_no_primary (was_compressible (source_collation source)) (primary_at (source_collation source) (counted_by end bits)) run before is_run
        (gives_none (source_collation source) end bits none))

    with_primary : (bits : ℕ) (before : List ℕ) → bits / 2 ^ 32 ≢ 0 → GivesPlain lead end bits → Adds bits before
    unfolding own_bytes
    with_primary bits before some gives =
        let plain = gives some in
        let test : (bits / 2 ^ 32 == 0) ≡ false = grind (arith, nat_tests) in
        let bytes : before ++ drop left_out (primary_bytes (bits / 2 ^ 32)) ≡ before ++ own_bytes left_out bits =
        sym (ap (λ (b : Bool). before ++ cond b [] (drop left_out (primary_bytes (bits / 2 ^ 32)))) test) in
        subst (λ (given : Option ℕ). AddsPrimary (was_compressible (source_collation source)) given run before run (before ++ own_bytes left_out bits))
        (sym (gives_primary (source_collation source) end bits some plain.counts))
        (subst
        (λ (after : List ℕ). AddsPrimary (was_compressible (source_collation source)) (Some ((source_collation source).reordered (bits / 2 ^ 32))) run before run after)
        bytes (adds (bits / 2 ^ 32) before plain))

    one_more : (bits : ℕ) (before : List ℕ) → GivesPlain lead end bits → Adds bits before
    one_more bits before gives = by_test (bits / 2 ^ 32 == 0) refl where
      by_test : (b : Bool) → (bits / 2 ^ 32 == 0) ≡ b → Adds bits before
      by_test true is = without_primary bits before (eqb-true (bits / 2 ^ 32) 0 is)
      by_test false is = with_primary bits before (grind (arith, nat_tests)) gives

    -- elements of a list
    all_written : (passed rest before : List ℕ) → All (GivesPlain lead end) passed
        → (before ++ flat_map (own_bytes left_out) passed) ++ codes rest ≡ before ++ codes (passed ++ rest)
    all_written [] rest before all = ap (λ l. l ++ codes rest) (append-nil before)
    all_written (x ∷ xs) rest before all =
        ap (λ l. l ++ codes rest) (sym (append_assoc before (own_bytes left_out x) (flat_map (own_bytes left_out) xs)))
        ∙ all_written xs rest (before ++ own_bytes left_out x) (λ k d lt. all (suc k) d (omega (arith, lt)))
        ∙ (one_more x before (all 0 x (omega arith))).level (primaries_by (source_collation source) (counted_list end (xs ++ rest)))

    written_up_to :
        (items : List ℕ) (from behind : ℕ) (before after : List ℕ) → from ≤ behind → All (GivesPlain lead end) (between from behind items)
        → after ≡ before ++ flat_map (own_bytes left_out) (between from behind items)
        → IsWrittenUpTo (source_collation source) end items run from before behind after
    written_up_to items from behind before after onward all put =
        let index : from + (behind - from) ≡ behind = omega (arith, onward) in
        let rest : drop (behind - from) (drop from items) ≡ drop behind items = drop-drop (behind - from) from items ∙ ap (λ n. drop n items) index in
        let joined : between from behind items ++ drop behind items ≡ drop from items =
        ap (λ l. between from behind items ++ l) (sym rest) ∙ take-append-drop (behind - from) (drop from items) in
        record {
          onward = onward;
          level = ap (λ l. l ++ codes (drop behind items)) put ∙ all_written (between from behind items) (drop behind items) before all
              ∙ ap (λ l. before ++ codes l) joined;
        }

module _ (source : CollationSource) (lead end : ℕ) (accepted : IsAccepted (meaning source.canonical) source.tables) where
  -- after no run
  pub plain_up_to :
      (lead < 256 → IsWrittenWhole source lead)
      → (items : List ℕ) (from behind : ℕ) (before after : List ℕ) → from ≤ behind → All (GivesPlain lead end) (between from behind items)
      → after ≡ before ++ flat_map (own_bytes 0) (between from behind items) → IsWrittenUpTo (source_collation source) end items None from before behind after
  plain_up_to is_whole =
      written_up_to source lead end None 0 tt
      (λ p before plain. adds_plain source p lead before (before ++ primary_bytes p) accepted plain.led plain.byte (is_whole plain.byte) refl)

  -- in a run of the lead, where nothing is reordered
  pub run_up_to :
      source.tables.reordering ≡ None → IsRun (was_compressible (source_collation source)) (Some lead)
      → (items : List ℕ) (from behind : ℕ) (before after : List ℕ) → from ≤ behind → All (GivesPlain lead end) (between from behind items)
      → after ≡ before ++ flat_map (own_bytes 1) (between from behind items)
      → IsWrittenUpTo (source_collation source) end items (Some lead) from before behind after
  run_up_to unmoved is_run =
      written_up_to source lead end (Some lead) 1 is_run
      (λ p before plain. adds_in_run source p lead before (before ++ primary_rest p) accepted plain.led plain.byte unmoved is_run refl)
