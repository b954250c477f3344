-- Normalisers over the tables of a file give texts the forms that its records say.
use Rattle.std.proofs.Common.{◌≡◌, ℕ, cond, List, [], ◌∷◌, ◌++◌, Option, Some, None, refl, sym, ap, ◌∙◌, inl}
use Rattle.std.specs.Prelude.{All}
use Rattle.std.specs.Option.{unwrap_or}
use Rattle.std.specs.Char.{IsScalar}
use Rattle.std.specs.List.Sorted.{IsPermutation}
use Rattle.std.specs.Str.{IsUtf8}
use Rattle.icu_normalizer_core.specs.BuiltIn.{built_in_compatibility_step, built_in_step, is_built_in}
use Rattle.icu_normalizer_core.specs.declared.canonical.tables.CanonicalTables.{CanonicalTables}
use Rattle.icu_normalizer_core.specs.declared.compatibility.tables.NfkdTables.{NfkdTables}
use Rattle.icu_normalizer_core.specs.Canonical.{Canonical, IsCanonical, Leaves, nothing, unmapped, mapped, composed, decomposed}
use Rattle.icu_normalizer_core.specs.CanonicalMeaning.{meaning}
use Rattle.icu_normalizer_core.specs.Sameness.{AreSameComposing}
use Rattle.icu_normalizer_core.proofs.decomposed_lists.DecomposedLemmas.{decomposed_same, left_one}
use Rattle.icu_normalizer.specs.NormalizerTables.{NormalizerTables, tables_meaning}
use Rattle.icu_normalizer.specs.TextForms.{composed_text, decomposed_text}
use Rattle.icu_normalizer.proofs.forms.SameFormLemmas.{same_composed, same_decomposed, same_text_composed, same_text_decomposed}
use Rattle.collate_lines.specs.declared.rule.Rule.TheVariants.{C5, V14}
use Rattle.collate_lines.specs.declared.limits.Limits.{Limits}
use Rattle.collate_lines.specs.Lines.{lines_of, records_of}
use Rattle.collate_lines.specs.Record.{Record}
use Rattle.collate_records.specs.Files.{IsAcceptedWithin}
use Rattle.collate_records.proofs.comparing.LineOrderLemmas.{said_alike, same_composing}
use Rattle.collate_records.proofs.maps.AnyStepLemmas.{any_ends}
use Rattle.collate_records.proofs.comparing.OneLineLemmas.{compatibility_second, mapping_second}
use Rattle.collate_records.proofs.reading.ReadingAcceptedLemmas.{accepted_compose, accepted_decompose, lines_within}
use Rattle.collate_records.proofs.reordering.AcceptedMovedLemmas.{records_moved}
use Rattle.collate_rules.specs.Accepted.{AreAccepted}
use Rattle.collate_rules.specs.Meaning.{any_step, canonical_of, compatibility_in, compatibility_of, else_mapped, mapping_in, step_of}
use Rattle.collate_rules.specs.Rules.{compatibility_full_of}
use Rattle.collate_laws.specs.Alike.{NormalizeAlike, composed_by, decomposed_by}
use Rattle.collate_laws.specs.OverRecords.{IsCanonicalNormalizerOf, IsCompatibilityNormalizerOf, both_of}

-- accepted lines give canonical data
pub accepted_canonical : (records : List Record) → AreAccepted records → IsCanonical (canonical_of records)
accepted_canonical records accepted = record { decomposing = accepted_decompose records accepted; composing = accepted_compose records accepted }

-- ## To canonical forms

module _ (records : List Record) (tables : NormalizerTables) (accepted : AreAccepted records) (is : IsCanonicalNormalizerOf records tables) where
  canonical_alone : tables_meaning tables ≡ meaning tables.canonical
  canonical_alone =
      ap (λ (nfkd : Option NfkdTables). tables_meaning (record { canonical = tables.canonical; nfkd = nfkd })) is.no_compatibility

  pub decomposed_said : (x : List ℕ) → All IsScalar x → decomposed_by tables x ≡ decomposed (canonical_of records) x
  decomposed_said x scalars =
      ap (λ (said : Canonical). decomposed said x) canonical_alone
      ∙ decomposed_same (meaning tables.canonical) (canonical_of records) x is.canonical.same (accepted_decompose records accepted) scalars

  pub composed_said : (x : List ℕ) → All IsScalar x → composed_by tables x ≡ composed (canonical_of records) x
  composed_said x scalars =
      ap (λ (said : Canonical). composed said x) canonical_alone
      ∙ same_composed (canonical_of records) (canonical_of records) (meaning tables.canonical) x
      (accepted_canonical records accepted) (inl refl) is.canonical scalars

  -- and of texts in UTF-8
  pub decomposed_text_said : (text : List ℕ) → IsUtf8 text → decomposed_text (tables_meaning tables) text ≡ decomposed_text (canonical_of records) text
  decomposed_text_said text whole =
      ap (λ (said : Canonical). decomposed_text said text) canonical_alone
      ∙ same_text_decomposed (canonical_of records) (canonical_of records) (meaning tables.canonical) text
      (accepted_canonical records accepted) (inl refl) is.canonical.same whole

  pub composed_text_said : (text : List ℕ) → IsUtf8 text → composed_text (tables_meaning tables) text ≡ composed_text (canonical_of records) text
  composed_text_said text whole =
      ap (λ (said : Canonical). composed_text said text) canonical_alone
      ∙ same_text_composed (canonical_of records) (canonical_of records) (meaning tables.canonical) text
      (accepted_canonical records accepted) (inl refl) is.canonical whole

-- those of two sets of records that say the same
pub canonical_alike : (lines others : List Record) (a b : NormalizerTables) → AreAccepted lines → AreAccepted others
    → IsCanonicalNormalizerOf lines a → IsCanonicalNormalizerOf others b
    → AreSameComposing (canonical_of lines) (canonical_of others) → NormalizeAlike a b
canonical_alike lines others a b accepted also first second same = record {
  decomposed_lists = λ x scalars.
      decomposed_said lines a accepted first x scalars
      ∙ decomposed_same (canonical_of lines) (canonical_of others) x same.same (accepted_decompose others also) scalars
      ∙ sym (decomposed_said others b also second x scalars);
  composed_lists = λ x scalars.
      composed_said lines a accepted first x scalars
      ∙ same_composed (canonical_of others) (canonical_of others) (canonical_of lines) x (accepted_canonical others also) (inl refl) same scalars
      ∙ sym (composed_said others b also second x scalars);
}

-- ## To compatibility forms

-- the pairs are those of the canonical tables
canonical_pairs : (canonical : CanonicalTables) (nfkd : Option NfkdTables) (x y : ℕ)
    → (tables_meaning (record { canonical = canonical; nfkd = nfkd })).pair x y ≡ (meaning canonical).pair x y
canonical_pairs canonical None x y = refl
canonical_pairs canonical (Some nfkd) x y = refl

-- steps that are alike leave the same
left_alike : (step other : ℕ → List ℕ) → ((c : ℕ) → step c ≡ other c) → (xs ns : List ℕ) → Leaves step xs ns → Leaves other xs ns
left_alike step other same xs ns nothing = nothing
left_alike step other same xs ns (unmapped c cs ms u left) = unmapped c cs ms (sym (same c) ∙ u) (left_alike step other same cs ms left)
left_alike step other same xs ns (mapped c d ds cs ms u left) =
    mapped c d ds cs ms (sym (same c) ∙ u) (left_alike step other same ((d ∷ ds) ++ cs) ms left)

-- a normaliser gives the forms that records say by mappings of both kinds
module _ (records : List Record) (tables : NormalizerTables) (accepted : AreAccepted records) (is : IsCompatibilityNormalizerOf records tables) where
  same_both : AreSameComposing (both_of records) (tables_meaning tables)
  same_both = record {
    same = record {
      class = λ c scalar. sym (is.both.class c scalar);
      full = λ c scalar.
          left_one (any_step records) (c ∷ []) (compatibility_full_of records c) ((tables_meaning tables).full c)
          (any_ends records accepted c scalar) (is.both.full c scalar);
    };
    pair = λ x y one two. sym (canonical_pairs tables.canonical tables.nfkd x y ∙ is.canonical.pair x y one two);
  }

  pub both_decomposed_said : (x : List ℕ) → All IsScalar x → decomposed_by tables x ≡ decomposed (both_of records) x
  both_decomposed_said x scalars =
      sym (same_decomposed (meaning tables.canonical) (tables_meaning tables) (both_of records) x is.promise is.over same_both.same scalars)

  pub both_composed_said : (x : List ℕ) → All IsScalar x → composed_by tables x ≡ composed (both_of records) x
  both_composed_said x scalars =
      sym (same_composed (meaning tables.canonical) (tables_meaning tables) (both_of records) x is.promise is.over same_both scalars)

  -- and of texts in UTF-8
  pub both_decomposed_text_said : (text : List ℕ) → IsUtf8 text → decomposed_text (tables_meaning tables) text ≡ decomposed_text (both_of records) text
  both_decomposed_text_said text whole =
      sym (same_text_decomposed (meaning tables.canonical) (tables_meaning tables) (both_of records) text is.promise is.over same_both.same whole)

  pub both_composed_text_said : (text : List ℕ) → IsUtf8 text → composed_text (tables_meaning tables) text ≡ composed_text (both_of records) text
  both_composed_text_said text whole =
      sym (same_text_composed (meaning tables.canonical) (tables_meaning tables) (both_of records) text is.promise is.over same_both whole)

module _ (lines others : List Record) (a b : NormalizerTables) (first : IsCompatibilityNormalizerOf lines a) (second : IsCompatibilityNormalizerOf others b)
    (same : AreSameComposing (canonical_of lines) (canonical_of others)) (steps : (c : ℕ) → any_step lines c ≡ any_step others c) where
  meant_alike : AreSameComposing (tables_meaning a) (tables_meaning b)
  meant_alike = record {
    same = record {
      class = λ c scalar. first.both.class c scalar ∙ same.same.class c scalar ∙ sym (second.both.class c scalar);
      full = λ c scalar.
          left_one (any_step others) (c ∷ []) ((tables_meaning a).full c) ((tables_meaning b).full c)
          (left_alike (any_step lines) (any_step others) steps (c ∷ []) ((tables_meaning a).full c) (first.both.full c scalar))
          (second.both.full c scalar);
    };
    pair = λ x y one two.
        canonical_pairs a.canonical a.nfkd x y
        ∙ first.canonical.pair x y one two
        ∙ same.pair x y one two
        ∙ sym (second.canonical.pair x y one two)
        ∙ sym (canonical_pairs b.canonical b.nfkd x y);
  }

  pub compatibility_alike : NormalizeAlike a b
  compatibility_alike = record {
    decomposed_lists = λ x scalars.
        same_decomposed (meaning b.canonical) (tables_meaning b) (tables_meaning a) x second.promise second.over meant_alike.same scalars;
    composed_lists = λ x scalars.
        same_composed (meaning b.canonical) (tables_meaning b) (tables_meaning a) x second.promise second.over meant_alike scalars;
  }

-- ## Of one file, and of two that have the same lines in another order

itself : (canonical : Canonical) → AreSameComposing canonical canonical
itself canonical = record { same = record { class = λ c scalar. refl; full = λ c scalar. refl }; pair = λ x y one two. refl }

pub same_canonical_alike : (records : List Record) (a b : NormalizerTables) → AreAccepted records
    → IsCanonicalNormalizerOf records a → IsCanonicalNormalizerOf records b → NormalizeAlike a b
same_canonical_alike records a b accepted first second =
    canonical_alike records records a b accepted accepted first second (itself (canonical_of records))

pub same_compatibility_alike : (records : List Record) (a b : NormalizerTables)
    → IsCompatibilityNormalizerOf records a → IsCompatibilityNormalizerOf records b → NormalizeAlike a b
same_compatibility_alike records a b first second =
    compatibility_alike records records a b first second (itself (canonical_of records)) (λ c. refl)

module _ (limits : Limits) (file moved : List ℕ) (accepted : IsAcceptedWithin limits file) (lines : IsPermutation (lines_of file) (lines_of moved)) where
  lines_accepted : AreAccepted (records_of file)
  lines_accepted = lines_within limits file accepted

  canonical_moved : AreSameComposing (canonical_of (records_of file)) (canonical_of (records_of moved))
  canonical_moved =
      same_composing (records_of file) (records_of moved) (records_moved file moved lines) (lines_accepted.keep_rules V14) (lines_accepted.keep_rules C5)

  steps_moved : (c : ℕ) → any_step (records_of file) c ≡ any_step (records_of moved) c
  steps_moved c =
      let shifted = records_moved file moved lines in
      let step : step_of (records_of file) c ≡ step_of (records_of moved) c =
      ap (λ (o : Option (List ℕ)). cond (is_built_in c) (unwrap_or (built_in_step c) []) (unwrap_or o []))
      (said_alike (records_of file) (records_of moved) shifted (lines_accepted.keep_rules V14) (mapping_in c) (mapping_second c)) in
      let compatibility : compatibility_of (records_of file) c ≡ compatibility_of (records_of moved) c =
      ap (λ (o : Option (List ℕ)). cond (is_built_in c) [] (unwrap_or o []))
      (said_alike (records_of file) (records_of moved) shifted (lines_accepted.keep_rules V14) (compatibility_in c) (compatibility_second c)) in
      ap (λ (ds : List ℕ). unwrap_or (built_in_compatibility_step c) (else_mapped ds (compatibility_of (records_of file) c))) step
      ∙ ap (λ (ds : List ℕ). unwrap_or (built_in_compatibility_step c) (else_mapped (step_of (records_of moved) c) ds)) compatibility

  pub moved_canonical_alike : (a b : NormalizerTables) → IsAcceptedWithin limits moved
      → IsCanonicalNormalizerOf (records_of file) a → IsCanonicalNormalizerOf (records_of moved) b → NormalizeAlike a b
  moved_canonical_alike a b also first second =
      canonical_alike (records_of file) (records_of moved) a b lines_accepted (lines_within limits moved also) first second canonical_moved

  pub moved_compatibility_alike : (a b : NormalizerTables)
      → IsCompatibilityNormalizerOf (records_of file) a → IsCompatibilityNormalizerOf (records_of moved) b → NormalizeAlike a b
  moved_compatibility_alike a b first second =
      compatibility_alike (records_of file) (records_of moved) a b first second canonical_moved steps_moved
