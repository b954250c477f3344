-- What follows of the answers of collators over the tables of a file: keys, equivalence and normal forms.
use Rattle.std.proofs.Common.{◌≡◌, ℕ, ◌<◌, ◌^◌, Bool, true, not, ◌||◌, ◌↔◌, List, sym, ap, subst, ◌∙◌}
use Rattle.std.specs.Prelude.{All}
use Rattle.std.specs.Char.{IsScalar}
use Rattle.std.specs.Str.{IsUtf8}
use Rattle.std.specs.Cmp.Lexicographic.{slice_cmp}
use Rattle.std.specs.Ordering.{nat_cmp}
use Rattle.std.specs.declared.cmp.Ordering.{Ordering}
use Rattle.std.specs.declared.cmp.Ordering.TheVariants.{Equal}
use Rattle.icu_normalizer_core.specs.Canonical.{decomposed}
use Rattle.icu_normalizer_core.specs.Decoding.{utf16_chars, utf8_chars}
use Rattle.icu_normalizer_core.proofs.decoded.DecodedLemmas.{utf16_scalars, utf8_scalars}
use Rattle.icu_normalizer_core.proofs.decomposed_lists.DecomposedLemmas.{decomposed_all_scalars}
use Rattle.icu_normalizer_core.proofs.decoded.CanonicalTextLemmas.{utf16_text, utf8_text}
use Rattle.icu_normalizer.specs.Equivalence.{IsEquivalent}
use Rattle.icu_normalizer.specs.NormalizerTables.{NormalizerTables, tables_meaning}
use Rattle.icu_normalizer.specs.TextForms.{composed_text, decomposed_text}
use Rattle.icu_normalizer.proofs.forms.FormLawLemmas.{bytes_composed, bytes_decomposed}
use Rattle.icu_normalizer.proofs.equivalence.EquivalenceLemmas.{one_decomposed}
use Rattle.icu_normalizer.proofs.equivalence.NormalFormLemmas.{composed_decomposed, composed_scalars, decomposed_twice}
use Rattle.icu_collator_types.specs.Options.{is_numeric}
use Rattle.icu_collator_types.specs.declared.options.CollatorOptions.{CollatorOptions}
use Rattle.icu_collator_types.specs.declared.options.CollatorPreferences.{CollatorPreferences}
use Rattle.icu_collator_types.specs.declared.options.ResolvedCollatorOptions.{ResolvedCollatorOptions}
use Rattle.icu_collator_types.specs.declared.options.Strength.TheVariants.{Identical}
use Rattle.icu_collator_core.specs.Acceptance.{CollationSource}
use Rattle.icu_collator.specs.CollatorAnswers.{HasKeysInOrder}
use Rattle.icu_collator.specs.Collators.{CollatorParts, borrowed_options, borrowed_source, source_collation}
use Rattle.icu_collator.specs.KeyBytes.{key_bytes, key_of_text}
use Rattle.icu_collator.specs.LeadMoves.{ReordersWholeLeads}
use Rattle.icu_collator.specs.Levels.{Levels}
use Rattle.icu_collator.specs.NormalForms.{composed_bytes, composed_units, decomposed_bytes, decomposed_units}
use Rattle.icu_collator.specs.Order.{collation_order}
use Rattle.icu_collator.specs.Settings.{has_plain_leads}
use Rattle.icu_collator.specs.declared.comparison.borrowed.CollatorBorrowed.{CollatorBorrowed}
use Rattle.icu_collator.proofs.equivalence.IdenticalLemmas.{equal_at_identical, equivalent_equal, same_levels}
use Rattle.icu_collator.proofs.equivalence.NormalisingLemmas.{first_replaced, second_replaced}
use Rattle.icu_collator.proofs.keys.TextKeyLemmas.{equal_text_keys, text_keys_order}
use Rattle.icu_collator.proofs.tables.AcceptedSettingLemmas.{moved_whole}
use Rattle.collate_lines.specs.Record.{Record}
use Rattle.collate_records.proofs.reading.ReadingAcceptedLemmas.{accepted_decompose}
use Rattle.collate_rules.specs.Accepted.{AreAccepted}
use Rattle.collate_rules.specs.Meaning.{canonical_of, collation_of, weights_of}
use Rattle.collate_laws.specs.Alike.{ChangesNothing, composed_by, decomposed_by, key_of, order_of}
use Rattle.collate_laws.specs.OverRecords.{IsCanonicalNormalizerOf, IsCollatorOf}
use Rattle.collate_laws.proofs.LawAnswerLemmas.{key_here, order_here}
use Rattle.collate_laws.proofs.LawFormLemmas.{accepted_canonical, composed_said, decomposed_said}
use Rattle.collate_laws.proofs.LawSoundLemmas.{accepted_sound}

module _ (records : List Record) (options : CollatorOptions) (preferences : CollatorPreferences) (collator : CollatorParts)
    (is : IsCollatorOf records options preferences collator) where
  -- the lead of numbers is compressible by the tables where it is by the file
  plain_here : has_plain_leads (collation_of records) collator.options ≡ true → has_plain_leads (source_collation collator.source) collator.options ≡ true
  plain_here plain =
      ap (λ (is : Bool). not (is_numeric collator.options.numeric) || not is)
      (ap (source_collation collator.source).weights.is_compressible is.weights.numeric_lead ∙ is.weights.is_compressible (weights_of records).numeric_lead)
      ∙ plain

  pub keys_in_order : (borrowed : CollatorBorrowed) → borrowed_source borrowed ≡ collator.source → borrowed_options borrowed ≡ collator.options
      → has_plain_leads (collation_of records) collator.options ≡ true → HasKeysInOrder borrowed
  keys_in_order borrowed same_source same_options plain = record {
    leads = subst (λ (source : CollationSource). ReordersWholeLeads source.tables) (sym same_source) (moved_whole collator.source.tables is.leads);
    plain =
        ap (λ (source : CollationSource). has_plain_leads (source_collation source) (borrowed_options borrowed)) same_source
        ∙ ap (λ (o : ResolvedCollatorOptions). has_plain_leads (source_collation collator.source) o) same_options
        ∙ plain_here plain;
  }

module _ (records : List Record) (options : CollatorOptions) (preferences : CollatorPreferences) (collator : CollatorParts)
    (accepted : AreAccepted records) (is : IsCollatorOf records options preferences collator) where
  -- the order by the records, and the key
  abbrev said_order : List ℕ → List ℕ → Ordering
  said_order = collation_order (collation_of records) collator.options

  abbrev said_key : List ℕ → List ℕ
  said_key = key_of_text (collation_of records) collator.options

  order_said : (x y : List ℕ) → All IsScalar x → All IsScalar y → order_of collator x y ≡ said_order x y
  order_said = order_here records options preferences collator accepted is

  key_said : (x : List ℕ) → All IsScalar x → key_of collator x ≡ said_key x
  key_said = key_here records options preferences collator accepted is

  -- texts of one decomposed list have one key
  one_list_key : (x y : List ℕ) → All IsScalar x → All IsScalar y → decomposed (canonical_of records) x ≡ decomposed (canonical_of records) y
      → key_of collator x ≡ key_of collator y
  one_list_key x y scalars too same =
      key_said x scalars
      ∙ ap (λ (levels : Levels). key_bytes (collation_of records) collator.options levels) (same_levels (collation_of records) collator.options x y same)
      ∙ sym (key_said y too)

  -- ## Keys

  pub keys_order : has_plain_leads (collation_of records) collator.options ≡ true → (x y : List ℕ) → All IsScalar x → All IsScalar y
      → slice_cmp nat_cmp (key_of collator x) (key_of collator y) ≡ order_of collator x y
  keys_order plain x y scalars too =
      ap (λ (key : List ℕ). slice_cmp nat_cmp key (key_of collator y)) (key_said x scalars)
      ∙ ap (λ (key : List ℕ). slice_cmp nat_cmp (said_key x) key) (key_said y too)
      ∙ text_keys_order (collation_of records) collator.options x y (accepted_decompose records accepted) (accepted_sound records accepted) plain scalars too
      ∙ sym (order_said x y scalars too)

  pub keys_equal : has_plain_leads (collation_of records) collator.options ≡ true → (x y : List ℕ) → All IsScalar x → All IsScalar y
      → (key_of collator x ≡ key_of collator y) ↔ (order_of collator x y ≡ Equal)
  keys_equal plain x y scalars too =
      let equal = equal_text_keys (collation_of records) collator.options x y (accepted_decompose records accepted) (accepted_sound records accepted) plain scalars too in (
        λ same. order_said x y scalars too ∙ equal.0 (sym (key_said x scalars) ∙ same ∙ key_said y too),
        λ same. key_said x scalars ∙ equal.1 (sym (order_said x y scalars too) ∙ same) ∙ sym (key_said y too),
      )

  -- ## Equivalence

  pub equivalent_alike : (x y : List ℕ) → All IsScalar x → All IsScalar y → IsEquivalent (canonical_of records) x y → order_of collator x y ≡ Equal
  equivalent_alike x y scalars too equivalent =
      order_said x y scalars too
      ∙ equivalent_equal (collation_of records) collator.options x y (accepted_decompose records accepted) scalars too equivalent

  pub equivalent_keys : (x y : List ℕ) → All IsScalar x → All IsScalar y → IsEquivalent (canonical_of records) x y → key_of collator x ≡ key_of collator y
  equivalent_keys x y scalars too equivalent =
      one_list_key x y scalars too ((one_decomposed (canonical_of records) x y (accepted_decompose records accepted) scalars too).0 equivalent)

  pub identical_alike : collator.options.strength ≡ Identical → (x y : List ℕ) → All IsScalar x → All IsScalar y
      → (order_of collator x y ≡ Equal) ↔ IsEquivalent (canonical_of records) x y
  identical_alike identical x y scalars too = (
    λ equal.
        (equal_at_identical (collation_of records) collator.options x y (accepted_decompose records accepted) identical scalars too).0
        (sym (order_said x y scalars too) ∙ equal),
    equivalent_alike x y scalars too,
  )

  pub identical_keys : has_plain_leads (collation_of records) collator.options ≡ true → collator.options.strength ≡ Identical
      → (x y : List ℕ) → All IsScalar x → All IsScalar y → (key_of collator x ≡ key_of collator y) ↔ IsEquivalent (canonical_of records) x y
  identical_keys plain identical x y scalars too = (
    λ same. (identical_alike identical x y scalars too).0 ((keys_equal plain x y scalars too).0 same),
    equivalent_keys x y scalars too,
  )

  -- ## Normal forms

  -- a form that has the text's decomposed list
  replaced : (form : List ℕ → List ℕ) (x : List ℕ) → All IsScalar x → All IsScalar (form x)
      → decomposed (canonical_of records) (form x) ≡ decomposed (canonical_of records) x → ChangesNothing collator (λ cs. cs) form x
  replaced form x scalars formed same = record {
    left = λ y too.
        order_said (form x) y formed too
        ∙ first_replaced (collation_of records) collator.options x (form x) y same
        ∙ sym (order_said x y scalars too);
    right = λ y too.
        order_said y (form x) too formed
        ∙ second_replaced (collation_of records) collator.options y x (form x) same
        ∙ sym (order_said y x too scalars);
    key = one_list_key (form x) x formed scalars same;
  }

  -- a form of what is read as characters, where it is read as their form
  read_as : (read form by : List ℕ → List ℕ) (text : List ℕ) → read (form text) ≡ by (read text)
      → ChangesNothing collator (λ cs. cs) by (read text) → ChangesNothing collator read form text
  read_as read form by text same nothing = record {
    left = λ y too. ap (λ (n : List ℕ). order_of collator n y) same ∙ nothing.left y too;
    right = λ x too. ap (λ (n : List ℕ). order_of collator x n) same ∙ nothing.right x too;
    key = ap (key_of collator) same ∙ nothing.key;
  }

  module _ (tables : NormalizerTables) (by : IsCanonicalNormalizerOf records tables) where
    decomposed_scalars : (x : List ℕ) → All IsScalar x → All IsScalar (decomposed_by tables x)
    decomposed_scalars x scalars =
        subst (All IsScalar) (sym (decomposed_said records tables accepted by x scalars))
        (decomposed_all_scalars (canonical_of records) x (accepted_decompose records accepted) scalars)

    composed_by_scalars : (x : List ℕ) → All IsScalar x → All IsScalar (composed_by tables x)
    composed_by_scalars x scalars =
        subst (All IsScalar) (sym (composed_said records tables accepted by x scalars))
        (composed_scalars (canonical_of records) x (accepted_canonical records accepted) scalars)

    pub decomposed_nothing : (x : List ℕ) → All IsScalar x → ChangesNothing collator (λ cs. cs) (decomposed_by tables) x
    decomposed_nothing x scalars =
        replaced (decomposed_by tables) x scalars (decomposed_scalars x scalars)
        (ap (decomposed (canonical_of records)) (decomposed_said records tables accepted by x scalars)
        ∙ decomposed_twice (canonical_of records) x (accepted_decompose records accepted) scalars)

    pub composed_nothing : (x : List ℕ) → All IsScalar x → ChangesNothing collator (λ cs. cs) (composed_by tables) x
    composed_nothing x scalars =
        replaced (composed_by tables) x scalars (composed_by_scalars x scalars)
        (ap (decomposed (canonical_of records)) (composed_said records tables accepted by x scalars)
        ∙ composed_decomposed (canonical_of records) x (accepted_canonical records accepted) scalars)

    pub decomposed_bytes_nothing : (bytes : List ℕ) → ChangesNothing collator utf8_chars (decomposed_bytes (tables_meaning tables)) bytes
    decomposed_bytes_nothing bytes =
        read_as utf8_chars (decomposed_bytes (tables_meaning tables)) (decomposed_by tables) bytes
        (utf8_text _ (decomposed_scalars (utf8_chars bytes) (utf8_scalars bytes)))
        (decomposed_nothing (utf8_chars bytes) (utf8_scalars bytes))

    pub composed_bytes_nothing : (bytes : List ℕ) → ChangesNothing collator utf8_chars (composed_bytes (tables_meaning tables)) bytes
    composed_bytes_nothing bytes =
        read_as utf8_chars (composed_bytes (tables_meaning tables)) (composed_by tables) bytes
        (utf8_text _ (composed_by_scalars (utf8_chars bytes) (utf8_scalars bytes)))
        (composed_nothing (utf8_chars bytes) (utf8_scalars bytes))

    pub decomposed_text_nothing : (text : List ℕ) → IsUtf8 text → ChangesNothing collator utf8_chars (decomposed_text (tables_meaning tables)) text
    decomposed_text_nothing text whole =
        read_as utf8_chars (decomposed_text (tables_meaning tables)) (decomposed_by tables) text
        (ap utf8_chars (sym (bytes_decomposed (tables_meaning tables) text whole))
        ∙ utf8_text _ (decomposed_scalars (utf8_chars text) (utf8_scalars text)))
        (decomposed_nothing (utf8_chars text) (utf8_scalars text))

    pub composed_text_nothing : (text : List ℕ) → IsUtf8 text → ChangesNothing collator utf8_chars (composed_text (tables_meaning tables)) text
    composed_text_nothing text whole =
        read_as utf8_chars (composed_text (tables_meaning tables)) (composed_by tables) text
        (ap utf8_chars (sym (bytes_composed (tables_meaning tables) text whole))
        ∙ utf8_text _ (composed_by_scalars (utf8_chars text) (utf8_scalars text)))
        (composed_nothing (utf8_chars text) (utf8_scalars text))

    pub decomposed_units_nothing : (units : List ℕ) → All (λ unit. unit < 2 ^ 16) units
        → ChangesNothing collator utf16_chars (decomposed_units (tables_meaning tables)) units
    decomposed_units_nothing units small =
        read_as utf16_chars (decomposed_units (tables_meaning tables)) (decomposed_by tables) units
        (utf16_text _ (decomposed_scalars (utf16_chars units) (utf16_scalars units small)))
        (decomposed_nothing (utf16_chars units) (utf16_scalars units small))

    pub composed_units_nothing : (units : List ℕ) → All (λ unit. unit < 2 ^ 16) units
        → ChangesNothing collator utf16_chars (composed_units (tables_meaning tables)) units
    composed_units_nothing units small =
        read_as utf16_chars (composed_units (tables_meaning tables)) (composed_by tables) units
        (utf16_text _ (composed_by_scalars (utf16_chars units) (utf16_scalars units small)))
        (composed_nothing (utf16_chars units) (utf16_scalars units small))
