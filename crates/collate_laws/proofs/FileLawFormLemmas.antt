-- Normal forms by a normaliser over a file: where two texts have one, and that they stay.
use Rattle.std.proofs.Common.{◌≡◌, ℕ, ◌<◌, ◌^◌, List, sym, ap, subst, ◌∙◌}
use Rattle.std.specs.Prelude.{All, chars, encode_utf8_all}
use Rattle.std.specs.Char.{IsScalar}
use Rattle.std.specs.Str.{IsUtf8}
use Rattle.icu_normalizer_core.specs.Canonical.{composed, decomposed}
use Rattle.icu_normalizer_core.specs.Decoding.{utf16_chars, utf8_chars}
use Rattle.icu_normalizer_core.proofs.decoded.DecodedLemmas.{utf16_scalars, utf8_scalars}
use Rattle.icu_normalizer_core.proofs.decomposed_lists.DecomposedLemmas.{decomposed_all_scalars}
use Rattle.icu_normalizer_core.proofs.decoded.CanonicalTextLemmas.{utf16_text, utf8_text}
use Rattle.icu_normalizer.specs.NormalizerTables.{NormalizerTables, tables_meaning}
use Rattle.icu_normalizer.specs.TextForms.{composed_text, decomposed_text}
use Rattle.icu_normalizer.specs.Texts.{encode_utf16_all}
use Rattle.icu_normalizer.proofs.forms.FormLawLemmas.{bytes_composed, bytes_decomposed}
use Rattle.icu_normalizer.proofs.equivalence.EquivalenceLemmas.{one_decomposed}
use Rattle.icu_normalizer.proofs.equivalence.NormalFormLemmas.{composed_decomposed, composed_one, composed_scalars, composed_twice, decomposed_composed, decomposed_twice}
use Rattle.icu_normalizer.proofs.equivalence.TextFormLemmas.{text_scalars, written_chars}
use Rattle.icu_collator_types.specs.declared.options.CollatorOptions.{CollatorOptions}
use Rattle.icu_collator_types.specs.declared.options.CollatorPreferences.{CollatorPreferences}
use Rattle.icu_collator_types.specs.declared.options.Strength.TheVariants.{Identical}
use Rattle.icu_collator.specs.Collators.{CollatorParts}
use Rattle.icu_collator.specs.NormalForms.{composed_bytes, composed_units, decomposed_bytes, decomposed_units}
use Rattle.collate_lines.specs.Record.{Record}
use Rattle.collate_records.proofs.reading.ReadingAcceptedLemmas.{accepted_decompose}
use Rattle.collate_rules.specs.Accepted.{AreAccepted}
use Rattle.collate_rules.specs.Meaning.{canonical_of}
use Rattle.collate_laws.specs.Alike.{composed_by, decomposed_by}
use Rattle.collate_laws.specs.OverRecords.{IsCanonicalNormalizerOf, IsCollatorOf}
use Rattle.collate_laws.proofs.LawFormLemmas.{accepted_canonical, composed_said, decomposed_said}
use Rattle.collate_laws.proofs.LawKeyLemmas.{identical_alike}
use Rattle.collate_laws.specs.Forms.{IsOneWhereEqual, Stay}

-- ## Forms that stay

-- the forms of texts that are written in an encoding stay where those of their characters do
written_stay : (encode read decompose compose : List ℕ → List ℕ) (text : List ℕ)
    → ((cs : List ℕ) → All IsScalar cs → read (encode cs) ≡ cs)
    → All IsScalar (decompose (read text)) → All IsScalar (compose (read text)) → Stay decompose compose (read text)
    → Stay (λ (t : List ℕ). encode (decompose (read t))) (λ (t : List ℕ). encode (compose (read t))) text
written_stay encode read decompose compose text back decomposed composed stay = record {
  decomposed_twice = ap (λ (cs : List ℕ). encode (decompose cs)) (back (decompose (read text)) decomposed) ∙ ap encode stay.decomposed_twice;
  decomposed_then_composed = ap (λ (cs : List ℕ). encode (compose cs)) (back (decompose (read text)) decomposed) ∙ ap encode stay.decomposed_then_composed;
  composed_then_decomposed = ap (λ (cs : List ℕ). encode (decompose cs)) (back (compose (read text)) composed) ∙ ap encode stay.composed_then_decomposed;
  composed_twice = ap (λ (cs : List ℕ). encode (compose cs)) (back (compose (read text)) composed) ∙ ap encode stay.composed_twice;
}

module _ (records : List Record) (tables : NormalizerTables) (accepted : AreAccepted records) (by : IsCanonicalNormalizerOf records tables) where
  decomposed_here : (x : List ℕ) → All IsScalar x → decomposed_by tables x ≡ decomposed (canonical_of records) x
  decomposed_here = decomposed_said records tables accepted by

  composed_here : (x : List ℕ) → All IsScalar x → composed_by tables x ≡ composed (canonical_of records) x
  composed_here = composed_said records tables accepted by

  decomposed_scalars : (x : List ℕ) → All IsScalar x → All IsScalar (decomposed_by tables x)
  decomposed_scalars x scalars =
      subst (All IsScalar) (sym (decomposed_here x scalars)) (decomposed_all_scalars (canonical_of records) x (accepted_decompose records accepted) scalars)

  composed_by_scalars : (x : List ℕ) → All IsScalar x → All IsScalar (composed_by tables x)
  composed_by_scalars x scalars =
      subst (All IsScalar) (sym (composed_here x scalars)) (composed_scalars (canonical_of records) x (accepted_canonical records accepted) scalars)

  pub characters_stay : (x : List ℕ) → All IsScalar x → Stay (decomposed_by tables) (composed_by tables) x
  characters_stay x scalars =
      let canonical = canonical_of records in
      let decomposing = accepted_decompose records accepted in
      let both = accepted_canonical records accepted in
      record {
        decomposed_twice =
            decomposed_here (decomposed_by tables x) (decomposed_scalars x scalars) ∙ ap (decomposed canonical) (decomposed_here x scalars)
            ∙ decomposed_twice canonical x decomposing scalars ∙ sym (decomposed_here x scalars);
        decomposed_then_composed =
            composed_here (decomposed_by tables x) (decomposed_scalars x scalars) ∙ ap (composed canonical) (decomposed_here x scalars)
            ∙ decomposed_composed canonical x decomposing scalars ∙ sym (composed_here x scalars);
        composed_then_decomposed =
            decomposed_here (composed_by tables x) (composed_by_scalars x scalars) ∙ ap (decomposed canonical) (composed_here x scalars)
            ∙ composed_decomposed canonical x both scalars ∙ sym (decomposed_here x scalars);
        composed_twice =
            composed_here (composed_by tables x) (composed_by_scalars x scalars) ∙ ap (composed canonical) (composed_here x scalars)
            ∙ composed_twice canonical x both scalars ∙ sym (composed_here x scalars);
      }

  pub texts_stay : (text : List ℕ) → IsUtf8 text → Stay (decomposed_text (tables_meaning tables)) (composed_text (tables_meaning tables)) text
  texts_stay text whole =
      let scalars = text_scalars text whole in
      written_stay encode_utf8_all chars (decomposed_by tables) (composed_by tables) text written_chars
      (decomposed_scalars (chars text) scalars) (composed_by_scalars (chars text) scalars) (characters_stay (chars text) scalars)

  pub bytes_stay : (bytes : List ℕ) → Stay (decomposed_bytes (tables_meaning tables)) (composed_bytes (tables_meaning tables)) bytes
  bytes_stay bytes =
      let scalars = utf8_scalars bytes in
      written_stay encode_utf8_all utf8_chars (decomposed_by tables) (composed_by tables) bytes utf8_text
      (decomposed_scalars (utf8_chars bytes) scalars) (composed_by_scalars (utf8_chars bytes) scalars) (characters_stay (utf8_chars bytes) scalars)

  pub units_stay : (units : List ℕ) → All (λ unit. unit < 2 ^ 16) units
      → Stay (decomposed_units (tables_meaning tables)) (composed_units (tables_meaning tables)) units
  units_stay units small =
      let scalars = utf16_scalars units small in
      written_stay encode_utf16_all utf16_chars (decomposed_by tables) (composed_by tables) units utf16_text
      (decomposed_scalars (utf16_chars units) scalars) (composed_by_scalars (utf16_chars units) scalars) (characters_stay (utf16_chars units) scalars)

-- ## Texts of one form

-- the forms of texts that are written in an encoding are one where those of their characters are
written_one : (collator : CollatorParts) (encode read form : List ℕ → List ℕ) (a b : List ℕ)
    → ((cs : List ℕ) → All IsScalar cs → read (encode cs) ≡ cs)
    → All IsScalar (form (read a)) → All IsScalar (form (read b)) → IsOneWhereEqual collator (λ cs. cs) form (read a) (read b)
    → IsOneWhereEqual collator read (λ (t : List ℕ). encode (form (read t))) a b
written_one collator encode read form a b back scalars too one = (
  λ same. one.0 (sym (back (form (read a)) scalars) ∙ ap read same ∙ back (form (read b)) too),
  λ equal. ap encode (one.1 equal),
)

-- and so are forms that are the same
renamed_one : (collator : CollatorParts) (read form other : List ℕ → List ℕ) (a b : List ℕ) → form a ≡ other a → form b ≡ other b
    → IsOneWhereEqual collator read form a b → IsOneWhereEqual collator read other a b
renamed_one collator read form other a b first second one = (
  λ same. one.0 (first ∙ same ∙ sym second),
  λ equal. sym first ∙ one.1 equal ∙ second,
)

module _ (records : List Record) (options : CollatorOptions) (preferences : CollatorPreferences) (collator : CollatorParts) (tables : NormalizerTables)
    (accepted : AreAccepted records) (is : IsCollatorOf records options preferences collator) (by : IsCanonicalNormalizerOf records tables)
    (identical : collator.options.strength ≡ Identical) where
  pub decomposed_where_equal : (x y : List ℕ) → All IsScalar x → All IsScalar y → IsOneWhereEqual collator (λ cs. cs) (decomposed_by tables) x y
  decomposed_where_equal x y scalars too =
      let here = decomposed_here records tables accepted by in
      let equal = identical_alike records options preferences collator accepted is identical x y scalars too in
      let one = one_decomposed (canonical_of records) x y (accepted_decompose records accepted) scalars too in (
        λ same. equal.1 (one.1 (sym (here x scalars) ∙ same ∙ here y too)),
        λ answer. here x scalars ∙ one.0 (equal.0 answer) ∙ sym (here y too),
      )

  pub composed_where_equal : (x y : List ℕ) → All IsScalar x → All IsScalar y → IsOneWhereEqual collator (λ cs. cs) (composed_by tables) x y
  composed_where_equal x y scalars too =
      let here = composed_here records tables accepted by in
      let equal = identical_alike records options preferences collator accepted is identical x y scalars too in
      let one = composed_one (canonical_of records) x y (accepted_canonical records accepted) scalars too in (
        λ same. equal.1 (one.1 (sym (here x scalars) ∙ same ∙ here y too)),
        λ answer. here x scalars ∙ one.0 (equal.0 answer) ∙ sym (here y too),
      )

  pub decomposed_bytes_where_equal : (a b : List ℕ) → IsOneWhereEqual collator utf8_chars (decomposed_bytes (tables_meaning tables)) a b
  decomposed_bytes_where_equal a b =
      let scalars = decomposed_scalars records tables accepted by in
      written_one collator encode_utf8_all utf8_chars (decomposed_by tables) a b utf8_text
      (scalars (utf8_chars a) (utf8_scalars a)) (scalars (utf8_chars b) (utf8_scalars b))
      (decomposed_where_equal (utf8_chars a) (utf8_chars b) (utf8_scalars a) (utf8_scalars b))

  pub composed_bytes_where_equal : (a b : List ℕ) → IsOneWhereEqual collator utf8_chars (composed_bytes (tables_meaning tables)) a b
  composed_bytes_where_equal a b =
      let scalars = composed_by_scalars records tables accepted by in
      written_one collator encode_utf8_all utf8_chars (composed_by tables) a b utf8_text
      (scalars (utf8_chars a) (utf8_scalars a)) (scalars (utf8_chars b) (utf8_scalars b))
      (composed_where_equal (utf8_chars a) (utf8_chars b) (utf8_scalars a) (utf8_scalars b))

  pub decomposed_text_where_equal : (a b : List ℕ) → IsUtf8 a → IsUtf8 b → IsOneWhereEqual collator utf8_chars (decomposed_text (tables_meaning tables)) a b
  decomposed_text_where_equal a b whole too =
      renamed_one collator utf8_chars (decomposed_bytes (tables_meaning tables)) (decomposed_text (tables_meaning tables)) a b
      (bytes_decomposed (tables_meaning tables) a whole) (bytes_decomposed (tables_meaning tables) b too) (decomposed_bytes_where_equal a b)

  pub composed_text_where_equal : (a b : List ℕ) → IsUtf8 a → IsUtf8 b → IsOneWhereEqual collator utf8_chars (composed_text (tables_meaning tables)) a b
  composed_text_where_equal a b whole too =
      renamed_one collator utf8_chars (composed_bytes (tables_meaning tables)) (composed_text (tables_meaning tables)) a b
      (bytes_composed (tables_meaning tables) a whole) (bytes_composed (tables_meaning tables) b too) (composed_bytes_where_equal a b)

  pub decomposed_units_where_equal : (a b : List ℕ) → All (λ unit. unit < 2 ^ 16) a → All (λ unit. unit < 2 ^ 16) b
      → IsOneWhereEqual collator utf16_chars (decomposed_units (tables_meaning tables)) a b
  decomposed_units_where_equal a b small too =
      let scalars = decomposed_scalars records tables accepted by in
      written_one collator encode_utf16_all utf16_chars (decomposed_by tables) a b utf16_text
      (scalars (utf16_chars a) (utf16_scalars a small)) (scalars (utf16_chars b) (utf16_scalars b too))
      (decomposed_where_equal (utf16_chars a) (utf16_chars b) (utf16_scalars a small) (utf16_scalars b too))

  pub composed_units_where_equal : (a b : List ℕ) → All (λ unit. unit < 2 ^ 16) a → All (λ unit. unit < 2 ^ 16) b
      → IsOneWhereEqual collator utf16_chars (composed_units (tables_meaning tables)) a b
  composed_units_where_equal a b small too =
      let scalars = composed_by_scalars records tables accepted by in
      written_one collator encode_utf16_all utf16_chars (composed_by tables) a b utf16_text
      (scalars (utf16_chars a) (utf16_scalars a small)) (scalars (utf16_chars b) (utf16_scalars b too))
      (composed_where_equal (utf16_chars a) (utf16_chars b) (utf16_scalars a small) (utf16_scalars b too))
