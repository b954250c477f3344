-- What collators and normalisers answer of texts that are given as characters, and when two of them answer alike.
use Rattle.std.specs.Prelude.{◌≡◌, ℕ, List, All}
use Rattle.std.specs.Char.{IsScalar}
use Rattle.std.specs.declared.cmp.Ordering.{Ordering}
use Rattle.icu_normalizer_core.specs.Canonical.{composed, decomposed}
use Rattle.icu_normalizer.specs.NormalizerTables.{NormalizerTables, tables_meaning}
use Rattle.icu_collator.specs.Collators.{CollatorParts, source_collation}
use Rattle.icu_collator.specs.KeyBytes.{key_of_text}
use Rattle.icu_collator.specs.Levels.{elements_of_text}
use Rattle.icu_collator.specs.Order.{collation_order}

-- the order of two texts by a collator, and the key of one
abbrev pub order_of : CollatorParts → List ℕ → List ℕ → Ordering
order_of collator = collation_order (source_collation collator.source) collator.options

abbrev pub key_of : CollatorParts → List ℕ → List ℕ
key_of collator = key_of_text (source_collation collator.source) collator.options

-- the decomposed list of a text by a normaliser, and the composed list
abbrev pub decomposed_by : NormalizerTables → List ℕ → List ℕ
decomposed_by tables = decomposed (tables_meaning tables)

abbrev pub composed_by : NormalizerTables → List ℕ → List ℕ
composed_by tables = composed (tables_meaning tables)

-- collators that order each two texts alike, and write one key of each text
pub record AnswerAlike (a b : CollatorParts) : Type 0 where
  pub orders : (x y : List ℕ) → All IsScalar x → All IsScalar y → order_of a x y ≡ order_of b x y
  pub keys : (x : List ℕ) → All IsScalar x → key_of a x ≡ key_of b x

-- normalisers that give each text one decomposed and one composed list
pub record NormalizeAlike (a b : NormalizerTables) : Type 0 where
  pub decomposed_lists : (x : List ℕ) → All IsScalar x → decomposed_by a x ≡ decomposed_by b x
  pub composed_lists : (x : List ℕ) → All IsScalar x → composed_by a x ≡ composed_by b x

-- collators that read a text alike: as one decomposed list, with the same elements and one key
pub record ReadAlike (a b : CollatorParts) (text : List ℕ) : Type 0 where
  pub list : decomposed (source_collation a.source).canonical text ≡ decomposed (source_collation b.source).canonical text
  pub elements : elements_of_text (source_collation a.source) a.options text ≡ elements_of_text (source_collation b.source) b.options text
  pub key : key_of a text ≡ key_of b text

-- A text in some form in its place changes no order, on either side, and no key. Texts are read as characters.
pub record ChangesNothing (collator : CollatorParts) (read form : List ℕ → List ℕ) (text : List ℕ) : Type 0 where
  pub left : (y : List ℕ) → All IsScalar y → order_of collator (read (form text)) y ≡ order_of collator (read text) y
  pub right : (x : List ℕ) → All IsScalar x → order_of collator x (read (form text)) ≡ order_of collator x (read text)
  pub key : key_of collator (read (form text)) ≡ key_of collator (read text)
