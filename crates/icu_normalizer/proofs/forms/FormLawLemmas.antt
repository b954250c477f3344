-- Each normal form of a normal form is that of the text, by canonical and by compatibility data.
use Rattle.std.proofs.Common.{◌≡◌, ℕ, ◌<◌, ⊎_elim, true, ltb, ◌&&◌, List, [], ◌∷◌, ◌++◌, flat_map, chars, encode_utf8_all, IsUtf8, Some, refl, sym, ap, ap₂, subst, ◌∙◌, arith, append_assoc, append-nil}
use Rattle.std.proofs.lemmas.Bool.{cases_lt, cond_both, ltb-true, and_parts}
use Rattle.std.proofs.lemmas.Grind.{flat_map-append}
use Rattle.std.proofs.lemmas.Str.{encodes-chars}
use Rattle.std.proofs.lemmas.List.Elements.{recursion_from_All, All-from_recursion}
use Rattle.std.specs.Prelude.{◌≢◌, All}
use Rattle.std.specs.Char.{IsScalar}
use Rattle.std.specs.List.{AllByRecursion, list_all}
use Rattle.icu_normalizer_core.specs.Canonical.{Canonical, IsCanonical, put_in_order, marks_in_order, decomposed, composing, recomposed, composed}
use Rattle.icu_normalizer_core.specs.Decoding.{utf8_chars, utf16_chars}
use Rattle.icu_normalizer_core.specs.Forming.{IsForming, IsSaidOver}
use Rattle.icu_normalizer_core.proofs.decomposed_lists.DecomposedLemmas.{AreScalar, all_append, put_swapped}
use Rattle.icu_normalizer_core.proofs.decoded.CanonicalTextLemmas.{utf8_text, utf16_text}
use Rattle.icu_normalizer_core.proofs.compatible.CompatibleLemmas.{forming_compatibility}
use Rattle.icu_normalizer_core.proofs.decomposed_lists.FormingLemmas.{forming_canonical}
use Rattle.icu_normalizer.specs.TextForms.{decomposed_text, composed_text}
use Rattle.icu_normalizer.specs.Texts.{encode_utf16_all}
use Rattle.icu_normalizer.proofs.composed.ComposingLemmas.{composing_end, composing_cases, recomposed_nothing, recomposed_begun, recomposed_passed, seen_over}
use Rattle.icu_normalizer.proofs.noted.OwnLemmas.{AreOwn, decomposed_own, decomposed_scalar}
use Rattle.icu_normalizer.proofs.equivalence.NormalFormLemmas.{recomposed_scalars}
use Rattle.icu_normalizer.proofs.equivalence.TextFormLemmas.{text_scalars, form_written, written_chars}

-- ---- marks in order

module _ (class : ℕ → ℕ) where
  -- putting a character in order and putting the others in order go in either turn
  order_put : (c : ℕ) (ds : List ℕ) → marks_in_order class (put_in_order class c ds) ≡ put_in_order class c (marks_in_order class ds)
  unfolding put_in_order marks_in_order
  order_put c [] = refl
  order_put c (d ∷ ds) =
      cond_both (ltb 0 (class d) && ltb (class d) (class c)) (d ∷ put_in_order class c ds) (c ∷ d ∷ ds)
      (λ l. marks_in_order class l ≡ put_in_order class c (marks_in_order class (d ∷ ds)))
      (λ e.
      let both = and_parts (ltb 0 (class d)) (ltb (class d) (class c)) e in
      let low : 0 < class d = ltb-true 0 (class d) both.0 in
      let high : class d < class c = ltb-true (class d) (class c) both.1 in
      let apart : class d ≢ class c = omega arith in
      let above : 0 < class c = omega arith in
      ap (put_in_order class d) (order_put c ds) ∙ put_swapped class d c (marks_in_order class ds) low above apart)
      (λ _. refl)

  pub order_twice : (cs : List ℕ) → marks_in_order class (marks_in_order class cs) ≡ marks_in_order class cs
  unfolding marks_in_order
  order_twice [] = refl
  order_twice (c ∷ cs) = order_put c (marks_in_order class cs) ∙ ap (put_in_order class c) (order_twice cs)

  -- what stands in front changes nothing
  order_front : (front xs ys : List ℕ) → marks_in_order class xs ≡ marks_in_order class ys → marks_in_order class (front ++ xs) ≡ marks_in_order class (front ++ ys)
  unfolding marks_in_order
  order_front [] xs ys e = e
  order_front (x ∷ front) xs ys e = ap (put_in_order class x) (order_front front xs ys e)

  -- a mark goes before others of lower classes
  order_moved : (ms : List ℕ) (c : ℕ) (ys : List ℕ) → AllByRecursion (λ m. 0 < class m) ms → list_all (λ m. ltb (class m) (class c)) ms ≡ true
      → marks_in_order class (ms ++ c ∷ ys) ≡ marks_in_order class (c ∷ (ms ++ ys))
  unfolding marks_in_order
  order_moved [] c ys marks e = refl
  order_moved (m ∷ ms) c ys marks e =
      let both = and_parts (ltb (class m) (class c)) (list_all (λ m. ltb (class m) (class c)) ms) e in
      let lower = ltb-true (class m) (class c) both.0 in
      let mark : 0 < class m = marks.0 in
      let apart : class m ≢ class c = omega arith in
      let above : 0 < class c = omega arith in
      ap (put_in_order class m) (order_moved ms c ys marks.1 both.1) ∙ put_swapped class m c (marks_in_order class (ms ++ ys)) mark above apart

-- ---- decomposed lists

module _ (said : Canonical) where
  -- full lists of characters that stand for themselves
  full_own : (cs ys : List ℕ) → AreOwn said cs → flat_map said.full (cs ++ ys) ≡ cs ++ flat_map said.full ys
  full_own [] ys own = refl
  full_own (c ∷ cs) ys own = ap₂ (λ x y. x ++ y) own.0 (full_own cs ys own.1)

  own_decomposed : (cs : List ℕ) → AreOwn said cs → decomposed said cs ≡ marks_in_order said.class cs
  unfolding decomposed
  own_decomposed cs own =
      ap (marks_in_order said.class) (ap (flat_map said.full) (sym (append-nil cs)) ∙ full_own cs [] own ∙ append-nil cs)

  decomposed_front : (front xs ys : List ℕ) → decomposed said xs ≡ decomposed said ys → decomposed said (front ++ xs) ≡ decomposed said (front ++ ys)
  unfolding decomposed
  decomposed_front front xs ys e =
      ap (marks_in_order said.class) (flat_map-append said.full front xs)
      ∙ order_front said.class (flat_map said.full front) (flat_map said.full xs) (flat_map said.full ys) e
      ∙ ap (marks_in_order said.class) (sym (flat_map-append said.full front ys))

  module _ (ok : IsForming said) where
    pub said_decomposed_twice : (xs : List ℕ) → AreScalar xs → decomposed said (decomposed said xs) ≡ decomposed said xs
    unfolding decomposed
    said_decomposed_twice xs s = own_decomposed (decomposed said xs) (decomposed_own said ok xs s) ∙ order_twice said.class (flat_map said.full xs)

    -- a pair is composed where only marks of lower classes stand between
    pair_kept : (s c z : ℕ) (ms cs : List ℕ) → AllByRecursion (λ m. 0 < said.class m) ms → AreOwn said ms → said.full c ≡ c ∷ []
        → list_all (λ m. ltb (said.class m) (said.class c)) ms ≡ true → said.pair s c ≡ Some z
        → decomposed said (z ∷ (ms ++ cs)) ≡ decomposed said (s ∷ (ms ++ c ∷ cs))
    unfolding decomposed
    pair_kept s c z ms cs marks own itself seen joins =
        let class = said.class in
        let rest = flat_map said.full cs in
        let there : flat_map said.full (ms ++ c ∷ cs) ≡ ms ++ c ∷ rest = full_own ms (c ∷ cs) own ∙ ap (λ l. ms ++ (l ++ rest)) itself in
        let here : said.full z ++ flat_map said.full (ms ++ cs) ≡ said.full s ++ c ∷ (ms ++ rest) =
        ap₂ (λ x y. x ++ y) (ok.pairs s c z joins ∙ ap (λ l. said.full s ++ l) itself) (full_own ms cs own)
        ∙ append_assoc (said.full s) (c ∷ []) (ms ++ rest) in
        ap (marks_in_order class) here
        ∙ sym (order_front class (said.full s) (ms ++ c ∷ rest) (c ∷ (ms ++ rest)) (order_moved class ms c rest marks seen))
        ∙ ap (λ l. marks_in_order class (said.full s ++ l)) (sym there)

    -- composing keeps the decomposed list
    composing_keeps : (s : ℕ) (ms cs : List ℕ) → AllByRecursion (λ m. 0 < said.class m) ms → AreOwn said ms → AreOwn said cs
        → decomposed said (composing said s ms cs) ≡ decomposed said (s ∷ (ms ++ cs))
    composing_keeps s ms [] marks own owns = ap (decomposed said) (composing_end said s ms ∙ ap (λ l. s ∷ l) (sym (append-nil ms)))
    composing_keeps s ms (c ∷ cs) marks own owns =
        composing_cases said s ms c cs (λ l. decomposed said l ≡ decomposed said (s ∷ (ms ++ c ∷ cs)))
        (λ z joins.
        let found = seen_over _ _ z joins in
        composing_keeps z ms cs marks own owns.1 ∙ pair_kept s c z ms cs marks own owns.0 found.0 found.1)
        (λ none first. decomposed_front (s ∷ ms) (composing said c [] cs) (c ∷ cs) (composing_keeps c [] cs tt tt owns.1))
        (λ none mark.
        composing_keeps s (ms ++ c ∷ []) cs (all_append (λ m. 0 < said.class m) ms (c ∷ []) marks (mark, tt)) (all_append (λ m. said.full m ≡ m ∷ []) ms (c ∷ []) own (owns.0, tt)) owns.1
        ∙ ap (λ l. decomposed said (s ∷ l)) (append_assoc ms (c ∷ []) cs))

    recomposed_keeps : (cs : List ℕ) → AreOwn said cs → decomposed said (recomposed said cs) ≡ decomposed said cs
    recomposed_keeps [] owns = ap (decomposed said) (recomposed_nothing said)
    recomposed_keeps (c ∷ cs) owns =
        ⊎_elim
        (λ mark. ap (decomposed said) (recomposed_passed said c cs mark) ∙ decomposed_front (c ∷ []) (recomposed said cs) cs (recomposed_keeps cs owns.1))
        (λ first. ap (decomposed said) (recomposed_begun said c cs first) ∙ composing_keeps c [] cs tt tt owns.1)
        (cases_lt 0 (said.class c))

    pub said_composed_decomposed : (xs : List ℕ) → AreScalar xs → decomposed said (composed said xs) ≡ decomposed said xs
    unfolding composed
    said_composed_decomposed xs s = recomposed_keeps (decomposed said xs) (decomposed_own said ok xs s) ∙ said_decomposed_twice xs s

    -- the composed list goes by the decomposed one
    by_decomposed : (xs ys : List ℕ) → decomposed said xs ≡ decomposed said ys → composed said xs ≡ composed said ys
    unfolding composed
    by_decomposed xs ys e = ap (recomposed said) e

-- ---- by the data of a normaliser

module _ (canonical said : Canonical) (xs : List ℕ) (ok : IsCanonical canonical) (over : IsSaidOver canonical said) (s : All IsScalar xs) where
  pub forming_over : IsForming said
  forming_over = ⊎_elim (λ same. subst IsForming (sym same) (forming_canonical canonical ok)) (λ is. forming_compatibility canonical said ok is) over

  scalar : AreScalar xs
  scalar = recursion_from_All IsScalar xs s

  pub over_decomposed_twice : decomposed said (decomposed said xs) ≡ decomposed said xs
  over_decomposed_twice = said_decomposed_twice said forming_over xs scalar

  pub over_decomposed_composed : composed said (decomposed said xs) ≡ composed said xs
  over_decomposed_composed = by_decomposed said forming_over (decomposed said xs) xs over_decomposed_twice

  pub over_composed_decomposed : decomposed said (composed said xs) ≡ decomposed said xs
  over_composed_decomposed = said_composed_decomposed said forming_over xs scalar

  pub over_composed_twice : composed said (composed said xs) ≡ composed said xs
  over_composed_twice = by_decomposed said forming_over (composed said xs) xs over_composed_decomposed

  over_decomposed_scalars : All IsScalar (decomposed said xs)
  over_decomposed_scalars = All-from_recursion IsScalar (decomposed said xs) (decomposed_scalar said forming_over xs scalar)

  over_composed_scalars : All IsScalar (composed said xs)
  unfolding composed
  over_composed_scalars =
      All-from_recursion IsScalar (recomposed said (decomposed said xs))
      (recomposed_scalars said (decomposed said xs) (λ a b z p. (forming_over.parts a b z p).2) (decomposed_scalar said forming_over xs scalar))

-- the same of texts
module _ (canonical said : Canonical) (text : List ℕ) (ok : IsCanonical canonical) (over : IsSaidOver canonical said) (u : IsUtf8 text) where
  read : All IsScalar (chars text)
  read = text_scalars text u

  pub over_text_decomposed_twice : decomposed_text said (decomposed_text said text) ≡ decomposed_text said text
  over_text_decomposed_twice =
      ap encode_utf8_all (form_written (decomposed said) _ _ (over_decomposed_scalars canonical said (chars text) ok over read) (over_decomposed_twice canonical said (chars text) ok over read))

  pub over_text_decomposed_composed : composed_text said (decomposed_text said text) ≡ composed_text said text
  over_text_decomposed_composed =
      ap encode_utf8_all (form_written (composed said) _ _ (over_decomposed_scalars canonical said (chars text) ok over read) (over_decomposed_composed canonical said (chars text) ok over read))

  pub over_text_composed_decomposed : decomposed_text said (composed_text said text) ≡ decomposed_text said text
  over_text_composed_decomposed =
      ap encode_utf8_all (form_written (decomposed said) _ _ (over_composed_scalars canonical said (chars text) ok over read) (over_composed_decomposed canonical said (chars text) ok over read))

  pub over_text_composed_twice : composed_text said (composed_text said text) ≡ composed_text said text
  over_text_composed_twice =
      ap encode_utf8_all (form_written (composed said) _ _ (over_composed_scalars canonical said (chars text) ok over read) (over_composed_twice canonical said (chars text) ok over read))

  -- ---- texts in other encodings

  units_form : (form : List ℕ → List ℕ) (units : List ℕ) → All IsScalar (form (chars text)) → utf16_chars units ≡ chars text
      → utf16_chars (encode_utf16_all (form (utf16_chars units))) ≡ chars (encode_utf8_all (form (chars text)))
  units_form form units known same =
      ap (λ cs. utf16_chars (encode_utf16_all (form cs))) same ∙ utf16_text (form (chars text)) known ∙ sym (written_chars (form (chars text)) known)

  pub units_decomposed : (units : List ℕ) → utf16_chars units ≡ chars text → utf16_chars (encode_utf16_all (decomposed said (utf16_chars units))) ≡ chars (decomposed_text said text)
  units_decomposed units = units_form (decomposed said) units (over_decomposed_scalars canonical said (chars text) ok over read)

  pub units_composed : (units : List ℕ) → utf16_chars units ≡ chars text → utf16_chars (encode_utf16_all (composed said (utf16_chars units))) ≡ chars (composed_text said text)
  units_composed units = units_form (composed said) units (over_composed_scalars canonical said (chars text) ok over read)

-- bytes that are text
module _ (said : Canonical) (text : List ℕ) (u : IsUtf8 text) where
  bytes_read : utf8_chars text ≡ chars text
  bytes_read = ap utf8_chars (sym (encodes-chars text u)) ∙ utf8_text (chars text) (text_scalars text u)

  pub bytes_decomposed : encode_utf8_all (decomposed said (utf8_chars text)) ≡ decomposed_text said text
  bytes_decomposed = ap (λ cs. encode_utf8_all (decomposed said cs)) bytes_read

  pub bytes_composed : encode_utf8_all (composed said (utf8_chars text)) ≡ composed_text said text
  bytes_composed = ap (λ cs. encode_utf8_all (composed said cs)) bytes_read
