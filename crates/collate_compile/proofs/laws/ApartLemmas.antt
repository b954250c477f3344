-- The weights that compiled tables spell keep apart, and those of ranges keep to their leads.
use Rattle.std.proofs.Common.{◌≡◌, ◌≢◌, ℕ, ◌+◌, ◌/◌, ◌%◌, ◌^◌, ◌<◌, ◌⊎◌, inl, inr, true, false, cond, not, ◌==◌, ◌&&◌, ◌||◌, leb, List, [], ◌∷◌, length, Option, Some, None, refl, sym, ap, subst, ◌∙◌, arith, ⊎_elim}
use Rattle.std.specs.Prelude.{slice_index, MatchOption}
use Rattle.std.specs.List.{Contains}
use Rattle.std.specs.Option.{option_map}
use Rattle.std.proofs.lemmas.Bool.{and_from, and_left, and_parts, and_right, eq-eqb, eqb-true, false≢true, le-leb, leb-true, ne_eqb, not_from_false, or_cases, or_left, or_right, true≢false}
use Rattle.std.proofs.lemmas.Option.{none-some, same_Some}
use lib.Utf8.{scalar}
use Rattle.icu_normalizer_core.specs.BuiltIn.{is_jamo, is_within}
use Rattle.icu_collator_types.specs.declared.elements.Element.{Element}
use Rattle.icu_collator_types.specs.declared.elements.word_tags.Tag.TheVariants.{Offset}
use Rattle.icu_collator_types.specs.ElementWords.{has_tag}
use Rattle.icu_collator_core.specs.declared.check.layers.Layer.{Layer}
use Rattle.icu_collator_core.specs.declared.check.layers.Layer.TheVariants.{Root, Tailoring}
use Rattle.icu_collator_core.specs.declared.tables.CollationTables.{CollationTables}
use Rattle.icu_collator_core.specs.declared.tables.data.CollationData.{CollationData}
use Rattle.icu_collator_core.specs.Defaults.{jamo_primary, primary_element}
use Rattle.icu_collator_core.specs.Numbers.{without_last_zeros}
use Rattle.icu_collator_core.specs.Pools.{Pools, elements_of_word, index_of, lone_word, offset_primary, unprefixed_word}
use Rattle.icu_collator_core.specs.PrefixFaults.{AreWeightsApart, IsAmong, IsRanged, IsRangedIn, IsSpelled, IsSpelledIn, Spells}
use Rattle.icu_collator_core.specs.TableMeaning.{fallback, pools_of, word_at}
use Rattle.icu_collator_core.specs.UnrecordedWords.{implicit, records_nothing}
use Rattle.icu_collator_core.specs.WeightRules.{AreSoundWeights, IsRecorded, are_apart, are_apart_elements, has_three_bytes, is_beside_ranged, is_letter_lead, is_proper_beginning, is_sound_primary, is_sound_secondary, is_sound_tertiary, primary_bytes, weight_bytes}
use Rattle.icu_collator_core.specs.WordForms.{is_fallback}
use Rattle.icu_collator_core.proofs.apart.GrowthLemmas.{alone_in, first_in, item_at, none_in}
use Rattle.icu_collator_core.proofs.meaning.WordTagLemmas.{stated_elements}
use Rattle.collate_lines.specs.Record.{Record}
use Rattle.collate_rules.specs.Accepted.{AreAccepted}
use Rattle.collate_rules.specs.Meaning.{recorded_in, weights_of}
use Rattle.collate_compile.specs.Compiled.{AreCompiledFrom, AreJamoOf}
use Rattle.collate_compile.specs.Layers.{IsTailoringOf}
use Rattle.collate_compile.specs.LineSayings.{is_tailored, offset_of}
use Rattle.collate_compile.proofs.laws.CompiledCaseLemmas.{IsCase, root_case, tailoring_case}
use Rattle.collate_compile.proofs.laws.JamoLemmas.{StatesJamo, jamo_stated}
use Rattle.collate_compile.proofs.laws.MeaningLemmas.{ranged_alike}
use Rattle.collate_compile.proofs.laws.OwnPrimaryLemmas.{jamo_bounds, jamo_lead, sound_lead}
use Rattle.collate_compile.proofs.laws.CompiledWordLemmas.{among_of_lines, range_of_lines, ranged_among, saying_of_lines}

-- ---- Beginnings

heads_differ : (x y : ℕ) (xs ys : List ℕ) → x ≢ y → is_proper_beginning (x ∷ xs) (y ∷ ys) ≡ false
unfolding is_proper_beginning
heads_differ x y xs ys differs = and_left (x == y) (is_proper_beginning xs ys) (ne_eqb x y differs)

equally_long : (xs ys : List ℕ) → length xs ≡ length ys → is_proper_beginning xs ys ≡ false
unfolding is_proper_beginning
equally_long [] [] same = refl
equally_long [] (y ∷ ys) same = absurd (omega (arith, same))
equally_long (x ∷ xs) [] same = refl
equally_long (x ∷ xs) (y ∷ ys) same =
    and_right (x == y) (is_proper_beginning xs ys) (equally_long xs ys (omega (arith, same)))

neither_begins : (bytes : ℕ → List ℕ) (v w : ℕ) → is_proper_beginning (bytes v) (bytes w) ≡ false
    → is_proper_beginning (bytes w) (bytes v) ≡ false
    → are_apart bytes v w ≡ true
neither_begins bytes v w one other =
    or_right ((v == 0) || (w == 0)) _
    (and_from _ _ (not_from_false (is_proper_beginning (bytes v) (bytes w)) one)
    (not_from_false (is_proper_beginning (bytes w) (bytes v)) other))

leads_differ : (v w : ℕ) → v / 2 ^ 24 ≢ w / 2 ^ 24 → are_apart primary_bytes v w ≡ true
leads_differ v w differs =
    neither_begins primary_bytes v w (heads_differ _ _ _ _ differs) (heads_differ _ _ _ _ (λ same. differs (sym same)))

-- ---- Weights below the primary: none, the common one, or one with another lead

abbrev IsLower : ℕ → Type 0
IsLower w = (w ≡ 0) ⊎ ((w ≡ 0x500) ⊎ (w / 256 ≢ 5))

common_apart : (w : ℕ) → IsLower w → (are_apart weight_bytes 0x500 w ≡ true) × (are_apart weight_bytes w 0x500 ≡ true)
common_apart w (inl none) = (
  or_left ((0x500 == 0) || (w == 0)) _ (or_right (0x500 == 0) (w == 0) (eq-eqb w 0 none)),
  or_left ((w == 0) || (0x500 == 0)) _ (or_left (w == 0) (0x500 == 0) (eq-eqb w 0 none)),
)
common_apart w (inr (inl same)) =
    let alike =
    equally_long (weight_bytes 0x500) (weight_bytes w) (sym (ap (λ (n : ℕ). length (weight_bytes n)) same)) in
    let also = equally_long (weight_bytes w) (weight_bytes 0x500) (ap (λ (n : ℕ). length (weight_bytes n)) same) in
    (neither_begins weight_bytes 0x500 w alike also, neither_begins weight_bytes w 0x500 also alike)
common_apart w (inr (inr differs)) =
    let one = heads_differ 5 (w / 256) [] (cond (w % 256 == 0) [] (w % 256 ∷ [])) (λ same. differs (sym same)) in
    let other = heads_differ (w / 256) 5 (cond (w % 256 == 0) [] (w % 256 ∷ [])) [] differs in
    (neither_begins weight_bytes 0x500 w one other, neither_begins weight_bytes w 0x500 other one)

within_differs : (low high n : ℕ) → is_within low high n ≡ true → (5 < low) ⊎ (high < 5) → n ≢ 5
within_differs low high n h (inl above) same =
    let both =
    and_parts (leb low n) (leb n high) h in let least = leb-true low n both.0 in omega (arith, least, above, same)
within_differs low high n h (inr below) same =
    let both =
    and_parts (leb low n) (leb n high) h in let most = leb-true n high both.1 in omega (arith, most, below, same)

secondary_lower : (w : ℕ) → ((w == 0) || is_sound_secondary w) ≡ true → IsLower w
secondary_lower w h = at (or_cases (w == 0) (is_sound_secondary w) h)
  where
    led : (is_within 0x03 0x04 (w / 256) ≡ true) ⊎ (is_within 0x46 0xff (w / 256) ≡ true) → IsLower w
    led (inl low) = inr (inr (within_differs 3 4 (w / 256) low (inr (omega arith))))
    led (inr high) = inr (inr (within_differs 0x46 0xff (w / 256) high (inl (omega arith))))

    kind : ((w == 0x500) ≡ true) ⊎ (((is_within 0x03 0x04 (w / 256) || is_within 0x46 0xff (w / 256)) && not (w % 256 == 1)) ≡ true)
        → IsLower w
    kind (inl common) = inr (inl (eqb-true w 0x500 common))
    kind (inr other) = led (or_cases _ _ (and_parts _ (not (w % 256 == 1)) other).0)

    at : ((w == 0) ≡ true) ⊎ (is_sound_secondary w ≡ true) → IsLower w
    at (inl none) = inl (eqb-true w 0 none)
    at (inr sound) = kind (or_cases _ _ sound)

tertiary_lower : (w : ℕ) → ((w == 0) || is_sound_tertiary w) ≡ true → IsLower w
tertiary_lower w h = at (or_cases (w == 0) (is_sound_tertiary w) h)
  where
    led : (is_within 0x02 0x04 (w / 256) ≡ true) ⊎ (is_within 0x06 0x3f (w / 256) ≡ true) → IsLower w
    led (inl low) = inr (inr (within_differs 2 4 (w / 256) low (inr (omega arith))))
    led (inr high) = inr (inr (within_differs 6 0x3f (w / 256) high (inl (omega arith))))

    kind : ((w == 0x500) ≡ true)
        ⊎ (((is_within 0x02 0x04 (w / 256) || is_within 0x06 0x3f (w / 256)) && leb (w % 256) 0x3f && not
        (w % 256 == 1)) ≡ true) → IsLower w
    kind (inl common) = inr (inl (eqb-true w 0x500 common))
    kind (inr other) = led (or_cases _ _ (and_parts _ _ (and_parts _ (not (w % 256 == 1)) other).0).0)

    at : ((w == 0) ≡ true) ⊎ (is_sound_tertiary w ≡ true) → IsLower w
    at (inl none) = inl (eqb-true w 0 none)
    at (inr sound) = kind (or_cases _ _ sound)

-- ---- Jamo

-- what a jamo is by itself
abbrev IsJamoElement : Element → Type 0
IsJamoElement e = (c : ℕ) × (is_jamo c ≡ true) × (e ≡ primary_element (jamo_primary c))

two_left : (s t : ℕ) → (t == 0) ≡ false → without_last_zeros (s ∷ t ∷ 0 ∷ []) ≡ s ∷ t ∷ []
unfolding without_last_zeros
two_left s t h = rw (without_last_zeros, h) refl

jamo_bytes : (c : ℕ) → is_jamo c ≡ true → length (primary_bytes (jamo_primary c)) ≡ 3
unfolding jamo_primary
jamo_bytes c jamo =
    let bounds = jamo_bounds c jamo in
    let p = jamo_primary c in
    let last : p % 256 ≡ 0 = omega (arith, bounds.0, bounds.1) in
    let third : (p / 2 ^ 8 % 256 == 0) ≡ false = ne_eqb _ 0 (λ same. omega (arith, same, bounds.0, bounds.1)) in
    ap (λ (n : ℕ). length (p / 2 ^ 24 ∷ without_last_zeros (p / 2 ^ 16 % 256 ∷ p / 2 ^ 8 % 256 ∷ n ∷ []))) last
    ∙ ap (λ (bs : List ℕ). length (p / 2 ^ 24 ∷ bs)) (two_left (p / 2 ^ 16 % 256) (p / 2 ^ 8 % 256) third)

jamo_apart : (c d : ℕ) → is_jamo c ≡ true → is_jamo d ≡ true
    → are_apart_elements (primary_element (jamo_primary c)) (primary_element (jamo_primary d)) ≡ true
jamo_apart c d one other =
    let same = jamo_bytes c one ∙ sym (jamo_bytes d other) in
    let lower = common_apart 0x500 (inr (inl refl)) in
    and_from _ _
    (and_from _ _
    (neither_begins primary_bytes (jamo_primary c) (jamo_primary d)
    (equally_long (primary_bytes (jamo_primary c)) (primary_bytes (jamo_primary d)) same)
    (equally_long (primary_bytes (jamo_primary d)) (primary_bytes (jamo_primary c)) (sym same)))
    lower.0) lower.0

module _ (lines : List Record) (accepted : AreAccepted lines) (sound : AreSoundWeights (weights_of lines)) where
  -- a recorded element, and what a jamo is by itself
  jamo_beside : (c : ℕ) (e : Element) → is_jamo c ≡ true → IsRecorded (weights_of lines) e
      → (are_apart_elements (primary_element (jamo_primary c)) e ≡ true) × (are_apart_elements e (primary_element (jamo_primary c)) ≡ true)
  jamo_beside c e jamo recorded =
      let keeps = sound.elements e recorded in
      let third = and_parts _ _ keeps in
      let second = and_parts _ _ third.0 in
      let secondary = common_apart e.secondary (secondary_lower e.secondary second.1) in
      let tertiary = common_apart e.tertiary (tertiary_lower e.tertiary third.1) in (
        and_from _ _ (and_from _ _ (primary (jamo_primary c) e.primary (λ same. differs (sym same))) secondary.0) tertiary.0,
        and_from _ _ (and_from _ _ (primary e.primary (jamo_primary c) differs) secondary.1) tertiary.1,
      )
    where
      differs : e.primary / 2 ^ 24 ≡ jamo_primary c / 2 ^ 24 → ⊥
      differs same =
          let far = same ∙ jamo_lead c jamo in
          ⊎_elim
          (λ (none : e.primary ≡ 0). omega (arith, none, far))
          (λ letter. false≢true (sym (ap is_letter_lead far) ∙ letter))
          (sound_lead (weights_of lines) e (sound.elements e recorded))

      primary : (v w : ℕ) → v / 2 ^ 24 ≢ w / 2 ^ 24 → are_apart primary_bytes v w ≡ true
      primary v w other = leads_differ v w other

  abbrev IsKnown : Element → Type 0
  IsKnown e = IsRecorded (weights_of lines) e ⊎ IsJamoElement e

  known_apart : (d e : Element) → IsKnown d → IsKnown e → are_apart_elements d e ≡ true
  known_apart d e (inl one) (inl other) = sound.apart d e one other
  known_apart d e (inl one) (inr (c, jamo, same)) = ap (are_apart_elements d) same ∙ (jamo_beside c d jamo one).1
  known_apart d e (inr (c, jamo, same)) (inl other) =
      ap (λ (f : Element). are_apart_elements f e) same ∙ (jamo_beside c e jamo other).0
  known_apart d e (inr (b, one, first)) (inr (c, other, second)) =
      ap (λ (f : Element). are_apart_elements f e) first
      ∙ ap (are_apart_elements (primary_element (jamo_primary b))) second ∙ jamo_apart b c one other

  abbrev IsOfRange : ℕ → Type 0
  IsOfRange p = (c : ℕ) × ((weights_of lines).ranged_primary c ≡ Some p)

  known_beside : (p : ℕ) (e : Element) → IsOfRange p → IsKnown e → is_beside_ranged p e ≡ true
  known_beside p e (c, ranged) (inl recorded) = sound.beside c p e ranged recorded
  known_beside p e (c, ranged) (inr (d, jamo, same)) =
      or_left (not (e.primary / 2 ^ 24 == p / 2 ^ 24)) (has_three_bytes e.primary)
      (not_from_false (e.primary / 2 ^ 24 == p / 2 ^ 24) (ne_eqb _ _ differs))
    where
      letter : is_letter_lead (p / 2 ^ 24) ≡ true
      letter =
          (and_parts _ _ (and_parts _ _ (and_parts _ _ (and_parts _ _ (and_parts (is_sound_primary (weights_of lines) p) _ (sound.ranged c p ranged)).0).0).0).0).0

      differs : e.primary / 2 ^ 24 ≡ p / 2 ^ 24 → ⊥
      differs led =
          let far : p / 2 ^ 24 ≡ 0xfd = sym led ∙ ap (λ (f : Element). f.primary / 2 ^ 24) same ∙ jamo_lead d jamo in
          false≢true (sym (ap is_letter_lead far) ∙ letter)

  -- ---- Data

  -- words that record nothing spell nothing
  abbrev SpellsNothing : Pools → ℕ → Type 0
  SpellsNothing pools word =
      (one : ℕ) → IsAmong pools word one → (elements_of_word pools one ≡ None) × (has_tag Offset one ≡ false)

  implicit_spells : (pools : Pools) → SpellsNothing pools implicit
  unfolding lone_word unprefixed_word elements_of_word
  implicit_spells pools one (inl same) =
      subst (λ (w : ℕ). (elements_of_word pools w ≡ None) × (has_tag Offset w ≡ false)) (sym same) (refl, refl)
  implicit_spells pools one (inr (inl (tag, value))) = absurd (false≢true tag)
  implicit_spells pools one (inr (inr (tag, value))) = absurd (false≢true tag)

  fallback_spells : (pools : Pools) → SpellsNothing pools fallback
  unfolding lone_word unprefixed_word elements_of_word
  fallback_spells pools one (inl same) =
      subst (λ (w : ℕ). (elements_of_word pools w ≡ None) × (has_tag Offset w ≡ false)) (sym same) (refl, refl)
  fallback_spells pools one (inr (inl (tag, value))) = absurd (false≢true tag)
  fallback_spells pools one (inr (inr (tag, value))) = absurd (false≢true tag)

  nothing_spelled : (layer : Layer) (pools : Pools) (word : ℕ) → records_nothing layer word ≡ true
      → SpellsNothing pools word
  nothing_spelled layer pools word h = at layer (or_cases (word == implicit) (is_fallback layer word) h)
    where
      at : (layer : Layer) → ((word == implicit) ≡ true) ⊎ (is_fallback layer word ≡ true) → SpellsNothing pools word
      at layer (inl same) = subst (SpellsNothing pools) (sym (eqb-true word implicit same)) (implicit_spells pools)
      at Root (inr none) = absurd (false≢true none)
      at Tailoring (inr same) = subst (SpellsNothing pools) (sym (eqb-true word fallback same)) (fallback_spells pools)

  module _ (layer : Layer) (source : CollationData) (case : (c : ℕ) → scalar c ≡ true → IsCase lines layer source c) where
    -- what is spelled is recorded
    spelled_in : (e : Element) → IsSpelledIn source e → IsRecorded (weights_of lines) e
    spelled_in e (c, word, (s, among), (es, told, within)) = at (case c s)
      where
        at : IsCase lines layer source c → IsRecorded (weights_of lines) e
        at (IsCase.by_lines saying plain is says) =
            (among_of_lines lines c (pools_of source) (word_at source c) saying
            (saying_of_lines lines c saying is) says word among).0 es told e within
        at (IsCase.by_range bits plain is says) =
            (among_of_lines lines c (pools_of source) (word_at source c) _
            (range_of_lines lines c bits is) says word among).0 es told e within
        at (IsCase.by_none none) =
            absurd (none-some es (sym (nothing_spelled layer (pools_of source) (word_at source c) none word among).0 ∙ told))

    -- what moves a primary is a range
    ranged_in : (p : ℕ) → IsRangedIn source p → IsOfRange p
    ranged_in p (c, word, (s, among), tag, same) = at (case c s)
      where
        of_bits : offset_of lines c ≡ Some (slice_index source.ces (index_of word)) → IsOfRange p
        of_bits is = (
          c,
          sym (ranged_alike lines accepted sound c s)
              ∙ ap (option_map (λ bits. offset_primary bits c)) is ∙ ap (λ (n : ℕ). Some n) (sym same),
        )

        at : IsCase lines layer source c → IsOfRange p
        at (IsCase.by_lines saying plain is says) =
            of_bits (ranged_among lines c (pools_of source) (word_at source c) saying (saying_of_lines lines c saying is) says word among tag)
        at (IsCase.by_range bits plain is says) =
            of_bits (ranged_among lines c (pools_of source) (word_at source c) _ (range_of_lines lines c bits is) says word among tag)
        at (IsCase.by_none none) =
            absurd (true≢false (sym tag ∙ (nothing_spelled layer (pools_of source) (word_at source c) none word among).1))

  -- ---- Tables

  -- the element that the word of a jamo states
  jamo_known : (c word : ℕ) → is_jamo c ≡ true → (states : StatesJamo lines c word) → IsKnown states.element
  jamo_known c word jamo states = at (recorded_in lines [] (c ∷ [])) refl states.told
    where
      at : (o : Option (List Element)) → recorded_in lines [] (c ∷ []) ≡ o
          → MatchOption o (states.element ≡ primary_element (jamo_primary c)) (λ es. es ≡ states.element ∷ [])
          → IsKnown states.element
      at None none same = inr (c, jamo, same)
      at (Some es) some same =
          inl ([], c ∷ [], es, some, subst (λ (fs : List Element). Contains fs states.element) (sym same) (first_in states.element []))

  jamo_spelled : (words : List ℕ) → AreJamoOf lines words → (pools : Pools) (word : ℕ) (e : Element)
      → Contains words word → Spells pools word e → IsKnown e
  jamo_spelled words of_jamo pools word e (k, inside, at_k) (es, told, within) =
      let count = of_jamo.count in
      let lt : k < 256 = omega (arith, inside, count) in
      let jamo : is_jamo (0x1100 + k) ≡ true =
      and_from _ _ (le-leb 0x1100 (0x1100 + k) (omega arith)) (le-leb (0x1100 + k) 0x11ff (omega (arith, lt))) in
      let item = item_at words k inside in
      let same : slice_index words k ≡ word = item.1 0 ∙ sym (item.1 word) ∙ at_k in
      let states = jamo_stated lines (0x1100 + k) (slice_index words k) jamo (of_jamo.each k lt) in
      let listed : states.element ∷ [] ≡ es =
      same_Some (states.element ∷ []) es
      (sym (stated_elements pools (slice_index words k) states.element states.stated) ∙ ap (elements_of_word pools) same
      ∙ told) in
      let itself : e ≡ states.element =
      alone_in states.element e (subst (λ (fs : List Element). Contains fs e) (sym listed) within) in
      subst IsKnown (sym itself) (jamo_known (0x1100 + k) (slice_index words k) jamo states)

  module _ (tables : CollationTables) (compiled : AreCompiledFrom lines tables) where
    spelled_known : (e : Element) → IsSpelled tables e → IsKnown e
    spelled_known e (inl (inl of_root)) =
        inl (spelled_in Root tables.root (λ c s. root_case lines accepted c tables.root compiled.root s) e of_root)
    spelled_known e (inl (inr of_tailoring)) = at tables.tailoring compiled.tailoring of_tailoring
      where
        at : (o : Option CollationData) → MatchOption o ((d : ℕ) → is_tailored lines d ≡ false) (IsTailoringOf lines)
            → MatchOption o ⊥ (λ source. IsSpelledIn source e) → IsKnown e
        at None none is = absurd is
        at (Some source) of_source is =
            inl (spelled_in Tailoring source (λ c s. tailoring_case lines accepted c source of_source s) e is)
    spelled_known e (inr (inl (secondary, within, spells))) =
        absurd (none_in secondary (subst (λ (xs : List ℕ). Contains xs secondary) compiled.no_diacritics within))
    spelled_known e (inr (inr (word, within, spells))) =
        jamo_spelled tables.jamo.ce32s compiled.jamo (pools_of tables.root) word e within spells

    ranged_known : (p : ℕ) → IsRanged tables p → IsOfRange p
    ranged_known p (inl of_root) =
        ranged_in Root tables.root (λ c s. root_case lines accepted c tables.root compiled.root s) p of_root
    ranged_known p (inr of_tailoring) = at tables.tailoring compiled.tailoring of_tailoring
      where
        at : (o : Option CollationData) → MatchOption o ((d : ℕ) → is_tailored lines d ≡ false) (IsTailoringOf lines)
            → MatchOption o ⊥ (λ source. IsRangedIn source p) → IsOfRange p
        at None none is = absurd is
        at (Some source) of_source is =
            ranged_in Tailoring source (λ c s. tailoring_case lines accepted c source of_source s) p is

    pub weights_apart : AreWeightsApart tables
    weights_apart = record {
      apart = λ d e one other. known_apart d e (spelled_known d one) (spelled_known e other);
      beside = λ p e ranged spelled. known_beside p e (ranged_known p ranged) (spelled_known e spelled);
    }
