-- The words of marks and of jamo in their tables: each states an element that keeps the rules, or the jamo's own.
use Rattle.std.proofs.Common.{◌≡◌, ℕ, ◌+◌, ◌-◌, ◌*◌, ◌/◌, ◌%◌, ◌^◌, ◌<◌, ◌≤◌, ◌⊎◌, inl, inr, Bool, true, false, cond, List, [], ◌∷◌, Option, Some, None, refl, ap, sym, subst, ◌∙◌, arith}
use Rattle.std.specs.Prelude.{◌==◌, ◌&&◌, ◌||◌, not, leb, slice_index}
use Rattle.std.specs.List.{Contains, list_all}
use Rattle.std.specs.Option.{option_map}
use Rattle.std.proofs.lemmas.Bool.{and_from, and_parts, eq-eqb, eqb-true, false≢true, leb-true, le-leb, ne_eqb, or_cases, or_right, true≢false}
use Rattle.std.proofs.lemmas.List.Elements.{All-contains, Contains-get_or}
use Rattle.std.proofs.lemmas.List.Sums.{AllPass-from_list_all}
use Rattle.std.proofs.lemmas.Option.{cond_some, none-some, option_and_then_some, same_Some}
use Rattle.icu_normalizer_core.specs.BuiltIn.{is_jamo, is_within}
use Rattle.icu_collator_types.specs.declared.elements.Element.{Element}
use Rattle.icu_collator_types.specs.declared.elements.word_tags.Tag.TheVariants.{Contraction, Digit, LongSecondary, Offset, Prefix}
use Rattle.icu_collator_types.specs.declared.elements.word_tags.Tag.{Tag}
use Rattle.icu_collator_types.specs.ElementWords.{has_tag, self_contained, simple_or_long_primary, tag_number}
use Rattle.icu_collator_core.specs.declared.tables.CollationTables.{CollationTables}
use Rattle.icu_collator_core.specs.Pools.{Pools, digit_value, element_of, elements_of_word, index_of, lone_word, offset_primary, prefix_word, stated_element, suffix_word, unprefixed_word}
use Rattle.icu_collator_core.specs.PrefixFaults.{IsSpelled, Spells}
use Rattle.icu_collator_core.specs.TableMeaning.{TableWord, digit_by, own_primary, pools_of, ranged_by, recorded_by, secondary_word, unless_own}
use Rattle.icu_collator_core.specs.WeightFaults.{AreSoundJamo, are_sound_spelled, is_sound_diacritic, is_sound_jamo, is_sound_spelled, jamo_count}
use Rattle.icu_collator_core.specs.WeightRules.{is_sound_secondary}
use Rattle.icu_collator_core.specs.WordForms.{states_element}
use Rattle.icu_collator_core.proofs.meaning.GoodWordLemmas.{IsGoodRanged, IsGoodWord, KeepsRules, asked, unless_own_some}
use Rattle.icu_collator_core.proofs.meaning.WordElementLemmas.{elements_narrow, is_narrow, lone_sound, passes_in}
use Rattle.icu_collator_core.proofs.meaning.WordTagLemmas.{lone_same, stated_elements, stated_tag, unprefixed_same}

-- ---- A word that states an element

module _
    (tables : CollationTables)
    (pools : Pools)
    (word : ℕ)
    (e : Element)
    (stated : stated_element word ≡ Some e)
    (c : ℕ)
    (sound : are_sound_spelled tables.special_primaries (Some (own_primary c)) (e ∷ []) ≡ true)
    (spelled : (f : Element) → Spells pools word f → IsSpelled tables f) where
  no_prefix : has_tag Prefix word ≡ false
  no_prefix = stated_tag word e stated Prefix (omega arith)

  no_contraction : has_tag Contraction word ≡ false
  no_contraction = stated_tag word e stated Contraction (omega arith)

  no_digit : has_tag Digit word ≡ false
  no_digit = stated_tag word e stated Digit (omega arith)

  alone : lone_word pools word ≡ word
  alone = lone_same pools word no_prefix no_contraction no_digit

  abbrev entry : TableWord
  entry = record { word = word; pools = pools }

  itself_good : (es : List Element) (f : Element) → recorded_by entry c [] [] ≡ Some es → Contains es f → KeepsRules tables f
  unfolding recorded_by
  itself_good es f h within =
      option_and_then_some (unless_own c) (elements_of_word pools (lone_word pools word)) es h
      (λ fs told unless.
      let both = unless_own_some c fs es unless
      in let one = stated_elements pools word e stated
      in let is = ap (elements_of_word pools) (sym alone) ∙ told ∙ ap (λ (xs : List Element). Some xs) both.1
      in let same = same_Some (e ∷ []) es (sym one ∙ is)
      in record {
        sound = passes_in (is_sound_spelled tables.special_primaries) es f
            (lone_sound tables.special_primaries (own_primary c) es (ap (are_sound_spelled tables.special_primaries (Some (own_primary c))) (sym same) ∙ sound) both.0) within;
        narrow = passes_in is_narrow es f (elements_narrow pools word es is) within;
        spelled = spelled f (es, is, within);
      })

  no_suffix : (ds : List ℕ) (one : ℕ) → suffix_word pools word ds ≡ Some one → ⊥
  unfolding suffix_word
  no_suffix ds one h =
      true≢false
      (sym (asked (has_tag Contraction (unprefixed_word pools word)) _ one h).0
      ∙ ap (has_tag Contraction) (unprefixed_same pools word no_prefix) ∙ no_contraction)

  no_context : (bs : List ℕ) (one : ℕ) → prefix_word pools word bs ≡ Some one → ⊥
  unfolding prefix_word
  no_context bs one h = true≢false (sym (asked (has_tag Prefix word) _ one h).0 ∙ no_prefix)

  recorded_good : (prefix suffix : List ℕ) (es : List Element) (f : Element)
      → recorded_by entry c prefix suffix ≡ Some es → Contains es f → KeepsRules tables f
  unfolding recorded_by
  recorded_good [] [] es f h within = itself_good es f h within
  recorded_good [] (d ∷ ds) es f h within =
      option_and_then_some (elements_of_word pools) (suffix_word pools word (d ∷ ds)) es h
      (λ one found told. absurd (no_suffix (d ∷ ds) one found))
  recorded_good (b ∷ bs) [] es f h within =
      option_and_then_some (elements_of_word pools) (prefix_word pools word (b ∷ bs)) es h
      (λ one found told. absurd (no_context (b ∷ bs) one found))
  recorded_good (b ∷ bs) (d ∷ ds) es f h within = absurd (none-some es h)

  ranged_good : (p : ℕ) → ranged_by entry c ≡ Some p → IsGoodRanged tables p
  unfolding ranged_by
  ranged_good p h =
      absurd
      (true≢false
      (sym (cond_some (has_tag Offset (lone_word pools word)) (offset_primary (slice_index pools.ces (index_of (lone_word pools word))) c) p h).0
      ∙ ap (has_tag Offset) alone ∙ stated_tag word e stated Offset (omega arith)))

  digit_good : (d : ℕ) → digit_by entry ≡ Some d → leb d 9 ≡ true
  digit_good d h = absurd (true≢false (sym (cond_some (has_tag Digit word) (digit_value word) d h).0 ∙ no_digit))

  pub stated_good : IsGoodWord tables c entry
  stated_good = record { recorded = recorded_good; ranged = ranged_good; digit = digit_good }

-- ---- Marks

-- the element of a mark's secondary
abbrev mark : ℕ → Element
mark s = record { primary = 0; secondary = s; case = 0; tertiary = 0x500; quaternary = 0 }

secondary_bounds : (s : ℕ) → is_sound_secondary s ≡ true → (0 < s) × (s < 2 ^ 16)
secondary_bounds s h = by_kind (or_cases _ _ h)
  where
    by_lead : (is_within 0x03 0x04 (s / 256) ≡ true) ⊎ (is_within 0x46 0xff (s / 256) ≡ true) → (0 < s) × (s < 2 ^ 16)
    by_lead (inl lead) =
        let both = and_parts (leb 0x03 (s / 256)) (leb (s / 256) 0x04) lead
        in let low = leb-true 0x03 (s / 256) both.0
        in let high = leb-true (s / 256) 0x04 both.1
        in (omega (arith, low), omega (arith, high))
    by_lead (inr lead) =
        let both = and_parts (leb 0x46 (s / 256)) (leb (s / 256) 0xff) lead
        in let low = leb-true 0x46 (s / 256) both.0
        in let high = leb-true (s / 256) 0xff both.1
        in (omega (arith, low), omega (arith, high))

    by_kind : ((s == 0x500) ≡ true)
        ⊎ (((is_within 0x03 0x04 (s / 256) || is_within 0x46 0xff (s / 256)) && not (s % 256 == 1)) ≡ true) → (0 < s) × (s < 2 ^ 16)
    by_kind (inl common) = let same = eqb-true s 0x500 common in (omega (arith, same), omega (arith, same))
    by_kind (inr other) = by_lead (or_cases _ _ (and_parts _ _ other).0)

mark_stated : (s : ℕ) → s < 2 ^ 16 → stated_element (secondary_word s) ≡ Some (mark s)
mark_stated s small =
    ap (λ (b : Bool). cond b None (option_map element_of (self_contained (secondary_word s)))) (ne_eqb (secondary_word s) 0 (λ same. omega (arith, same)))
    ∙ ap (option_map element_of) contained ∙ ap (λ (e : Element). Some e) fields
  where
    second : has_tag LongSecondary (secondary_word s) ≡ true
    second = and_from _ _ (le-leb 0xc0 (secondary_word s % 2 ^ 8) (omega arith)) (eq-eqb (secondary_word s % 2 ^ 4) 2 (omega arith))

    contained : self_contained (secondary_word s) ≡ Some (s * 2 ^ 16 + 0x500)
    contained =
        ap (λ (b : Bool). cond b (Some (secondary_word s / 2 ^ 8 * 2 ^ 8)) (simple_or_long_primary (secondary_word s))) second
        ∙ ap (λ (n : ℕ). Some n) (let e : secondary_word s / 2 ^ 8 * 2 ^ 8 ≡ s * 2 ^ 16 + 0x500 = omega arith in e)

    build : (p s t k q : ℕ) → p ≡ 0 → t ≡ 0x500 → k ≡ 0 → q ≡ 0 → (other : ℕ) → other ≡ s
        → ◌≡◌ {A = Element} (record { primary = p; secondary = other; case = k; tertiary = t; quaternary = q }) (mark s)
    build p s t k q a b d f other g = cc (a, b, d, f, g)

    fields : element_of (s * 2 ^ 16 + 0x500) ≡ mark s
    fields =
        build _ s _ _ _ (omega (arith, small)) (omega arith) (omega arith) (omega arith) _ (omega (arith, small))

mark_sound : (tables : CollationTables) (s : ℕ) → is_sound_secondary s ≡ true → is_sound_spelled tables.special_primaries (mark s) ≡ true
unfolding is_sound_spelled
mark_sound tables s h =
    let bounds = secondary_bounds s h
    in let some : (s == 0) ≡ false = ne_eqb s 0 (λ same. let low = bounds.0 in omega (arith, low, same))
    in rw (some, h) refl

pub mark_good : (tables : CollationTables) (c s : ℕ) → list_all is_sound_diacritic tables.diacritics.secondaries ≡ true
    → Contains tables.diacritics.secondaries s
    → IsGoodWord tables c (record { word = secondary_word s; pools = pools_of tables.root })
unfolding is_sound_diacritic
mark_good tables c s all within =
    let sound : is_sound_secondary s ≡ true = All-contains (λ (x : ℕ). is_sound_diacritic x ≡ true) _ s (AllPass-from_list_all is_sound_diacritic _ all) within
    in stated_good tables (pools_of tables.root) (secondary_word s) (mark s) (mark_stated s (secondary_bounds s sound).1) c
    (or_right _ _ (and_from _ _ (mark_sound tables s sound) refl))
    (λ f spells. inr (inl (s, within, spells)))

-- ---- Jamo

module _ (tables : CollationTables) (c : ℕ) (jamo : AreSoundJamo tables) (is : is_jamo c ≡ true) where
  abbrev word : ℕ
  word = slice_index tables.jamo.ce32s (c - 0x1100)

  bounds : (0x1100 ≤ c) × (c ≤ 0x11ff)
  bounds = let both = and_parts (leb 0x1100 c) (leb c 0x11ff) is in (leb-true 0x1100 c both.0, leb-true c 0x11ff both.1)

  inside : c - 0x1100 < jamo_count
  inside = let b = bounds in omega (arith, b.0, b.1)

  back : 0x1100 + (c - 0x1100) ≡ c
  back = let b = bounds in omega (arith, b.0)

  -- what is told of the element that a word of the character states
  abbrev Told : ℕ → Option Element → Type 0
  Told d o = elim o as (λ _. Bool) [ Some e ↦ are_sound_spelled tables.special_primaries (Some (own_primary d)) (e ∷ []) | None ↦ false ] ≡ true

  told : Told c (stated_element word)
  unfolding is_sound_jamo
  told =
      subst (λ (d : ℕ). Told d (stated_element word)) back (and_parts (states_element word) _ (jamo.sound (c - 0x1100) inside)).1

  pub jamo_good : IsGoodWord tables c (record { word = word; pools = pools_of tables.root })
  jamo_good = at (stated_element word) refl told
    where
      at : (o : Option Element) → stated_element word ≡ o → Told c o → IsGoodWord tables c (record { word = word; pools = pools_of tables.root })
      at None stated h = absurd (false≢true h)
      at (Some e) stated h =
          stated_good tables (pools_of tables.root) word e stated c h
          (λ f spells.
          inr (inr (word, Contains-get_or tables.jamo.ce32s (c - 0x1100) 0 (subst (λ (n : ℕ). c - 0x1100 < n) (sym jamo.count) inside), spells)))

  -- the word states an element, so that it has none of the later tags
  pub jamo_untagged : (tag : Tag) → 2 < tag_number tag → has_tag tag word ≡ false
  jamo_untagged tag more = at (stated_element word) refl told
    where
      at : (o : Option Element) → stated_element word ≡ o → Told c o → has_tag tag word ≡ false
      at None stated h = absurd (false≢true h)
      at (Some e) stated h = stated_tag word e stated tag more

  pub jamo_unprefixed : has_tag Prefix word ≡ false
  jamo_unprefixed = jamo_untagged Prefix (omega arith)
