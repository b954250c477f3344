-- Two characters that stand together, and their elements.
use Rattle.std.proofs.Common.{◌≡◌, ℕ, suc, ◌≤◌, ◌==◌, Bool, true, false, ◌&&◌, ◌||◌, ◌+◌, ltb, cond, List, [], ◌∷◌, ◌++◌, length, take, drop, Option, Some, None, inl, inr, refl, sym, ◌∙◌, ap, subst, arith, append_assoc, append-nil}
use Rattle.std.specs.Prelude.{option_map, slice_index}
use Rattle.std.specs.Int.{cast_unsigned, w32}
use Rattle.std.specs.List.{AllByRecursion, list_all}
use Rattle.std.specs.Option.{is_some, option_and_then, unwrap_or}
use Rattle.std.proofs.lemmas.Bool.{and_from, and_parts, and_right, cases_Bool, or_parts, true≢false}
use lib.Utf8.{scalar, scalars}
use Rattle.icu_char16trie.specs.Cursors.{Follows, IsStopped, answered, cursor_state, cursor_units, units_of}
use Rattle.icu_char16trie.specs.UnitSteps.{start}
use Rattle.icu_char16trie.specs.declared.Char16TrieIterator.{Char16TrieIterator}
use Rattle.icu_char16trie.specs.declared.TrieResult.{TrieResult}
use Rattle.icu_normalizer_core.specs.Canonical.{Canonical}
use Rattle.icu_collator_types.specs.declared.elements.word_tags.Tag.TheVariants.{Contraction}
use Rattle.icu_collator_types.specs.ElementWords.{has_tag}
use Rattle.icu_collator_types.specs.declared.elements.Element.{Element}
use Rattle.icu_collator_core.specs.Acceptance.{CollationSource}
use Rattle.icu_collator_core.specs.Defaults.{default_elements, special_primary}
use Rattle.icu_collator_core.specs.ElementLists.{unpacked}
use Rattle.icu_collator_core.specs.Elements.{Joining, Placed, Reading, at_greatest, characters_of, elements_of_list, elements_within, is_before_accent, joining, longest_prefix, match_length, placed_behind, reading, recorded_length, text_match, text_reading}
use Rattle.icu_collator_core.specs.FlatNotes.{AreReadBefore}
use Rattle.icu_collator_core.specs.Pairs.{IsClosedPair, IsComposedApart, IsPair, IsPairApart, IsPairNote, IsToldApart, noted_elements}
use Rattle.icu_collator_core.specs.PlainWords.{IsUnprefixed}
use Rattle.icu_collator_core.specs.Pools.{unprefixed_word}
use Rattle.icu_collator_core.specs.ReadSources.{canonical_by, weights_by}
use Rattle.icu_collator_core.specs.ReadTexts.{found_or, length_with, longer_by, longest_text, suffix_units, text_by}
use Rattle.icu_collator_core.specs.ReadWords.{AreSaidBy}
use Rattle.icu_collator_core.specs.TableMeaning.{TableWord}
use Rattle.icu_collator_core.specs.TableSettings.{has_bit}
use Rattle.icu_collator_core.specs.Weights.{Weights}
use Rattle.icu_collator_core.specs.declared.notes.pairs.PairNote.{PairNote}
use Rattle.icu_collator_core.specs.declared.reading.suffixes.LongerText.{LongerText}
use Rattle.icu_collator_core.proofs.lookups.LookedUpTextLemmas.{greatest_more, read_more, read_none, read_stopped}
use Rattle.icu_collator_core.proofs.lookups.MatchLemmas.{match_is}
use Rattle.icu_collator_core.proofs.lookups.OpenTextLemmas.{joining_ends, joining_stays}
use Rattle.icu_collator_core.proofs.lookups.PlacedLemmas.{characters_placed, length_placed}
use Rattle.icu_collator_core.proofs.readings.AlikeLemmas.{elements_alike}
use Rattle.icu_collator_core.proofs.readings.AloneReadLemmas.{not_some}
use Rattle.icu_collator_core.proofs.readings.BoundaryReadLemmas.{read_apart, within_led}
use Rattle.icu_collator_core.proofs.readings.CaseLemmas.{reading_otherwise}
use Rattle.icu_collator_core.proofs.readings.CountLemmas.{any_count}

-- ---- elements in an array of two

pub one_noted : (items : List ℕ) (x : ℕ) → length items ≡ 1 → x ≡ slice_index items 0 → take (length items) (x ∷ x ∷ x ∷ []) ≡ items
one_noted [] x l e = absurd (omega (arith, l))
one_noted (a ∷ []) x l e = ap (λ (y : ℕ). y ∷ []) e
one_noted (a ∷ b ∷ more) x l e = absurd (omega (arith, l))

pub two_noted : (items : List ℕ) (x y : ℕ) → length items ≡ 2 → x ≡ slice_index items 0 → y ≡ slice_index items 1 → take (length items) (x ∷ y ∷ y ∷ []) ≡ items
two_noted [] x y l e f = absurd (omega (arith, l))
two_noted (a ∷ []) x y l e f = absurd (omega (arith, l))
two_noted (a ∷ b ∷ []) x y l e f = ap (λ (z : ℕ). z ∷ y ∷ []) e ∙ ap (λ (z : ℕ). a ∷ z ∷ []) f
two_noted (a ∷ b ∷ d ∷ more) x y l e f = absurd (omega (arith, l))

pub three_noted : (items : List ℕ) (x y z : ℕ) → length items ≡ 3 → x ≡ slice_index items 0 → y ≡ slice_index items 1 → z ≡ slice_index items 2
    → take (length items) (x ∷ y ∷ z ∷ []) ≡ items
three_noted [] x y z l e f g = absurd (omega (arith, l))
three_noted (a ∷ []) x y z l e f g = absurd (omega (arith, l))
three_noted (a ∷ b ∷ []) x y z l e f g = absurd (omega (arith, l))
three_noted (a ∷ b ∷ d ∷ []) x y z l e f g =
    ap (λ (w : ℕ). w ∷ y ∷ z ∷ []) e ∙ ap (λ (w : ℕ). a ∷ w ∷ z ∷ []) f ∙ ap (λ (w : ℕ). a ∷ b ∷ w ∷ []) g
three_noted (a ∷ b ∷ d ∷ h ∷ more) x y z l e f g = absurd (omega (arith, l))

-- what is noted of two characters is so
pub pair_noted : (source : CollationSource) (pair : PairNote) (first second trail : ℕ) (items : List ℕ) → pair.first ≡ first → pair.second ≡ second
    → pair.trail ≡ trail → noted_elements pair ≡ items → IsPair source first second items trail → IsPairNote source pair
pair_noted source pair first second trail items one two last its is =
    inr (subst (λ (x : ℕ). IsPair source x pair.second (noted_elements pair) pair.trail) (sym one)
    (subst (λ (x : ℕ). IsPair source first x (noted_elements pair) pair.trail) (sym two)
    (subst (λ (l : List ℕ). IsPair source first second l pair.trail) (sym its) (subst (λ (n : ℕ). IsPair source first second items n) (sym last) is))))

-- ---- two characters that are a recorded text, with which no other begins

module _ (canonical : Canonical) (weights : Weights) (c d : ℕ) (es : List Element) (d_ok : scalar d ≡ true)
    (recorded : weights.recorded [] (c ∷ d ∷ []) ≡ Some es)
    (count : (cs : List ℕ) → scalars (d ∷ cs) ≡ true → match_length weights (c ∷ d ∷ cs) ≡ 2) where
  three_match : (m : ℕ) → is_some (weights.recorded [] (c ∷ d ∷ m ∷ [])) ≡ true → match_length weights (c ∷ d ∷ m ∷ []) ≡ 3
  three_match m is =
      let found = recorded_length weights (c ∷ d ∷ m ∷ []) in
      let third : found 3 ≡ Some 3 = ap (λ (t : Bool). cond t (Some 3) None) is in
      ap (λ (o : Option ℕ). unwrap_or o 1) (greatest_more found 2 ∙ ap (λ (o : Option ℕ). found_or o (at_greatest found 2)) third)

  -- no longer one is recorded
  third_none : (m : ℕ) → scalar m ≡ true → is_some (weights.recorded [] (c ∷ d ∷ m ∷ [])) ≡ false
  third_none m ok =
      elim (cases_Bool (is_some (weights.recorded [] (c ∷ d ∷ m ∷ [])))) [
        | inl is ↦
            let two : match_length weights (c ∷ d ∷ m ∷ []) ≡ 2 = count (m ∷ []) (and_from (scalar d) (scalars (m ∷ [])) d_ok (and_from (scalar m) true ok refl)) in
            let three : match_length weights (c ∷ d ∷ m ∷ []) ≡ 3 = three_match m is in
            absurd (omega (arith, sym two ∙ three))
        | inr none ↦ none
      ]

  -- no mark joins
  joining_last : (between ps : List Placed) → scalars (characters_of ps) ≡ true
      → joining canonical weights (c ∷ d ∷ []) between ps ≡ record { text = c ∷ d ∷ []; left = between ++ ps }
  unfolding joining
  joining_last between [] ok = ap (λ ps. record { text = c ∷ d ∷ []; left = ps }) (sym (append-nil between))
  joining_last between (p ∷ ps) ok =
      let class = canonical.class p.character in
      let parts = and_parts (scalar p.character) (scalars (characters_of ps)) ok in
      elim (cases_Bool (class == 0)) [
        | inl e ↦ joining_ends canonical weights (c ∷ d ∷ []) between p ps e
        | inr e ↦
            joining_stays canonical weights (c ∷ d ∷ []) between p ps e
            (and_right (list_all (λ b. ltb (canonical.class b.character) class) between) (is_some (weights.recorded [] (c ∷ d ∷ p.character ∷ []))) (third_none p.character parts.0))
            ∙ joining_last (between ++ p ∷ []) ps parts.1
            ∙ ap (λ qs. record { text = c ∷ d ∷ []; left = qs }) (append_assoc between (p ∷ []) ps)
      ]

  text_pair : (before near : List ℕ) (qs : List Placed) → scalars (characters_of qs) ≡ true
      → text_reading canonical weights c (record { character = c; before = before } ∷ record { character = d; before = near } ∷ qs) ≡ record { elements = es; left = qs }
  unfolding text_reading text_match
  text_pair before near qs ok =
      let p : Placed = record { character = c; before = before } in
      let q : Placed = record { character = d; before = near } in
      let of : Joining → Reading = λ match. record { elements = unwrap_or (weights.recorded [] match.text) (default_elements weights c); left = match.left } in
      let Match : ℕ → Joining = λ n. joining canonical weights (take n (c ∷ d ∷ characters_of qs)) [] (drop n (p ∷ q ∷ qs)) in
      ap of (ap Match (count (characters_of qs) (and_from (scalar d) (scalars (characters_of qs)) d_ok ok)) ∙ joining_last [] qs ok)
      ∙ ap (λ (o : Option (List Element)). record { elements = unwrap_or o (default_elements weights c); left = qs }) recorded

  -- their reading
  pair_read : (numeric : Bool) (before near : List ℕ) (qs : List Placed) → scalars before ≡ true → scalars (characters_of qs) ≡ true → IsUnprefixed weights c
      → special_primary c ≡ None → (numeric && is_some (weights.digit c)) ≡ false → (weights.dot_above && (c == 0x307)) ≡ false
      → reading canonical weights numeric (record { character = c; before = before }) (record { character = d; before = near } ∷ qs) ≡ record { elements = es; left = qs }
  pair_read numeric before near qs b ok unprefixed ordinary uncounted undropped =
      let p : Placed = record { character = c; before = before } in
      let ps = record { character = d; before = near } ∷ qs in
      reading_otherwise canonical weights numeric p ps ordinary uncounted
      (ap (λ t. t && is_before_accent ps) undropped)
      ∙ ap (λ (o : Option (List Element)). elim o as (λ _. Reading) [ Some es ↦ record { elements = es; left = ps } | None ↦ text_reading canonical weights c (p ∷ ps) ]) (unprefixed p refl b)
      ∙ text_pair before near qs ok

-- ---- texts that no other goes on from

-- after a cursor that has stopped
pub last_behind : (entry : TableWord) (d : ℕ) (cursor next : Char16TrieIterator) (answer : TrieResult) → cursor_units cursor ≡ suffix_units entry
    → cursor_state cursor ≡ start (suffix_units entry) → Follows cursor (units_of d) answer next → IsStopped next
    → (cs : List ℕ) → longer_by entry (d ∷ cs) ≡ longer_by entry (d ∷ [])
unfolding longer_by
last_behind entry d cursor next answer reads stands step stopped cs =
    let pools = entry.pools in
    let units = suffix_units entry in
    let found : Option LongerText = found_or (option_and_then (text_by pools (0 + 1)) (option_map (cast_unsigned w32) (answered answer))) None in
    let at : (xs : List ℕ) → found ≡ longest_text pools units (d ∷ xs) =
    λ xs. read_stopped pools units (d ∷ xs) (0 + 1) next found (omega arith)
    (read_more pools units (d ∷ xs) 0 d cursor next None found answer (omega arith) refl (read_none pools units (d ∷ xs) cursor reads stands) step refl) stopped in
    ap (λ (t : Option LongerText). cond (has_tag Contraction (unprefixed_word pools entry.word)) t None) (sym (at cs) ∙ at [])

-- where no text goes on from the character alone
pub none_longer : (entry : TableWord) → has_tag Contraction (unprefixed_word entry.pools entry.word) ≡ false → (xs : List ℕ) → longer_by entry xs ≡ None
unfolding longer_by
none_longer entry none xs = rw none refl

-- what a word says of the texts that begin so
module _ (source : CollationSource) (c d : ℕ) (entry : TableWord) (said : AreSaidBy (weights_by None source) entry c) where
  some_elements : (o : Option (List Element)) → is_some o ≡ true → (es : List Element) × (o ≡ Some es)
  some_elements None e = absurd (true≢false (sym e))
  some_elements (Some es) e = (es, refl)

  pub closed_by : (is_some (special_primary c) || (has_bit 6 source.tables.metadata.bits && (c == 0x307))) ≡ false → IsUnprefixed (weights_by None source) c
      → (text : LongerText) → longer_by entry (d ∷ []) ≡ Some text → text.behind ≡ 1 → is_some ((weights_by None source).recorded [] (c ∷ d ∷ [])) ≡ true
      → ((cs : List ℕ) → longer_by entry (d ∷ cs) ≡ longer_by entry (d ∷ [])) → IsClosedPair source c d
  closed_by kept unprefixed text found one recorded ends =
      let parts = or_parts (is_some (special_primary c)) (has_bit 6 source.tables.metadata.bits && (c == 0x307)) kept in
      let elements = some_elements ((weights_by None source).recorded [] (c ∷ d ∷ [])) recorded in
      record {
        ordinary = not_some (special_primary c) parts.0;
        undropped = parts.1;
        unprefixed = unprefixed;
        elements = elements.0;
        recorded = elements.1;
        longest = λ cs ok.
            match_is entry (d ∷ cs) (weights_by None source) c said ok
            ∙ ap length_with (ends cs ∙ found)
            ∙ ap (λ (n : ℕ). n + 1) one;
      }

-- ---- their elements

placed_uncounted : (weights : Weights) (near cs : List ℕ) → AllByRecursion (λ (c : ℕ). weights.digit c ≡ None) cs
    → AllByRecursion (λ (p : Placed). weights.digit p.character ≡ None) (placed_behind near cs)
unfolding placed_behind
placed_uncounted weights near [] h = tt
placed_uncounted weights near (c ∷ cs) h = (h.0, placed_uncounted weights (take longest_prefix (c ∷ near)) cs h.1)

-- those of characters that tell alone which prefixes count, where a boundary follows
bounded : (source : CollationSource) (c : ℕ) (cs items : List ℕ) → IsToldApart source c cs → scalars (c ∷ cs) ≡ true
    → unpacked items ≡ elements_of_list (canonical_by source) (weights_by None source) false (c ∷ cs)
    → (numeric : Option ℕ) → AreReadBefore source numeric (c ∷ cs) 256 items
bounded source c cs items apart ok are numeric =
    let list = c ∷ cs in
    read_apart source numeric list items ok
    (λ before b.
    elements_alike (canonical_by source) (weights_by numeric source) (is_some numeric) (length list) (placed_behind before list) (placed_behind [] list)
    (apart.told numeric before b)
    ∙ within_led (canonical_by source) (weights_by None source) numeric (length list) (placed_behind [] list) (placed_uncounted (weights_by None source) [] list apart.uncounted)
    ∙ sym are)

pub composed_pair : (source : CollationSource) (first c m d : ℕ) (items : List ℕ) → IsComposedApart source c m d → scalars (c ∷ m ∷ d ∷ []) ≡ true
    → unpacked items ≡ elements_of_list (canonical_by source) (weights_by None source) false (c ∷ m ∷ d ∷ [])
    → (canonical_by source).full first ≡ c ∷ m ∷ [] → IsPair source first d items 256
composed_pair source first c m d items apart ok are is =
    record {
      head = c;
      rest = m ∷ [];
      first_full = is;
      second_own = apart.second_own;
      characters = ok;
      begins = apart.together.begins;
      order = (inr (omega arith), (inl apart.starter, tt));
      last = λ (small : 256 ≤ 255). absurd (omega (arith, small));
      read = bounded source c (m ∷ d ∷ []) items apart.together ok are;
    }

module _ (source : CollationSource) (c d : ℕ) (items : List ℕ) (apart : IsPairApart source c d) (ok : scalars (c ∷ d ∷ []) ≡ true)
    (are : unpacked items ≡ elements_of_list (canonical_by source) (weights_by None source) false (c ∷ d ∷ [])) where
  pub bounded_pair : (first : ℕ) → (canonical_by source).full first ≡ c ∷ [] → IsPair source first d items 256
  bounded_pair first is =
      record {
        head = c;
        rest = [];
        first_full = is;
        second_own = apart.second_own;
        characters = ok;
        begins = apart.together.begins;
        order = (inr (omega arith), tt);
        last = λ (small : 256 ≤ 255). absurd (omega (arith, small));
        read = bounded source c (d ∷ []) items apart.together ok are;
      }

  -- wherever they stand, where they are such a text
  module _ (closed : IsClosedPair source c d) where
    abbrev d_ok : scalar d ≡ true
    d_ok = (and_parts (scalar d) true (and_parts (scalar c) (scalars (d ∷ [])) ok).1).0

    Read : (numeric : Option ℕ) (before near : List ℕ) (qs : List Placed) → scalars before ≡ true → scalars (characters_of qs) ≡ true
        → reading (canonical_by source) (weights_by numeric source) (is_some numeric) (record { character = c; before = before }) (record { character = d; before = near } ∷ qs)
        ≡ record { elements = closed.elements; left = qs }
    Read numeric before near qs b s =
        pair_read (canonical_by source) (weights_by numeric source) c d closed.elements d_ok closed.recorded closed.longest (is_some numeric) before near qs b s
        closed.unprefixed closed.ordinary
        (and_right (is_some numeric) (is_some ((weights_by None source).digit c)) (ap (λ (o : Option ℕ). is_some o) apart.together.uncounted.0)) closed.undropped

    closed_items : unpacked items ≡ closed.elements
    unfolding elements_within placed_behind
    closed_items =
        are
        ∙ ap (λ (r : Reading). r.elements ++ elements_within 1 (canonical_by source) (weights_by None source) false r.left) (Read None [] (take longest_prefix (c ∷ [])) [] refl refl)
        ∙ append-nil closed.elements

    closed_read : (numeric : Option ℕ) → AreReadBefore source numeric (c ∷ d ∷ []) 0 items
    unfolding elements_within placed_behind
    closed_read numeric before later b s fits =
        let canonical = canonical_by source in
        let weights = weights_by numeric source in
        let counts = is_some numeric in
        let near = take longest_prefix (c ∷ before) in
        let behind = take longest_prefix (d ∷ near) in
        let qs = placed_behind behind later in
        let placed = length_placed behind later in
        ap (λ (r : Reading). r.elements ++ elements_within (suc (length later)) canonical weights counts r.left)
        (Read numeric before near qs b (ap scalars (characters_placed behind later) ∙ s))
        ∙ ap (λ (es : List Element). closed.elements ++ es)
        (any_count canonical weights counts (suc (length later)) (length later) qs (omega (arith, placed)) (omega (arith, placed)))
        ∙ ap (λ (es : List Element). es ++ elements_within (length later) canonical weights counts qs) (sym closed_items)

    pub closed_pair : (first : ℕ) → (canonical_by source).full first ≡ c ∷ [] → (canonical_by source).class d ≡ 0 → IsPair source first d items 0
    closed_pair first is starter =
        record {
          head = c;
          rest = [];
          first_full = is;
          second_own = apart.second_own;
          characters = ok;
          begins = apart.together.begins;
          order = (inr (omega arith), tt);
          last = λ small. starter;
          read = closed_read;
        }
