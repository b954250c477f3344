-- What a word says stays said when the lists grow.
use Rattle.std.proofs.Common.{◌≡◌, ◌⊎◌, inl, inr, ℕ, ℤ, ◌+◌, Bool, true, false, List, ◌∷◌, length, Option, Some, None, refl, ap, sym, subst, ◌∙◌, arith}
use Rattle.std.specs.Prelude.{◌&&◌, IsTrue, reverse}
use Rattle.std.specs.Int.{cast_unsigned, w32}
use Rattle.std.specs.Option.{option_and_then}
use Rattle.std.proofs.lemmas.Bool.{and_from, and_parts, ltb-true}
use Rattle.icu_char16trie.specs.UnitMaps.{MapsKey, at_node}
use Rattle.icu_collator_types.specs.declared.elements.Element.{Element}
use Rattle.icu_collator_types.specs.declared.elements.word_tags.Tag.TheVariants.{Prefix, Contraction, Digit}
use Rattle.icu_collator_types.specs.ElementWords.{has_tag}
use Rattle.icu_collator_core.specs.declared.check.layers.Layer.TheVariants.{Root}
use Rattle.icu_collator_core.specs.Pools.{Pools, elements_of_word, index_of, lone_word, prefix_word, suffix_word, trie_of, unprefixed_word, word_in_context}
use Rattle.icu_collator_core.specs.PrefixFaults.{HasValue, IsAmong}
use Rattle.icu_collator_core.specs.WordForms.{AreReadable, IsUnprefixedWord, IsWord, default_of, has_form, is_own_word}
use Rattle.icu_collator_core.specs.WordIndices.{IsInside, IsUnprefixedInside, has_context, has_digit_word, has_items}
use Rattle.icu_collator_core.proofs.meaning.WordTagLemmas.{other_tag, unprefixed_same}
use Rattle.collate_words.specs.Contexts.{HasContext}
use Rattle.collate_words.specs.Growth.{Grows}
use Rattle.collate_words.specs.OwnWords.{IsOwnWord}
use Rattle.collate_words.specs.Sayings.{Saying, texts_backward, texts_beside}
use Rattle.collate_words.specs.Written.{HasFlags, IsBesideWord, SaysOf}
use Rattle.collate_words.proofs.growth.FrontLemmas.{slice_index-front}
use Rattle.collate_words.proofs.growth.OwnGrowthLemmas.{IsOwnWord-larger, has_items-larger}
use Rattle.collate_words.proofs.written.WrittenContextLemmas.{value_in}
use Rattle.collate_words.proofs.written.SameContextLemmas.{AreKeptLonger, IsSameContext, context_longer, digit_inside, digit_longer, keys_same, same_context}
use Rattle.collate_words.proofs.written.WordFormLemmas.{lone_default, lone_digit, lone_plain, not_both, prefix_none, prefix_some, suffix_none, suffix_some, tag_of_form, unprefixed_default, untagged}

module _
    (kept : AreKeptLonger)
    (pools larger : Pools)
    (grows : Grows pools larger)
    (word : ℕ)
    (saying : Saying)
    (says : SaysOf pools word saying) where
  stay : (one : ℕ) (elements : Option (List Element)) (offset : Option ℕ) → IsOwnWord pools one elements offset
      → IsOwnWord larger one elements offset
  stay = IsOwnWord-larger pools larger grows

  -- ---- The contexts of the word

  prefix_context : has_tag Prefix word ≡ true → IsSameContext pools.contexts larger.contexts (index_of word)
  prefix_context t =
      same_context kept pools.contexts larger.contexts (index_of word) grows.contexts
      (ltb-true (index_of word + 2) (length pools.contexts) (says.inside.1 t).0) (says.before.keys t).grammar

  unprefixed_longer : unprefixed_word larger word ≡ unprefixed_word pools word
  unprefixed_longer = at (has_tag Prefix word) refl
    where
      at : (b : Bool) → has_tag Prefix word ≡ b → unprefixed_word larger word ≡ unprefixed_word pools word
      at true t = unprefixed_default larger word t ∙ (prefix_context t).default_is
          ∙ sym (unprefixed_default pools word t)
      at false f = unprefixed_same larger word f ∙ sym (unprefixed_same pools word f)

  -- the word where no prefix counts
  behind : ℕ
  behind = unprefixed_word pools word

  is_behind : unprefixed_word pools word ≡ behind
  unfolding behind
  is_behind = refl

  is_behind_longer : unprefixed_word larger word ≡ behind
  is_behind_longer = unprefixed_longer ∙ is_behind

  behind_inside : IsUnprefixedInside pools behind
  behind_inside = subst (IsUnprefixedInside pools) is_behind (at (has_tag Prefix word) refl)
    where
      at : (b : Bool) → has_tag Prefix word ≡ b → IsUnprefixedInside pools (unprefixed_word pools word)
      at true t = subst (IsUnprefixedInside pools) (sym (unprefixed_default pools word t)) (says.inside.1 t).1
      at false f = subst (IsUnprefixedInside pools) (sym (unprefixed_same pools word f)) says.inside.0

  keys_behind : HasContext pools Contraction behind (texts_beside saying.suffixes)
  keys_behind = subst (λ w. HasContext pools Contraction w (texts_beside saying.suffixes)) is_behind says.behind

  suffix_context : has_tag Contraction behind ≡ true → IsSameContext pools.contexts larger.contexts (index_of behind)
  suffix_context t =
      same_context kept pools.contexts larger.contexts (index_of behind) grows.contexts
      (ltb-true (index_of behind + 2) (length pools.contexts)
      (and_parts (has_context pools behind) (has_items pools (default_of pools behind)) (behind_inside.1 t).0).0)
      (keys_behind.keys t).grammar

  -- ---- The words within it

  lone_longer : lone_word larger word ≡ lone_word pools word
  lone_longer = at (has_tag Contraction behind) (has_tag Digit behind) refl refl
    where
      at : (b d : Bool) → has_tag Contraction behind ≡ b → has_tag Digit behind ≡ d → lone_word larger word
          ≡ lone_word pools word
      at true d t is =
          lone_default larger word behind is_behind_longer t ∙ (suffix_context t).default_is
          ∙ sym (lone_default pools word behind is_behind t)
      at false true f is =
          let inside = digit_inside pools larger grows behind is
          (and_parts (has_items pools behind) (has_digit_word pools behind) behind_inside.0).1 in
          lone_digit larger word behind is_behind_longer f is
          ∙ slice_index-front pools.ce32s larger.ce32s (index_of behind) grows.ce32s inside
          ∙ sym (lone_digit pools word behind is_behind f is)
      at false false f is = lone_plain larger word behind is_behind_longer f is
          ∙ sym (lone_plain pools word behind is_behind f is)

  lone_says : IsOwnWord larger (lone_word larger word) saying.own saying.offset
  lone_says =
      subst (λ w. IsOwnWord larger w saying.own saying.offset) (sym lone_longer)
      (stay (lone_word pools word) saying.own saying.offset says.lone)

  own_among : (one : ℕ) → IsAmong pools word one → (elements : Option (List Element)) × (offset : Option ℕ)
      × IsOwnWord pools one elements offset
  own_among one among = at (says.within one among)
    where
      at : (one ≡ lone_word pools word) ⊎ IsBesideWord pools saying one
          → (elements : Option (List Element)) × (offset : Option ℕ) × IsOwnWord pools one elements offset
      at (inl e) = (
        saying.own,
        saying.offset,
        subst (λ w. IsOwnWord pools w saying.own saying.offset)
            (sym e) says.lone,
      )
      at (inr beside) = (Some beside.0.elements, None, beside.2)

  elements_longer : (one : ℕ) → IsAmong pools word one → elements_of_word larger one ≡ elements_of_word pools one
  elements_longer one among = let w = own_among one among in (stay one w.0 w.1 w.2).says ∙ sym w.2.says

  form_longer : (one : ℕ) → IsAmong pools word one → is_own_word larger one ≡ true
  form_longer one among = let w = own_among one among in (stay one w.0 w.1 w.2).form

  inside_longer : (one : ℕ) → IsAmong pools word one → has_items larger one ≡ true
  inside_longer one among = let w = own_among one among in (stay one w.0 w.1 w.2).inside

  among_behind : has_tag Contraction behind ≡ true → (one : ℕ) → HasValue pools behind one → IsAmong pools word one
  among_behind t one has =
      inr (inl (
        subst (λ w. IsTrue (has_tag Contraction w)) (sym is_behind) t,
        subst (λ w. HasValue pools w one)
            (sym is_behind) has,
      ))

  among_before : has_tag Prefix word ≡ true → (one : ℕ) → HasValue pools word one → IsAmong pools word one
  among_before t one has = inr (inr (t, has))

  readable_behind : has_tag Contraction behind ≡ true → AreReadable (trie_of pools.contexts (index_of behind))
  readable_behind t = ((keys_behind.keys t).grammar, (keys_behind.keys t).counted)

  readable_before : has_tag Prefix word ≡ true → AreReadable (trie_of pools.contexts (index_of word))
  readable_before t = ((says.before.keys t).grammar, (says.before.keys t).counted)

  value_behind : (t : has_tag Contraction behind ≡ true) (key : List ℕ) (number : ℤ)
      → MapsKey (trie_of larger.contexts (index_of behind)) (at_node 0) key number
      → IsAmong pools word (cast_unsigned w32 number)
  value_behind t key number maps =
      among_behind t (cast_unsigned w32 number) (
        key,
        number,
        readable_behind t,
        ((suffix_context t).maps key number).0 maps,
        refl,
      )

  value_before : (t : has_tag Prefix word ≡ true) (key : List ℕ) (number : ℤ)
      → MapsKey (trie_of larger.contexts (index_of word)) (at_node 0) key number
      → IsAmong pools word (cast_unsigned w32 number)
  value_before t key number maps =
      among_before t (cast_unsigned w32 number) (
        key,
        number,
        readable_before t,
        ((prefix_context t).maps key number).0 maps,
        refl,
      )

  -- ---- Its form

  -- the word after, by itself
  own_behind : has_tag Contraction behind ≡ true → IsOwnWord larger (default_of larger behind) saying.own saying.offset
  own_behind t = subst (λ w. IsOwnWord larger w saying.own saying.offset)
      (lone_default larger word behind is_behind_longer t) lone_says

  form_behind : IsUnprefixedWord pools behind → IsUnprefixedWord larger behind
  form_behind (inl own) =
      let contraction = untagged pools behind Contraction (omega arith) (omega arith) own in
      let digit = untagged pools behind Digit (omega arith) (omega arith) own in
      inl (subst (λ w. is_own_word larger w ≡ true)
      (lone_plain larger word behind is_behind_longer contraction digit) lone_says.form)
  form_behind (inr (form, values)) =
      let has_form_too = (and_parts (has_form Contraction behind) _ form).0 in
      let t = tag_of_form Contraction behind has_form_too in
      inr (
        and_from (has_form Contraction behind) (is_own_word larger (default_of larger behind)) has_form_too
            (own_behind t).form,
        λ readable key number maps. form_longer (cast_unsigned w32 number) (value_behind t key number maps),
      )

  default_is_behind : has_tag Prefix word ≡ true → default_of pools word ≡ behind
  default_is_behind t = sym (unprefixed_default pools word t) ∙ is_behind

  default_is_behind_longer : has_tag Prefix word ≡ true → default_of larger word ≡ behind
  default_is_behind_longer t = sym (unprefixed_default larger word t) ∙ is_behind_longer

  word_longer : IsWord Root pools word → IsWord Root larger word
  word_longer (inl h) =
      let digit = and_parts (has_form Digit word) _ h in
      let t = tag_of_form Digit word digit.0 in
      let prefix : has_tag Prefix word ≡ false = other_tag Prefix Digit word t (λ same. omega (arith, same)) in
      let contraction : has_tag Contraction word ≡ false = other_tag Contraction Digit word t
      (λ same. omega (arith, same)) in
      let own = subst (λ w. is_own_word larger w ≡ true) (lone_digit larger word word
      (unprefixed_same larger word prefix) contraction t) lone_says.form in
      inl (and_from (has_form Digit word) _ digit.0 (and_from _ _ (and_parts _ _ digit.1).0 own))
  word_longer (inr (inl h)) = at (has_tag Prefix word) refl
    where
      at : (b : Bool) → has_tag Prefix word ≡ b → IsWord Root larger word
      at true t = absurd (unprefixed_tag h)
        where
          unprefixed_tag : IsUnprefixedWord pools word → ⊥
          unprefixed_tag (inl own) = not_both (has_tag Prefix word) t
              (untagged pools word Prefix (omega arith) (omega arith) own)
          unprefixed_tag (inr (form, values)) =
              not_both (has_tag Prefix word) t
              (other_tag Prefix Contraction word (tag_of_form Contraction word
              (and_parts (has_form Contraction word) _ form).0) (λ same. omega (arith, same)))
      at false f =
          let same : behind ≡ word = sym is_behind ∙ unprefixed_same pools word f in
          inr (inl (subst (IsUnprefixedWord larger) same (form_behind (subst (IsUnprefixedWord pools) (sym same) h))))
  word_longer (inr (inr (form, unprefixed, values))) =
      let t = tag_of_form Prefix word form in
      inr (inr (
        form,
        subst (IsUnprefixedWord larger) (sym (default_is_behind_longer t))
            (form_behind (subst (IsUnprefixedWord pools) (default_is_behind t) unprefixed)),
        λ readable key number maps. form_longer (cast_unsigned w32 number) (value_before t key number maps),
      ))

  -- ---- What it names

  items_and_digit : (one : ℕ) → (has_items pools one && has_digit_word pools one) ≡ true
      → (has_items larger one && has_digit_word larger one) ≡ true
  items_and_digit one h =
      let both = and_parts (has_items pools one) (has_digit_word pools one) h in
      and_from (has_items larger one) (has_digit_word larger one) (has_items-larger pools larger grows one both.0)
      (digit_longer pools larger grows one both.1)

  behind_inside_longer : IsUnprefixedInside larger behind
  behind_inside_longer = (
    items_and_digit behind behind_inside.0,
    λ t.
        let both = and_parts (has_context pools behind) (has_items pools (default_of pools behind))
        (behind_inside.1 t).0 in (
          and_from (has_context larger behind) (has_items larger (default_of larger behind))
              (context_longer pools larger grows behind both.0) (own_behind t).inside,
          λ readable key number maps. inside_longer (cast_unsigned w32 number) (value_behind t key number maps),
        ),
  )

  inside_grown : IsInside larger word
  inside_grown = at (has_tag Prefix word) refl
    where
      at : (b : Bool) → has_tag Prefix word ≡ b → IsInside larger word
      at false f =
          let same : behind ≡ word = sym is_behind ∙ unprefixed_same pools word f in
          (subst (IsUnprefixedInside larger) same behind_inside_longer, λ h. not_both (has_tag Prefix word) h f)
      at true t = (
        (
          items_and_digit word says.inside.0.0,
          λ h. not_both (has_tag Contraction word) h (other_tag Contraction Prefix word t
              (λ same. omega (arith, same))),
        ),
        λ h. (
          context_longer pools larger grows word (says.inside.1 t).0,
          subst (IsUnprefixedInside larger) (sym (default_is_behind_longer t)) behind_inside_longer,
          λ readable key number maps. inside_longer (cast_unsigned w32 number) (value_before t key number maps),
        ),
      )

  -- ---- What it says of the character beside others

  context_elements : (index : ℕ) (cs : List ℕ) → IsSameContext pools.contexts larger.contexts index
      → ((one : ℕ) → word_in_context pools.contexts index cs ≡ Some one → IsAmong pools word one)
      → option_and_then (elements_of_word larger) (word_in_context larger.contexts index cs)
      ≡ option_and_then (elements_of_word pools) (word_in_context pools.contexts index cs)
  context_elements index cs same among =
      ap (option_and_then (elements_of_word larger)) (same.words cs)
      ∙ at (word_in_context pools.contexts index cs) among
    where
      at : (o : Option ℕ) → ((one : ℕ) → o ≡ Some one → IsAmong pools word one)
          → option_and_then (elements_of_word larger) o ≡ option_and_then (elements_of_word pools) o
      at None within = refl
      at (Some one) within = elements_longer one (within one refl)

  suffixes_longer : (cs : List ℕ) → option_and_then (elements_of_word larger) (suffix_word larger word cs)
      ≡ option_and_then (elements_of_word pools) (suffix_word pools word cs)
  suffixes_longer cs = at (has_tag Contraction behind) refl
    where
      at : (b : Bool) → has_tag Contraction behind ≡ b
          → option_and_then (elements_of_word larger) (suffix_word larger word cs)
          ≡ option_and_then (elements_of_word pools) (suffix_word pools word cs)
      at true t =
          ap (option_and_then (elements_of_word larger)) (suffix_some larger word behind is_behind_longer cs t)
          ∙ context_elements (index_of behind) cs (suffix_context t)
          (λ one e. among_behind t one (value_in pools behind cs one (readable_behind t) e))
          ∙ sym (ap (option_and_then (elements_of_word pools)) (suffix_some pools word behind is_behind cs t))
      at false f =
          ap (option_and_then (elements_of_word larger)) (suffix_none larger word behind is_behind_longer cs f)
          ∙ sym (ap (option_and_then (elements_of_word pools)) (suffix_none pools word behind is_behind cs f))

  prefixes_longer : (cs : List ℕ) → option_and_then (elements_of_word larger) (prefix_word larger word cs)
      ≡ option_and_then (elements_of_word pools) (prefix_word pools word cs)
  prefixes_longer cs = at (has_tag Prefix word) refl
    where
      at : (b : Bool) → has_tag Prefix word ≡ b
          → option_and_then (elements_of_word larger) (prefix_word larger word cs)
          ≡ option_and_then (elements_of_word pools) (prefix_word pools word cs)
      at true t =
          ap (option_and_then (elements_of_word larger)) (prefix_some larger word cs t)
          ∙ context_elements (index_of word) (reverse cs) (prefix_context t)
          (λ one e. among_before t one (value_in pools word (reverse cs) one (readable_before t) e))
          ∙ sym (ap (option_and_then (elements_of_word pools)) (prefix_some pools word cs t))
      at false f =
          ap (option_and_then (elements_of_word larger)) (prefix_none larger word cs f)
          ∙ sym (ap (option_and_then (elements_of_word pools)) (prefix_none pools word cs f))

  -- ---- No others are within it

  within_said : (one : ℕ) → (one ≡ lone_word pools word) ⊎ IsBesideWord pools saying one
      → (one ≡ lone_word larger word) ⊎ IsBesideWord larger saying one
  within_said one (inl e) = inl (e ∙ sym lone_longer)
  within_said one (inr beside) = inr (beside.0, beside.1, stay one (Some beside.0.elements) None beside.2)

  within_longer : (one : ℕ) → IsAmong larger word one → (one ≡ lone_word larger word) ⊎ IsBesideWord larger saying one
  within_longer one (inl e) = inl e
  within_longer one (inr (inl among)) =
      let t = subst (λ w. IsTrue (has_tag Contraction w)) is_behind_longer among.0 in
      let has = subst (λ w. HasValue larger w one) is_behind_longer among.1 in
      within_said one (says.within one (subst (IsAmong pools word) has.4 (value_behind t has.0 has.1 has.3)))
  within_longer one (inr (inr among)) =
      within_said one (says.within one (subst (IsAmong pools word) among.1.4
      (value_before among.0 among.1.0 among.1.1 among.1.3)))

  pub says_longer : SaysOf larger word saying
  says_longer = record {
    fits = says.fits;
    form = word_longer says.form;
    inside = inside_grown;
    lone = lone_says;
    digit = says.digit;
    suffixes = λ d ds scalars. suffixes_longer (d ∷ ds) ∙ says.suffixes d ds scalars;
    prefixes = λ b bs scalars. prefixes_longer (b ∷ bs) ∙ says.prefixes b bs scalars;
    behind = subst (λ w. HasContext larger Contraction w (texts_beside saying.suffixes)) (sym is_behind_longer)
        (record {
          some = keys_behind.some;
          keys = λ t. keys_same pools.contexts larger.contexts (index_of behind) (texts_beside saying.suffixes)
              (suffix_context t) (keys_behind.keys t);
        });
    before = record {
      some = says.before.some;
      keys = λ t. keys_same pools.contexts larger.contexts (index_of word) (texts_backward saying.prefixes)
          (prefix_context t) (says.before.keys t);
    };
    flags = subst (λ w. IsTrue (has_tag Contraction w) → HasFlags w saying) (sym unprefixed_longer) says.flags;
    within = within_longer;
  }
