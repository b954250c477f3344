-- What words say: that of a character alone or of a digit, that over suffixes, and that over prefixes.
use Rattle.std.proofs.Common.{◌≡◌, ◌≢◌, ◌⊎◌, inl, inr, ℕ, ◌+◌, ◌%◌, ◌^◌, ◌<◌, ◌≤◌, Bool, true, false, List, [], ◌∷◌, length, Option, Some, None, refl, ap, sym, subst, ◌∙◌, arith}
use Rattle.std.specs.Prelude.{IsTrue, cond, leb, slice_index, ltb}
use Rattle.std.specs.List.{Contains}
use Rattle.std.specs.Option.{option_and_then}
use Rattle.std.proofs.lemmas.Bool.{and_from, and_parts, cond-false, cond-true, le-leb, lt-ltb, or_right}
use Rattle.std.proofs.lemmas.Option.{none-some}
use Rattle.icu_collator_types.specs.declared.elements.Element.{Element}
use Rattle.icu_collator_types.specs.declared.elements.word_tags.Tag.TheVariants.{Prefix, Contraction, Digit}
use Rattle.icu_collator_types.specs.ElementWords.{has_tag}
use Rattle.icu_collator_core.specs.declared.check.layers.Layer.TheVariants.{Root}
use Rattle.icu_collator_core.specs.Pools.{Pools, digit_value, elements_of_word, index_of, lone_word, suffix_word, unprefixed_word}
use Rattle.icu_collator_core.specs.PrefixFaults.{HasValue, IsAmong}
use Rattle.icu_collator_core.specs.WordForms.{IsUnprefixedWord, IsWord, default_of, has_form, is_own_word}
use Rattle.icu_collator_core.specs.WordIndices.{IsInside, IsUnprefixedInside, has_context, has_digit_word, has_items}
use Rattle.icu_collator_core.proofs.apart.GrowthLemmas.{none_in}
use Rattle.icu_collator_core.proofs.meaning.WordTagLemmas.{other_tag, unprefixed_same}
use Rattle.collate_words.specs.ContextKeys.{AreKeysOf, HasFields, IsContext}
use Rattle.collate_words.specs.Contexts.{HasContext}
use Rattle.collate_words.specs.declared.entry.SuffixFlags.{SuffixFlags}
use Rattle.collate_words.specs.DigitWords.{IsDigitOver}
use Rattle.collate_words.specs.Fits.{AreBeside}
use Rattle.collate_words.specs.OwnWords.{IsOwnWord}
use Rattle.collate_words.specs.PartSayings.{saying_before, saying_behind}
use Rattle.collate_words.specs.Sayings.{SaidBeside, Saying, elements_beside, texts_backward, texts_beside}
use Rattle.collate_words.specs.Written.{HasFlags, IsBesideWord, SaysOf}
use Rattle.collate_words.proofs.written.WrittenContextLemmas.{elements_by, keys_are, value_said, values_inside, values_own}
use Rattle.collate_words.proofs.written.WordFormLemmas.{form_of_low, lone_default, lone_digit, lone_plain, no_digit_word, no_items, not_both, prefix_none, prefix_some, suffix_none, suffix_some, tag_of_form, unprefixed_default, untagged}

-- ---- Words that name no context

module _ (pools : Pools) (word : ℕ) (saying : Saying) (prefix : has_tag Prefix word ≡ false)
    (contraction : has_tag Contraction word ≡ false) where
  no_contraction : has_tag Contraction (unprefixed_word pools word) ≡ false
  no_contraction = ap (has_tag Contraction) (unprefixed_same pools word prefix) ∙ contraction

  bare_inside : has_items pools word ≡ true → has_digit_word pools word ≡ true → IsInside pools word
  bare_inside items digit = (
    (
      and_from (has_items pools word) (has_digit_word pools word) items digit,
      λ h. not_both
          (has_tag Contraction word) h contraction,
    ),
    λ h. not_both (has_tag Prefix word) h prefix,
  )

  bare_within : (one : ℕ) → IsAmong pools word one → (one ≡ lone_word pools word) ⊎ IsBesideWord pools saying one
  bare_within one (inl same) = inl same
  bare_within one (inr (inl among)) = not_both (has_tag Contraction (unprefixed_word pools word)) among.0 no_contraction
  bare_within one (inr (inr among)) = not_both (has_tag Prefix word) among.0 prefix

  bare_says : word < 2 ^ 32 → IsWord Root pools word → IsInside pools word
      → IsOwnWord pools (lone_word pools word) saying.own saying.offset
      → cond (has_tag Digit word) (Some (digit_value word)) None ≡ saying.digit → saying.suffixes ≡ []
      → saying.prefixes ≡ [] → SaysOf pools word saying
  bare_says fits form inside lone digit behind before = record {
    fits = fits;
    form = form;
    inside = inside;
    lone = lone;
    digit = digit;
    suffixes = λ d ds scalars.
        ap (option_and_then (elements_of_word pools)) (suffix_none pools word word (unprefixed_same pools word prefix)
        (d ∷ ds) contraction)
        ∙ sym (ap (λ saids. elements_beside saids (d ∷ ds)) behind);
    prefixes = λ b bs scalars.
        ap (option_and_then (elements_of_word pools)) (prefix_none pools word (b ∷ bs) prefix)
        ∙ sym (ap (λ saids. elements_beside saids (b ∷ bs)) before);
    behind = record {
      some = λ h. not_both (has_tag Contraction (unprefixed_word pools word)) h no_contraction;
      keys = λ h. not_both (has_tag Contraction (unprefixed_word pools word)) h no_contraction;
    };
    before = record {
      some = λ h. not_both (has_tag Prefix word) h prefix;
      keys = λ h. not_both
          (has_tag Prefix word) h prefix;
    };
    flags = λ h. not_both (has_tag Contraction (unprefixed_word pools word)) h no_contraction;
    within = bare_within;
  }

-- the word of a character that has nothing beside it
pub own_says : (pools : Pools) (word : ℕ) (own : Option (List Element)) (offset : Option ℕ) (flags : SuffixFlags)
    → IsOwnWord pools word own offset → SaysOf pools word (saying_behind own offset [] flags)
own_says pools word own offset flags is =
    let prefix : has_tag Prefix word ≡ false = untagged pools word Prefix (omega arith) (omega arith) is.form in
    let contraction : has_tag Contraction word ≡ false = untagged pools word Contraction (omega arith)
    (omega arith) is.form in
    let digit : has_tag Digit word ≡ false = untagged pools word Digit (omega arith) (omega arith) is.form in
    bare_says pools word (saying_behind own offset [] flags) prefix contraction is.fits
    (inr (inl (inl is.form)))
    (bare_inside pools word (saying_behind own offset [] flags) prefix contraction is.inside
    (no_digit_word pools word digit))
    (subst (λ one. IsOwnWord pools one own offset) (sym (lone_plain pools word word
    (unprefixed_same pools word prefix) contraction digit)) is)
    (cond-false (has_tag Digit word) (Some (digit_value word)) None digit)
    refl refl

-- the word of a digit
pub digit_says : (pools : Pools) (word value one : ℕ) (saying : Saying) → IsDigitOver pools word value one → value ≤ 9
    → IsOwnWord pools one saying.own saying.offset → saying.digit ≡ Some value → saying.suffixes ≡ []
    → saying.prefixes ≡ []
    → SaysOf pools word saying
digit_says pools word value one saying is low own digit behind before =
    let tag : has_tag Digit word ≡ true = tag_of_form Digit word is.form in
    let prefix : has_tag Prefix word ≡ false = other_tag Prefix Digit word tag (λ same. omega (arith, same)) in
    let contraction : has_tag Contraction word ≡ false = other_tag Contraction Digit word tag
    (λ same. omega (arith, same)) in
    let over : IsOwnWord pools (slice_index pools.ce32s (index_of word)) saying.own saying.offset =
    subst (λ w. IsOwnWord pools w saying.own saying.offset) (sym is.over) own in
    bare_says pools word saying prefix contraction is.fits
    (inl (and_from (has_form Digit word) _ is.form
    (and_from (leb (digit_value word) 9) (is_own_word pools (slice_index pools.ce32s (index_of word)))
    (le-leb (digit_value word) 9 (let says = is.says in omega (arith, says, low))) over.form)))
    (bare_inside pools word saying prefix contraction
    (no_items pools word Digit (omega arith) (omega arith) tag)
    (or_right _ _ (and_from (ltb (index_of word) (length pools.ce32s))
    (has_items pools (slice_index pools.ce32s (index_of word)))
    (lt-ltb (index_of word) (length pools.ce32s) is.inside) over.inside)))
    (subst (λ w. IsOwnWord pools w saying.own saying.offset)
    (sym (lone_digit pools word word (unprefixed_same pools word prefix) contraction tag)) over)
    (cond-true (has_tag Digit word) (Some (digit_value word)) None tag ∙ ap (λ n. Some n) is.says ∙ sym digit)
    behind before

-- ---- Words over contexts

-- the word of a character that others stand after
pub contraction_says : (pools : Pools) (word one : ℕ) (own : Option (List Element)) (offset : Option ℕ)
    (saids : List SaidBeside) (flags : SuffixFlags)
    (keys : List (List ℕ × ℕ)) → word < 2 ^ 32
    → HasFields word (index_of word) 0xc9 flags.all_begin flags.one_ends flags.one_holds
    → IsOwnWord pools one own offset → AreBeside 7 saids → saids ≢ []
    → IsContext pools.contexts (index_of word) one keys → AreKeysOf pools false saids keys
    → SaysOf pools word (saying_behind own offset saids flags)
contraction_says pools word one own offset saids flags keys small fields is beside some context keyed =
    record {
      fits = small;
      form = inr (inl (inr (
        and_from (has_form Contraction word) (is_own_word pools (default_of pools word)) form default_own.form,
        values_own pools word one 7 false saids keys few beside context keyed,
      )));
      inside = (
        (
          and_from (has_items pools word) (has_digit_word pools word)
              (no_items pools word Contraction (omega arith) (omega arith) tag) (no_digit_word pools word digit),
          λ h. (
            and_from (has_context pools word) (has_items pools (default_of pools word))
                (lt-ltb (index_of word + 2) (length pools.contexts) context.inside) default_own.inside,
            values_inside pools word one 7 false saids keys few beside context keyed,
          ),
        ),
        λ h. not_both (has_tag Prefix word) h prefix,
      );
      lone = subst (λ w. IsOwnWord pools w own offset) (sym (lone_default pools word word same tag)) default_own;
      digit = cond-false (has_tag Digit word) (Some (digit_value word)) None digit;
      suffixes = λ d ds scalars.
          ap (option_and_then (elements_of_word pools)) (suffix_some pools word word same (d ∷ ds) tag)
          ∙ elements_by pools word one 7 false saids keys few beside context keyed (d ∷ ds) scalars;
      prefixes = λ b bs scalars. ap (option_and_then (elements_of_word pools)) (prefix_none pools word (b ∷ bs) prefix);
      behind = subst (λ w. HasContext pools Contraction w (texts_beside saids)) (sym same) behind;
      before = record {
        some = λ h. not_both (has_tag Prefix word) h prefix;
        keys = λ h. not_both
            (has_tag Prefix word) h prefix;
      };
      flags = subst (λ w. IsTrue (has_tag Contraction w) → HasFlags w (saying_behind own offset saids flags)) (sym same)
          (λ h. record { all_begin = fields.first; one_ends = fields.second; one_holds = fields.third });
      within = within;
    }
  where
    few : 7 ≤ 7
    few = omega arith

    form : has_form Contraction word ≡ true
    form = form_of_low Contraction word 9 refl (omega arith) fields.low_is

    tag : has_tag Contraction word ≡ true
    tag = tag_of_form Contraction word form

    prefix : has_tag Prefix word ≡ false
    prefix = other_tag Prefix Contraction word tag (λ same. omega (arith, same))

    digit : has_tag Digit word ≡ false
    digit = other_tag Digit Contraction word tag (λ same. omega (arith, same))

    same : unprefixed_word pools word ≡ word
    same = unprefixed_same pools word prefix

    default_own : IsOwnWord pools (default_of pools word) own offset
    default_own = subst (λ w. IsOwnWord pools w own offset) (sym context.default_is) is

    none : texts_beside saids ≡ [] → saids ≡ []
    none e = none_mapped saids e
      where
        none_mapped : (list : List SaidBeside) → texts_beside list ≡ [] → list ≡ []
        none_mapped [] h = refl
        none_mapped (x ∷ xs) h = absurd (let l = ap length h in omega (arith, l))

    behind : HasContext pools Contraction word (texts_beside saids)
    behind = record {
      some = λ h e. some (none e);
      keys = λ h. keys_are pools word one 7 false saids keys few beside context keyed;
    }

    within : (other : ℕ) → IsAmong pools word other → (other ≡ lone_word pools word)
        ⊎ IsBesideWord pools (saying_behind own offset saids flags) other
    within other (inl e) = inl e
    within other (inr (inl among)) =
        let has = value_said pools word one 7 false saids keys few beside context keyed other
        (subst (λ w. HasValue pools w other) same among.1) in
        inr (has.0, inl has.1, has.2)
    within other (inr (inr among)) = not_both (has_tag Prefix word) among.0 prefix

-- the word of a character that others stand before
pub prefix_says : (pools : Pools) (word one : ℕ) (saying : Saying) (saids : List SaidBeside)
    (keys : List (List ℕ × ℕ)) → word < 2 ^ 32
    → word % 2 ^ 8 ≡ 0xc8 → SaysOf pools one saying → saying.prefixes ≡ [] → saying.digit ≡ None → AreBeside 3 saids
    → saids ≢ []
    → IsContext pools.contexts (index_of word) one keys → AreKeysOf pools true saids keys
    → SaysOf pools word (saying_before saying saids)
prefix_says pools word one saying saids keys small low says before digit beside some context keyed =
    record {
      fits = small;
      form = inr (inr (form, default_form, values_own pools word one 3 true saids keys few beside context keyed));
      inside = (
        (
          and_from (has_items pools word) (has_digit_word pools word)
              (no_items pools word Prefix (omega arith) (omega arith) tag) (no_digit_word pools word no_digit),
          λ h. not_both (has_tag Contraction word) h contraction,
        ),
        λ h. (
          lt-ltb (index_of word + 2) (length pools.contexts) context.inside,
          subst (IsUnprefixedInside pools) (sym context.default_is) says.inside.0,
          values_inside pools word one 3 true saids keys few beside context keyed,
        ),
      );
      lone = subst (λ w. IsOwnWord pools w saying.own saying.offset) (sym lone_same) says.lone;
      digit = cond-false (has_tag Digit word) (Some (digit_value word)) None no_digit ∙ sym digit;
      suffixes = λ d ds scalars.
          ap (option_and_then (elements_of_word pools)) (suffix_same (d ∷ ds)) ∙ says.suffixes d ds scalars;
      prefixes = λ b bs scalars.
          ap (option_and_then (elements_of_word pools)) (prefix_some pools word (b ∷ bs) tag)
          ∙ elements_by pools word one 3 true saids keys few beside context keyed (b ∷ bs) scalars;
      behind = subst (λ w. HasContext pools Contraction w (texts_beside saying.suffixes))
          (sym unprefixed_too) says.behind;
      before = record {
        some = λ h e. some (none saids e);
        keys = λ h. keys_are pools word one 3 true saids keys few beside context keyed;
      };
      flags = subst (λ w. IsTrue (has_tag Contraction w) → HasFlags w (saying_before saying saids)) (sym unprefixed_too)
          (λ h. let flags = says.flags h in record {
            all_begin = flags.all_begin;
            one_ends = flags.one_ends;
            one_holds
                = flags.one_holds;
          });
      within = within;
    }
  where
    few : 3 ≤ 7
    few = omega arith

    form : has_form Prefix word ≡ true
    form = form_of_low Prefix word 8 refl (omega arith) low

    tag : has_tag Prefix word ≡ true
    tag = tag_of_form Prefix word form

    contraction : has_tag Contraction word ≡ false
    contraction = other_tag Contraction Prefix word tag (λ same. omega (arith, same))

    no_digit : has_tag Digit word ≡ false
    no_digit = other_tag Digit Prefix word tag (λ same. omega (arith, same))

    unprefixed_is : unprefixed_word pools word ≡ one
    unprefixed_is = unprefixed_default pools word tag ∙ context.default_is

    -- the word after has no prefixes, and is no digit's
    one_prefix : has_tag Prefix one ≡ false
    one_prefix = at (has_tag Prefix one) refl
      where
        at : (b : Bool) → has_tag Prefix one ≡ b → b ≡ false
        at true h = absurd (says.before.some h (ap texts_backward before))
        at false h = refl

    one_digit : has_tag Digit one ≡ false
    one_digit = at (has_tag Digit one) (says.digit ∙ digit)
      where
        at : (b : Bool) → cond b (Some (digit_value one)) None ≡ None → b ≡ false
        at true h = absurd (none-some (digit_value one) (sym h))
        at false h = refl

    one_same : unprefixed_word pools one ≡ one
    one_same = unprefixed_same pools one one_prefix

    unprefixed_too : unprefixed_word pools word ≡ unprefixed_word pools one
    unprefixed_too = unprefixed_is ∙ sym one_same

    default_form : IsUnprefixedWord pools (default_of pools word)
    default_form = subst (IsUnprefixedWord pools) (sym context.default_is) (by_form says.form)
      where
        by_form : IsWord Root pools one → IsUnprefixedWord pools one
        by_form (inl h) = not_both (has_tag Digit one) (tag_of_form Digit one
            (and_parts (has_form Digit one) _ h).0) one_digit
        by_form (inr (inl unprefixed)) = unprefixed
        by_form (inr (inr prefixed)) = not_both (has_tag Prefix one) (tag_of_form Prefix one prefixed.0) one_prefix

    lone_same : lone_word pools word ≡ lone_word pools one
    lone_same = at (has_tag Contraction one) refl
      where
        at : (b : Bool) → has_tag Contraction one ≡ b → lone_word pools word ≡ lone_word pools one
        at true h = lone_default pools word one unprefixed_is h ∙ sym (lone_default pools one one one_same h)
        at false h = lone_plain pools word one unprefixed_is h one_digit
            ∙ sym (lone_plain pools one one one_same h one_digit)

    suffix_same : (cs : List ℕ) → suffix_word pools word cs ≡ suffix_word pools one cs
    suffix_same cs = at (has_tag Contraction one) refl
      where
        at : (b : Bool) → has_tag Contraction one ≡ b → suffix_word pools word cs ≡ suffix_word pools one cs
        at true h = suffix_some pools word one unprefixed_is cs h ∙ sym (suffix_some pools one one one_same cs h)
        at false h = suffix_none pools word one unprefixed_is cs h ∙ sym (suffix_none pools one one one_same cs h)

    none : (list : List SaidBeside) → texts_backward list ≡ [] → list ≡ []
    none [] h = refl
    none (x ∷ xs) h = absurd (let l = ap length h in omega (arith, l))

    -- a word within the word after is that of the character alone, or with others after it
    behind_within : (other : ℕ) → (other ≡ lone_word pools one) ⊎ IsBesideWord pools saying other
        → (other ≡ lone_word pools word) ⊎ IsBesideWord pools (saying_before saying saids) other
    behind_within other (inl e) = inl (e ∙ sym lone_same)
    behind_within other (inr (said, inl has, is)) = inr (said, inl has, is)
    behind_within other (inr (said, inr has, is)) = absurd (none_in said
        (subst (λ list. Contains list said) before has))

    within : (other : ℕ) → IsAmong pools word other → (other ≡ lone_word pools word)
        ⊎ IsBesideWord pools (saying_before saying saids) other
    within other (inl e) = inl e
    within other (inr (inl among)) =
        behind_within other (says.within other (inr (inl (
          subst (λ w. IsTrue (has_tag Contraction w)) unprefixed_too among.0,
          subst (λ w. HasValue pools w other) unprefixed_too among.1,
        ))))
    within other (inr (inr among)) =
        let has = value_said pools word one 3 true saids keys few beside context keyed other among.1 in
        inr (has.0, inr has.1, has.2)
