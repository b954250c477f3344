-- The word of a character that says what lines record of it keeps the rules on contexts.
use Rattle.std.proofs.Common.{◌≡◌, ℕ, ◌-◌, Bool, true, cond, not, ◌==◌, ◌&&◌, ◌||◌, leb, List, [], ◌∷◌, length, take, Option, Some, None, refl, sym, ap, subst, ◌∙◌, arith}
use Rattle.std.specs.Prelude.{is_some, reverse}
use Rattle.std.specs.Bool.{IsTrue}
use Rattle.std.specs.List.{Contains, list_all}
use Rattle.std.proofs.lemmas.Bool.{and_from, and_parts, le-leb}
use Rattle.std.proofs.lemmas.List.{length-reverse}
use Rattle.std.proofs.lemmas.List.Elements.{All-contains}
use Rattle.std.proofs.lemmas.Option.{none-some}
use lib.Utf8.{scalar, scalars}
use Rattle.icu_normalizer_core.specs.BuiltIn.{is_jamo}
use Rattle.icu_normalizer_core.specs.Canonical.{Canonical, is_starter}
use Rattle.icu_normalizer_core.specs.Sameness.{AreSameCanonical}
use Rattle.icu_collator_types.specs.declared.elements.Element.{Element}
use Rattle.icu_collator_types.specs.declared.elements.word_tags.Tag.TheVariants.{Contraction, Digit, Prefix}
use Rattle.icu_collator_types.specs.ElementWords.{has_tag}
use Rattle.icu_collator_core.specs.ContextRules.{AreFlagsTrue, KeepsContextRules, KeysPass, begins_with_mark, ends_in_mark, has_flag, has_marks_last, holds_starter, is_prefix, is_prefix_character, is_recorded_by, is_recorded_in, is_recorded_shorter, is_suffix, longest_suffix, may_be_digit, may_have_prefix, units_named}
use Rattle.icu_collator_core.specs.Elements.{longest_prefix}
use Rattle.icu_collator_core.specs.Pools.{digit_value, unprefixed_word}
use Rattle.icu_collator_core.specs.TableMeaning.{TableWord}
use Rattle.icu_collator_core.proofs.apart.GrowthLemmas.{first_in}
use Rattle.icu_collator_core.proofs.lookups.MatchLemmas.{scalars_front}
use Rattle.icu_collator_core.proofs.readings.MovedMarkLemmas.{list_all-reverse}
use Rattle.collate_lines.specs.Record.{Record}
use Rattle.collate_rules.specs.Accepted.{AreAccepted}
use Rattle.collate_rules.specs.Meaning.{canonical_of, recorded_in, weights_of}
use Rattle.collate_rules.specs.RecordRules.{digit_of}
use Rattle.collate_words.specs.Sayings.{SaidBeside, Saying, texts_backward, texts_beside}
use Rattle.collate_words.specs.Written.{SaysOf}
use Rattle.collate_compile.specs.LineSayings.{IsSaidAfter, IsSaidBehind, IsSayingOf, ranged_saying}
use Rattle.collate_compile.proofs.laws.CompiledKeyLemmas.{all_told, keys_pass, mapped_from, some_told, texts_filled}
use Rattle.collate_compile.proofs.laws.MeaningLemmas.{Means}
use Rattle.collate_compile.proofs.laws.RuleLemmas.{digit_may_be, recorded_after, recorded_characters, recorded_marks_last, recorded_prefix, recorded_short, recorded_shorter}
use Rattle.collate_compile.proofs.laws.StarterLemmas.{begins_same, ends_same, holds_same, marks_last_same, starter_same}

module _
    (lines : List Record)
    (accepted : AreAccepted lines)
    (canonical : Canonical)
    (same : AreSameCanonical canonical (canonical_of lines))
    (digit : ℕ → Option ℕ)
    (same_digit : (d : ℕ) → scalar d ≡ true → digit d ≡ digit_of lines d)
    (c : ℕ)
    (s : scalar c ≡ true)
    (entry : TableWord)
    (means : Means lines c entry)
    (saying : Saying)
    (is : IsSayingOf lines c saying)
    (says : SaysOf entry.pools entry.word saying) where
  abbrev of_lines : Canonical
  of_lines = canonical_of lines

  abbrev unprefixed : ℕ
  unprefixed = unprefixed_word entry.pools entry.word

  recorded_alike : (cs : List ℕ) → scalars cs ≡ true
      → is_recorded_by entry [] (c ∷ cs) ≡ is_recorded_in (weights_of lines) [] (c ∷ cs)
  recorded_alike cs q = ap (λ (o : Option (List Element)). is_some o) (means.recorded [] cs refl q)

  -- ---- Digits

  digit_passes : IsTrue (has_tag Digit entry.word) → IsTrue (may_be_digit canonical (is_recorded_by entry) c)
  digit_passes tag =
      let found : digit_of lines c ≡ Some (digit_value entry.word) =
      sym means.digit ∙ ap (λ (b : Bool). cond b (Some (digit_value entry.word)) None) tag in
      let first = and_parts (is_starter of_lines c) _ (digit_may_be lines accepted c (digit_value entry.word) found) in
      let second = and_parts (not (is_jamo c)) _ first.1 in
      and_from (is_starter canonical c) _ (starter_same canonical of_lines same c s ∙ first.0)
      (and_from (not (is_jamo c)) _ second.0 (recorded_alike [] refl ∙ second.1))

  -- ---- Prefixes

  prefix_character : (d : ℕ) → scalar d ≡ true
      → is_prefix_character canonical digit d ≡ is_prefix_character of_lines (digit_of lines) d
  prefix_character d t =
      ap (λ (b : Bool). b && (not (is_some (digit d)) && (not (is_jamo d) && not (d == 0))))
      (starter_same canonical of_lines same d t)
      ∙ ap (λ (o : Option ℕ). is_starter of_lines d && (not (is_some o) && (not (is_jamo d) && not (d == 0))))
      (same_digit d t)

  prefix_characters : (cs : List ℕ) → scalars cs ≡ true
      → list_all (is_prefix_character of_lines (digit_of lines)) cs ≡ true
      → list_all (is_prefix_character canonical digit) cs ≡ true
  prefix_characters [] t h = refl
  prefix_characters (d ∷ ds) t h =
      let characters = and_parts (scalar d) (scalars ds) t in
      let both = and_parts (is_prefix_character of_lines (digit_of lines) d) _ h in
      and_from (is_prefix_character canonical digit d) _ (prefix_character d characters.0 ∙ both.0)
      (prefix_characters ds characters.1 both.1)

  prefix_passes : (said : SaidBeside) → IsSaidAfter lines c said
      → is_prefix canonical digit (reverse said.characters) ≡ true
  prefix_passes said after = at said.characters refl
    where
      at : (cs : List ℕ) → said.characters ≡ cs → is_prefix canonical digit (reverse cs) ≡ true
      at [] e = refl
      at (b ∷ bs) e =
          let recorded : recorded_in lines (b ∷ bs) (c ∷ []) ≡ Some said.elements =
          ap (λ (cs : List ℕ). recorded_in lines cs (c ∷ [])) (sym e) ∙ after in
          let characters = recorded_characters lines accepted (b ∷ bs) (c ∷ []) said.elements recorded in
          let short = characters.short in
          let count = length-reverse (b ∷ bs) in
          and_from (leb (length (reverse (b ∷ bs))) longest_prefix) _
          (le-leb (length (reverse (b ∷ bs))) 3 (omega (arith, short, count)))
          (list_all-reverse (is_prefix_character canonical digit) (b ∷ bs)
          ∙ prefix_characters (b ∷ bs) characters.before
          (recorded_prefix lines accepted b bs (c ∷ []) said.elements recorded))

  prefixes_pass : IsTrue (has_tag Prefix entry.word)
      → KeysPass (is_prefix canonical digit) (units_named entry entry.word)
  prefixes_pass tag =
      keys_pass (units_named entry entry.word) (texts_backward saying.prefixes) (says.before.keys tag)
      (is_prefix canonical digit)
      (λ text within.
      let found = mapped_from (λ said. reverse said.characters) saying.prefixes text within in
      subst (λ (cs : List ℕ). is_prefix canonical digit cs ≡ true) found.2
      (prefix_passes found.0 (All-contains (IsSaidAfter lines c) saying.prefixes found.0 is.after found.1)))

  has_prefix : (said : SaidBeside) → IsSaidAfter lines c said → (said.characters ≡ [] → ⊥)
      → may_have_prefix of_lines (digit_of lines) (is_recorded_in (weights_of lines)) c ≡ true
  has_prefix said after some = at said.characters refl
    where
      at : (cs : List ℕ) → said.characters ≡ cs
          → may_have_prefix of_lines (digit_of lines) (is_recorded_in (weights_of lines)) c ≡ true
      at [] e = absurd (some e)
      at (b ∷ bs) e =
          recorded_after lines accepted b bs c said.elements
          (ap (λ (cs : List ℕ). recorded_in lines cs (c ∷ [])) (sym e) ∙ after)

  prefixed_passes : IsTrue (has_tag Prefix entry.word)
      → IsTrue (may_have_prefix canonical digit (is_recorded_by entry) c)
  prefixed_passes tag =
      let first = and_parts (is_starter of_lines c) _ told in
      let second = and_parts (not (is_some (digit_of lines c))) _ first.1 in
      let third = and_parts (not (is_jamo c)) _ second.1 in
      and_from (is_starter canonical c) _ (starter_same canonical of_lines same c s ∙ first.0)
      (and_from (not (is_some (digit c))) _ (ap (λ (o : Option ℕ). not (is_some o)) (same_digit c s) ∙ second.0)
      (and_from (not (is_jamo c)) _ third.0 (recorded_alike [] refl ∙ third.1)))
    where
      filled : Contains (texts_backward saying.prefixes) [] → ⊥
      filled = texts_filled (units_named entry entry.word) (texts_backward saying.prefixes) (says.before.keys tag)

      at : (saids : List SaidBeside) → saying.prefixes ≡ saids
          → may_have_prefix of_lines (digit_of lines) (is_recorded_in (weights_of lines)) c ≡ true
      at [] none = absurd (says.before.some tag (ap texts_backward none))
      at (said ∷ saids) some =
          has_prefix said
          (All-contains (IsSaidAfter lines c) saying.prefixes said is.after
          (subst (λ (xs : List SaidBeside). Contains xs said) (sym some) (first_in said saids)))
          (λ empty.
          filled
          (subst (λ (xs : List SaidBeside). Contains (texts_backward xs) []) (sym some)
          (subst (λ (cs : List ℕ). Contains (reverse cs ∷ texts_backward saids) []) (sym empty)
          (first_in [] (texts_backward saids)))))

      told : may_have_prefix of_lines (digit_of lines) (is_recorded_in (weights_of lines)) c ≡ true
      told = at saying.prefixes refl

  -- ---- Suffixes

  shorter_alike : (text : List ℕ) → scalars text ≡ true
      → is_recorded_shorter canonical (is_recorded_by entry) c text ≡ is_recorded_shorter of_lines (is_recorded_in (weights_of lines)) c text
  shorter_alike text t =
      ap (λ (b : Bool). leb (length text) 1 || (not b || is_recorded_by entry [] (c ∷ take (length text - 1) text)))
      (ends_same canonical of_lines same text t)
      ∙ ap (λ (b : Bool). leb (length text) 1 || (not (ends_in_mark of_lines text) || b))
      (recorded_alike (take (length text - 1) text) (scalars_front (length text - 1) text t))

  suffix_passes : (text : List ℕ) (es : List Element) → recorded_in lines [] (c ∷ text) ≡ Some es
      → is_suffix canonical (is_recorded_by entry) c text ≡ true
  suffix_passes text es recorded =
      let whole = (recorded_characters lines accepted [] (c ∷ text) es recorded).whole in
      let t = (and_parts (scalar c) (scalars text) whole).1 in
      let short = recorded_short lines accepted [] (c ∷ text) es recorded in
      and_from (leb (length text) longest_suffix) _ (le-leb (length text) 7 (omega (arith, short)))
      (and_from (has_marks_last canonical (c ∷ text)) _
      (marks_last_same canonical of_lines same (c ∷ text) whole
      ∙ recorded_marks_last lines accepted [] (c ∷ text) es recorded)
      (shorter_alike text t ∙ recorded_shorter lines accepted [] c text es recorded))

  -- what stands after the character is recorded with it
  behind_recorded : (text : List ℕ) → Contains (texts_beside saying.suffixes) text
      → (es : List Element) × (recorded_in lines [] (c ∷ text) ≡ Some es)
  behind_recorded text within =
      let found = mapped_from (λ said. said.characters) saying.suffixes text within in (
        found.0.elements,
        ap (λ (cs : List ℕ). recorded_in lines [] (c ∷ cs)) (sym found.2)
            ∙ All-contains (IsSaidBehind lines c) saying.suffixes found.0 is.behind found.1,
      )

  behind_scalars : (text : List ℕ) → Contains (texts_beside saying.suffixes) text → scalars text ≡ true
  behind_scalars text within =
      let recorded = behind_recorded text within in
      (and_parts (scalar c) (scalars text)
      (recorded_characters lines accepted [] (c ∷ text) recorded.0 recorded.1).whole).1

  suffixes_pass : IsTrue (has_tag Contraction unprefixed)
      → KeysPass (is_suffix canonical (is_recorded_by entry) c) (units_named entry unprefixed)
  suffixes_pass tag =
      keys_pass (units_named entry unprefixed) (texts_beside saying.suffixes) (says.behind.keys tag)
      (is_suffix canonical (is_recorded_by entry) c)
      (λ text within. let recorded = behind_recorded text within in suffix_passes text recorded.0 recorded.1)

  flags_true : IsTrue (has_tag Contraction unprefixed)
      → AreFlagsTrue canonical unprefixed (units_named entry unprefixed)
  flags_true tag =
      let keys = says.behind.keys tag in
      let flags = says.flags tag in
      record {
        all_begin =
            all_told (units_named entry unprefixed) (texts_beside saying.suffixes) keys (begins_with_mark canonical)
            (begins_with_mark of_lines)
            (λ text within. begins_same canonical of_lines same text (behind_scalars text within))
            (has_flag 9 unprefixed) (flags.all_begin ∙ is.all_begin);
        one_ends =
            some_told (units_named entry unprefixed) (texts_beside saying.suffixes) keys (ends_in_mark canonical)
            (ends_in_mark of_lines)
            (λ text within. ends_same canonical of_lines same text (behind_scalars text within))
            (has_flag 10 unprefixed) (flags.one_ends ∙ is.one_ends);
        one_holds =
            some_told (units_named entry unprefixed) (texts_beside saying.suffixes) keys (holds_starter canonical)
            (holds_starter of_lines)
            (λ text within. holds_same canonical of_lines same text (behind_scalars text within))
            (has_flag 11 unprefixed) (flags.one_holds ∙ is.one_holds);
      }

  pub keeps_rules : KeepsContextRules canonical digit entry c
  keeps_rules = record { digits = digit_passes; prefixed = prefixed_passes; prefixes = prefixes_pass; suffixes = suffixes_pass; flags = flags_true }

-- what is said of a character by its range alone has no contexts
pub ranged_keeps_rules : (canonical : Canonical) (digit : ℕ → Option ℕ) (entry : TableWord) (c bits : ℕ)
    → SaysOf entry.pools entry.word (ranged_saying bits) → KeepsContextRules canonical digit entry c
ranged_keeps_rules canonical digit entry c bits says = record {
  digits = λ tag. absurd (undigital tag);
  prefixed = λ tag. absurd (says.before.some tag refl);
  prefixes = λ tag. absurd (says.before.some tag refl);
  suffixes = λ tag. absurd (says.behind.some tag refl);
  flags = λ tag. absurd (says.behind.some tag refl);
}
  where
    undigital : has_tag Digit entry.word ≡ true → ⊥
    undigital tag =
        none-some (digit_value entry.word)
        (sym says.digit ∙ ap (λ (b : Bool). cond b (Some (digit_value entry.word)) None) tag)
