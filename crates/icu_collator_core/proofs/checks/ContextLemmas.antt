-- The rules on contexts: words that record something, and the rules one after another.
use Rattle.std.proofs.Common.{◌≡◌, ◌↔◌, ℕ, ◌<◌, Bool, true, false, cond, not, ◌&&◌, ◌||◌, List, [], ◌∷◌, length, Option, Some, None, refl, sym, ◌∙◌, arith}
use Rattle.std.specs.Bool.{IsTrue}
use Rattle.std.specs.Prelude.{is_some, option_and_then}
use Rattle.std.proofs.lemmas.Bool.{false≢true}
use Rattle.icu_normalizer_core.specs.Canonical.{Canonical}
use Rattle.icu_collator_types.specs.declared.elements.Element.{Element}
use Rattle.icu_collator_types.specs.declared.elements.word_tags.Tag.TheVariants.{Digit}
use Rattle.icu_collator_types.specs.ElementWords.{has_tag}
use Rattle.icu_collator_core.specs.ContextFaults.{KeepsPrefixRules, KeepsSuffixRules, are_others, is_short, keeps_digit_rule}
use Rattle.icu_collator_core.specs.ContextRules.{KeepsContextRules, KeysPass, has_marks_last, is_recorded_by, is_recorded_shorter, is_suffix, may_be_digit}
use Rattle.icu_collator_core.specs.Pools.{elements_of_word, lone_word, suffix_word, unprefixed_word}
use Rattle.icu_collator_core.specs.TableMeaning.{TableWord, is_primary_alone, own_primary, recorded_by, unless_own}
use Rattle.icu_collator_core.proofs.checks.CheckedTestLemmas.{no_is}
use Rattle.icu_collator_core.proofs.checks.WalkLemmas.{parts_pass}

-- ---- Words that record something

unless : (b : Bool) (es : List Element) → is_some (cond b None (Some es)) ≡ not b
unless true es = refl
unless false es = refl

other : (c : ℕ) (o : Option (List Element)) → is_some (option_and_then (unless_own c) o) ≡ are_others c o
other c None = refl
other c (Some es) = unless (is_primary_alone (own_primary c) es) es

pub alone_recorded : (entry : TableWord) (c : ℕ)
    → are_others c (elements_of_word entry.pools (lone_word entry.pools entry.word)) ≡ is_some (recorded_by entry c [] [])
unfolding recorded_by
alone_recorded entry c = sym (other c (elements_of_word entry.pools (lone_word entry.pools entry.word)))

-- the record of a text with others after it, by the word that its context has
pub behind_recorded : (entry : TableWord) (c : ℕ) (ds : List ℕ) → 0 < length ds
    → recorded_by entry c [] ds ≡ option_and_then (elements_of_word entry.pools) (suffix_word entry.pools entry.word ds)
unfolding recorded_by
behind_recorded entry c [] some = absurd (omega (arith, some))
behind_recorded entry c (d ∷ ds) some = refl

-- ---- The rules one after another

asked : (a b : Bool) → (not a || b) ≡ true → IsTrue a → IsTrue b
asked true b e t = e
asked false b e t = absurd (false≢true t)

asks : (a b : Bool) → (IsTrue a → IsTrue b) → (not a || b) ≡ true
asks true b f = f refl
asks false b f = refl

module _ (canonical : Canonical) (digit : ℕ → Option ℕ) (entry : TableWord) (c : ℕ) where
  abbrev AllRules : Type 0
  AllRules =
      (keeps_digit_rule canonical entry c ≡ true) × KeepsPrefixRules canonical digit entry c
      × KeepsSuffixRules canonical entry c (unprefixed_word entry.pools entry.word)

  rules_kept : AllRules ↔ KeepsContextRules canonical digit entry c
  rules_kept = (
    λ rules. record {
      digits = asked (has_tag Digit entry.word) (may_be_digit canonical (is_recorded_by entry) c) rules.0;
      prefixed = λ t. (rules.1 t).0;
      prefixes = λ t. (rules.1 t).1;
      suffixes = λ t. (rules.2 t).0;
      flags = λ t. (rules.2 t).1;
    },
    λ kept. (
      asks (has_tag Digit entry.word) (may_be_digit canonical (is_recorded_by entry) c) kept.digits,
      λ t. (kept.prefixed t, kept.prefixes t),
      λ t. (kept.suffixes t, kept.flags t),
    ),
  )

  pub digits_refused : keeps_digit_rule canonical entry c ≡ false → KeepsContextRules canonical digit entry c → ⊥
  digits_refused refused kept = false≢true (sym refused ∙ (rules_kept.1 kept).0)

  pub prefixes_refused : (KeepsPrefixRules canonical digit entry c → ⊥) → KeepsContextRules canonical digit entry c → ⊥
  prefixes_refused refused kept = refused (rules_kept.1 kept).1

  pub suffixes_told : (answer : Bool) → keeps_digit_rule canonical entry c ≡ true → KeepsPrefixRules canonical digit entry c
      → (IsTrue answer ↔ KeepsSuffixRules canonical entry c (unprefixed_word entry.pools entry.word))
      → IsTrue answer ↔ KeepsContextRules canonical digit entry c
  suffixes_told answer digits prefixes told =
      (λ t. rules_kept.0 (digits, prefixes, told.0 t), λ kept. told.1 (rules_kept.1 kept).2)

-- ---- The rules on suffixes one after another

module _ (canonical : Canonical) (is_recorded : List ℕ → List ℕ → Bool) (c : ℕ) (units : List ℕ) where
  abbrev Last : List ℕ → Bool
  Last cs = has_marks_last canonical (c ∷ cs)

  abbrev Shorter : List ℕ → Bool
  Shorter = is_recorded_shorter canonical is_recorded c

  pub long_refused : (short : Bool) → short ≡ false → (IsTrue short ↔ KeysPass is_short units) → KeysPass (is_suffix canonical is_recorded c) units → ⊥
  long_refused short e told pass = no_is short e told ((parts_pass units is_short (λ cs. Last cs && Shorter cs)).0 pass).0

  pub mixed_refused : (last : Bool) → last ≡ false → (IsTrue last ↔ KeysPass Last units) → KeysPass (is_suffix canonical is_recorded c) units → ⊥
  mixed_refused last e told pass =
      no_is last e told ((parts_pass units Last Shorter).0 ((parts_pass units is_short (λ cs. Last cs && Shorter cs)).0 pass).1).0

  pub suffixes_by_parts : (short last recorded : Bool) → short ≡ true → last ≡ true → (IsTrue short ↔ KeysPass is_short units)
      → (IsTrue last ↔ KeysPass Last units) → (IsTrue recorded ↔ KeysPass Shorter units)
      → IsTrue recorded ↔ KeysPass (is_suffix canonical is_recorded c) units
  suffixes_by_parts short last recorded is_few are_last few told_last told = (
    λ t. (parts_pass units is_short (λ cs. Last cs && Shorter cs)).1
        (few.0 is_few, (parts_pass units Last Shorter).1 (told_last.0 are_last, told.0 t)),
    λ pass. told.1 ((parts_pass units Last Shorter).0 ((parts_pass units is_short (λ cs. Last cs && Shorter cs)).0 pass).1).1,
  )
