-- A key written level by level is the key of the levels.
use Rattle.std.proofs.Common.{◌≡◌, ℕ, Bool, true, false, List, [], ◌∷◌, ◌++◌, refl, sym, ◌∙◌, ap, append_assoc}
use Rattle.std.specs.Prelude.{filter_map}
use Rattle.icu_collator_types.specs.Options.{has_case_bits, has_case_level, is_at_least}
use Rattle.icu_collator_types.specs.declared.elements.Element.{Element}
use Rattle.icu_collator_types.specs.declared.options.ResolvedCollatorOptions.{ResolvedCollatorOptions}
use Rattle.icu_collator_types.specs.declared.options.Strength.TheVariants.{Secondary, Tertiary, Quaternary, Identical}
use Rattle.icu_collator_core.specs.Collation.{Collation}
use Rattle.icu_collator.specs.KeyBytes.{case_halves, character_level, key_bytes, level_bytes, paired_halves, primary_level, quaternary_level, secondary_code, tertiary_code_of, with_runs}
use Rattle.icu_collator.specs.KeyCodes.{code_of}
use Rattle.icu_collator.specs.declared.key_bytes.run_level.RunLevel.TheVariants.{Tertiaries}
use Rattle.icu_collator.specs.Levels.{case_at, levels_of, primary_at, quaternary_at, secondaries_of, tertiary_at}
use Rattle.icu_collator.specs.Shifted.{Counted, counted}

-- one more piece after pieces
behind : (start xs ys between after : List ℕ) → between ≡ start ++ xs → after ≡ between ++ ys → after ≡ start ++ (xs ++ ys)
behind start xs ys between after written written_too = written_too ∙ ap (λ l. l ++ ys) written ∙ append_assoc start xs ys

pub six_pieces :
    (start p s k t q i one two three four five six : List ℕ) → one ≡ start ++ p → two ≡ one ++ s → three ≡ two ++ k → four ≡ three ++ t → five ≡ four ++ q
    → six ≡ five ++ i → six ≡ start ++ (p ++ s ++ k ++ t ++ q ++ i)
six_pieces start p s k t q i one two three four five six first second third fourth fifth sixth =
    behind start (p ++ s ++ k ++ t ++ q) i five six
    (behind start (p ++ s ++ k ++ t) q four five (behind start (p ++ s ++ k) t three four (behind start (p ++ s) k two three (behind start p s one two first second) third) fourth) fifth)
    sixth

-- the key of elements that count
abbrev pub counted_key : Collation → ResolvedCollatorOptions → List Counted → List ℕ → List ℕ
counted_key collation options es list =
    primary_level collation (filter_map (primary_at collation) es)
    ++ level_bytes (is_at_least options.strength Secondary) (with_runs secondary_code (secondaries_of collation es) ++ 0x01 ∷ [])
    ++ level_bytes (has_case_level options.case_level) (paired_halves (case_halves options (filter_map (case_at options) es)))
    ++ level_bytes (is_at_least options.strength Tertiary) (with_runs (tertiary_code_of options) (filter_map (tertiary_at options) es) ++ 0x01 ∷ [])
    ++ level_bytes (is_at_least options.strength Quaternary) (quaternary_level options (filter_map (quaternary_at collation) es) ++ 0x01 ∷ [])
    ++ level_bytes (is_at_least options.strength Identical) (character_level list)

pub key_counted :
    (collation : Collation) (options : ResolvedCollatorOptions) (es : List Element) (items : List Counted) (list : List ℕ) → items ≡ counted collation options es
    → counted_key collation options items list ≡ key_bytes collation options (levels_of collation options es list)
unfolding key_bytes levels_of
key_counted collation options es items list are = ap (λ l. counted_key collation options l list) are

-- the characters count only where the identical level is in force
last_level : (is_in_force : Bool) (xs ys : List ℕ) → (is_in_force ≡ true → xs ≡ ys) → level_bytes is_in_force (character_level xs) ≡ level_bytes is_in_force (character_level ys)
last_level true xs ys same = ap (λ l. 0x01 ∷ character_level l) (same refl)
last_level false xs ys same = refl

pub same_characters :
    (collation : Collation) (options : ResolvedCollatorOptions) (es : List Element) (xs ys : List ℕ) → (is_at_least options.strength Identical ≡ true → xs ≡ ys)
    → key_bytes collation options (levels_of collation options es xs) ≡ key_bytes collation options (levels_of collation options es ys)
same_characters collation options es xs ys same =
    let items = counted collation options es in
    sym (key_counted collation options es items xs refl)
    ∙ ap (λ l. primary_level collation (filter_map (primary_at collation) items)
    ++ level_bytes (is_at_least options.strength Secondary) (with_runs secondary_code (secondaries_of collation items) ++ 0x01 ∷ [])
    ++ level_bytes (has_case_level options.case_level) (paired_halves (case_halves options (filter_map (case_at options) items)))
    ++ level_bytes (is_at_least options.strength Tertiary) (with_runs (tertiary_code_of options) (filter_map (tertiary_at options) items) ++ 0x01 ∷ [])
    ++ level_bytes (is_at_least options.strength Quaternary) (quaternary_level options (filter_map (quaternary_at collation) items) ++ 0x01 ∷ [])
    ++ l) (last_level (is_at_least options.strength Identical) xs ys same)
    ∙ key_counted collation options es items ys refl

-- tertiaries without case bits
pub plain_code : (options : ResolvedCollatorOptions) → has_case_bits options ≡ false → code_of Tertiaries ≡ tertiary_code_of options
unfolding code_of
plain_code options none = rw none refl
