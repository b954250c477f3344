-- Data and settings that say the same give a text the same levels and the same key.
use Rattle.std.proofs.Common.{◌≡◌, ℕ, ◌*◌, ◌/◌, ◌^◌, Bool, true, false, cond, List, [], ◌∷◌, ◌++◌, refl, ◌∙◌, ap, Option, Some, None}
use Rattle.std.proofs.lemmas.List.Elements.{All-from_recursion, recursion_from_All}
use Rattle.std.specs.Prelude.{◌&&◌, ltb, get_or, filter_map}
use Rattle.std.specs.Char.{IsScalar}
use Rattle.std.specs.List.{All}
use Rattle.icu_normalizer_core.specs.Canonical.{IsDecomposing, decomposed}
use Rattle.icu_collator_types.specs.declared.elements.Element.{Element}
use Rattle.icu_collator_types.specs.declared.options.ResolvedCollatorOptions.{ResolvedCollatorOptions}
use Rattle.icu_collator_types.specs.Options.{is_numeric, is_shifted, group_index}
use Rattle.icu_collator_core.specs.Collation.{Collation}
use Rattle.icu_collator_core.specs.Elements.{elements_of_list}
use Rattle.icu_normalizer_core.specs.Sameness.{AreSameCanonical}
use Rattle.icu_collator_core.specs.Sameness.{AreSameLeads, AreSameOf, AreSameWeights}
use Rattle.icu_normalizer_core.proofs.decomposed_lists.DecomposedLemmas.{decomposed_scalars}
use Rattle.icu_normalizer_core.proofs.decomposed_lists.DecomposedLemmas.{decomposed_same}
use Rattle.icu_collator_core.proofs.readings.ReachedLemmas.{reached_decomposed, reached_elements}
use Rattle.icu_collator_core.proofs.readings.SamenessLemmas.{elements_same}
use Rattle.icu_collator.specs.KeyBytes.{codes_from, primary_code, primary_run, primary_level, was_compressible, key_bytes, key_of_text}
use Rattle.icu_collator.specs.Levels.{Levels, SecondaryPlace, QuaternaryPlace, shifted, unless_zero, primary_at, secondaries_of, case_at, tertiary_at, quaternary_at, backward_from, secondary_at, levels_of, elements_of_text, levels_of_text}
use Rattle.icu_collator.specs.Order.{collation_order, levels_order}
use Rattle.icu_collator_core.specs.SameSettings.{AreSameSettings}
use Rattle.icu_collator.specs.Shifted.{Counted, whole, variable, is_variable, counted_behind, counted}
use Rattle.icu_collator.proofs.keys.CompressedLemmas.{was_same}

-- what functions that agree pick of a list
picked_same : {X Y : Type 0} (f g : X → Option Y) (xs : List X) → ((x : X) → f x ≡ g x) → filter_map f xs ≡ filter_map g xs
picked_same f g [] same = refl
picked_same f g (x ∷ xs) same = cc (same x, picked_same f g xs same)

-- codes in states that agree
codes_same : {S W : Type 0} (code : S → W → List ℕ) (next other : S → W → S) (s : S) (ws : List W) → ((s : S) (w : W) → next s w ≡ other s w)
    → codes_from code next s ws ≡ codes_from code other s ws
unfolding codes_from
codes_same code next other s [] same = refl
codes_same code next other s (w ∷ ws) same =
    ap (λ t. code s w ++ codes_from code next t ws) (same s w) ∙ ap (λ bytes. code s w ++ bytes) (codes_same code next other (other s w) ws same)

module _ (a b : Collation) (options : ResolvedCollatorOptions) (settings : AreSameSettings a b) where
  variable_same : (e : Element) → is_variable a options e ≡ is_variable b options e
  variable_same e =
      ap (λ groups. is_shifted options.alternate_handling && ltb 0x02000000 e.primary && ltb e.primary (get_or groups (group_index options.max_variable) 0 * 2 ^ 16)) settings.groups

  counted_same : (is_behind : Bool) (es : List Element) → counted_behind a options is_behind es ≡ counted_behind b options is_behind es
  unfolding counted_behind
  counted_same is_behind [] = refl
  counted_same is_behind (e ∷ es) = cc (variable_same e, counted_same true es, counted_same false es)

  primary_same : (e : Counted) → primary_at a e ≡ primary_at b e
  primary_same (whole e) = ap (unless_zero e.primary) (settings.reordered e.primary)
  primary_same (variable p) = refl

  quaternary_same : (e : Counted) → quaternary_at a e ≡ quaternary_at b e
  quaternary_same (whole e) = refl
  quaternary_same (variable p) = ap (λ q. Some (shifted q)) (settings.reordered p)

  pub elements_levels_same : (es : List Element) (list : List ℕ) → levels_of a options es list ≡ levels_of b options es list
  unfolding levels_of
  elements_levels_same es list =
      let made : Collation → List Counted → List ℕ → List SecondaryPlace → List QuaternaryPlace → Levels =
      λ c cs primaries secondaries quaternaries.
      record {
        primaries = primaries;
        secondaries = secondaries;
        cases = filter_map (case_at options) cs;
        tertiaries = filter_map (tertiary_at options) cs;
        quaternaries = quaternaries;
        characters = list;
      }
      in let cs = counted b options es
      in ap (λ cs. made a cs (filter_map (primary_at a) cs) (secondaries_of a cs) (filter_map (quaternary_at a) cs)) (counted_same false es)
      ∙ ap (λ ps. made a cs ps (secondaries_of a cs) (filter_map (quaternary_at a) cs)) (picked_same (primary_at a) (primary_at b) cs primary_same)
      ∙ ap (λ is. made a cs (filter_map (primary_at b) cs) (cond is (backward_from [] cs) (filter_map secondary_at cs)) (filter_map (quaternary_at a) cs)) settings.backward
      ∙ ap (λ qs. made a cs (filter_map (primary_at b) cs) (secondaries_of b cs) qs) (picked_same (quaternary_at a) (quaternary_at b) cs quaternary_same)

-- codes of keys are of levels, of what is compressible, and of what is moved where
level_same : (a b : Collation) (primaries : List ℕ) → AreSameLeads a.weights b.weights → ((p : ℕ) → a.reordered p ≡ b.reordered p)
    → primary_level a primaries ≡ primary_level b primaries
level_same a b primaries leads moved =
    codes_same primary_code (primary_run (was_compressible a)) (primary_run (was_compressible b)) None primaries
    (λ run p. ap (λ (is : Bool). cond is (Some (p / 2 ^ 24)) None) (was_same a b p leads moved))

pub bytes_same : (a b : Collation) (options : ResolvedCollatorOptions) (levels : Levels) → AreSameLeads a.weights b.weights
    → ((p : ℕ) → a.reordered p ≡ b.reordered p) → key_bytes a options levels ≡ key_bytes b options levels
unfolding key_bytes
bytes_same a b options levels leads moved = rw (level_same a b levels.primaries leads moved) refl

-- ---- data that say the same of all scalar values

module _ (a b : Collation) (options : ResolvedCollatorOptions) (settings : AreSameSettings a b) (characters : AreSameCanonical a.canonical b.canonical) (weights : AreSameWeights a.weights b.weights) where
  pub levels_same : (text : List ℕ) → IsDecomposing b.canonical → All IsScalar text → levels_of_text a options text ≡ levels_of_text b options text
  levels_same text d h =
      let list = decomposed b.canonical text
      in let one : decomposed a.canonical text ≡ list = decomposed_same a.canonical b.canonical text characters d h
      in let scalars = All-from_recursion IsScalar list (decomposed_scalars b.canonical text d (recursion_from_All IsScalar text h))
      in ap (λ ds. levels_of a options (elements_of_list a.canonical a.weights (is_numeric options.numeric) ds) ds) one
      ∙ ap (λ es. levels_of a options es list) (elements_same a.canonical b.canonical a.weights b.weights (is_numeric options.numeric) characters weights list scalars)
      ∙ elements_levels_same a b options settings (elements_of_text b options text) list

  pub keys_same : (text : List ℕ) → IsDecomposing b.canonical → All IsScalar text → key_of_text a options text ≡ key_of_text b options text
  keys_same text d h = ap (key_bytes a options) (levels_same text d h) ∙ bytes_same a b options (levels_of_text b options text) weights.is_compressible settings.reordered

  pub order_same : (x y : List ℕ) → IsDecomposing b.canonical → All IsScalar x → All IsScalar y → collation_order a options x y ≡ collation_order b options x y
  order_same x y d h g = ap (λ l. levels_order options l (levels_of_text a options y)) (levels_same x d h) ∙ ap (levels_order options (levels_of_text b options x)) (levels_same y d g)

-- ---- data that say the same of the characters that a text reaches

module _ (a b : Collation) (options : ResolvedCollatorOptions) (decomposing : IsDecomposing a.canonical) (other : IsDecomposing b.canonical) (settings : AreSameSettings a b) where
  pub reached_levels : (text : List ℕ) → AreSameOf a b text → All IsScalar text → levels_of_text a options text ≡ levels_of_text b options text
  reached_levels text same h =
      let numeric = is_numeric options.numeric
      in let es = elements_of_text b options text
      in ap (λ ds. levels_of a options (elements_of_text a options text) ds) (reached_decomposed a.canonical b.canonical text decomposing other same.mappings h)
      ∙ ap (λ es. levels_of a options es (decomposed b.canonical text)) (reached_elements a.canonical b.canonical text decomposing other same.mappings h a.weights b.weights numeric same.readings)
      ∙ elements_levels_same a b options settings es (decomposed b.canonical text)

  pub reached_keys : (text : List ℕ) → AreSameOf a b text → AreSameLeads a.weights b.weights → All IsScalar text
      → key_of_text a options text ≡ key_of_text b options text
  reached_keys text same leads h =
      ap (key_bytes a options) (reached_levels text same h) ∙ bytes_same a b options (levels_of_text b options text) leads settings.reordered

  pub reached_order : (x y : List ℕ) → AreSameOf a b x → AreSameOf a b y → All IsScalar x → All IsScalar y
      → collation_order a options x y ≡ collation_order b options x y
  reached_order x y same other_same h g =
      ap (λ l. levels_order options l (levels_of_text a options y)) (reached_levels x same h)
      ∙ ap (levels_order options (levels_of_text b options x)) (reached_levels y other_same g)
