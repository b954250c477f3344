-- The table of letters meets what canonical data promise.
use Rattle.std.proofs.Common.{◌≡◌, ℕ, zero, suc, cond, ap, ◌+◌, ◌-◌, ◌%◌, ◌/◌, ◌<◌, ◌≤◌, true, false, List, [], ◌∷◌, ◌++◌, length, refl, sym, subst, ◌∙◌, ◌==◌, ◌||◌, ◌⊎◌, inl, inr, arith, Option, Some, None}
use Rattle.std.specs.Option.{unwrap_or, is_some}
use Rattle.std.proofs.lemmas.Bool.{cases_Bool, cond_both, eqb-true, eqb-false, false≢true}
use Rattle.std.proofs.lemmas.List.{append-nil, length-append}
use Rattle.std.proofs.lemmas.List.Elements.{All-from_recursion, All-contains}
use Rattle.std.specs.List.{AllByRecursion}
use Rattle.std.proofs.Math.Utf8.{low_scalar}
use Rattle.std.specs.Prelude.{◌≢◌, All, IfSome, Contains, flat_map}
use Rattle.std.proofs.lemmas.Bool.Decides.{nat_tests}
use Rattle.std.specs.Char.{IsScalar}
use Rattle.icu_normalizer_core.specs.BuiltIn.{built_in_step, built_in_compatibility_step, built_in_class, is_syllable, is_jamo, syllable_step, singled_out}
use Rattle.icu_normalizer_core.specs.Canonical.{IsDecomposing, IsFree, Leaves, nothing, unmapped, mapped}
use Rattle.icu_normalizer_core.proofs.decomposed_lists.DecomposedLemmas.{left_append}
use Rattle.examples_icu_collator.specs.Tables.{Mapping, class_of, step_of, expanded, first_found}
use Rattle.examples_icu_collator.specs.LetterTables.{letters_table}
use Rattle.examples_icu_collator.specs.Letters.{letters}
use Rattle.examples_icu_collator.proofs.ExampleFoundLemmas.{by_character}

-- what the table of letters says of characters
abbrev pub letters_class : ℕ → ℕ
letters_class = letters.class

abbrev pub letters_step : ℕ → List ℕ
letters_step = letters.step

abbrev pub letters_full : ℕ → List ℕ
letters_full = letters.full

-- what its lines say, apart from what is built in
abbrev own_class : ℕ → ℕ
own_class c = unwrap_or (first_found (λ line. cond (line.character == c) (Some line.class) None) letters_table.classes) 0

abbrev own_step : ℕ → List ℕ
own_step c = unwrap_or (first_found (λ line. cond (line.character == c) (Some line.mapping) None) letters_table.mappings) []

-- what is true of each line of a mapping, and of no mapping, is true of what they say
by_line : (P : ℕ → List ℕ → Type 0) (c : ℕ) → AllByRecursion (λ line. P line.character line.mapping) letters_table.mappings → P c [] → P c (own_step c)
by_line P c h none =
    by_character {A = Mapping} {B = List ℕ} (λ line. line.character) (λ line. line.mapping) (λ x o. P x (unwrap_or o [])) letters_table.mappings c h none

either_step : (o p : Option (List ℕ)) (given : List ℕ) → (is_some p ≡ true → given ≡ [])
    → cond (is_some o || is_some p) (unwrap_or o []) given ≡ unwrap_or o given
either_step (Some ds) p given h = refl
either_step None (Some es) given h = sym (h refl)
either_step None None given h = refl

-- what is built in counts before what the lines say
step_is : (c : ℕ) → letters_step c ≡ unwrap_or (built_in_step c) (own_step c)
unfolding step_of built_in_compatibility_step
step_is c =
    either_step (built_in_step c) (built_in_compatibility_step c) (own_step c)
    (by_line (λ x ds. is_some (built_in_compatibility_step x) ≡ true → ds ≡ []) c
    ((λ t. absurd (false≢true t)), ((λ t. absurd (false≢true t)), tt)) (λ t. refl))

pub letters_classes : (c : ℕ) → letters_class c < 255
unfolding class_of built_in_class
letters_classes c = grind (arith, nat_tests)

short_step : (c : ℕ) → length (unwrap_or (built_in_step c) (own_step c)) ≤ 2
unfolding built_in_step syllable_step singled_out
short_step c = grind (arith, nat_tests)

letters_short : (c : ℕ) → length (letters_step c) ≤ 2
letters_short c = subst (λ (ds : List ℕ). length ds ≤ 2) (sym (step_is c)) (short_step c)

-- no character of a list is mapped
abbrev AreLast : List ℕ → Type 0
AreLast [] = Unit {0}
AreLast (c ∷ cs) = (letters_step c ≡ []) × AreLast cs

-- such a list is left as it is
last_left : (cs : List ℕ) → AreLast cs → Leaves letters_step cs cs
last_left [] h = nothing
last_left (c ∷ cs) h = unmapped c cs cs h.0 (last_left cs h.1)

pub jamo_last : (c : ℕ) → 0x1100 ≤ c → c ≤ 0x11ff → letters_step c ≡ []
unfolding step_of built_in_step
jamo_last c low high = grind (arith, nat_tests)

abbrev IsLastMapping : Option (List ℕ) → Type 0
IsLastMapping (Some ds) = AreLast ds
IsLastMapping None = Unit {0}

-- what the seven are mapped to isn't mapped
singled_last : (c : ℕ) → IsLastMapping (singled_out c)
unfolding step_of built_in_step built_in_compatibility_step singled_out
singled_last c =
    cond_both (c == 0x340) _ _ IsLastMapping (λ _. (refl, tt)) (λ _.
    cond_both (c == 0x341) _ _ IsLastMapping (λ _. (refl, tt)) (λ _.
    cond_both (c == 0x343) _ _ IsLastMapping (λ _. (refl, tt)) (λ _.
    cond_both (c == 0x344) _ _ IsLastMapping (λ _. (refl, (refl, tt))) (λ _.
    cond_both (c == 0xf73) _ _ IsLastMapping (λ _. (refl, (refl, tt))) (λ _.
    cond_both (c == 0xf75) _ _ IsLastMapping (λ _. (refl, (refl, tt))) (λ _.
    cond_both (c == 0xf81) _ _ IsLastMapping (λ _. (refl, (refl, tt))) (λ _. tt)))))))

own_last : (c : ℕ) → AreLast (own_step c)
unfolding step_of built_in_step built_in_compatibility_step singled_out
own_last c = by_line (λ x ds. AreLast ds) c ((refl, (refl, tt)), ((refl, (refl, tt)), tt)) tt

mapping_last : (o : Option (List ℕ)) (ds : List ℕ) → IsLastMapping o → AreLast ds → AreLast (unwrap_or o ds)
mapping_last (Some es) ds h g = h
mapping_last None ds h g = g

-- what a character is mapped to that isn't a syllable isn't mapped
other_last : (c : ℕ) → is_syllable c ≡ false → AreLast (letters_step c)
unfolding built_in_step
other_last c e =
    subst AreLast (sym (step_is c)) (mapping_last (built_in_step c) _
    (cond_both (is_syllable c) _ _ IsLastMapping (λ t. absurd (false≢true (sym e ∙ t)))
    (λ _. cond_both (is_jamo c || (c == 0xfffd)) _ _ IsLastMapping (λ _. tt) (λ _. singled_last c)))
    (own_last c))

-- a character whose mapping isn't mapped
mapped_once : (c : ℕ) (ds : List ℕ) → letters_step c ≡ ds → AreLast ds → Leaves letters_step (c ∷ []) (elim ds [ [] ↦ c ∷ [] | e ∷ es ↦ e ∷ es ])
mapped_once c [] e h = unmapped c [] [] e nothing
mapped_once c (d ∷ ds) e h =
    mapped c d ds [] (d ∷ ds) e (subst (λ (w : List ℕ). Leaves letters_step w (d ∷ ds)) (sym (append-nil (d ∷ ds))) (last_left (d ∷ ds) h))

open_built_in : (c : ℕ) → is_syllable c ≡ true → (c - 0xac00) % 28 ≡ 0
    → unwrap_or (built_in_step c) (own_step c) ≡ (0x1100 + (c - 0xac00) / 588) ∷ (0x1161 + (c - 0xac00) % 588 / 28) ∷ []
unfolding built_in_step syllable_step
open_built_in c s e = grind (arith, nat_tests)

-- a syllable of two jamo
pub open_step : (c : ℕ) → is_syllable c ≡ true → (c - 0xac00) % 28 ≡ 0 → letters_step c ≡ (0x1100 + (c - 0xac00) / 588) ∷ (0x1161 + (c - 0xac00) % 588 / 28) ∷ []
open_step c s e = step_is c ∙ open_built_in c s e

open_last : (c : ℕ) → is_syllable c ≡ true → (c - 0xac00) % 28 ≡ 0 → AreLast (letters_step c)
open_last c s e =
    let within : (0xac00 ≤ c) × (c ≤ 0xd7a3) = grind (arith, nat_tests)
    in subst AreLast (sym (open_step c s e))
    (jamo_last _ (omega arith) (omega arith), (jamo_last _ (omega arith) (omega arith), tt))

closed_built_in : (c : ℕ) → is_syllable c ≡ true → (c - 0xac00) % 28 ≢ 0
    → unwrap_or (built_in_step c) (own_step c) ≡ (c - (c - 0xac00) % 28) ∷ (0x11a7 + (c - 0xac00) % 28) ∷ []
unfolding built_in_step syllable_step
closed_built_in c s e = grind (arith, nat_tests)

-- one of three
pub closed_step : (c : ℕ) → is_syllable c ≡ true → (c - 0xac00) % 28 ≢ 0 → letters_step c ≡ (c - (c - 0xac00) % 28) ∷ (0x11a7 + (c - 0xac00) % 28) ∷ []
closed_step c s e = step_is c ∙ closed_built_in c s e

-- a syllable of two is left by its jamo
open_ends : (c : ℕ) → is_syllable c ≡ true → (c - 0xac00) % 28 ≡ 0 → Leaves letters_step (c ∷ []) (letters_step c)
open_ends c s e =
    let is = open_step c s e
    in subst (λ (w : List ℕ). Leaves letters_step (c ∷ []) w) (sym is) (mapped_once c _ is (subst AreLast is (open_last c s e)))

-- a syllable of three jamo loses the last one, then it is a syllable of two
closed_ends : (c : ℕ) → is_syllable c ≡ true → (c - 0xac00) % 28 ≢ 0
    → Leaves letters_step (c ∷ []) (letters_step (c - (c - 0xac00) % 28) ++ (0x11a7 + (c - 0xac00) % 28) ∷ [])
closed_ends c s ne =
    let t = (c - 0xac00) % 28
    in let o = c - t
    in let within : (0xac00 ≤ c) × (c ≤ 0xd7a3) = grind (arith, nat_tests)
    in let begun : 0xac00 ≤ o = omega arith
    in let ended : o ≤ 0xd7a3 = omega arith
    in let s2 : is_syllable o ≡ true = grind (arith, nat_tests)
    in let is_open : (o - 0xac00) % 28 ≡ 0 = omega arith
    in let behind : Leaves letters_step ((0x11a7 + t) ∷ []) ((0x11a7 + t) ∷ []) = unmapped (0x11a7 + t) [] [] (jamo_last _ (omega arith) (omega arith)) nothing
    in let both : Leaves letters_step (o ∷ (0x11a7 + t) ∷ []) (letters_step o ++ (0x11a7 + t) ∷ []) =
    left_append letters_step (o ∷ []) ((0x11a7 + t) ∷ []) (letters_step o) ((0x11a7 + t) ∷ []) (open_ends o s2 is_open) behind
    in mapped c o ((0x11a7 + t) ∷ []) [] _ (closed_step c s ne) both

-- a character that isn't mapped is left as it is, by however many steps
expanded_alone : (n c : ℕ) → letters_step c ≡ [] → expanded letters_step n c ≡ c ∷ []
unfolding expanded
expanded_alone zero c e = refl
expanded_alone (suc n) c e =
    subst (λ (ds : List ℕ). elim ds as (λ _. List ℕ) [ [] ↦ c ∷ [] | d ∷ ds ↦ flat_map (expanded letters_step n) (d ∷ ds) ] ≡ c ∷ []) (sym e) refl

expanded_last : (n : ℕ) (cs : List ℕ) → AreLast cs → flat_map (expanded letters_step n) cs ≡ cs
expanded_last n [] h = refl
expanded_last n (c ∷ cs) h =
    ap (λ (xs : List ℕ). xs ++ flat_map (expanded letters_step n) cs) (expanded_alone n c h.0) ∙ ap (λ (xs : List ℕ). c ∷ xs) (expanded_last n cs h.1)

once_of : (n c : ℕ) (ds : List ℕ) → AreLast ds
    → elim ds as (λ _. List ℕ) [ [] ↦ c ∷ [] | d ∷ ds ↦ flat_map (expanded letters_step n) (d ∷ ds) ] ≡ elim ds as (λ _. List ℕ) [ [] ↦ c ∷ [] | d ∷ ds ↦ d ∷ ds ]
once_of n c [] h = refl
once_of n c (d ∷ ds) h = expanded_last n (d ∷ ds) h

expanded_once : (n c : ℕ) → AreLast (letters_step c)
    → expanded letters_step (suc n) c ≡ elim (letters_step c) as (λ _. List ℕ) [ [] ↦ c ∷ [] | d ∷ ds ↦ d ∷ ds ]
unfolding expanded
expanded_once n c h = once_of n c (letters_step c) h

-- the full list of a syllable of two jamo
expanded_open : (n c : ℕ) → is_syllable c ≡ true → (c - 0xac00) % 28 ≡ 0 → expanded letters_step (suc n) c ≡ letters_step c
expanded_open n c s e =
    expanded_once n c (open_last c s e)
    ∙ subst (λ (ds : List ℕ). elim ds as (λ _. List ℕ) [ [] ↦ c ∷ [] | d ∷ ds ↦ d ∷ ds ] ≡ ds) (sym (open_step c s e)) refl

-- of one of three
expanded_closed : (n c : ℕ) → is_syllable c ≡ true → (c - 0xac00) % 28 ≢ 0
    → expanded letters_step (suc (suc n)) c ≡ letters_step (c - (c - 0xac00) % 28) ++ (0x11a7 + (c - 0xac00) % 28) ∷ []
unfolding expanded
expanded_closed n c s ne =
    let t = (c - 0xac00) % 28
    in let o = c - t
    in let within : (0xac00 ≤ c) × (c ≤ 0xd7a3) = grind (arith, nat_tests)
    in let begun : 0xac00 ≤ o = omega arith
    in let ended : o ≤ 0xd7a3 = omega arith
    in let s2 : is_syllable o ≡ true = grind (arith, nat_tests)
    in let is_open : (o - 0xac00) % 28 ≡ 0 = omega arith
    in let first = expanded_open n o s2 is_open
    in let last = expanded_alone (suc n) (0x11a7 + t) (jamo_last _ (omega arith) (omega arith))
    in subst (λ (ds : List ℕ). elim ds as (λ _. List ℕ) [ [] ↦ c ∷ [] | d ∷ ds ↦ flat_map (expanded letters_step (suc n)) (d ∷ ds) ] ≡ letters_step o ++ (0x11a7 + t) ∷ [])
    (sym (closed_step c s ne))
    (ap (λ (xs : List ℕ). xs ++ (expanded letters_step (suc n) (0x11a7 + t) ++ [])) first ∙ ap (λ (xs : List ℕ). letters_step o ++ (xs ++ [])) last)

-- the full lists by their three kinds: a property of each is one of all
pub by_full : (P : List ℕ → Type 0) (c : ℕ)
    → (AreLast (letters_step c) → P (elim (letters_step c) as (λ _. List ℕ) [ [] ↦ c ∷ [] | d ∷ ds ↦ d ∷ ds ]))
    → (is_syllable c ≡ true → (c - 0xac00) % 28 ≢ 0 → P (letters_step (c - (c - 0xac00) % 28) ++ (0x11a7 + (c - 0xac00) % 28) ∷ []))
    → P (letters_full c)
by_full P c once twice =
    elim (cases_Bool (is_syllable c)) [
      | inl s ↦
          elim (cases_Bool (((c - 0xac00) % 28) == 0)) [
            | inl t ↦
                let e = eqb-true ((c - 0xac00) % 28) 0 t
                in subst P (sym (expanded_once 0x10ffff c (open_last c s e))) (once (open_last c s e))
            | inr t ↦
                let ne = eqb-false ((c - 0xac00) % 28) 0 t
                in subst P (sym (expanded_closed 0x10fffe c s ne)) (twice s ne)
          ]
      | inr s ↦ subst P (sym (expanded_once 0x10ffff c (other_last c s))) (once (other_last c s))
    ]

-- mapping steps end at the full list
letters_ends : (c : ℕ) → Leaves letters_step (c ∷ []) (letters_full c)
letters_ends c = by_full (Leaves letters_step (c ∷ [])) c (mapped_once c (letters_step c) refl) (closed_ends c)

-- the characters of a mapping, as the test computes
abbrev AreScalar : List ℕ → Type 0
AreScalar cs = AllByRecursion IsScalar cs

abbrev IsScalarMapping : Option (List ℕ) → Type 0
IsScalarMapping (Some ds) = AreScalar ds
IsScalarMapping None = Unit {0}

syllable_scalars : (c : ℕ) → is_syllable c ≡ true → AreScalar (syllable_step c)
unfolding syllable_step
syllable_scalars c s =
    let within : (0xac00 ≤ c) × (c ≤ 0xd7a3) = grind (arith, nat_tests)
    in let i = c - 0xac00
    in let leading = low_scalar (0x1100 + i / 588) (omega arith)
    in let vowel = low_scalar (0x1161 + i % 588 / 28) (omega arith)
    in let without = low_scalar (c - i % 28) (omega arith)
    in let trailing = low_scalar (0x11a7 + i % 28) (omega arith)
    in cond_both ((i % 28) == 0) ((0x1100 + i / 588) ∷ (0x1161 + i % 588 / 28) ∷ []) ((c - i % 28) ∷ (0x11a7 + i % 28) ∷ []) AreScalar
    (λ _. (leading, (vowel, tt)))
    (λ _. (without, (trailing, tt)))

singled_scalars : (c : ℕ) → IsScalarMapping (singled_out c)
unfolding singled_out
singled_scalars c =
    cond_both (c == 0x340) _ _ IsScalarMapping (λ _. (refl, tt)) (λ _.
    cond_both (c == 0x341) _ _ IsScalarMapping (λ _. (refl, tt)) (λ _.
    cond_both (c == 0x343) _ _ IsScalarMapping (λ _. (refl, tt)) (λ _.
    cond_both (c == 0x344) _ _ IsScalarMapping (λ _. (refl, (refl, tt))) (λ _.
    cond_both (c == 0xf73) _ _ IsScalarMapping (λ _. (refl, (refl, tt))) (λ _.
    cond_both (c == 0xf75) _ _ IsScalarMapping (λ _. (refl, (refl, tt))) (λ _.
    cond_both (c == 0xf81) _ _ IsScalarMapping (λ _. (refl, (refl, tt))) (λ _. tt)))))))

own_scalars : (c : ℕ) → AreScalar (own_step c)
own_scalars c = by_line (λ x ds. AreScalar ds) c ((refl, (refl, tt)), ((refl, (refl, tt)), tt)) tt

mapping_scalars : (o : Option (List ℕ)) (ds : List ℕ) → IsScalarMapping o → AreScalar ds → AreScalar (unwrap_or o ds)
mapping_scalars (Some es) ds h g = h
mapping_scalars None ds h g = g

step_scalars : (c : ℕ) → AreScalar (unwrap_or (built_in_step c) (own_step c))
unfolding built_in_step
step_scalars c =
    mapping_scalars (built_in_step c) _
    (cond_both (is_syllable c) _ _ IsScalarMapping (syllable_scalars c)
    (λ _. cond_both (is_jamo c || (c == 0xfffd)) _ _ IsScalarMapping (λ _. tt) (λ _. singled_scalars c)))
    (own_scalars c)

letters_scalars : (c : ℕ) → All IsScalar (letters_step c)
letters_scalars c = All-from_recursion IsScalar (letters_step c) (subst AreScalar (sym (step_is c)) (step_scalars c))

letters_built_in_classes : (c : ℕ) → IfSome (built_in_class c) (λ k. letters_class c ≡ k)
unfolding class_of
letters_built_in_classes c =
    elim (built_in_class c) as (λ o. IfSome o (λ k. elim o as (λ _. ℕ) [ Some k ↦ k | None ↦ own_class c ] ≡ k)) [ None ↦ tt | Some k ↦ refl ]

letters_built_in_steps : (c : ℕ) → IfSome (built_in_step c) (λ ds. letters_step c ≡ ds)
letters_built_in_steps c =
    subst (λ (w : List ℕ). IfSome (built_in_step c) (λ ds. w ≡ ds)) (sym (step_is c))
    (elim (built_in_step c) as (λ o. IfSome o (λ ds. unwrap_or o (own_step c) ≡ ds)) [ None ↦ tt | Some ds ↦ refl ])

own_mapped : (c d : ℕ) (ds : List ℕ) → own_step c ≡ d ∷ ds → (c ≡ 0xe1) ⊎ (c ≡ 0x1ea1)
own_mapped c d ds = by_line (λ x es. es ≡ d ∷ ds → (x ≡ 0xe1) ⊎ (x ≡ 0x1ea1)) c ((λ _. inl refl), ((λ _. inr refl), tt)) (λ e. cc)

-- of the free characters two are mapped
free_step : (c d : ℕ) (ds : List ℕ) → IsFree c → letters_step c ≡ d ∷ ds → (c ≡ 0xe1) ⊎ (c ≡ 0x1ea1)
free_step c d ds f e = own_mapped c d ds (subst (λ (o : Option (List ℕ)). unwrap_or o (own_step c) ≡ d ∷ ds) f (sym (step_is c) ∙ e))

letters_starters : (c d : ℕ) (ds : List ℕ) → IsFree c → letters_step c ≡ d ∷ ds → letters_class c ≡ 0
unfolding class_of built_in_class
letters_starters c d ds f e =
    elim (free_step c d ds f e) [
      | inl is ↦ subst (λ (x : ℕ). letters_class x ≡ 0) (sym is) refl
      | inr is ↦ subst (λ (x : ℕ). letters_class x ≡ 0) (sym is) refl
    ]

-- neither a jamo nor a syllable
abbrev IsApart : ℕ → Type 0
IsApart d = (is_jamo d ≡ false) × (is_syllable d ≡ false)

own_apart : (c : ℕ) → AllByRecursion IsApart (own_step c)
own_apart c =
    by_line (λ x ds. AllByRecursion IsApart ds) c (((refl, refl), ((refl, refl), tt)), (((refl, refl), ((refl, refl), tt)), tt)) tt

letters_apart : (c d : ℕ) → IsFree c → Contains (letters_step c) d → IsApart d
letters_apart c d f h =
    let said = subst (λ (ds : List ℕ). Contains ds d) (step_is c) h
    in let is = subst (λ (o : Option (List ℕ)). Contains (unwrap_or o (own_step c)) d) f said
    in All-contains IsApart (own_step c) d (All-from_recursion IsApart (own_step c) (own_apart c)) is

letters_begins : (c d : ℕ) (ds : List ℕ) → IsFree c → letters_step c ≡ d ∷ ds
    → (e : ℕ) (es : List ℕ) → letters_full c ≡ e ∷ es → letters_class e ≡ 0
unfolding expanded step_of built_in_step built_in_compatibility_step singled_out class_of built_in_class
letters_begins c d ds f h e es g =
    elim (free_step c d ds f h) [
      | inl is ↦
          let full : letters_full 0xe1 ≡ e ∷ es = subst (λ (x : ℕ). letters_full x ≡ e ∷ es) is g
          in let first : 0x61 ≡ e = cc
          in subst (λ (x : ℕ). letters_class x ≡ 0) first refl
      | inr is ↦
          let full : letters_full 0x1ea1 ≡ e ∷ es = subst (λ (x : ℕ). letters_full x ≡ e ∷ es) is g
          in let first : 0x61 ≡ e = cc
          in subst (λ (x : ℕ). letters_class x ≡ 0) first refl
    ]

once_bounded : (c : ℕ) (ds : List ℕ) → length ds ≤ 2 → length (elim ds as (λ _. List ℕ) [ [] ↦ c ∷ [] | d ∷ ds ↦ d ∷ ds ]) ≤ 8
once_bounded c [] h = omega arith
once_bounded c (d ∷ ds) h = omega arith

letters_bounded : (c : ℕ) → length (letters_full c) ≤ 8
letters_bounded c =
    by_full (λ (ds : List ℕ). length ds ≤ 8) c (λ _. once_bounded c (letters_step c) (letters_short c))
    (λ s ne.
    let short = letters_short (c - (c - 0xac00) % 28)
    in omega (arith, short, length-append (letters_step (c - (c - 0xac00) % 28)) ((0x11a7 + (c - 0xac00) % 28) ∷ [])))

-- these data meet the first part of what canonical data promise
pub letters_is_decomposing : IsDecomposing letters
letters_is_decomposing =
    record {
      classes = λ c s. letters_classes c;
      built_in_classes = letters_built_in_classes;
      built_in_steps = letters_built_in_steps;
      short = λ c s. letters_short c;
      scalars = λ c s. letters_scalars c;
      starters = λ c d ds s. letters_starters c d ds;
      letters = λ c d s. letters_apart c d;
      ends = λ c s. letters_ends c;
      begins = λ c d ds s. letters_begins c d ds;
      bounded = λ c s. letters_bounded c;
    }
