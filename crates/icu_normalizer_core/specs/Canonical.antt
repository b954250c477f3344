-- Canonical data as what they say of characters, apart from how they are stored.
use Rattle.std.specs.Prelude.{◌≡◌, ℕ, ◌<◌, ◌≤◌, Bool, false, cond, ◌==◌, ◌&&◌, ltb, List, [], ◌∷◌, ◌++◌, length, flat_map, All, Contains, Option, Some, None, IfSome}
use Rattle.std.specs.List.{list_all}
use Rattle.std.specs.Char.{IsScalar}
use Rattle.icu_normalizer_core.specs.BuiltIn.{built_in_step, built_in_class, is_syllable, is_jamo, is_within, singled_out, syllable_of}

pub record Canonical : Type 0 where
  -- the canonical combining class; a starter has 0, a mark another
  pub class : ℕ → ℕ
  -- the canonical mapping: one or two characters; none where there is no mapping
  pub step : ℕ → List ℕ
  -- the full list: what mapping steps leave of the character
  pub full : ℕ → List ℕ
  -- what two characters compose to
  pub pair : ℕ → ℕ → Option ℕ

-- a text reaches a character: mapping steps, none included, bring it in
pub data Reaches (step : ℕ → List ℕ) : List ℕ → ℕ → Type 0 where
  stands : (text : List ℕ) (c : ℕ) → Contains text c → Reaches step text c
  steps : (text : List ℕ) (d c : ℕ) → Contains text d → Reaches step (step d) c → Reaches step text c

-- what mapping steps leave of a text when none is possible, in order
pub data Leaves (step : ℕ → List ℕ) : List ℕ → List ℕ → Type 0 where
  nothing : Leaves step [] []
  unmapped : (c : ℕ) (cs xs : List ℕ) → step c ≡ [] → Leaves step cs xs → Leaves step (c ∷ cs) (c ∷ xs)
  mapped : (c d : ℕ) (ds cs xs : List ℕ) → step c ≡ d ∷ ds → Leaves step ((d ∷ ds) ++ cs) xs → Leaves step (c ∷ cs) xs

abbrev pub is_starter : Canonical → ℕ → Bool
is_starter canonical c = canonical.class c == 0

-- a character put before marks in their order: it goes after those of a lower class, up to the next starter
unfoldable pub put_in_order : (ℕ → ℕ) → ℕ → List ℕ → List ℕ
put_in_order class c [] = c ∷ []
put_in_order class c (d ∷ ds) =
    let behind = d ∷ put_in_order class c ds
    in cond (ltb 0 (class d) && ltb (class d) (class c)) behind (c ∷ d ∷ ds)

-- each maximal run of marks sorted by class, equal classes as they stood
unfoldable pub marks_in_order : (ℕ → ℕ) → List ℕ → List ℕ
marks_in_order class [] = []
marks_in_order class (c ∷ cs) = put_in_order class c (marks_in_order class cs)

-- the decomposed list of a text (NFD): the full lists one after another, marks in order
unfoldable pub decomposed : Canonical → List ℕ → List ℕ
decomposed canonical text = marks_in_order canonical.class (flat_map canonical.full text)

-- The composed list read from the left: starter is the last one so far, and marks stand between it and the rest.
unfoldable pub composing : Canonical → ℕ → List ℕ → List ℕ → List ℕ
composing canonical starter marks [] = starter ∷ marks
composing canonical starter marks (c ∷ cs) =
    let is_seen = list_all (λ m. ltb (canonical.class m) (canonical.class c)) marks
    in let kept = composing canonical starter (marks ++ c ∷ []) cs
    in let begun = (starter ∷ marks) ++ composing canonical c [] cs
    in let left = cond (is_starter canonical c) begun kept
    in elim (cond is_seen (canonical.pair starter c) None) [ Some z ↦ composing canonical z marks cs | None ↦ left ]

-- what composing makes of a decomposed list
unfoldable pub recomposed : Canonical → List ℕ → List ℕ
recomposed canonical [] = []
recomposed canonical (c ∷ cs) =
    let begun = composing canonical c [] cs
    in let passed = c ∷ recomposed canonical cs
    in cond (is_starter canonical c) begun passed

-- the composed list of a text (NFC)
unfoldable pub composed : Canonical → List ℕ → List ℕ
composed canonical text = recomposed canonical (decomposed canonical text)

-- nothing built in says anything of c
abbrev pub IsFree : ℕ → Type 0
IsFree c = built_in_step c ≡ None

-- The first part of what canonical data promise: classes, steps, full lists and what is built in.
pub record IsDecomposing (canonical : Canonical) : Type 0 where
  pub classes : (c : ℕ) → IsScalar c → canonical.class c < 255
  pub built_in_classes : (c : ℕ) → IfSome (built_in_class c) (λ k. canonical.class c ≡ k)
  pub built_in_steps : (c : ℕ) → IfSome (built_in_step c) (λ ds. canonical.step c ≡ ds)
  -- a mapping has one or two characters, and stands on a starter
  pub short : (c : ℕ) → IsScalar c → length (canonical.step c) ≤ 2
  pub scalars : (c : ℕ) → IsScalar c → All IsScalar (canonical.step c)
  pub starters : (c d : ℕ) (ds : List ℕ) → IsScalar c → IsFree c → canonical.step c ≡ d ∷ ds → canonical.class c ≡ 0
  -- no mapping names a jamo or a syllable but those that are built in
  pub letters : (c d : ℕ) → IsScalar c → IsFree c → Contains (canonical.step c) d → (is_jamo d ≡ false) × (is_syllable d ≡ false)
  -- steps end, and the full list is what they leave
  pub ends : (c : ℕ) → IsScalar c → Leaves canonical.step (c ∷ []) (canonical.full c)
  -- the full list of a mapped character begins with a starter and has at most eight characters
  pub begins : (c d : ℕ) (ds : List ℕ) → IsScalar c → IsFree c → canonical.step c ≡ d ∷ ds
      → (e : ℕ) (es : List ℕ) → canonical.full c ≡ e ∷ es → canonical.class e ≡ 0
  pub bounded : (c : ℕ) → IsScalar c → length (canonical.full c) ≤ 8

-- The second part: composed pairs, and what composing needs of the characters below U+0300.
pub record IsComposing (canonical : Canonical) : Type 0 where
  -- a composed pair is a syllable's, or the mapping of what it composes to
  pub syllables : (a b : ℕ) → IfSome (syllable_of a b) (λ c. canonical.pair a b ≡ Some c)
  pub mapped : (a b c : ℕ) → canonical.pair a b ≡ Some c → canonical.step c ≡ a ∷ b ∷ []
  pub scalars : (a b c : ℕ) → canonical.pair a b ≡ Some c → IsScalar c
  -- none of the seven that are mapped by what is built in is composed
  pub uncomposed : (a b c : ℕ) → canonical.pair a b ≡ Some c → singled_out c ≡ None
  -- the second of a pair is not below U+0300, and no vowel or trailing consonant unless the pair is a syllable's
  pub seconds : (a b c : ℕ) → canonical.pair a b ≡ Some c → 0x300 ≤ b
  pub letters : (a b c : ℕ) → canonical.pair a b ≡ Some c → syllable_of a b ≡ None → is_within 0x1161 0x11ff b ≡ false
  -- a character below U+0300 is a starter and its own composed list; one below U+00C0 has no mapping
  pub starters : (c : ℕ) → c < 0x300 → canonical.class c ≡ 0
  pub own : (c : ℕ) → c < 0x300 → composed canonical (c ∷ []) ≡ c ∷ []
  pub unmapped : (c : ℕ) → c < 0xc0 → canonical.step c ≡ []

-- What canonical data promise.
pub record IsCanonical (canonical : Canonical) : Type 0 where
  pub decomposing : IsDecomposing canonical
  pub composing : IsComposing canonical
