-- The collation elements of a decomposed list: which texts are matched, and what each match gives.
use Rattle.std.specs.Prelude.{ℕ, zero, suc, Bool, false, cond, ◌==◌, ◌&&◌, ◌||◌, ltb, leb, List, [], ◌∷◌, ◌++◌, map, reverse, length, take, drop, Option, Some, None, filter_map}
use Rattle.std.specs.List.{list_all, prefix_len}
use Rattle.std.specs.Option.{unwrap_or, is_some}
use Rattle.icu_normalizer_core.specs.Canonical.{Canonical}
use Rattle.icu_collator_types.specs.declared.elements.Element.{Element}
use Rattle.icu_collator_core.specs.Weights.{Weights}
use Rattle.icu_collator_core.specs.Defaults.{special_primary, primary_element, default_elements}
use Rattle.icu_collator_core.specs.Numbers.{number_elements}

-- a character in a decomposed list, and the characters that stand directly before it in the whole list, the nearest first
pub record Placed : Type 0 where
  pub character : ℕ
  pub before : List ℕ

-- how many characters a prefix may have
abbrev pub longest_prefix : ℕ
longest_prefix = 3

-- each character with what stands before it, which begins with these
unfoldable pub placed_behind : List ℕ → List ℕ → List Placed
placed_behind before [] = []
placed_behind before (c ∷ cs) =
    record { character = c; before = before } ∷ placed_behind (take longest_prefix (c ∷ before)) cs

-- the characters of a decomposed list, each with what stands before it
abbrev pub placed : List ℕ → List Placed
placed list = placed_behind [] list

abbrev pub characters_of : List Placed → List ℕ
characters_of ps = map (λ p. p.character) ps

-- what is found at the greatest number up to n at which something is
unfoldable pub at_greatest : {A : Type 0} → (ℕ → Option A) → ℕ → Option A
at_greatest found zero = found zero
at_greatest found (suc n) = elim (found (suc n)) [ Some x ↦ Some x | None ↦ at_greatest found n ]

-- the record of a character after a prefix of n characters that stands directly before it
abbrev pub behind_prefix : Weights → Placed → ℕ → Option (List Element)
behind_prefix weights p n =
    cond (ltb 0 n && leb n (length p.before))
    (weights.recorded (reverse (take n p.before)) (p.character ∷ []))
    None

-- the record of a character after the longest prefix that stands before it and is recorded
abbrev pub prefix_match : Weights → Placed → Option (List Element)
prefix_match weights p = at_greatest (behind_prefix weights p) longest_prefix

-- whether the first n characters of a list are a recorded text
abbrev pub recorded_length : Weights → List ℕ → ℕ → Option ℕ
recorded_length weights list n =
    cond (ltb 0 n && is_some (weights.recorded [] (take n list))) (Some n) None

-- how long the longest recorded text is that stands at the beginning of a list; 1 where there is none
abbrev pub match_length : Weights → List ℕ → ℕ
match_length weights list = unwrap_or (at_greatest (recorded_length weights list) (length list)) 1

-- what a match gives, and what is left to be read after it
pub record Reading : Type 0 where
  pub elements : List Element
  pub left : List Placed

-- a text with the marks that joined it, and what is left after it
pub record Joining : Type 0 where
  pub text : List ℕ
  pub left : List Placed

-- The marks that follow a text join it in turn, up to the next starter: a mark joins if every mark left between has a lower
-- class and the longer text is recorded. `between` holds the marks left so far.
unfoldable pub joining : Canonical → Weights → List ℕ → List Placed → List Placed → Joining
joining canonical weights text between [] = record { text = text; left = between }
joining canonical weights text between (m ∷ ms) =
    let class = canonical.class m.character
    in let longer = text ++ m.character ∷ []
    in let done : Joining = record { text = text; left = between ++ m ∷ ms }
    in let joined = joining canonical weights longer between ms
    in let stays = joining canonical weights text (between ++ m ∷ []) ms
    in let is_seen = list_all (λ b. ltb (canonical.class b.character) class) between
    in cond (class == 0) done (cond (is_seen && is_some (weights.recorded [] longer)) joined stays)

-- the longest recorded text that stands here, or the character alone, with the marks that join it
unfoldable pub text_match : Canonical → Weights → List Placed → Joining
text_match canonical weights ps =
    let list = characters_of ps
    in let n = match_length weights list
    in joining canonical weights (take n list) [] (drop n ps)

-- the reading of a text match: its record, or what the character is by itself
unfoldable pub text_reading : Canonical → Weights → ℕ → List Placed → Reading
text_reading canonical weights c ps =
    let match = text_match canonical weights ps
    in record { elements = unwrap_or (weights.recorded [] match.text) (default_elements weights c); left = match.left }

-- how many digits stand at the beginning of a list
abbrev pub digit_count : Weights → List Placed → ℕ
digit_count weights ps = prefix_len (λ p. is_some (weights.digit p.character)) ps

-- the reading of a number
unfoldable pub number_reading : Weights → List Placed → Reading
number_reading weights ps =
    let n = digit_count weights ps
    in record {
      elements = number_elements weights.numeric_lead (filter_map (λ p. weights.digit p.character) (take n ps));
      left = drop n ps;
    }

-- whether a grave, an acute or a tilde stands at the beginning of a list
unfoldable pub is_before_accent : List Placed → Bool
is_before_accent [] = false
is_before_accent (p ∷ ps) = (p.character == 0x300) || (p.character == 0x301) || (p.character == 0x303)

-- The reading at the first character of a list, in this order: a special character; a number, where numeric ordering is
-- on; a dot above that is dropped; a record after a prefix; a text match.
unfoldable pub reading : Canonical → Weights → Bool → Placed → List Placed → Reading
reading canonical weights numeric p ps =
    let c = p.character
    in let number = number_reading weights (p ∷ ps)
    in let text = text_reading canonical weights c (p ∷ ps)
    in let prefixed : Reading = elim (prefix_match weights p) [ Some es ↦ record { elements = es; left = ps } | None ↦ text ]
    in let dropped : Reading = record { elements = []; left = ps }
    in let undotted = cond (weights.dot_above && (c == 0x307) && is_before_accent ps) dropped prefixed
    in let unnumbered = cond (numeric && is_some (weights.digit c)) number undotted
    in elim (special_primary c) [ Some s ↦ record { elements = primary_element s ∷ []; left = ps } | None ↦ unnumbered ]

-- the elements of what is left of a decomposed list, in at most so many readings
unfoldable pub elements_within : ℕ → Canonical → Weights → Bool → List Placed → List Element
elements_within zero canonical weights numeric ps = []
elements_within (suc n) canonical weights numeric [] = []
elements_within (suc n) canonical weights numeric (p ∷ ps) =
    let first = reading canonical weights numeric p ps
    in first.elements ++ elements_within n canonical weights numeric first.left

-- the elements of a decomposed list, read from the left; each reading leaves fewer characters
abbrev pub elements_of_list : Canonical → Weights → Bool → List ℕ → List Element
elements_of_list canonical weights numeric list =
    elements_within (length list) canonical weights numeric (placed list)
