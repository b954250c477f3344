-- The characters that begin records of a layer, and what the lines take that begin with each.
use Rattle.std.specs.Prelude.{◌≡◌, ℕ, ◌+◌, ◌≤◌, Bool, true, cond, not, ◌==◌, ◌&&◌, List, [], ◌∷◌, ◌++◌, Option, Some, None, count_by, flat_map, length, nat_eq, sum_by}
use Rattle.std.specs.BTreeSet.{BTreeSet, contains}
use Rattle.std.specs.List.{IsDistinct, list_any}
use Rattle.std.specs.Ordering.{nat_cmp}
use Rattle.collate_lines.specs.Record.{Layer, Record, root, tailoring, weights}
use Rattle.collate_rules.specs.GivenWeights.{elements_of}
use Rattle.collate_rules.specs.Rules.{is_beside, is_range, named}
use Rattle.collate_words.specs.Sayings.{Saying, element_count, text_count}
use Rattle.collate_compile.specs.LineSayings.{begins_line, is_rooted, is_tailored}

-- whether a layer has what is recorded of the texts that begin with a character
abbrev pub is_begun : Layer → List Record → ℕ → Bool
is_begun root lines c = is_rooted lines c
is_begun tailoring lines c = is_tailored lines c

-- these characters, each once
pub record AreBeginnings (layer : Layer) (lines : List Record) (cs : List ℕ) : Type 0 where
  pub begun : (c : ℕ) → list_any (λ d. c == d) cs ≡ is_begun layer lines c
  pub once : IsDistinct nat_eq cs

-- what the lines take together that begin with a character
abbrev pub begun_sum : (Record → ℕ) → List Record → ℕ → ℕ
begun_sum taken lines c = sum_by (λ line. cond (begins_line c line) (taken line) 0) lines

-- how many elements they give, and how many of them have texts of several characters or after a prefix
abbrev pub elements_begun : List Record → ℕ → ℕ
elements_begun lines c = begun_sum (λ line. length (elements_of line)) lines c

abbrev pub texts_begun : List Record → ℕ → ℕ
texts_begun lines c = begun_sum (λ line. cond (is_beside line) 1 0) lines c

-- a saying of a character has no more elements and texts than these lines
pub record IsWithinLines (lines : List Record) (c : ℕ) (saying : Saying) : Type 0 where
  pub elements : element_count saying ≤ 1 + elements_begun lines c
  pub texts : text_count saying ≤ texts_begun lines c

-- Of all these characters and of all ranges there are few elements and few texts, and lines name each character.
pub record AreFew (lines : List Record) (cs : List ℕ) : Type 0 where
  pub elements : sum_by (λ c. 1 + elements_begun lines c) cs + count_by is_range lines ≤ 520000
  pub texts : sum_by (texts_begun lines) cs ≤ 3600
  pub are_named : (c : ℕ) → list_any (λ d. c == d) cs ≡ true → list_any (λ d. c == d) (flat_map named lines) ≡ true

-- ## How they are gathered

-- the character that a line's text begins with
abbrev pub first_of : Record → Option ℕ
first_of (weights layer prefix (c ∷ cs) es) = Some c
first_of _ = None

-- with a character that was found, if it passes and isn't there
abbrev pub with_character : (ℕ → Bool) → List ℕ → Option ℕ → List ℕ
with_character passes cs None = cs
with_character passes cs (Some c) = cond (passes c && not (list_any (λ d. c == d) cs)) (cs ++ c ∷ []) cs

-- with those that pass of the characters that lines begin with
abbrev pub begun_by : (ℕ → Bool) → List Record → List ℕ → List ℕ
begun_by passes [] cs = cs
begun_by passes (line ∷ lines) cs = begun_by passes lines (with_character passes cs (first_of line))

-- of the characters that were asked of, those that pass are there
abbrev pub AreAsked : (ℕ → Bool) → BTreeSet ℕ → List ℕ → Type 0
AreAsked passes asked cs = (c : ℕ) → list_any (λ d. c == d) cs ≡ (contains nat_cmp asked c && passes c)
