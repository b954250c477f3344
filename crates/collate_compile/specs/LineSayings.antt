-- What lines record of the texts that begin with one character.
use Rattle.std.specs.Prelude.{◌≡◌, ℕ, ◌+◌, ◌*◌, ◌^◌, ◌/◌, Bool, true, false, cond, not, ◌&&◌, List, [], ◌∷◌, All, Option, Some, None, is_some, option_map}
use Rattle.std.specs.List.{list_all, list_any}
use Rattle.icu_normalizer_core.specs.BuiltIn.{is_jamo}
use Rattle.icu_collator_core.specs.ContextRules.{begins_with_mark, ends_in_mark, holds_starter}
use Rattle.icu_collator_core.specs.Weights.{Range}
use Rattle.collate_lines.specs.Record.{Record, is_same_layer, tailoring, weights}
use Rattle.collate_rules.specs.Meaning.{canonical_of, digit_in, first_found, is_compressible_in, range_in, recorded_in}
use Rattle.collate_rules.specs.RecordRules.{begins_with}
use Rattle.collate_words.specs.Sayings.{SaidBeside, Saying, elements_beside, texts_beside}

-- what moves the primary of a range to its characters, in 64 bits
abbrev pub offset_bits : (ℕ → Bool) → Range → ℕ
offset_bits is_compressible r =
    r.primary * 2 ^ 32 + r.first * 2 ^ 8 + cond (is_compressible (r.primary / 2 ^ 24)) (2 ^ 7) 0 + r.step

-- of the range that holds a character
abbrev pub offset_of : List Record → ℕ → Option ℕ
offset_of lines c = option_map (offset_bits (is_compressible_in lines)) (first_found (range_in c) lines)

-- a text with these characters beside the character is recorded with these elements
abbrev pub IsSaidBehind : List Record → ℕ → SaidBeside → Type 0
IsSaidBehind lines c said = recorded_in lines [] (c ∷ said.characters) ≡ Some said.elements

abbrev pub IsSaidAfter : List Record → ℕ → SaidBeside → Type 0
IsSaidAfter lines c said = recorded_in lines said.characters (c ∷ []) ≡ Some said.elements

-- this is what lines record of the texts that begin with a character, and the digit and the range that it is in
pub record IsSayingOf (lines : List Record) (c : ℕ) (saying : Saying) : Type 0 where
  pub own : saying.own ≡ recorded_in lines [] (c ∷ [])
  pub offset : saying.offset ≡ cond (is_some (recorded_in lines [] (c ∷ []))) None (offset_of lines c)
  pub digit : saying.digit ≡ first_found (digit_in c) lines
  pub suffixes : (d : ℕ) (ds : List ℕ) → elements_beside saying.suffixes (d ∷ ds) ≡ recorded_in lines [] (c ∷ d ∷ ds)
  pub prefixes : (b : ℕ) (bs : List ℕ) → elements_beside saying.prefixes (b ∷ bs) ≡ recorded_in lines (b ∷ bs) (c ∷ [])
  pub behind : All (IsSaidBehind lines c) saying.suffixes
  pub after : All (IsSaidAfter lines c) saying.prefixes
  pub all_begin : saying.all_begin ≡ list_all (begins_with_mark (canonical_of lines)) (texts_beside saying.suffixes)
  pub one_ends : saying.one_ends ≡ list_any (ends_in_mark (canonical_of lines)) (texts_beside saying.suffixes)
  pub one_holds : saying.one_holds ≡ list_any (holds_starter (canonical_of lines)) (texts_beside saying.suffixes)

-- what is said of a character of a range that begins no record
abbrev pub ranged_saying : ℕ → Saying
ranged_saying bits =
    record { own = None; offset = Some bits; digit = None; suffixes = []; prefixes = []; all_begin = true; one_ends = false; one_holds = false }

-- ## Which characters begin records; jamo have a table of their own

abbrev pub begins_line : ℕ → Record → Bool
begins_line c (weights layer prefix text es) = begins_with c text
begins_line c _ = false

abbrev pub begins_tailored_line : ℕ → Record → Bool
begins_tailored_line c (weights layer prefix text es) = is_same_layer tailoring layer && begins_with c text
begins_tailored_line c _ = false

-- a character begins a t line: the tailoring has all that is recorded of it
abbrev pub is_tailored : List Record → ℕ → Bool
is_tailored lines c = not (is_jamo c) && list_any (begins_tailored_line c) lines

-- a character begins w lines alone: the root has what is recorded of it
abbrev pub is_rooted : List Record → ℕ → Bool
is_rooted lines c = not (is_jamo c) && (not (is_tailored lines c) && list_any (begins_line c) lines)
