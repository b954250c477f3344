-- Prefixes that a list tells alone, whatever else stands before it.
use Rattle.std.proofs.Common.{◌≡◌, ℕ, ◌+◌, ◌-◌, ◌<◌, ◌≤◌, List, [], ◌++◌, length, take, get_or, reverse, Option, None, refl, sym, ◌∙◌, ap, arith, append-nil, length-append}
use Rattle.std.specs.Prelude.{option_map}
use Rattle.std.specs.Int.{cast_unsigned, w32}
use Rattle.std.specs.Option.{option_and_then}
use Rattle.std.proofs.lemmas.List.{get_or-reverse, get_or-take, get_or_append_left, get_or_read, length-reverse, length-take, length-take-le, take-append-le}
use Rattle.icu_char16trie.specs.Cursors.{Follows, IsStopped, answered, cursor_state, cursor_units, units_of}
use Rattle.icu_char16trie.specs.UnitSteps.{start}
use Rattle.icu_char16trie.specs.declared.Char16TrieIterator.{Char16TrieIterator}
use Rattle.icu_char16trie.specs.declared.TrieResult.{TrieResult}
use Rattle.icu_collator_core.specs.declared.reading.suffixes.LongerText.{LongerText}
use Rattle.icu_collator_core.specs.Elements.{longest_prefix}
use Rattle.icu_collator_core.specs.Pools.{Pools}
use Rattle.icu_collator_core.specs.ReadTexts.{characters_before, characters_behind, found_or, longest_text, text_by}
use Rattle.icu_collator_core.proofs.lookups.LookedUpTextLemmas.{HasRead, read_more, read_none, read_stopped}

behind_nothing : (list : List ℕ) (index : ℕ) → characters_behind [] list index ≡ characters_before list index
behind_nothing list index = ap (take longest_prefix) (append-nil (reverse (take index list)))

-- where three stand before an index, nothing else counts
pub told_by_three : (list : List ℕ) (index : ℕ) (further : List ℕ) → index ≤ length list → longest_prefix ≤ index
    → characters_behind further list index ≡ characters_before list index
told_by_three list index further within three =
    take-append-le longest_prefix (reverse (take index list)) further (omega (arith, three, length-reverse (take index list), length-take-le index list within))

module _ (units list : List ℕ) (index : ℕ) where
  -- a cursor has found this of what stands before an index, whatever else stands before the list
  pub record HasReadBack (pools : Pools) (n : ℕ) (cursor : Char16TrieIterator) : Type 0 where
    pub longest : Option LongerText
    pub read : (further : List ℕ) → HasRead pools units (characters_behind further list index) n cursor longest

  pub none_back : (pools : Pools) (cursor : Char16TrieIterator) → cursor_units cursor ≡ units → cursor_state cursor ≡ start units → HasReadBack pools 0 cursor
  none_back pools cursor e f = record { longest = None; read = λ further. read_none pools units (characters_behind further list index) cursor e f }

  behind_count : (further : List ℕ) (n : ℕ) → index ≤ length list → n < index → n < longest_prefix → n < length (characters_behind further list index)
  behind_count further n within inside few =
      omega (
        arith,
        inside,
        few,
        length-take longest_prefix (reverse (take index list) ++ further),
        length-append (reverse (take index list)) further,
        length-reverse (take index list),
        length-take-le index list within,
      )

  behind_at : (further : List ℕ) (n x : ℕ) → index ≤ length list → n < index → n < longest_prefix → x ≡ get_or list (index - 1 - n) x → get_or (characters_behind further list index) n 0 ≡ x
  behind_at further n x within inside few is =
      let count = length-take-le index list within in
      let turned = length-reverse (take index list) in
      let less : n < length (take index list) = omega (arith, count) in
      let same : length (take index list) - 1 - n ≡ index - 1 - n = omega (arith, count) in
      get_or-take longest_prefix (reverse (take index list) ++ further) n 0 few
      ∙ get_or_append_left (reverse (take index list)) further 0 n (omega (arith, turned, less))
      ∙ get_or-reverse (take index list) n 0 less
      ∙ ap (λ i. get_or (take index list) i 0) same
      ∙ get_or-take index list (index - 1 - n) 0 (omega arith)
      ∙ sym (get_or_read list (index - 1 - n) x (omega arith) is 0)

  pub more_back : (pools : Pools) (n x : ℕ) (cursor after : Char16TrieIterator) (answer : TrieResult) → index ≤ length list → n < index → n < longest_prefix
      → x ≡ get_or list (index - 1 - n) x → HasReadBack pools n cursor → Follows cursor (units_of x) answer after → HasReadBack pools (n + 1) after
  more_back pools n x cursor after answer within inside few is h step =
      record {
        longest = found_or (option_and_then (text_by pools (n + 1)) (option_map (cast_unsigned w32) (answered answer))) h.longest;
        read = λ further.
            read_more pools units (characters_behind further list index) n x cursor after h.longest
            (found_or (option_and_then (text_by pools (n + 1)) (option_map (cast_unsigned w32) (answered answer))) h.longest) answer
            (behind_count further n within inside few) (behind_at further n x within inside few is) (h.read further) step refl;
      }

  pub stopped_back : (pools : Pools) (n : ℕ) (cursor : Char16TrieIterator) → index ≤ length list → n < index → n < longest_prefix → HasReadBack pools (n + 1) cursor → IsStopped cursor
      → (further : List ℕ) → longest_text pools units (characters_behind further list index) ≡ longest_text pools units (characters_before list index)
  stopped_back pools n cursor within inside few h stopped further =
      let at : (more : List ℕ) → h.longest ≡ longest_text pools units (characters_behind more list index) =
      λ more. let count = behind_count more n within inside few in
      read_stopped pools units (characters_behind more list index) (n + 1) cursor h.longest (omega (arith, count)) (h.read more) stopped in
      sym (at further) ∙ at [] ∙ ap (longest_text pools units) (behind_nothing list index)
