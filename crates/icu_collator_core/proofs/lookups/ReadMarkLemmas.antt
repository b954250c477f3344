-- What a mark that was read leaves of a joining.
use Rattle.std.proofs.Common.{◌≡◌, ℕ, ◌+◌, ◌-◌, ◌<◌, ◌≤◌, ◌==◌, true, false, ◌&&◌, ltb, List, [], ◌∷◌, ◌++◌, length, drop, Some, refl, sym, ◌∙◌, ap, arith}
use Rattle.std.specs.Prelude.{slice_index}
use Rattle.std.specs.List.{list_all}
use Rattle.std.specs.Option.{is_some}
use Rattle.std.proofs.lemmas.Bool.{and_from, and_parts, lt-ltb, ne_eqb}
use Rattle.std.proofs.lemmas.List.{drop-drop, map-append}
use lib.Utf8.{scalar, scalars}
use Rattle.icu_char16trie.specs.declared.Char16TrieIterator.{Char16TrieIterator}
use Rattle.icu_normalizer_core.specs.Canonical.{Canonical}
use Rattle.icu_collator_core.specs.declared.reading.joining.OpenText.{OpenText}
use Rattle.icu_collator_core.specs.Elements.{Placed, joining, placed}
use Rattle.icu_collator_core.specs.JoinedTexts.{HasJoined, HaveMoved, brought_forward, has_suffixes}
use Rattle.icu_collator_core.specs.ReadTexts.{IsAtText, characters_before, if_recorded, suffix_units, word_by}
use Rattle.icu_collator_core.specs.ReadWords.{AreSaidBy}
use Rattle.icu_collator_core.specs.TableMeaning.{TableWord, recorded_by}
use Rattle.icu_collator_core.specs.Weights.{Weights}
use Rattle.icu_collator_core.proofs.lookups.MovedLemmas.{brought_between}
use Rattle.icu_collator_core.proofs.lookups.OpenTextLemmas.{first_left, joining_joins, joining_stays, more_between, placed_next, record_joined, scalars_behind, seen_is}
use Rattle.icu_collator_core.proofs.lookups.PrefixLemmas.{scalars_join}

module _ (canonical : Canonical) (weights : Weights) (entry : TableWord) (c : ℕ) (suffix : List ℕ) (start : ℕ) (old : List ℕ) (index : ℕ) (new : List ℕ) (text : OpenText)
    (said : AreSaidBy weights entry c) (ok : scalars (drop start old) ≡ true) (at : HaveMoved canonical.class start old index new text)
    (h : HasJoined canonical weights entry c suffix start old index new text) (inside : index < length new) (is : 0 < canonical.class (slice_index new index)) where
  abbrev mark : ℕ
  mark = slice_index new index

  abbrev longer : List ℕ
  longer = h.joined ++ mark ∷ []

  abbrev placed_mark : Placed
  placed_mark = record { character = mark; before = characters_before old index }

  next_left : drop index old ≡ mark ∷ drop (index + 1) old
  next_left = first_left canonical.class start old index new text at inside

  next_is : drop index (placed old) ≡ placed_mark ∷ drop (index + 1) (placed old)
  next_is =
      let within : index ≤ length old = let same = at.same_length in omega (arith, same, inside) in
      placed_next index mark old within next_left

  spelled_more : scalars longer ≡ true
  spelled_more =
      let begins = at.begins in
      let below = at.within in
      let sum : start + (index - start) ≡ index = omega (arith, begins, below) in
      let left : drop (index - start) (drop start old) ≡ mark ∷ drop (index + 1) old =
      drop-drop (index - start) start old ∙ ap (λ n. drop n old) sum ∙ next_left in
      let parts = and_parts (scalar mark) (scalars (drop (index + 1) old)) (ap scalars (sym left) ∙ scalars_behind (index - start) (drop start old) ok) in
      scalars_join h.joined (mark ∷ []) h.spelled (and_from (scalar mark) true parts.0 refl)

  pub recorded_more : weights.recorded [] (c ∷ longer) ≡ recorded_by entry c [] longer
  recorded_more = said.recorded [] longer refl spelled_more

  not_starter : (canonical.class mark == 0) ≡ false
  not_starter = ne_eqb (canonical.class mark) 0 (λ e. omega (arith, e, is))

  -- whether every mark left between has a lower class
  pub seen : list_all (λ b. ltb (canonical.class b.character) (canonical.class mark)) h.between ≡ ltb text.highest (canonical.class mark)
  seen =
      seen_is canonical.class (canonical.class mark) h.between
      ∙ ap (list_all (λ b. ltb (canonical.class b) (canonical.class mark))) h.left
      ∙ at.highest (canonical.class mark) is

  pub joined_more : (cursor : Char16TrieIterator) (word : ℕ) → has_suffixes entry ≡ true → text.highest < canonical.class mark
      → IsAtText (suffix_units entry) longer cursor
      → Some word ≡ if_recorded entry.pools (word_by (suffix_units entry) longer) → is_some (recorded_by entry c [] longer) ≡ true
      → HasJoined canonical weights entry c suffix start old (index + 1) (brought_forward new text.next index)
      (record { cursor = cursor; word = Some word; next = text.next + 1; highest = text.highest })
  joined_more cursor word suffixed above stands word_is recorded =
      let joins = and_from (list_all (λ b. ltb (canonical.class b.character) (canonical.class mark)) h.between) (is_some (weights.recorded [] (c ∷ longer)))
      (seen ∙ lt-ltb text.highest (canonical.class mark) above) (ap is_some recorded_more ∙ recorded) in
      record {
        joined = longer;
        between = h.between;
        stands = stands;
        spelled = spelled_more;
        said = recorded_more ∙ record_joined entry c h.joined mark word suffixed word_is;
        left = h.left ∙ sym (brought_between new text.next index at.within inside);
        same =
            sym (ap (joining canonical weights (c ∷ h.joined) h.between) next_is
            ∙ joining_joins canonical weights (c ∷ h.joined) h.between placed_mark (drop (index + 1) (placed old)) not_starter joins)
            ∙ h.same;
      }

  pub joined_stays : (cursor : Char16TrieIterator) (highest : ℕ) → IsAtText (suffix_units entry) h.joined cursor
      → (ltb text.highest (canonical.class mark) && is_some (recorded_by entry c [] longer)) ≡ false
      → HasJoined canonical weights entry c suffix start old (index + 1) new
      (record { cursor = cursor; word = text.word; next = text.next; highest = highest })
  joined_stays cursor highest stands stays =
      let kept : (list_all (λ b. ltb (canonical.class b.character) (canonical.class mark)) h.between && is_some (weights.recorded [] (c ∷ longer))) ≡ false =
      ap (λ b. b && is_some (weights.recorded [] (c ∷ longer))) seen ∙ ap (λ o. ltb text.highest (canonical.class mark) && is_some o) recorded_more ∙ stays in
      record {
        joined = h.joined;
        between = h.between ++ placed_mark ∷ [];
        stands = stands;
        spelled = h.spelled;
        said = h.said;
        left =
            map-append (λ p. p.character) h.between (placed_mark ∷ []) ∙ ap (λ l. l ++ mark ∷ []) h.left
            ∙ sym (more_between canonical.class start old index new text at inside);
        same =
            sym (ap (joining canonical weights (c ∷ h.joined) h.between) next_is
            ∙ joining_stays canonical weights (c ∷ h.joined) h.between placed_mark (drop (index + 1) (placed old)) not_starter kept)
            ∙ h.same;
      }
