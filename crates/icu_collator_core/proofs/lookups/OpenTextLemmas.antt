-- A text that marks may join, mark by mark.
use Rattle.std.proofs.Common.{◌≡◌, ℕ, zero, suc, ◌+◌, ◌<◌, ◌≤◌, ◌==◌, Bool, true, false, ◌&&◌, cond, ltb, List, [], ◌∷◌, ◌++◌, length, take, drop, Option, Some, None, refl, sym, ◌∙◌, ap, arith, length-append, length-take, inl, inr}
use Rattle.std.specs.Prelude.{slice_index}
use Rattle.std.specs.List.{list_all}
use Rattle.std.specs.Option.{is_some, option_and_then}
use Rattle.std.proofs.lemmas.Bool.{and_from, and_left, and_parts, and_right, cases_Bool, cond-false, cond-true, lt-ltb, ltb-true}
use Rattle.std.proofs.lemmas.Option.{cond_some, none-some}
use Rattle.std.proofs.lemmas.List.{drop-append-le, drop-drop, drop_all, drop_more, length-take-le, take_more}
use Rattle.std.proofs.lemmas.List.Folds.{list_all-append, list_all-map}
use lib.Utf8.{scalar, scalars}
use Rattle.icu_char16trie.specs.declared.Char16TrieIterator.{Char16TrieIterator}
use Rattle.icu_normalizer_core.specs.Canonical.{Canonical}
use Rattle.icu_collator_core.specs.declared.reading.joining.OpenText.{OpenText}
use Rattle.icu_collator_core.specs.Elements.{Joining, Placed, characters_of, joining, longest_prefix, placed, placed_behind}
use Rattle.icu_collator_core.specs.JoinedTexts.{HasJoined, HaveMoved, IsWordOfText, brought_forward, has_suffixes}
use Rattle.icu_collator_core.specs.Pools.{Pools, elements_of_word}
use Rattle.icu_collator_core.specs.ReadTexts.{IsAtText, characters_before, if_recorded, suffix_units, word_by}
use Rattle.icu_collator_core.specs.TableMeaning.{TableWord, recorded_by}
use Rattle.icu_collator_core.specs.Weights.{Weights}
use Rattle.icu_collator_core.proofs.lookups.MatchLemmas.{recorded_behind, scalars_front}
use Rattle.icu_collator_core.proofs.lookups.MovedLemmas.{brought_between, brought_length, brought_moves, brought_rest, is_mark, moves_then}
use Rattle.icu_collator_core.proofs.lookups.PlacedLemmas.{placed_drop}
use Rattle.icu_collator_core.proofs.lookups.PrefixLemmas.{scalars_join}
use Rattle.icu_collator_core.proofs.readings.MovedMarkLemmas.{moved_itself}

pub scalars_behind : (n : ℕ) (cs : List ℕ) → scalars cs ≡ true → scalars (drop n cs) ≡ true
scalars_behind zero cs e = e
scalars_behind (suc n) [] e = refl
scalars_behind (suc n) (c ∷ cs) e = scalars_behind n cs (and_parts (scalar c) (scalars cs) e).1

-- the character at an index, with what stands before it, and the rest
pub placed_next : (index m : ℕ) (old : List ℕ) → index ≤ length old → drop index old ≡ m ∷ drop (index + 1) old
    → drop index (placed old) ≡ record { character = m; before = characters_before old index } ∷ drop (index + 1) (placed old)
unfolding placed_behind
placed_next index m old inside first =
    let before = characters_before old index in
    let here : drop index (placed old) ≡ placed_behind before (m ∷ drop (index + 1) old) =
    placed_drop index old inside ∙ ap (placed_behind before) first in
    let rest : drop 1 (drop index (placed old)) ≡ placed_behind (take longest_prefix (m ∷ before)) (drop (index + 1) old) = ap (drop 1) here in
    let mark : Placed = record { character = m; before = before } in
    here ∙ ap (λ ps. mark ∷ ps) (sym rest ∙ drop-drop 1 index (placed old))

-- what is asked of the characters is asked of the list
pub seen_is : (class : ℕ → ℕ) (k : ℕ) (ps : List Placed) → list_all (λ p. ltb (class p.character) k) ps ≡ list_all (λ c. ltb (class c) k) (characters_of ps)
seen_is class k ps = sym (list_all-map (λ c. ltb (class c) k) (λ p. p.character) ps)

-- ---- The choice at a character

module _ (canonical : Canonical) (weights : Weights) (text : List ℕ) (between : List Placed) (p : Placed) (ps : List Placed) where
  abbrev class : ℕ
  class = canonical.class p.character

  abbrev longer : List ℕ
  longer = text ++ p.character ∷ []

  abbrev joins : Bool
  joins = list_all (λ b. ltb (canonical.class b.character) class) between && is_some (weights.recorded [] longer)

  abbrev done : Joining
  done = record { text = text; left = between ++ p ∷ ps }

  abbrev joined : Joining
  joined = joining canonical weights longer between ps

  abbrev stays : Joining
  stays = joining canonical weights text (between ++ p ∷ []) ps

  pub joining_ends : (class == 0) ≡ true → joining canonical weights text between (p ∷ ps) ≡ done
  unfolding joining
  joining_ends e = cond-true (class == 0) done (cond joins joined stays) e

  pub joining_joins : (class == 0) ≡ false → joins ≡ true → joining canonical weights text between (p ∷ ps) ≡ joined
  unfolding joining
  joining_joins e t = cond-false (class == 0) done (cond joins joined stays) e ∙ cond-true joins joined stays t

  pub joining_stays : (class == 0) ≡ false → joins ≡ false → joining canonical weights text between (p ∷ ps) ≡ stays
  unfolding joining
  joining_stays e f = cond-false (class == 0) done (cond joins joined stays) e ∙ cond-false joins joined stays f

-- ---- A word with elements

pub if_recorded_some : (pools : Pools) (o : Option ℕ) (word : ℕ) → Some word ≡ if_recorded pools o → o ≡ Some word
unfolding if_recorded
if_recorded_some pools None word e = absurd (none-some word (sym e))
if_recorded_some pools (Some w) word e =
    ap (λ v. Some v) (cond_some (is_some (elements_of_word pools w)) w word (sym e)).1

-- the record of a text that a mark joined
pub record_joined : (entry : TableWord) (c : ℕ) (suffix : List ℕ) (m word : ℕ) → has_suffixes entry ≡ true
    → Some word ≡ if_recorded entry.pools (word_by (suffix_units entry) (suffix ++ m ∷ []))
    → recorded_by entry c [] (suffix ++ m ∷ []) ≡ elements_of_word entry.pools word
record_joined entry c suffix m word suffixed e =
    let filled : 0 < length (suffix ++ m ∷ []) = let count = length-append suffix (m ∷ []) in omega (arith, count) in
    recorded_behind entry c (suffix ++ m ∷ []) filled
    ∙ ap (λ b. option_and_then (elements_of_word entry.pools) (cond b (word_by (suffix_units entry) (suffix ++ m ∷ [])) None)) suffixed
    ∙ ap (option_and_then (elements_of_word entry.pools)) (if_recorded_some entry.pools (word_by (suffix_units entry) (suffix ++ m ∷ [])) word e)

-- ---- A mark that was read

-- a list of characters stays one
brought_kept : (list : List ℕ) (from index : ℕ) → index < length list → scalars list ≡ true → scalars (brought_forward list from index) ≡ true
brought_kept list from index inside ok =
    let here = slice_index list index in
    let between = drop from (take index list) in
    let rest = drop (index + 1) list in
    let split = and_parts (scalar here) (scalars rest) (ap scalars (sym (drop_more list index 0 inside)) ∙ scalars_behind index list ok) in
    scalars_join (take from list ++ here ∷ between) rest
    (scalars_join (take from list) (here ∷ between) (scalars_front from list ok)
    (and_from (scalar here) (scalars between) split.0 (scalars_behind from (take index list) (scalars_front index list ok))))
    split.1

-- the highest class of two
pub highest_first : (a b k : ℕ) → b ≤ a → (ltb a k && (ltb b k && true)) ≡ ltb a k
highest_first a b k le =
    elim (cases_Bool (ltb a k)) [
      | inl e ↦ and_from (ltb a k) (ltb b k && true) e (and_from (ltb b k) true (lt-ltb b k (let less = ltb-true a k e in omega (arith, less, le))) refl) ∙ sym e
      | inr e ↦ and_left (ltb a k) (ltb b k && true) e ∙ sym e
    ]

pub highest_second : (a b k : ℕ) → a < b → (ltb a k && (ltb b k && true)) ≡ ltb b k
highest_second a b k lt =
    elim (cases_Bool (ltb b k)) [
      | inl e ↦ and_from (ltb a k) (ltb b k && true) (lt-ltb a k (let less = ltb-true b k e in omega (arith, less, lt))) (and_from (ltb b k) true e refl) ∙ sym e
      | inr e ↦ and_right (ltb a k) (ltb b k && true) (and_left (ltb b k) true e) ∙ sym e
    ]

module _ (class : ℕ → ℕ) (start : ℕ) (old : List ℕ) (index : ℕ) (new : List ℕ) (text : OpenText) (at : HaveMoved class start old index new text) (inside : index < length new) where
  abbrev mark : ℕ
  mark = slice_index new index

  abbrev left_between : List ℕ
  left_between = drop text.next (take index new)

  rest_behind : drop (index + 1) new ≡ drop (index + 1) old
  rest_behind = sym (drop-drop 1 index new) ∙ ap (drop 1) at.rest ∙ drop-drop 1 index old

  pub first_left : drop index old ≡ mark ∷ drop (index + 1) old
  first_left = sym at.rest ∙ drop_more new index 0 inside ∙ ap (λ l. mark ∷ l) rest_behind

  pub more_between : drop text.next (take (index + 1) new) ≡ left_between ++ mark ∷ []
  more_between =
      let front : text.next ≤ length (take index new) = let cut = length-take-le index new (omega (arith, inside)) in let within = at.within in omega (arith, cut, within) in
      ap (drop text.next) (take_more new index 0 inside) ∙ drop-append-le text.next (take index new) (mark ∷ []) front

  pub moved_joined : (cursor : Char16TrieIterator) (word : Option ℕ) → is_mark class mark ≡ true
      → HaveMoved class start old (index + 1) (brought_forward new text.next index)
      (record { cursor = cursor; word = word; next = text.next + 1; highest = text.highest })
  moved_joined cursor word is =
      let begins = at.begins in
      let within = at.within in
      let count = brought_length new text.next index within inside in
      let behind = brought_between new text.next index within inside in
      record {
        begins = omega (arith, begins);
        within = omega (arith, within);
        inside = omega (arith, count, inside);
        same_length = count ∙ at.same_length;
        kept = λ ok. brought_kept new text.next index inside (at.kept ok);
        moved = moves_then class old new (brought_forward new text.next index) at.moved (brought_moves new text.next index within inside class at.marks is);
        rest = brought_rest new text.next index within inside ∙ rest_behind;
        marks = ap (list_all (is_mark class)) behind ∙ at.marks;
        highest = λ k some. ap (list_all (λ b. ltb (class b) k)) behind ∙ at.highest k some;
      }

  pub moved_stays : (cursor : Char16TrieIterator) (word : Option ℕ) (highest : ℕ) → is_mark class mark ≡ true
      → ((k : ℕ) → (ltb text.highest k && (ltb (class mark) k && true)) ≡ ltb highest k)
      → HaveMoved class start old (index + 1) new (record { cursor = cursor; word = word; next = text.next; highest = highest })
  moved_stays cursor word highest is top =
      let begins = at.begins in
      let within = at.within in
      record {
        begins = begins;
        within = omega (arith, within);
        inside = omega (arith, inside);
        same_length = at.same_length;
        moved = at.moved;
        kept = at.kept;
        rest = rest_behind;
        marks =
            ap (list_all (is_mark class)) more_between ∙ list_all-append (is_mark class) left_between (mark ∷ [])
            ∙ and_from (list_all (is_mark class) left_between) (is_mark class mark && true) at.marks (and_from (is_mark class mark) true is refl);
        highest =
            λ k some. ap (list_all (λ b. ltb (class b) k)) more_between ∙ list_all-append (λ b. ltb (class b) k) left_between (mark ∷ [])
            ∙ ap (λ b. b && (ltb (class mark) k && true)) (at.highest k some) ∙ top k;
      }

-- ---- Before any mark was read

none_between : (n : ℕ) (old : List ℕ) → drop n (take n old) ≡ []
none_between n old = drop_all n (take n old) (let count = length-take n old in omega (arith, count))

pub nothing_moved : (class : ℕ → ℕ) (old : List ℕ) (text : OpenText) → text.next ≤ length old → text.highest ≡ 0
    → HaveMoved class text.next old text.next old text
nothing_moved class old text inside none =
    record {
      begins = omega arith;
      within = omega arith;
      inside = inside;
      same_length = refl;
      moved = moved_itself class old;
      kept = λ ok. ok;
      rest = refl;
      marks = ap (list_all (is_mark class)) (none_between text.next old);
      highest = λ k some. ap (list_all (λ b. ltb (class b) k)) (none_between text.next old) ∙ sym (lt-ltb text.highest k (omega (arith, none, some)));
    }

pub nothing_joined : (canonical : Canonical) (weights : Weights) (entry : TableWord) (c : ℕ) (suffix old : List ℕ) (text : OpenText)
    → IsAtText (suffix_units entry) suffix text.cursor → scalars suffix ≡ true → IsWordOfText weights entry.pools c (c ∷ suffix) text.word
    → HasJoined canonical weights entry c suffix text.next old text.next old text
nothing_joined canonical weights entry c suffix old text stands spelled said =
    record {
      joined = suffix;
      between = [];
      stands = stands;
      spelled = spelled;
      said = said;
      left = sym (none_between text.next old);
      same = refl;
    }
