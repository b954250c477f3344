-- Marks of a run that join a text class by class, and what is left of the run.
use Rattle.std.proofs.Common.{◌≡◌, ℕ, zero, suc, ◌+◌, ◌<◌, ◌≤◌, ◌==◌, Bool, true, false, ◌&&◌, ltb, List, [], ◌∷◌, ◌++◌, length, drop, Some, refl, sym, ◌∙◌, ap, subst, arith, append_assoc, append-nil}
use Rattle.std.specs.Prelude.{slice_index}
use Rattle.std.specs.List.{list_all}
use Rattle.std.specs.Option.{is_some}
use Rattle.std.proofs.lemmas.Bool.{and_from, and_left, and_parts, and_right, eqb-true, le-ltb, lt-ltb, ne_eqb}
use Rattle.std.proofs.lemmas.List.Folds.{list_all-append}
use lib.Utf8.{scalar, scalars}
use Rattle.icu_char16trie.specs.declared.Char16TrieIterator.{Char16TrieIterator}
use Rattle.icu_normalizer_core.specs.Canonical.{Canonical}
use Rattle.icu_collator_core.specs.declared.reading.mark_runs.MarkedText.{MarkedText}
use Rattle.icu_collator_core.specs.Elements.{Joining, Placed, characters_of, joining}
use Rattle.icu_collator_core.specs.JoinedTexts.{has_suffixes}
use Rattle.icu_collator_core.specs.MarkRuns.{HasJoinedTo, are_of_class}
use Rattle.icu_collator_core.specs.ReadTexts.{IsAtText, if_recorded, suffix_units, word_by}
use Rattle.icu_collator_core.specs.ReadWords.{AreSaidBy}
use Rattle.icu_collator_core.specs.TableMeaning.{TableWord, recorded_by}
use Rattle.icu_collator_core.specs.Weights.{Weights}
use Rattle.icu_collator_core.proofs.lookups.OpenTextLemmas.{highest_first, highest_second, joining_joins, joining_stays, record_joined}
use Rattle.icu_collator_core.proofs.lookups.PrefixLemmas.{scalars_join}

-- the first of what is left from an index on
pub first_dropped : (here : List Placed) (i : ℕ) → i < length here
    → (q : Placed) × (drop i here ≡ q ∷ drop (suc i) here) × (slice_index (characters_of here) i ≡ q.character)
first_dropped [] i less = absurd (omega (arith, less))
first_dropped (q ∷ here) zero less = (q, refl, refl)
first_dropped (q ∷ here) (suc i) less = let rest = first_dropped here i (omega (arith, less)) in (rest.0, rest.1, rest.2)

pub class_dropped : (class : ℕ → ℕ) (k i : ℕ) (cs : List ℕ) → are_of_class class k cs ≡ true → are_of_class class k (drop i cs) ≡ true
class_dropped class k zero cs h = h
class_dropped class k (suc i) [] h = refl
class_dropped class k (suc i) (c ∷ cs) h = class_dropped class k i cs (and_parts (scalar c && (class c == k)) (are_of_class class k cs) h).1

pub characters_dropped : (i : ℕ) (here : List Placed) → characters_of (drop i here) ≡ drop i (characters_of here)
characters_dropped zero here = refl
characters_dropped (suc i) [] = refl
characters_dropped (suc i) (q ∷ here) = characters_dropped i here

module _ (canonical : Canonical) (weights : Weights) (text : List ℕ) where
  -- the highest class among those left between
  abbrev pub AreUpTo : ℕ → List Placed → Type 0
  AreUpTo highest between = (k : ℕ) → 0 < k → list_all (λ b. ltb (canonical.class b.character) k) between ≡ ltb highest k

  -- one that isn't recorded with the text, or whose class isn't above the highest, is left between
  abbrev Left : ℕ → List Placed → List Placed → List Placed → List Placed → Type 0
  Left highest between here behind after =
      (joining canonical weights text between (here ++ behind) ≡ joining canonical weights text after behind) × AreUpTo highest after

  more_left : (before highest k : ℕ) (between : List Placed) (q : Placed) → canonical.class q.character ≡ k → AreUpTo before between
      → ((j : ℕ) → (ltb before j && (ltb k j && true)) ≡ ltb highest j) → AreUpTo highest (between ++ q ∷ [])
  more_left before highest k between q is upto both j some =
      list_all-append (λ b. ltb (canonical.class b.character) j) between (q ∷ [])
      ∙ ap (λ (b : Bool). b && (ltb (canonical.class q.character) j && true)) (upto j some)
      ∙ ap (λ n. ltb before j && (ltb n j && true)) is
      ∙ both j

  starts_not : (k : ℕ) (q : Placed) → 0 < k → canonical.class q.character ≡ k → (canonical.class q.character == 0) ≡ false
  starts_not k q some is = ne_eqb (canonical.class q.character) 0 (λ e. omega (arith, e, is, some))

  -- marks of a class that isn't above the highest are left between
  pub passed_over : (highest k : ℕ) (between here behind : List Placed) → 0 < k → k ≤ highest → AreUpTo highest between
      → are_of_class canonical.class k (characters_of here) ≡ true → Left highest between here behind (between ++ here)
  passed_over highest k between [] behind some below upto h =
      (ap (λ l. joining canonical weights text l behind) (sym (append-nil between)), subst (AreUpTo highest) (sym (append-nil between)) upto)
  passed_over highest k between (q ∷ here) behind some below upto h =
      let parts = and_parts (scalar q.character && (canonical.class q.character == k)) (are_of_class canonical.class k (characters_of here)) h in
      let is = eqb-true (canonical.class q.character) k (and_parts (scalar q.character) (canonical.class q.character == k) parts.0).1 in
      let unseen : list_all (λ b. ltb (canonical.class b.character) (canonical.class q.character)) between ≡ false =
      upto (canonical.class q.character) (omega (arith, is, some)) ∙ le-ltb highest (canonical.class q.character) (omega (arith, is, below)) in
      let stays = joining_stays canonical weights text between q (here ++ behind) (starts_not k q some is)
      (and_left (list_all (λ b. ltb (canonical.class b.character) (canonical.class q.character)) between) (is_some (weights.recorded [] (text ++ q.character ∷ []))) unseen) in
      let more = more_left highest highest k between q is upto (λ j. highest_first highest k j below) in
      let rest = passed_over highest k (between ++ q ∷ []) here behind some below more parts.1 in
      subst (Left highest between (q ∷ here) behind) (append_assoc between (q ∷ []) here) (stays ∙ rest.0, rest.1)

  -- marks of a class above the highest, the first of which isn't recorded with the text, are left between
  pub left_between : (highest k : ℕ) (between : List Placed) (q : Placed) (here behind : List Placed) → highest < k → AreUpTo highest between
      → are_of_class canonical.class k (characters_of (q ∷ here)) ≡ true → is_some (weights.recorded [] (text ++ q.character ∷ [])) ≡ false
      → Left k between (q ∷ here) behind (between ++ q ∷ here)
  left_between highest k between q here behind above upto h none =
      let parts = and_parts (scalar q.character && (canonical.class q.character == k)) (are_of_class canonical.class k (characters_of here)) h in
      let is = eqb-true (canonical.class q.character) k (and_parts (scalar q.character) (canonical.class q.character == k) parts.0).1 in
      let stays = joining_stays canonical weights text between q (here ++ behind) (starts_not k q (omega (arith, above)) is)
      (and_right (list_all (λ b. ltb (canonical.class b.character) (canonical.class q.character)) between) (is_some (weights.recorded [] (text ++ q.character ∷ []))) none) in
      let more = more_left highest k k between q is upto (λ j. highest_second highest k j above) in
      let rest = passed_over k k (between ++ q ∷ []) here behind (omega (arith, above)) (omega arith) more parts.1 in
      subst (Left k between (q ∷ here) behind) (append_assoc between (q ∷ []) here) (stays ∙ rest.0, rest.1)

-- ---- A text that marks of a class meet

module _ (canonical : Canonical) (weights : Weights) (entry : TableWord) (c k : ℕ) (text : MarkedText) (between : List Placed) (whole : Joining)
    (said : AreSaidBy weights entry c) (above : text.highest < k) (q : Placed) (here behind : List Placed)
    (marks : are_of_class canonical.class k (characters_of (q ∷ here)) ≡ true)
    (h : HasJoinedTo canonical weights entry c text between ((q ∷ here) ++ behind) whole) where
  abbrev longer : List ℕ
  longer = h.joined ++ q.character ∷ []

  first : (scalar q.character && (canonical.class q.character == k)) ≡ true
  first = (and_parts (scalar q.character && (canonical.class q.character == k)) (are_of_class canonical.class k (characters_of here)) marks).0

  spelled_more : scalars longer ≡ true
  spelled_more =
      scalars_join h.joined (q.character ∷ []) h.spelled
      (and_from (scalar q.character) true (and_parts (scalar q.character) (canonical.class q.character == k) first).0 refl)

  recorded_more : weights.recorded [] (c ∷ longer) ≡ recorded_by entry c [] longer
  recorded_more = said.recorded [] longer refl spelled_more

  is : canonical.class q.character ≡ k
  is = eqb-true (canonical.class q.character) k (and_parts (scalar q.character) (canonical.class q.character == k) first).1

  -- the first joins
  pub class_joins : (cursor : Char16TrieIterator) (word : ℕ) → has_suffixes entry ≡ true → IsAtText (suffix_units entry) longer cursor
      → Some word ≡ if_recorded entry.pools (word_by (suffix_units entry) longer) → is_some (recorded_by entry c [] longer) ≡ true
      → HasJoinedTo canonical weights entry c (record { cursor = cursor; word = Some word; highest = text.highest }) between (here ++ behind) whole
  class_joins cursor word suffixed stands word_is recorded =
      let seen : list_all (λ b. ltb (canonical.class b.character) (canonical.class q.character)) between ≡ true =
      h.highest (canonical.class q.character) (omega (arith, is, above)) ∙ lt-ltb text.highest (canonical.class q.character) (omega (arith, is, above)) in
      record {
        joined = longer;
        stands = stands;
        spelled = spelled_more;
        said = recorded_more ∙ record_joined entry c h.joined q.character word suffixed word_is;
        highest = h.highest;
        same =
            sym (joining_joins canonical weights (c ∷ h.joined) between q (here ++ behind)
            (ne_eqb (canonical.class q.character) 0 (λ e. omega (arith, e, is, above)))
            (and_from (list_all (λ b. ltb (canonical.class b.character) (canonical.class q.character)) between) (is_some (weights.recorded [] (c ∷ longer))) seen
            (ap (λ o. is_some o) recorded_more ∙ recorded)))
            ∙ h.same;
      }

  -- the first doesn't, so that none does
  pub class_stays : (cursor : Char16TrieIterator) → IsAtText (suffix_units entry) h.joined cursor → is_some (recorded_by entry c [] longer) ≡ false
      → HasJoinedTo canonical weights entry c (record { cursor = cursor; word = text.word; highest = k }) (between ++ q ∷ here) behind whole
  class_stays cursor stands none =
      let left = left_between canonical weights (c ∷ h.joined) text.highest k between q here behind above h.highest marks (ap (λ o. is_some o) recorded_more ∙ none) in
      record {
        joined = h.joined;
        stands = stands;
        spelled = h.spelled;
        said = h.said;
        highest = left.1;
        same = sym left.0 ∙ h.same;
      }

-- marks of a class that isn't above the highest are passed over
pub class_passed : (canonical : Canonical) (weights : Weights) (entry : TableWord) (c k : ℕ) (text : MarkedText) (between here behind : List Placed) (whole : Joining)
    → 0 < k → k ≤ text.highest → are_of_class canonical.class k (characters_of here) ≡ true
    → HasJoinedTo canonical weights entry c text between (here ++ behind) whole → HasJoinedTo canonical weights entry c text (between ++ here) behind whole
class_passed canonical weights entry c k text between here behind whole some below marks h =
    let left = passed_over canonical weights (c ∷ h.joined) text.highest k between here behind some below h.highest marks in
    record {
      joined = h.joined;
      stands = h.stands;
      spelled = h.spelled;
      said = h.said;
      highest = left.1;
      same = sym left.0 ∙ h.same;
    }

-- so many marks of a class joined
abbrev pub HasJoinedFirst : TableWord → ℕ → List ℕ → MarkedText → ℕ → MarkedText → Type 0
HasJoinedFirst entry class marks text i after =
    (canonical : Canonical) (weights : Weights) (c : ℕ) (between here behind : List Placed) (whole : Joining) → AreSaidBy weights entry c → has_suffixes entry ≡ true
    → are_of_class canonical.class class marks ≡ true → characters_of here ≡ marks
    → HasJoinedTo canonical weights entry c text between (here ++ behind) whole
    → HasJoinedTo canonical weights entry c after between (drop i here ++ behind) whole

pub length_characters : (rs : List Placed) → length (characters_of rs) ≡ length rs
length_characters [] = refl
length_characters (r ∷ rs) = ap (λ n. suc n) (length_characters rs)

-- the mark that is read next, and what stands after it in its class
module _ (class : ℕ → ℕ) (k i : ℕ) (here : List Placed) (marks : List ℕ) (is : characters_of here ≡ marks) (inside : i < length marks) (x : ℕ) (read : x ≡ slice_index marks i) where
  within : i < length here
  within = let same = ap length (sym is) ∙ length_characters here in omega (arith, same, inside)

  pub next : (q : Placed) × (drop i here ≡ q ∷ drop (suc i) here) × (slice_index (characters_of here) i ≡ q.character)
  next = first_dropped here i within

  pub next_is : x ≡ next.0.character
  next_is = read ∙ ap (λ l. slice_index l i) (sym is) ∙ next.2

  pub next_marks : are_of_class class k marks ≡ true → are_of_class class k (characters_of (next.0 ∷ drop (suc i) here)) ≡ true
  next_marks h =
      ap (λ l. are_of_class class k (characters_of l)) (sym next.1)
      ∙ ap (are_of_class class k) (characters_dropped i here ∙ ap (drop i) is)
      ∙ class_dropped class k i marks h
