-- What is left of a run, class by class.
use Rattle.std.proofs.Common.{◌≡◌, ℕ, zero, suc, ◌+◌, ◌<◌, ◌≤◌, ◌==◌, Bool, true, false, ◌&&◌, List, [], ◌∷◌, ◌++◌, length, take, drop, None, refl, sym, ◌∙◌, ap, subst, arith, append_assoc, append-nil, length-append, length-drop, inl, inr}
use Rattle.std.specs.Prelude.{get_or, not, set, slice_index}
use Rattle.std.specs.List.{list_all}
use Rattle.std.proofs.lemmas.Bool.{and_from, and_parts, cases_eq, eq-eqb, eqb-true, false≢true, lt-ltb}
use Rattle.std.proofs.lemmas.Grind.{flat_map-append}
use Rattle.std.proofs.lemmas.List.{drop-append-le, drop-set-lt, drop_all, drop_more, length-take-le, take-append-drop, take_all, take_more, take_more_set}
use Rattle.std.proofs.lemmas.List.Folds.{list_all-append}
use lib.Utf8.{scalar, scalars}
use Rattle.icu_char16trie.specs.Cursors.{cursor_state, cursor_units}
use Rattle.icu_char16trie.specs.UnitSteps.{start}
use Rattle.icu_char16trie.specs.declared.Char16TrieIterator.{Char16TrieIterator}
use Rattle.icu_normalizer_core.specs.Canonical.{Canonical}
use Rattle.icu_collator_core.specs.declared.reading.mark_runs.ClassMarks.{ClassMarks}
use Rattle.icu_collator_core.specs.declared.reading.mark_runs.MarkedText.{MarkedText}
use Rattle.icu_collator_core.specs.Elements.{Placed, characters_of, joining, placed}
use Rattle.icu_collator_core.specs.JoinedTexts.{has_suffixes}
use Rattle.icu_collator_core.specs.MarkRuns.{HasJoinedTo, HasLeft, HasMetClass, are_of_class, are_of_classes, ends_run, is_class_of_marks, marks_left}
use Rattle.icu_collator_core.specs.ReadTexts.{suffix_units}
use Rattle.icu_collator_core.specs.ReadWords.{AreSaidBy}
use Rattle.icu_collator_core.specs.TableMeaning.{TableWord}
use Rattle.icu_collator_core.specs.Weights.{Weights}
use Rattle.icu_collator_core.proofs.lookups.FoundTextLemmas.{joining_alone}
use Rattle.icu_collator_core.proofs.lookups.OpenTextLemmas.{joining_ends, placed_next, scalars_behind}
use Rattle.icu_collator_core.proofs.lookups.PlacedLemmas.{take_less}
use Rattle.icu_collator_core.proofs.lookups.JoinedTextLemmas.{placed_end}
use Rattle.icu_collator_core.proofs.lookups.PrefixLemmas.{scalars_join}

-- ---- A class of them

module _ (classes : List ClassMarks) (i : ℕ) (inside : i < length classes) (x : ClassMarks) (read : x ≡ get_or classes i x) where
  from_here : drop i classes ≡ x ∷ drop (i + 1) classes
  from_here = drop_more classes i x inside ∙ ap (λ y. y ∷ drop (i + 1) classes) (sym read)

  pub left_here : marks_left (drop i classes) ≡ x.marks.now ++ marks_left (drop (i + 1) classes)
  left_here = ap marks_left from_here

  all_here : (test : ClassMarks → Bool) → list_all test classes ≡ (list_all test (take i classes) && (test x && list_all test (drop (i + 1) classes)))
  all_here test =
      ap (list_all test) (sym (take-append-drop i classes)) ∙ list_all-append test (take i classes) (drop i classes)
      ∙ ap (λ l. list_all test (take i classes) && list_all test l) from_here

  module _ (y : ClassMarks) where
    abbrev new : List ClassMarks
    new = set classes i y

    behind_new : drop (i + 1) new ≡ drop (i + 1) classes
    behind_new = drop-set-lt (i + 1) classes i y (omega arith)

    front_new : take (i + 1) new ≡ take i classes ++ y ∷ []
    front_new = take_more_set classes i y inside

    new_is : new ≡ take i classes ++ y ∷ drop (i + 1) classes
    new_is =
        sym (take-append-drop (i + 1) new) ∙ ap (λ l. l ++ drop (i + 1) new) front_new ∙ ap (λ l. (take i classes ++ y ∷ []) ++ l) behind_new
        ∙ append_assoc (take i classes) (y ∷ []) (drop (i + 1) classes)

    pub left_before : marks_left (take (i + 1) new) ≡ marks_left (take i classes) ++ y.marks.now
    left_before =
        ap marks_left front_new ∙ flat_map-append (λ m. m.marks.now) (take i classes) (y ∷ [])
        ∙ ap (λ l. marks_left (take i classes) ++ l) (append-nil y.marks.now)

    pub left_behind : marks_left (drop (i + 1) new) ≡ marks_left (drop (i + 1) classes)
    left_behind = ap marks_left behind_new

    pub left_new : marks_left new ≡ marks_left (take i classes) ++ (y.marks.now ++ marks_left (drop (i + 1) classes))
    left_new = ap marks_left new_is ∙ flat_map-append (λ m. m.marks.now) (take i classes) (y ∷ drop (i + 1) classes)

    -- a test that what is left of the class passes too is passed by all
    pub all_new : (test : ClassMarks → Bool) → (test x ≡ true → test y ≡ true) → list_all test classes ≡ true → list_all test new ≡ true
    all_new test kept h =
        let parts = and_parts (list_all test (take i classes)) _ (sym (all_here test) ∙ h) in
        let rest = and_parts (test x) (list_all test (drop (i + 1) classes)) parts.1 in
        ap (list_all test) new_is ∙ list_all-append test (take i classes) (y ∷ drop (i + 1) classes)
        ∙ and_from (list_all test (take i classes)) _ parts.0 (and_from (test y) (list_all test (drop (i + 1) classes)) (kept rest.0) rest.1)

  pub left_all : marks_left classes ≡ marks_left (take i classes) ++ (x.marks.now ++ marks_left (drop (i + 1) classes))
  left_all =
      ap marks_left (sym (take-append-drop i classes)) ∙ flat_map-append (λ m. m.marks.now) (take i classes) (drop i classes)
      ∙ ap (λ l. marks_left (take i classes) ++ l) left_here

  pub fewer_new : (y : ClassMarks) → length y.marks.now ≤ length x.marks.now → length (marks_left (set classes i y)) ≤ length (marks_left classes)
  fewer_new y fewer =
      let front = marks_left (take i classes) in
      let back = marks_left (drop (i + 1) classes) in
      let before = ap length (left_new y) ∙ length-append front (y.marks.now ++ back) in
      let after = ap length left_all ∙ length-append front (x.marks.now ++ back) in
      let one = length-append y.marks.now back in
      let two = length-append x.marks.now back in
      omega (arith, before, after, one, two, fewer)

  pub of_class_here : (class : ℕ → ℕ) → are_of_classes class classes ≡ true → is_class_of_marks class x ≡ true
  of_class_here class h =
      (and_parts (is_class_of_marks class x) _ (and_parts (list_all (is_class_of_marks class) (take i classes)) _ (sym (all_here (is_class_of_marks class)) ∙ h)).1).0

class_scalars : (class : ℕ → ℕ) (k : ℕ) (cs : List ℕ) → are_of_class class k cs ≡ true → scalars cs ≡ true
class_scalars class k [] h = refl
class_scalars class k (c ∷ cs) h =
    let parts = and_parts (scalar c && (class c == k)) (are_of_class class k cs) h in
    and_from (scalar c) (scalars cs) (and_parts (scalar c) (class c == k) parts.0).0 (class_scalars class k cs parts.1)

pub left_scalars : (class : ℕ → ℕ) (classes : List ClassMarks) → are_of_classes class classes ≡ true → scalars (marks_left classes) ≡ true
left_scalars class [] h = refl
left_scalars class (m ∷ ms) h =
    let parts = and_parts (is_class_of_marks class m) (are_of_classes class ms) h in
    scalars_join m.marks.now (marks_left ms)
    (class_scalars class m.class m.marks.now (and_parts (not (m.class == 0)) (are_of_class class m.class m.marks.now) parts.0).1)
    (left_scalars class ms parts.1)

-- ---- Characters of parts

pub characters_joined : (here behind : List Placed) → characters_of (here ++ behind) ≡ characters_of here ++ characters_of behind
characters_joined [] behind = refl
characters_joined (p ∷ here) behind = ap (λ l. p.character ∷ l) (characters_joined here behind)

-- a list whose characters are two lists one after the other is two lists
pub split_characters : (xs ys : List ℕ) (here : List Placed) → characters_of here ≡ xs ++ ys
    → (front : List Placed) × (back : List Placed) × (here ≡ front ++ back) × (characters_of front ≡ xs) × (characters_of back ≡ ys)
split_characters [] ys here e = ([], here, refl, refl, e)
split_characters (x ∷ xs) ys [] e = absurd (cc)
split_characters (x ∷ xs) ys (p ∷ here) e =
    let rest = split_characters xs ys here (cc) in
    let first : p.character ≡ x = cc in
    (p ∷ rest.0, rest.1, ap (λ l. p ∷ l) rest.2, (ap (λ l. p.character ∷ l) rest.3 ∙ ap (λ d. d ∷ xs) first), rest.4)

-- ---- A text that the first classes have met

pub record HasMet (canonical : Canonical) (weights : Weights) (entry : TableWord) (c : ℕ) (here behind : List Placed) (classes : List ClassMarks) (i : ℕ) (text : MarkedText) : Type 0 where
  pub between : List Placed
  pub later : List Placed
  pub left : characters_of between ≡ marks_left (take i classes)
  pub next : characters_of later ≡ marks_left (drop i classes)
  pub joined : HasJoinedTo canonical weights entry c text between (later ++ behind) (joining canonical weights (c ∷ []) [] (here ++ behind))

abbrev pub HaveMet : TableWord → List ClassMarks → List ClassMarks → ℕ → MarkedText → Type 0
HaveMet entry old classes i text =
    (canonical : Canonical) (weights : Weights) (c : ℕ) (here behind : List Placed) → AreSaidBy weights entry c
    → are_of_classes canonical.class old ≡ true → characters_of here ≡ marks_left old
    → HasMet canonical weights entry c here behind classes i text

-- none has
pub none_met : (entry : TableWord) (classes : List ClassMarks) (cursor : Char16TrieIterator) → cursor_units cursor ≡ suffix_units entry
    → cursor_state cursor ≡ start (suffix_units entry) → HaveMet entry classes classes 0 (record { cursor = cursor; word = None; highest = 0 })
none_met entry classes cursor reads stands canonical weights c here behind said of is =
    record {
      between = [];
      later = here;
      left = refl;
      next = is;
      joined =
          record {
            joined = [];
            stands = record { reads = reads; stands = stands };
            spelled = refl;
            said = refl;
            highest = λ k some. sym (lt-ltb 0 k some);
            same = refl;
          };
    }

-- one more has
pub one_more_met : (entry : TableWord) (old classes : List ClassMarks) (i : ℕ) (text : MarkedText) (x y : ClassMarks) (after : MarkedText) → i < length classes → x ≡ get_or classes i x
    → has_suffixes entry ≡ true → ((class : ℕ → ℕ) → are_of_classes class old ≡ true → are_of_classes class classes ≡ true)
    → HasMetClass entry x text y after → HaveMet entry old classes i text → HaveMet entry old (set classes i y) (i + 1) after
one_more_met entry old classes i text x y after inside read suffixed kept met h canonical weights c here behind said of is =
    let at = h canonical weights c here behind said of is in
    let parts = split_characters x.marks.now (marks_left (drop (i + 1) classes)) at.later (at.next ∙ left_here classes i inside x read) in
    let whole = joining canonical weights (c ∷ []) [] (here ++ behind) in
    let before : HasJoinedTo canonical weights entry c text at.between (parts.0 ++ (parts.1 ++ behind)) whole =
    subst (λ l. HasJoinedTo canonical weights entry c text at.between l whole) (ap (λ l. l ++ behind) parts.2 ∙ append_assoc parts.0 parts.1 behind) at.joined in
    let now = met canonical weights c at.between parts.0 (parts.1 ++ behind) whole said suffixed (of_class_here classes i inside x read canonical.class (kept canonical.class of)) parts.3 before in
    record {
      between = at.between ++ now.0;
      later = parts.1;
      left =
          characters_joined at.between now.0 ∙ ap (λ l. l ++ characters_of now.0) at.left ∙ ap (λ l. marks_left (take i classes) ++ l) now.1
          ∙ sym (left_before classes i inside x read y);
      next = parts.4 ∙ sym (left_behind classes i inside x read y);
      joined = now.2;
    }

-- after a run no mark joins
run_ended : (canonical : Canonical) (weights : Weights) (text : List ℕ) (between behind : List Placed) → ends_run canonical.class behind ≡ true
    → joining canonical weights text between behind ≡ record { text = text; left = between ++ behind }
unfolding joining
run_ended canonical weights text between [] e = ap (λ l. record { text = text; left = l }) (sym (append-nil between))
run_ended canonical weights text between (p ∷ ps) e = joining_ends canonical weights text between p ps e

pub no_characters : (here : List Placed) → characters_of here ≡ [] → here ≡ []
no_characters [] e = refl
no_characters (p ∷ here) e = absurd (cc)

-- all have
pub all_met : (entry : TableWord) (old classes : List ClassMarks) (i : ℕ) (text : MarkedText) → length classes ≤ i → HaveMet entry old classes i text → HasLeft entry old classes text.word
all_met entry old classes i text over h canonical weights c here behind said of is ended spelled =
    let at = h canonical weights c here behind said of is in
    let none : at.later ≡ [] = no_characters at.later (at.next ∙ ap marks_left (drop_all i classes over)) in
    let last : HasJoinedTo canonical weights entry c text at.between behind (joining canonical weights (c ∷ []) [] (here ++ behind)) =
    subst (λ l. HasJoinedTo canonical weights entry c text at.between (l ++ behind) (joining canonical weights (c ∷ []) [] (here ++ behind))) none at.joined in
    record {
      joined = last.joined;
      between = at.between;
      said = last.said;
      left = at.left ∙ ap marks_left (take_all i classes over);
      same = sym last.same ∙ run_ended canonical weights (c ∷ last.joined) at.between behind ended;
    }

-- a character that begins no longer text takes none
pub none_taken : (entry : TableWord) (classes : List ClassMarks) → has_suffixes entry ≡ false → HasLeft entry classes classes None
none_taken entry classes alone canonical weights c here behind said of is ended spelled =
    let ok : scalars (characters_of (here ++ behind)) ≡ true =
    ap scalars (characters_joined here behind) ∙ scalars_join (characters_of here) (characters_of behind) (ap scalars is ∙ left_scalars canonical.class classes of) spelled in
    record {
      joined = [];
      between = here;
      said = refl;
      left = is;
      same = joining_alone canonical weights entry c said alone [] (here ++ behind) ok;
    }

pub some_class : (k : ℕ) → not (k == 0) ≡ true → 0 < k
some_class zero h = absurd (false≢true h)
some_class (suc k) h = omega arith

-- ---- The first of them

module _ (classes : List ClassMarks) (i : ℕ) (inside : i < length classes) (x : ClassMarks) (read : x ≡ get_or classes i x) (empty : marks_left (take i classes) ≡ []) where
  abbrev back : List ℕ
  back = marks_left (drop (i + 1) classes)

  pub first_there : (c : ℕ) (rest : List ℕ) → x.marks.now ≡ c ∷ rest → marks_left classes ≡ c ∷ (rest ++ back)
  first_there c rest is =
      left_all classes i inside x read ∙ ap (λ l. l ++ (x.marks.now ++ back)) empty ∙ ap (λ l. l ++ back) is

  pub first_is : (c : ℕ) (rest : List ℕ) → x.marks.now ≡ c ∷ rest → marks_left classes ≡ c ∷ drop 1 (marks_left classes)
  first_is c rest is = let e = first_there c rest is in e ∙ ap (λ l. c ∷ drop 1 l) (sym e)

  pub first_taken : (c : ℕ) (y : ClassMarks) → x.marks.now ≡ c ∷ y.marks.now → marks_left classes ≡ c ∷ marks_left (set classes i y)
  first_taken c y is =
      first_there c y.marks.now is
      ∙ ap (λ l. c ∷ l) (sym (left_new classes i inside x read y ∙ ap (λ l. l ++ (y.marks.now ++ back)) empty))

  pub still_none : x.marks.now ≡ [] → marks_left (take (i + 1) classes) ≡ []
  still_none none =
      ap marks_left (take_more classes i x inside ∙ ap (λ y. take i classes ++ y ∷ []) (sym read))
      ∙ flat_map-append (λ m. m.marks.now) (take i classes) (x ∷ [])
      ∙ ap (λ l. l ++ (x.marks.now ++ [])) empty ∙ ap (λ l. l ++ []) none

pub none_left : (classes : List ClassMarks) (i : ℕ) → length classes ≤ i → marks_left (take i classes) ≡ [] → marks_left classes ≡ []
none_left classes i over h = ap marks_left (sym (take_all i classes over)) ∙ h

-- the first is a mark
first_in : (class : ℕ → ℕ) (k : ℕ) (marks rest : List ℕ) (c : ℕ) (cs : List ℕ) → not (k == 0) ≡ true → are_of_class class k marks ≡ true → marks ++ rest ≡ c ∷ cs
    → (rest ≡ c ∷ cs → not (class c == 0) ≡ true) → not (class c == 0) ≡ true
first_in class k [] rest c cs some h e others = others e
first_in class k (d ∷ marks) rest c cs some h e others =
    let same : d ≡ c = cc in
    let first = and_parts (scalar d && (class d == k)) (are_of_class class k marks) h in
    let is = eqb-true (class d) k (and_parts (scalar d) (class d == k) first.0).1 in
    ap (λ x. not (class x == 0)) (sym same) ∙ ap (λ n. not (n == 0)) is ∙ some

pub first_is_mark : (class : ℕ → ℕ) (classes : List ClassMarks) (c : ℕ) (cs : List ℕ) → are_of_classes class classes ≡ true → marks_left classes ≡ c ∷ cs
    → not (class c == 0) ≡ true
first_is_mark class [] c cs h e = absurd (cc)
first_is_mark class (m ∷ ms) c cs h e =
    let parts = and_parts (is_class_of_marks class m) (are_of_classes class ms) h in
    let own = and_parts (not (m.class == 0)) (are_of_class class m.class m.marks.now) parts.0 in
    first_in class m.class m.marks.now (marks_left ms) c cs own.0 own.1 e (first_is_mark class ms c cs parts.1)

-- ---- Where a run is gathered

pub scalar_at : (list : List ℕ) (i : ℕ) → i < length list → scalars list ≡ true → scalar (slice_index list i) ≡ true
scalar_at list i inside ok =
    (and_parts (scalar (slice_index list i)) (scalars (drop (i + 1) list)) (ap scalars (sym (drop_more list i 0 inside)) ∙ scalars_behind i list ok)).0

pub class_more : (class : ℕ → ℕ) (k index i : ℕ) (list : List ℕ) → index ≤ i → i < length list → scalars list ≡ true → class (slice_index list i) ≡ k
    → are_of_class class k (drop index (take i list)) ≡ true → are_of_class class k (drop index (take (i + 1) list)) ≡ true
class_more class k index i list order inside ok is h =
    let x = slice_index list i in
    let front : index ≤ length (take i list) = let count = length-take-le i list (omega (arith, inside)) in omega (arith, count, order) in
    ap (are_of_class class k) (ap (drop index) (take_more list i 0 inside) ∙ drop-append-le index (take i list) (x ∷ []) front)
    ∙ list_all-append (λ c. scalar c && (class c == k)) (drop index (take i list)) (x ∷ [])
    ∙ and_from _ _ h (and_from (scalar x && (class x == k)) true (and_from (scalar x) (class x == k) (scalar_at list i inside ok) (eq-eqb (class x) k is)) refl)

pub class_none : (class : ℕ → ℕ) (k index : ℕ) (list : List ℕ) → index ≤ length list → are_of_class class k (drop index (take index list)) ≡ true
class_none class k index list within =
    ap (are_of_class class k) (drop_all index (take index list) (let count = length-take-le index list within in omega (arith, count)))

pub parts_joined : (index mid next : ℕ) (list : List ℕ) → index ≤ mid → mid ≤ next → next ≤ length list
    → drop index (take next list) ≡ drop index (take mid list) ++ drop mid (take next list)
parts_joined index mid next list first second within =
    let front : take mid (take next list) ≡ take mid list = take_less mid next list second in
    let count : length (take mid list) ≡ mid = length-take-le mid list (omega (arith, second, within)) in
    ap (drop index) (sym (take-append-drop mid (take next list)) ∙ ap (λ l. l ++ drop mid (take next list)) front)
    ∙ drop-append-le index (take mid list) (drop mid (take next list)) (omega (arith, count, first))

pub gathered_more : (class : ℕ → ℕ) (index end next : ℕ) (list : List ℕ) (classes : List ClassMarks) (x : ClassMarks) → index ≤ end → end ≤ next → next ≤ length list
    → x.marks.now ≡ drop end (take next list) → marks_left classes ≡ drop index (take end list) → marks_left (classes ++ x ∷ []) ≡ drop index (take next list)
gathered_more class index end next list classes x first second within is h =
    flat_map-append (λ m. m.marks.now) classes (x ∷ []) ∙ ap (λ l. marks_left classes ++ l) (append-nil x.marks.now ∙ is)
    ∙ ap (λ l. l ++ drop end (take next list)) h ∙ sym (parts_joined index end next list first second within)

pub classes_more : (class : ℕ → ℕ) (classes : List ClassMarks) (x : ClassMarks) → are_of_classes class classes ≡ true → is_class_of_marks class x ≡ true
    → are_of_classes class (classes ++ x ∷ []) ≡ true
classes_more class classes x h is =
    list_all-append (is_class_of_marks class) classes (x ∷ []) ∙ and_from _ _ h (and_from (is_class_of_marks class x) true is refl)

pub ends_at_starter : (class : ℕ → ℕ) (end : ℕ) (list : List ℕ) → end < length list → class (slice_index list end) ≡ 0 → ends_run class (drop end (placed list)) ≡ true
ends_at_starter class end list inside is =
    let m = slice_index list end in
    ap (ends_run class) (placed_next end m list (omega (arith, inside)) (drop_more list end 0 inside)) ∙ eq-eqb (class m) 0 is

pub ends_at_end : (class : ℕ → ℕ) (end : ℕ) (list : List ℕ) → end ≡ length list → ends_run class (drop end (placed list)) ≡ true
ends_at_end class end list e = ap (ends_run class) (placed_end end list e)

pub run_some : (class : ℕ → ℕ) (index end : ℕ) (list : List ℕ) → index < length list → not (class (slice_index list index) == 0) ≡ true → index ≤ end
    → ends_run class (drop end (placed list)) ≡ true → index < end
run_some class index end list inside mark order ended = elim (cases_eq index end) [
  | inl e ↦
      let m = slice_index list index in
      let here : ends_run class (drop index (placed list)) ≡ (class m == 0) =
      ap (ends_run class) (placed_next index m list (omega (arith, inside)) (drop_more list index 0 inside)) in
      let starter : (class m == 0) ≡ true = sym here ∙ ap (λ n. ends_run class (drop n (placed list))) e ∙ ended in
      absurd (false≢true (sym (ap not starter) ∙ mark))
  | inr other ↦ omega (arith, order, other)
]

pub part_length : (index end : ℕ) (list cs : List ℕ) → index ≤ end → end ≤ length list → cs ≡ drop index (take end list) → index + length cs ≡ end
part_length index end list cs order within e =
    let one = ap length e ∙ length-drop index (take end list) in
    let two = length-take-le end list within in
    omega (arith, one, two, order)

pub nothing_there : (cs : List ℕ) → length cs ≤ 0 → cs ≡ []
nothing_there [] few = refl
nothing_there (c ∷ cs) few = absurd (omega (arith, few))

-- what is left of a class without its first mark is of the class
pub without_first : (class : ℕ → ℕ) (x y : ClassMarks) (c : ℕ) → y.class ≡ x.class → x.marks.now ≡ c ∷ y.marks.now
    → is_class_of_marks class x ≡ true → is_class_of_marks class y ≡ true
without_first class x y c same is h =
    let parts = and_parts (not (x.class == 0)) (are_of_class class x.class x.marks.now) h in
    let all : are_of_class class x.class (c ∷ y.marks.now) ≡ true = ap (are_of_class class x.class) (sym is) ∙ parts.1 in
    and_from (not (y.class == 0)) (are_of_class class y.class y.marks.now) (ap (λ k. not (k == 0)) same ∙ parts.0)
    (ap (λ k. are_of_class class k y.marks.now) same ∙ (and_parts (scalar c && (class c == x.class)) (are_of_class class x.class y.marks.now) all).1)
