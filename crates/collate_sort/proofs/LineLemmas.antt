-- lines and their keys: lines compare as their keys do, and in order stand as the laws of order say
use Rattle.std.proofs.Common.{◌≡◌, ℕ, List, cond, ap, ◌∙◌}
use Rattle.std.specs.Cmp.{IsTotalOrder}
use Rattle.std.specs.Cmp.Lexicographic.{slice_cmp}
use Rattle.std.specs.Ordering.{nat_cmp}
use Rattle.std.specs.List.Sorted.{IsPermutation, IsSorted, IsStable}
use Rattle.std.specs.declared.cmp.Ordering.{Ordering}
use Rattle.std.proofs.lemmas.Cmp.{on_total}
use Rattle.icu_normalizer_core.specs.Decoding.{utf8_chars}
use Rattle.icu_collator_types.specs.declared.options.CollatorOptions.{CollatorOptions}
use Rattle.icu_collator_types.specs.declared.options.CollatorPreferences.{CollatorPreferences}
use Rattle.icu_collator.specs.KeyBytes.{key_of_text}
use Rattle.icu_collator.specs.Order.{collation_order}
use Rattle.collate_laws.specs.Files.{HasPlainLeads, file_options, file_order}
use Rattle.collate_index.specs.Meaning.{meaning_of, name_order, order_by}
use Rattle.collate_index.proofs.order.NameOrderLemmas.{keys_order_in_index, order_total}
use Rattle.collate_keyed_lines.specs.KeyedLines.{KeyedLine, key_order, turned}
use Rattle.collate_keyed_lines.specs.declared.direction.Direction.{Direction}
use Rattle.collate_keyed_lines.specs.declared.direction.Direction.TheVariants.{Ascending, Descending}
use Rattle.collate_keyed_lines.proofs.SlotLemmas.{turned_total}
use Rattle.collate_lines.specs.Lines.{records_of}
use Rattle.collate_lines.specs.declared.limits.Limits.{Limits}
use Rattle.collate_lists.specs.Names.{in_order}
use Rattle.collate_lists.proofs.NamesLemmas.{in_order_is_permutation, in_order_is_sorted, in_order_is_stable}
use Rattle.collate_rules.specs.Accepted.{AreAccepted}
use Rattle.collate_rules.specs.Meaning.{collation_of}
use Rattle.collate_sort.specs.Keys.{key_by_rule}
use Rattle.collate_sort.specs.Lists.{IsKeyed, without_key}
use Rattle.collate_sort.specs.Orders.{Line, LineRule, line_order, rule_of}

-- ---- the order of lines

pub line_order_total : (rule : LineRule) → IsTotalOrder (line_order rule)
line_order_total rule =
    on_total (λ (line : Line). line.text)
    (turned_total (order_by (meaning_of rule.records.lines rule.options)) (order_total (meaning_of rule.records.lines rule.options)) rule.direction)

pub same_lines : (rule : LineRule) (lines : List Line) → IsPermutation lines (in_order (line_order rule) lines)
same_lines rule lines = in_order_is_permutation (line_order rule) lines

pub sorted_lines : (rule : LineRule) (lines : List Line) → IsSorted (line_order rule) (in_order (line_order rule) lines)
sorted_lines rule lines = in_order_is_sorted (line_order rule) (line_order_total rule) lines

pub stable_lines : (rule : LineRule) (lines : List Line) → IsStable (line_order rule) lines (in_order (line_order rule) lines)
stable_lines rule lines = in_order_is_stable (line_order rule) (line_order_total rule) lines

-- texts compare as a file of plain leads says
texts_by_file : (file : List ℕ) (options : CollatorOptions) (preferences : CollatorPreferences) → HasPlainLeads file options preferences → (x y : List ℕ)
    → order_by (meaning_of (records_of file) (file_options file options preferences)) x y ≡ file_order file options preferences (utf8_chars x) (utf8_chars y)
unfolding order_by name_order
texts_by_file file options preferences plain x y =
    let collation = collation_of (records_of file) in
    let resolved = file_options file options preferences in
    let by_keys : Ordering = slice_cmp nat_cmp (key_of_text collation resolved (utf8_chars x)) (key_of_text collation resolved (utf8_chars y)) in
    ap (λ b. cond b (collation_order collation resolved (utf8_chars x) (utf8_chars y)) by_keys) plain

turned_same : {A : Type 0} (R S : A → A → Ordering) → ((x y : A) → R x y ≡ S x y) → (d : Direction) (x y : A) → turned d R x y ≡ turned d S x y
turned_same R S same Ascending x y = same x y
turned_same R S same Descending x y = same y x

pub as_the_file_says : (limits : Limits) (file : List ℕ) (options : CollatorOptions) (preferences : CollatorPreferences) (direction : Direction) (a b : Line)
    → HasPlainLeads file options preferences
    → line_order (rule_of (record { limits = limits; lines = records_of file }) options preferences direction) a b
    ≡ turned direction (λ x y. file_order file options preferences (utf8_chars x) (utf8_chars y)) a.text b.text
as_the_file_says limits file options preferences direction a b plain =
    turned_same (order_by (meaning_of (records_of file) (file_options file options preferences))) (λ x y. file_order file options preferences (utf8_chars x) (utf8_chars y))
    (texts_by_file file options preferences plain) direction a.text b.text

-- ---- lines with their keys

module _ (rule : LineRule) (accepted : AreAccepted rule.records.lines) where
  keys_compare : (a b : KeyedLine) → IsKeyed rule a → IsKeyed rule b → key_order a b ≡ order_by (meaning_of rule.records.lines rule.options) a.text b.text
  keys_compare a b of_a of_b =
      ap (λ (k : List ℕ). slice_cmp nat_cmp k b.key) of_a
      ∙ ap (λ (k : List ℕ). slice_cmp nat_cmp (key_by_rule rule a.text) k) of_b
      ∙ keys_order_in_index (meaning_of rule.records.lines rule.options) a.text b.text accepted

  turned_keys : (d : Direction) (a b : KeyedLine) → IsKeyed rule a → IsKeyed rule b
      → turned d key_order a b ≡ turned d (order_by (meaning_of rule.records.lines rule.options)) a.text b.text
  turned_keys Ascending a b of_a of_b = keys_compare a b of_a of_b
  turned_keys Descending a b of_a of_b = keys_compare b a of_b of_a

  -- lines compare as their keys, turned as the rule says
  pub lines_compare : (a b : KeyedLine) → IsKeyed rule a → IsKeyed rule b → turned rule.direction key_order a b ≡ line_order rule (without_key a) (without_key b)
  lines_compare a b of_a of_b = turned_keys rule.direction a b of_a of_b
