-- Catalogues whose records stand in another order: names have the same keys, and stand in the same order.
use Rattle.std.proofs.Common.{◌≡◌, ℕ, List, length, not, ◌&&◌, sym, ap, ◌∙◌, subst}
use Rattle.std.specs.List.Sorted.{IsPermutation}
use Rattle.std.specs.Cmp.Lexicographic.{slice_cmp}
use Rattle.std.specs.Ordering.{nat_cmp}
use Rattle.std.proofs.lemmas.List.Elements.{filter_agree}
use Rattle.icu_normalizer_core.specs.Decoding.{utf8_chars}
use Rattle.icu_normalizer_core.proofs.decoded.DecodedLemmas.{utf8_scalars}
use Rattle.icu_collator_types.specs.Options.{resolved_options}
use Rattle.icu_collator_types.specs.declared.options.ResolvedCollatorOptions.{ResolvedCollatorOptions}
use Rattle.icu_collator.specs.KeyBytes.{key_of_text}
use Rattle.icu_collator.proofs.orders.OrderSamenessLemmas.{keys_same}
use Rattle.collate_lines.specs.Record.{Record}
use Rattle.collate_lines.specs.declared.rule.Rule.TheVariants.{C5, V6, V14}
use Rattle.collate_records.specs.Changes.{AreSettingsEqual, IsUnchanged}
use Rattle.collate_records.proofs.comparing.LineOrderLemmas.{same_composing, same_settings, same_weights}
use Rattle.collate_records.proofs.reading.ReadingAcceptedLemmas.{accepted_decompose}
use Rattle.collate_records.proofs.reordering.AcceptedMovedLemmas.{accepted_moved}
use Rattle.collate_rules.specs.Accepted.{AreAccepted}
use Rattle.collate_rules.specs.Meaning.{collation_of, settings_of}
use Rattle.collate_laws.proofs.FileLawLineOrderLemmas.{moved_settings, moved_unchanged}
use Rattle.collate_lists.specs.Names.{equal_names, in_order, is_equal, is_greater, is_less, names_between}
use Rattle.collate_lists.proofs.NameChangeLemmas.{in_order_alike}
use Rattle.collate_index.specs.Catalogue.{Catalogue, meaning_in, options_in, order_of, preferences_of, sorted_names}
use Rattle.collate_index.specs.Reloads.{AreKeysMade, AreTouched}
use Rattle.collate_index.specs.declared.asked.Asked.{Asked}
use Rattle.collate_index.proofs.order.NameOrderLemmas.{keys_order_in_index}
use Rattle.collate_run.specs.Replies.{key_of_name}
use Rattle.collate_run.proofs.moved.TouchedLemmas.{names_touched_along, settings_along, settings_back}

-- catalogues that differ in the order of accepted records alone
pub record AreMoved (s t : Catalogue) : Type 0 where
  pub limits : s.limits ≡ t.limits
  pub accepted : AreAccepted s.records
  pub records : IsPermutation s.records t.records
  pub asked : s.asked ≡ t.asked
  pub arrivals : s.arrivals ≡ t.arrivals

module _ (s t : Catalogue) (moved : AreMoved s t) where
  also : AreAccepted t.records
  also = accepted_moved s.records t.records moved.records moved.accepted

  options_same : options_in s ≡ options_in t
  options_same =
      ap (resolved_options s.asked.options (preferences_of s.asked)) (moved_settings s.records t.records moved.accepted moved.records).values.options
      ∙ ap (λ (asked : Asked). resolved_options asked.options (preferences_of asked) (settings_of t.records)) moved.asked

  pub key_same : (name : List ℕ) → key_of_name s name ≡ key_of_name t name
  key_same name =
      let once = moved.accepted.keep_rules V14 in
      keys_same (collation_of s.records) (collation_of t.records) (options_in s)
      (same_settings s.records t.records moved.records once).settings
      (same_composing s.records t.records moved.records once (moved.accepted.keep_rules C5)).same
      (same_weights s.records t.records moved.records once (moved.accepted.keep_rules V6))
      (utf8_chars name) (accepted_decompose t.records also) (utf8_scalars name)
      ∙ ap (λ (options : ResolvedCollatorOptions). key_of_text (collation_of t.records) options (utf8_chars name)) options_same

  order_same : (a b : List ℕ) → order_of s a b ≡ order_of t a b
  order_same a b =
      sym (keys_order_in_index (meaning_in s) a b moved.accepted)
      ∙ ap (λ (key : List ℕ). slice_cmp nat_cmp key (key_of_name s b)) (key_same a)
      ∙ ap (λ (key : List ℕ). slice_cmp nat_cmp (key_of_name t a) key) (key_same b)
      ∙ keys_order_in_index (meaning_in t) a b also

  pub sorted_same : sorted_names s ≡ sorted_names t
  sorted_same =
      in_order_alike (order_of s) (order_of t) s.arrivals (λ x y _ _. order_same x y)
      ∙ ap (λ (names : List (List ℕ)). in_order (order_of t) names) moved.arrivals

  pub equal_same : (name : List ℕ) → equal_names (order_of s) name (sorted_names s) ≡ equal_names (order_of t) name (sorted_names t)
  equal_same name =
      filter_agree (λ (other : List ℕ). is_equal (order_of s other name)) (λ (other : List ℕ). is_equal (order_of t other name))
      (λ other. ap is_equal (order_same other name)) (sorted_names s)
      ∙ ap (λ (names : List (List ℕ)). equal_names (order_of t) name names) sorted_same

  pub between_same : (first last : List ℕ)
      → names_between (order_of s) first last (sorted_names s) ≡ names_between (order_of t) first last (sorted_names t)
  between_same first last =
      filter_agree
      (λ (other : List ℕ). not (is_less (order_of s other first)) && not (is_greater (order_of s other last)))
      (λ (other : List ℕ). not (is_less (order_of t other first)) && not (is_greater (order_of t other last)))
      (λ other. cc (order_same other first, order_same other last)) (sorted_names s)
      ∙ ap (λ (names : List (List ℕ)). names_between (order_of t) first last names) sorted_same

  -- a reload makes as many keys
  pub made_same : (new : List Record) (made : ℕ) → AreKeysMade s new made → AreKeysMade t new made
  made_same new made keys =
      let unchanged : (c : ℕ) → IsUnchanged s.records t.records c = λ c. moved_unchanged s.records t.records moved.accepted moved.records c in
      let settings : AreSettingsEqual s.records t.records = moved_settings s.records t.records moved.accepted moved.records in
      record {
        touched = λ equal.
            subst (λ (names : List (List ℕ)). AreTouched t.records new names made) moved.arrivals
            (names_touched_along s.records t.records new unchanged s.arrivals made
            (keys.touched (settings_back s.records t.records new settings equal)));
        each = λ differ. keys.each (λ equal. differ (settings_along s.records t.records new settings equal)) ∙ ap length moved.arrivals;
      }
