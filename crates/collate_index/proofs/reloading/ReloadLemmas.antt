-- A reload as it goes over the names: those that have their new keys, and those that are left.
use Rattle.std.proofs.Common.{◌≡◌, ℕ, ◌+◌, ◌<◌, ◌≤◌, Bool, true, false, ◌↔◌, ◌⊎◌, inl, inr, ⊎_elim, List, [], ◌∷◌, ◌++◌, length, refl, sym, ap, ◌∙◌, subst, append-nil, append_assoc, length-append, arith}
use Rattle.std.specs.Bool.{OnFalse, OnTrue}
use Rattle.std.specs.Prelude.{if◌then◌else◌}
use Rattle.std.specs.List.{All}
use Rattle.std.proofs.lemmas.List.{length-map, length_push, map_push}
use Rattle.std.proofs.lemmas.List.Elements.{All-head, All-nil, All-push, All-same, All-tail}
use Rattle.icu_normalizer_core.specs.Decoding.{utf8_chars}
use Rattle.icu_normalizer_core.proofs.decoded.DecodedLemmas.{utf8_scalars}
use Rattle.icu_collator_types.specs.Options.{resolved_options}
use Rattle.icu_collator_types.specs.declared.options.ResolvedCollatorOptions.{ResolvedCollatorOptions}
use Rattle.icu_collator.specs.KeyBytes.{key_of_text}
use Rattle.icu_collator.proofs.orders.OrderSamenessLemmas.{reached_keys}
use Rattle.collate_lines.specs.declared.limits.Limits.{Limits}
use Rattle.collate_lines.specs.Record.{Record}
use Rattle.collate_lines.specs.declared.rule.RecordsError.{RecordsError}
use Rattle.collate_lines.specs.declared.rule.RecordsError.TheVariants.{Fault, Memory as NoMemory}
use Rattle.collate_rules.specs.Accepted.{AreAccepted}
use Rattle.collate_rules.specs.Meaning.{collation_of}
use Rattle.collate_records.specs.Changes.{AreSettingsEqual}
use Rattle.collate_records.specs.Files.{RefusesWithin}
use Rattle.collate_records.proofs.comparing.LocalityLemmas.{leads_alike, read_alike, settings_alike}
use Rattle.collate_records.proofs.reading.ReadingAcceptedLemmas.{accepted_decompose}
use Rattle.collate_laws.specs.Unchanged.{ReachesUnchanged}
use Rattle.collate_name_list.specs.StoredNames.{StoredName, names_of}
use Rattle.collate_index.specs.Catalogue.{Catalogue, meaning_in, options_in, preferences_of, reloaded}
use Rattle.collate_index.specs.Keys.{IsKeyed, key_of_name}
use Rattle.collate_index.specs.Reloads.{AreKeysMade, AreTouched, IsRefused, IsTouched, error_of}

-- ## Why a file is refused

pub refused_for : (limits : Limits) (bytes : List ℕ) (refused : RecordsError) → RefusesWithin limits bytes refused → IsRefused limits bytes (error_of refused)
refused_for limits bytes (Fault fault) first = first
refused_for limits bytes NoMemory first = tt

-- ## One name more, touched or not

touched_more : (old new : List Record) (names : List (List ℕ)) (name : List ℕ) (count : ℕ) → AreTouched old new names count → IsTouched old new name → AreTouched old new (names ++ name ∷ []) (count + 1)
touched_more old new [] name count so_far here = inl (here, 0, ap (λ n. n + 1) so_far, refl)
touched_more old new (first ∷ names) name count so_far here =
    ⊎_elim (λ one. inl (one.0, one.1 + 1, ap (λ n. n + 1) one.2, touched_more old new names name one.1 one.3 here))
    (λ none. inr (none.0, touched_more old new names name count none.1 here)) so_far

same_more : (old new : List Record) (names : List (List ℕ)) (name : List ℕ) (count : ℕ) → AreTouched old new names count → ReachesUnchanged old new (utf8_chars name) → AreTouched old new (names ++ name ∷ []) count
same_more old new [] name count so_far here = inr (here, so_far)
same_more old new (first ∷ names) name count so_far here =
    ⊎_elim (λ one. inl (one.0, one.1, one.2, same_more old new names name one.1 one.3 here))
    (λ none. inr (none.0, same_more old new names name count none.1 here)) so_far

-- ## The names so far

-- these names have their new keys, and those are left, with their old ones; so many keys were made
pub record AreSoFar (old : Catalogue) (new : List Record) (names left : List StoredName) (made : ℕ) : Type 0 where
  pub arrivals : names_of names ++ names_of left ≡ old.arrivals
  pub keyed : All (IsKeyed (meaning_in (reloaded new old))) names
  pub others : All (IsKeyed (meaning_in old)) left
  pub touched : AreSettingsEqual old.records new → AreTouched old.records new (names_of names) made
  pub each : (AreSettingsEqual old.records new → ⊥) → made ≡ length names
  pub few : made ≤ length names

module _ (old : Catalogue) (new : List Record) where
  pub none_yet : (names left : List StoredName) (made : ℕ) → names ≡ [] → made ≡ 0 → names_of left ≡ old.arrivals → All (IsKeyed (meaning_in old)) left → AreSoFar old new names left made
  none_yet names left made none zero all keyed =
      subst (λ ns. AreSoFar old new ns left made) (sym none) (subst (λ n. AreSoFar old new [] left n) (sym zero)
      (record { arrivals = all; keyed = All-nil (IsKeyed (meaning_in (reloaded new old))); others = keyed; touched = λ alike. refl; each = λ changed. refl; few = omega arith }))

  module _ (names left : List StoredName) (made : ℕ) (so_far : AreSoFar old new names left made) (none : left ≡ []) where
    pub all_arrived : names_of names ≡ old.arrivals
    all_arrived = sym (append-nil (names_of names)) ∙ ap (λ ns. names_of names ++ names_of ns) (sym none) ∙ so_far.arrivals

    pub all_made : AreKeysMade old new made
    all_made = record {
      touched = λ alike. subst (λ ns. AreTouched old.records new ns made) all_arrived (so_far.touched alike);
      each = λ changed. so_far.each changed ∙ sym (length-map names (λ (stored : StoredName). stored.name)) ∙ ap length all_arrived;
    }

  module _ (names left later : List StoredName) (stored : StoredName) (made : ℕ) (so_far : AreSoFar old new names left made) (some : left ≡ stored ∷ later) where
    -- fewer keys were made than there are names
    pub still_fewer : made < length old.arrivals
    still_fewer =
        omega (
          arith,
          so_far.few,
          ap length so_far.arrivals,
          ap length some,
          length-append (names_of names) (names_of left),
          length-map names (λ (s : StoredName). s.name),
          length-map left (λ (s : StoredName). s.name),
        )

  -- the key of a name that reaches unchanged characters alone
  module _ (accepted : AreAccepted old.records) (also : AreAccepted new) where
    key_stays : AreSettingsEqual old.records new → (name : List ℕ) → ReachesUnchanged old.records new (utf8_chars name) → key_of_name (meaning_in old) name ≡ key_of_name (meaning_in (reloaded new old)) name
    key_stays settings name unchanged =
        let text : List ℕ = utf8_chars name in
        let options : options_in old ≡ options_in (reloaded new old) = ap (resolved_options old.asked.options (preferences_of old.asked)) settings.values.options in
        reached_keys (collation_of old.records) (collation_of new) (options_in old) (accepted_decompose old.records accepted) (accepted_decompose new also)
        (settings_alike old.records new settings).settings text (read_alike old.records new settings text unchanged) (leads_alike old.records new settings) (utf8_scalars name)
        ∙ ap (λ (o : ResolvedCollatorOptions). key_of_text (collation_of new) o text) options

    module _ (names later : List StoredName) (stored : StoredName) (key : List ℕ) where
      abbrev renewed : StoredName
      renewed = record { key = key; name = stored.name }

      more : names_of (names ++ renewed ∷ []) ≡ names_of names ++ stored.name ∷ []
      more = map_push (λ (s : StoredName). s.name) names renewed

      arrived_more : names_of names ++ names_of (stored ∷ later) ≡ old.arrivals → names_of (names ++ renewed ∷ []) ++ names_of later ≡ old.arrivals
      arrived_more so_far =
          ap (λ ns. ns ++ names_of later) more ∙ append_assoc (names_of names) (stored.name ∷ []) (names_of later) ∙ so_far

      pub one_more : (due alike : Bool) (left : List StoredName) (made now : ℕ) → AreSoFar old new names left made → left ≡ stored ∷ later
          → (alike ≡ true) ↔ AreSettingsEqual old.records new
          → OnTrue due (alike ≡ true → IsTouched old.records new stored.name)
          → OnFalse due ((alike ≡ true) × ReachesUnchanged old.records new (utf8_chars stored.name))
          → key ≡ (if due then key_of_name (meaning_in (reloaded new old)) stored.name else stored.key)
          → now ≡ (if due then made + 1 else made)
          → AreSoFar old new (names ++ record { key = key; name = stored.name } ∷ []) later now
      one_more true alike left made now so_far is told due other keyed counted =
          let here : All (IsKeyed (meaning_in old)) (stored ∷ later) = All-same (IsKeyed (meaning_in old)) (stored ∷ later) left (sym is) so_far.others in
          record {
            arrivals = arrived_more (ap (λ ns. names_of names ++ names_of ns) (sym is) ∙ so_far.arrivals);
            keyed = All-push (IsKeyed (meaning_in (reloaded new old))) names renewed so_far.keyed keyed;
            others = All-tail (IsKeyed (meaning_in old)) stored later here;
            touched = λ settings. subst (λ ns. AreTouched old.records new ns now) (sym more) (subst (λ n. AreTouched old.records new (names_of names ++ stored.name ∷ []) n) (sym counted)
                (touched_more old.records new (names_of names) stored.name made (so_far.touched settings) (due (told.1 settings))));
            each = λ changed. omega (arith, so_far.each changed, length_push names renewed);
            few = omega (arith, so_far.few, length_push names renewed);
          }
      one_more false alike left made now so_far is told due other keyed counted =
          let here : All (IsKeyed (meaning_in old)) (stored ∷ later) = All-same (IsKeyed (meaning_in old)) (stored ∷ later) left (sym is) so_far.others in
          let settings : AreSettingsEqual old.records new = told.0 other.0 in
          record {
            arrivals = arrived_more (ap (λ ns. names_of names ++ names_of ns) (sym is) ∙ so_far.arrivals);
            keyed = All-push (IsKeyed (meaning_in (reloaded new old))) names renewed so_far.keyed
                (keyed ∙ All-head (IsKeyed (meaning_in old)) stored later here ∙ key_stays settings stored.name other.1);
            others = All-tail (IsKeyed (meaning_in old)) stored later here;
            touched = λ _. subst (λ ns. AreTouched old.records new ns now) (sym more) (subst (λ n. AreTouched old.records new (names_of names ++ stored.name ∷ []) n) (sym counted)
                (same_more old.records new (names_of names) stored.name made (so_far.touched settings) other.1));
            each = λ changed. absurd (changed settings);
            few = omega (arith, so_far.few, length_push names renewed);
          }
