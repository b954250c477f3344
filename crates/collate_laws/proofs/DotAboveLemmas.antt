-- Where an accepted file has the dot above dropped before accents, the dot has no primary weight wherever it stands.
use Rattle.std.proofs.Common.{◌≡◌, ℕ, ◌==◌, Bool, true, false, not, ◌&&◌, ◌||◌, List, [], ◌∷◌, Option, Some, None, refl, sym, ap, ◌∙◌, arith}
use Rattle.std.specs.Bool.{IsTrue}
use Rattle.std.specs.List.{list_any}
use Rattle.std.specs.Option.{is_some}
use Rattle.std.proofs.lemmas.Bool.{and_from, and_parts, false_from_ne_true, false≢true, not-false, or_from, or_parts, true≢false}
use Rattle.std.proofs.lemmas.List.Folds.{list_any_at}
use Rattle.std.proofs.lemmas.Option.{none-some}
use Rattle.icu_collator_types.specs.declared.elements.Element.{Element}
use Rattle.icu_collator.specs.NumbersInTexts.{AreDotsLight, IsDotLight, are_light, is_digit}
use Rattle.collate_lines.specs.declared.rule.Rule.TheVariants.{V15}
use Rattle.collate_lines.specs.Record.{Record, weights, Layer, root, tailoring}
use Rattle.collate_lines.specs.Repeats.{record_at}
use Rattle.collate_rules.specs.Accepted.{AreAccepted}
use Rattle.collate_rules.specs.Meaning.{dot_above_in, elements_in, first_found, recorded_in, set_to, weights_of}
use Rattle.collate_rules.specs.RecordRules.{breaks_dot_above, dotted_marks, is_bad_dotted, is_common_secondary, is_further, is_other_mark, is_replaced}
use Rattle.collate_rules.proofs.lookups.FoundLemmas.{found_at}
use Rattle.collate_rules.proofs.offenders.BreachLemmas.{none_together}
use Rattle.collate_compile.proofs.laws.CompiledLineLemmas.{elements_line, none_at}
use Rattle.collate_laws.proofs.NumberLawApartLemmas.{some_of}

-- where no line says it, no line passes
module _ {B : Type 0} (f : Record → Option B) where
  none_by_head : (line : Record) (lines : List Record) → (first_found f lines ≡ None → list_any (λ other. is_some (f other)) lines ≡ false)
      → (o : Option B) → f line ≡ o → ◌≡◌ {A = Option B} (elim o [ Some x ↦ Some x | None ↦ first_found f lines ]) None
      → list_any (λ other. is_some (f other)) (line ∷ lines) ≡ false
  none_by_head line lines later (Some x) is h = absurd (none-some x (sym h))
  none_by_head line lines later None is h =
      or_from (is_some (f line)) (list_any (λ other. is_some (f other)) lines) (ap (λ o. is_some o) is) (later h)

  none_found : (lines : List Record) → first_found f lines ≡ None → list_any (λ line. is_some (f line)) lines ≡ false
  none_found [] e = refl
  none_found (line ∷ lines) e = none_by_head line lines (none_found lines) (f line) refl e

light_mark : (es : List Element) → is_common_secondary es ≡ true → are_light es ≡ true
light_mark (e ∷ []) h =
    let outer = and_parts ((e.primary == 0) && (e.case == 0) && (e.tertiary == 0x500)) (e.quaternary == 0) h in
    let middle = and_parts ((e.primary == 0) && (e.case == 0)) (e.tertiary == 0x500) outer.0 in
    and_from (e.primary == 0) true (and_parts (e.primary == 0) (e.case == 0) middle.0).0 refl
light_mark [] h = absurd (false≢true h)
light_mark (e ∷ f ∷ fs) h = absurd (false≢true h)

module _ (records : List Record) (accepted : AreAccepted records) (on : set_to dot_above_in false records ≡ true) where
  -- V15
  dot_is_good : is_bad_dotted records records 0x307 ≡ false
  dot_is_good =
      let none = none_together (λ lines. IsTrue (breaks_dot_above records lines)) (λ e. false≢true e) records (accepted.keep_rules V15) in
      false_from_ne_true (is_bad_dotted records records 0x307)
      (λ bad. none
      (and_from (set_to dot_above_in false records) (list_any (is_bad_dotted records records) dotted_marks) on
      (list_any_at (is_bad_dotted records records) dotted_marks 7 0 (omega arith) bad)))

  no_line_breaks : list_any (λ line. is_further records 0x307 line || is_other_mark records 0x307 line) records ≡ false
  no_line_breaks = (or_parts _ _ dot_is_good).1

  -- a line that is not replaced keeps the rule
  kept : (layer : Layer) (prefix text : List ℕ) (es : List Element) → first_found (elements_in layer prefix text) records ≡ Some es
      → (is_further records 0x307 (weights layer prefix text es) || is_other_mark records 0x307 (weights layer prefix text es)) ≡ false
  kept layer prefix text es h =
      let found = found_at (elements_in layer prefix text) records es h in
      let says = elements_line layer prefix text (record_at records found.0) es found.2 in
      let test : Record → Bool = λ line. is_further records 0x307 line || is_other_mark records 0x307 line in
      false_from_ne_true (test (weights layer prefix text es))
      (λ bad. none_at test records found.0 (λ some. true≢false (sym some ∙ no_line_breaks)) found.1 (ap test says ∙ bad))

  -- what counts of a text is on a line of a layer that is not replaced
  counted : (prefix text : List ℕ) (es : List Element) → recorded_in records prefix text ≡ Some es
      → (layer : Layer) × (first_found (elements_in layer prefix text) records ≡ Some es) × (is_replaced records layer prefix text ≡ false)
  counted prefix text es h = at (first_found (elements_in tailoring prefix text) records) refl h
    where
      at : (o : Option (List Element)) → first_found (elements_in tailoring prefix text) records ≡ o
          → (elim o [ Some fs ↦ Some fs | None ↦ first_found (elements_in root prefix text) records ]) ≡ Some es
          → (layer : Layer) × (first_found (elements_in layer prefix text) records ≡ Some es) × (is_replaced records layer prefix text ≡ false)
      at (Some fs) is k = (tailoring, is ∙ k, refl)
      at None is k = (root, k, none_found (elements_in tailoring prefix text) records is)

  light : (es : List Element) → recorded_in records [] (0x307 ∷ []) ≡ Some es → are_light es ≡ true
  light es h =
      let line = counted [] (0x307 ∷ []) es h in
      let given = weights line.0 [] (0x307 ∷ []) es in
      let other = (or_parts (is_further records 0x307 given) (is_other_mark records 0x307 given) (kept line.0 [] (0x307 ∷ []) es line.1)).1 in
      light_mark es
      (not-false (is_common_secondary es)
      (ap (λ (b : Bool). not b && not (is_common_secondary es)) (sym line.2) ∙ other))

  unprefixed : (c : ℕ) (cs : List ℕ) → recorded_in records (c ∷ cs) (0x307 ∷ []) ≡ None
  unprefixed c cs = at (recorded_in records (c ∷ cs) (0x307 ∷ [])) refl
    where
      at : (o : Option (List Element)) → recorded_in records (c ∷ cs) (0x307 ∷ []) ≡ o → o ≡ None
      at None is = refl
      at (Some es) is =
          let line = counted (c ∷ cs) (0x307 ∷ []) es is in
          let given = weights line.0 (c ∷ cs) (0x307 ∷ []) es in
          let further = (or_parts (is_further records 0x307 given) (is_other_mark records 0x307 given) (kept line.0 (c ∷ cs) (0x307 ∷ []) es line.1)).0 in
          absurd (true≢false (ap (λ (b : Bool). not b) (sym line.2) ∙ further))

  pub dot_light : IsDotLight (weights_of records)
  dot_light =
      let is_recorded = is_some (recorded_in records [] (0x307 ∷ [])) in
      let parts = or_parts (not is_recorded) (list_any (λ line. is_further records 0x307 line || is_other_mark records 0x307 line) records) dot_is_good in
      let recorded = some_of (recorded_in records [] (0x307 ∷ [])) (not-false is_recorded parts.0) in
      record { elements = recorded.0; is = recorded.1; light = light recorded.0 recorded.1; unprefixed = unprefixed }

pub dots_light : (records : List Record) → AreAccepted records → AreDotsLight (weights_of records)
dots_light records accepted h = dot_light records accepted (and_parts (set_to dot_above_in false records) (is_digit (weights_of records) 0x303) h).0
