-- What accepted lines record of a jamo is one element that fits one word.
use Rattle.std.proofs.Common.{◌≡◌, ℕ, ◌⊎◌, inl, inr, true, false, List, [], ◌∷◌, Option, Some, None, refl, ap, sym, ◌∙◌, subst}
use Rattle.std.specs.Prelude.{◌||◌, not, IsTrue, IfSome}
use Rattle.std.specs.Option.{is_some}
use Rattle.std.proofs.lemmas.Bool.{and_from, cases_Bool, false≢true, or_from, or_left}
use Rattle.icu_normalizer_core.specs.BuiltIn.{is_jamo}
use Rattle.icu_collator_types.specs.declared.elements.Element.{Element}
use Rattle.collate_lines.specs.declared.rule.Rule.{Rule}
use Rattle.collate_lines.specs.declared.rule.Rule.TheVariants.{V12}
use Rattle.collate_lines.specs.Record.{Layer, Record, root, tailoring, weights}
use Rattle.collate_lines.specs.Repeats.{record_at}
use Rattle.collate_rules.specs.Accepted.{AreAccepted}
use Rattle.collate_rules.specs.Meaning.{elements_in, first_found, recorded_in}
use Rattle.collate_rules.specs.Offenders.{NoneOffends}
use Rattle.collate_rules.specs.RecordRules.{fits_word, is_bad_jamo_record, is_one_word, is_replaced}
use Rattle.collate_rules.proofs.lookups.FoundLemmas.{found_at}
use Rattle.collate_rules.proofs.records.RecordedLemmas.{first_found-is_some}
use Rattle.collate_words.specs.Fits.{AreFit}
use Rattle.collate_compile.proofs.gathering.AcceptedLineLemmas.{accepted_can_write}
use Rattle.collate_compile.proofs.gathering.GatheringEntryLemmas.{recorded_fit}
use Rattle.collate_compile.proofs.laws.CompiledLineLemmas.{elements_line}

module _ (records : List Record) (c : ℕ) (jamo : is_jamo c ≡ true) where
  -- a line that records a jamo alone, and that isn't replaced
  lone_one : (layer : Layer) (es : List Element) → is_replaced records layer [] (c ∷ []) ≡ false
      → (IsTrue (is_bad_jamo_record records (weights layer [] (c ∷ []) es)) → ⊥) → is_one_word es ≡ true
  lone_one layer es unreplaced good = by_answer (cases_Bool (is_one_word es))
    where
      by_answer : (is_one_word es ≡ true) ⊎ (is_one_word es ≡ false) → is_one_word es ≡ true
      by_answer (inl one) = one
      by_answer (inr other) =
          absurd (good (and_from (is_jamo c || false) _ (or_left (is_jamo c) false jamo) (ap not (or_from (is_replaced records layer [] (c ∷ [])) (is_one_word es) unreplaced other))))

  found_one : (layer : Layer) (es : List Element) → NoneOffends V12 records → first_found (elements_in layer [] (c ∷ [])) records ≡ Some es
      → is_replaced records layer [] (c ∷ []) ≡ false → is_one_word es ≡ true
  found_one layer es keep found unreplaced =
      let at = found_at (elements_in layer [] (c ∷ [])) records es found
      in let same = elements_line layer [] (c ∷ []) (record_at records at.0) es at.2
      in lone_one layer es unreplaced (subst (λ (line : Record). IsTrue (is_bad_jamo_record records line) → ⊥) same (keep at.0 at.1))

  pub jamo_one : AreAccepted records → (es : List Element) → recorded_in records [] (c ∷ []) ≡ Some es → is_one_word es ≡ true
  jamo_one accepted es h = by_tailoring (first_found (elements_in tailoring [] (c ∷ [])) records) refl h
    where
      keep : NoneOffends V12 records
      keep = let all : (rule : Rule) → NoneOffends rule records = accepted.keep_rules in all V12

      by_tailoring : (o : Option (List Element)) → first_found (elements_in tailoring [] (c ∷ [])) records ≡ o
          → (elim o [ Some fs ↦ Some fs | None ↦ first_found (elements_in root [] (c ∷ [])) records ]) ≡ Some es → is_one_word es ≡ true
      by_tailoring (Some fs) is k = found_one tailoring es keep (is ∙ k) refl
      by_tailoring None is k =
          found_one root es keep k (sym (first_found-is_some (elements_in tailoring [] (c ∷ [])) records) ∙ ap is_some is)

-- ---- What is recorded of a jamo can be written in one word

pub record IsOneFit (es : List Element) : Type 0 where
  pub element : Element
  pub same : es ≡ element ∷ []
  pub short : fits_word element ≡ true

pub one_fit : (es : List Element) → is_one_word es ≡ true → IsOneFit es
one_fit [] h = absurd (false≢true h)
one_fit (e ∷ []) h = record { element = e; same = refl; short = h }
one_fit (e ∷ f ∷ es) h = absurd (false≢true h)

pub record_fits : (records : List Record) → AreAccepted records → (prefix text : List ℕ) (es : List Element)
    → recorded_in records prefix text ≡ Some es → AreFit es
record_fits records accepted prefix text es h =
    subst (λ (o : Option (List Element)). IfSome o AreFit) h (recorded_fit records prefix text (accepted_can_write records accepted))
