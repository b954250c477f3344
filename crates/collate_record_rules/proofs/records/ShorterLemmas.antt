-- A text that ends in a mark, by what stands before it.
use Rattle.std.proofs.Common.{◌≡◌, ℕ, ◌+◌, ◌-◌, Bool, true, false, not, ◌&&◌, ◌||◌, List, [], ◌∷◌, ◌++◌, length, take, refl, sym, ◌∙◌, ap, arith}
use Rattle.std.specs.Prelude.{leb, reverse}
use Rattle.std.proofs.lemmas.Bool.{lt-leb, lt-ltb}
use Rattle.std.proofs.lemmas.List.{length-append, reverse-append, take-append-le, take_all}
use Rattle.icu_collator_types.specs.declared.elements.Element.{Element}
use Rattle.icu_collator_core.specs.ContextRules.{begins_with_mark, is_recorded_in}
use Rattle.collate_lines.specs.Record.{Record, Layer, weights}
use Rattle.collate_rules.specs.Meaning.{canonical_of, weights_of}
use Rattle.collate_rules.specs.NotedLines.{lacks_record}
use Rattle.collate_rules.specs.RecordRules.{is_mark, lacks_shorter}

neither : (m r : Bool) → (m && not r) ≡ not (not m || r)
neither true r = refl
neither false r = refl

module _ (records : List Record) (c d : ℕ) (ds : List ℕ) (last : ℕ) where
  -- what stands after the first character
  abbrev suffix : List ℕ
  suffix = (d ∷ ds) ++ last ∷ []

  count : length suffix ≡ length (d ∷ ds) + 1
  count = length-append (d ∷ ds) (last ∷ [])

  long : leb (length suffix) 1 ≡ false
  long = let n = count in lt-leb (length suffix) 1 (omega (arith, n))

  front : take (length suffix - 1) suffix ≡ d ∷ ds
  front =
      let n : length suffix - 1 ≡ length (d ∷ ds) = omega (arith, count) in
      ap (λ (k : ℕ). take k suffix) n ∙ take-append-le (length (d ∷ ds)) (d ∷ ds) (last ∷ []) (omega arith) ∙ take_all (length (d ∷ ds)) (d ∷ ds) (omega arith)

  ends : begins_with_mark (canonical_of records) (reverse suffix) ≡ is_mark records last
  ends = ap (begins_with_mark (canonical_of records)) (reverse-append (d ∷ ds) (last ∷ []))

  abbrev is_recorded : List ℕ → Bool
  is_recorded text = is_recorded_in (weights_of records) [] text

  pub lacks_three : (layer : Layer) (prefix : List ℕ) (es : List Element)
      → lacks_record records (c ∷ d ∷ ds) last ≡ lacks_shorter records (weights layer prefix (c ∷ suffix) es)
  lacks_three layer prefix es =
      let mark = is_mark records last in
      let ending = begins_with_mark (canonical_of records) (reverse suffix) in
      let taken = is_recorded (c ∷ take (length suffix - 1) suffix) in
      ap (λ (b : Bool). b && (mark && not (is_recorded (c ∷ d ∷ ds)))) (lt-ltb 1 (length (c ∷ d ∷ ds)) (omega arith))
      ∙ neither mark (is_recorded (c ∷ d ∷ ds))
      ∙ sym (ap (λ (b : Bool). not (b || (not ending || taken))) long
      ∙ ap (λ (b : Bool). not (not b || taken)) ends
      ∙ ap (λ (f : List ℕ). not (not mark || is_recorded (c ∷ f))) front)

pub lacks_by_parts : (records : List Record) (layer : Layer) (prefix text : List ℕ) (es : List Element) (shorter : List ℕ) (last : ℕ) → text ≡ shorter ++ last ∷ []
    → lacks_record records shorter last ≡ lacks_shorter records (weights layer prefix text es)
lacks_by_parts records layer prefix text es shorter last is =
    by shorter ∙ ap (λ (t : List ℕ). lacks_shorter records (weights layer prefix t es)) (sym is)
  where
    by : (front : List ℕ) → lacks_record records front last ≡ lacks_shorter records (weights layer prefix (front ++ last ∷ []) es)
    by [] = refl
    by (c ∷ []) = refl
    by (c ∷ d ∷ ds) = lacks_three records c d ds last layer prefix es
