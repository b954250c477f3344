-- What a sink holds while a text is written to it.
use Rattle.std.proofs.Common.{◌≡◌, ℕ, List, [], ◌∷◌, ◌++◌, sym, ap, ◌∙◌, append_assoc, append-nil}
use Rattle.std.specs.Prelude.{Result, Ok, Err}
use Rattle.icu_normalizer.specs.declared.sinks.NormError.{NormError}
use Rattle.icu_normalizer.specs.declared.sinks.NormError.TheVariants.{Sink, Memory}
use Rattle.icu_normalizer.specs.Texts.{IsEncoding}
use Rattle.icu_normalizer.specs.Sinks.{AddsPrefix, HasTaken, nothing, more, EndsByFailure}

pub seen_more : (all seen left : List ℕ) (c : ℕ) (rest : List ℕ) → all ≡ seen ++ left → left ≡ c ∷ rest → all ≡ (seen ++ c ∷ []) ++ rest
seen_more all seen left c rest e f = e ∙ ap (λ l. seen ++ l) f ∙ sym (append_assoc seen (c ∷ []) rest)

module _ (encode : List ℕ → List ℕ) (is : IsEncoding encode) where
  pub sink_more : (old mid new seen : List ℕ) (c : ℕ) → mid ≡ old ++ encode seen → new ≡ mid ++ encode (c ∷ []) → new ≡ old ++ encode (seen ++ c ∷ [])
  sink_more old mid new seen c before after =
      after ∙ ap (λ l. l ++ encode (c ∷ [])) before ∙ append_assoc old (encode seen) (encode (c ∷ []))
      ∙ ap (λ l. old ++ l) (sym (is.append seen (c ∷ [])))

  pub sink_all : (old new all seen left : List ℕ) → all ≡ seen ++ left → left ≡ [] → new ≡ old ++ encode seen → new ≡ old ++ encode all
  sink_all old new all seen left e none now =
      now ∙ ap (λ l. old ++ encode l) (sym (e ∙ ap (λ l. seen ++ l) none ∙ append-nil seen))

  -- no more came
  pub sink_cut : (old new all seen left : List ℕ) → all ≡ seen ++ left → new ≡ old ++ encode seen → AddsPrefix old (encode all) new
  sink_cut old new all seen left e now = (encode seen, encode left, ap encode e ∙ is.append seen left, now)

  -- the sink took no more than a part of a character
  pub sink_part : (old mid new all seen left : List ℕ) (c : ℕ) (rest : List ℕ) → all ≡ seen ++ left → left ≡ c ∷ rest → mid ≡ old ++ encode seen → AddsPrefix mid (encode (c ∷ [])) new → AddsPrefix old (encode all) new
  sink_part old mid new all seen left c rest e f before h = (
    encode seen ++ h.0,
    h.1 ++ encode rest,
    ap encode (e ∙ ap (λ l. seen ++ l) f) ∙ is.append seen (c ∷ rest)
        ∙ ap (λ l. encode seen ++ l) (is.append (c ∷ []) rest ∙ ap (λ l. l ++ encode rest) h.2 ∙ append_assoc h.0 h.1 (encode rest))
        ∙ sym (append_assoc (encode seen) h.0 (h.1 ++ encode rest)),
    h.3 ∙ ap (λ l. l ++ h.0) before ∙ append_assoc old (encode seen) h.0,
  )

-- ---- a text in two parts

-- the first was not
pub joined_front : (old new front back all : List ℕ) → front ++ back ≡ all → AddsPrefix old front new → AddsPrefix old all new
joined_front old new front back all e h =
    (h.0, h.1 ++ back, sym e ∙ ap (λ l. l ++ back) h.2 ∙ append_assoc h.0 h.1 back, h.3)

-- the second was not
pub joined_back : (old mid new front back all : List ℕ) → front ++ back ≡ all → mid ≡ old ++ front → AddsPrefix mid back new → AddsPrefix old all new
joined_back old mid new front back all e first h = (
  front ++ h.0,
  h.1,
  sym e ∙ ap (λ l. front ++ l) h.2 ∙ sym (append_assoc front h.0 h.1),
  h.3 ∙ ap (λ l. l ++ h.0) first ∙ append_assoc old front h.0,
)

-- into an empty sink
pub filled_new : (old new whole all : List ℕ) → whole ≡ all → old ≡ [] → new ≡ old ++ whole → new ≡ all
filled_new old new whole all e empty written = written ∙ ap (λ l. l ++ whole) empty ∙ e

-- ---- writes after others

pub taken_both : {S : Type 0} {takes : S → S → Type 0} (old middle new : S) → HasTaken takes old middle → HasTaken takes middle new → HasTaken takes old new
taken_both old middle new before (nothing _) = before
taken_both old middle new before (more _ later _ after last) = more old later new (taken_both old middle later before after) last

pub ends_after : {S E A : Type 0} (takes : S → S → Type 0) (fails : S → E → S → Type 0) (old middle : S) (result : Result A (NormError E)) (new : S)
    → HasTaken takes old middle → EndsByFailure takes fails middle result new → EndsByFailure takes fails old result new
ends_after takes fails old middle (Ok _) new before h = taken_both old middle new before h
ends_after takes fails old middle (Err Memory) new before h = taken_both old middle new before h
ends_after takes fails old middle (Err (Sink error)) new before h = (h.0, taken_both old middle h.0 before h.1, h.2)
