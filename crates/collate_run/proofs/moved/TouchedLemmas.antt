-- Names that a reload touches, where the records before it stand in another order.
use Rattle.std.proofs.Common.{ℕ, List, [], ◌∷◌, inl, inr, sym, subst, ◌∙◌}
use Rattle.std.specs.List.{Contains}
use Rattle.icu_normalizer_core.specs.Canonical.{Reaches}
use Rattle.icu_normalizer_core.specs.Decoding.{utf8_chars}
use Rattle.collate_lines.specs.Record.{Record}
use Rattle.collate_rules.specs.Meaning.{step_of}
use Rattle.collate_records.specs.Changes.{AreSettingsEqual, IsUnchanged}
use Rattle.collate_records.proofs.mappings.MappingDecomposingLemmas.{reaches_wider}
use Rattle.collate_laws.specs.Unchanged.{ReachesUnchanged}
use Rattle.collate_index.specs.Reloads.{AreTouched, IsTouched}

-- what two files say alike and one of them and a third, the other and the third do
along : (a b new : List Record) (c : ℕ) → IsUnchanged a b c → IsUnchanged a new c → IsUnchanged b new c
along a b new c same is = record {
  class = sym same.class ∙ is.class;
  mapping = sym same.mapping ∙ is.mapping;
  weights = record {
    range = sym same.weights.range ∙ is.weights.range;
    digit = sym same.weights.digit ∙ is.weights.digit;
    recorded = λ prefix rest. sym (same.weights.recorded prefix rest) ∙ is.weights.recorded prefix rest;
  };
}

back : (a b new : List Record) (c : ℕ) → IsUnchanged a b c → IsUnchanged b new c → IsUnchanged a new c
back a b new c same is = record {
  class = same.class ∙ is.class;
  mapping = same.mapping ∙ is.mapping;
  weights = record {
    range = same.weights.range ∙ is.weights.range;
    digit = same.weights.digit ∙ is.weights.digit;
    recorded = λ prefix rest. same.weights.recorded prefix rest ∙ is.weights.recorded prefix rest;
  };
}

pub settings_back : (a b new : List Record) → AreSettingsEqual a b → AreSettingsEqual b new → AreSettingsEqual a new
settings_back a b new same is = record {
  values = record {
    options = same.values.options ∙ is.values.options;
    backward = same.values.backward ∙ is.values.backward;
    dot_above = same.values.dot_above ∙ is.values.dot_above;
    numeric = same.values.numeric ∙ is.values.numeric;
    groups = same.values.groups ∙ is.values.groups;
  };
  compressible = λ lead. same.compressible lead ∙ is.compressible lead;
  reordered = λ lead. same.reordered lead ∙ is.reordered lead;
}

pub settings_along : (a b new : List Record) → AreSettingsEqual a b → AreSettingsEqual a new → AreSettingsEqual b new
settings_along a b new same is = record {
  values = record {
    options = sym same.values.options ∙ is.values.options;
    backward = sym same.values.backward ∙ is.values.backward;
    dot_above = sym same.values.dot_above ∙ is.values.dot_above;
    numeric = sym same.values.numeric ∙ is.values.numeric;
    groups = sym same.values.groups ∙ is.values.groups;
  };
  compressible = λ lead. sym (same.compressible lead) ∙ is.compressible lead;
  reordered = λ lead. sym (same.reordered lead) ∙ is.reordered lead;
}

module _ (a b new : List Record) (same : (c : ℕ) → IsUnchanged a b c) where
  reaches_along : (text : List ℕ) (c : ℕ) → Reaches (step_of a) text c → Reaches (step_of b) text c
  reaches_along text c reaches =
      reaches_wider (step_of a) (step_of b) (λ d e has. subst (λ (ds : List ℕ). Contains ds e) (same d).mapping has) text c reaches

  reaches_back : (text : List ℕ) (c : ℕ) → Reaches (step_of b) text c → Reaches (step_of a) text c
  reaches_back text c reaches =
      reaches_wider (step_of b) (step_of a) (λ d e has. subst (λ (ds : List ℕ). Contains ds e) (sym (same d).mapping) has) text c reaches

  touched_along : (name : List ℕ) → IsTouched a new name → IsTouched b new name
  touched_along name touched =
      (touched.0, reaches_along (utf8_chars name) touched.0 touched.1, λ unchanged. touched.2 (back a b new touched.0 (same touched.0) unchanged))

  untouched_along : (name : List ℕ) → ReachesUnchanged a new (utf8_chars name) → ReachesUnchanged b new (utf8_chars name)
  untouched_along name unchanged c reaches = along a b new c (same c) (unchanged c (reaches_back (utf8_chars name) c reaches))

  pub names_touched_along : (names : List (List ℕ)) (count : ℕ) → AreTouched a new names count → AreTouched b new names count
  names_touched_along [] count is = is
  names_touched_along (name ∷ names) count (inl (touched, others, more, rest)) =
      inl (touched_along name touched, others, more, names_touched_along names others rest)
  names_touched_along (name ∷ names) count (inr (untouched, rest)) = inr (untouched_along name untouched, names_touched_along names count rest)
